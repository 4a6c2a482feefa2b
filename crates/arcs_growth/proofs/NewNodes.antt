-- A new node of each role: an event, a join's Fake or an end Fake behind an open base, and a split's Fake as a base's
-- alternative. The network stays laid.
use mathlib.Core.Path.{◌≡◌, refl, sym, ap, ◌∙◌, subst}
use mathlib.Core.Logic.{◌⊎◌, inl, inr}
use mathlib.Core.Bool.{Bool, true, false}
use Prim.Native.Nat.{ℕ, suc, ◌<◌, ◌≤◌}
use native.Mathlib.Omega.{arith}
use Rattle.laws.proofs.Truth.{not_both, equal_or_not}
use Rattle.net_node.specs.Table.{is_fake}
use Rattle.net_node.specs.declared.EstTime.{EstTime}
use Rattle.arcs_growth.proofs.Labels.{Role, nought, start, event, split, join, stop, fake_role, base_role, receives}
use Rattle.arcs_growth.proofs.Labels.{lands, itself, Labels, Extends, labelled, labelled_old, new_role, new_owner}
use Rattle.arcs_growth.proofs.Labels.{new_goal, new_depth}
use Rattle.arcs_growth.proofs.Laid.{SplitOf, PrevOf, JoinOf, Laid, Step, later_role, step_laid}

abbrev is_split : Role → Bool
is_split nought = false
is_split start = false
is_split event = false
is_split split = true
is_split join = false
is_split stop = false

abbrev is_stop : Role → Bool
is_stop nought = false
is_stop start = false
is_stop event = false
is_stop split = false
is_stop join = false
is_stop stop = true

-- two roles that a property tells apart
pub apart : {X : Type 0} (P : Role → Bool) {m r s : Role} → m ≡ r → m ≡ s → P r ≡ true → P s ≡ false → X
apart P e f p q = not_both (ap P e ∙ p) (ap P f ∙ q)

-- the first n nodes keep their events and speeds
pub record EventsKept (n : ℕ) (node after : ℕ → EstTime) : Type 0 where
  pub event : (i : ℕ) → i < n → (after i).link_event ≡ (node i).link_event
  pub speed : (i : ℕ) → i < n → (after i).speed ≡ (node i).speed

-- node n is new, behind base b
pub record Attached (node after : ℕ → EstTime) (n b : ℕ) : Type 0 where
  pub within : b < n
  pub here : (after b).idx_next ≡ n
  pub other : (i : ℕ) → i < n → (i ≡ b → ⊥) → (after i).idx_next ≡ (node i).idx_next
  pub alt : (i : ℕ) → i < n → (after i).idx_next_alt ≡ (node i).idx_next_alt
  pub prev : (i : ℕ) → i < n → (after i).idx_prev ≡ (node i).idx_prev
  pub kept : EventsKept n node after
  pub prev_alt : (i : ℕ) → i < n → ((after i).idx_prev_alt ≡ (node i).idx_prev_alt) ⊎ ((after i).idx_prev_alt ≡ n)
  pub new_alt : (after n).idx_next_alt ≡ 0
  pub new_prev : (after n).idx_prev ≡ b

-- node n is new, the alternative of p
pub record Alternated (node after : ℕ → EstTime) (n p : ℕ) : Type 0 where
  pub within : p < n
  pub next : (i : ℕ) → i < n → (after i).idx_next ≡ (node i).idx_next
  pub here : (after p).idx_next_alt ≡ n
  pub other : (i : ℕ) → i < n → (i ≡ p → ⊥) → (after i).idx_next_alt ≡ (node i).idx_next_alt
  pub prev : (i : ℕ) → i < n → (after i).idx_prev ≡ (node i).idx_prev
  pub happens : (i : ℕ) → i < n → (after i).link_event ≡ (node i).link_event
  pub prev_alt : (i : ℕ) → i < n → (after i).idx_prev_alt ≡ (node i).idx_prev_alt
  pub new_next : (after n).idx_next ≡ 0
  pub new_prev_alt : (after n).idx_prev_alt ≡ 0
  pub new_alt : (after n).idx_next_alt ≡ 0
  pub new_prev : (after n).idx_prev ≡ p

-- a new node's previous alternative is a receiver
abbrev pub NewPrevAlt : Labels → (ℕ → EstTime) → ℕ → Type 0
NewPrevAlt L after n = (a : ℕ) → (after n).idx_prev_alt ≡ a → 0 < a → (a < n) × (receives (L.role a) ≡ true)

-- end Fakes come last
abbrev pub NoStops : Labels → ℕ → Type 0
NoStops L n = (i : ℕ) → i < n → L.role i ≡ stop → ⊥

module _ {L : Labels} {node after : ℕ → EstTime} {n b : ℕ} (v : Laid L node n) (a : Attached node after n b)
    (base : base_role (L.role b) ≡ true) (empty : (node b).idx_next ≡ 0) where
  attached_step : (M : Labels) → Extends L M n → receives (M.role n) ≡ true
      → ((i : ℕ) → i < n → L.role i ≡ stop → M.role n ≡ stop) → Step L M node after n
  attached_step M x r s = record {
    labels = x;
    prev = a.prev;
    happens = a.kept.event;
    next = λ i h. next i h (equal_or_not i b);
    alt = λ i h. inl (a.alt i h);
    prev_alt = λ i h. prev_alt i h (a.prev_alt i h);
    joins = λ i h e. a.other i h (λ (q : i ≡ b). not_both base
        (ap (λ (k : ℕ). base_role (L.role k)) (sym q) ∙ ap base_role e));
    stops = λ i h e. (
      a.other i h (λ (q : i ≡ b). not_both base
          (ap (λ (k : ℕ). base_role (L.role k)) (sym q) ∙ ap base_role e)),
      s i h e,
    );
  }
    where
      next : (i : ℕ) → i < n → (i ≡ b) ⊎ (i ≡ b → ⊥)
          → ((after i).idx_next ≡ (node i).idx_next) ⊎ (((node i).idx_next ≡ 0)
          × (((after i).idx_next ≡ n) × (((after n).idx_prev ≡ i) × (receives (M.role n) ≡ true))))
      next i h (inl e) = inr (
        ap (λ (k : ℕ). (node k).idx_next) e ∙ empty,
        (ap (λ (k : ℕ). (after k).idx_next) e ∙ a.here, (a.new_prev ∙ sym e, r)),
      )
      next i h (inr d) = inl (a.other i h d)

      prev_alt : (i : ℕ) → i < n → ((after i).idx_prev_alt ≡ (node i).idx_prev_alt) ⊎ ((after i).idx_prev_alt ≡ n)
          → ((after i).idx_prev_alt ≡ (node i).idx_prev_alt)
          ⊎ (((after i).idx_prev_alt ≡ n) × (receives (M.role n) ≡ true))
      prev_alt i h (inl q) = inl q
      prev_alt i h (inr q) = inr (q, r)

  new_prev_alt_of : (M : Labels) → Extends L M n → NewPrevAlt L after n → (c : ℕ) → (after n).idx_prev_alt ≡ c → 0 < c
      → (c < suc n) × (receives (M.role c) ≡ true)
  new_prev_alt_of M x w c e p = let o = w c e p in (omega (arith, o.0), ap receives (x.role c o.0) ∙ o.1)

  -- what the new node's prev says
  new_prev_of : (M : Labels) → Extends L M n → (c : ℕ) → (after n).idx_prev ≡ c → PrevOf M after (suc n) n c
  new_prev_of M x c e =
      let d : c ≡ b = sym e ∙ a.new_prev in
      record {
        inside = omega (arith, a.within);
        base = ap (λ (k : ℕ). base_role (M.role k)) d ∙ ap base_role (x.role b a.within) ∙ base;
        forth = ap (λ (k : ℕ). (after k).idx_next) d ∙ a.here;
      }

  pub event_laid : NewPrevAlt L after n → NoStops L n → is_fake (after n) ≡ false → (after n).idx_next ≡ 0
      → Laid (labelled L n event n n (suc (L.depth (L.owner b)))) after (suc n)
  event_laid w s k z = step_laid v (attached_step M x (ap receives m) (λ i h e. absurd (s i h e))) (ap later_role m)
      (record {
        kind = k ∙ ap fake_role (sym m);
        alt = λ c e p. absurd (none c e p);
        splits = λ p e q. apart is_split q m refl refl;
        own = λ q. new_owner L n event n n (suc (L.depth (L.owner b)));
        owned = λ q. subst (λ (k : ℕ). k ≤ n) (sym (new_owner L n event n n (suc (L.depth (L.owner b))))) (omega arith);
        next = λ r e p q. absurd (closed r e p);
        prev = λ c e q. new_prev_of M x c e;
        events = λ q. record { goal = new_goal L n event n n (suc (L.depth (L.owner b))); depth = λ c e. deep c e };
        joins = λ r e q. apart base_role m q refl refl;
        stops = λ q. apart base_role m q refl refl;
        prev_alt = new_prev_alt_of M x w;
      })
    where
      M : Labels
      M = labelled L n event n n (suc (L.depth (L.owner b)))

      x : Extends L M n
      x = labelled_old L n event n n (suc (L.depth (L.owner b)))

      m : M.role n ≡ event
      m = new_role L n event n n (suc (L.depth (L.owner b)))

      none : (c : ℕ) → (after n).idx_next_alt ≡ c → 0 < c → ⊥
      none c e p = let d = a.new_alt in omega arith

      closed : (r : ℕ) → (after n).idx_next ≡ r → 0 < r → ⊥
      closed r e p = omega arith

      deep : (c : ℕ) → (after n).idx_prev ≡ c → M.depth n ≡ suc (M.depth (M.owner c))
      deep c e =
          let d : c ≡ b = sym e ∙ a.new_prev in
          let w : L.owner b < n = omega (arith, (v.each b a.within).owned base, a.within) in
          new_depth L n event n n (suc (L.depth (L.owner b)))
          ∙ ap suc (sym (x.depth (L.owner b) w) ∙ ap M.depth (sym (x.owner b a.within) ∙ ap M.owner (sym d)))

  pub join_laid : NewPrevAlt L after n → NoStops L n → (r : ℕ) → r < n → lands (L.role r) ≡ true
      → is_fake (after n) ≡ true → (after n).idx_next ≡ r → Laid (labelled L n join 0 (L.goal r) 0) after (suc n)
  join_laid w s r l t k z = step_laid v (attached_step M x (ap receives m) (λ i h e. absurd (s i h e)))
      (ap later_role m) (record {
        kind = k ∙ ap fake_role (sym m);
        alt = λ c e p. absurd (none c e p);
        splits = λ p e q. apart is_split q m refl refl;
        own = λ q. not_both q (ap itself m);
        owned = λ q. not_both q (ap base_role m);
        next = λ c e p q. not_both q (ap base_role m);
        prev = λ c e q. new_prev_of M x c e;
        events = λ q. apart base_role q m refl refl;
        joins = λ c e q. joins c e;
        stops = λ q. apart is_stop q m refl refl;
        prev_alt = new_prev_alt_of M x w;
      })
    where
      M : Labels
      M = labelled L n join 0 (L.goal r) 0

      x : Extends L M n
      x = labelled_old L n join 0 (L.goal r) 0

      m : M.role n ≡ join
      m = new_role L n join 0 (L.goal r) 0

      none : (c : ℕ) → (after n).idx_next_alt ≡ c → 0 < c → ⊥
      none c e p = let d = a.new_alt in omega arith

      joins : (c : ℕ) → (after n).idx_next ≡ c → JoinOf M n c
      joins c e =
          let d : c ≡ r = sym e ∙ z in
          record {
            earlier = omega arith;
            lands = ap (λ (k : ℕ). lands (M.role k)) d ∙ ap lands (x.role r l) ∙ t;
            goal = new_goal L n join 0 (L.goal r) 0 ∙ sym (x.goal r l) ∙ ap M.goal (sym d);
          }

  pub stop_laid : NewPrevAlt L after n → is_fake (after n) ≡ true → (after n).idx_next ≡ suc n
      → Laid (labelled L n stop 0 0 0) after (suc n)
  stop_laid w k z = step_laid v (attached_step M x (ap receives m) (λ i h e. m)) (ap later_role m) (record {
    kind = k ∙ ap fake_role (sym m);
    alt = λ c e p. absurd (none c e p);
    splits = λ p e q. apart is_split q m refl refl;
    own = λ q. not_both q (ap itself m);
    owned = λ q. not_both q (ap base_role m);
    next = λ c e p q. not_both q (ap base_role m);
    prev = λ c e q. new_prev_of M x c e;
    events = λ q. apart base_role q m refl refl;
    joins = λ c e q. apart lands q m refl refl;
    stops = λ q. record { goal = new_goal L n stop 0 0 0; next = z; later = λ i p h. absurd (omega arith) };
    prev_alt = new_prev_alt_of M x w;
  })
    where
      M : Labels
      M = labelled L n stop 0 0 0

      x : Extends L M n
      x = labelled_old L n stop 0 0 0

      m : M.role n ≡ stop
      m = new_role L n stop 0 0 0

      none : (c : ℕ) → (after n).idx_next_alt ≡ c → 0 < c → ⊥
      none c e p = let d = a.new_alt in omega arith

pub split_laid : {L : Labels} {node after : ℕ → EstTime} {n p : ℕ} → Laid L node n → Alternated node after n p
    → base_role (L.role p) ≡ true → (node p).idx_next_alt ≡ 0 → NoStops L n → is_fake (after n) ≡ true
    → Laid (labelled L n split (L.owner p) 0 0) after (suc n)
split_laid {L} {node} {after} {n} {p} v a base empty s k = step_laid v (record {
  labels = x;
  prev = a.prev;
  happens = a.happens;
  next = λ i h. inl (a.next i h);
  alt = λ i h. alt i h (equal_or_not i p);
  prev_alt = λ i h. inl (a.prev_alt i h);
  joins = λ i h e. a.next i h;
  stops = λ i h e. absurd (s i h e);
}) (ap later_role m) (record {
  kind = k ∙ ap fake_role (sym m);
  alt = λ c e q. absurd (none c e q);
  splits = λ c e q. splits c e;
  own = λ q. not_both q (ap itself m);
  owned = λ q. subst (λ (j : ℕ). j ≤ n) (sym o) (omega (arith, (v.each p a.within).owned base, a.within));
  next = λ r e q t. absurd (closed r e q);
  prev = λ c e q. not_both q (ap receives m);
  events = λ q. apart is_split m q refl refl;
  joins = λ r e q. apart is_split m q refl refl;
  stops = λ q. apart is_split m q refl refl;
  prev_alt = λ c e q. absurd (unpreceded c e q);
})
  where
    M : Labels
    M = labelled L n split (L.owner p) 0 0

    x : Extends L M n
    x = labelled_old L n split (L.owner p) 0 0

    m : M.role n ≡ split
    m = new_role L n split (L.owner p) 0 0

    o : M.owner n ≡ L.owner p
    o = new_owner L n split (L.owner p) 0 0

    alt : (i : ℕ) → i < n → (i ≡ p) ⊎ (i ≡ p → ⊥)
        → ((after i).idx_next_alt ≡ (node i).idx_next_alt)
        ⊎ (((node i).idx_next_alt ≡ 0) × (((after i).idx_next_alt ≡ n)
        × (((after n).idx_prev ≡ i) × ((M.role n ≡ split) × (base_role (L.role i) ≡ true)))))
    alt i h (inl e) =
        inr (
          ap (λ (j : ℕ). (node j).idx_next_alt) e ∙ empty,
          (
            ap (λ (j : ℕ). (after j).idx_next_alt) e ∙ a.here,
            (a.new_prev ∙ sym e, (m, ap (λ (j : ℕ). base_role (L.role j)) e ∙ base)),
          ),
        )
    alt i h (inr d) = inl (a.other i h d)

    none : (c : ℕ) → (after n).idx_next_alt ≡ c → 0 < c → ⊥
    none c e q = let d = a.new_alt in omega arith

    closed : (r : ℕ) → (after n).idx_next ≡ r → 0 < r → ⊥
    closed r e q = let d = a.new_next in omega arith

    unpreceded : (c : ℕ) → (after n).idx_prev_alt ≡ c → 0 < c → ⊥
    unpreceded c e q = let d = a.new_prev_alt in omega arith

    splits : (c : ℕ) → (after n).idx_prev ≡ c → SplitOf M after n c
    splits c e =
        let d : c ≡ p = sym e ∙ a.new_prev in
        record {
          earlier = omega (arith, a.within);
          alt = ap (λ (j : ℕ). (after j).idx_next_alt) d ∙ a.here;
          base = ap (λ (j : ℕ). base_role (M.role j)) d ∙ ap base_role (x.role p a.within) ∙ base;
          owner = o ∙ sym (x.owner p a.within) ∙ ap M.owner (sym d);
        }
