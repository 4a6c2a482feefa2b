-- How the first n nodes of a network under growth are laid: the shape of specs/Shape.antt for bases that have a next,
-- said by labels. A step adds one node, n, and changes at most one next and one
-- next alternative, from 0 to n: all that is said of the nodes before stays true.
use mathlib.Core.Path.{◌≡◌, refl, sym, ap, ◌∙◌, subst}
use mathlib.Core.Logic.{◌⊎◌, inl, inr}
use mathlib.Core.Bool.{Bool, true, false}
use Prim.Native.Nat.{ℕ, zero, suc, ◌<◌, ◌≤◌}
use native.Mathlib.Omega.{arith}
use Rattle.laws.proofs.Below.{below}
use Rattle.laws.proofs.Truth.{not_both}
use Rattle.net_node.specs.Table.{is_fake, fake_kind}
use Rattle.net_node.specs.declared.EstTime.{EstTime}
use Rattle.net_node.specs.declared.LinkEvent.{LinkEvent}
use Rattle.arcs_growth.proofs.Labels.{Role, nought, start, event, split, join, stop, fake_role, base_role, receives}
use Rattle.arcs_growth.proofs.Labels.{lands, itself, Labels, Extends}

-- a is the next alternative of i: a later node, a split's Fake, whose prev is i
pub record AltOf (L : Labels) (node : ℕ → EstTime) (n i a : ℕ) : Type 0 where
  pub rises : i < a
  pub inside : a < n
  pub base : base_role (L.role i) ≡ true
  pub fake : L.role a ≡ split
  pub back : (node a).idx_prev ≡ i

-- p is the node whose alternative the split's Fake i is
pub record SplitOf (L : Labels) (node : ℕ → EstTime) (i p : ℕ) : Type 0 where
  pub earlier : p < i
  pub alt : (node p).idx_next_alt ≡ i
  pub base : base_role (L.role p) ≡ true
  pub owner : L.owner i ≡ L.owner p

-- r is the next of base i
pub record NextOf (L : Labels) (node : ℕ → EstTime) (n i r : ℕ) : Type 0 where
  pub inside : r < n
  pub receiver : receives (L.role r) ≡ true
  pub back : (node r).idx_prev ≡ i

-- b is the prev of receiver i
pub record PrevOf (L : Labels) (node : ℕ → EstTime) (n i b : ℕ) : Type 0 where
  pub inside : b < n
  pub base : base_role (L.role b) ≡ true
  pub forth : (node b).idx_next ≡ i

-- an event leads to itself, and lies one deeper than the event or start before it
pub record EventOf (L : Labels) (node : ℕ → EstTime) (i : ℕ) : Type 0 where
  pub goal : L.goal i ≡ i
  pub depth : (b : ℕ) → (node i).idx_prev ≡ b → L.depth i ≡ suc (L.depth (L.owner b))

-- the join's Fake i leads where r does, an earlier node
pub record JoinOf (L : Labels) (i r : ℕ) : Type 0 where
  pub earlier : r < i
  pub lands : lands (L.role r) ≡ true
  pub goal : L.goal i ≡ L.goal r

-- an end Fake leads on to the one after it, up to the end
pub record StopOf (L : Labels) (node : ℕ → EstTime) (n i : ℕ) : Type 0 where
  pub goal : L.goal i ≡ 0
  pub next : (node i).idx_next ≡ suc i
  pub later : (k : ℕ) → i < k → k < n → L.role k ≡ stop

pub record Each (L : Labels) (node : ℕ → EstTime) (n i : ℕ) : Type 0 where
  pub kind : is_fake (node i) ≡ fake_role (L.role i)
  pub alt : (a : ℕ) → (node i).idx_next_alt ≡ a → 0 < a → AltOf L node n i a
  pub splits : (p : ℕ) → (node i).idx_prev ≡ p → L.role i ≡ split → SplitOf L node i p
  pub own : itself (L.role i) ≡ true → L.owner i ≡ i
  pub owned : base_role (L.role i) ≡ true → L.owner i ≤ i
  pub next : (r : ℕ) → (node i).idx_next ≡ r → 0 < r → base_role (L.role i) ≡ true → NextOf L node n i r
  pub prev : (b : ℕ) → (node i).idx_prev ≡ b → receives (L.role i) ≡ true → PrevOf L node n i b
  pub events : L.role i ≡ event → EventOf L node i
  pub joins : (r : ℕ) → (node i).idx_next ≡ r → L.role i ≡ join → JoinOf L i r
  pub stops : L.role i ≡ stop → StopOf L node n i
  pub prev_alt : (a : ℕ) → (node i).idx_prev_alt ≡ a → 0 < a → (a < n) × (receives (L.role a) ≡ true)

-- a node past the first two is an event or a Fake of some sort
abbrev pub later_role : Role → Bool
later_role nought = false
later_role start = false
later_role event = true
later_role split = true
later_role join = true
later_role stop = true

pub record Laid (L : Labels) (node : ℕ → EstTime) (n : ℕ) : Type 0 where
  pub two : 1 < n
  pub zeroth : L.role 0 ≡ nought
  pub first : L.role 1 ≡ start
  pub start_prev : (node 1).idx_prev ≡ 0
  pub later : (i : ℕ) → 1 < i → i < n → later_role (L.role i) ≡ true
  pub each : (i : ℕ) → i < n → Each L node n i

-- a receiver is neither node 0 nor the start, and no more is a split's Fake
pub past_first : {L : Labels} {node : ℕ → EstTime} {n : ℕ} → Laid L node n → (P : Role → Bool) → P nought ≡ false
    → P start ≡ false → (i : ℕ) → P (L.role i) ≡ true → 1 < i
past_first v P p q zero h = not_both h (ap P v.zeroth ∙ p)
past_first v P p q (suc zero) h = not_both h (ap P v.first ∙ q)
past_first v P p q (suc (suc i)) h = omega arith

-- ---- a step

-- what becomes of node i's next, or of its next alternative: it is the same, or has become n
pub record Step (L M : Labels) (node after : ℕ → EstTime) (n : ℕ) : Type 0 where
  pub labels : Extends L M n
  pub prev : (i : ℕ) → i < n → (after i).idx_prev ≡ (node i).idx_prev
  pub happens : (i : ℕ) → i < n → (after i).link_event ≡ (node i).link_event
  pub next : (i : ℕ) → i < n → ((after i).idx_next ≡ (node i).idx_next) ⊎
      (((node i).idx_next ≡ 0) × (((after i).idx_next ≡ n) × (((after n).idx_prev ≡ i) × (receives (M.role n) ≡ true))))
  pub alt : (i : ℕ) → i < n
      → ((after i).idx_next_alt ≡ (node i).idx_next_alt)
      ⊎ (((node i).idx_next_alt ≡ 0) × (((after i).idx_next_alt ≡ n)
      × (((after n).idx_prev ≡ i) × ((M.role n ≡ split) × (base_role (L.role i) ≡ true)))))
  pub prev_alt : (i : ℕ) → i < n → ((after i).idx_prev_alt ≡ (node i).idx_prev_alt)
      ⊎ (((after i).idx_prev_alt ≡ n) × (receives (M.role n) ≡ true))
  pub joins : (i : ℕ) → i < n → L.role i ≡ join → (after i).idx_next ≡ (node i).idx_next
  pub stops : (i : ℕ) → i < n → L.role i ≡ stop → ((after i).idx_next ≡ (node i).idx_next) × (M.role n ≡ stop)

module _ {L M : Labels} {node after : ℕ → EstTime} {n : ℕ} (v : Laid L node n) (s : Step L M node after n) where
  -- a value that stood before stands still, if it is not 0
  next_stays : (i r : ℕ) → i < n → 0 < r → (node i).idx_next ≡ r → (after i).idx_next ≡ r
  next_stays i r h p e = go (s.next i h)
    where
      go : ((after i).idx_next ≡ (node i).idx_next)
          ⊎ (((node i).idx_next ≡ 0) × (((after i).idx_next ≡ n)
          × (((after n).idx_prev ≡ i) × (receives (M.role n) ≡ true)))) → (after i).idx_next ≡ r
      go (inl q) = q ∙ e
      go (inr q) = let z = q.0 in absurd (omega arith)

  alt_stays : (i r : ℕ) → i < n → 0 < r → (node i).idx_next_alt ≡ r → (after i).idx_next_alt ≡ r
  alt_stays i r h p e = go (s.alt i h)
    where
      go : ((after i).idx_next_alt ≡ (node i).idx_next_alt)
          ⊎ (((node i).idx_next_alt ≡ 0) × (((after i).idx_next_alt ≡ n)
          × (((after n).idx_prev ≡ i) × ((M.role n ≡ split) × (base_role (L.role i) ≡ true)))))
          → (after i).idx_next_alt ≡ r
      go (inl q) = q ∙ e
      go (inr q) = let z = q.0 in absurd (omega arith)

  module _ (i : ℕ) (h : i < n) where
    role_is : M.role i ≡ L.role i
    role_is = s.labels.role i h

    old : Each L node n i
    old = v.each i h

    step_alt : (a : ℕ) → (after i).idx_next_alt ≡ a → 0 < a → AltOf M after (suc n) i a
    step_alt a e p = go (s.alt i h)
      where
        go : ((after i).idx_next_alt ≡ (node i).idx_next_alt)
            ⊎ (((node i).idx_next_alt ≡ 0) × (((after i).idx_next_alt ≡ n)
            × (((after n).idx_prev ≡ i) × ((M.role n ≡ split) × (base_role (L.role i) ≡ true)))))
            → AltOf M after (suc n) i a
        go (inl q) =
            let o = old.alt a (sym q ∙ e) p in
            record {
              rises = o.rises;
              inside = omega (arith, o.inside);
              base = ap base_role role_is ∙ o.base;
              fake = s.labels.role a o.inside ∙ o.fake;
              back = s.prev a o.inside ∙ o.back;
            }
        go (inr (z, (q, (b, (m, c))))) =
            let d : a ≡ n = sym e ∙ q in
            record {
              rises = omega arith;
              inside = omega arith;
              base = ap base_role role_is ∙ c;
              fake = ap M.role d ∙ m;
              back = ap (λ (k : ℕ). (after k).idx_prev) d ∙ b;
            }

    step_next : (r : ℕ) → (after i).idx_next ≡ r → 0 < r → base_role (M.role i) ≡ true → NextOf M after (suc n) i r
    step_next r e p b = go (s.next i h)
      where
        go : ((after i).idx_next ≡ (node i).idx_next)
            ⊎ (((node i).idx_next ≡ 0) × (((after i).idx_next ≡ n)
            × (((after n).idx_prev ≡ i) × (receives (M.role n) ≡ true)))) → NextOf M after (suc n) i r
        go (inl q) =
            let o = old.next r (sym q ∙ e) p (ap base_role (sym role_is) ∙ b) in
            record {
              inside = omega (arith, o.inside);
              receiver = ap receives (s.labels.role r o.inside) ∙ o.receiver;
              back = s.prev r o.inside ∙ o.back;
            }
        go (inr (z, (q, (c, m)))) =
            let d : r ≡ n = sym e ∙ q in
            record {
              inside = omega arith;
              receiver = ap (λ (k : ℕ). receives (M.role k)) d ∙ m;
              back = ap (λ (k : ℕ). (after k).idx_prev) d ∙ c;
            }

    step_prev : (b : ℕ) → (after i).idx_prev ≡ b → receives (M.role i) ≡ true → PrevOf M after (suc n) i b
    step_prev b e c =
        let d : receives (L.role i) ≡ true = ap receives (sym role_is) ∙ c in
        let o = old.prev b (sym (s.prev i h) ∙ e) d in
        let p = past_first v receives refl refl i d in
        record {
          inside = omega (arith, o.inside);
          base = ap base_role (s.labels.role b o.inside) ∙ o.base;
          forth = next_stays b i o.inside (omega arith) o.forth;
        }

    step_splits : (p : ℕ) → (after i).idx_prev ≡ p → M.role i ≡ split → SplitOf M after i p
    step_splits p e m =
        let o = old.splits p (sym (s.prev i h) ∙ e) (sym role_is ∙ m) in
        let l : p < n = omega (arith, o.earlier) in
        record {
          earlier = o.earlier;
          alt = alt_stays p i l (omega (arith, o.earlier)) o.alt;
          base = ap base_role (s.labels.role p l) ∙ o.base;
          owner = s.labels.owner i h ∙ o.owner ∙ sym (s.labels.owner p l);
        }

    step_events : M.role i ≡ event → EventOf M after i
    step_events m =
        let o = old.events (sym role_is ∙ m) in
        record { goal = s.labels.goal i h ∙ o.goal; depth = λ b e. deep b e o }
      where
        deep : (b : ℕ) → (after i).idx_prev ≡ b → EventOf L node i → M.depth i ≡ suc (M.depth (M.owner b))
        deep b e o =
            let q : PrevOf L node n i b = old.prev b (sym (s.prev i h) ∙ e) (ap receives (sym role_is ∙ m)) in
            let w : L.owner b < n = omega (arith, (v.each b q.inside).owned q.base, q.inside) in
            s.labels.depth i h ∙ o.depth b (sym (s.prev i h) ∙ e)
            ∙ ap suc (sym (s.labels.depth (L.owner b) w) ∙ ap M.depth (sym (s.labels.owner b q.inside)))

    step_joins : (r : ℕ) → (after i).idx_next ≡ r → M.role i ≡ join → JoinOf M i r
    step_joins r e m =
        let j = sym role_is ∙ m in
        let o = old.joins r (sym (s.joins i h j) ∙ e) j in
        let l : r < n = omega (arith, o.earlier) in
        record {
          earlier = o.earlier;
          lands = ap lands (s.labels.role r l) ∙ o.lands;
          goal = s.labels.goal i h ∙ o.goal ∙ sym (s.labels.goal r l);
        }

    step_stops : M.role i ≡ stop → StopOf M after (suc n) i
    step_stops m =
        let j = sym role_is ∙ m in
        let o = old.stops j in
        record {
          goal = s.labels.goal i h ∙ o.goal;
          next = (s.stops i h j).0 ∙ o.next;
          later = λ k a b. after-it o j k a (below k n b);
        }
      where
        after-it : StopOf L node n i → L.role i ≡ stop → (k : ℕ) → i < k → (k < n) ⊎ (k ≡ n) → M.role k ≡ stop
        after-it o j k a (inl l) = s.labels.role k l ∙ o.later k a l
        after-it o j k a (inr e) = ap M.role e ∙ (s.stops i h j).1

    step_prev_alt : (a : ℕ) → (after i).idx_prev_alt ≡ a → 0 < a → (a < suc n) × (receives (M.role a) ≡ true)
    step_prev_alt a e p = go (s.prev_alt i h)
      where
        go : ((after i).idx_prev_alt ≡ (node i).idx_prev_alt)
            ⊎ (((after i).idx_prev_alt ≡ n) × (receives (M.role n) ≡ true)) → (a < suc n) × (receives (M.role a) ≡ true)
        go (inl q) = let o = old.prev_alt a (sym q ∙ e) p in
            (omega (arith, o.0), ap receives (s.labels.role a o.0) ∙ o.1)
        go (inr q) = let d : a ≡ n = sym e ∙ q.0 in (omega arith, ap (λ (k : ℕ). receives (M.role k)) d ∙ q.1)

    step_each : Each M after (suc n) i
    step_each = record {
      kind = ap (λ (x : LinkEvent). fake_kind x.est_type) (s.happens i h) ∙ old.kind ∙ ap fake_role (sym role_is);
      alt = step_alt;
      splits = step_splits;
      own = λ m. s.labels.owner i h ∙ old.own (ap itself (sym role_is) ∙ m);
      owned = λ m. subst (λ (k : ℕ). k ≤ i) (sym (s.labels.owner i h)) (old.owned (ap base_role (sym role_is) ∙ m));
      next = step_next;
      prev = step_prev;
      events = step_events;
      joins = step_joins;
      stops = step_stops;
      prev_alt = step_prev_alt;
    }

  -- the nodes before and the new one
  pub step_laid : later_role (M.role n) ≡ true → Each M after (suc n) n → Laid M after (suc n)
  step_laid r new = record {
    two = omega (arith, v.two);
    zeroth = s.labels.role 0 (omega (arith, v.two)) ∙ v.zeroth;
    first = s.labels.role 1 v.two ∙ v.first;
    start_prev = s.prev 1 v.two ∙ v.start_prev;
    later = λ i p h. go i p (below i n h);
    each = λ i h. all i (below i n h);
  }
    where
      go : (i : ℕ) → 1 < i → (i < n) ⊎ (i ≡ n) → later_role (M.role i) ≡ true
      go i p (inl l) = ap later_role (s.labels.role i l) ∙ v.later i p l
      go i p (inr e) = ap (λ (k : ℕ). later_role (M.role k)) e ∙ r

      all : (i : ℕ) → (i < n) ⊎ (i ≡ n) → Each M after (suc n) i
      all i (inl l) = step_each i l
      all i (inr e) = subst (Each M after (suc n)) (sym e) new
