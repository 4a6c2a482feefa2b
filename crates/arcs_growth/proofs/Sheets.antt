-- The grown network as it is read: what the definitions compute is what the labels say, so it has the shape, and its
-- arcs are those of its bases.
use mathlib.Core.Path.{◌≡◌, refl, sym, ap, ◌∙◌, subst}
use mathlib.Core.Logic.{◌⊎◌, inl, inr}
use mathlib.Core.Bool.{Bool, true, false, not, ◌&&◌, ◌||◌, cond}
use mathlib.Core.List.{List}
use Prim.Native.Nat.{ℕ, zero, suc, ◌+◌, ◌-◌, ◌<◌, ◌≤◌}
use native.Mathlib.Omega.{arith}
use borrow.Author.Tests.{eqb-true, eqb-false, eq-eqb, ne_eqb, ltb-true, lt-ltb}
use lib.Dec.{eqb, ltb}
use Rattle.laws.proofs.Truth.{not_both, equal_or_not}
use Rattle.net_node.specs.Table.{is_fake}
use Rattle.laws.specs.Below.{some_below}
use Rattle.laws.proofs.Below.{some_at, or_right, below}
use Rattle.net_node.specs.declared.EstTime.{EstTime}
use Rattle.grow_rules.specs.Run.{Arc}
use Rattle.arcs_growth.specs.Arcs.{is_alternative, is_base, alternative_of, is_owned, source_of, goal_of, arc_of}
use Rattle.arcs_growth.specs.Shape.{is_receiver, Shape}
use Rattle.arcs_growth.proofs.Labels.{Role, nought, start, event, split, join, stop, fake_role, base_role, receives}
use Rattle.arcs_growth.proofs.Labels.{lands, itself, Labels}
use Rattle.arcs_growth.proofs.Laid.{AltOf, SplitOf, StopOf, later_role, past_first}
use Rattle.arcs_growth.proofs.NewNodes.{apart}
use Rattle.arcs_growth.proofs.Weights.{arc_there}
use Rattle.arcs_growth.proofs.Owners.{owned_by}
use Rattle.arcs_growth.proofs.Wholes.{Whole}

some_found : (n : ℕ) (p : ℕ → Bool) (X : Type 0) → some_below n p ≡ true → ((k : ℕ) → k < n → p k ≡ true → X) → X
unfolding some_below
some_found zero p X e f = not_both e refl
some_found (suc n) p X e f = go (some_below n p) refl (some_found n p X) (p n) refl e
  where
    go : (a : Bool) → some_below n p ≡ a → (some_below n p ≡ true → ((k : ℕ) → k < n → p k ≡ true → X) → X) → (c : Bool)
        → p n ≡ c → (a || c) ≡ true → X
    go true q ih c r s = ih q (λ k h. f k (omega arith))
    go false q ih true r s = f n (omega arith) r
    go false q ih false r s = not_both s refl

abbrev split_role : Role → Bool
split_role nought = false
split_role start = false
split_role event = false
split_role split = true
split_role join = false
split_role stop = false

is_split_lem : (r : Role) → split_role r ≡ true → r ≡ split
is_split_lem nought e = not_both e refl
is_split_lem start e = not_both e refl
is_split_lem event e = not_both e refl
is_split_lem split e = refl
is_split_lem join e = not_both e refl
is_split_lem stop e = not_both e refl

-- what a later node's role says
later_base : (r : Role) → later_role r ≡ true → (not (fake_role r) || split_role r) ≡ base_role r
later_base nought e = refl
later_base start e = not_both e refl
later_base event e = refl
later_base split e = refl
later_base join e = refl
later_base stop e = refl

later_receives : (r : Role) → later_role r ≡ true → not (split_role r) ≡ receives r
later_receives nought e = not_both e refl
later_receives start e = not_both e refl
later_receives event e = refl
later_receives split e = refl
later_receives join e = refl
later_receives stop e = refl

-- a receiver leads to an event, or is an end Fake
which_receiver : (r : Role) → receives r ≡ true → (lands r ≡ true) ⊎ (r ≡ stop)
which_receiver nought e = not_both e refl
which_receiver start e = not_both e refl
which_receiver event e = inl refl
which_receiver split e = not_both e refl
which_receiver join e = inl refl
which_receiver stop e = inr refl

which_lands : (r : Role) → lands r ≡ true → (r ≡ event) ⊎ (r ≡ join)
which_lands nought e = not_both e refl
which_lands start e = not_both e refl
which_lands event e = inl refl
which_lands split e = not_both e refl
which_lands join e = inr refl
which_lands stop e = not_both e refl

lands_receives : (r : Role) → lands r ≡ true → receives r ≡ true
lands_receives nought e = e
lands_receives start e = e
lands_receives event e = refl
lands_receives split e = e
lands_receives join e = refl
lands_receives stop e = refl

module _ {L : Labels} {node : ℕ → EstTime} {n : ℕ} {arcs : List Arc} {k : ℕ} (v : Whole L node n arcs k) where
  abbrev all : ℕ
  all = suc n

  last_is : all - 1 ≡ n
  last_is = omega arith

  -- ---- alternatives, bases, receivers

  alternative_suc : (i : ℕ) → is_alternative node all (suc i) ≡ some_below all
      (λ (j : ℕ). eqb (node j).idx_next_alt (suc i))
  unfolding is_alternative
  alternative_suc i = ap (λ (c : Bool). not c && some_below all (λ (j : ℕ). eqb (node j).idx_next_alt (suc i)))
      (ne_eqb (suc i) 0 (λ (q : suc i ≡ 0). omega arith))

  alternative_split : (i : ℕ) → is_alternative node all i ≡ true → (i < n) × (L.role i ≡ split)
  unfolding is_alternative
  alternative_split zero e = not_both e refl
  alternative_split (suc i) e = some_found all (λ j. eqb (node j).idx_next_alt (suc i))
      ((suc i < n) × (L.role (suc i) ≡ split)) (sym (alternative_suc i) ∙ e)
      (λ j h q. go j (below j n h) (eqb-true (node j).idx_next_alt (suc i) q))
    where
      go : (j : ℕ) → (j < n) ⊎ (j ≡ n) → (node j).idx_next_alt ≡ suc i → (suc i < n) × (L.role (suc i) ≡ split)
      go j (inl h) q = let a = (v.laid.each j h).alt (suc i) q (omega arith) in (a.inside, a.fake)
      go j (inr h) q = let z : suc i ≡ 0 = sym q ∙ ap (λ (m : ℕ). (node m).idx_next_alt) h ∙ v.last_alt in
          absurd (omega arith)

  split_alternative : (i : ℕ) → i < n → L.role i ≡ split → is_alternative node all i ≡ true
  unfolding is_alternative
  split_alternative zero h m = apart split_role m v.laid.zeroth refl refl
  split_alternative (suc i) h m =
      let s = (v.laid.each (suc i) h).splits (node (suc i)).idx_prev refl m in
      alternative_suc i ∙ some_at all (λ j. eqb (node j).idx_next_alt (suc i)) (node (suc i)).idx_prev
      (omega (arith, s.earlier)) (eq-eqb (node (node (suc i)).idx_prev).idx_next_alt (suc i) s.alt)

  alternative_is : (i : ℕ) → i < n → is_alternative node all i ≡ split_role (L.role i)
  alternative_is i h = go (split_role (L.role i)) (is_alternative node all i) refl refl
    where
      go : (a c : Bool) → split_role (L.role i) ≡ a → is_alternative node all i ≡ c → c ≡ a
      go true true e f = refl
      go true false e f = not_both (split_alternative i h (is_split_lem (L.role i) e)) f
      go false true e f = not_both (ap split_role (alternative_split i f).1) e
      go false false e f = refl

  last_no_alternative : is_alternative node all n ≡ false
  last_no_alternative = go (is_alternative node all n) refl
    where
      go : (c : Bool) → is_alternative node all n ≡ c → c ≡ false
      go true f = let w = (alternative_split n f).0 in absurd (omega arith)
      go false f = refl

  pub base_is : (i : ℕ) → i < n → is_base node all i ≡ base_role (L.role i)
  unfolding is_base is_alternative
  base_is zero h = ap (λ (c : Bool). not c || false) ((v.laid.each 0 h).kind ∙ ap fake_role v.laid.zeroth)
      ∙ ap base_role (sym v.laid.zeroth)
  base_is (suc zero) h = ap base_role (sym v.laid.first)
  base_is (suc (suc i)) h =
      ap (λ (c : Bool). (c || not (is_fake (node (suc (suc i))))) || is_alternative node all (suc (suc i)))
      (ne_eqb (suc (suc i)) 1 (λ (q : suc (suc i) ≡ 1). omega arith))
      ∙ ap (λ (c : Bool). (false || not c) || is_alternative node all (suc (suc i))) (v.laid.each (suc (suc i)) h).kind
      ∙ ap (λ (c : Bool). not (fake_role (L.role (suc (suc i)))) || c) (alternative_is (suc (suc i)) h)
      ∙ later_base (L.role (suc (suc i))) (v.laid.later (suc (suc i)) (omega arith) h)

  pub last_no_base : is_base node all n ≡ false
  unfolding is_base
  last_no_base =
      ap (λ (c : Bool). (c || not (is_fake (node n))) || is_alternative node all n)
      (ne_eqb n 1 (λ (q : n ≡ 1). omega (arith, v.laid.two)))
      ∙ ap (λ (c : Bool). not c || is_alternative node all n) v.last_kind
      ∙ last_no_alternative

  base_role_lem : (i : ℕ) → i < all → is_base node all i ≡ true → (i < n) × (base_role (L.role i) ≡ true)
  base_role_lem i h e = go (below i n h)
    where
      go : (i < n) ⊎ (i ≡ n) → (i < n) × (base_role (L.role i) ≡ true)
      go (inl l) = (l, sym (base_is i l) ∙ e)
      go (inr q) = not_both e (ap (is_base node all) q ∙ last_no_base)

  receiver_is : (i : ℕ) → i < n → receives (L.role i) ≡ true → is_receiver node all i ≡ true
  unfolding is_receiver
  receiver_is i h e =
      let p = past_first v.laid receives refl refl i e in
      ap (λ (c : Bool). (c && ltb i (all - 1)) && not (is_alternative node all i)) (lt-ltb 1 i p)
      ∙ ap (λ (c : Bool). c && not (is_alternative node all i)) (lt-ltb i (all - 1) (omega arith))
      ∙ ap not (alternative_is i h)
      ∙ later_receives (L.role i) (v.laid.later i p h)
      ∙ e

  receiver_role : (i : ℕ) → is_receiver node all i ≡ true → (1 < i) × ((i < n) × (receives (L.role i) ≡ true))
  unfolding is_receiver
  receiver_role i e = go (ltb 1 i) (ltb i (all - 1)) refl refl e
    where
      go : (a c : Bool) → ltb 1 i ≡ a → ltb i (all - 1) ≡ c → ((a && c) && not (is_alternative node all i)) ≡ true
          → (1 < i) × ((i < n) × (receives (L.role i) ≡ true))
      go false c p q r = not_both r refl
      go true false p q r = not_both r refl
      go true true p q r =
          let l : i < n = subst (λ (m : ℕ). i < m) last_is (ltb-true i (all - 1) q) in (
            ltb-true 1 i p,
            (
              l,
              sym (ap not (alternative_is i l)
                  ∙ later_receives (L.role i) (v.laid.later i (ltb-true 1 i p) l)) ∙ r,
            ),
          )

  -- ---- goals

  goal_at_last : (m r : ℕ) → eqb r (all - 1) ≡ true → goal_of node all (suc m) r ≡ 0
  unfolding goal_of
  goal_at_last m r p = rw p

  goal_at_event : (m r : ℕ) → eqb r (all - 1) ≡ false → is_fake (node r) ≡ false → goal_of node all (suc m) r ≡ r
  unfolding goal_of
  goal_at_event m r p q = rw (p, q)

  goal_at_fake : (m r : ℕ) → eqb r (all - 1) ≡ false → is_fake (node r) ≡ true
      → goal_of node all (suc m) r ≡ goal_of node all m (node r).idx_next
  unfolding goal_of
  goal_at_fake m r p q = rw (p, q)

  not_last : (r : ℕ) → r < n → eqb r (all - 1) ≡ false
  not_last r h = ne_eqb r (all - 1) (λ (q : r ≡ all - 1). omega arith)

  goal_lands : (m r : ℕ) → r < n → r < m → lands (L.role r) ≡ true → goal_of node all m r ≡ L.goal r
  goal_lands zero r h l e = absurd (omega arith)
  goal_lands (suc m) r h l e = go (which_lands (L.role r) e) (goal_lands m)
    where
      go : (L.role r ≡ event) ⊎ (L.role r ≡ join) → ((s : ℕ) → s < n → s < m → lands (L.role s) ≡ true
          → goal_of node all m s ≡ L.goal s) → goal_of node all (suc m) r ≡ L.goal r
      go (inl q) ih = goal_at_event m r (not_last r h) ((v.laid.each r h).kind ∙ ap fake_role q)
          ∙ sym ((v.laid.each r h).events q).goal
      go (inr q) ih =
          let j = (v.laid.each r h).joins (node r).idx_next refl q in
          let s = j.earlier in
          goal_at_fake m r (not_last r h) ((v.laid.each r h).kind ∙ ap fake_role q)
          ∙ ih (node r).idx_next (omega arith) (omega arith) j.lands ∙ sym j.goal

  last_goal : (m : ℕ) → 0 < m → goal_of node all m n ≡ 0
  last_goal zero h = absurd (omega arith)
  last_goal (suc m) h = goal_at_last m n (eq-eqb n (all - 1) (sym last_is))

  goal_stop : (m r : ℕ) → r < n → n < m + r → L.role r ≡ stop → goal_of node all m r ≡ 0
  goal_stop zero r h l e = absurd (omega arith)
  goal_stop (suc m) r h l e =
      let s = (v.laid.each r h).stops e in
      goal_at_fake m r (not_last r h) ((v.laid.each r h).kind ∙ ap fake_role e) ∙ ap (goal_of node all m) s.next
      ∙ go s (equal_or_not (suc r) n) (goal_stop m)
    where
      go : StopOf L node n r → (suc r ≡ n) ⊎ (suc r ≡ n → ⊥)
          → ((s : ℕ) → s < n → n < m + s → L.role s ≡ stop → goal_of node all m s ≡ 0) → goal_of node all m (suc r) ≡ 0
      go s (inl q) ih = ap (goal_of node all m) q ∙ last_goal m (omega arith)
      go s (inr q) ih = ih (suc r) (omega arith) (omega arith) (s.later (suc r) (omega arith) (omega arith))

  goal_is : (m r : ℕ) → r < n → all ≤ m → receives (L.role r) ≡ true → goal_of node all m r ≡ L.goal r
  goal_is m r h l e = go (which_receiver (L.role r) e)
    where
      go : (lands (L.role r) ≡ true) ⊎ (L.role r ≡ stop) → goal_of node all m r ≡ L.goal r
      go (inl q) = goal_lands m r h (omega arith) q
      go (inr q) = goal_stop m r h (omega arith) q ∙ sym ((v.laid.each r h).stops q).goal

  -- ---- sources

  alternative_of_lem : (i p : ℕ) → 0 < i → i < n → L.role i ≡ split → (node i).idx_prev ≡ p → (m : ℕ) → p < m → m ≤ all
      → alternative_of node all m i ≡ p
  unfolding alternative_of
  alternative_of_lem i p s h e q zero l w = absurd (omega arith)
  alternative_of_lem i p s h e q (suc m) l w = go (eqb (node m).idx_next_alt i) refl (alternative_of_lem i p s h e q m)
    where
      there : (m < n) ⊎ (m ≡ n) → (node m).idx_next_alt ≡ i → m ≡ p
      there (inl k) z = sym ((v.laid.each m k).alt i z s).back ∙ q
      there (inr k) z = let y : i ≡ 0 = sym z ∙ ap (λ (j : ℕ). (node j).idx_next_alt) k ∙ v.last_alt in
          absurd (omega arith)

      go : (c : Bool) → eqb (node m).idx_next_alt i ≡ c → (p < m → m ≤ all → alternative_of node all m i ≡ p)
          → cond c m (alternative_of node all m i) ≡ p
      go true f ih = there (below m n w) (eqb-true (node m).idx_next_alt i f)
      go false f ih = ih (other (equal_or_not p m)) (omega arith)
        where
          other : (p ≡ m) ⊎ (p ≡ m → ⊥) → p < m
          other (inl z) = absurd (eqb-false (node m).idx_next_alt i f
              (ap (λ (j : ℕ). (node j).idx_next_alt) (sym z) ∙ ((v.laid.each i h).splits p q e).alt))
          other (inr z) = omega arith

  source_here : (m i : ℕ) → (eqb i 1 || not (is_fake (node i))) ≡ true → source_of node all (suc m) i ≡ i
  unfolding source_of
  source_here m i q = rw q

  source_before : (m i : ℕ) → (eqb i 1 || not (is_fake (node i))) ≡ false → is_owned node all i ≡ true
      → source_of node all (suc m) i ≡ source_of node all m (alternative_of node all all i)
  unfolding source_of
  source_before m i q o = rw (q, o)

  -- a split Fake has one owner, its prev
  owned_split : (i : ℕ) → 0 < i → i < n → L.role i ≡ split → is_owned node all i ≡ true
  owned_split i s h e =
      let p : ℕ = (node i).idx_prev in
      let o : SplitOf L node i p = (v.laid.each i h).splits p refl e in
      owned_by node all i p (λ k l z. there k (below k n l) z) o.alt (omega (arith, o.earlier))
      (some p o.base (equal_or_not p 0)) (alternative_of_lem i p s h e refl all (omega (arith, o.earlier))
      (omega arith))
    where
      there : (k : ℕ) → (k < n) ⊎ (k ≡ n) → (node k).idx_next_alt ≡ i → k ≡ (node i).idx_prev
      there k (inl l) z = sym ((v.laid.each k l).alt i z s).back
      there k (inr q) z = let y : i ≡ 0 = sym z ∙ ap (λ (j : ℕ). (node j).idx_next_alt) q ∙ v.last_alt in
          absurd (omega arith)

      some : (p : ℕ) → base_role (L.role p) ≡ true → (p ≡ 0) ⊎ (p ≡ 0 → ⊥) → 0 < p
      some p b (inl z) = not_both b (ap (λ (k : ℕ). base_role (L.role k)) z ∙ ap base_role v.laid.zeroth)
      some p b (inr z) = omega arith

  source_is : (m i : ℕ) → i < n → i < m → base_role (L.role i) ≡ true → source_of node all m i ≡ L.owner i
  source_is zero i h l e = absurd (omega arith)
  source_is (suc m) i h l e = go (L.role i) refl e (source_is m)
    where
      itself_is : itself (L.role i) ≡ true → (eqb i 1 || not (is_fake (node i))) ≡ true
          → source_of node all (suc m) i ≡ L.owner i
      itself_is s c = source_here m i c ∙ sym ((v.laid.each i h).own s)

      is_start_lem : L.role i ≡ start → i ≡ 1
      is_start_lem q = one i q (equal_or_not i 0) (equal_or_not i 1)
        where
          one : (j : ℕ) → L.role i ≡ start → (i ≡ 0) ⊎ (i ≡ 0 → ⊥) → (i ≡ 1) ⊎ (i ≡ 1 → ⊥) → i ≡ 1
          one j q (inl z) d = apart itself q (ap L.role z ∙ v.laid.zeroth) refl refl
          one j q (inr z) (inl d) = d
          one j q (inr z) (inr d) = not_both (v.laid.later i (omega arith) h) (ap later_role q)

      go : (r : Role) → L.role i ≡ r → base_role r ≡ true
          → ((s : ℕ) → s < n → s < m → base_role (L.role s) ≡ true → source_of node all m s ≡ L.owner s)
          → source_of node all (suc m) i ≡ L.owner i
      go nought q b ih = not_both b refl
      go start q b ih = itself_is (ap itself q) (ap (λ (c : Bool). c || not (is_fake (node i)))
          (eq-eqb i 1 (is_start_lem q)))
      go event q b ih = itself_is (ap itself q) (or_right (eqb i 1) (not (is_fake (node i)))
          (ap not ((v.laid.each i h).kind ∙ ap fake_role q)))
      go split q b ih =
          let p : ℕ = (node i).idx_prev in
          let s : SplitOf L node i p = (v.laid.each i h).splits p refl q in
          let w = s.earlier in
          let z : 1 < i = past_first v.laid split_role refl refl i (ap split_role q) in
          source_before m i (ap (λ (c : Bool). c || not (is_fake (node i))) (ne_eqb i 1 (λ (y : i ≡ 1). omega arith))
          ∙ ap not ((v.laid.each i h).kind ∙ ap fake_role q)) (owned_split i (omega arith) h q)
          ∙ ap (source_of node all m) (alternative_of_lem i p (omega arith) h q refl all (omega arith) (omega arith))
          ∙ ih p (omega arith) (omega arith) s.base
          ∙ sym s.owner
      go join q b ih = not_both b refl
      go stop q b ih = not_both b refl

  -- ---- the arc of a base

  pub arc_is : (i : ℕ) → i < n → base_role (L.role i) ≡ true → arc_of node all i ≡ arc_there L node i
  unfolding arc_of arc_there
  arc_is i h e =
      let o = (v.laid.each i h).next (node i).idx_next refl (v.closed i h e) e in
      λ z. record {
        from = source_is all i h (omega arith) e z;
        to = goal_is all (node i).idx_next o.inside (omega arith) o.receiver z;
        time = (node i).time_to_next;
        distance =
            (node i).dist_to_next;
      }

  -- ---- the shape

  alt_of : (i : ℕ) → i < all → 0 < (node i).idx_next_alt → (i < n) × AltOf L node n i (node i).idx_next_alt
  alt_of i h p = go (below i n h)
    where
      go : (i < n) ⊎ (i ≡ n) → (i < n) × AltOf L node n i (node i).idx_next_alt
      go (inl l) = (l, (v.laid.each i l).alt (node i).idx_next_alt refl p)
      go (inr q) = let z : (node i).idx_next_alt ≡ 0 = ap (λ (j : ℕ). (node j).idx_next_alt) q ∙ v.last_alt in
          absurd (omega arith)

  pub whole_shape : Shape node (suc n)
  whole_shape = record {
    some = omega (arith, v.laid.two);
    first_fake = (v.laid.each 0 (omega (arith, v.laid.two))).kind ∙ ap fake_role v.laid.zeroth;
    start_fake = (v.laid.each 1 v.laid.two).kind ∙ ap fake_role v.laid.first;
    end_fake = ap (λ (j : ℕ). is_fake (node j)) last_is ∙ v.last_kind;
    start_prev = v.laid.start_prev;
    end_prev = ap (λ (j : ℕ). (node j).idx_prev) last_is ∙ v.last_prev ∙ before;
    alt_rises = λ i h p. (alt_of i h p).1.rises;
    alt_inside = λ i h p. omega (arith, (alt_of i h p).1.inside);
    alt_fake = λ i h p. let a = (alt_of i h p).1 in
        (v.laid.each (node i).idx_next_alt a.inside).kind ∙ ap fake_role a.fake;
    alt_base = λ i h p. let a = alt_of i h p in base_is i a.0 ∙ a.1.base;
    alt_beyond = λ i h p. past_first v.laid split_role refl refl (node i).idx_next_alt
        (ap split_role (alt_of i h p).1.fake);
    alt_prev = λ i h p. (alt_of i h p).1.back;
    prev_alt = λ i h p. let a = prev_alt_of i (below i n h) p in receiver_is (node i).idx_prev_alt a.0 a.1;
    base_next = λ i h e. let a = base_role_lem i h e in let o =
        (v.laid.each i a.0).next (node i).idx_next refl (v.closed i a.0 a.1) a.1 in
        (receiver_is (node i).idx_next o.inside o.receiver, o.back);
    receiver_prev = λ r e. let a = receiver_role r e in let o =
        (v.laid.each r a.1.0).prev (node r).idx_prev refl a.1.1 in
        (base_is (node r).idx_prev o.inside ∙ o.base, (omega (arith, o.inside), o.forth));
    fake_next = λ r e f. fakes r (receiver_role r e).1.0 (receiver_role r e).1.1 f;
    settled = λ r m e l. let a = receiver_role r e in
        goal_is m r a.1.0 l a.1.1 ∙ sym (goal_is all r a.1.0 (omega arith) a.1.1);
  }
    where
      prev_alt_of : (i : ℕ) → (i < n) ⊎ (i ≡ n) → 0 < (node i).idx_prev_alt
          → ((node i).idx_prev_alt < n) × (receives (L.role (node i).idx_prev_alt) ≡ true)
      prev_alt_of i (inl l) p = (v.laid.each i l).prev_alt (node i).idx_prev_alt refl p
      prev_alt_of i (inr q) p = let z : (node i).idx_prev_alt ≡ 0 =
          ap (λ (j : ℕ). (node j).idx_prev_alt) q ∙ v.last_prev_alt in absurd (omega arith)

      before : n - 1 ≡ all - 2
      before = omega arith

      fakes : (r : ℕ) → r < n → receives (L.role r) ≡ true → is_fake (node r) ≡ true
          → (is_receiver node all (node r).idx_next ≡ true) ⊎ ((node r).idx_next ≡ all - 1)
      fakes r h e f = go (which_receiver (L.role r) e)
        where
          ended : StopOf L node n r → (suc r ≡ n) ⊎ (suc r ≡ n → ⊥)
              → (is_receiver node all (node r).idx_next ≡ true) ⊎ ((node r).idx_next ≡ all - 1)
          ended s (inl q) = inr (s.next ∙ q ∙ sym last_is)
          ended s (inr q) = inl (ap (is_receiver node all) s.next
              ∙ receiver_is (suc r) (omega arith) (ap receives (s.later (suc r) (omega arith) (omega arith))))

          go : (lands (L.role r) ≡ true) ⊎ (L.role r ≡ stop)
              → (is_receiver node all (node r).idx_next ≡ true) ⊎ ((node r).idx_next ≡ all - 1)
          go (inr q) = ended ((v.laid.each r h).stops q) (equal_or_not (suc r) n)
          go (inl q) = landing (which_lands (L.role r) q)
            where
              landing : (L.role r ≡ event) ⊎ (L.role r ≡ join)
                  → (is_receiver node all (node r).idx_next ≡ true) ⊎ ((node r).idx_next ≡ all - 1)
              landing (inl m) = not_both f ((v.laid.each r h).kind ∙ ap fake_role m)
              landing (inr m) = let j = (v.laid.each r h).joins (node r).idx_next refl m in let s = j.earlier in
                  inl (receiver_is (node r).idx_next (omega arith) (lands_receives (L.role (node r).idx_next) j.lands))
