-- The owner of a split Fake: where one node alone has it as next alternative, that is how many there are.
use mathlib.Core.Path.{◌≡◌, refl, sym, ap, ◌∙◌}
use mathlib.Core.Logic.{◌⊎◌, inl, inr}
use mathlib.Core.Bool.{Bool, true, false, not}
use Prim.Native.Nat.{ℕ, zero, suc, ◌+◌, ◌<◌, ◌≤◌}
use native.Mathlib.Omega.{arith}
use borrow.Author.Tests.{eq-eqb, ne_eqb, ltb-true, ltb-false, lt-ltb}
use lib.Dec.{eqb, ltb}
use Rattle.laws.proofs.Truth.{equal_or_not, both}
use Rattle.net_node.specs.declared.EstTime.{EstTime}
use Rattle.arcs_growth.specs.Arcs.{one, alternative_of, owners, is_owned}

not_below : (p m : ℕ) → m ≤ p → ltb p m ≡ false
not_below p m h = go (ltb p m) refl
  where
    go : (t : Bool) → ltb p m ≡ t → ltb p m ≡ false
    go true e = let l = ltb-true p m e in absurd (omega arith)
    go false e = e

same_below : (p m : ℕ) → (m ≡ p → ⊥) → ltb p m ≡ ltb p (suc m)
same_below p m d = go (ltb p m) refl
  where
    go : (t : Bool) → ltb p m ≡ t → ltb p m ≡ ltb p (suc m)
    go true e = let l = ltb-true p m e in e ∙ sym (lt-ltb p (suc m) (omega arith))
    go false e = let l = ltb-false p m e in e ∙ sym (not_below p (suc m) (omega arith))

module _ (node : ℕ → EstTime) (n i p : ℕ) (alone : (k : ℕ) → k < n → (node k).idx_next_alt ≡ i → k ≡ p)
    (has : (node p).idx_next_alt ≡ i) where
  owners_below : (m : ℕ) → m ≤ n → owners node n m i ≡ one (ltb p m)
  unfolding owners
  owners_below zero w = ap one (sym (not_below p 0 (omega arith)))
  owners_below (suc m) w = go (equal_or_not m p) (owners_below m (omega arith))
    where
      no_more : (k : ℕ) → k + 0 ≡ k
      no_more k = omega arith

      go : (m ≡ p) ⊎ (m ≡ p → ⊥) → owners node n m i ≡ one (ltb p m)
          → owners node n m i + one (eqb (node m).idx_next_alt i) ≡ one (ltb p (suc m))
      go (inl z) ih =
          let before : owners node n m i ≡ 0 = ih ∙ ap one (not_below p m (omega arith)) in
          let here : eqb (node m).idx_next_alt i ≡ true =
          eq-eqb (node m).idx_next_alt i (ap (λ (j : ℕ). (node j).idx_next_alt) z ∙ has) in
          let sum : owners node n m i + one (eqb (node m).idx_next_alt i) ≡ 0 + one true =
          ap (λ (k : ℕ). k + one (eqb (node m).idx_next_alt i)) before ∙ ap (λ (c : Bool). 0 + one c) here in
          sum ∙ ap one (sym (lt-ltb p (suc m) (omega arith)))
      go (inr z) ih =
          let none : eqb (node m).idx_next_alt i ≡ false =
          ne_eqb (node m).idx_next_alt i (λ (y : (node m).idx_next_alt ≡ i). z (alone m (omega arith) y)) in
          ap (λ (c : Bool). owners node n m i + one c) none ∙ no_more (owners node n m i) ∙ ih
          ∙ ap one (same_below p m z)

  -- a node that one other alone has as next alternative, which is not node 0, has an owner
  pub owned_by : p < n → 0 < p → alternative_of node n n i ≡ p → is_owned node n i ≡ true
  unfolding is_owned
  owned_by h some is =
      both (eqb (owners node n n i) 1) (not (eqb (alternative_of node n n i) 0))
      (eq-eqb (owners node n n i) 1 (owners_below n (omega arith) ∙ ap one (lt-ltb p n h)))
      (ap not (ne_eqb (alternative_of node n n i) 0 (λ (z : alternative_of node n n i ≡ 0). omega arith)))
