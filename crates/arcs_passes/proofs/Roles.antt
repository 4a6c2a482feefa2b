-- Roles in a network of the shape: what a base and a receiver are, where a split Fake's source and a join Fake's goal are found, and that none of it looks at more than a node's frame
-- (its event and both alternatives), which no pass changes, and at a Fake's next.
use mathlib.Core.Path.{◌≡◌, refl, ap}
use mathlib.Core.Logic.{◌⊎◌, inl, inr, ◌≢◌, ⊎_elim}
use mathlib.Core.Bool.{Bool, true, false, not, ◌&&◌, ◌||◌, cond}
use Prim.Native.Nat.{ℕ, zero, suc, ◌-◌, ◌<◌}
use native.Mathlib.Omega.{arith}
use borrow.Author.Tests.{eqb-true, eqb-false, ltb-true, lt-ltb, eq-eqb, ne_eqb, not-true}
use lib.Dec.{eqb, ltb}
use Rattle.laws.proofs.Truth.{equal_or_not, and_left, and_right, both, not_both, or_is, true_or_false}
use Rattle.net_node.specs.Table.{is_fake}
use Rattle.laws.specs.Below.{some_below}
use Rattle.laws.proofs.Below.{some_at, or_left, or_right}
use Rattle.net_node.specs.declared.EstTime.{EstTime}
use Rattle.arcs_growth.specs.Arcs.{is_alternative, is_base, alternative_of, is_owned, source_of, goal_of}
use Rattle.arcs_growth.specs.Shape.{is_receiver}

-- ---- alternatives

module _ (node : ℕ → EstTime) (n : ℕ) where
  named_above : (i k : ℕ) → some_below k (λ j. eqb (node j).idx_next_alt i) ≡ true
      → (alternative_of node n k i < k) × ((node (alternative_of node n k i)).idx_next_alt ≡ i)
  unfolding some_below alternative_of
  named_above i zero e = not_both e refl
  named_above i (suc k) e = go (eqb (node k).idx_next_alt i) refl (named_above i k)
    where
      go : (b : Bool) → eqb (node k).idx_next_alt i ≡ b → (some_below k (λ j. eqb (node j).idx_next_alt i) ≡ true → (alternative_of node n k i < k) × ((node (alternative_of node n k i)).idx_next_alt ≡ i))
          → (cond b k (alternative_of node n k i) < suc k) × ((node (cond b k (alternative_of node n k i))).idx_next_alt ≡ i)
      go true f ih = (omega arith, eqb-true (node k).idx_next_alt i f)
      go false f ih =
          let below = or_is (some_below k (λ j. eqb (node j).idx_next_alt i)) (eqb (node k).idx_next_alt i) e in
          let q = ih (⊎_elim (λ (a : some_below k (λ j. eqb (node j).idx_next_alt i) ≡ true). a) (λ (a : eqb (node k).idx_next_alt i ≡ true). not_both a f) below) in
          let l = q.0 in
          (omega arith, q.1)

  -- an alternative is some node's
  pub alternative_above : (i : ℕ) → is_alternative node n i ≡ true → (alternative_of node n n i < n) × ((node (alternative_of node n n i)).idx_next_alt ≡ i)
  unfolding is_alternative
  alternative_above i e = named_above i n (and_right (not (eqb i 0)) (some_below n (λ k. eqb (node k).idx_next_alt i)) e)

  pub alternative_some : (i : ℕ) → is_alternative node n i ≡ true → 0 < i
  unfolding is_alternative
  alternative_some i e =
      let o = eqb-false i 0 (not-true (eqb i 0) (and_left (not (eqb i 0)) (some_below n (λ k. eqb (node k).idx_next_alt i)) e)) in
      ⊎_elim (λ (z : i ≡ 0). absurd (o z)) (λ (z : i ≢ 0). omega arith) (equal_or_not i 0)

  pub alternative_named : (k : ℕ) → k < n → 0 < (node k).idx_next_alt → is_alternative node n (node k).idx_next_alt ≡ true
  unfolding is_alternative
  alternative_named k h o =
      both (not (eqb (node k).idx_next_alt 0)) (some_below n (λ j. eqb (node j).idx_next_alt (node k).idx_next_alt))
      (ap not (ne_eqb (node k).idx_next_alt 0 (λ (z : (node k).idx_next_alt ≡ 0). omega arith)))
      (some_at n (λ j. eqb (node j).idx_next_alt (node k).idx_next_alt) k h (eq-eqb (node k).idx_next_alt (node k).idx_next_alt refl))

  -- ---- bases

  pub base_start : is_base node n 1 ≡ true
  unfolding is_base
  base_start = refl

  pub base_event : (i : ℕ) → is_fake (node i) ≡ false → is_base node n i ≡ true
  unfolding is_base
  base_event i e = or_left (eqb i 1 || not (is_fake (node i))) (is_alternative node n i) (or_right (eqb i 1) (not (is_fake (node i))) (ap not e))

  pub base_alternative : (i : ℕ) → is_alternative node n i ≡ true → is_base node n i ≡ true
  unfolding is_base
  base_alternative i e = or_right (eqb i 1 || not (is_fake (node i))) (is_alternative node n i) e

  pub base_is : (i : ℕ) → is_base node n i ≡ true → (i ≡ 1) ⊎ ((is_fake (node i) ≡ false) ⊎ (is_alternative node n i ≡ true))
  unfolding is_base
  base_is i e = go (or_is (eqb i 1 || not (is_fake (node i))) (is_alternative node n i) e)
    where
      itself : (eqb i 1 ≡ true) ⊎ (not (is_fake (node i)) ≡ true) → (i ≡ 1) ⊎ ((is_fake (node i) ≡ false) ⊎ (is_alternative node n i ≡ true))
      itself (inl a) = inl (eqb-true i 1 a)
      itself (inr a) = inr (inl (not-true (is_fake (node i)) a))

      go : ((eqb i 1 || not (is_fake (node i))) ≡ true) ⊎ (is_alternative node n i ≡ true) → (i ≡ 1) ⊎ ((is_fake (node i) ≡ false) ⊎ (is_alternative node n i ≡ true))
      go (inl a) = itself (or_is (eqb i 1) (not (is_fake (node i))) a)
      go (inr a) = inr (inr a)

  -- ---- receivers

  pub receiver_is : (i : ℕ) → is_receiver node n i ≡ true → (1 < i) × (i < n - 1) × (is_alternative node n i ≡ false)
  unfolding is_receiver
  receiver_is i e =
      let a = and_left (ltb 1 i && ltb i (n - 1)) (not (is_alternative node n i)) e in (
        ltb-true 1 i (and_left (ltb 1 i) (ltb i (n - 1)) a),
        ltb-true i (n - 1) (and_right (ltb 1 i) (ltb i (n - 1)) a),
        not-true (is_alternative node n i) (and_right (ltb 1 i && ltb i (n - 1)) (not (is_alternative node n i)) e),
      )

  pub is_receiver_lem : (i : ℕ) → 1 < i → i < n - 1 → is_alternative node n i ≡ false → is_receiver node n i ≡ true
  unfolding is_receiver
  is_receiver_lem i a b c =
      both (ltb 1 i && ltb i (n - 1)) (not (is_alternative node n i)) (both (ltb 1 i) (ltb i (n - 1)) (lt-ltb 1 i a) (lt-ltb i (n - 1) b)) (ap not c)

  pub receiver_inside : (i : ℕ) → is_receiver node n i ≡ true → i < n
  receiver_inside i e = let h = (receiver_is i e).1 in omega arith

  pub end_receives_not : (i : ℕ) → is_receiver node n i ≡ true → i ≢ n - 1
  end_receives_not i e = let h = (receiver_is i e).1 in λ (o : i ≡ n - 1). omega arith

  -- a Fake that receives is no base
  pub fake_receiver : (r : ℕ) → is_receiver node n r ≡ true → is_fake (node r) ≡ true → is_base node n r ≡ false
  fake_receiver r e f = ⊎_elim (λ (b : is_base node n r ≡ true). absurd (go (base_is r b))) (λ (b : is_base node n r ≡ false). b) (true_or_false (is_base node n r))
    where
      go : (r ≡ 1) ⊎ ((is_fake (node r) ≡ false) ⊎ (is_alternative node n r ≡ true)) → ⊥
      go (inl a) = let h = (receiver_is r e).0 in omega arith
      go (inr (inl a)) = not_both f a
      go (inr (inr a)) = not_both a (receiver_is r e).2

  -- ---- sources and goals, a step

  pub source_itself : (k i : ℕ) → (eqb i 1 || not (is_fake (node i))) ≡ true → source_of node n (suc k) i ≡ i
  unfolding source_of
  source_itself k i e = rw e

  pub source_step : (k i : ℕ) → (eqb i 1 || not (is_fake (node i))) ≡ false → is_owned node n i ≡ true → source_of node n (suc k) i ≡ source_of node n k (alternative_of node n n i)
  unfolding source_of
  source_step k i e o = rw (e, o)

  pub goal_end : (k : ℕ) → goal_of node n (suc k) (n - 1) ≡ 0
  unfolding goal_of
  goal_end k = rw (eq-eqb (n - 1) (n - 1) refl)

  pub goal_event : (k i : ℕ) → i ≢ n - 1 → is_fake (node i) ≡ false → goal_of node n (suc k) i ≡ i
  unfolding goal_of
  goal_event k i o e = rw (ne_eqb i (n - 1) o, e)

  pub goal_fake : (k i : ℕ) → i ≢ n - 1 → is_fake (node i) ≡ true → goal_of node n (suc k) i ≡ goal_of node n k (node i).idx_next
  unfolding goal_of
  goal_fake k i o e = rw (ne_eqb i (n - 1) o, e)
