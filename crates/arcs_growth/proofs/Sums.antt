-- Sums over the numbers below n: the same terms, one more term, and one term changed. The total weight of a list of
-- arcs.
use mathlib.Core.Path.{◌≡◌, refl, subst}
use mathlib.Core.Logic.{◌⊎◌, inl, inr}
use mathlib.Core.List.{List, [], ◌∷◌}
use Prim.Native.Nat.{ℕ, zero, suc, ◌+◌, ◌<◌}
use native.Mathlib.Omega.{arith}
use Rattle.laws.proofs.Below.{below}
use Rattle.laws.specs.Below.{sum_below}
use Rattle.grow_rules.specs.Run.{Arc}

pub sum_same : (n : ℕ) (f g : ℕ → ℕ) → ((i : ℕ) → i < n → g i ≡ f i) → sum_below n g ≡ sum_below n f
unfolding sum_below
sum_same zero f g h = refl
sum_same (suc n) f g h =
    let a : sum_below n g ≡ sum_below n f = sum_same n f g (λ i l. h i (omega arith)) in
    let e : g n ≡ f n = h n (omega arith) in
    omega arith

pub sum_suc : (n : ℕ) (f : ℕ → ℕ) → sum_below (suc n) f ≡ sum_below n f + f n
unfolding sum_below
sum_suc n f = refl

-- one term has become greater by x
pub sum_point : (n : ℕ) (f g : ℕ → ℕ) (j x : ℕ) → j < n → ((i : ℕ) → i < n → (i ≡ j → ⊥) → g i ≡ f i) → g j ≡ f j + x
    → sum_below n g ≡ sum_below n f + x
unfolding sum_below
sum_point zero f g j x h o e = absurd (omega arith)
sum_point (suc n) f g j x h o e = go (below j n h) (sum_point n f g j x)
  where
    go : (j < n) ⊎ (j ≡ n) → (j < n → ((i : ℕ) → i < n → (i ≡ j → ⊥) → g i ≡ f i) → g j ≡ f j + x
        → sum_below n g ≡ sum_below n f + x) → sum_below n g + g n ≡ sum_below n f + f n + x
    go (inl l) ih =
        let a : sum_below n g ≡ sum_below n f + x = ih l (λ i k. o i (omega arith)) e in
        let c : g n ≡ f n = o n (omega arith) (λ (q : n ≡ j). omega arith) in
        omega arith
    go (inr q) ih =
        let a : sum_below n g ≡ sum_below n f = sum_same n f g
        (λ i k. o i (omega arith) (λ (r : i ≡ j). omega arith)) in
        let c : g n ≡ f n + x = subst (λ (k : ℕ). g k ≡ f k + x) q e in
        omega arith

unfoldable pub total : (Arc → ℕ) → List Arc → ℕ
total w [] = 0
total w (x ∷ xs) = w x + total w xs

pub total_more : (w : Arc → ℕ) (x : Arc) (xs : List Arc) → total w (x ∷ xs) ≡ total w xs + w x
unfolding total
total_more w x xs = omega arith
