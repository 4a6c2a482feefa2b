-- Paths of legs: a path has no more legs than its last one's number, and a leg's path is its parent's and itself.
use mathlib.Core.Path.{◌≡◌, refl, ap}
use mathlib.Core.List.{List, [], ◌∷◌, ◌++◌}
use Prim.Native.Nat.{ℕ, zero, suc, ◌≤◌, ◌<◌}
use native.Mathlib.Omega.{arith}
use lib.ListN.{length, length-append}
use Rattle.book_format.specs.Format.{legs, leg_parent}
use Rattle.grow_path.specs.Path.{legs_to, path_of}

-- a parent's number is below its child's
pub record Above (b : List ℕ) : Type 0 where
  pub parents : (i : ℕ) → i < legs b → leg_parent b i ≤ i

-- no more legs than the leg's number
legs_most : (k : ℕ) (b : List ℕ) (j : ℕ) → length (legs_to k b j) ≤ k
unfolding legs_to
legs_most zero b j = omega arith
legs_most (suc k) b zero = omega arith
legs_most (suc k) b (suc i) = omega (
  arith,
  length-append (legs_to k b (leg_parent b i)) (suc i ∷ []),
  legs_most k b (leg_parent b i),
)

pub path_most : (b : List ℕ) (j : ℕ) → length (path_of b j) ≤ j
unfolding path_of
path_most b j = legs_most j b j

module _ {b : List ℕ} (above : Above b) where
  legs_enough : (k m p : ℕ) → p ≤ k → p ≤ m → p ≤ legs b → legs_to k b p ≡ legs_to m b p
  unfolding legs_to
  legs_enough zero zero p h g l = refl
  legs_enough zero (suc m) zero h g l = refl
  legs_enough zero (suc m) (suc p) h g l = absurd (omega arith)
  legs_enough (suc k) zero zero h g l = refl
  legs_enough (suc k) zero (suc p) h g l = absurd (omega arith)
  legs_enough (suc k) (suc m) zero h g l = refl
  legs_enough (suc k) (suc m) (suc p) h g l =
      let q = above.parents p (omega arith) in
      ap (λ (xs : List ℕ). xs ++ (suc p ∷ [])) (legs_enough k m (leg_parent b p) (omega arith) (omega arith)
      (omega arith))

  -- a leg's path is its parent's and itself
  pub path_more : (i : ℕ) → i < legs b → path_of b (suc i) ≡ path_of b (leg_parent b i) ++ (suc i ∷ [])
  unfolding path_of legs_to
  path_more i h =
      let q = above.parents i h in
      ap (λ (xs : List ℕ). xs ++ (suc i ∷ [])) (legs_enough i (leg_parent b i) (leg_parent b i) q (omega arith)
      (omega arith))
