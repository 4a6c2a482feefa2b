-- Laws of `some_below` and `sum_below`: one number more, and one number below.
use mathlib.Core.Path.{◌≡◌, refl, sym, ap, ◌∙◌, subst}
use mathlib.Core.Logic.{◌⊎◌, inl, inr}
use mathlib.Core.Bool.{Bool, true, false, ◌||◌}
use Prim.Native.Nat.{ℕ, zero, suc, ◌+◌, ◌≤◌, ◌<◌}
use native.Mathlib.Nat.{le_refl, not-suc-le-zero, le_of_suc-le-suc, eq-or-lt_of_le}
use native.Mathlib.Numerals.{add-one}
use native.Mathlib.Omega.{arith}
use Rattle.laws.specs.Below.{some_below, sum_below}
use Rattle.laws.proofs.Truth.{equal_or_not}
pub use Rattle.laws.proofs.Truth.{or_left, or_right, none_left, none_right}

-- a number below the next one
pub below : (i n : ℕ) → i < suc n → (i < n) ⊎ (i ≡ n)
below i n h = go (eq-or-lt_of_le (le_of_suc-le-suc h))
  where
    go : (i ≡ n) ⊎ (i < n) → (i < n) ⊎ (i ≡ n)
    go (inl e) = inr e
    go (inr l) = inl l

-- ---- one number more

pub some_more : (n : ℕ) (p : ℕ → Bool) → some_below (n + 1) p ≡ (some_below n p || p n)
unfolding some_below
some_more n p = ap (λ (k : ℕ). some_below k p) (add-one n)

pub none_more : (n : ℕ) (p : ℕ → Bool) → some_below n p ≡ false → p n ≡ false → some_below (n + 1) p ≡ false
none_more n p e f = some_more n p ∙ ap (λ (b : Bool). b || p n) e ∙ f

pub sum_more : (n : ℕ) (f : ℕ → ℕ) → sum_below (n + 1) f ≡ sum_below n f + f n
unfolding sum_below
sum_more n f = ap (λ (k : ℕ). sum_below k f) (add-one n)

-- ---- one number below

pub some_at : (n : ℕ) (p : ℕ → Bool) (i : ℕ) → i < n → p i ≡ true → some_below n p ≡ true
unfolding some_below
some_at zero p i h e = absurd (not-suc-le-zero h)
some_at (suc n) p i h e = go (eq-or-lt_of_le (le_of_suc-le-suc h)) (some_at n p i)
  where
    go : (i ≡ n) ⊎ (i < n) → (i < n → p i ≡ true → some_below n p ≡ true) → (some_below n p || p n) ≡ true
    go (inl d) ih = or_right (some_below n p) (p n) (ap p (sym d) ∙ e)
    go (inr l) ih = or_left (some_below n p) (p n) (ih l e)

pub none_at : (n : ℕ) (p : ℕ → Bool) (i : ℕ) → i < n → some_below n p ≡ false → p i ≡ false
unfolding some_below
none_at zero p i h e = absurd (not-suc-le-zero h)
none_at (suc n) p i h e = go (eq-or-lt_of_le (le_of_suc-le-suc h)) (none_at n p i)
  where
    go : (i ≡ n) ⊎ (i < n) → (i < n → some_below n p ≡ false → p i ≡ false) → p i ≡ false
    go (inl d) ih = ap p d ∙ none_right (some_below n p) (p n) e
    go (inr l) ih = ih l (none_left (some_below n p) (p n) e)

-- no number below n has a property that each of them lacks
pub none_all : (n : ℕ) (q : ℕ → Bool) → ((i : ℕ) → i < n → q i ≡ false) → some_below n q ≡ false
unfolding some_below
none_all zero q f = refl
none_all (suc n) q f = ap (λ (t : Bool). t || q n) (none_all n q (λ i h. f i (more i n h))) ∙ f n (le_refl (suc n))
  where
    more : (i n : ℕ) → i < n → i < suc n
    more i n h = omega arith

-- with no such number below n there is none below m
pub none_fewer : (n m : ℕ) (p : ℕ → Bool) → m ≤ n → some_below n p ≡ false → some_below m p ≡ false
unfolding some_below
none_fewer n zero p h e = refl
none_fewer n (suc m) p h e = go (none_fewer n m p (less m n h) e) (none_at n p m h e)
  where
    less : (m n : ℕ) → suc m ≤ n → m ≤ n
    less m n h = omega arith

    go : some_below m p ≡ false → p m ≡ false → (some_below m p || p m) ≡ false
    go a b = ap (λ (x : Bool). x || p m) a ∙ b

-- two tests that agree below n
pub some_same : (n : ℕ) (p q : ℕ → Bool) → ((i : ℕ) → i < n → p i ≡ q i) → some_below n p ≡ some_below n q
unfolding some_below
some_same zero p q h = refl
some_same (suc n) p q h = ap (λ (t : Bool). t || p n) (some_same n p q (λ i g. h i (omega arith))) ∙ ap (λ (t : Bool). some_below n q || t) (h n (omega arith))

-- a part of the sum
pub sum_part : (n m : ℕ) (f : ℕ → ℕ) → m ≤ n → sum_below m f ≤ sum_below n f
unfolding sum_below
sum_part zero m f h = let e : m ≡ 0 = omega arith in subst (λ (k : ℕ). sum_below k f ≤ 0) (sym e) (omega arith)
sum_part (suc n) m f h = go (eq-or-lt_of_le h) (sum_part n m f)
  where
    go : (m ≡ suc n) ⊎ (m < suc n) → (m ≤ n → sum_below m f ≤ sum_below n f) → sum_below m f ≤ sum_below n f + f n
    go (inl e) ih = subst (λ (k : ℕ). sum_below k f ≤ sum_below n f + f n) (sym e) (omega arith)
    go (inr l) ih = let g = ih (le_of_suc-le-suc l) in omega arith

-- ---- two sums

pub sum_same : (n : ℕ) (f g : ℕ → ℕ) → ((i : ℕ) → i < n → f i ≡ g i) → sum_below n f ≡ sum_below n g
unfolding sum_below
sum_same zero f g h = refl
sum_same (suc n) f g h =
    let a : sum_below n f ≡ sum_below n g = sum_same n f g (λ i l. h i (omega arith)) in
    let e : f n ≡ g n = h n (omega arith) in
    omega arith

pub sum_most : (n : ℕ) (f g : ℕ → ℕ) → ((i : ℕ) → f i ≤ g i) → sum_below n f ≤ sum_below n g
unfolding sum_below
sum_most zero f g h = omega arith
sum_most (suc n) f g h = omega (arith, sum_most n f g h, h n)

-- where no number rises and one falls, so does the sum
pub sum_falls : (n : ℕ) (f g : ℕ → ℕ) (j : ℕ) → ((i : ℕ) → f i ≤ g i) → j < n → f j < g j → sum_below n f < sum_below n g
unfolding sum_below
sum_falls zero f g j h l d = absurd (not-suc-le-zero l)
sum_falls (suc n) f g j h l d = go (equal_or_not j n) (sum_falls n f g j h)
  where
    go : (j ≡ n) ⊎ (j ≡ n → ⊥) → (j < n → f j < g j → sum_below n f < sum_below n g) → sum_below n f + f n < sum_below n g + g n
    go (inl e) ih =
        let x : f n < g n = subst (λ (k : ℕ). f k < g k) e d in
        omega (arith, sum_most n f g h)
    go (inr e) ih =
        let k : j < n = omega arith in
        omega (arith, ih k d, h n)
