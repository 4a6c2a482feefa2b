-- The lowest of numbers of which 0 is none: `lower` is a commutative monoid, the numbers of two rows join test by test, and so do those of all rows below n.
-- Assumes nothing.
use mathlib.Core.Path.{◌≡◌, refl, sym, ap, ◌∙◌}
use mathlib.Core.Bool.{Bool, true, false, ◌||◌, cond}
use Prim.Native.Nat.{ℕ, zero, suc, ◌+◌, ◌-◌, ◌≤◌, ◌<◌, min}
use native.Mathlib.Nat.{zero-add, suc-add, min_comm}
use native.Mathlib.Numerals.{add-one}
use native.Mathlib.Omega.{arith}
use borrow.Author.Tests.{lt-ltb, le-ltb}
use Rattle.laws.specs.Below.{some_below}
use Rattle.laws.specs.Refusals.{first_of}
use Rattle.book_rows.specs.Elements.{lower, lowest_below, first_number, splice}

-- ---- the lower of two

pub lower_none : (a : ℕ) → lower a 0 ≡ a
unfolding lower
lower_none zero = refl
lower_none (suc a) = refl

lower_comm : (a b : ℕ) → lower a b ≡ lower b a
unfolding lower
lower_comm zero b = sym (lower_none b)
lower_comm (suc a) zero = refl
lower_comm (suc a) (suc b) = ap suc (min_comm a b)

lower_assoc : (a b c : ℕ) → lower (lower a b) c ≡ lower a (lower b c)
unfolding lower
lower_assoc zero b c = refl
lower_assoc (suc a) zero c = refl
lower_assoc (suc a) (suc b) zero = refl
lower_assoc (suc a) (suc b) (suc c) =
    let e : min (min a b) c ≡ min a (min b c) = omega arith in
    ap suc e

pub lower_min : (a b : ℕ) → (a ≡ 0 → ⊥) → (b ≡ 0 → ⊥) → lower a b ≡ min a b
unfolding lower
lower_min zero b h g = absurd (h refl)
lower_min (suc a) zero h g = absurd (g refl)
lower_min (suc a) (suc b) h g = omega arith

-- ---- the numbers of tests

-- the lower of two numbers of rows, each the test's own or one behind it
either : (n : ℕ) (x y : Bool) (a b c : ℕ) → lower n n ≡ n → lower n a ≡ n → lower n b ≡ n → lower a b ≡ c → lower (cond x n a) (cond y n b) ≡ cond (x || y) n c
either n true true a b c s f g e = s
either n true false a b c s f g e = g
either n false true a b c s f g e = lower_comm a n ∙ f
either n false false a b c s f g e = e

-- a number is lower than those of the tests behind it
behind : (n m : ℕ) (x : Bool) (a : ℕ) → lower n m ≡ n → lower n a ≡ n → lower n (cond x m a) ≡ n
behind n m true a e f = e
behind n m false a e f = f

pub number_join : (a b c d a' b' c' d' : Bool) → lower (first_number a b c d) (first_number a' b' c' d') ≡ first_number (a || a') (b || b') (c || c') (d || d')
unfolding lower first_of
number_join a b c d a' b' c' d' =
    either 4 a a' _ _ _ refl (behind 4 5 b _ refl (behind 4 6 c _ refl (behind 4 7 d 0 refl refl))) (behind 4 5 b' _ refl (behind 4 6 c' _ refl (behind 4 7 d' 0 refl refl)))
    (either 5 b b' _ _ _ refl (behind 5 6 c _ refl (behind 5 7 d 0 refl refl)) (behind 5 6 c' _ refl (behind 5 7 d' 0 refl refl))
    (either 6 c c' _ _ _ refl (behind 6 7 d 0 refl refl) (behind 6 7 d' 0 refl refl) (either 7 d d' 0 0 0 refl refl refl refl)))

-- ---- the numbers below n

pub lowest_more : (n : ℕ) (f : ℕ → ℕ) → lowest_below (n + 1) f ≡ lower (lowest_below n f) (f n)
unfolding lowest_below
lowest_more n f = ap (λ (m : ℕ). lowest_below m f) (add-one n)

pub lowest_tests : (n : ℕ) (p q r s : ℕ → Bool)
    → lowest_below n (λ k. first_number (p k) (q k) (r k) (s k)) ≡ first_number (some_below n p) (some_below n q) (some_below n r) (some_below n s)
unfolding lowest_below some_below first_of
lowest_tests zero p q r s = refl
lowest_tests (suc n) p q r s =
    ap (λ (x : ℕ). lower x (first_number (p n) (q n) (r n) (s n))) (lowest_tests n p q r s)
    ∙ number_join (some_below n p) (some_below n q) (some_below n r) (some_below n s) (p n) (q n) (r n) (s n)

lowest_same : (n : ℕ) (f g : ℕ → ℕ) → ((k : ℕ) → k < n → f k ≡ g k) → lowest_below n f ≡ lowest_below n g
unfolding lowest_below
lowest_same zero f g e = refl
lowest_same (suc n) f g e = rw (lowest_same n f g (λ k h. e k (omega arith)), e n (omega arith))

-- ---- two ranges in one count

module _ (m : ℕ) (f g : ℕ → ℕ) (k : ℕ) where
  pub splice_low : k < m → splice m f g k ≡ f k
  unfolding splice
  splice_low h = rw (lt-ltb k m h)

  pub splice_high : m ≤ k → splice m f g k ≡ g (k - m)
  unfolding splice
  splice_high h = rw (le-ltb k m h)

pub lowest_splice : (n m : ℕ) (f g : ℕ → ℕ) → lowest_below (n + m) (splice m f g) ≡ lower (lowest_below m f) (lowest_below n g)
unfolding lowest_below
lowest_splice zero m f g = rw (zero-add m) (lowest_same m (splice m f g) f (splice_low m f g) ∙ sym (lower_none (lowest_below m f)))
lowest_splice (suc n) m f g =
    let h : m ≤ n + m = omega arith in
    let e : n + m - m ≡ n = omega arith in
    ap (λ (x : ℕ). lowest_below x (splice m f g)) (suc-add n m)
    ∙ ap (λ (x : ℕ). lower x (splice m f g (n + m))) (lowest_splice n m f g)
    ∙ ap (lower (lower (lowest_below m f) (lowest_below n g))) (splice_high m f g (n + m) h ∙ ap g e)
    ∙ lower_assoc (lowest_below m f) (lowest_below n g) (g n)
