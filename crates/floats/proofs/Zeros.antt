-- Zeros of either sign in quotients and differences: a zero over a zero has no value, a zero over any other number is a zero, and a value with the sign clear less a zero is itself. Assumes nothing.
use mathlib.Core.Path.{◌≡◌, refl, sym, ap, ◌∙◌}
use mathlib.Core.Bool.{Bool, true, false, ◌&&◌, ◌||◌, beq, cond}
use mathlib.Core.Logic.{◌≢◌}
use Prim.Native.Nat.{ℕ, zero, suc, ◌+◌, ◌-◌, ◌*◌, ◌/◌, ◌^◌, ◌<◌}
use native.Mathlib.Nat.{mul-pos, zero-lt-suc, mul_right_comm}
use native.Mathlib.Omega.{arith}
use borrow.Author.Tests.{eqb-true, eq-eqb, ne_eqb, le-ltb}
use lib.Dec.{T, ltb, eqb}
use lib.IntN.{ℤ, pos}
use lib.Ieee.{Float, nan, inf, fin, Format, binary64, prec, low, up, down, hid, unlike, size, round, neg, sum, add, sub, div, eq, is_nan, fits, of_bits, to_bits}
use lib.Ieee.Bits.{of_bits-to_bits}
use lib.Ieee.Exact.{HasValue}
use lib.Ieee.Fits.{up_pos, down_pos, round-fits}
use lib.Ieee.Nearest.{div_same}
use lib.Ieee.Scale.{finite, round_same}
use Rattle.laws.proofs.Truth.{never, not_both, or_right, and_left}
use Rattle.floats.proofs.Order.{itself, round_number}

abbrev origin : Float
origin = of_bits binary64 0

-- ---- a float that is a zero

pub no_digits : (s : Bool) (m : ℕ) (e : ℤ) → eq (fin s m e) origin ≡ true → m ≡ 0
unfolding eq of_bits
no_digits s zero e h = refl
no_digits s (suc m) e h =
    let l : suc m * up e * 1 ≡ 0 * down e = eqb-true (suc m * up e * 1) (0 * down e) (and_left (eqb (suc m * up e * 1) (0 * down e)) (beq s false || eqb (suc m * up e * 1) 0) h) in
    absurd (omega (arith, up_pos e, mul-pos (zero-lt-suc m) (up_pos e)))

-- the quotient of two zeros has no value
pub zero_quotient : (x y : Float) → eq x origin ≡ true → eq y origin ≡ true → div binary64 x y ≡ nan
unfolding eq div of_bits
zero_quotient nan y h k = refl
zero_quotient (inf s) y h k = never (sym h)
zero_quotient (fin s m e) nan h k = refl
zero_quotient (fin s m e) (inf t) h k = never (sym k)
zero_quotient (fin s m e) (fin t n d) h k =
    ap (λ (z : Bool). cond z (cond (eqb m 0) nan (inf (unlike s t))) (round binary64 (unlike s t) (m * up e * down d) (n * up d * down e))) (eq-eqb n 0 (no_digits t n d k))
    ∙ ap (λ (z : Bool). cond z nan (inf (unlike s t))) (eq-eqb m 0 (no_digits s m e h))

-- nor has a difference with what has none
pub less_nan : (x : Float) → sub binary64 x nan ≡ nan
unfolding sub add neg
less_nan nan = refl
less_nan (inf s) = refl
less_nan (fin s m e) = refl

-- a zero over any other number is a zero
zero_rounded : (s : Bool) → round binary64 s 0 1 ≡ fin s 0 (pos 0)
unfolding round
zero_rounded s = refl

none_times : (m u d : ℕ) → m ≡ 0 → m * u * d ≡ 0
none_times zero u d h = omega arith
none_times (suc m) u d h = absurd (omega arith)

some_digits : (t : Bool) (n : ℕ) (d : ℤ) → eq (fin t n d) origin ≡ false → n ≢ 0
unfolding eq of_bits
some_digits t zero d h z = not_both (or_right (beq t false) true refl) (rw (eq-eqb (0 * up d * 1) (0 * down d) (omega arith), eq-eqb (0 * up d * 1) 0 (omega arith)) at h)
some_digits t (suc n) d h z = omega arith

pub zero_over : (x y : Float) → eq x origin ≡ true → is_nan y ≡ false → eq y origin ≡ false → (u : Bool) × (div binary64 x y ≡ fin u 0 (pos 0))
unfolding eq div of_bits is_nan
zero_over nan y h k g = never (sym h)
zero_over (inf s) y h k g = never (sym h)
zero_over (fin s m e) nan h k g = never k
zero_over (fin s m e) (inf t) h k g = (unlike s t, refl)
zero_over (fin s m e) (fin t n d) h k g =
    let n≢0 : n ≢ 0 = some_digits t n d g in
    let c : 0 < n * up d * down e = mul-pos (mul-pos (above n n≢0) (up_pos d)) (down_pos e) in (
      unlike s t,
      ap (λ (z : Bool). cond z (cond (eqb m 0) nan (inf (unlike s t))) (round binary64 (unlike s t) (m * up e * down d) (n * up d * down e))) (ne_eqb n 0 n≢0)
          ∙ round_same binary64 (unlike s t) (m * up e * down d) (n * up d * down e) 0 1 c (zero-lt-suc 0) (same (m * up e * down d) (n * up d * down e) (none_times m (up e) (down d) (no_digits s m e h)))
          ∙ zero_rounded (unlike s t),
    )
  where
    above : (n : ℕ) → n ≢ 0 → 0 < n
    above n h = omega arith

    same : (a c : ℕ) → a ≡ 0 → a * 1 ≡ 0 * c
    same a c z = omega arith

-- ---- the sum of two finite values is a number

pub finite_sum : (x y : Float) → finite x ≡ true → finite y ≡ true → is_nan (add binary64 x y) ≡ false
unfolding add sum
finite_sum nan y h k = never (sym h)
finite_sum (inf s) y h k = never (sym h)
finite_sum (fin s m e) nan h k = never (sym k)
finite_sum (fin s m e) (inf t) h k = never (sym k)
finite_sum (fin s m e) (fin t n d) h k =
    let a = m * up e * down d in
    let b = n * up d * down e in
    let c = down e * down d in
    either (beq s t) (round binary64 s (a + b) c) (cond (ltb a b) (round binary64 t (b - a) c) (round binary64 (s && ltb b a) (a - b) c)) (round_number binary64 s (a + b) c)
    (either (ltb a b) (round binary64 t (b - a) c) (round binary64 (s && ltb b a) (a - b) c) (round_number binary64 t (b - a) c) (round_number binary64 (s && ltb b a) (a - b) c))
  where
    either : (z : Bool) (x y : Float) → is_nan x ≡ false → is_nan y ≡ false → is_nan (cond z x y) ≡ false
    either true x y p q = p
    either false x y p q = q

-- ---- a value that its format holds

-- of two values with the sign clear that are the same number the patterns are the same
same_bits : (f : Format) (m : ℕ) (e : ℤ) (n : ℕ) (d : ℤ) → m * up e * down d ≡ n * up d * down e → to_bits f (fin false m e) ≡ to_bits f (fin false n d)
unfolding to_bits
same_bits f m e n d h =
    ap (λ (x : ℕ). 0 + (size x - prec f) * hid f + x / 2 ^ (size x - prec f))
    (div_same (m * up e * 2 ^ low f) (down e) (n * up d * 2 ^ low f) (down d) (down_pos e) (down_pos d)
    (mul_right_comm (m * up e) (2 ^ low f) (down d) ∙ ap (λ (x : ℕ). x * 2 ^ low f) h ∙ mul_right_comm (n * up d) (down e) (2 ^ low f)))

-- it rounds to itself
pub own_rounded : (f : Format) (m : ℕ) (e : ℤ) → T (fits f (fin false m e)) → round f false (m * up e) (down e) ≡ fin false m e
own_rounded f m e t = go (round f false (m * up e) (down e)) (round-fits f false (m * up e) (down e)) (itself f false m e t)
  where
    go : (x : Float) → T (fits f x) → HasValue x false (m * up e) (down e) → x ≡ fin false m e
    go nan p v = absurd v
    go (inf s) p v = absurd v
    go (fin true n d) p v = never v.0
    go (fin false n d) p v = sym (of_bits-to_bits f (fin false n d) p) ∙ ap (of_bits f) (same_bits f n d m e v.1) ∙ of_bits-to_bits f (fin false m e) t

-- less a zero it is itself
pub less_zero : (u : Bool) (m : ℕ) (e : ℤ) → T (fits binary64 (fin false m e)) → sub binary64 (fin false m e) (fin u 0 (pos 0)) ≡ fin false m e
unfolding sub add neg sum
less_zero true m e t =
    round_same binary64 false (m * up e * 1 + 0 * down e) (down e * 1) (m * up e) (down e) (mul-pos (down_pos e) (zero-lt-suc 0)) (down_pos e) (omega arith)
    ∙ own_rounded binary64 m e t
less_zero false m e t =
    let a : m * up e * 1 - 0 * down e ≡ m * up e = omega arith in
    let b : (m * up e * 1 - 0 * down e) * down e ≡ m * up e * down e = ap (λ (x : ℕ). x * down e) a in
    ap (λ (z : Bool). cond z (round binary64 true (0 * down e - m * up e * 1) (down e * 1)) (round binary64 false (m * up e * 1 - 0 * down e) (down e * 1))) (le-ltb (m * up e * 1) (0 * down e) (omega arith))
    ∙ round_same binary64 false (m * up e * 1 - 0 * down e) (down e * 1) (m * up e) (down e) (mul-pos (down_pos e) (zero-lt-suc 0)) (down_pos e) (omega (arith, b))
    ∙ own_rounded binary64 m e t
