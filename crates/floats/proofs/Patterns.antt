-- Of patterns whose sign bit is clear the larger has the larger value, so a book's floats are the patterns up to that of 1,000,000,000. Assumes nothing.
use mathlib.Core.Path.{◌≡◌, refl, sym, ap, ◌∙◌, subst}
use mathlib.Core.Logic.{◌⊎◌, inl, inr}
use mathlib.Core.Bool.{Bool, true, false, true≢false}
use Prim.Native.Nat.{ℕ, zero, suc, ◌+◌, ◌*◌, ◌/◌, ◌%◌, ◌^◌, ◌≤◌, ◌<◌}
use native.Mathlib.Nat.{le_refl, mod-eq_of_lt, mul-le-mul_right, mul-le-mul_left, lt_of_mul-lt-mul_right, mul-lt-mul_of_pos_right, eq-or-lt_of_le}
use native.Mathlib.Omega.{arith}
use borrow.Author.Tests.{ltb-true, ltb-false, leb-true, leb-false, lt-ltb, lt-leb, ne_eqb}
use lib.Dec.{ltb, leb, eqb, leb→le}
use lib.IntN.{ℤ}
use lib.Pow.{pow_pos, pow-lt}
use lib.Ieee.{Float, nan, inf, fin, binary64, prec, low, up, down, top, ones, hid, lt, le, of_int, of_fields, of_bits}
use lib.Ieee.Bits.{is_true}
use lib.Ieee.Exact.{HasValue, odd_sign}
use lib.Ieee.Fits.{down_pos}
use lib.Ieee.Order.{le_of_values}
use Rattle.floats.specs.Floats.{billion, table_float, book_float}
use Rattle.floats.proofs.Laws.{book_high}
use Rattle.floats.proofs.Order.{le_not_lt}

-- the pattern of 1,000,000,000, and that of the infinity
abbrev limit : ℕ
limit = 0x41cd_cd65_0000_0000

abbrev infinity : ℕ
infinity = ones binary64 * hid binary64

-- ---- a value of a / c beside 1,000,000,000

billion_value : HasValue billion false 1000000000 1
unfolding billion of_int
billion_value = (refl, refl)

table_is : (x : Float) (a c : ℕ) → HasValue x false a c → table_float x ≡ le x billion
unfolding table_float
table_is nan a c v = absurd v
table_is (inf t) a c v = absurd v
table_is (fin t m e) a c v = ap (λ (s : Bool). le (fin s m e) billion) (sym v.0)

up_to : (x : Float) (a c : ℕ) → 0 < c → HasValue x false a c → a ≤ 1000000000 * c → table_float x ≡ true
up_to x a c p v h = table_is x a c v ∙ is_true (le x billion) (le_of_values x billion a c 1000000000 1 p (omega arith) v billion_value (omega arith))

lt_above : (m : ℕ) (e : ℤ) → 1000000000 * down e < m * up e → lt billion (fin false m e) ≡ true
unfolding lt billion of_int
lt_above m e h = lt-ltb (1000000000 * down e) (m * up e * 1) (omega arith)

above : (x : Float) (a c : ℕ) → 0 < c → HasValue x false a c → 1000000000 * c < a → table_float x ≡ false
above nan a c p v h = absurd v
above (inf t) a c p v h = absurd v
above (fin t m e) a c p v h =
    let g : 1000000000 * c * down e < a * down e = mul-lt-mul_of_pos_right h (down_pos e) in
    let f : 1000000000 * down e * c < m * up e * c = omega (arith, v.1) in
    let l : 1000000000 * down e < m * up e = lt_of_mul-lt-mul_right c f in
    table_is (fin t m e) a c v ∙ ap (λ (s : Bool). le (fin s m e) billion) v.0 ∙ go (le (fin false m e) billion) refl l
  where
    go : (r : Bool) → le (fin false m e) billion ≡ r → 1000000000 * down e < m * up e → r ≡ false
    go true q l = absurd (true≢false (sym (lt_above m e l) ∙ le_not_lt (fin false m e) billion q))
    go false q l = refl

-- ---- the value of a pattern

first_value : (t : ℕ) → HasValue (of_fields binary64 false 0 t) false (t * 2 ^ 0) (2 ^ low binary64)
unfolding of_fields
first_value t = odd_sign (prec binary64) false t 0 (low binary64)

later_value : (x t : ℕ) → eqb (suc x) (ones binary64) ≡ false → HasValue (of_fields binary64 false (suc x) t) false ((hid binary64 + t) * 2 ^ x) (2 ^ low binary64)
unfolding of_fields
later_value x t e = rw e (odd_sign (prec binary64) false (hid binary64 + t) x (low binary64))

bits_are : (n : ℕ) → n < top binary64 → of_bits binary64 n ≡ of_fields binary64 false (n / hid binary64) (n % hid binary64)
unfolding of_bits
bits_are n h = rw (lt-leb (top binary64) n h, mod-eq_of_lt h)

-- ---- by the exponent's field

pow_up : (i j : ℕ) → i ≤ j → 2 ^ i ≤ 2 ^ j
pow_up i j h = go (eq-or-lt_of_le h)
  where
    go : (i ≡ j) ⊎ (i < j) → 2 ^ i ≤ 2 ^ j
    go (inl e) = subst (λ (k : ℕ). 2 ^ i ≤ 2 ^ k) e (le_refl (2 ^ i))
    go (inr l) = let p : 2 ^ i < 2 ^ j = pow-lt l in omega arith

product_up : (a A b B : ℕ) → a ≤ A → b ≤ B → a * b ≤ A * B
product_up a A b B h g =
    let p : a * b ≤ A * b = mul-le-mul_right b h in
    let q : A * b ≤ A * B = mul-le-mul_left A g in
    omega arith

through : (a b c : ℕ) → a ≤ b → b ≤ c → a ≤ c
through a b c h g = omega arith

small : (t P : ℕ) → t ≤ P → t * 1 ≤ 1000000000 * P
small t P h = omega arith

-- 1,000,000,000 is 8388608000000000 / 2 ^ 23
at_limit : 8388608000000000 * 2 ^ 1051 ≡ 1000000000 * 2 ^ 1074
at_limit = refl

under_limit : 9007199254740992 * 2 ^ 1050 ≤ 1000000000 * 2 ^ 1074
under_limit = leb→le (9007199254740992 * 2 ^ 1050) (1000000000 * 2 ^ 1074) tt

over_limit : 1000000000 * 2 ^ 1074 < 4503599627370496 * 2 ^ 1052
over_limit = leb→le (suc (1000000000 * 2 ^ 1074)) (4503599627370496 * 2 ^ 1052) tt

low_pattern : (n : ℕ) → n ≤ limit → table_float (of_bits binary64 n) ≡ true
low_pattern n h = ap table_float (bits_are n (omega arith)) ∙ go (n / 4503599627370496) (n % 4503599627370496) refl refl
  where
    go : (x t : ℕ) → n / 4503599627370496 ≡ x → n % 4503599627370496 ≡ t → table_float (of_fields binary64 false x t) ≡ true
    go zero t e f = up_to (of_fields binary64 false 0 t) (t * 2 ^ 0) (2 ^ low binary64) (pow_pos (low binary64)) (first_value t) (small t (2 ^ low binary64) (through t 4503599627370496 (2 ^ low binary64) (omega arith) (leb→le 4503599627370496 (2 ^ 1074) tt)))
    go (suc y) t e f =
        up_to (of_fields binary64 false (suc y) t) ((4503599627370496 + t) * 2 ^ y) (2 ^ 1074) (pow_pos 1074)
        (later_value y t (ne_eqb (suc y) 2047 (λ (q : suc y ≡ 2047). omega arith)))
        (part (eq-or-lt_of_le (inside y e)))
      where
        inside : (y : ℕ) → n / 4503599627370496 ≡ suc y → y ≤ 1051
        inside y e = omega arith

        part : (y ≡ 1051) ⊎ (y < 1051) → (4503599627370496 + t) * 2 ^ y ≤ 1000000000 * 2 ^ 1074
        part (inl d) = subst (λ (k : ℕ). (4503599627370496 + t) * 2 ^ y ≤ k) at_limit (product_up (4503599627370496 + t) 8388608000000000 (2 ^ y) (2 ^ 1051) (omega arith) (pow_up y 1051 (omega arith)))
        part (inr l) =
            let p = product_up (4503599627370496 + t) 9007199254740992 (2 ^ y) (2 ^ 1050) (omega arith) (pow_up y 1050 (omega arith)) in
            through ((4503599627370496 + t) * 2 ^ y) (9007199254740992 * 2 ^ 1050) (1000000000 * 2 ^ 1074) p under_limit

-- what lies between the limit and the infinity
high_pattern : (n : ℕ) → limit < n → n < infinity → table_float (of_bits binary64 n) ≡ false
high_pattern n h g = ap table_float (bits_are n (omega arith)) ∙ go (n / 4503599627370496) (n % 4503599627370496) refl refl
  where
    go : (x t : ℕ) → n / 4503599627370496 ≡ x → n % 4503599627370496 ≡ t → table_float (of_fields binary64 false x t) ≡ false
    go zero t e f = absurd (omega arith)
    go (suc y) t e f =
        above (of_fields binary64 false (suc y) t) ((4503599627370496 + t) * 2 ^ y) (2 ^ 1074) (pow_pos 1074)
        (later_value y t (ne_eqb (suc y) 2047 (λ (q : suc y ≡ 2047). omega arith)))
        (part (eq-or-lt_of_le (inside y e)))
      where
        inside : (y : ℕ) → n / 4503599627370496 ≡ suc y → 1051 ≤ y
        inside y e = omega arith

        part : (1051 ≡ y) ⊎ (1051 < y) → 1000000000 * 2 ^ 1074 < (4503599627370496 + t) * 2 ^ y
        part (inl d) =
            through (suc (1000000000 * 2 ^ 1074)) (8388608000000001 * 2 ^ 1051) ((4503599627370496 + t) * 2 ^ y) (leb→le (suc (1000000000 * 2 ^ 1074)) (8388608000000001 * 2 ^ 1051) tt)
            (product_up 8388608000000001 (4503599627370496 + t) (2 ^ 1051) (2 ^ y) (omega arith) (pow_up 1051 y (omega arith)))
        part (inr l) =
            through (suc (1000000000 * 2 ^ 1074)) (4503599627370496 * 2 ^ 1052) ((4503599627370496 + t) * 2 ^ y) over_limit
            (product_up 4503599627370496 (4503599627370496 + t) (2 ^ 1052) (2 ^ y) (omega arith) (pow_up 1052 y l))

infinity_refused : table_float (of_bits binary64 infinity) ≡ false
unfolding table_float of_bits
infinity_refused = refl

-- ---- a book's float

under_top : (n : ℕ) (r : Bool) → n < top binary64 → table_float (of_bits binary64 n) ≡ r → book_float n ≡ r
unfolding book_float
under_top n r h e = rw (lt-ltb n (top binary64) h, e)

pub book_is : (n : ℕ) → leb n limit ≡ book_float n
book_is n = go (leb n limit) refl
  where
    beyond : (s : Bool) → ltb infinity n ≡ s → limit < n → false ≡ book_float n
    beyond true e h = book_high n (ltb-true infinity n e)
    beyond false e h = sym (under_top n false (omega (arith, ltb-false infinity n e)) (part (eq-or-lt_of_le (ltb-false infinity n e))))
      where
        part : (n ≡ infinity) ⊎ (n < infinity) → table_float (of_bits binary64 n) ≡ false
        part (inl d) = ap (λ (k : ℕ). table_float (of_bits binary64 k)) d ∙ infinity_refused
        part (inr l) = high_pattern n h l

    go : (r : Bool) → leb n limit ≡ r → r ≡ book_float n
    go true e = let h : n ≤ limit = leb-true n limit e in sym (under_top n true (omega arith) (low_pattern n h))
    go false e = beyond (ltb infinity n) refl (leb-false n limit e)
