-- Patterns and the numbers that they stand for, and what `sqrt` gives for each kind of pattern.
use mathlib.Core.Path.{◌≡◌, refl, sym, ap, ◌∙◌, subst}
use mathlib.Core.Logic.{◌⊎◌, inl, inr}
use mathlib.Core.Bool.{Bool, true, false, not, cond}
use Prim.Native.Nat.{ℕ, zero, suc, ◌+◌, ◌-◌, ◌*◌, ◌/◌, ◌%◌, ◌^◌, ◌≤◌, ◌<◌, compare}
use native.Mathlib.Nat.{le_trans, le_of_eq, lt_of_lt_of_le, lt_of_le_of_lt, lt_irrefl, mul-one, mul_assoc, mul-pos, mul-div_cancel, mul_right_comm, zero-mul, mod-eq_of_lt, div-lt_iff_lt-mul, le_of_suc-le-suc, le-add_right, eq-or-lt_of_le, zero-lt-suc, mul-le-mul_right, mul-lt-mul_of_pos_right, pow-succ'}
use native.Mathlib.Omega.{arith}
use lib.Dec.{T, leb, ltb, eqb, lt→ltb, le→leb, not_T, eqb→eq, ltb→lt, nltb→le}
use lib.Arith.{lt→nleb}
use lib.IntN.{ℤ}
use lib.Pow.{pow-add, pow_pos, pow-lt}
use lib.Ieee.{Float, nan, inf, fin, Format, binary32, binary64, prec, emax, low, up, down, size, odd, units, nearest, hid, ones, top, fits, is_nan, nan_bits, of_fields, of_bits, to_bits}
use lib.Ieee.Fits.{two, two-le_pos, odd-fits, down_pos, eq→eqb, nearest-le}
use lib.Ieee.Exact.{HasValue, odd_sign, units_val}
use lib.Ieee.Bits.{is_true, is_false, cond_no, of_bits-to_bits, to_bits-lt, nan_bits_is, nan_bits_above}
use lib.Ieee.Nearest.{nearest-ge}
use Rattle.root.specs.Root.{root_of, sqrt}
use Rattle.root.specs.Steps.{magnitude_at, magnitude, Scales, Rooted}
use Rattle.root.proofs.Rounded.{Leading, dropped, root_of_gives}

-- ---- reading

-- the fields of a number's pattern: below the field of the infinities
fields_value : (f : Format) (s : Bool) (x t : ℕ) → x < ones f → HasValue (of_fields f s x t) s (magnitude_at f x t) (2 ^ low f)
unfolding of_fields magnitude_at
fields_value f s zero t h = subst (λ (n : ℕ). HasValue (odd (prec f) s t 0 (low f)) s n (2 ^ low f)) (mul-one t) (odd_sign (prec f) s t 0 (low f))
fields_value f s (suc x) t h =
    subst (λ (v : Float). HasValue v s ((hid f + t) * 2 ^ x) (2 ^ low f))
    (sym (cond_no (eqb (suc x) (ones f)) (cond (eqb t 0) (inf s) nan) (odd (prec f) s (hid f + t) x (low f)) (not_T (eqb (suc x) (ones f)) (λ e. no (suc x) (ones f) (eqb→eq (suc x) (ones f) e) h))))
    (odd_sign (prec f) s (hid f + t) x (low f))
  where
    no : (a b : ℕ) → a ≡ b → a < b → ⊥
    no a b e l = omega arith

-- a pattern with the sign clear, below the infinity's
positive_fields : (f : Format) (b : ℕ) → b < top f → of_bits f b ≡ of_fields f false (b / hid f) (b % hid f)
unfolding of_bits
positive_fields f b h =
    ap (λ (s : Bool). of_fields f s (b % top f / hid f) (b % hid f)) (is_false (leb (top f) b) (lt→nleb (top f) b h))
    ∙ ap (λ (n : ℕ). of_fields f false (n / hid f) (b % hid f)) (mod-eq_of_lt h)

pub pattern_value : (f : Format) (b : ℕ) → b < ones f * hid f → HasValue (of_bits f b) false (magnitude f b) (2 ^ low f)
unfolding magnitude
pattern_value f b h =
    subst (λ (v : Float). HasValue v false (magnitude_at f (b / hid f) (b % hid f)) (2 ^ low f)) (sym (positive_fields f b (lt_of_lt_of_le h (more (hid f) (ones f)))))
    (fields_value f false (b / hid f) (b % hid f) ((div-lt_iff_lt-mul (pow_pos (prec f - 1))).1 h))
  where
    more : (h o : ℕ) → o * h ≤ h * suc o
    more h o = omega arith

-- ---- the root of a number with a known magnitude

pub fin_root : (f : Format) (m : ℕ) (e : ℤ) → 0 < m → sqrt f (fin false m e) ≡ root_of f (m * up e) (down e)
unfolding sqrt
fin_root f zero e h = absurd (lt_irrefl 0 h)
fin_root f (suc m) e h = refl

factor_pos : (a b c d : ℕ) → a * b * c ≡ d → 0 < d → 0 < a
factor_pos zero b c d e h = absurd (lt_irrefl 0 (subst (λ (x : ℕ). 0 < x) (sym e ∙ ap (λ (x : ℕ). x * c) (zero-mul b) ∙ zero-mul c) h))
factor_pos (suc a) b c d e h = zero-lt-suc a

-- v units, of which the leading digits' root and rest are q and r
pub sqrt_gives : (f : Format) (x : Float) (v q r k : ℕ) → HasValue x false v (2 ^ low f) → 0 < v → Leading f (v * 2 ^ low f) 1 q r k
    → sqrt f x ≡ units f false (nearest q (compare (r * 4) (q * 4 + 1))) k
sqrt_gives f nan v q r k h p l = absurd h
sqrt_gives f (inf s) v q r k h p l = absurd h
sqrt_gives f (fin true m e) v q r k h p l = absurd (true_false h.0)
  where
    true_false : true ≡ false → ⊥
    true_false e = subst T e tt
sqrt_gives f (fin false m e) v q r k h p l =
    fin_root f m e (factor_pos m (up e) (2 ^ low f) (v * down e) h.1 (mul-pos p (down_pos e)))
    ∙ root_of_gives f (m * up e) (down e) q r k (down_pos e) record {
      value = spread (m * up e) (2 ^ low f) v (down e) ((q * q + r) * (2 ^ k * 2 ^ k)) h.1 l.value;
      rest = l.rest;
      least = l.least;
      most = l.most;
    }
  where
    spread : (n L v d A : ℕ) → n * L ≡ v * d → v * L ≡ A * 1 → n * (L * L) ≡ A * d
    spread n L v d A e g =
        sym (mul_assoc n L L) ∙ ap (λ (x : ℕ). x * L) e ∙ mul_right_comm v d L ∙ ap (λ (x : ℕ). x * d) (g ∙ mul-one A)

-- ---- writing

-- the pattern of a number of n units
to_bits_units : (f : Format) (v : Float) (n : ℕ) → HasValue v false n (2 ^ low f) → to_bits f v ≡ (size n - prec f) * hid f + n / 2 ^ (size n - prec f)
unfolding to_bits
to_bits_units f nan n h = absurd h
to_bits_units f (inf s) n h = absurd h
to_bits_units f (fin s m e) n h =
    let i : m * up e * 2 ^ low f / down e ≡ n = ap (λ (x : ℕ). x / down e) h.1 ∙ mul-div_cancel n (down_pos e) in
    ap (λ (x : ℕ). cond s (top f) 0 + (size x - prec f) * hid f + x / 2 ^ (size x - prec f)) i
    ∙ ap (λ (t : Bool). cond t (top f) 0 + (size n - prec f) * hid f + n / 2 ^ (size n - prec f)) h.0
    ∙ none ((size n - prec f) * hid f) (n / 2 ^ (size n - prec f))
  where
    none : (a b : ℕ) → 0 + a + b ≡ a + b
    none a b = omega arith

twice_hid : (f : Format) → 2 ^ prec f ≡ 2 * hid f
twice_hid binary32 = refl
twice_hid binary64 = refl

digits_pos : (f : Format) → 0 < prec f
digits_pos f = two-le_pos (prec f) (two f)

-- with all digits in q the leading one adds one to the field
written : (f : Format) (q k : ℕ) → hid f ≤ q → q < 2 ^ prec f → (size (q * 2 ^ k) - prec f) * hid f + q * 2 ^ k / 2 ^ (size (q * 2 ^ k) - prec f) ≡ k * hid f + q
written f q k lo hi =
    ap (λ (j : ℕ). j * hid f + q * 2 ^ k / 2 ^ j) (dropped (prec f) (q * 2 ^ k) q k (digits_pos f) lo hi (le_of_eq refl) (mul-lt-mul_of_pos_right (less q) (pow_pos k)))
    ∙ ap (λ (x : ℕ). k * hid f + x) (mul-div_cancel q (pow_pos k))
  where
    less : (q : ℕ) → q < q + 1
    less q = omega arith

-- also where rounding up has made it one digit more
written_up : (f : Format) (q k : ℕ) → hid f ≤ q → q ≤ 2 * hid f → (size (q * 2 ^ k) - prec f) * hid f + q * 2 ^ k / 2 ^ (size (q * 2 ^ k) - prec f) ≡ k * hid f + q
written_up f q k lo hi = go (eq-or-lt_of_le hi)
  where
    P : ℕ → ℕ
    P n = (size n - prec f) * hid f + n / 2 ^ (size n - prec f)

    carried : (h K : ℕ) → 2 * h * K ≡ h * (2 * K)
    carried h K = omega arith

    one_field : (k h : ℕ) → suc k * h + h ≡ k * h + 2 * h
    one_field k h = omega arith

    grows : (h : ℕ) → 0 < h → h < 2 * h
    grows h p = omega arith

    go : (q ≡ 2 * hid f) ⊎ (q < 2 * hid f) → P (q * 2 ^ k) ≡ k * hid f + q
    go (inl e) =
        ap P (ap (λ (x : ℕ). x * 2 ^ k) e ∙ carried (hid f) (2 ^ k) ∙ ap (λ (x : ℕ). hid f * x) (sym (pow-succ' 2 k)))
        ∙ written f (hid f) (suc k) (le_of_eq refl) (subst (λ (x : ℕ). hid f < x) (sym (twice_hid f)) (grows (hid f) (pow_pos (prec f - 1))))
        ∙ one_field k (hid f)
        ∙ ap (λ (x : ℕ). k * hid f + x) (sym e)
    go (inr l) = written f q k lo (subst (λ (x : ℕ). q < x) (sym (twice_hid f)) l)

units_fits : (f : Format) (q k : ℕ) → q ≤ 2 * hid f → q * 2 ^ k < 2 ^ (low f + suc (emax f)) → T (fits f (units f false q k))
unfolding units
units_fits f q k hi small = go (ltb (q * 2 ^ k) (2 ^ (low f + suc (emax f)))) (lt→ltb (q * 2 ^ k) (2 ^ (low f + suc (emax f))) small)
  where
    fitting : q ≤ 2 ^ prec f
    fitting = subst (λ (x : ℕ). q ≤ x) (sym (twice_hid f)) hi

    doubled : (a b c : ℕ) → a ≤ b → 0 < b → c ≡ 2 * b → a < c
    doubled a b c h p e = omega arith

    go : (b : Bool) → T b → T (fits f (cond b (odd (suc (prec f)) false q k (low f)) (inf false)))
    go true t = odd-fits f (suc (prec f)) false q k (doubled q (2 ^ prec f) (2 ^ suc (prec f)) fitting (pow_pos (prec f)) (pow-succ' 2 (prec f))) fitting small
    go false t = absurd t

-- q * 2 ^ k units as a pattern
pub units_pattern : (f : Format) (q k : ℕ) → hid f ≤ q → q ≤ 2 * hid f → q * 2 ^ k < 2 ^ (low f + suc (emax f)) → of_bits f (k * hid f + q) ≡ units f false q k
units_pattern f q k lo hi small =
    ap (of_bits f) (sym (to_bits_units f (units f false q k) (q * 2 ^ k) (units_val f false q k small) ∙ written_up f q k lo hi))
    ∙ of_bits-to_bits f (units f false q k) (units_fits f q k hi small)

-- ---- the root by patterns of binary64

-- 2 * 2 ^ 52 digits and 1533 places more are far below the infinity
pub far_below : (q k : ℕ) → q ≤ 9007199254740992 → k ≤ 1533 → q * 2 ^ k < 2 ^ (low binary64 + suc (emax binary64))
far_below q k h g =
    lt_of_le_of_lt (le_trans (mul-le-mul_right (2 ^ k) h) (le_of_eq (sym (pow-add 2 53 k)))) (pow-lt (less k g))
  where
    less : (k : ℕ) → k ≤ 1533 → 53 + k < 2098
    less k h = omega arith

magnitude_at_pos : (f : Format) (x t : ℕ) → (x ≡ 0 → 0 < t) → 0 < magnitude_at f x t
unfolding magnitude_at
magnitude_at_pos f zero t h = h refl
magnitude_at_pos f (suc x) t h = mul-pos (lt_of_lt_of_le (pow_pos (prec f - 1)) (le-add_right (hid f) t)) (pow_pos x)

pub magnitude_pos : (b : ℕ) → 0 < b → 0 < magnitude binary64 b
unfolding magnitude
magnitude_pos b h = magnitude_at_pos binary64 (b / 4503599627370496) (b % 4503599627370496) (λ (e : b / 4503599627370496 ≡ 0). omega arith)

pub root_leading : (b a k q r : ℕ) → Scales b a k → Rooted a q r → Leading binary64 (magnitude binary64 b * 2 ^ low binary64) 1 q r k
root_leading b a k q r s w = record {
  value = sym s.value ∙ ap (λ (x : ℕ). x * (2 ^ k * 2 ^ k)) (sym w.value) ∙ sym (mul-one ((q * q + r) * (2 ^ k * 2 ^ k)));
  rest = w.rest;
  least = w.least;
  most = w.most;
}

-- the last digit, decided
pub decided_least : (q r n : ℕ) → 4503599627370496 ≤ q → n ≡ nearest q (compare (r * 4) (q * 4 + 1)) → 4503599627370496 ≤ n
decided_least q r n h e = subst (λ (x : ℕ). 4503599627370496 ≤ x) (sym e) (le_trans h (nearest-ge q (compare (r * 4) (q * 4 + 1))))

pub decided_most : (q r n : ℕ) → q < 9007199254740992 → n ≡ nearest q (compare (r * 4) (q * 4 + 1)) → n ≤ 9007199254740992
decided_most q r n h e = subst (λ (x : ℕ). x ≤ 9007199254740992) (sym e) (le_trans (nearest-le q (compare (r * 4) (q * 4 + 1))) h)

pub root_positive : (b a k q r n : ℕ) → 0 < b → b < 9218868437227405312 → Scales b a k → Rooted a q r
    → n ≡ nearest q (compare (r * 4) (q * 4 + 1)) → of_bits binary64 (k * 4503599627370496 + n) ≡ sqrt binary64 (of_bits binary64 b)
root_positive b a k q r n p h s w d =
    units_pattern binary64 n k (decided_least q r n w.least d) most (far_below n k most s.under)
    ∙ ap (λ (i : ℕ). units binary64 false i k) d
    ∙ sym (sqrt_gives binary64 (of_bits binary64 b) (magnitude binary64 b) q r k (pattern_value binary64 b h) (magnitude_pos b p) (root_leading b a k q r s w))
  where
    most : n ≤ 9007199254740992
    most = decided_most q r n w.most d

plus_zero : of_bits binary64 0 ≡ sqrt binary64 (of_bits binary64 0)
unfolding sqrt of_bits
plus_zero = refl

minus_zero : of_bits binary64 9223372036854775808 ≡ sqrt binary64 (of_bits binary64 9223372036854775808)
unfolding sqrt of_bits
minus_zero = refl

pub root_zero : (x : Float) (b : ℕ) → of_bits binary64 b ≡ x → b < 18446744073709551616 → b % 9223372036854775808 ≡ 0 → x ≡ sqrt binary64 x
root_zero x b e h z = sym e ∙ go (zeros b h z) ∙ ap (sqrt binary64) e
  where
    zeros : (b : ℕ) → b < 18446744073709551616 → b % 9223372036854775808 ≡ 0 → (b ≡ 0) ⊎ (b ≡ 9223372036854775808)
    zeros b h z = pick (ltb b 9223372036854775808) (ltb→lt b 9223372036854775808) (nltb→le b 9223372036854775808)
      where
        pick : (t : Bool) → (T t → b < 9223372036854775808) → (T (not t) → 9223372036854775808 ≤ b) → (b ≡ 0) ⊎ (b ≡ 9223372036854775808)
        pick true l g = inl (let i = l tt in omega arith)
        pick false l g = inr (let i = g tt in omega arith)

    go : (b ≡ 0) ⊎ (b ≡ 9223372036854775808) → of_bits binary64 b ≡ sqrt binary64 (of_bits binary64 b)
    go (inl i) = subst (λ (n : ℕ). of_bits binary64 n ≡ sqrt binary64 (of_bits binary64 n)) (sym i) plus_zero
    go (inr i) = subst (λ (n : ℕ). of_bits binary64 n ≡ sqrt binary64 (of_bits binary64 n)) (sym i) minus_zero

pub root_infinity : (x : Float) → of_bits binary64 9218868437227405312 ≡ x → x ≡ sqrt binary64 x
unfolding sqrt of_bits
root_infinity x e = sym e ∙ ap (sqrt binary64) e

pub root_nan : (x : Float) → is_nan x ≡ true → x ≡ sqrt binary64 x
unfolding sqrt is_nan
root_nan nan e = refl
root_nan (inf s) e = absurd (subst T (sym e) tt)
root_nan (fin s m k) e = absurd (subst T (sym e) tt)

-- below zero
value_negative : (f : Format) (x : Float) (v c : ℕ) → 0 < v → 0 < c → HasValue x true v c → sqrt f x ≡ nan
unfolding sqrt
value_negative f nan v c p d h = refl
value_negative f (inf s) v c p d h = absurd h
value_negative f (fin s zero e) v c p d h = absurd (lt_irrefl 0 (factor_pos 0 (up e) c (v * down e) h.1 (mul-pos p (down_pos e))))
value_negative f (fin true (suc m) e) v c p d h = refl
value_negative f (fin false (suc m) e) v c p d h = absurd (subst T (sym h.0) tt)

top_negative : (f : Format) (b : Bool) → sqrt f (cond b (inf true) nan) ≡ nan
unfolding sqrt
top_negative f true = refl
top_negative f false = refl

no_field : (m : ℕ) → 0 ≡ 2 * m + 1 → ⊥
no_field m e = omega arith

top_field : (f : Format) (t x : ℕ) → x ≡ ones f → of_fields f true x t ≡ cond (eqb t 0) (inf true) nan
unfolding of_fields
top_field f t zero e = absurd (no_field (emax f) e)
top_field f t (suc x) e = ap (λ (b : Bool). cond b (cond (eqb t 0) (inf true) nan) (odd (prec f) true (hid f + t) x (low f))) (is_true (eqb (suc x) (ones f)) (eq→eqb e))

fields_negative : (f : Format) (x t : ℕ) → x < suc (ones f) → (x ≡ 0 → 0 < t) → sqrt f (of_fields f true x t) ≡ nan
fields_negative f x t h p = go (eq-or-lt_of_le (le_of_suc-le-suc h))
  where
    go : (x ≡ ones f) ⊎ (x < ones f) → sqrt f (of_fields f true x t) ≡ nan
    go (inl e) = ap (sqrt f) (top_field f t x e) ∙ top_negative f (eqb t 0)
    go (inr l) = value_negative f (of_fields f true x t) (magnitude_at f x t) (2 ^ low f) (magnitude_at_pos f x t p) (pow_pos (low f)) (fields_value f true x t l)

negative_fields : (b : ℕ) → 9223372036854775808 ≤ b → of_bits binary64 b ≡ of_fields binary64 true (b % 9223372036854775808 / 4503599627370496) (b % 4503599627370496)
unfolding of_bits
negative_fields b h = ap (λ (s : Bool). of_fields binary64 s (b % 9223372036854775808 / 4503599627370496) (b % 4503599627370496)) (is_true (leb 9223372036854775808 b) (le→leb 9223372036854775808 b h))

pub root_negative : (x : Float) (b : ℕ) → of_bits binary64 b ≡ x → 9223372036854775808 ≤ b → (b % 9223372036854775808 ≡ 0 → ⊥) → nan ≡ sqrt binary64 x
root_negative x b e h z =
    sym (fields_negative binary64 (b % 9223372036854775808 / 4503599627370496) (b % 4503599627370496) (omega arith) (λ (i : b % 9223372036854775808 / 4503599627370496 ≡ 0). omega arith))
    ∙ ap (sqrt binary64) (sym (negative_fields b h) ∙ e)

-- a pattern below the infinity's is no NaN's
pub number_pattern : (b : ℕ) → b < 9218868437227405312 → T (not (nan_bits binary64 b))
number_pattern b h = subst (λ (t : Bool). T (not t)) (sym (nan_bits_above binary64 b)) (not_T (ltb 9218868437227405312 (b % 9223372036854775808)) (λ t. no (ltb→lt 9218868437227405312 (b % 9223372036854775808) t)))
  where
    no : 9218868437227405312 < b % 9223372036854775808 → ⊥
    no l = omega arith

-- the pattern that the machine writes for a value that is no NaN: it is read as the value, and lies at the infinity's or below, its sign aside
pub record Written (x : Float) (b : ℕ) : Type 0 where
  pub reads : of_bits binary64 b ≡ x
  pub wide : b < 18446744073709551616
  pub number : b % 9223372036854775808 ≤ 9218868437227405312

pub pattern_written : (x : Float) → fits binary64 x ≡ true → is_nan x ≡ false → Written x (to_bits binary64 x)
pattern_written x g e =
    let i : T (fits binary64 x) = subst T (sym g) tt in
    let b = to_bits binary64 x in
    let r : of_bits binary64 b ≡ x = of_bits-to_bits binary64 x i in
    let n : ltb 9218868437227405312 (b % 9223372036854775808) ≡ is_nan x = sym (nan_bits_above binary64 b) ∙ nan_bits_is binary64 b ∙ ap is_nan r in
    record { reads = r; wide = to_bits-lt binary64 x i; number = nltb→le 9218868437227405312 (b % 9223372036854775808) (subst (λ (t : Bool). T (not t)) (sym (n ∙ e)) tt) }
