-- Laws of the definitions of specs/Floats.antt, one for each way through the code. A function's proof hands them what its branches told.
-- Assumes nothing.
use mathlib.Core.Path.{◌≡◌, refl, sym, ap, ◌∙◌, subst}
use mathlib.Core.Bool.{Bool, true, false, not, ◌&&◌}
use Prim.Native.Nat.{ℕ, ◌*◌, ◌≤◌, ◌<◌}
use native.Mathlib.Nat.{mod-eq_of_lt}
use native.Mathlib.Omega.{arith}
use borrow.Author.Tests.{ltb-true, eqb-true, eqb-false, lt-ltb, le-ltb, eq-eqb, ne_eqb}
use lib.Dec.{T, ltb, eqb}
use lib.Ieee.{Float, nan, inf, fin, binary64, top, ones, hid, le, ne, is_nan, of_bits, to_bits, nan_bits}
use lib.Ieee.Scale.{finite}
use lib.Ieee.Bits.{nan_bits_is, nan_bits_above}
use lib.Ieee.Compare.{differs_from_itself}
use Rattle.std.specs.Float.{float_with_sign}
use Rattle.laws.proofs.Truth.{never}
use Rattle.floats.specs.Floats.{billion, table_float, book_float, book_value, abs}

-- ---- the code's literals

-- 1000000000.0 and 0.0
abbrev limit : Float
limit = of_bits binary64 0x41cd_cd65_0000_0000

abbrev origin : Float
origin = of_bits binary64 0

pub limit_is : limit ≡ billion
unfolding billion of_bits
limit_is = refl

-- ---- the pattern of a float

nan_pattern : 0x7ff8_0000_0000_0000 ≡ to_bits binary64 nan
unfolding to_bits
nan_pattern = refl

pub nan_bits_lem : (x : Float) → ne x x ≡ true → 0x7ff8_0000_0000_0000 ≡ to_bits binary64 x
nan_bits_lem x h = nan_pattern ∙ ap (to_bits binary64) (sym (differs_from_itself x (subst T (sym h) tt)))

-- ---- tests

eqb_swap : (a b : ℕ) → eqb a b ≡ eqb b a
eqb_swap a b = go (eqb a b) refl
  where
    go : (t : Bool) → eqb a b ≡ t → t ≡ eqb b a
    go true e = sym (eq-eqb b a (sym (eqb-true a b e)))
    go false e = sym (ne_eqb b a (λ q. eqb-false a b e (sym q)))

-- ---- a table's float is finite

pub table_finite : (x : Float) → table_float x ≡ true → finite x ≡ true
unfolding table_float
table_finite nan e = e
table_finite (inf s) e = e
table_finite (fin s m k) e = refl

-- ---- a table's float, by its size

pub table_size : (x : Float) → le (float_with_sign false x) limit ≡ table_float x
unfolding float_with_sign le table_float of_bits
table_size nan = refl
table_size (inf s) = refl
table_size (fin s m e) = ap (le (fin false m e)) limit_is

-- ---- a book's float

-- the infinity's pattern: above it lie the NaNs' and every pattern whose sign bit is set
abbrev infinity : ℕ
infinity = ones binary64 * hid binary64

unsigned : (n : ℕ) → n ≤ infinity → n < top binary64
unsigned n l = omega arith

pattern_nan : (n : ℕ) → n < top binary64 → nan_bits binary64 n ≡ ltb infinity n
pattern_nan n h = nan_bits_above binary64 n ∙ ap (ltb infinity) (mod-eq_of_lt h)

pub book_number : (n : ℕ) → n ≤ infinity → T (not (nan_bits binary64 n))
book_number n l = rw (pattern_nan n (unsigned n l), le-ltb infinity n l) tt

table_nan : (x : Float) → is_nan x ≡ true → table_float x ≡ false
unfolding is_nan table_float
table_nan nan h = refl
table_nan (inf s) h = refl
table_nan (fin s m e) h = never (sym h)

pub book_high : (n : ℕ) → infinity < n → false ≡ book_float n
unfolding book_float
book_high n l = go (ltb n (top binary64)) refl
  where
    go : (t : Bool) → ltb n (top binary64) ≡ t → false ≡ (t && table_float (of_bits binary64 n))
    go true e =
        sym
        (table_nan
        (of_bits binary64 n)
        (sym (nan_bits_is binary64 n)
        ∙ pattern_nan n (ltb-true n (top binary64) e)
        ∙ lt-ltb infinity n l))
    go false e = refl

-- ---- the size of a value, as std takes it

pub size_is : (d : Float) → float_with_sign false d ≡ abs d
unfolding float_with_sign abs
size_is nan = refl
size_is (inf s) = refl
size_is (fin s m e) = refl

-- ---- what equals itself is a number

pub no_nan : (a : Float) → ne a a ≡ false → is_nan a ≡ false
unfolding is_nan ne
no_nan nan h = h
no_nan (inf s) h = refl
no_nan (fin s m e) h = refl

-- ---- a lent value

nan_value : false ≡ book_value nan
unfolding book_value book_float to_bits table_float of_bits
nan_value = refl

-- of the values only this one is no number
only_nan : (x : Float) → is_nan x ≡ true → x ≡ nan
unfolding is_nan
only_nan nan h = refl
only_nan (inf s) h = never (sym h)
only_nan (fin s m e) h = never (sym h)

pub value_nan : (x : Float) → is_nan x ≡ true → false ≡ book_value x
value_nan x h = nan_value ∙ ap book_value (sym (only_nan x h))

pub nan_bits_only : (x : Float) → is_nan x ≡ true → 0x7ff8_0000_0000_0000 ≡ to_bits binary64 x
nan_bits_only x h = nan_pattern ∙ ap (to_bits binary64) (sym (only_nan x h))
