-- The float tests and choices of document 01, in the terms of std's `Float.Ieee`, for every value: `nan`, both
-- infinities and both zeros too. A value that stands in a book is still a bit pattern there; one that stands in a lent
-- table is an f64 already.
use Rattle.std.specs.Prelude.{◌≡◌, Bool, true, false, ◌&&◌, cond, ℕ, T, ltb, pos, Float}
use Rattle.std.specs.Float.{nan, inf, fin, binary64}
use Rattle.std.specs.Float.Ieee.{top, sub, lt, le, is_nan, fits, of_bits, to_bits, of_int}

-- Row 4's largest size: 1,000,000,000.
unfoldable pub billion : Float
unfolding of_int
billion = of_int binary64 (pos 1000000000)

-- Row 4, "float not finite or above 1,000,000,000 in size .. (a table takes either sign)": when a table's float is none
-- of these.
unfoldable pub table_float : Float → Bool
unfolding billion
table_float nan = false
table_float (inf s) = false
table_float (fin s m e) = le (fin false m e) billion

-- Row 4, "in a book also sign bit set": the pattern's sign bit is clear, and its value is a table's float.
unfoldable pub book_float : ℕ → Bool
book_float bits = ltb bits (top binary64) && table_float (of_bits binary64 bits)

-- The size of a value: its sign cleared.
unfoldable pub abs : Float → Float
abs nan = nan
abs (inf s) = inf false
abs (fin s m e) = fin false m e

-- The gap of two speeds: the size of their difference, which is rounded once (`(a - b).abs()` in the source).
unfoldable pub gap : Float → Float → Float
unfolding abs
gap a b = abs (sub binary64 a b)

-- The smaller of two offsets as the source takes it (`a.min(b)`): where one is not a number the other, and the first of
-- two equal ones.
unfoldable pub smaller : Float → Float → Float
smaller a b = cond (is_nan a) b (cond (lt b a) b a)

-- "book signs" of a value that is lent as an f64: its own pattern is one that a book may hold. A NaN's is not, nor that
-- of -0.
unfoldable pub book_value : Float → Bool
unfolding book_float
book_value x = book_float (to_bits binary64 x)

-- An offset or a length: an f64 that is not below zero. A running sum of lengths may be any of them, the infinity too.
pub record Size (a : Float) : Type 0 where
  pub fit : T (fits binary64 a)
  pub plus : le (fin false 0 (pos 0)) a ≡ true
