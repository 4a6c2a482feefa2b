-- Closed cases of the definitions of specs/Floats.antt, computed. Assumes nothing.
use mathlib.Core.Path.{◌≡◌, refl}
use mathlib.Core.Bool.{true, false}
use mathlib.Core.List.{[], ◌∷◌, map}
use lib.IntN.{pos, negsuc}
use lib.Ieee.{Float, nan, inf, fin, binary64, sub, lt, le, is_nan, of_bits, to_bits}
use Rattle.floats.specs.Floats.{table_float, book_float, book_value, gap, smaller}

-- In a book: 0, the least subnormal value and 1,000,000,000.
book_takes : map book_float (0 ∷ 1 ∷ 0x41cd_cd65_0000_0000 ∷ []) ≡ true ∷ true ∷ true ∷ []
unfolding book_float table_float of_bits le
book_takes = refl

-- Not the next value above that, the largest finite one, the infinity, a NaN, -0, or a NaN with its sign bit set.
book_refuses : map book_float (0x41cd_cd65_0000_0001 ∷ 0x7fef_ffff_ffff_ffff ∷ 0x7ff0_0000_0000_0000 ∷ 0x7ff8_0000_0000_0000 ∷ 0x8000_0000_0000_0000 ∷ 0xffff_ffff_ffff_ffff ∷ [])
    ≡ false ∷ false ∷ false ∷ false ∷ false ∷ false ∷ []
unfolding book_float table_float of_bits le
book_refuses = refl

-- In a table either sign: -0 and -1,000,000,000, and neither the next value below that nor an infinity.
table_either : map (λ n. table_float (of_bits binary64 n)) (0x8000_0000_0000_0000 ∷ 0xc1cd_cd65_0000_0000 ∷ 0xc1cd_cd65_0000_0001 ∷ 0xfff0_0000_0000_0000 ∷ []) ≡ true ∷ true ∷ false ∷ false ∷ []
unfolding table_float of_bits le
table_either = refl

abbrev zero⁺ : Float
zero⁺ = fin false 0 (pos 0)

abbrev zero⁻ : Float
zero⁻ = fin true 0 (pos 0)

abbrev one : Float
one = fin false 1 (pos 0)

-- 1 and 1.5 are 0.5 apart either way. The difference -0 - +0 is -0, and the gap +0.
gap_either : gap one (fin false 3 (negsuc 0)) ∷ gap (fin false 3 (negsuc 0)) one ∷ gap zero⁻ zero⁺ ∷ [] ≡ fin false 1 (negsuc 0) ∷ fin false 1 (negsuc 0) ∷ zero⁺ ∷ []
unfolding gap sub
gap_either = refl

-- An infinity's gap is an infinity, and of an infinity and itself a NaN.
gap_infinite : gap (inf true) one ∷ gap (inf true) (inf true) ∷ [] ≡ inf false ∷ nan ∷ []
unfolding gap sub
gap_infinite = refl

-- Of a NaN and 1 the smaller is 1 in either order, and of two zeros the first.
smaller_choices : smaller nan one ∷ smaller one nan ∷ smaller zero⁺ zero⁻ ∷ smaller zero⁻ zero⁺ ∷ [] ≡ one ∷ one ∷ zero⁺ ∷ zero⁻ ∷ []
unfolding smaller is_nan lt
smaller_choices = refl

-- Lent as values: 1 and 1,000,000,000 have a book's sign and size; -0, -1, a NaN and an infinity don't.
value_either : map book_value (one ∷ of_bits binary64 0x41cd_cd65_0000_0000 ∷ zero⁻ ∷ fin true 1 (pos 0) ∷ nan ∷ inf false ∷ []) ≡ true ∷ true ∷ false ∷ false ∷ false ∷ false ∷ []
unfolding book_value book_float table_float of_bits to_bits le
value_either = refl
