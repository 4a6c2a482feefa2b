-- Closed cases, computed: document 01's marked roots, by their patterns, and one of each other kind.
use mathlib.Core.Path.{◌≡◌, refl}
use lib.Ieee.{binary64, nan, of_bits}
use Rattle.root.specs.Root.{sqrt}

-- root of 0
of_zero : sqrt binary64 (of_bits binary64 0) ≡ of_bits binary64 0
unfolding sqrt of_bits
of_zero = refl

-- root of 4: 2
of_four : sqrt binary64 (of_bits binary64 0x4010000000000000) ≡ of_bits binary64 0x4000000000000000
unfolding sqrt of_bits
of_four = refl

-- root of 2: 3ff6a09e667f3bcd
of_two : sqrt binary64 (of_bits binary64 0x4000000000000000) ≡ of_bits binary64 0x3ff6a09e667f3bcd
unfolding sqrt of_bits
of_two = refl

-- root of -0, of the smallest value (2 ^ -537), of -1, of the infinity
of_minus_zero : sqrt binary64 (of_bits binary64 0x8000000000000000) ≡ of_bits binary64 0x8000000000000000
unfolding sqrt of_bits
of_minus_zero = refl

of_smallest : sqrt binary64 (of_bits binary64 1) ≡ of_bits binary64 0x1e60000000000000
unfolding sqrt of_bits
of_smallest = refl

of_minus_one : sqrt binary64 (of_bits binary64 0xbff0000000000000) ≡ nan
unfolding sqrt of_bits
of_minus_one = refl

of_infinity : sqrt binary64 (of_bits binary64 0x7ff0000000000000) ≡ of_bits binary64 0x7ff0000000000000
unfolding sqrt of_bits
of_infinity = refl
