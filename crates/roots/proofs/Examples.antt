-- Closed cases of the definitions of specs/Roots.antt, computed. Assumes nothing.
use mathlib.Core.Path.{◌≡◌, refl}
use mathlib.Core.List.{[], ◌∷◌, ◌++◌, map}
use Rattle.std.specs.Prelude.{codes}
use Rattle.roots.specs.Roots.{root_bits, answer, lines, text}

-- The roots of 4 and -0 are 2 and -0; those of -1 and of any NaN are written as one NaN.
some_roots : map root_bits (0x4010_0000_0000_0000 ∷ 0x8000_0000_0000_0000 ∷ 0xbff0_0000_0000_0000 ∷ 0xffff_ffff_ffff_ffff ∷ []) ≡ 0x4000_0000_0000_0000 ∷ 0x8000_0000_0000_0000 ∷ 0x7ff8_0000_0000_0000 ∷ 0x7ff8_0000_0000_0000 ∷ []
unfolding root_bits
some_roots = refl

-- 4, the least significant byte first, gives `4000000000000000`.
four : answer (0 ∷ 0 ∷ 0 ∷ 0 ∷ 0 ∷ 0 ∷ 16 ∷ 64 ∷ []) ≡ 52 ∷ 48 ∷ 48 ∷ 48 ∷ 48 ∷ 48 ∷ 48 ∷ 48 ∷ 48 ∷ 48 ∷ 48 ∷ 48 ∷ 48 ∷ 48 ∷ 48 ∷ 48 ∷ []
unfolding answer
four = refl

-- Ten bytes, 4 and two more, which are no pattern.
ten : text (0 ∷ 0 ∷ 0 ∷ 0 ∷ 0 ∷ 0 ∷ 16 ∷ 64 ∷ 1 ∷ 2 ∷ []) ≡ codes "4000000000000000" ++ 10 ∷ codes "cut off" ++ 10 ∷ []
unfolding answer lines
ten = refl
