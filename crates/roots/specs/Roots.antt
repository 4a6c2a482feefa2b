-- What the program prints.
use Rattle.std.specs.Prelude.{ℕ, zero, suc, ◌+◌, ◌*◌, ◌/◌, ◌%◌, cond, nat_lt, List, [], ◌∷◌, ◌++◌, codes, length}
use Rattle.std.specs.Prelude.{take, drop, if◌then◌else◌}
use Rattle.std.specs.Float.{binary64}
use Rattle.std.specs.Float.Ieee.{of_bits, to_bits}
use Rattle.root.specs.Root.{sqrt}

-- The number that bytes stand for, the least significant byte first.
unfoldable pub little_endian : List ℕ → ℕ
little_endian [] = 0
little_endian (b ∷ bs) = b + 256 * little_endian bs

-- The pattern of the root of a pattern's value. Every NaN pattern is read as `nan`, and `nan` is written as
-- 7ff8000000000000.
unfoldable pub root_bits : ℕ → ℕ
unfolding sqrt of_bits to_bits
root_bits n = to_bits binary64 (sqrt binary64 (of_bits binary64 n))

-- The ASCII code of a digit below 16: `0` to `9`, then `a` to `f`.
abbrev pub digit : ℕ → ℕ
digit d = cond (nat_lt d 10) (48 + d) (87 + d)

-- The last k digits of n in base b, the most significant first.
unfoldable pub last_digits : ℕ → ℕ → ℕ → List ℕ
last_digits b zero n = []
last_digits b (suc k) n = last_digits b k (n / b) ++ (digit (n % b) ∷ [])

-- Sixteen hexadecimal digits in ASCII, `a` to `f` in lower case.
unfoldable pub answer : List ℕ → List ℕ
unfolding little_endian root_bits last_digits
answer bytes = last_digits 16 16 (root_bits (little_endian bytes))

-- The line that is printed for what is left of the input: none at its end.
abbrev pub line : List ℕ → List ℕ
line input =
    if nat_lt (length input) 1 then []
    else (if nat_lt (length input) 8 then codes "cut off" else answer (take 8 input)) ++ 10 ∷ []

-- The first k lines: that at i is of the bytes from 8 i on.
unfoldable pub lines : ℕ → List ℕ → List ℕ
lines zero input = []
lines (suc k) input = lines k input ++ line (drop (8 * k) input)

-- What is printed for an input: a line for each eight bytes, and one for those that are left.
abbrev pub text : List ℕ → List ℕ
text input = lines (length input / 8 + 1) input
