-- Small books, written field by field: for cases that are computed. Document 01's worked book is put together from its
-- sections, so that a case is that book with one section changed.
use mathlib.Core.List.{List, [], ◌∷◌, ◌++◌}
use Prim.Native.Nat.{ℕ, zero, suc, ◌/◌, ◌%◌}
use lib.IntN.{pos}
use lib.ListN.{length}
use lib.Ieee.{Float, binary64, of_int, to_bits}

-- ---- "Little-endian bytes; floats are 8 bytes, other fields u32."

-- so many bytes of a number, the least first
abbrev pub bytes : ℕ → ℕ → List ℕ
bytes zero n = []
bytes (suc k) n = n % 256 ∷ bytes k (n / 256)

abbrev pub number : ℕ → List ℕ
number n = bytes 4 n

-- a float by its pattern
abbrev pub pattern : ℕ → List ℕ
pattern n = bytes 8 n

-- a whole number of metres, seconds or metres a second
abbrev pub whole : ℕ → Float
whole n = of_int binary64 (pos n)

abbrev pub float : ℕ → List ℕ
float n = pattern (to_bits binary64 (whole n))

-- ---- rows, whose floats are bytes already where they may be no whole number

-- "length, next, next alternative, previous, previous alternative"
abbrev pub link : List ℕ → ℕ → ℕ → ℕ → ℕ → List ℕ
link length next next_alt prev prev_alt = length ++ number next ++ number next_alt ++ number prev ++ number prev_alt

-- "link, offset, front flag 0 or 1"
abbrev pub origin : ℕ → List ℕ → ℕ → List ℕ
origin link offset front = number link ++ offset ++ number front

-- "link, parent leg (0: starts at an origin), number of samples"
abbrev pub leg : ℕ → ℕ → ℕ → List ℕ
leg link parent samples = number link ++ number parent ++ number samples

-- "time, offset, speed"
abbrev pub sample : ℕ → ℕ → ℕ → List ℕ
sample time offset speed = float time ++ float offset ++ float speed

-- ---- books

abbrev pub rows : List (List ℕ) → List ℕ
rows [] = []
rows (r ∷ rs) = r ++ rows rs

-- a section "after its count"
abbrev pub section : List (List ℕ) → List ℕ
section rs = number (length rs) ++ rows rs

-- three floats, then the five sections
abbrev pub book : (head links origins destinations legs samples : List ℕ) → List ℕ
book head links origins destinations legs samples = head ++ links ++ origins ++ destinations ++ legs ++ samples

-- ---- "J 1, departure 0, length 10. Link 0: all zero. Link 1: length 12, next 2. Link 2: length 100, previous 1.
-- Origin 1, destination 2. Leg 1: link 1, parent 0, sample (0, 10, 0). Leg 2: link 2, parent 1, samples (0, 10, 0),
-- (4, 18, 4), (8, 34, 4)."

abbrev pub head : List ℕ
head = float 1 ++ float 0 ++ float 10

-- its links, of which row 0, 1 or 2 may be another
abbrev pub link0 : List ℕ
link0 = link (float 0) 0 0 0 0

abbrev pub link1 : List ℕ
link1 = link (float 12) 2 0 0 0

abbrev pub link2 : List ℕ
link2 = link (float 100) 0 0 1 0

abbrev pub links : List ℕ
links = section (link0 ∷ link1 ∷ link2 ∷ [])

abbrev pub origins : List ℕ
origins = section (origin 1 (float 0) 0 ∷ [])

abbrev pub destinations : List ℕ
destinations = section (number 2 ∷ [])

abbrev pub legs : List ℕ
legs = section (leg 1 0 1 ∷ leg 2 1 3 ∷ [])

abbrev pub samples : List ℕ
samples = section (sample 0 10 0 ∷ sample 0 10 0 ∷ sample 4 18 4 ∷ sample 8 34 4 ∷ [])

abbrev pub worked : List ℕ
worked = book head links origins destinations legs samples
