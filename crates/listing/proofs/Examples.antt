-- Document 01's worked book: its listing, computed; and that of a refusal.
use mathlib.Core.Path.{◌≡◌, refl}
use mathlib.Core.List.{List, [], ◌∷◌}
use Prim.Native.Nat.{ℕ}
use lib.Ieee.{Float, binary64, of_bits, to_bits}
use Rattle.net_node.specs.Table.{node_at}
use Rattle.report.specs.declared.Report.{Report}
use Rattle.listing.specs.Listing.{float, sheet_text, refused_text}

abbrev o : Float
o = of_bits binary64 0x0000000000000000

abbrev two : Float
two = of_bits binary64 0x4000000000000000

abbrev three : Float
three = of_bits binary64 0x4008000000000000

abbrev four : Float
four = of_bits binary64 0x4010000000000000

abbrev five : Float
five = of_bits binary64 0x4014000000000000

abbrev ten : Float
ten = of_bits binary64 0x4024000000000000

-- of each node: time, time to next, distance to next, speed
abbrev floats : List Float
floats =
    o ∷ o ∷ o ∷ o ∷
    o ∷ o ∷ o ∷ o ∷
    o ∷ o ∷ ten ∷ o ∷
    o ∷ two ∷ two ∷ o ∷
    two ∷ three ∷ ten ∷ two ∷
    five ∷ o ∷ o ∷ four ∷
    five ∷ o ∷ o ∷ o ∷
    five ∷ o ∷ o ∷ o ∷ []

-- of each node: next, its alternative, previous, its alternative, link, kind
abbrev numbers : List ℕ
numbers =
    1 ∷ 0 ∷ 0 ∷ 0 ∷ 0 ∷ 2 ∷
    2 ∷ 0 ∷ 0 ∷ 0 ∷ 0 ∷ 2 ∷
    3 ∷ 0 ∷ 1 ∷ 0 ∷ 1 ∷ 0 ∷
    4 ∷ 0 ∷ 2 ∷ 0 ∷ 1 ∷ 1 ∷
    5 ∷ 0 ∷ 3 ∷ 0 ∷ 2 ∷ 0 ∷
    6 ∷ 0 ∷ 4 ∷ 0 ∷ 2 ∷ 1 ∷
    7 ∷ 0 ∷ 5 ∷ 0 ∷ 0 ∷ 2 ∷
    0 ∷ 0 ∷ 6 ∷ 0 ∷ 0 ∷ 2 ∷ []

abbrev report : Report
report = record { nodes = 8; added = 4; splits = 0; joined = 0; finished = 1 }

-- the listing's lines
abbrev listing : List ℕ
listing =
    110 ∷ 111 ∷ 100 ∷ 101 ∷ 115 ∷ 32 ∷ 56 ∷ 32 ∷ 97 ∷ 100 ∷ 100 ∷ 101 ∷ 100 ∷ 32 ∷ 52 ∷ 32 ∷ 115 ∷ 112 ∷ 108 ∷ 105 ∷ 116 ∷ 115 ∷ 32 ∷ 48 ∷ 32 ∷ 106 ∷ 111 ∷ 105 ∷ 110 ∷ 101 ∷ 100 ∷ 32 ∷ 48 ∷ 32 ∷ 102 ∷ 105 ∷ 110 ∷ 105 ∷ 115 ∷ 104 ∷ 101 ∷ 100 ∷ 32 ∷ 49 ∷ 10 ∷
    48 ∷ 32 ∷ 70 ∷ 32 ∷ 48 ∷ 32 ∷ 49 ∷ 32 ∷ 48 ∷ 32 ∷ 48 ∷ 32 ∷ 48 ∷ 32 ∷ 48 ∷ 32 ∷ 48 ∷ 32 ∷ 48 ∷ 32 ∷ 48 ∷ 10 ∷
    49 ∷ 32 ∷ 70 ∷ 32 ∷ 48 ∷ 32 ∷ 50 ∷ 32 ∷ 48 ∷ 32 ∷ 48 ∷ 32 ∷ 48 ∷ 32 ∷ 48 ∷ 32 ∷ 48 ∷ 32 ∷ 48 ∷ 32 ∷ 48 ∷ 10 ∷
    50 ∷ 32 ∷ 65 ∷ 32 ∷ 49 ∷ 32 ∷ 51 ∷ 32 ∷ 48 ∷ 32 ∷ 49 ∷ 32 ∷ 48 ∷ 32 ∷ 48 ∷ 32 ∷ 48 ∷ 32 ∷ 52 ∷ 48 ∷ 50 ∷ 52 ∷ 32 ∷ 48 ∷ 10 ∷
    51 ∷ 32 ∷ 67 ∷ 32 ∷ 49 ∷ 32 ∷ 52 ∷ 32 ∷ 48 ∷ 32 ∷ 50 ∷ 32 ∷ 48 ∷ 32 ∷ 48 ∷ 32 ∷ 52 ∷ 32 ∷ 52 ∷ 32 ∷ 48 ∷ 10 ∷
    52 ∷ 32 ∷ 65 ∷ 32 ∷ 50 ∷ 32 ∷ 53 ∷ 32 ∷ 48 ∷ 32 ∷ 51 ∷ 32 ∷ 48 ∷ 32 ∷ 52 ∷ 32 ∷ 52 ∷ 48 ∷ 48 ∷ 56 ∷ 32 ∷ 52 ∷ 48 ∷ 50 ∷ 52 ∷ 32 ∷ 52 ∷ 10 ∷
    53 ∷ 32 ∷ 67 ∷ 32 ∷ 50 ∷ 32 ∷ 54 ∷ 32 ∷ 48 ∷ 32 ∷ 52 ∷ 32 ∷ 48 ∷ 32 ∷ 52 ∷ 48 ∷ 49 ∷ 52 ∷ 32 ∷ 48 ∷ 32 ∷ 48 ∷ 32 ∷ 52 ∷ 48 ∷ 49 ∷ 10 ∷
    54 ∷ 32 ∷ 70 ∷ 32 ∷ 48 ∷ 32 ∷ 55 ∷ 32 ∷ 48 ∷ 32 ∷ 53 ∷ 32 ∷ 48 ∷ 32 ∷ 52 ∷ 48 ∷ 49 ∷ 52 ∷ 32 ∷ 48 ∷ 32 ∷ 48 ∷ 32 ∷ 48 ∷ 10 ∷
    55 ∷ 32 ∷ 70 ∷ 32 ∷ 48 ∷ 32 ∷ 48 ∷ 32 ∷ 48 ∷ 32 ∷ 54 ∷ 32 ∷ 48 ∷ 32 ∷ 52 ∷ 48 ∷ 49 ∷ 52 ∷ 32 ∷ 48 ∷ 32 ∷ 48 ∷ 32 ∷ 48 ∷ 10 ∷ []

sheet : sheet_text report (node_at floats numbers) ≡ listing
unfolding sheet_text node_at of_bits to_bits
sheet = refl

-- `refused 16`
refusal : refused_text 16 ≡ 114 ∷ 101 ∷ 102 ∷ 117 ∷ 115 ∷ 101 ∷ 100 ∷ 32 ∷ 49 ∷ 54 ∷ 10 ∷ []
unfolding refused_text
refusal = refl

-- a float whose digits have letters, and no closing zero: `3ff6a09e667f3bcd`
letters : float (of_bits binary64 0x3ff6a09e667f3bcd) ≡ 51 ∷ 102 ∷ 102 ∷ 54 ∷ 97 ∷ 48 ∷ 57 ∷ 101 ∷ 54 ∷ 54 ∷ 55 ∷ 102 ∷ 51 ∷ 98 ∷ 99 ∷ 100 ∷ []
unfolding float of_bits to_bits
letters = refl
