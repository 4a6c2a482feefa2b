-- The listing, document 01 under "A book and its listing": "Fields: node, kind (A, C, F), link, next, its alternative,
-- previous, its alternative, in decimal; time, time to next, distance to next, speed, each the 16 hexadecimal digits of
-- its bits, closing zeros dropped, one digit kept. Refused: `refused N`." Text is a list of bytes (ASCII).
use Rattle.std.specs.Prelude.{◌≡◌, Bool, true, false, cond, List, [], ◌∷◌, ◌++◌, ℕ, zero, suc, ◌+◌, ◌-◌, ◌/◌, ◌%◌}
use Rattle.std.specs.Prelude.{ltb, leb, eqb, length, Float, Result, Ok, Err}
use Rattle.std.proofs.Math.Option.{Option, none, some}
use Rattle.std.specs.Float.{binary64}
use Rattle.std.specs.Float.Ieee.{to_bits}
use Rattle.space.specs.Space.{zeros}
use Rattle.net_node.specs.declared.EstType.{EstType}
use Rattle.net_node.specs.declared.EstType.TheVariants.{Arrive, Clear, Fake}
use Rattle.net_node.specs.declared.EstTime.{EstTime}
use Rattle.net_node.specs.Table.{Table, at}
use Rattle.net_node.specs.Left.{nodes_in}
use Rattle.report.specs.declared.Report.{Report}
use Rattle.listing.specs.declared.ListingError.{ListingError}
use Rattle.listing.specs.declared.ListingError.TheVariants.{Short, Unfilled}

-- ---- numbers

-- a digit, 0 to 9 and a to f
unfoldable pub glyph : ℕ → ℕ
glyph d = cond (ltb d 10) (48 + d) (87 + d)

-- the last k digits of n in a base, the highest first
unfoldable pub digits : ℕ → ℕ → ℕ → List ℕ
unfolding glyph
digits base zero n = []
digits base (suc k) n = digits base k (n / base) ++ (glyph (n % base) ∷ [])

-- how many digits n has in decimal, in so many steps: at least one
unfoldable pub places : ℕ → ℕ → ℕ
places zero n = 1
places (suc k) n =
    let more = suc (places k (n / 10)) in
    cond (ltb n 10) 1 more

-- "in decimal": 20 digits are enough for every number of 64 bits
unfoldable pub decimal : ℕ → List ℕ
unfolding digits places
decimal n = digits 10 (places 20 n) n

-- "closing zeros dropped, one digit kept"
abbrev pub unless_zero : ℕ → List ℕ → List ℕ
unless_zero x [] = cond (eqb x 48) [] (x ∷ [])
unless_zero x (y ∷ ys) = x ∷ y ∷ ys

unfoldable pub trimmed : List ℕ → List ℕ
trimmed [] = []
trimmed (x ∷ xs) = unless_zero x (trimmed xs)

abbrev pub one_kept : List ℕ → List ℕ
one_kept [] = []
one_kept (x ∷ xs) = x ∷ trimmed xs

-- "each the 16 hexadecimal digits of its bits"
unfoldable pub float : Float → List ℕ
unfolding digits trimmed
float x = one_kept (digits 16 16 (to_bits binary64 x))

-- ---- lines

abbrev pub letter : EstType → ℕ
letter Arrive = 65
letter Clear = 67
letter Fake = 70

-- a field behind a blank
abbrev pub behind : List ℕ → List ℕ → List ℕ
behind field rest = 32 ∷ (field ++ rest)

-- a node's line
unfoldable pub line : ℕ → EstTime → List ℕ
unfolding decimal float
line i n =
    decimal i
    ++ behind (letter n.link_event.est_type ∷ [])
    (behind (decimal n.link_event.link_idx)
    (behind (decimal n.idx_next)
    (behind (decimal n.idx_next_alt)
    (behind (decimal n.idx_prev)
    (behind (decimal n.idx_prev_alt)
    (behind (float n.time_sched) (behind (float n.time_to_next)
    (behind (float n.dist_to_next) (behind (float n.speed) (10 ∷ []))))))))))

-- the lines of the first n nodes
unfoldable pub lines : (ℕ → EstTime) → ℕ → List ℕ
unfolding line
lines node zero = []
lines node (suc n) = lines node n ++ line n (node n)

-- `nodes N added .. splits .. joined .. finished ..`
unfoldable pub head : Report → List ℕ
unfolding decimal
head r =
    (110 ∷ 111 ∷ 100 ∷ 101 ∷ 115 ∷ 32 ∷ [])
    ++ (decimal r.nodes
    ++ ((32 ∷ 97 ∷ 100 ∷ 100 ∷ 101 ∷ 100 ∷ 32 ∷ [])
    ++ (decimal r.added
    ++ ((32 ∷ 115 ∷ 112 ∷ 108 ∷ 105 ∷ 116 ∷ 115 ∷ 32 ∷ [])
    ++ (decimal r.splits
    ++ ((32 ∷ 106 ∷ 111 ∷ 105 ∷ 110 ∷ 101 ∷ 100 ∷ 32 ∷ [])
    ++ (decimal r.joined ++ ((32 ∷ 102 ∷ 105 ∷ 110 ∷ 105 ∷ 115 ∷ 104 ∷ 101 ∷ 100 ∷ 32 ∷ []) ++
    (decimal r.finished ++ (10 ∷ []))))))))))

-- a sheet: its report, then its nodes
unfoldable pub sheet_text : Report → (ℕ → EstTime) → List ℕ
unfolding head lines
sheet_text r node = head r ++ lines node r.nodes

-- `refused N`
unfoldable pub refused_text : ℕ → List ℕ
unfolding decimal
refused_text k = (114 ∷ 101 ∷ 102 ∷ 117 ∷ 115 ∷ 101 ∷ 100 ∷ 32 ∷ []) ++ (decimal k ++ (10 ∷ []))

-- ---- into a slice of so many bytes

-- a slice that is too short is answered, and left zero
abbrev pub fitted : Bool → List ℕ → Result ℕ ListingError
fitted true text = Ok (length text)
fitted false text = Err Short

abbrev pub bytes_as : Bool → List ℕ → ℕ → List ℕ
bytes_as true text size = text ++ zeros (size - length text)
bytes_as false text size = zeros size

-- the text of a sheet, where the table has as many nodes as the report says
abbrev pub text_if : Bool → List ℕ → Option (List ℕ)
text_if true text = some text
text_if false text = none

unfoldable pub sheet_in : Report → Table → Option (List ℕ)
sheet_in r t = text_if (leb r.nodes (nodes_in t)) (sheet_text r (at t))

-- how a text is answered, and what the slice holds then; of a table with too few nodes there is no text
abbrev pub listed_as : Option (List ℕ) → ℕ → Result ℕ ListingError
listed_as none size = Err Unfilled
listed_as (some text) size = fitted (leb (length text) size) text

abbrev pub bytes_left : Option (List ℕ) → ℕ → List ℕ
bytes_left none size = zeros size
bytes_left (some text) size = bytes_as (leb (length text) size) text size

-- The promise of a function that lists into a lent slice: what it answers, and every byte of the slice, whatever that
-- held.
pub record TextListed (text : Option (List ℕ)) (lent left : List ℕ) (r : Result ℕ ListingError) : Type 0 where
  pub answer : r ≡ listed_as text (length lent)
  pub bytes : left ≡ bytes_left text (length lent)

-- what a function for other languages says of an answer: a number, 0 where the text stands in the slice, else one that
-- no refusal has (those of documents 01 and 02 end at 24)
abbrev pub error_number : ListingError → ℕ
error_number Short = 101
error_number Unfilled = 102

abbrev pub listed_number : Result ℕ ListingError → ℕ
listed_number (Ok n) = 0
listed_number (Err e) = error_number e

-- and the text's length
abbrev pub listed_length : Result ℕ ListingError → ℕ
listed_length (Ok n) = n
listed_length (Err e) = 0
