-- How long a listing can be, whatever its numbers are. A number has at most 21 digits in decimal (its definition goes
-- no further) and a float 16, so a head has at most 145 bytes and a line at most 202.
use mathlib.Core.Path.{◌≡◌, refl}
use mathlib.Core.Bool.{Bool, true, false, cond}
use mathlib.Core.List.{List, [], ◌∷◌, ◌++◌}
use Prim.Native.Nat.{ℕ, zero, suc, ◌+◌, ◌*◌, ◌/◌, ◌%◌, ◌≤◌}
use native.Mathlib.Omega.{arith}
use lib.Dec.{ltb, eqb}
use lib.ListN.{length, length-append}
use lib.Ieee.{Float, binary64, to_bits}
use Rattle.net_node.specs.declared.EstTime.{EstTime}
use Rattle.report.specs.declared.Report.{Report}
use Rattle.listing.specs.Listing.{glyph, digits, places, decimal, unless_zero, trimmed, one_kept, float, letter, behind, line, lines, head, sheet_text, refused_text}

-- ---- numbers

digits_length : (base k n : ℕ) → length (digits base k n) ≡ k
unfolding digits
digits_length base zero n = refl
digits_length base (suc k) n = omega (arith, length-append (digits base k (n / base)) (glyph (n % base) ∷ []), digits_length base k (n / base))

places_most : (k n : ℕ) → places k n ≤ suc k
unfolding places
places_most zero n = omega arith
places_most (suc k) n = go (ltb n 10) (places_most k (n / 10))
  where
    go : (t : Bool) → places k (n / 10) ≤ suc k → cond t 1 (suc (places k (n / 10))) ≤ suc (suc k)
    go true h = omega arith
    go false h = omega (arith, h)

decimal_most : (n : ℕ) → length (decimal n) ≤ 21
unfolding decimal
decimal_most n = omega (arith, digits_length 10 (places 20 n) n, places_most 20 n)

unless_most : (x : ℕ) (xs : List ℕ) → length (unless_zero x xs) ≤ suc (length xs)
unless_most x [] = go (eqb x 48)
  where
    go : (t : Bool) → length (cond t [] (x ∷ [])) ≤ 1
    go true = omega arith
    go false = omega arith
unless_most x (y ∷ xs) = omega arith

trimmed_most : (xs : List ℕ) → length (trimmed xs) ≤ length xs
unfolding trimmed
trimmed_most [] = omega arith
trimmed_most (x ∷ xs) = omega (arith, unless_most x (trimmed xs), trimmed_most xs)

kept_most : (xs : List ℕ) → length (one_kept xs) ≤ length xs
kept_most [] = omega arith
kept_most (x ∷ xs) = omega (arith, trimmed_most xs)

float_most : (x : Float) → length (float x) ≤ 16
unfolding float
float_most x = omega (arith, kept_most (digits 16 16 (to_bits binary64 x)), digits_length 16 16 (to_bits binary64 x))

-- ---- texts, put together from their ends

pub record Most (text : List ℕ) (k : ℕ) : Type 0 where
  pub most : length text ≤ k

line_end : Most (10 ∷ []) 1
line_end = record { most = omega arith }

word : (w : List ℕ) {rest : List ℕ} {k : ℕ} → Most rest k → Most (w ++ rest) (length w + k)
word w {rest} h = record { most = omega (arith, length-append w rest, h.most) }

number : (n : ℕ) {rest : List ℕ} {k : ℕ} → Most rest k → Most (decimal n ++ rest) (21 + k)
number n {rest} h = record { most = omega (arith, length-append (decimal n) rest, decimal_most n, h.most) }

number_behind : (n : ℕ) {rest : List ℕ} {k : ℕ} → Most rest k → Most (behind (decimal n) rest) (22 + k)
number_behind n {rest} h = record { most = omega (arith, length-append (decimal n) rest, decimal_most n, h.most) }

float_behind : (x : Float) {rest : List ℕ} {k : ℕ} → Most rest k → Most (behind (float x) rest) (17 + k)
float_behind x {rest} h = record { most = omega (arith, length-append (float x) rest, float_most x, h.most) }

letter_behind : (c : ℕ) {rest : List ℕ} {k : ℕ} → Most rest k → Most (behind (c ∷ []) rest) (2 + k)
letter_behind c h = record { most = omega (arith, h.most) }

line_most : (i : ℕ) (n : EstTime) → Most (line i n) 202
unfolding line
line_most i n =
    let floats = float_behind n.time_sched (float_behind n.time_to_next (float_behind n.dist_to_next (float_behind n.speed line_end))) in
    let ends = number_behind n.idx_next (number_behind n.idx_next_alt (number_behind n.idx_prev (number_behind n.idx_prev_alt floats))) in
    number i (letter_behind (letter n.link_event.est_type) (number_behind n.link_event.link_idx ends))

lines_most : (node : ℕ → EstTime) (n : ℕ) → length (lines node n) ≤ 202 * n
unfolding lines
lines_most node zero = omega arith
lines_most node (suc n) = omega (arith, length-append (lines node n) (line n (node n)), lines_most node n, (line_most n (node n)).most)

head_most : (r : Report) → Most (head r) 145
unfolding head
head_most r =
    let finished = word (32 ∷ 102 ∷ 105 ∷ 110 ∷ 105 ∷ 115 ∷ 104 ∷ 101 ∷ 100 ∷ 32 ∷ []) (number r.finished line_end) in
    let joined = word (32 ∷ 106 ∷ 111 ∷ 105 ∷ 110 ∷ 101 ∷ 100 ∷ 32 ∷ []) (number r.joined finished) in
    let splits = word (32 ∷ 115 ∷ 112 ∷ 108 ∷ 105 ∷ 116 ∷ 115 ∷ 32 ∷ []) (number r.splits joined) in
    let added = word (32 ∷ 97 ∷ 100 ∷ 100 ∷ 101 ∷ 100 ∷ 32 ∷ []) (number r.added splits) in
    word (110 ∷ 111 ∷ 100 ∷ 101 ∷ 115 ∷ 32 ∷ []) (number r.nodes added)

pub sheet_most : (r : Report) (node : ℕ → EstTime) → length (sheet_text r node) ≤ 145 + 202 * r.nodes
unfolding sheet_text
sheet_most r node = omega (arith, length-append (head r) (lines node r.nodes), (head_most r).most, lines_most node r.nodes)

pub refused_most : (k : ℕ) → length (refused_text k) ≤ 30
unfolding refused_text
refused_most k = (word (114 ∷ 101 ∷ 102 ∷ 117 ∷ 115 ∷ 101 ∷ 100 ∷ 32 ∷ []) (number k line_end)).most
