-- Rows 1 to 8, computed: document 01's worked book with one section changed, for each cause that the table of refusals
-- names. The expected numbers are the table's; where a cause has a limit, the book at the limit is accepted.
-- The limits of counts are laws: crates/book_format/proofs/Limits.antt.
use mathlib.Core.Path.{◌≡◌, refl}
use mathlib.Core.List.{List, [], ◌∷◌, ◌++◌}
use Prim.Native.Nat.{ℕ}
use lib.Ieee.{of_bits, of_int, to_bits, lt, le}
use Rattle.laws.specs.Below.{some_below, sum_below}
use Rattle.laws.specs.Refusals.{first_of}
use Rattle.fields.specs.Fields.{u64_at}
use Rattle.floats.specs.Floats.{table_float, book_float}
use Rattle.book_format.specs.Format as Format
use Rattle.book_format.specs.Rows as Rows
use Rattle.book_options.specs.Options as Options
use Rattle.book_format.proofs.SmallBooks.{number, pattern, float, link, origin, leg, sample, rows, section, book}
use Rattle.book_format.proofs.SmallBooks.{head, link0, link1, link2, links, origins, destinations, legs, samples}
use Rattle.book_format.proofs.SmallBooks.{worked}
use Rattle.book_reader.specs.Reader.{read_number}

-- on a table of 8 places row 3 asks for 36,864 + 64 · (3 + 1 + 1 + 2 + 8) bytes of work space; here are more
abbrev number_of : List ℕ → ℕ
number_of b = read_number b 8 65536

-- ---- the worked book with another section

abbrev with_head : List ℕ → ℕ
with_head s = number_of (book s links origins destinations legs samples)

abbrev with_links : List (List ℕ) → ℕ
with_links s = number_of (book head (section s) origins destinations legs samples)

abbrev with_origins : List (List ℕ) → ℕ
with_origins s = number_of (book head links (section s) destinations legs samples)

abbrev with_destinations : List (List ℕ) → ℕ
with_destinations s = number_of (book head links origins (section s) legs samples)

abbrev with_legs : List (List ℕ) → ℕ
with_legs s = number_of (book head links origins destinations (section s) samples)

abbrev with_samples : List (List ℕ) → ℕ
with_samples s = number_of (book head links origins destinations legs (section s))

-- J, departure or length with a pattern
abbrev with_j : ℕ → ℕ
with_j bits = with_head (pattern bits ++ float 0 ++ float 10)

abbrev with_departure : ℕ → ℕ
with_departure bits = with_head (float 1 ++ pattern bits ++ float 10)

abbrev with_length : ℕ → ℕ
with_length bits = with_head (float 1 ++ float 0 ++ pattern bits)

-- link 1, or link 0, another
abbrev with_link1 : List ℕ → ℕ
with_link1 s = with_links (link0 ∷ s ∷ link2 ∷ [])

abbrev with_link0 : List ℕ → ℕ
with_link0 s = with_links (s ∷ link1 ∷ link2 ∷ [])

-- the last sample another
abbrev with_last : List ℕ → ℕ
with_last s = with_samples (sample 0 10 0 ∷ sample 0 10 0 ∷ sample 4 18 4 ∷ s ∷ [])

-- the first sample of leg 2 another
abbrev with_second : List ℕ → ℕ
with_second s = with_samples (sample 0 10 0 ∷ s ∷ sample 4 18 4 ∷ sample 8 34 4 ∷ [])

-- another count before the samples
abbrev with_sample_count : ℕ → ℕ
with_sample_count n =
    let four = rows (sample 0 10 0 ∷ sample 0 10 0 ∷ sample 4 18 4 ∷ sample 8 34 4 ∷ []) in
    number_of (book head links origins destinations legs (number n ++ four))

-- three legs, of which the first two have one sample and the third two
abbrev with_three_legs : List (List ℕ) → ℕ
with_three_legs s =
    let four = sample 0 10 0 ∷ sample 0 10 0 ∷ sample 0 10 0 ∷ sample 8 34 4 ∷ [] in
    number_of (book head links origins destinations (section s) (section four))

-- another origin and another destination
abbrev with_ends : List ℕ → List ℕ → ℕ
with_ends o d = number_of (book head links (section (o ∷ [])) (section (d ∷ [])) legs samples)

-- a book without its last byte
abbrev cut : List ℕ → List ℕ
cut [] = []
cut (x ∷ []) = []
cut (x ∷ y ∷ ys) = x ∷ cut (y ∷ ys)

-- ---- patterns

abbrev not_a_number : ℕ
not_a_number = 0x7ff8000000000000

abbrev infinity : ℕ
infinity = 0x7ff0000000000000

abbrev billion : ℕ
billion = 0x41cdcd6500000000

abbrev above_billion : ℕ
above_billion = 0x41cdcd6500000001

abbrev minus_one : ℕ
minus_one = 0xbff0000000000000

abbrev minus_zero : ℕ
minus_zero = 0x8000000000000000

record Refusals : Type 0 where
  accepted : number_of worked ≡ 0
  -- 1: "bytes end before the last field does"
  empty : number_of [] ≡ 1
  byte_short : number_of (cut worked) ≡ 1
  count_too_high : with_sample_count 5 ≡ 1
  -- 2: "bytes left over"
  byte_over : number_of (worked ++ (0 ∷ [])) ≡ 2
  count_too_low : with_sample_count 3 ≡ 2
  -- 3: "count outside its limits"
  no_links : with_links [] ≡ 3
  no_origins : with_origins [] ≡ 3
  no_destinations : with_destinations [] ≡ 3
  no_legs : with_legs [] ≡ 3
  no_samples : with_samples [] ≡ 3
  -- "a leg of 0 samples", the sum being right; "leg sums differ", either way
  leg_without_samples : with_legs (leg 1 0 0 ∷ leg 2 1 4 ∷ []) ≡ 3
  legs_have_more : with_legs (leg 1 0 1 ∷ leg 2 1 4 ∷ []) ≡ 3
  legs_have_fewer : with_legs (leg 1 0 1 ∷ leg 2 1 2 ∷ []) ≡ 3
  -- "work space below 36,864 + 64 times (links + origins + destinations + legs + table places up to 65,535) bytes"
  work_space : read_number worked 8 37824 ≡ 0
  work_space_short : read_number worked 8 37823 ≡ 3
  places_count : read_number worked 9 37824 ≡ 3
  most_places : read_number worked 65535 4231552 ≡ 0
  most_places_short : read_number worked 65535 4231551 ≡ 3
  more_places : read_number worked 65536 4231552 ≡ 0
  -- 4: "float not finite or above 1,000,000,000 in size, in a book also sign bit set"
  j_not_a_number : with_j not_a_number ≡ 4
  j_infinite : with_j infinity ≡ 4
  j_above_billion : with_j above_billion ≡ 4
  j_billion : with_j billion ≡ 0
  j_negative : with_j minus_one ≡ 4
  j_minus_zero : with_j minus_zero ≡ 4
  -- wherever a float stands
  departure_minus_zero : with_departure minus_zero ≡ 4
  length_above : with_length above_billion ≡ 4
  link_length_infinite : with_link1 (link (pattern infinity) 2 0 0 0) ≡ 4
  origin_offset_negative : with_origins (origin 1 (pattern minus_one) 0 ∷ []) ≡ 4
  sample_time_not_a_number : with_last (pattern not_a_number ++ float 34 ++ float 4) ≡ 4
  sample_offset_above : with_last (float 8 ++ pattern above_billion ++ float 4) ≡ 4
  sample_speed_minus_zero : with_last (float 8 ++ float 34 ++ pattern minus_zero) ≡ 4
  -- "flag .. unknown"
  flag_unknown : with_origins (origin 1 (float 0) 2 ∷ []) ≡ 4
  -- 5: "index .. names nothing"
  next_of_none : with_link1 (link (float 12) 3 0 0 0) ≡ 5
  next_alt_of_none : with_link1 (link (float 12) 2 3 0 0) ≡ 5
  prev_of_none : with_link1 (link (float 12) 2 0 3 0) ≡ 5
  prev_alt_of_none : with_link1 (link (float 12) 2 0 0 3) ≡ 5
  origin_of_none : with_origins (origin 3 (float 0) 0 ∷ []) ≡ 5
  destination_of_none : with_destinations (number 3 ∷ []) ≡ 5
  leg_link_of_none : with_legs (leg 1 0 1 ∷ leg 3 1 3 ∷ []) ≡ 5
  leg_parent_of_none : with_legs (leg 1 0 1 ∷ leg 2 3 3 ∷ []) ≡ 5
  -- "link 0 not all zero"
  zero_with_length : with_link0 (link (float 1) 0 0 0 0) ≡ 5
  zero_with_next : with_link0 (link (float 0) 1 0 0 0) ≡ 5
  zero_with_next_alt : with_link0 (link (float 0) 0 1 0 0) ≡ 5
  zero_with_prev : with_link0 (link (float 0) 0 0 1 0) ≡ 5
  zero_with_prev_alt : with_link0 (link (float 0) 0 0 0 1) ≡ 5
  -- "other link of length 0"; "next = next alternative, nonzero"
  link_without_length : with_link1 (link (float 0) 2 0 0 0) ≡ 5
  both_next : with_link1 (link (float 12) 2 2 0 0) ≡ 5
  -- 6: "origin offset nonzero, front flag 1, or link repeated"
  origin_offset_lem : with_origins (origin 1 (float 1) 0 ∷ []) ≡ 6
  origin_front_lem : with_origins (origin 1 (float 0) 1 ∷ []) ≡ 6
  origin_repeated : with_origins (origin 1 (float 0) 0 ∷ origin 1 (float 0) 0 ∷ []) ≡ 6
  two_origins : with_origins (origin 1 (float 0) 0 ∷ origin 2 (float 0) 0 ∷ []) ≡ 0
  -- 7: "leg link 0; parent not below own number; parent and link repeated"
  leg_link_zero : with_legs (leg 0 0 1 ∷ leg 2 1 3 ∷ []) ≡ 7
  own_parent : with_legs (leg 1 1 1 ∷ leg 2 1 3 ∷ []) ≡ 7
  later_parent : with_legs (leg 1 2 1 ∷ leg 2 1 3 ∷ []) ≡ 7
  leg_repeated : with_three_legs (leg 1 0 1 ∷ leg 2 1 1 ∷ leg 2 1 2 ∷ []) ≡ 7
  -- another link, or another parent, is no repeat
  same_parent : with_three_legs (leg 1 0 1 ∷ leg 2 1 1 ∷ leg 1 1 2 ∷ []) ≡ 0
  same_link : with_three_legs (leg 1 0 1 ∷ leg 2 1 1 ∷ leg 2 2 2 ∷ []) ≡ 0
  -- "times not strictly rising or offsets falling in a leg"
  times_fall : with_last (sample 3 34 4) ≡ 7
  times_equal : with_last (sample 4 34 4) ≡ 7
  offsets_fall : with_last (sample 8 17 4) ≡ 7
  offsets_equal : with_last (sample 8 18 4) ≡ 0
  -- "first sample not its parent's last, bit for bit"
  other_time : with_second (sample 1 10 0) ≡ 7
  other_offset : with_second (sample 0 11 0) ≡ 7
  other_speed : with_second (sample 0 10 1) ≡ 7
  last_bit : with_second (float 0 ++ pattern 0x4024000000000001 ++ float 0) ≡ 7
  -- "starting leg's first time not the departure"
  other_departure : with_departure 0x3ff0000000000000 ≡ 7
  -- 8: "destination 0, or no origin kept"
  destination_zero_lem : with_destinations (number 0 ∷ []) ≡ 8
  no_origin_kept : with_ends (origin 2 (float 0) 0) (number 1) ≡ 8
  -- "Of 1 to 8 the lowest wins": origin 3 with a front flag of 2, or of 1
  four_before_five : with_origins (origin 3 (float 0) 2 ∷ []) ≡ 4
  five_before_six : with_origins (origin 3 (float 0) 1 ∷ []) ≡ 5

refusals : Refusals
unfolding lt le of_bits to_bits of_int some_below sum_below u64_at table_float book_float Format.join_bits Format.departure_bits Format.length_bits Format.links Format.origins_at_of Format.origins Format.destinations_at_of Format.destinations Format.legs_at_of Format.legs Format.samples_at_of Format.samples Format.end_of Format.link_length Format.link_next Format.link_next_alt Format.link_prev Format.link_prev_alt Format.origin_link Format.origin_offset Format.origin_front Format.destination_link Format.leg_link Format.leg_parent Format.leg_samples Format.sample_time Format.sample_offset Format.sample_speed Format.first_sample Format.sample_at Rows.row1 Rows.row2 Rows.row3 Rows.row4 Rows.row5 Rows.row6 Rows.row7 first_of Options.member Options.origin_below Options.stacked Options.pushed Options.kept_origins Options.row8 read_number
refusals = record {
  accepted = refl;
  empty = refl;
  byte_short = refl;
  count_too_high = refl;
  byte_over = refl;
  count_too_low = refl;
  no_links = refl;
  no_origins = refl;
  no_destinations = refl;
  no_legs = refl;
  no_samples = refl;
  leg_without_samples = refl;
  legs_have_more = refl;
  legs_have_fewer = refl;
  work_space = refl;
  work_space_short = refl;
  places_count = refl;
  most_places = refl;
  most_places_short = refl;
  more_places = refl;
  j_not_a_number = refl;
  j_infinite = refl;
  j_above_billion = refl;
  j_billion = refl;
  j_negative = refl;
  j_minus_zero = refl;
  departure_minus_zero = refl;
  length_above = refl;
  link_length_infinite = refl;
  origin_offset_negative = refl;
  sample_time_not_a_number = refl;
  sample_offset_above = refl;
  sample_speed_minus_zero = refl;
  flag_unknown = refl;
  next_of_none = refl;
  next_alt_of_none = refl;
  prev_of_none = refl;
  prev_alt_of_none = refl;
  origin_of_none = refl;
  destination_of_none = refl;
  leg_link_of_none = refl;
  leg_parent_of_none = refl;
  zero_with_length = refl;
  zero_with_next = refl;
  zero_with_next_alt = refl;
  zero_with_prev = refl;
  zero_with_prev_alt = refl;
  link_without_length = refl;
  both_next = refl;
  origin_offset_lem = refl;
  origin_front_lem = refl;
  origin_repeated = refl;
  two_origins = refl;
  leg_link_zero = refl;
  own_parent = refl;
  later_parent = refl;
  leg_repeated = refl;
  same_parent = refl;
  same_link = refl;
  times_fall = refl;
  times_equal = refl;
  offsets_fall = refl;
  offsets_equal = refl;
  other_time = refl;
  other_offset = refl;
  other_speed = refl;
  last_bit = refl;
  other_departure = refl;
  destination_zero_lem = refl;
  no_origin_kept = refl;
  four_before_five = refl;
  five_before_six = refl;
}
