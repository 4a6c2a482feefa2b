-- Rows 1 to 7 of document 01's table of refusals: for each, when it holds of the whole bytes.
-- Which of those that hold is told first, and where row 8 comes, stands in book_reader's specs/Reader.antt.
-- Each definition looks at every row of a section by its index; none says how a program scans.
use Rattle.std.specs.Prelude.{Bool, not, ◌&&◌, ◌||◌, cond, List, ℕ, zero, suc, ◌+◌, ◌-◌, ◌*◌, min, leb, ltb, eqb}
use Rattle.std.specs.Prelude.{length}
use Rattle.std.specs.Float.Ieee.{lt}
use Rattle.fields.specs.Fields.{u64_at}
use Rattle.laws.specs.Answer.{Answer, refused, given}
use Rattle.laws.specs.Below.{some_below, sum_below}
use Rattle.floats.specs.Floats.{book_float}
use Rattle.refusals.specs.declared.Refusal.TheVariants.{CutOff, LeftOver}
use Rattle.refusals.specs.Refusals.{refusal_number}
use Rattle.book_format.specs.declared.Sample.{Sample}
use Rattle.book_format.specs.declared.SamplePatterns.{SamplePatterns}
use Rattle.book_format.specs.declared.HeadPatterns.{HeadPatterns}
use Rattle.book_format.specs.Format.{links, origins, destinations, legs, samples, end_of}
use Rattle.book_format.specs.Format.{join_bits, departure_bits, length_bits}
use Rattle.book_format.specs.Format.{link_length, link_next, link_next_alt, link_prev, link_prev_alt}
use Rattle.book_format.specs.Format.{origin_link, origin_offset, origin_front, destination_link}
use Rattle.book_format.specs.Format.{leg_link, leg_parent, leg_samples, first_sample}
use Rattle.book_format.specs.Format.{sample_time, sample_offset, sample_speed, samples_at_of, sample_width, sample_at}

-- Row 1: bytes end before the last field does.
unfoldable pub row1 : List ℕ → Bool
row1 b = ltb (length b) (end_of b)

-- Row 2: bytes left over.
unfoldable pub row2 : List ℕ → Bool
row2 b = ltb (end_of b) (length b)

-- What rows 1 and 2 answer: the book itself, or the number that document 01 gives.
unfoldable pub measured_of : List ℕ → Answer (List ℕ)
unfolding row1 row2
measured_of b =
    cond (row1 b) (refused (refusal_number CutOff))
    (cond (row2 b) (refused (refusal_number LeftOver)) (given b))

-- ---- row 3

-- a count outside 1 to a limit
abbrev pub outside_limits : ℕ → ℕ → Bool
outside_limits limit n = eqb n 0 || ltb limit n

-- "Counts: links, legs 1 to 65,535; origins, destinations 1 to 1,000; samples 1 to 1,000,000."
unfoldable pub bad_count : List ℕ → Bool
bad_count b =
    outside_limits 65535 (links b)
    || outside_limits 65535 (legs b)
    || outside_limits 1000 (origins b)
    || outside_limits 1000 (destinations b)
    || outside_limits 1000000 (samples b)

-- "36,864 + 64 times (links + origins + destinations + legs + table places up to 65,535) bytes"
unfoldable pub work_bytes : List ℕ → ℕ → ℕ
work_bytes b places = 36864 + 64 * (links b + origins b + destinations b + legs b + min places 65535)

-- Row 3: count outside its limits; a leg of 0 samples; leg sums differ; work space below what is asked.
unfoldable pub row3 : List ℕ → ℕ → ℕ → Bool
unfolding bad_count work_bytes
row3 b places bytes =
    bad_count b
    || some_below (legs b) (λ i. eqb (leg_samples b i) 0)
    || not (eqb (sum_below (legs b) (leg_samples b)) (samples b))
    || ltb bytes (work_bytes b places)

-- ---- row 4: a float that a book may not hold, or an unknown flag

unfoldable pub bad_origin_value : List ℕ → ℕ → Bool
bad_origin_value b i = not (book_float (origin_offset b i)) || ltb 1 (origin_front b i)

-- a sample whose first byte is at `at`
unfoldable pub bad_sample_from : List ℕ → ℕ → Bool
bad_sample_from b at =
    not (book_float (u64_at b at))
    || not (book_float (u64_at b (at + 8)))
    || not (book_float (u64_at b (at + 16)))

-- a sample's patterns, of which one is no book's float
unfoldable pub bad_patterns : SamplePatterns → Bool
bad_patterns p = not (book_float p.time) || not (book_float p.offset) || not (book_float p.speed)

-- the patterns of the three floats at the head, of which one is no book's float
unfoldable pub bad_head : HeadPatterns → Bool
bad_head p = not (book_float p.join) || not (book_float p.departure) || not (book_float p.length)

unfoldable pub bad_sample : List ℕ → ℕ → Bool
unfolding bad_sample_from
bad_sample b k = bad_sample_from b (samples_at_of b + k * sample_width)

unfoldable pub row4 : List ℕ → Bool
unfolding bad_origin_value bad_sample
row4 b =
    not (book_float (join_bits b))
    || not (book_float (departure_bits b))
    || not (book_float (length_bits b))
    || some_below (links b) (λ i. not (book_float (link_length b i)))
    || some_below (origins b) (bad_origin_value b)
    || some_below (samples b) (bad_sample b)

-- ---- row 5: "index .. names nothing; link 0 not all zero; other link of length 0; next = next alternative, nonzero"

-- no link of the book has this number
abbrev pub no_such_link : List ℕ → ℕ → Bool
no_such_link b i = leb (links b) i

unfoldable pub link_zero : List ℕ → Bool
link_zero b =
    eqb (link_length b 0) 0
    && eqb (link_next b 0) 0
    && eqb (link_next_alt b 0) 0
    && eqb (link_prev b 0) 0
    && eqb (link_prev_alt b 0) 0

unfoldable pub bad_link : List ℕ → ℕ → Bool
bad_link b i =
    no_such_link b (link_next b i)
    || no_such_link b (link_next_alt b i)
    || no_such_link b (link_prev b i)
    || no_such_link b (link_prev_alt b i)
    || (ltb 0 i && eqb (link_length b i) 0)
    || (eqb (link_next b i) (link_next_alt b i) && ltb 0 (link_next b i))

unfoldable pub bad_leg_index : List ℕ → ℕ → Bool
bad_leg_index b i = no_such_link b (leg_link b i) || ltb (legs b) (leg_parent b i)

unfoldable pub row5 : List ℕ → Bool
unfolding link_zero bad_link bad_leg_index
row5 b =
    not (link_zero b)
    || some_below (links b) (bad_link b)
    || some_below (origins b) (λ i. no_such_link b (origin_link b i))
    || some_below (destinations b) (λ i. no_such_link b (destination_link b i))
    || some_below (legs b) (bad_leg_index b)

-- ---- row 6: "origin offset nonzero, front flag 1, or link repeated"

unfoldable pub bad_origin_place : List ℕ → ℕ → Bool
bad_origin_place b i = not (eqb (origin_offset b i) 0) || eqb (origin_front b i) 1

-- an origin above has its link
unfoldable pub origin_repeats : List ℕ → ℕ → Bool
origin_repeats b i = some_below i (λ j. eqb (origin_link b j) (origin_link b i))

abbrev pub some_bad_place : List ℕ → Bool
some_bad_place b = some_below (origins b) (bad_origin_place b)

abbrev pub some_origin_repeats : List ℕ → Bool
some_origin_repeats b = some_below (origins b) (origin_repeats b)

unfoldable pub row6 : List ℕ → Bool
unfolding bad_origin_place origin_repeats
row6 b = some_bad_place b || some_origin_repeats b

-- ---- row 7

-- "leg link 0; parent not below own number", which is the row's number and one more
unfoldable pub bad_leg : List ℕ → ℕ → Bool
bad_leg b i = eqb (leg_link b i) 0 || ltb i (leg_parent b i)

-- "parent and link repeated": a leg above has both
unfoldable pub leg_repeats : List ℕ → ℕ → Bool
leg_repeats b i = some_below i (λ j. eqb (leg_parent b j) (leg_parent b i) && eqb (leg_link b j) (leg_link b i))

-- a sample and the one after it: "times not strictly rising or offsets falling"
unfoldable pub sample_falls : Sample → Sample → Bool
sample_falls s t = not (lt s.time t.time) || lt t.offset s.offset

unfoldable pub falls : List ℕ → ℕ → Bool
unfolding sample_falls
falls b k = sample_falls (sample_at b k) (sample_at b (k + 1))

unfoldable pub leg_falls : List ℕ → ℕ → Bool
unfolding falls
leg_falls b i = some_below (leg_samples b i - 1) (λ k. falls b (first_sample b i + k))

-- two samples, bit for bit
unfoldable pub same_sample : List ℕ → ℕ → ℕ → Bool
same_sample b j k =
    eqb (sample_time b j) (sample_time b k)
    && eqb (sample_offset b j) (sample_offset b k)
    && eqb (sample_speed b j) (sample_speed b k)

-- the leg in row i begins where it must, which row 7 denies:
-- "first sample not its parent's last, bit for bit; starting leg's first time not the departure".
-- The parent of number p stands in row p - 1, and its last sample just before the first of the row after it.
abbrev pub begins : List ℕ → ℕ → ℕ → Bool
begins b i zero = eqb (sample_time b (first_sample b i)) (departure_bits b)
begins b i (suc p) = same_sample b (first_sample b (suc p) - 1) (first_sample b i)

unfoldable pub leg_begins : List ℕ → ℕ → Bool
unfolding same_sample
leg_begins b i = begins b i (leg_parent b i)

abbrev pub some_bad_leg : List ℕ → Bool
some_bad_leg b = some_below (legs b) (bad_leg b)

abbrev pub some_leg_repeats : List ℕ → Bool
some_leg_repeats b = some_below (legs b) (leg_repeats b)

unfoldable pub row7 : List ℕ → Bool
unfolding bad_leg leg_repeats leg_falls leg_begins
row7 b =
    some_bad_leg b
    || some_leg_repeats b
    || some_below (legs b) (leg_falls b)
    || some_below (legs b) (λ i. not (leg_begins b i))
