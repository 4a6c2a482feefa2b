-- Worked examples of the event maker, computed on bytes: document 01's leg 2 and its marked cases, and a train that stands
-- on a point.
use mathlib.Core.Path.{◌≡◌, refl}
use mathlib.Core.Bool.{true}
use mathlib.Core.List.{List, [], ◌∷◌, ◌++◌}
use Prim.Native.Nat.{ℕ, zero, suc, ◌*◌, ◌/◌, ◌%◌}
use lib.IntN.{pos}
use lib.Ieee.{Float, nan, fin, binary64, add, sub, mul, div, lt, le, is_nan, of_bits, to_bits, of_int, eq}
use Rattle.floats.specs.Floats.{table_float, book_float, book_value, smaller}
use Rattle.fields.specs.Fields.{u64_at, u32_at}
use Rattle.laws.specs.Answer.{Answer, refused, given}
use Rattle.laws.specs.Below.{some_below}
use Rattle.laws.specs.Refusals.{first_of}
use Rattle.space.specs.Space.{zeros, zero_floats}
use Rattle.root.specs.Root.{sqrt}
use Rattle.book_format.specs.Format.{sample_from}
use Rattle.book_format.specs.Rows.{bad_sample_from}
use Rattle.event_formula.specs.Event.{event_offset, clears, passing_at, bad_passing}
use Rattle.event_walk.specs.Course.{course_of}
use Rattle.event_walk.specs.Walk.{first_beyond, start, offset_next, in_range, clears_next, emits, turned, turn, passed_as, passed_next, walk, turns_left, passed_from, points_passed, reaches_last, some_bad, row11}
use Rattle.event_maker.specs.Maker.{lent_course, bad_counts, bad_floats, falling, answer_of, list_places, event_floats, event_numbers, floats_as, numbers_as}

-- a whole number of metres, seconds or metres a second
abbrev whole : ℕ → Float
whole n = of_int binary64 (pos n)

-- so many bytes of a number, the least first
abbrev bytes : ℕ → ℕ → List ℕ
bytes zero n = []
bytes (suc k) n = n % 256 ∷ bytes k (n / 256)

abbrev at : ℕ → ℕ → ℕ → List ℕ
at time offset speed = bytes 8 (to_bits binary64 (whole time)) ++ bytes 8 (to_bits binary64 (whole offset)) ++ bytes 8 (to_bits binary64 (whole speed))

-- what a train of some length gets, for a list of so many places
abbrev answer : Float → List ℕ → List Float → List ℕ → ℕ → Answer ℕ
answer train samples offsets links places = answer_of (lent_course train samples offsets links) samples (list_places (places * 3) (places * 2))

abbrev points : List Float
points = whole 0 ∷ whole 12 ∷ whole 112 ∷ []

abbrev links : List ℕ
links = 1 ∷ 2 ∷ 0 ∷ []

-- leg 2 of document 01's book
abbrev leg : List ℕ
leg = at 0 10 0 ++ at 4 18 4 ++ at 8 34 4

-- its last sample too early and too fast: the second event has no speed
abbrev wild : List ℕ
wild = at 0 10 0 ++ at 4 18 4 ++ at 5 34 8

-- the front stands on the point at 12 m from 2 s to 62 s
abbrev stop : List ℕ
stop = at 0 10 0 ++ at 2 12 0 ++ at 62 12 0

abbrev minus_zero : Float
minus_zero = fin true 0 (pos 0)

record Examples : Type 0 where
  worked : answer (whole 10) leg points links 2 ≡ given 2
  worked_floats : floats_as (given 2) (lent_course (whole 10) leg points links) 8 ≡ whole 2 ∷ whole 12 ∷ whole 2 ∷ whole 5 ∷ whole 22 ∷ whole 4 ∷ whole 0 ∷ whole 0 ∷ []
  worked_numbers : numbers_as (given 2) (lent_course (whole 10) leg points links) links 5 ≡ 2 ∷ 0 ∷ 2 ∷ 1 ∷ 0 ∷ []
  short : answer (whole 10) leg points links 1 ≡ refused 12
  -- a sample at the last point
  last : answer (whole 10) (at 0 12 0) (whole 0 ∷ whole 12 ∷ []) (1 ∷ 0 ∷ []) 9 ≡ refused 11
  -- a bad event, behind the list's end too
  bad : answer (whole 10) wild points links 2 ≡ refused 11
  bad_beyond : answer (whole 10) wild points links 0 ≡ refused 11
  -- a train that stands on a point: document 02, Ask 1. Its event is at 2 s, 12 m and no speed
  stands : answer (whole 10) stop points links 1 ≡ given 1
  stands_floats : floats_as (given 1) (lent_course (whole 10) stop points links) 3 ≡ whole 2 ∷ whole 12 ∷ whole 0 ∷ []
  stands_short : answer (whole 10) stop points links 0 ≡ refused 12
  -- no sample, no point; what is left of a sample or a point is none
  none : answer (whole 10) [] points links 2 ≡ refused 3
  part : answer (whole 10) (0 ∷ []) points links 2 ≡ refused 3
  pointless : answer (whole 10) leg points [] 2 ≡ refused 3
  -- lengths that a book may not hold
  nan_length : answer nan leg points links 2 ≡ refused 4
  signed_length : answer minus_zero leg points links 2 ≡ refused 4
  -- time stands still, the train goes back, a point falls
  still : answer (whole 10) (at 0 10 0 ++ at 0 11 0) points links 2 ≡ refused 7
  back : answer (whole 10) (at 0 10 0 ++ at 1 9 0) points links 2 ≡ refused 7
  fallen : answer (whole 10) leg (whole 0 ∷ whole 200 ∷ whole 112 ∷ []) links 2 ≡ refused 7

examples : Examples
unfolding answer_of first_of lent_course course_of bad_counts bad_floats falling list_places event_floats event_numbers zeros zero_floats book_value book_float bad_sample_from sample_from u64_at u32_at row11 reaches_last some_bad some_below points_passed passed_from walk turns_left start turn turned emits in_range clears_next offset_next passed_next passed_as first_beyond event_offset clears passing_at bad_passing smaller table_float sqrt of_int of_bits to_bits add sub mul div lt le eq is_nan
examples = record { worked = refl; worked_floats = refl; worked_numbers = refl; short = refl; last = refl; bad = refl; bad_beyond = refl; stands = refl; stands_floats = refl; stands_short = refl; none = refl; part = refl; pointless = refl; nan_length = refl; signed_length = refl; still = refl; back = refl; fallen = refl }
