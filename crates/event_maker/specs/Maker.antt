-- The event maker, document 01: "By itself the event maker (1 to 1,000,000 samples, 1 to 65,536 points, 7 if one falls,
-- book signs, no work space) gives 3, 4, 7, any 11, then 12 for a short list; else the count and each event's time,
-- offset, speed, link, kind, rest zero."
-- Samples are lent as bytes, 24 to a sample as in a book; points in two slices, offsets and links, as many as both
-- have. The list is lent in two slices, 3 floats and 2 numbers to an event. What bytes and slices have past the last
-- whole sample, point or place is not looked at, and in the list it is zero afterwards.
use Rattle.std.specs.Prelude.{◌≡◌, Bool, not, ◌||◌, List, [], ◌∷◌, ◌++◌, ℕ, zero, suc, ◌-◌, ◌*◌, ◌/◌, min, ltb, length}
use Rattle.std.specs.Prelude.{get_or, Float}
use Rattle.std.specs.Float.Ieee.{lt}
use Rattle.laws.specs.Answer.{Answer, refused, given}
use Rattle.laws.specs.Below.{some_below}
use Rattle.laws.specs.Refusals.{Row, row, first_of}
use Rattle.floats.specs.Floats.{book_value}
use Rattle.space.specs.Space.{zeros, zero_floats}
use Rattle.space.specs.Lent.{Lent, Seen}
use Rattle.book_format.specs.Format.{sample_width}
use Rattle.book_format.specs.Rows.{outside_limits, bad_sample_from, sample_falls}
use Rattle.net_node.specs.Table.{kind_number}
use Rattle.event_walk.specs.declared.Movement.{Movement}
use Rattle.event_walk.specs.declared.PassedPoint.{PassedPoint}
use Rattle.event_walk.specs.Course.{Course, course_of}
use Rattle.event_walk.specs.Walk.{points_passed, row11, bad_leg_number}

-- ---- what is lent

-- a train's length, its samples, and its path's points by their offsets and links
pub record LentLeg : Type 0 where
  pub train : Float
  pub samples : List ℕ
  pub offsets : List Float
  pub links : List ℕ

abbrev pub lent_leg : Float → Seen (List ℕ) → Seen (List Float) → Seen (List ℕ) → LentLeg
lent_leg train samples offsets links = record {
  train = train;
  samples = samples.entry.now;
  offsets = offsets.entry.now;
  links = links.entry.now;
}

-- the list of events
pub record EventList : Type 0 where
  pub floats : List Float
  pub numbers : List ℕ

abbrev pub list_at_entry : Lent (List Float) → Lent (List ℕ) → EventList
list_at_entry floats numbers = record { floats = floats.entry.now; numbers = numbers.entry.now }

abbrev pub list_at_exit : Lent (List Float) → Lent (List ℕ) → EventList
list_at_exit floats numbers = record { floats = floats.exit.now; numbers = numbers.exit.now }

-- samples, points and length as they are lent
unfoldable pub movement_of : Float → List ℕ → List Float → List ℕ → Movement
movement_of train samples offsets links = record {
  at = 0;
  samples = length samples / sample_width;
  points = min (length offsets) (length links);
  length = train;
}

unfoldable pub lent_course : Float → List ℕ → List Float → List ℕ → Course
unfolding movement_of
lent_course train samples offsets links = course_of samples offsets (movement_of train samples offsets links)

abbrev pub course_in : LentLeg → Course
course_in l = lent_course l.train l.samples l.offsets l.links

-- the widths of an event in the list: time, offset and speed; link and kind
abbrev pub event_float_width : ℕ
event_float_width = 3

abbrev pub event_number_width : ℕ
event_number_width = 2

-- how many events the list has places for
unfoldable pub list_places : ℕ → ℕ → ℕ
list_places floats numbers = min (floats / event_float_width) (numbers / event_number_width)

abbrev pub places_in : EventList → ℕ
places_in l = list_places (length l.floats) (length l.numbers)

-- ---- the refusals

-- 3: "1 to 1,000,000 samples, 1 to 65,536 points"
unfoldable pub bad_counts : Course → Bool
bad_counts c = outside_limits 1000000 c.samples || outside_limits 65536 c.points

-- 4: a float that a book may not hold
unfoldable pub bad_floats : Course → List ℕ → Bool
bad_floats c samples =
    not (book_value c.length)
    || some_below c.samples (λ i. bad_sample_from samples (i * sample_width))
    || some_below c.points (λ k. not (book_value (c.offset k)))

-- 7: a sample whose time doesn't rise, a sample or a point whose offset falls
unfoldable pub falling : Course → Bool
unfolding sample_falls
falling c =
    some_below (c.samples - 1) (λ i. sample_falls (c.sample i) (c.sample (suc i)))
    || some_below (c.points - 1) (λ k. lt (c.offset (suc k)) (c.offset k))

-- the number of "then 12 for a short list"
abbrev pub short_number : ℕ
short_number = 12

-- "3, 4, 7, any 11", by their tests
abbrev pub rows_to11 : Bool → Bool → Bool → Bool → List Row
rows_to11 three four seven eleven = row 3 three ∷ row 4 four ∷ row 7 seven ∷ row bad_leg_number eleven ∷ []

-- "3, 4, 7, any 11, then 12 for a short list"
unfoldable pub maker_rows : Course → List ℕ → ℕ → List Row
unfolding bad_counts bad_floats falling
maker_rows c samples places =
    rows_to11 (bad_counts c) (bad_floats c samples) (falling c) (row11 c)
    ++ row short_number (ltb places (length (points_passed c))) ∷ []

-- a number's answer; "else the count"
abbrev pub answered : ℕ → ℕ → Answer ℕ
answered zero count = given count
answered (suc n) count = refused (suc n)

unfoldable pub answer_of : Course → List ℕ → ℕ → Answer ℕ
unfolding maker_rows
answer_of c samples places = answered (first_of (maker_rows c samples places)) (length (points_passed c))

-- the count of an answer, 0 for a refusal
abbrev pub made_count : Answer ℕ → ℕ
made_count (given n) = n
made_count (refused n) = 0

-- ---- the list

-- "each event's time, offset, speed, link, kind"
unfoldable pub event_floats : List PassedPoint → List Float
event_floats [] = []
event_floats (p ∷ ps) = p.time ∷ p.offset ∷ p.speed ∷ event_floats ps

unfoldable pub event_numbers : List ℕ → List PassedPoint → List ℕ
event_numbers links [] = []
event_numbers links (p ∷ ps) = get_or links p.point 0 ∷ kind_number p.est_type ∷ event_numbers links ps

-- "rest zero"; a refusal leaves nothing else
abbrev pub floats_as : Answer ℕ → Course → ℕ → List Float
floats_as (given n) c size = event_floats (points_passed c) ++ zero_floats (size - n * event_float_width)
floats_as (refused n) c size = zero_floats size

abbrev pub numbers_as : Answer ℕ → Course → List ℕ → ℕ → List ℕ
numbers_as (given n) c links size = event_numbers links (points_passed c) ++ zeros (size - n * event_number_width)
numbers_as (refused n) c links size = zeros size

-- ---- what is promised: the answer, and the list as it is left

pub record EventsMade (l : LentLeg) (lent left : EventList) (r : Answer ℕ) : Type 0 where
  pub answer : r ≡ answer_of (course_in l) l.samples (places_in lent)
  pub floats : left.floats ≡ floats_as r (course_in l) (length lent.floats)
  pub numbers : left.numbers ≡ numbers_as r (course_in l) l.links (length lent.numbers)
