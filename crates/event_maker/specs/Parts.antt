-- Words of the event maker's parts. Only the contracts of private functions use them.
use Rattle.std.specs.Prelude.{◌≡◌, Bool, not, cond, List, ℕ, suc, ◌+◌, ◌-◌, ◌*◌, ◌<◌, ltb, length, set, get_or, Float}
use Rattle.std.specs.Float.{nan}
use Rattle.std.specs.Float.Ieee.{lt}
use Rattle.laws.specs.Answer.{Answer, refused, given}
use Rattle.laws.specs.Below.{some_below}
use Rattle.laws.specs.Refusals.{first_of}
use Rattle.floats.specs.Floats.{book_value}
use Rattle.book_format.specs.Format.{sample_from, sample_width}
use Rattle.book_format.specs.Rows.{bad_sample_from, sample_falls}
use Rattle.net_node.specs.Table.{kind_number}
use Rattle.event_walk.specs.declared.PassedPoint.{PassedPoint}
use Rattle.event_walk.specs.Course.{Course}
use Rattle.event_walk.specs.Walk.{points_passed, reaches_last, some_bad, bad_leg_number}
use Rattle.event_maker.specs.Maker.{bad_counts, bad_floats, falling, short_number, rows_to11}
use Rattle.event_maker.specs.Maker.{floats_as, numbers_as}
use Rattle.event_maker.specs.Maker.{EventList, places_in, event_float_width, event_number_width}

-- ---- the rows

-- the number of rows 3, 4, 7 and 11 by their tests, and 0 where none holds
abbrev pub rows_number : Bool → Bool → Bool → Bool → ℕ
rows_number three four seven eleven = first_of (rows_to11 three four seven eleven)

-- rows 3, 4 and 7, and 11 for the samples
unfoldable pub first_number : Course → List ℕ → ℕ
first_number c samples = rows_number (bad_counts c) (bad_floats c samples) (falling c) (reaches_last c)

-- one sweep over n rows: 4 if one is bad, else whether one falls against the row before it
unfoldable pub sweep_answer : ℕ → (ℕ → Bool) → (ℕ → Bool) → Answer Bool
sweep_answer n bad falls = cond (some_below n bad) (refused 4) (given (some_below (n - 1) falls))

-- a test that may be asked of each row below n tells whether the row has a property
abbrev pub Tells : ℕ → (ℕ → Bool → Type 0) → (ℕ → Bool) → Type 0
Tells n post p = (i : ℕ) (r : Bool) → i < n → post i r → r ≡ p i

unfoldable pub bad_offset : List Float → ℕ → Bool
bad_offset offsets k = not (book_value (get_or offsets k nan))

unfoldable pub offset_falls : List Float → ℕ → Bool
offset_falls offsets k = lt (get_or offsets (suc k) nan) (get_or offsets k nan)

unfoldable pub bad_at : List ℕ → ℕ → Bool
bad_at samples i = bad_sample_from samples (i * sample_width)

unfoldable pub falls_at : List ℕ → ℕ → Bool
unfolding sample_falls
falls_at samples i = sample_falls (sample_from samples (i * sample_width)) (sample_from samples (suc i * sample_width))

-- ---- the events

-- 12 where the list is too short
unfoldable pub count_answer : ℕ → ℕ → Answer ℕ
count_answer count places = cond (ltb places count) (refused short_number) (given count)

-- what is left of the answer behind the rows
unfoldable pub walk_answer : Course → ℕ → Answer ℕ
unfolding count_answer
walk_answer c places =
    cond (some_bad (points_passed c)) (refused bad_leg_number) (count_answer (length (points_passed c)) places)

-- the list with an event at place k
unfoldable pub put_event_floats : List Float → ℕ → PassedPoint → List Float
put_event_floats fs k p =
    let f = k * event_float_width in
    set (set (set fs f p.time) (f + 1) p.offset) (f + 2) p.speed

unfoldable pub put_event_numbers : List ℕ → ℕ → PassedPoint → ℕ → List ℕ
put_event_numbers us k p link =
    let u = k * event_number_width in
    set (set us u link) (u + 1) (kind_number p.est_type)

-- the list, unless a refusal leaves it to be made zero
abbrev pub FloatsListed : Answer ℕ → Course → ℕ → List Float → Type 0
FloatsListed (given n) c size fs = fs ≡ floats_as (given n) c size
FloatsListed (refused n) c size fs = Unit

abbrev pub NumbersListed : Answer ℕ → Course → List ℕ → ℕ → List ℕ → Type 0
NumbersListed (given n) c links size us = us ≡ numbers_as (given n) c links size
NumbersListed (refused n) c links size us = Unit

-- the events one after the other into a list
pub record EventsListed (c : Course) (links : List ℕ) (lent left : EventList) (r : Answer ℕ) : Type 0 where
  pub answer : r ≡ walk_answer c (places_in lent)
  pub floats : FloatsListed r c (length lent.floats) left.floats
  pub numbers : NumbersListed r c links (length lent.numbers) left.numbers
