-- Worked examples of the walk, computed: document 01's leg 2 and its marked cases, and trains that stand on a point, worked
-- out by hand.
use mathlib.Core.Path.{◌≡◌, refl}
use mathlib.Core.Bool.{true, false}
use mathlib.Core.List.{List, [], ◌∷◌, map}
use Prim.Native.Nat.{ℕ}
use lib.IntN.{pos}
use lib.ListN.{length, get_or}
use lib.Ieee.{Float, nan, binary64, add, sub, mul, div, lt, le, is_nan, of_bits, of_int, eq}
use Rattle.floats.specs.Floats.{table_float, smaller}
use Rattle.laws.specs.Below.{some_below}
use Rattle.root.specs.Root.{sqrt}
use Rattle.net_node.specs.declared.EstType.{EstType}
use Rattle.net_node.specs.declared.EstType.TheVariants.{Arrive, Clear}
use Rattle.book_format.specs.declared.Sample.{Sample}
use Rattle.event_formula.specs.Event.{event_offset, clears, passing_at, bad_passing}
use Rattle.event_walk.specs.declared.PassedPoint.{PassedPoint}
use Rattle.event_walk.specs.Course.{Course}
use Rattle.event_walk.specs.Walk.{first_beyond, start, offset_next, in_range, clears_next, emits, turned, turn, passed_as, passed_next, walk, turns_left, passed_from, points_passed, reaches_last, some_bad, row11}

-- a whole number of metres, seconds or metres a second
abbrev whole : ℕ → Float
whole n = of_int binary64 (pos n)

-- a sample's time, offset and speed
abbrev at : ℕ → ℕ → ℕ → Sample
at time offset speed = record { time = whole time; offset = whole offset; speed = whole speed }

abbrev event : Float → ℕ → Float → ℕ → EstType → PassedPoint
event time offset speed point kind = record { time = time; offset = whole offset; speed = speed; point = point; est_type = kind }

-- a train of 10 m
abbrev course : List Float → List Sample → Course
course points samples = record {
  samples = length samples;
  sample = λ i. get_or samples i (record { time = nan; offset = nan; speed = nan });
  points = length points;
  offset = λ k. get_or points k nan;
  length = whole 10;
}

-- leg 2 of document 01's book: its points name the links 1, 2 and 0
abbrev second : Course
second = course (whole 0 ∷ whole 12 ∷ whole 112 ∷ []) (at 0 10 0 ∷ at 4 18 4 ∷ at 8 34 4 ∷ [])

abbrev link_at : ℕ → ℕ
link_at k = get_or (1 ∷ 2 ∷ 0 ∷ []) k 0

-- leg 1: one sample
abbrev first : Course
first = course (whole 0 ∷ whole 12 ∷ []) (at 0 10 0 ∷ [])

-- leg 1 with its sample at the last point
abbrev too_far : Course
too_far = course (whole 0 ∷ whole 12 ∷ []) (at 0 12 0 ∷ [])

-- points 10 m apart, as far as the train is long
abbrev level : Course
level = course (whole 0 ∷ whole 5 ∷ whole 15 ∷ whole 100 ∷ []) (at 0 12 4 ∷ at 1 16 4 ∷ [])

-- the train's end reaches the first point at the second sample
abbrev entering : Course
entering = course (whole 0 ∷ whole 100 ∷ whole 200 ∷ []) (at 0 5 5 ∷ at 1 10 5 ∷ at 2 15 5 ∷ [])

-- leg 2 with a stop of a minute, the front on the point between the links: document 02, Ask 1
abbrev front_stands_lem : Course
front_stands_lem = course (whole 0 ∷ whole 12 ∷ whole 112 ∷ []) (at 0 10 0 ∷ at 2 12 0 ∷ at 62 12 0 ∷ [])

-- with the train's end there
abbrev end_stands : Course
end_stands = course (whole 0 ∷ whole 12 ∷ whole 112 ∷ []) (at 4 18 4 ∷ at 6 22 0 ∷ at 66 22 0 ∷ [])

-- points 10 m apart, as far as the train is long, and a stop with the front on one and the end on the other
abbrev both_stand : Course
both_stand = course (whole 0 ∷ whole 5 ∷ whole 15 ∷ whole 100 ∷ []) (at 0 12 3 ∷ at 2 15 0 ∷ at 60 15 0 ∷ [])

-- a leg that begins with the front on a point: what the first sample has behind it was passed before
abbrev stands_first : Course
stands_first = course (whole 0 ∷ whole 12 ∷ whole 112 ∷ []) (at 2 12 0 ∷ at 62 12 0 ∷ [])

-- the front stands a metre beyond the point, at both samples
abbrev stands_beyond : Course
stands_beyond = course (whole 0 ∷ whole 12 ∷ whole 112 ∷ []) (at 0 10 0 ∷ at 2 13 0 ∷ [])

-- the train's end stands on the first point
abbrev stands_entering : Course
stands_entering = course (whole 0 ∷ whole 100 ∷ whole 200 ∷ []) (at 0 5 5 ∷ at 2 10 0 ∷ at 62 10 0 ∷ [])

-- where an event is, and which point is passed how
record Told : Type 0 where
  offset : Float
  point : ℕ
  kind : EstType

abbrev told : PassedPoint → Told
told p = record { offset = p.offset; point = p.point; kind = p.est_type }

record Examples : Type 0 where
  -- nodes 4 and 5 of the listing: Arrive and Clear of link 2, at 2 s and 2 m/s and at 5 s and 4 m/s
  worked : points_passed second ≡ event (of_bits binary64 0x4000000000000000) 12 (of_bits binary64 0x4000000000000000) 1 Arrive ∷ event (of_bits binary64 0x4014000000000000) 22 (of_bits binary64 0x4010000000000000) 1 Clear ∷ []
  worked_links : map (λ p. link_at p.point) (points_passed second) ≡ 2 ∷ 2 ∷ []
  worked_taken : row11 second ≡ false
  one : points_passed first ≡ []
  one_taken : row11 first ≡ false
  -- back + length = front: the front arrives before the end clears
  equal : clears_next level (start level) ≡ false
  equal_arrives : map told (points_passed level) ≡ record { offset = whole 15; point = 2; kind = Arrive } ∷ record { offset = whole 15; point = 1; kind = Clear } ∷ []
  -- the back index becomes 1
  entered : turn entering (start entering) ≡ record { i = 1; pt_idx_back = 1; pt_idx_front = 1 }
  entered_unseen : points_passed entering ≡ []
  -- a sample at the last point
  last : row11 too_far ≡ true
  -- of the samples that stand on the point the first tells the time: 2 s and not 62 s
  front : points_passed front_stands_lem ≡ event (of_bits binary64 0x4000000000000000) 12 (of_bits binary64 0) 1 Arrive ∷ []
  front_taken : row11 front_stands_lem ≡ false
  end : points_passed end_stands ≡ event (of_bits binary64 0x4018000000000000) 22 (of_bits binary64 0) 1 Clear ∷ []
  end_taken : row11 end_stands ≡ false
  both : points_passed both_stand ≡ event (of_bits binary64 0x4000000000000000) 15 (of_bits binary64 0) 2 Arrive ∷ event (of_bits binary64 0x4000000000000000) 15 (of_bits binary64 0) 1 Clear ∷ []
  first_stands : points_passed stands_first ≡ []
  beyond : row11 stands_beyond ≡ true
  -- nothing is emitted where the back index becomes 1, so nothing is asked there
  entering_stands : points_passed stands_entering ≡ []
  entering_taken : row11 stands_entering ≡ false

examples : Examples
unfolding row11 reaches_last some_bad some_below points_passed passed_from walk turns_left start turn turned emits in_range clears_next offset_next passed_next passed_as first_beyond event_offset clears passing_at bad_passing smaller table_float sqrt of_int of_bits add sub mul div lt le eq is_nan
examples = record { worked = refl; worked_links = refl; worked_taken = refl; one = refl; one_taken = refl; equal = refl; equal_arrives = refl; entered = refl; entered_unseen = refl; last = refl; front = refl; front_taken = refl; end = refl; end_taken = refl; both = refl; first_stands = refl; beyond = refl; entering_stands = refl; entering_taken = refl }
