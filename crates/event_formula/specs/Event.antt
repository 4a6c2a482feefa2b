-- One event of a run, document 01 under "Events" and document 02, Ask 1: where it is, which kind it has, and when and
-- how fast the train passes it. Every operation is rounded once, in the order of the source's `update_est_times_add`.
-- The floats are a path's points, the train's length and two samples, one after the other; nothing here says which
-- points and samples are looked at.
use Rattle.std.specs.Prelude.{Bool, not, ◌&&◌, ◌||◌, cond, Float}
use Rattle.std.specs.Float.{binary64}
use Rattle.std.specs.Float.Ieee.{add, sub, mul, div, lt, eq, of_bits}
use Rattle.std.specs.Float.Ieee.Scale.{finite}
use Rattle.floats.specs.Floats.{table_float, smaller}
use Rattle.root.specs.Root.{sqrt}
use Rattle.book_format.specs.declared.Sample.{Sample}
use Rattle.event_formula.specs.declared.Passing.{Passing}

-- "An event's offset is the smaller of the front point's and the back point's plus length."
unfoldable pub event_offset : Float → Float → Float → Float
event_offset front back length = smaller front (add binary64 back length)

-- "Clear only if back offset + length is strictly below front offset, else Arrive."
unfoldable pub clears : Float → Float → Float → Bool
clears front back length = lt (add binary64 back length) front

-- "With d = 2 times (sample offset minus event offset)"
unfoldable pub twice_ahead : Sample → Float → Float
twice_ahead s offset = mul binary64 (of_bits binary64 0x4000000000000000) (sub binary64 s.offset offset)

-- "the speed at the point is the rounded square root of v·v − (v − v')/(t − t')·d", with v and t of the sample, v' and
-- t' of the one before
unfoldable pub speed_at : Sample → Sample → Float → Float
speed_at s before d =
    sqrt binary64
    (sub binary64 (mul binary64 s.speed s.speed)
    (mul binary64 (div binary64 (sub binary64 s.speed before.speed) (sub binary64 s.time before.time)) d))

-- "and the time is t − d/(v + speed)"
unfoldable pub time_by_quotient : Sample → Float → Float → Float
time_by_quotient s speed d = sub binary64 s.time (div binary64 d (add binary64 s.speed speed))

-- Document 02, Ask 1: "An event whose d and v + speed are both zero", as they are rounded: at the sample the train
-- stands on the point.
-- It is not a train that stands beyond the point, where d is above zero, nor one that passes it at a speed whose square
-- is zero.
unfoldable pub stands_at : Sample → Float → Float → Bool
stands_at s speed d = eq d (of_bits binary64 0) && eq (add binary64 s.speed speed) (of_bits binary64 0)

-- "is to take the sample's own time"
unfoldable pub time_at : Sample → Float → Float → Float
unfolding time_by_quotient stands_at
time_at s speed d = cond (stands_at s speed d) s.time (time_by_quotient s speed d)

-- time and speed at an offset between two samples
unfoldable pub passing_at : Sample → Sample → Float → Passing
unfolding twice_ahead speed_at time_at
passing_at s before offset =
    let d = twice_ahead s offset in
    let v = speed_at s before d in
    record { time = time_at s v d; speed = v }

-- Row 11: "event speed or time not finite, or time above 1,000,000,000 in size"
unfoldable pub bad_passing : Passing → Bool
bad_passing p = not (finite p.speed) || not (table_float p.time)
