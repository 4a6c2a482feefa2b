-- A run's path and its events in one leg. Document 01 under "Arcs": "A run is an origin and the legs that the driver
-- takes for it, from one with parent 0, each the parent of the next." Under "Events": "A path of links has points at 0
-- and at each running sum of lengths, naming the link that starts there; the last names 0."
use Rattle.std.specs.Prelude.{List, [], ◌∷◌, ◌++◌, ℕ, zero, suc, ◌+◌, ◌-◌, length, Float}
use Rattle.std.specs.Float.{binary64}
use Rattle.std.specs.Float.Ieee.{add, of_bits}
use Rattle.book_format.specs.Format.{link_length, leg_link, leg_parent, leg_samples, first_sample, sample_at}
use Rattle.book_format.specs.Format.{length_bits}
use Rattle.book_format.specs.Format.{float_of}
use Rattle.net_node.specs.declared.TimedEvent.{TimedEvent}
use Rattle.event_walk.specs.declared.PassedPoint.{PassedPoint}
use Rattle.event_walk.specs.Course.{Course}
use Rattle.event_walk.specs.Walk.{points_passed}

-- the legs from the first to leg j, by number. A parent's number is below its child's, so j turns are enough.
unfoldable pub legs_to : ℕ → List ℕ → ℕ → List ℕ
legs_to zero b j = []
legs_to (suc k) b zero = []
legs_to (suc k) b (suc i) = legs_to k b (leg_parent b i) ++ (suc i ∷ [])

-- the legs of the path that ends with leg j
unfoldable pub path_of : List ℕ → ℕ → List ℕ
unfolding legs_to
path_of b j = legs_to j b j

-- the link of a leg, by its number
unfoldable pub link_of : List ℕ → ℕ → ℕ
link_of b j = leg_link b (j - 1)

-- the link that point k of a path names: that of its leg k, and 0 for the last point
unfoldable pub point_link : List ℕ → List ℕ → ℕ → ℕ
unfolding link_of
point_link b [] k = 0
point_link b (j ∷ path) zero = link_of b j
point_link b (j ∷ path) (suc k) = point_link b path k

-- "at 0 and at each running sum of lengths", each sum rounded once
unfoldable pub point_offset : List ℕ → List ℕ → ℕ → Float
unfolding point_link
point_offset b path zero = of_bits binary64 0
point_offset b path (suc k) = add binary64 (point_offset b path k) (float_of (link_length b (point_link b path k)))

-- what the walk of leg j looks at
unfoldable pub leg_course : List ℕ → ℕ → Course
unfolding path_of point_offset
leg_course b j = record {
  samples = leg_samples b (j - 1);
  sample = λ i. sample_at b (first_sample b (j - 1) + i);
  points = length (path_of b j) + 1;
  offset = point_offset b (path_of b j);
  length = float_of (length_bits b);
}

-- a point that is passed, as an event of the link that it names
unfoldable pub event_at : List ℕ → List ℕ → PassedPoint → TimedEvent
unfolding point_link
event_at b path p = record {
  time = p.time;
  offset = p.offset;
  speed = p.speed;
  link_event = record { link_idx = point_link b path p.point; est_type = p.est_type };
}

-- all points that are passed, as events
unfoldable pub events_at : List ℕ → List ℕ → List PassedPoint → List TimedEvent
unfolding event_at
events_at b path [] = []
events_at b path (p ∷ ps) = event_at b path p ∷ events_at b path ps

-- "its legs' events in order"
unfoldable pub leg_events : List ℕ → ℕ → List TimedEvent
unfolding events_at leg_course
leg_events b j = events_at b (path_of b j) (points_passed (leg_course b j))
