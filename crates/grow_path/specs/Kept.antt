-- How the work space keeps the path of the run that moves: the points' offsets in the reals from 0 on, and the link of
-- point k in the fourth cell of unit k. A run that waits has the beginning of this path as its own, since the last
-- saved run goes first.
use Rattle.std.specs.Prelude.{◌≡◌, true, List, ℕ, ◌+◌, ◌*◌, ◌≤◌, ◌<◌, ◌-◌, length, get_or, set, Float}
use Rattle.std.specs.Float.{nan, binary64}
use Rattle.std.specs.Float.Ieee.{add}
use Rattle.std.specs.Float.Ieee.Scale.{finite}
use Rattle.floats.specs.Floats.{Size}
use Rattle.event_walk.specs.Course.{Course, Rises}
use Rattle.book_format.specs.Format.{link_length, float_of, samples_at_of, sample_width}
use Rattle.book_legs.specs.declared.TakenLeg.{TakenLeg}
use Rattle.event_walk.specs.declared.Movement.{Movement}
use Rattle.event_walk.specs.declared.PassedPoint.{PassedPoint}
use Rattle.net_node.specs.declared.TimedEvent.{TimedEvent}
use Rattle.grow_path.specs.Path.{point_link, point_offset}

-- the path's points and links are there
pub record PathIn (b : List ℕ) (reals : List Float) (cells : List ℕ) (path : List ℕ) : Type 0 where
  pub offsets : (k : ℕ) → k ≤ length path → get_or reals k nan ≡ point_offset b path k
  pub links : (k : ℕ) → k < length path → get_or cells (k * 8 + 3) 0 ≡ point_link b path k

-- What rows 3, 4 and 7 leave of a leg's samples and points; row 11 is asked of it.
pub record Sound (c : Course) : Type 0 where
  pub some : 0 < c.samples
  pub some_points : 0 < c.points
  pub rises : Rises c.offset c.points
  pub samples_rise : Rises (λ i. (c.sample i).offset) c.samples
  pub train : Size c.length
  pub bounded : finite c.length ≡ true

-- ---- what the code writes and reads of a path

-- a link put behind the first `depth` links of a path: the point behind it, at the next running sum
abbrev pub point_added : List ℕ → List Float → ℕ → ℕ → List Float
point_added b reals depth link =
    set reals (depth + 1) (add binary64 (get_or reals depth nan) (float_of (link_length b link)))

-- its name
abbrev pub link_added : List ℕ → ℕ → ℕ → List ℕ
link_added cells depth link = set cells (depth * 8 + 3) link

-- what the walk of a leg looks at, whose path has `depth` links, where the first sample stands at `samples_at`
abbrev pub movement_at : ℕ → TakenLeg → ℕ → Float → Movement
movement_at samples_at leg depth train = record {
  at = samples_at + leg.first * sample_width;
  samples = leg.end - leg.first;
  points = depth + 1;
  length = train;
}

-- the same in a book
abbrev pub movement_on : List ℕ → TakenLeg → ℕ → Float → Movement
movement_on b leg depth train = movement_at (samples_at_of b) leg depth train

-- a point that is passed, as an event of the link that the cells name there
abbrev pub event_in : List ℕ → PassedPoint → TimedEvent
event_in cells p = record {
  time = p.time;
  offset = p.offset;
  speed = p.speed;
  link_event = record { link_idx = get_or cells (p.point * 8 + 3) 0; est_type = p.est_type };
}
