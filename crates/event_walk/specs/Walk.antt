-- The walk of the source's `update_est_times_add`: which points are passed, in order, and when. The back point is the
-- next that the train's end reaches, the front point the next that its front reaches; the event that comes first is
-- emitted and its point moves on, sample by sample.
use Rattle.std.specs.Prelude.{◌≡◌, Bool, true, false, not, ◌&&◌, ◌||◌, cond, List, [], ◌∷◌, ℕ, zero, suc, ◌+◌, ◌-◌, ◌≤◌}
use Rattle.std.specs.Prelude.{◌<◌, ltb, eqb, Float, Option, Some, None}
use Rattle.std.specs.Float.{binary64}
use Rattle.std.specs.Float.Ieee.{sub, le}
use Rattle.laws.specs.Below.{some_below}
use Rattle.net_node.specs.declared.EstType.TheVariants.{Arrive, Clear}
use Rattle.event_formula.specs.declared.Passing.{Passing}
use Rattle.event_formula.specs.Event.{event_offset, clears, passing_at, bad_passing}
use Rattle.event_walk.specs.declared.Heads.{Heads}
use Rattle.event_walk.specs.declared.PassedPoint.{PassedPoint}
use Rattle.event_walk.specs.declared.Movement.{Movement}
use Rattle.event_walk.specs.Course.{Course, course_of}

-- ---- where the walk begins

-- the first of n points, from k on, that lies beyond x; k + n where none does
unfoldable pub first_beyond : (ℕ → Float) → Float → ℕ → ℕ → ℕ
first_beyond offset x k zero = k
first_beyond offset x k (suc n) =
    let later = first_beyond offset x (suc k) n in
    cond (le (offset k) x) later k

-- `while link_pts[pt_idx_back].offset <= state_first.offset - length`
unfoldable pub start_back : Course → ℕ
unfolding first_beyond
start_back c = first_beyond c.offset (sub binary64 (c.sample 0).offset c.length) 0 c.points

-- `let mut pt_idx_front = pt_idx_back; while link_pts[pt_idx_front].offset <= state_first.offset`
unfoldable pub start_front : Course → ℕ
unfolding start_back
start_front c = first_beyond c.offset (c.sample 0).offset (start_back c) (c.points - start_back c)

-- `for i in 1..movement.len()`
unfoldable pub start : Course → Heads
unfolding start_front
start c = record { i = 1; pt_idx_back = start_back c; pt_idx_front = start_front c }

-- ---- one turn

-- `offset_next`: where the next event is
unfoldable pub offset_next : Course → Heads → Float
unfolding event_offset
offset_next c h = event_offset (c.offset h.pt_idx_front) (c.offset h.pt_idx_back) c.length

-- `while offset_next <= movement[i].offset`: it is at or before sample i
unfoldable pub in_range : Course → Heads → Bool
unfolding offset_next
in_range c h = le (offset_next c h) (c.sample h.i).offset

-- "Clear only if back offset + length is strictly below front offset, else Arrive"
unfoldable pub clears_next : Course → Heads → Bool
unfolding clears
clears_next c h = clears (c.offset h.pt_idx_front) (c.offset h.pt_idx_back) c.length

-- where the back index becomes 1 nothing is emitted
unfoldable pub emits : Course → Heads → Bool
unfolding in_range clears_next
emits c h = in_range c h && not (clears_next c h && eqb h.pt_idx_back 0)

-- the front point, the back point or the sample moves on
unfoldable pub turned : Heads → Bool → Bool → Heads
turned h true true = record { i = h.i; pt_idx_back = suc h.pt_idx_back; pt_idx_front = h.pt_idx_front }
turned h true false = record { i = h.i; pt_idx_back = h.pt_idx_back; pt_idx_front = suc h.pt_idx_front }
turned h false clear = record { i = suc h.i; pt_idx_back = h.pt_idx_back; pt_idx_front = h.pt_idx_front }

unfoldable pub turn : Course → Heads → Heads
unfolding in_range clears_next
turn c h = turned h (in_range c h) (clears_next c h)

-- the point that is passed and its kind: the back point is cleared, the front point arrived at
unfoldable pub passed_as : Heads → Bool → Float → Passing → PassedPoint
passed_as h true offset p = record {
  time = p.time;
  offset = offset;
  speed = p.speed;
  point = h.pt_idx_back;
  est_type = Clear;
}
passed_as h false offset p = record {
  time = p.time;
  offset = offset;
  speed = p.speed;
  point = h.pt_idx_front;
  est_type = Arrive;
}

unfoldable pub passed_next : Course → Heads → PassedPoint
unfolding clears_next offset_next
passed_next c h =
    passed_as h (clears_next c h) (offset_next c h)
    (passing_at (c.sample h.i) (c.sample (h.i - 1)) (offset_next c h))

-- ---- the walk

-- the points passed in so many turns
unfoldable pub walk : ℕ → Course → Heads → List PassedPoint
unfolding emits turn passed_next
walk zero c h = []
walk (suc n) c h =
    let later = walk n c (turn c h) in
    cond (ltb h.i c.samples) (cond (emits c h) (passed_next c h ∷ later) later) []

-- A turn moves one of the three on, so these turns are enough.
unfoldable pub turns_left : Course → Heads → ℕ
turns_left c h = c.samples - h.i + (c.points - h.pt_idx_back) + (c.points - h.pt_idx_front)

unfoldable pub passed_from : Course → Heads → List PassedPoint
unfolding walk turns_left
passed_from c h = walk (turns_left c h) c h

-- the points that a leg's samples pass, in order: its events
unfoldable pub points_passed : Course → List PassedPoint
unfolding passed_from start
points_passed c = passed_from c (start c)

-- ---- what is said of all events

unfoldable pub Each : (PassedPoint → Type 0) → List PassedPoint → Type 0
Each P [] = Unit
Each P (p ∷ ps) = P p × Each P ps

-- the first event, if there is one, lies at x or beyond
unfoldable pub FromOn : Float → List PassedPoint → Type 0
FromOn x [] = Unit
FromOn x (p ∷ ps) = le x p.offset ≡ true

-- each event lies where the one before it does or beyond
unfoldable pub NeverFall : List PassedPoint → Type 0
unfolding FromOn
NeverFall [] = Unit
NeverFall (p ∷ ps) = FromOn p.offset ps × NeverFall ps

-- ---- row 11

-- "a sample offset reaches the last point"
unfoldable pub reaches_last : Course → Bool
reaches_last c = some_below c.samples (λ i. le (c.offset (c.points - 1)) (c.sample i).offset)

-- "event speed or time not finite, or time above 1,000,000,000 in size"
unfoldable pub bad_point : PassedPoint → Bool
bad_point p = bad_passing (record { time = p.time; speed = p.speed })

unfoldable pub some_bad : List PassedPoint → Bool
unfolding bad_point
some_bad [] = false
some_bad (p ∷ ps) = bad_point p || some_bad ps

-- Row 11 of a leg: a sample offset reaches the last point, or an event is bad
unfoldable pub row11 : Course → Bool
unfolding reaches_last some_bad points_passed
row11 c = reaches_last c || some_bad (points_passed c)

-- its number
abbrev pub bad_leg_number : ℕ
bad_leg_number = 11

-- ---- what the walking code keeps

-- the heads stand where they can: a sample before, and the back point not beyond the front point, which is a point of
-- the path
pub record Within (c : Course) (h : Heads) : Type 0 where
  pub after : 0 < h.i
  pub order : h.pt_idx_back ≤ h.pt_idx_front
  pub inside : h.pt_idx_front < c.points

-- the same of the parts of a course that is held
abbrev pub WithinHeld : List ℕ → List Float → Movement → Heads → Type 0
WithinHeld b offsets m h = Within (course_of b offsets m) h

-- the next point passed and the heads behind it, or that there is none
abbrev pub NextOf : Course → Heads → Option (PassedPoint × Heads) → Type 0
NextOf c h (Some (p, g)) = (passed_from c h ≡ p ∷ passed_from c g) × Within c g
NextOf c h None = passed_from c h ≡ []
