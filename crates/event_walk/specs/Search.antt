-- Words of the walking code's parts. Only the contracts of private functions use them.
use Rattle.std.specs.Prelude.{◌≡◌, Bool, true, false, ◌&&◌, ℕ, ◌≤◌, ◌<◌, eqb, Float, Option, Some, None}
use Rattle.std.specs.Float.Ieee.{le}
use Rattle.net_node.specs.declared.EstType.{EstType}
use Rattle.book_format.specs.declared.Sample.{Sample}
use Rattle.event_formula.specs.Event.{passing_at}
use Rattle.event_walk.specs.declared.Heads.{Heads}
use Rattle.event_walk.specs.declared.PassedPoint.{PassedPoint}
use Rattle.event_walk.specs.Course.{Course}
use Rattle.event_walk.specs.Walk.{clears_next}

-- The search for the first point beyond an offset: no point before `low` lies beyond x.
pub record NoneBeyond (offset : ℕ → Float) (points : ℕ) (x : Float) (low : ℕ) : Type 0 where
  pub inside : low ≤ points
  pub before : (k : ℕ) → k < low → le (offset k) x ≡ true

-- i is the first sample from `from` on that reaches x
pub record Reached (offset : ℕ → Float) (samples : ℕ) (x : Float) (from i : ℕ) : Type 0 where
  pub after : from ≤ i
  pub inside : i < samples
  pub short : (k : ℕ) → from ≤ k → k < i → le x (offset k) ≡ false
  pub there : le x (offset i) ≡ true

-- the first sample from `from` on that reaches x, if there is one
abbrev pub FirstReaching : (ℕ → Float) → ℕ → Float → ℕ → Option ℕ → Type 0
FirstReaching offset samples x from (Some i) = Reached offset samples x from i
FirstReaching offset samples x from None = (k : ℕ) → from ≤ k → k < samples → le x (offset k) ≡ false

-- the next event is that the train's end passes the first point
unfoldable pub unseen : Course → Heads → Bool
unfolding clears_next
unseen c h = eqb h.pt_idx_back 0 && clears_next c h

-- a point that is passed at an offset between two samples
unfoldable pub point_with : Sample → Sample → Float → ℕ → EstType → PassedPoint
point_with s before offset point kind =
    let p = passing_at s before offset in
    record { time = p.time; offset = offset; speed = p.speed; point = point; est_type = kind }
