-- Row 11 over a leg's events: one after the other, and all of them.
use mathlib.Core.Path.{◌≡◌, refl, sym, ap, ◌∙◌}
use mathlib.Core.Bool.{Bool, true, false, ◌||◌}
use mathlib.Core.List.{List, [], ◌∷◌}
use Prim.Native.Nat.{◌-◌}
use native.Mathlib.Omega.{arith}
use lib.Ieee.{le}
use Rattle.std.specs.List.{list_any}
use Rattle.laws.proofs.Below.{or_left, none_at}
use Rattle.floats.proofs.Order.{not_le}
use Rattle.event_walk.specs.declared.PassedPoint.{PassedPoint}
use Rattle.event_walk.specs.Course.{Course, Walkable}
use Rattle.event_walk.specs.Walk.{points_passed, reaches_last, bad_point, some_bad, row11}
use Rattle.event_walk.proofs.Searches.{size_number}
use Rattle.grow_path.specs.Kept.{Sound}

-- ---- one event after the other

-- the next event is bad, or it is what comes behind it that counts
pub bad_first : (all later : List PassedPoint) (p : PassedPoint) → all ≡ p ∷ later → bad_point p ≡ true
    → some_bad all ≡ true
unfolding some_bad
bad_first all later p e b = ap some_bad e ∙ or_left (bad_point p) (some_bad later) b

pub fine_first : (all later : List PassedPoint) (p : PassedPoint) → all ≡ p ∷ later → bad_point p ≡ false
    → some_bad all ≡ some_bad later
unfolding some_bad
fine_first all later p e b = ap some_bad e ∙ ap (λ (x : Bool). x || some_bad later) b

-- the test of all of them is the library's
pub some_bad_any : (ps : List PassedPoint) → some_bad ps ≡ list_any bad_point ps
unfolding some_bad
some_bad_any [] = refl
some_bad_any (p ∷ ps) = ap (λ (t : Bool). bad_point p || t) (some_bad_any ps)

-- ---- both parts of row 11

pub reaches : (c : Course) → true ≡ reaches_last c → true ≡ row11 c
unfolding row11
reaches c e = ap (λ (t : Bool). t || some_bad (points_passed c)) e

pub passes : (c : Course) (r : Bool) → false ≡ reaches_last c → r ≡ some_bad (points_passed c) → r ≡ row11 c
unfolding row11
passes c r e f = f ∙ ap (λ (t : Bool). t || some_bad (points_passed c)) e

-- a leg whose samples don't reach the last point can be walked
pub walkable : (c : Course) → Sound c → false ≡ reaches_last c → Walkable c
unfolding reaches_last
walkable c s e = record {
  some = s.some;
  some_points = s.some_points;
  rises = s.rises;
  sizes = s.samples_rise.sized;
  train = s.train;
  bounded = s.bounded;
  before_last = λ i h.
      not_le (c.offset (c.points - 1)) (c.sample i).offset
      (size_number (c.offset (c.points - 1)) (s.rises.sized (c.points - 1) (omega (arith, s.some_points))))
      (size_number (c.sample i).offset (s.samples_rise.sized i h))
      (none_at c.samples (λ k. le (c.offset (c.points - 1)) (c.sample k).offset) i h (sym e));
}
