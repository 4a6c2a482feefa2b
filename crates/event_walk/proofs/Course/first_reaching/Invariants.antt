-- `event_walk::Course::first_reaching` meets its contract.
use Prim.Native.Nat.{ℕ, ◌≤◌, ◌<◌}
use mathlib.Core.Path.{◌≡◌}
use mathlib.Core.Bool.{false}
use lib.Ieee.{le}
use Rattle.event_walk.specs.Held.{course_held}
use Rattle.event_walk.proofs.Course.first_reaching.Given as goal

-- no sample before i reaches x
abbrev pub invariant-loop-i : goal.invariant-loop-i
invariant-loop-i l = (k : ℕ) → l.from ≤ k → k < l.i → le l.x ((course_held l.self).sample k).offset ≡ false
