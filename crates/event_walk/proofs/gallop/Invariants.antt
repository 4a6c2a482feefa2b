-- `event_walk::gallop` meets its contract.
use Prim.Native.Nat.{◌+◌, ◌-◌, ◌<◌}
use Rattle.event_walk.proofs.gallop.Given as goal

abbrev pub invariant-loop-step : goal.invariant-loop-step
invariant-loop-step l = 0 < l.step

abbrev pub decreases-loop-step : goal.decreases-loop-step
decreases-loop-step l = l.points + 1 - l.step
