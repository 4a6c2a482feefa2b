-- `event_walk::gallop` meets its contract.
use native.Mathlib.Omega.{arith}
use Rattle.event_walk.proofs.Searches.{gallop_found}
use Rattle.event_walk.proofs.gallop.Goals as goal

pub returns-then-offsets-points : goal.returns-then-offsets-points
returns-then-offsets-points c = gallop_found c.requires.rises c.args.x c.loop-step.step c.loop-step.invariant (omega arith) c.if-offsets-points.true
