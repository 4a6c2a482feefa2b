-- `grow_leg::is_destination` meets its contract: none so far is the loop's invariant.
use Rattle.grow_leg.proofs.Choosing.{NoneOf}
use Rattle.grow_leg.proofs.is_destination.Given as goal

abbrev pub invariant-loop-i : goal.invariant-loop-i
invariant-loop-i l = NoneOf l.book l.link_idx l.i
