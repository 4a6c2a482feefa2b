-- `book_legs::find_leg` meets its contract: `Walking` is the loop's invariant, and the leg's number falls.
use Rattle.book_legs.proofs.Walking.{Walking}
use Rattle.book_legs.proofs.find_leg.Given as goal

abbrev pub invariant-loop-j : goal.invariant-loop-j
invariant-loop-j l = Walking l.book l.parent l.link_idx l.j

abbrev pub decreases-loop-j : goal.decreases-loop-j
decreases-loop-j l = l.j
