-- `book_options::get_link_idx_options` meets its contract: `Walking` is the loop's invariant, and the measure is how many
-- pops are left at most.
use Rattle.book_options.specs.Turns.{Walking, pops_left}
use Rattle.book_options.proofs.get_link_idx_options.Given as goal

abbrev pub invariant-loop-w : goal.invariant-loop-w
invariant-loop-w l = Walking l.book l.marks l.w

abbrev pub decreases-loop-w : goal.decreases-loop-w
decreases-loop-w l = pops_left l.book l.marks l.w
