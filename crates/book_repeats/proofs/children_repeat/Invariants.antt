-- `book_repeats::children_repeat` meets its contract: `Walk` is the loop's invariant.
use Rattle.book_repeats.proofs.Children.{Walk}
use Rattle.book_repeats.proofs.children_repeat.Given as goal

abbrev pub invariant-loop-j : goal.invariant-loop-j
invariant-loop-j l = Walk l.book l.initial.marks l.marks l.p l.j

abbrev pub decreases-loop-j : goal.decreases-loop-j
decreases-loop-j l = l.j
