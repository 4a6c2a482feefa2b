-- `book_repeats::legs_repeat` meets its contract: `Parents` is the loop's invariant.
use Rattle.book_repeats.proofs.Children.{Parents}
use Rattle.book_repeats.proofs.legs_repeat.Given as goal

abbrev pub invariant-loop-p : goal.invariant-loop-p
invariant-loop-p l = Parents l.book l.initial.marks l.marks l.p
