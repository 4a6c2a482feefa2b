-- `book_repeats::origins_repeat` meets its contract: `Swept` is the loop's invariant.
use Rattle.book_repeats.proofs.Origins.{Swept}
use Rattle.book_repeats.proofs.origins_repeat.Given as goal

abbrev pub invariant-loop-i : goal.invariant-loop-i
invariant-loop-i l = Swept l.book l.initial.marks l.marks l.i
