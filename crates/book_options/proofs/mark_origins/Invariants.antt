-- `book_options::mark_origins` meets its contract: `Numbered` is the loop's invariant.
use Rattle.book_options.specs.Turns.{Numbered}
use Rattle.book_options.proofs.mark_origins.Given as goal

abbrev pub invariant-loop-i : goal.invariant-loop-i
invariant-loop-i l = Numbered l.book l.i l.initial.marks l.marks
