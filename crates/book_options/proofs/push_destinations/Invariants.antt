-- `book_options::push_destinations` meets its contract: `DestinationsStacked` is the loop's invariant.
use Rattle.book_options.specs.Turns.{DestinationsStacked}
use Rattle.book_options.proofs.push_destinations.Given as goal

abbrev pub invariant-loop-i : goal.invariant-loop-i
invariant-loop-i l = DestinationsStacked l.book l.i l.marks
