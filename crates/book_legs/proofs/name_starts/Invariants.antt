-- `book_legs::name_starts` meets its contract: `Named` is the loop's invariant.
use Rattle.book_legs.specs.Legs.{Named}
use Rattle.book_legs.proofs.name_starts.Given as goal

abbrev pub invariant-loop-i : goal.invariant-loop-i
invariant-loop-i l = Named l.rows l.i l.starts
