-- `book_legs::link_legs` meets its contract: `Linking` is the loop's invariant.
use Rattle.std.proofs.Common.{length}
use Rattle.book_legs.proofs.Linking.{Linking}
use Rattle.book_legs.proofs.link_legs.Given as goal

abbrev pub invariant-loop-i : goal.invariant-loop-i
invariant-loop-i l = Linking l.rows (length l.initial.cells) l.cells l.i l.first
