-- `book_rows::sample_sum` meets its contract: `Passed` is the loop's invariant.
use Rattle.book_rows.proofs.Counts.{Passed}
use Rattle.book_rows.proofs.sample_sum.Given as goal

abbrev pub invariant-loop-i : goal.invariant-loop-i
invariant-loop-i l = Passed l.book l.i l.sum
