-- `book_rows::lowest_refusal` meets its contract: the loop keeps the lowest number of the rows passed.
use Rattle.std.proofs.Common.{◌≡◌}
use Rattle.laws.specs.Answer.{number_of}
use Rattle.refusals.specs.Refusals.{told}
use Rattle.book_rows.specs.Elements.{lowest_below, row_number}
use Rattle.book_rows.proofs.lowest_refusal.Given as goal

abbrev pub invariant-loop-k : goal.invariant-loop-k
invariant-loop-k l = number_of (told l.lowest) ≡ lowest_below l.k (row_number l.book)
