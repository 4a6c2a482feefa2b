-- `book_legs::leg_falls` meets its contract: no sample before the loop's falls.
use Rattle.std.proofs.Common.{◌≡◌, false, ◌+◌}
use Rattle.laws.specs.Below.{some_below}
use Rattle.book_format.specs.Rows.{falls}
use Rattle.book_legs.proofs.leg_falls.Given as goal

abbrev pub invariant-loop-k : goal.invariant-loop-k
invariant-loop-k l = some_below l.k (λ j. falls l.rows (l.first + j)) ≡ false
