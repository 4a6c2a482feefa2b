-- `keldurap::keldurap_raw_make_events` meets its contract.
use mathlib.Core.Path.{◌∙◌}
use native.Mathlib.Omega.{arith}
use Rattle.refusals.specs.Refusals.{told}
use Rattle.event_maker.proofs.Makes.{made_most}
use Rattle.keldurap.proofs.Reports.{count_is, made_as}
use Rattle.keldurap.proofs.keldurap_raw_make_events.Goals as goal

pub overflow_cast-count : goal.overflow_cast-count
overflow_cast-count c =
    let made = c.make_events-made in
    omega (arith, made_most made.ensures, made_as made.result, count_is made.result, c.unwrap_or.ensures)

pub returns : goal.returns
returns c =
    let made = c.make_events-made in
    record {
      made = told made.result;
      listed = made.ensures;
      number = c.number_of.ensures;
      counted = c.unwrap_or.ensures ∙ count_is made.result;
    }
