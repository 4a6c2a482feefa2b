-- `keldurap::keldurap_raw_update_times` meets its contract.
use mathlib.Core.Path.{◌∙◌}
use native.Mathlib.Omega.{arith}
use Rattle.pass_table.proofs.Answers.{nodes_most}
use Rattle.keldurap.proofs.Reports.{count_is}
use Rattle.keldurap.proofs.keldurap_raw_update_times.Goals as goal

pub overflow_cast-nodes : goal.overflow_cast-nodes
overflow_cast-nodes c = omega (arith, nodes_most _ c.update_times-timed.ensures, c.unwrap_or.ensures)

pub returns : goal.returns
returns c =
    let timed = c.update_times-timed in
    record {
      timed = timed.result;
      updated = timed.ensures;
      number = c.number_of.ensures;
      counted = c.unwrap_or.ensures ∙ count_is timed.result;
    }
