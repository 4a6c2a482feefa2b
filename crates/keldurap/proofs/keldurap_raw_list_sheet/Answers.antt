-- `keldurap::keldurap_raw_list_sheet` meets its contract.
use mathlib.Core.Path.{◌∙◌}
use Rattle.std.proofs.Common.{rules}
use Rattle.keldurap.proofs.Reports.{as_read, length_is, number_is}
use Rattle.keldurap.proofs.keldurap_raw_list_sheet.Goals as goal

pub returns : goal.returns
returns c =
    let listed = c.list_sheet-listed in
    record {
      listed = listed.result;
      written = as_read _ c.from.ensures listed.ensures;
      number = number_is listed.result c.map_or_else.ensures (λ x h. search rules) (λ e h. search rules);
      sized = c.unwrap_or.ensures ∙ length_is listed.result;
    }
