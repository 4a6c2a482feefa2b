-- `keldurap::keldurap_raw_make_est_times` meets its contract.
use mathlib.Core.Path.{◌≡◌, ap, ◌∙◌}
use Rattle.std.proofs.Common.{rules}
use Rattle.report.specs.Numbers.{numbers_of}
use Rattle.est_times.specs.Sheet.{reported}
use Rattle.keldurap.proofs.keldurap_raw_make_est_times.Goals as goal
use Rattle.keldurap.proofs.keldurap_raw_make_est_times.Goals.{After-unwrap_or_default}

-- the report that is told
report_told : (c : After-unwrap_or_default) → c.unwrap_or_default.result ≡ reported c.make_est_times-sheet.result
report_told c = search rules

pub returns : goal.returns
returns c =
    let made = c.make_est_times-sheet in
    record {
      sheet = made.result;
      made = made.ensures;
      number = c.number_of.ensures;
      reports = c.into.ensures ∙ ap numbers_of (report_told (goal.at.returns c).After-unwrap_or_default);
    }
