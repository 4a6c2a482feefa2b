-- `book_reader::test_rows` meets its contract.
use Rattle.std.proofs.Common.{sym, ◌∙◌, ap, subst, List, ℕ}
use Rattle.refusals.proofs.Answers.{handed_on}
use Rattle.book_format.specs.Rows.{row1, row2}
use Rattle.book_format.proofs.Measures.{measured_whole}
use Rattle.book_reader.specs.Stages.{TestedAs}
use Rattle.book_reader.proofs.Numbers.{number_measured}
use Rattle.book_reader.proofs.test_rows.Goals as goal

pub returns-in_err-measure : goal.returns-in_err-measure
returns-in_err-measure c =
    rw (handed_on _ _ c.from_residual.ensures.1) (number_measured _ _ _ _ c.in_err-measure.ensures)

pub test_whole-requires : goal.test_whole-requires
test_whole-requires c =
    let m = measured_whole _ _ (sym c.in_ok-measure.ensures) in
    record { row1_passed = ap row1 m.2 ∙ m.0; row2_passed = ap row2 m.2 ∙ m.1 }

pub returns : goal.returns
returns c =
    let m = measured_whole _ _ (sym c.in_ok-measure.ensures) in
    subst (λ (b : List ℕ). TestedAs b c.args.places c.args.bytes c.test_whole.result) m.2 c.test_whole.ensures
