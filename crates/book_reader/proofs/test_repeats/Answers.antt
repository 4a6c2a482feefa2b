-- `book_reader::test_repeats` meets its contract.
use Rattle.std.proofs.Common.{sym, ◌∙◌}
use Rattle.space.proofs.Zeros.{zeros_again}
use Rattle.refusals.proofs.Answers.{handed_on}
use Rattle.book_reader.proofs.Numbers.{row6_repeats, legs_refused, legs_passed, row7_single, row7_early, row7_only, readable_of, cells_chained, from_6_first, from_6_second}
use Rattle.book_reader.proofs.test_repeats.Goals as goal

pub returns-then-origins_repeat : goal.returns-then-origins_repeat
returns-then-origins_repeat c = from_6_first _ (row6_repeats _ _ c.requires.rows_passed.places c.origins_repeat.ensures ∙ c.if-origins_repeat.true)

pub returns-in_err-tested : goal.returns-in_err-tested
returns-in_err-tested c =
    let p = c.requires in
    let l = legs_refused _ _ _ p.legs_told c.in_err-tested.was in
    rw (handed_on _ _ c.from_residual.ensures.1, l.1)
    (from_6_second _ (row6_repeats _ _ p.rows_passed.places c.origins_repeat.ensures ∙ c.if-origins_repeat.false) (row7_single _ l.0))

pub returns-then-link_legs : goal.returns-then-link_legs
returns-then-link_legs c =
    let p = c.requires in
    from_6_second _ (row6_repeats _ _ p.rows_passed.places c.origins_repeat.ensures ∙ c.if-origins_repeat.false)
    (sym (row7_early _ _ (rw c.new-book.ensures at c.link_legs.ensures.answer) c.if-link_legs.true))

pub legs_repeat-requires-clause-chained : goal.legs_repeat-requires-clause-chained
legs_repeat-requires-clause-chained c =
    let p = c.requires in
    let e = c.new-book.ensures in
    let r = readable_of p.rows_passed (legs_passed _ _ _ p.legs_told c.in_ok-tested.was) in
    let d = cells_chained _ _ r p.blank.cells_room p.blank.cells_zero (rw e at (c.link_legs.ensures.chains c.if-link_legs.false)) in
    rw e d.chained

pub returns-then-legs_repeat : goal.returns-then-legs_repeat
returns-then-legs_repeat c =
    let p = c.requires in
    let e = c.new-book.ensures in
    from_6_second _ (row6_repeats _ _ p.rows_passed.places c.origins_repeat.ensures ∙ c.if-origins_repeat.false)
    (sym (row7_only _ _ _ (legs_passed _ _ _ p.legs_told c.in_ok-tested.was) (rw e at c.link_legs.ensures.answer) c.if-link_legs.false (rw e at c.legs_repeat.ensures)) ∙ c.if-legs_repeat.true)

pub returns : goal.returns
returns c =
    let p = c.requires in
    let e = c.new-book.ensures in
    let r = readable_of p.rows_passed (legs_passed _ _ _ p.legs_told c.in_ok-tested.was) in (
      e,
      record {
        row6 = row6_repeats _ _ p.rows_passed.places c.origins_repeat.ensures ∙ c.if-origins_repeat.false;
        row7 = sym (row7_only _ _ _ (legs_passed _ _ _ p.legs_told c.in_ok-tested.was) (rw e at c.link_legs.ensures.answer) c.if-link_legs.false (rw e at c.legs_repeat.ensures)) ∙ c.if-legs_repeat.false;
        chained = cells_chained _ _ r p.blank.cells_room p.blank.cells_zero (rw e at (c.link_legs.ensures.chains c.if-link_legs.false));
        marks_zero = zeros_again _ _ c.clear-2.ensures;
      },
    )
