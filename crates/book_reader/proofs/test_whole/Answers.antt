-- `book_reader::test_whole` meets its contract.
use Rattle.std.proofs.Common.{sym, ◌∙◌, ap, subst, refl, Result, Err}
use borrow.Author.Tests.{not-true, not-false}
use denote.Enum.Bare.{same_true, same_false}
use Rattle.refusals.specs.declared.Refusal.{Refusal}
use Rattle.refusals.specs.contracts.Refusal.{the_type}
use Rattle.refusals.specs.Refusals.{refusal_number}
use Rattle.refusals.proofs.Numbers.{refusal_some}
use Rattle.book_reader.specs.Stages.{LeftToRead}
use Rattle.book_reader.proofs.Numbers.{number_3, number_early, left_early, left_late, leg_alone}
use Rattle.book_reader.proofs.Rooms.{some_link}
use Rattle.book_reader.proofs.test_whole.Goals as goal
use Rattle.book_reader.proofs.test_whole.Goals.{Joined-lowest_row, in-Ok, in-Err-2}

pub returns-then-counts_refused : goal.returns-then-counts_refused
returns-then-counts_refused c =
    number_3 _ _ _ c.requires.row1_passed c.requires.row2_passed (sym c.counts_refused.ensures ∙ c.if-counts_refused.true)

pub lowest_row-requires : goal.lowest_row-requires
lowest_row-requires c = record { links_nonzero = some_link _ _ _ (sym c.counts_refused.ensures ∙ c.if-counts_refused.false) }

pub returns-in-Err : goal.returns-in-Err
returns-in-Err c =
    number_early _ _ _ _ c.requires.row1_passed c.requires.row2_passed (sym c.counts_refused.ensures ∙ c.if-counts_refused.false)
    c.in-Err.ensures (refusal_some _) (λ e. same_false the_type _ _ (not-true _ (sym c.ne.ensures ∙ c.if-ne.true)) (leg_alone _ e))

-- what is left to read, whichever way the single rows let the book through
left : (c : Joined-lowest_row) → LeftToRead c.args.book c.args.places c.args.bytes c.match-lowest_row.legs
left c =
    let q = c.requires in
    let e = sym c.counts_refused.ensures ∙ c.if-counts_refused.false in
    let P : Result (Unit {0}) Refusal → Type 0 = λ t. LeftToRead c.args.book c.args.places c.args.bytes t in
    elim c.match-lowest_row.branch [
      | in-Ok w ↦ subst P (sym w.legs-is) (left_early _ _ _ 0 q.row1_passed q.row2_passed e w.in-Ok.ensures refl)
      | in-Err-2 w ↦
          let l = same_true the_type _ _ _ (not-false _ (sym w.ne.ensures ∙ w.if-ne.false)) in
          subst P (sym (w.legs-is ∙ ap Err l)) (left_late _ _ _ _ q.row1_passed q.row2_passed e w.in-Err.ensures (ap refusal_number l))
    ]

pub new-book-requires : goal.new-book-requires
new-book-requires c = let l = left c in record { row4_passed = l.passed.row4; row5_passed = l.passed.row5 }

pub returns : goal.returns
returns c = (c.new-book.ensures, left (goal.at.returns c).Joined-lowest_row)
