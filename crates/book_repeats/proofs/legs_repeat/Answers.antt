-- `book_repeats::legs_repeat` meets its contract: `Parents` is the loop's invariant.
use Rattle.std.proofs.Common.{sym, ◌∙◌, ap, subst, arith}
use Rattle.book_format.specs.Format.{legs}
use Rattle.book_format.specs.Chains.{Readable}
use Rattle.book_repeats.proofs.Children.{parents_start, parents_found, parents_on, parents_all}
use Rattle.book_repeats.proofs.legs_repeat.Goals as goal

pub loop-p-init : goal.loop-p-init
loop-p-init c = parents_start _ _ c.requires.marks_zero

pub returns-then-children_repeat : goal.returns-then-children_repeat
returns-then-children_repeat c = parents_found _ _ (sym c.if-children_repeat.true ∙ c.children_repeat.ensures.answer)

pub loop-p-preserved : goal.loop-p-preserved
loop-p-preserved c =
    let d = c.children_repeat in
    parents_on c.loop-p.invariant d.auto.marks d.ensures.stamped (sym c.if-children_repeat.false ∙ d.ensures.answer)

pub returns : goal.returns
returns c =
    let r = c.book-rows.ensures in
    parents_all (subst Readable r.is r.readable) c.loop-p.invariant (omega (arith, ap legs r.is))
