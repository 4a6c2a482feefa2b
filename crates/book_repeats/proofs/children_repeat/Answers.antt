-- `book_repeats::children_repeat` meets its contract: `Walk` is the loop's invariant.
use Rattle.std.proofs.Common.{ap, subst, arith}
use Rattle.book_format.specs.Format.{legs}
use Rattle.book_format.specs.Chains.{Readable}
use Rattle.book_format.proofs.Given.{limits}
use Rattle.book_repeats.proofs.Children.{walk_start, next_child, next_less, walk_link, walk_found, walk_on, walk_none}
use Rattle.book_repeats.proofs.children_repeat.Goals as goal

pub overflow_cast-mark : goal.overflow_cast-mark
overflow_cast-mark c =
    let r = c.book-rows.ensures in
    omega (arith, (limits _ r.readable.counted.counts).legs_most, ap legs r.is)

pub loop-j-init : goal.loop-j-init
loop-j-init c = let q = c.requires in walk_start q.chained q.p_lt_legs q.under

pub bounds-marks-link : goal.bounds-marks-link
bounds-marks-link c =
    let r = c.book-rows.ensures in
    walk_link c.loop-j.invariant c.loop-j-test.true _ (rw r.is at c.leg_at-link.ensures) (subst Readable r.is r.readable) c.requires.marks_room

pub returns-then-marks-link-clause-answer : goal.returns-then-marks-link-clause-answer
returns-then-marks-link-clause-answer c =
    walk_found c.loop-j.invariant c.loop-j-test.true _ (rw c.book-rows.ensures.is at c.leg_at-link.ensures) c.if-marks-link.true

pub bounds-marks-link-in-loop-j : goal.bounds-marks-link-in-loop-j
bounds-marks-link-in-loop-j c =
    let r = c.book-rows.ensures in
    walk_link c.loop-j.invariant c.loop-j-test.true _ (rw r.is at c.leg_at-link.ensures) (subst Readable r.is r.readable) c.requires.marks_room

pub loop-j-smaller : goal.loop-j-smaller
loop-j-smaller c = next_less c.requires.chained c.loop-j.invariant c.loop-j-test.true

pub loop-j-preserved : goal.loop-j-preserved
loop-j-preserved c =
    let w = c.loop-j.invariant in
    let h = c.loop-j-test.true in
    let r = c.book-rows.ensures in
    let e = rw r.is at c.leg_at-link.ensures in
    walk_on w h _ e _ (walk_link w h _ e (subst Readable r.is r.readable) c.requires.marks_room) c.if-marks-link.false (next_child c.requires.chained w h)

pub returns-clause-answer : goal.returns-clause-answer
returns-clause-answer c = walk_none c.loop-j.invariant c.loop-j-test.false
