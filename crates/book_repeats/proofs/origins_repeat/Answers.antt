-- `book_repeats::origins_repeat` meets its contract: `Swept` is the loop's invariant.
use Rattle.std.proofs.Common.{ap, ◌<◌, arith}
use Rattle.book_format.specs.Format.{origins}
use Rattle.book_repeats.proofs.Origins.{swept_start, swept_link, swept_found, swept_on}
use Rattle.book_repeats.proofs.origins_repeat.Goals as goal

pub loop-i-init : goal.loop-i-init
loop-i-init c = swept_start _ _ c.requires.marks_zero

pub bounds-marks-link : goal.bounds-marks-link
bounds-marks-link c =
    let r = c.book-rows.ensures in
    swept_link c.loop-i.invariant (omega (arith, ap origins r.is)) _ c.origin_at-link.ensures r.valid.indices c.requires.marks_room

pub returns-then-marks-link-eq1 : goal.returns-then-marks-link-eq1
returns-then-marks-link-eq1 c =
    swept_found c.loop-i.invariant (omega (arith, ap origins c.book-rows.ensures.is)) _ c.origin_at-link.ensures c.if-marks-link-eq1.true

pub bounds-marks-link-in-loop-i : goal.bounds-marks-link-in-loop-i
bounds-marks-link-in-loop-i c =
    let r = c.book-rows.ensures in
    swept_link c.loop-i.invariant (omega (arith, ap origins r.is)) _ c.origin_at-link.ensures r.valid.indices c.requires.marks_room

pub loop-i-preserved : goal.loop-i-preserved
loop-i-preserved c =
    let r = c.book-rows.ensures in
    let h : c.loop-i.i < origins c.args.book.now = omega (arith, ap origins r.is) in
    swept_on c.loop-i.invariant h _ c.origin_at-link.ensures
    (swept_link c.loop-i.invariant h _ c.origin_at-link.ensures r.valid.indices c.requires.marks_room) c.if-marks-link-eq1.false
