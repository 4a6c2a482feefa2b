-- `book_options::mark_origins` meets its contract: `Numbered` is the loop's invariant.
use Rattle.std.proofs.Common.{refl, ap, ◌<◌, arith}
use Rattle.book_format.specs.Format.{links, origins}
use Rattle.book_format.proofs.Given.{limits, origin_named, origin_link_lem}
use Rattle.book_options.proofs.Starts.{numbered_none, numbered_more}
use Rattle.book_options.proofs.mark_origins.Goals as goal

pub loop-i-init : goal.loop-i-init
loop-i-init c = numbered_none _ _ c.requires.marks_blank

pub overflow_cast-marks : goal.overflow_cast-marks
overflow_cast-marks c = omega (arith, limits _ c.requires.counts_passed, ap origins c.book-rows.ensures.is)

pub overflow_add-marks : goal.overflow_add-marks
overflow_add-marks c = omega (arith, limits _ c.requires.counts_passed, ap origins c.book-rows.ensures.is)

pub overflow_mul-marks : goal.overflow_mul-marks
overflow_mul-marks c = omega (arith, limits _ c.requires.counts_passed, ap origins c.book-rows.ensures.is)

pub bounds-marks-l : goal.bounds-marks-l
bounds-marks-l c =
    let r = c.book-rows.ensures in
    omega (
      arith,
      origin_link_lem _ _ c.origin_at-l.ensures,
      origin_named _ r.valid.indices c.loop-i.i (omega (arith, ap origins r.is)),
    )

pub loop-i-preserved : goal.loop-i-preserved
loop-i-preserved c =
    let r = c.book-rows.ensures in
    let e = origin_link_lem _ _ c.origin_at-l.ensures in
    let named : c.origin_at-l.result.link_idx < links c.args.book.now =
    omega (arith, e, origin_named _ r.valid.indices c.loop-i.i (omega (arith, ap origins r.is))) in
    numbered_more c.loop-i.invariant _ _ e refl named (omega arith)
