-- `book_legs::leg_begins` meets its contract: patterns are alike where all their parts are.
use Rattle.std.proofs.Common.{◌≡◌, refl, Bool, true, false, ◌&&◌, ◌-◌, eqb}
use Rattle.book_format.specs.Format.{sample_patterns, sample_time, sample_offset, sample_speed}
use Rattle.book_format.specs.Rows.{same_sample}
use Rattle.book_legs.proofs.Samples.{begins_origin, begins_parent}
use Rattle.book_legs.proofs.leg_begins.Goals as goal

joined : (a b c : Bool) → (a && (b && c)) ≡ (a && b && c)
joined true b c = refl
joined false b c = refl

pub returns-then-parent-eq0 : goal.returns-then-parent-eq0
returns-then-parent-eq0 c =
    begins_origin _ _ _ _ c.head_patterns.result c.sample_patterns.result c.if-parent-eq0.true
    c.head_patterns.ensures c.sample_patterns.ensures

pub returns : goal.returns
unfolding same_sample sample_patterns
returns c =
    let b = c.args.book.now in
    let j = c.args.end - 1 in
    let k = c.args.first in
    begins_parent b c.args.parent c.args.end k _ c.if-parent-eq0.false
    (rw (c.eq.ensures, c.sample_patterns-2.ensures, c.sample_patterns-3.ensures)
    (joined (eqb (sample_time b j) (sample_time b k)) (eqb (sample_offset b j) (sample_offset b k)) (eqb (sample_speed b j) (sample_speed b k))))
