-- `event_maker::first_refusal` meets its contract: one law for each number.
use Rattle.std.proofs.Common.{rules}
use mathlib.Core.Path.{◌≡◌, ap, ◌∙◌}
use mathlib.Core.Bool.{not, false}
use Prim.Native.Nat.{◌-◌}
use Rattle.laws.specs.Below.{some_below}
use Rattle.refusals.proofs.Answers.{handed_on}
use Rattle.event_walk.specs.Course.{course_of}
use Rattle.event_maker.specs.Maker.{bad_counts}
use Rattle.event_maker.specs.Parts.{bad_offset, offset_falls, bad_at, falls_at}
use Rattle.event_maker.proofs.Sweeps.{swept_bad, swept_good}
use Rattle.event_maker.proofs.Rows.{counts_left, first_3, first_length, first-points, first-samples, first-fall, tested, may_reach, first_11, first_0}
use Rattle.event_maker.proofs.first_refusal.Goals as goal
use Rattle.event_maker.proofs.first_refusal.Goals.{Else-is_outside, In_ok-points_fall, In_ok-samples_fall}

-- behind row 3
left : (c : Else-is_outside) → bad_counts (course_of c.args.samples.now c.args.offsets.now c.args.m) ≡ false
left c = counts_left c.args.samples.now c.args.offsets.now c.args.m _ _ c.is_outside.ensures c.is_outside-2.ensures c.if-is_outside.false

-- behind the points, and behind the samples
points : (c : In_ok-points_fall) → (some_below c.args.m.points (bad_offset c.args.offsets.now) ≡ false) × (c.in_ok-points_fall.points_fall ≡ some_below (c.args.m.points - 1) (offset_falls c.args.offsets.now))
unfolding bad_offset offset_falls
points c =
    let o = c.args.offsets.now in
    swept_good c.args.m.points (bad_offset o) (offset_falls o) c.in_ok-points_fall.points_fall (c.in_ok-points_fall.ensures (bad_offset o) (offset_falls o) (λ i r h q. search rules) (λ i r h q. search rules))

samples : (c : In_ok-samples_fall) → (some_below c.args.m.samples (bad_at c.args.samples.now) ≡ false) × (c.in_ok-samples_fall.samples_fall ≡ some_below (c.args.m.samples - 1) (falls_at c.args.samples.now))
samples c =
    let b = c.args.samples.now in
    swept_good c.args.m.samples (bad_at b) (falls_at b) c.in_ok-samples_fall.samples_fall (c.in_ok-samples_fall.ensures (bad_at b) (falls_at b) (λ i r h q. search rules) (λ i r h q. search rules))

pub returns-then-is_outside : goal.returns-then-is_outside
returns-then-is_outside c = first_3 _ _ c.args.m _ _ c.is_outside.ensures c.is_outside-2.ensures c.if-is_outside.true

pub returns-then-not-is_book_value : goal.returns-then-not-is_book_value
returns-then-not-is_book_value c = first_length _ _ c.args.m c.requires.from_start (left (goal.at.returns-then-not-is_book_value c).Else-is_outside) _ c.is_book_value.ensures (ap not c.if-not-is_book_value.true)

pub returns-in_err-points_fall : goal.returns-in_err-points_fall
unfolding bad_offset offset_falls
returns-in_err-points_fall c =
    let o = c.args.offsets.now in
    let k = left (goal.at.returns-in_err-points_fall c).Else-is_outside in
    let s = swept_bad c.args.m.points (bad_offset o) (offset_falls o) c.in_err-points_fall.field-0.0 (c.in_err-points_fall.ensures (bad_offset o) (offset_falls o) (λ i r h q. search rules) (λ i r h q. search rules)) in
    rw (handed_on _ _ c.from_residual.ensures.1) (s.0 ∙ first-points _ _ c.args.m c.requires.from_start k s.1)

pub returns-in_err-samples_fall : goal.returns-in_err-samples_fall
returns-in_err-samples_fall c =
    let b = c.args.samples.now in
    let k = left (goal.at.returns-in_err-samples_fall c).Else-is_outside in
    let s = swept_bad c.args.m.samples (bad_at b) (falls_at b) c.in_err-samples_fall.field-0.0 (c.in_err-samples_fall.ensures (bad_at b) (falls_at b) (λ i r h q. search rules) (λ i r h q. search rules)) in
    rw (handed_on _ _ c.from_residual-in_err-samples_fall.ensures.1) (s.0 ∙ first-samples _ _ c.args.m c.requires.from_start k s.1)

pub returns-then-points_fall-samples_fall : goal.returns-then-points_fall-samples_fall
returns-then-points_fall-samples_fall c =
    let at = goal.at.returns-then-points_fall-samples_fall c in
    first-fall _ _ c.args.m c.requires.from_start (left at.Else-is_outside) _ c.is_book_value.ensures (ap not c.if-not-is_book_value.false) _ (points at.In_ok-points_fall) _ (samples at.In_ok-samples_fall) c.if-points_fall-samples_fall.true

pub reaches_last-requires : goal.reaches_last-requires
reaches_last-requires c =
    let at = goal.at.reaches_last-requires c in
    let t = tested _ _ c.args.m c.requires.from_start (left at.Else-is_outside) _ c.is_book_value.ensures (ap not c.if-not-is_book_value.false) _ (points at.In_ok-points_fall) _ (samples at.In_ok-samples_fall) c.if-points_fall-samples_fall.false in
    let may = may_reach _ _ c.args.m c.requires.from_start t c.requires.samples_inside c.requires.points_inside in
    record {
      held = may.held;
      points_nonzero = may.points_nonzero;
      samples_nonzero = may.samples_nonzero;
      rises = may.rises;
    }

pub returns-then-reaches_last : goal.returns-then-reaches_last
returns-then-reaches_last c =
    let at = goal.at.returns-then-reaches_last c in
    let t = tested _ _ c.args.m c.requires.from_start (left at.Else-is_outside) _ c.is_book_value.ensures (ap not c.if-not-is_book_value.false) _ (points at.In_ok-points_fall) _ (samples at.In_ok-samples_fall) c.if-points_fall-samples_fall.false in
    first_11 _ _ c.args.m c.requires.from_start t _ c.reaches_last.ensures c.if-reaches_last.true

pub returns : goal.returns
returns c =
    let at = goal.at.returns c in
    let t = tested _ _ c.args.m c.requires.from_start (left at.Else-is_outside) _ c.is_book_value.ensures (ap not c.if-not-is_book_value.false) _ (points at.In_ok-points_fall) _ (samples at.In_ok-samples_fall) c.if-points_fall-samples_fall.false in
    first_0 _ _ c.args.m c.requires.from_start t _ c.reaches_last.ensures c.if-reaches_last.false
