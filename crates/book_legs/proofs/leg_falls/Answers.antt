-- `book_legs::leg_falls` meets its contract: no sample before the loop's falls.
use Rattle.std.proofs.Common.{refl, sym, ap, ◌∙◌, arith}
use Rattle.laws.specs.Below.{some_below}
use Rattle.laws.proofs.Below.{none_more}
use Rattle.book_format.specs.Format.{samples}
use Rattle.book_format.proofs.Given.{limits}
use Rattle.book_legs.proofs.Samples.{falls_is, falling_found, falling_none}
use Rattle.book_legs.proofs.leg_falls.Goals as goal

pub loop-k-init : goal.loop-k-init
unfolding some_below
loop-k-init c = refl

pub overflow_add-first : goal.overflow_add-first
overflow_add-first c = omega (arith, limits _ c.valid-rows.ensures.readable.counted.counts, ap samples c.valid-rows.ensures.is)

pub overflow_add-first-in-loop-k : goal.overflow_add-first-in-loop-k
overflow_add-first-in-loop-k c = omega (arith, limits _ c.valid-rows.ensures.readable.counted.counts, ap samples c.valid-rows.ensures.is)

pub overflow_add-first-in-loop-k-2 : goal.overflow_add-first-in-loop-k-2
overflow_add-first-in-loop-k-2 c = omega (arith, limits _ c.valid-rows.ensures.readable.counted.counts, ap samples c.valid-rows.ensures.is)

pub returns-then-sample_falls : goal.returns-then-sample_falls
returns-then-sample_falls c =
    rw (← c.valid-rows.ensures.is) (falling_found _ _ _ c.loop-k.k (omega arith)
    (sym (falls_is _ _ _ _ _ _ c.sample_at-before.ensures refl c.sample_at-after.ensures c.sample_falls.ensures) ∙ c.if-sample_falls.true))

pub loop-k-preserved : goal.loop-k-preserved
loop-k-preserved c =
    none_more _ _ c.loop-k.invariant
    (sym (falls_is _ _ _ _ _ _ c.sample_at-before.ensures refl c.sample_at-after.ensures c.sample_falls.ensures) ∙ c.if-sample_falls.false)

pub returns : goal.returns
returns c = rw (← c.valid-rows.ensures.is) (falling_none _ _ _ c.loop-k.k (omega arith) c.loop-k.invariant)
