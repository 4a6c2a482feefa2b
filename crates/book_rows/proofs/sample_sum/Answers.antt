-- `book_rows::sample_sum` meets its contract: `Passed` is the loop's invariant.
use Rattle.std.proofs.Common.{◌≡◌, true, eqb, arith}
use borrow.Author.Tests.{eq-eqb}
use Rattle.laws.specs.Below.{some_below}
use Rattle.laws.proofs.Below.{some_at}
use Rattle.book_format.specs.Format.{leg_at, legs, leg_samples}
use Rattle.book_rows.proofs.Counts.{none_passed, one_passed}
use Rattle.book_rows.proofs.sample_sum.Goals as goal

pub loop-i-init : goal.loop-i-init
loop-i-init c = none_passed c.args.book.now

pub returns-then-leg-eq0 : goal.returns-then-leg-eq0
unfolding leg_at
returns-then-leg-eq0 c =
    let e : leg_samples c.args.book.now c.loop-i.i ≡ c.leg_at-leg.result.samples = rw c.leg_at-leg.ensures in
    let h : some_below (legs c.args.book.now) (λ i. eqb (leg_samples c.args.book.now i) 0) ≡ true =
    some_at _ _ c.loop-i.i (omega arith) (rw e (eq-eqb _ 0 c.if-leg-eq0.true)) in
    rw h

pub loop-i-preserved : goal.loop-i-preserved
unfolding leg_at
loop-i-preserved c = one_passed c.leg_at-leg.result.samples c.loop-i.invariant (rw c.leg_at-leg.ensures) c.if-leg-eq0.false (omega arith)
