-- `root::digits` meets its contract: `Turned` is the loop's invariant, and each way through a turn is one law of Steps.
use native.Mathlib.Omega.{arith}
use Rattle.root.proofs.Steps.{turned_small, turned_up, turned_same, turned_at}
use Rattle.root.proofs.digits.Goals as goal
use Rattle.root.proofs.digits.Goals.{then-step-r, else-step-r}

pub overflow_mul-r : goal.overflow_mul-r
overflow_mul-r c = omega (arith, turned_small c.loop.invariant)

pub overflow_add-r : goal.overflow_add-r
overflow_add-r c = omega (arith, turned_small c.loop.invariant)

pub overflow_mul-step : goal.overflow_mul-step
overflow_mul-step c = omega (arith, turned_small c.loop.invariant)

pub overflow_add-step : goal.overflow_add-step
overflow_add-step c = omega (arith, turned_small c.loop.invariant)

pub loop-preserved : goal.loop-preserved
loop-preserved c =
    elim c.if-step-r.branch [
      | then-step-r w ↦ turned_at w.q-is w.r-is (turned_up c.loop.invariant c.loop-test.true w.if-step-r.true)
      | else-step-r w ↦ turned_at w.q-is w.r-is (turned_same c.loop.invariant c.loop-test.true w.if-step-r.false)
    ]
