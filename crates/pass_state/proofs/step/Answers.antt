-- `pass_state::step` meets its contract.
use Rattle.pass_state.proofs.Steps.{step_unqueued, step_over, step_on_lem}
use Rattle.pass_state.proofs.Both.{stepper, time_loaded}
use Rattle.pass_state.proofs.step.Goals as goal

pub returns-in_err-count : goal.returns-in_err-count
returns-in_err-count g c = λ p begun v. rw c.from_residual.ensures (step_unqueued (stepper g.P.Order.backward c.args.n c.args.less) p _ _ (c.in_err-count.ensures p begun v))

pub returns-then-is_done : goal.returns-then-is_done
returns-then-is_done g c = λ p begun v. step_over (stepper g.P.Order.backward c.args.n c.args.less) p _ _ (c.in_ok-count.ensures p begun v) _ c.is_done.ensures c.if-is_done.true

pub returns : goal.returns
returns g c =
    λ p begun v.
    step_on_lem (stepper g.P.Order.backward c.args.n c.args.less) p _ _ (c.in_ok-count.ensures p begun v) _ c.is_done.ensures c.if-is_done.false c.requires.ahead _
    (time_loaded g.P.Order.backward _ _ c.args.less _ _ _ _ c.load-here.ensures c.load-next.ensures _ c.time_ahead-time.ensures)
    (c.set_done.ensures.floats, (c.set_done.ensures.numbers, c.set_done.ensures.flags)) _ c.load-next.ensures _ c.ahead.ensures
