-- `pass_forward::update_times_forward` meets its contract.
use native.Mathlib.Omega.{arith}
use Rattle.pass_state.proofs.Kept.{works}
use Rattle.pass_forward.proofs.Starts.{start_fails, start_is, start_in}
use Rattle.pass_forward.proofs.update_times_forward.Goals as goal

pub returns-in_err-count : goal.returns-in_err-count
returns-in_err-count c = rw c.from_residual.ensures (start_fails c.args.floats.now c.args.numbers.now c.args.flags.now c.args.n c.args.departure c.in_err-count.ensures)

pub turns-requires-clause-working : goal.turns-requires-clause-working
turns-requires-clause-working c =
    works (start_in c.args.floats.now c.args.numbers.now c.args.flags.now c.args.n c.args.departure c.in_ok-count.ensures c.requires (omega (arith, c.enqueue.auto)) (omega (arith, c.enqueue.auto)) (c.set_done.ensures.floats, (c.set_done.ensures.numbers, c.set_done.ensures.flags)) (c.set_done-2.ensures.floats, (c.set_done-2.ensures.numbers, c.set_done-2.ensures.flags)))

pub returns : goal.returns
returns c =
    rw (start_is c.args.floats.now c.args.numbers.now c.args.flags.now c.args.n c.args.departure c.in_ok-count.ensures c.requires)
    (c.turns.ensures _ _ (start_in c.args.floats.now c.args.numbers.now c.args.flags.now c.args.n c.args.departure c.in_ok-count.ensures c.requires (omega (arith, c.enqueue.auto)) (omega (arith, c.enqueue.auto)) (c.set_done.ensures.floats, (c.set_done.ensures.numbers, c.set_done.ensures.flags)) (c.set_done-2.ensures.floats, (c.set_done-2.ensures.numbers, c.set_done-2.ensures.flags))))
