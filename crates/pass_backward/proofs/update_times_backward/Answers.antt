-- `pass_backward::update_times_backward` meets its contract.
use native.Mathlib.Omega.{arith}
use Rattle.pass_state.proofs.Kept.{works}
use Rattle.pass_backward.proofs.Starts.{start_queued, start_is, start_in}
use Rattle.pass_backward.proofs.update_times_backward.Goals as goal

pub returns-in_err-count : goal.returns-in_err-count
returns-in_err-count c = start_queued c.args.floats.now c.args.numbers.now c.args.flags.now c.args.n c.in_err-count.ensures

pub turns-requires-clause-working : goal.turns-requires-clause-working
turns-requires-clause-working c =
    works (start_in c.args.floats.now c.args.numbers.now c.args.flags.now c.args.n c.requires c.in_ok-count.ensures (omega (arith, c.enqueue.auto)) (omega (arith, c.enqueue.auto)))

pub returns : goal.returns
returns c =
    rw (start_is c.args.floats.now c.args.numbers.now c.args.flags.now c.args.n c.requires)
    (c.turns.ensures _ _ (start_in c.args.floats.now c.args.numbers.now c.args.flags.now c.args.n c.requires c.in_ok-count.ensures (omega (arith, c.enqueue.auto)) (omega (arith, c.enqueue.auto))))
