-- `pass_state::turns` meets its contract.
use native.Mathlib.Omega.{arith}
use Rattle.pass_state.proofs.Turning.{turning_start, turning_ends, turning_works, turning_within, turning_falls, turning_less, turning_goes}
use Rattle.pass_state.proofs.Both.{turner}
use Rattle.pass_state.proofs.turns.Goals as goal

pub loop-queued-init : goal.loop-queued-init
loop-queued-init g c = turning_start (turner g.P.Order.backward c.args.n) c.requires.n_nonzero c.requires.working

pub turn-requires : goal.turn-requires
turn-requires g c = record {
  working = turning_works (turner g.P.Order.backward c.args.n) c.loop-queued.invariant c.loop-queued-test.true _ c.pop-e.ensures (omega (arith, c.pop-e.auto)) (omega (arith, c.pop-e.auto));
  node_lt_n = turning_within (turner g.P.Order.backward c.args.n) c.loop-queued.invariant c.loop-queued-test.true _ c.pop-e.ensures (omega (arith, c.pop-e.auto)) (omega (arith, c.pop-e.auto));
}

pub returns-in_err-queued : goal.returns-in_err-queued
returns-in_err-queued g c =
    rw c.from_residual.ensures (turning_falls (turner g.P.Order.backward c.args.n) c.loop-queued.invariant c.loop-queued-test.true _ c.pop-e.ensures (omega (arith, c.pop-e.auto)) (omega (arith, c.pop-e.auto)) c.in_err-queued.ensures)

pub loop-queued-smaller : goal.loop-queued-smaller
loop-queued-smaller g c =
    turning_less (turner g.P.Order.backward c.args.n) c.loop-queued.invariant c.loop-queued-test.true _ c.pop-e.ensures (omega (arith, c.pop-e.auto)) (omega (arith, c.pop-e.auto)) _ c.in_ok-queued.ensures

pub loop-queued-preserved : goal.loop-queued-preserved
loop-queued-preserved g c =
    let j = c.pop-e.auto in
    let k = c.turn.auto in
    turning_goes (turner g.P.Order.backward c.args.n) c.loop-queued.invariant c.loop-queued-test.true _ c.pop-e.ensures (omega (arith, c.pop-e.auto)) (omega (arith, c.pop-e.auto)) _ c.in_ok-queued.ensures
    (record { floats = omega (arith, j, k); numbers = omega (arith, j, k); flags = omega (arith, j, k); times = omega (arith, j, k); nodes = omega (arith, j, k) })

pub returns : goal.returns
returns g c = turning_ends (turner g.P.Order.backward c.args.n) c.loop-queued.invariant c.loop-queued-test.false
