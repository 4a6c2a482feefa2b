-- `pass_state::strand` meets its contract.
use native.Mathlib.Omega.{arith}
use Rattle.pass_state.proofs.Strands.{strand_falls, strand_stands, strand_less, strand_ends, strand_goes}
use Rattle.pass_state.proofs.Both.{walker, stops_as}
use Rattle.pass_state.proofs.strand.Goals as goal

pub returns-in_err-at : goal.returns-in_err-at
returns-in_err-at g c = rw c.from_residual.ensures (strand_falls (walker g.P.Order.backward c.args.less) c.loop-at.invariant c.in_err-at.ensures)

pub stops_at-requires : goal.stops_at-requires
stops_at-requires g c =
    let t = strand_stands (walker g.P.Order.backward c.args.less) c.loop-at.invariant _ c.in_ok-at.ensures in
    record { floats_room = omega (arith, t.ahead, t.working.holds.linked.room.floats); numbers_room = omega (arith, t.ahead, t.working.holds.linked.room.numbers) }

pub loop-at-smaller : goal.loop-at-smaller
loop-at-smaller g c = strand_less (walker g.P.Order.backward c.args.less) c.loop-at.invariant _ c.in_ok-at.ensures

pub returns-then-stops_at : goal.returns-then-stops_at
returns-then-stops_at g c =
    strand_ends (walker g.P.Order.backward c.args.less) c.loop-at.invariant _ c.in_ok-at.ensures _ (λ p begun v. stops_as g.P.Order.backward v c.args.less _ _ _ c.stops_at.ensures) c.if-stops_at.true

pub loop-at-preserved : goal.loop-at-preserved
loop-at-preserved g c =
    let k = c.step.auto in
    strand_goes (walker g.P.Order.backward c.args.less) c.loop-at.invariant _ c.in_ok-at.ensures _ (λ p begun v. stops_as g.P.Order.backward v c.args.less _ _ _ c.stops_at.ensures) c.if-stops_at.false
    (record { floats = omega (arith, k); numbers = omega (arith, k); flags = omega (arith, k); times = omega (arith, k); nodes = omega (arith, k) })
