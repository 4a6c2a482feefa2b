-- `pass_state::settle` meets its contract.
use native.Mathlib.Omega.{arith}
use Rattle.pass_state.proofs.Settles.{settle_joined, settle_fails, settle_end, settle_fake, settle_queued}
use Rattle.pass_state.proofs.Both.{settler, ended_fewer, ended_in, leaves_in}
use Rattle.pass_state.proofs.settle.Goals as goal

pub returns-then-fake-at : goal.returns-then-fake-at
returns-then-fake-at g c =
    λ p begun v.
    settle_joined (settler g.P.Order.backward c.args.n c.args.less) v _ _ _ _ c.load-node.ensures c.load-next.ensures _ c.is_fake-fake.ensures _ c.is_done.ensures _ c.behind_alt.ensures c.if-is_done.true c.if-fake-at.true

pub returns-then-is_done : goal.returns-then-is_done
returns-then-is_done g c =
    λ p begun v.
    settle_fails (settler g.P.Order.backward c.args.n c.args.less) v _ _ _ _ c.load-node.ensures c.load-next.ensures _ c.is_fake-fake.ensures _ c.is_done.ensures _ c.behind_alt.ensures c.if-is_done.true c.if-fake-at.false

pub returns-then-ahead-eq0 : goal.returns-then-ahead-eq0
returns-then-ahead-eq0 g c =
    λ p begun v.
    settle_end (settler g.P.Order.backward c.args.n c.args.less) v _ _ _ _ c.load-node.ensures c.load-next.ensures _ c.is_fake-fake.ensures _ c.is_done.ensures _ c.ahead.ensures c.if-is_done.false c.if-ahead-eq0.true
    (ended_in g.P.Order.backward v _ _ c.requires.ahead _ c.load-node.ensures (c.finish.ensures.floats, (c.finish.ensures.numbers, c.finish.ensures.flags))) (ended_fewer g.P.Order.backward p _ _ _)

pub returns-then-fake : goal.returns-then-fake
returns-then-fake g c =
    λ p begun v.
    settle_fake (settler g.P.Order.backward c.args.n c.args.less) v _ _ _ _ c.load-node.ensures c.load-next.ensures _ c.is_fake-fake.ensures _ c.is_done.ensures _ c.ahead.ensures c.if-is_done.false c.if-ahead-eq0.false c.if-fake.true

pub returns : goal.returns
returns g c =
    λ p begun v.
    settle_queued (settler g.P.Order.backward c.args.n c.args.less) v _ _ _ _ c.load-node.ensures c.load-next.ensures _ c.is_fake-fake.ensures _ c.is_done.ensures _ c.ahead.ensures c.if-is_done.false c.if-ahead-eq0.false c.if-fake.false c.requires.curr c.requires.ahead
    (leaves_in g.P.Order.backward c.args.less v _ _ _ _ c.load-node.ensures c.load-next.ensures _ c.end_entry-e.ensures c.enqueue.ensures) (omega (arith, c.enqueue.auto)) (omega (arith, c.enqueue.auto))
