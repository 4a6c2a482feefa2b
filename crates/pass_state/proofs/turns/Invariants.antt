-- `pass_state::turns` meets its contract.
use Rattle.pass_rules.specs.Walks.{done_in}
use Rattle.pass_state.specs.Held.{slices, left}
use Rattle.pass_state.proofs.Turning.{Turning}
use Rattle.pass_state.proofs.Both.{turner}
use Rattle.pass_state.proofs.turns.Given as goal

abbrev pub invariant-loop-queued : goal.invariant-loop-queued
invariant-loop-queued g l =
    Turning (turner g.P.Order.backward l.n) l.n (slices l.initial.floats l.initial.numbers l.initial.flags l.initial.times l.initial.nodes) l.count (slices l.floats l.numbers l.flags l.times l.nodes) l.queued

abbrev pub decreases-loop-queued : goal.decreases-loop-queued
decreases-loop-queued g l = left (done_in l.flags) l.n
