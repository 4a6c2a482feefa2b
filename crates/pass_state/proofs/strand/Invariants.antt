-- `pass_state::strand` meets its contract.
use Rattle.pass_rules.specs.Walks.{done_in}
use Rattle.pass_state.specs.Held.{slices, left}
use Rattle.pass_state.proofs.Strands.{Stranding}
use Rattle.pass_state.proofs.Both.{walker}
use Rattle.pass_state.proofs.strand.Given as goal

abbrev pub invariant-loop-at : goal.invariant-loop-at
invariant-loop-at g l =
    Stranding (walker g.P.Order.backward l.less) g.P.Order.backward l.n (slices l.initial.floats l.initial.numbers l.initial.flags l.initial.times l.initial.nodes) l.fn.first (slices l.floats l.numbers l.flags l.times l.nodes) l.at

abbrev pub decreases-loop-at : goal.decreases-loop-at
decreases-loop-at g l = left (done_in l.flags) l.n
