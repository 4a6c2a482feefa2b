-- `pass_state::turn` meets its contract.
use Rattle.pass_state.proofs.Parts.{turn_endless, found_stands, turn_falls, stood, turn_ends}
use Rattle.pass_state.proofs.Both.{parts}
use Rattle.pass_state.proofs.turn.Goals as goal

pub returns-in_err-found : goal.returns-in_err-found
returns-in_err-found g c = rw c.from_residual.ensures (turn_endless (parts g.P.Order.backward c.args.n c.args.e) c.requires.working c.args.e.node (c.in_err-found.ensures c.args.e.sub))

pub strand-requires : goal.strand-requires
strand-requires g c = found_stands (parts g.P.Order.backward c.args.n c.args.e) c.requires.working _ (c.in_ok-found.ensures c.args.e.sub) c.requires.node_lt_n

pub returns-in_err-last : goal.returns-in_err-last
returns-in_err-last g c = rw c.from_residual-in_err-last.ensures (turn_falls (parts g.P.Order.backward c.args.n c.args.e) c.requires.working _ (c.in_ok-found.ensures c.args.e.sub) c.in_err-last.ensures)

pub settle-requires : goal.settle-requires
settle-requires g c = stood (parts g.P.Order.backward c.args.n c.args.e) c.requires.working _ (c.in_ok-found.ensures c.args.e.sub) c.in_ok-last.ensures

pub returns : goal.returns
returns g c = turn_ends (parts g.P.Order.backward c.args.n c.args.e) c.requires.working _ (c.in_ok-found.ensures c.args.e.sub) c.in_ok-last.ensures _ c.settle.ensures
