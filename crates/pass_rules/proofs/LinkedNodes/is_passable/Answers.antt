-- `pass_rules::LinkedNodes::is_passable` meets its contract.
use Rattle.pass_rules.proofs.Walking.{passable_by}
use Rattle.pass_rules.proofs.LinkedNodes.is_passable.Goals as goal

pub returns : goal.returns
returns g c =
    passable_by _ c.args.flags.now _ _ c.load-node.ensures _ c.is_fake.ensures g.L.Order.backward c.args.self.now.count _ _ c.ahead-to.ensures c.end_of-end.ensures
