-- `pass_rules::LinkedNodes::node_holds` meets its contract.
use Rattle.pass_rules.proofs.Held.{plain_holds, all_hold}
use Rattle.pass_rules.proofs.LinkedNodes.node_holds.Goals as goal

pub returns-then-is_plain : goal.returns-then-is_plain
returns-then-is_plain c = plain_holds _ _ _ _ _ _ c.load-here.ensures c.load-before.ensures c.load-after.ensures _ c.is_plain.ensures c.if-is_plain.true

pub returns : goal.returns
returns c =
    all_hold _ _ _ _ _ _ _ _ c.load-here.ensures c.load-before.ensures c.load-after.ensures c.own_links_hold-own.ensures c.neighbours_hold-near.ensures
