-- `net_joins::chain_end` meets its contract: `Following` is the loop's invariant, and each alternative is later.
use Rattle.net_joins.proofs.Chains.{following_last}
use Rattle.net_joins.proofs.chain_end.Goals as goal

pub returns-then-node-eq0 : goal.returns-then-node-eq0
returns-then-node-eq0 c =
    following_last c.args.nodes.now.indexed c.loop-node.invariant _ c.load-node.ensures c.if-node-eq0.true
