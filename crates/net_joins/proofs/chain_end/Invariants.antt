-- `net_joins::chain_end` meets its contract: `Following` is the loop's invariant, and each alternative is later.
use Prim.Native.Nat.{◌-◌}
use Rattle.net_node.specs.Held.{nodes_held}
use Rattle.net_joins.proofs.Chains.{Following}
use Rattle.net_joins.proofs.chain_end.Given as goal

abbrev pub invariant-loop-node : goal.invariant-loop-node
invariant-loop-node l = Following (nodes_held l.nodes) l.nodes.count l.start l.i

abbrev pub decreases-loop-node : goal.decreases-loop-node
decreases-loop-node l = l.nodes.count - l.i
