-- `net_strands::Rebuild::follow_alternatives` meets its contract: `Following` is the loop's invariant, and each
-- alternative is later.
use Prim.Native.Nat.{◌-◌}
use Rattle.net_node.specs.Held.{nodes_held}
use Rattle.net_strands.specs.Space.{alternatives}
use Rattle.net_strands.proofs.Alternatives.{Following}
use Rattle.net_strands.proofs.Rebuild.follow_alternatives.Given as goal

abbrev pub invariant-loop-x : goal.invariant-loop-x
invariant-loop-x l =
    Following (nodes_held l.self.nodes) l.self.nodes.count l.self.event l.link_idx_match
    (alternatives l.self.nodes.count (nodes_held l.self.nodes) l.self.event l.link_idx_match l.start
    l.initial.list.items) l.list.items l.i

abbrev pub decreases-loop-x : goal.decreases-loop-x
decreases-loop-x l = l.self.nodes.count - l.i
