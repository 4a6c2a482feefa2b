-- `net_strands::Rebuild::extend_all` meets its contract: `Building` is the loop's invariant.
use Rattle.net_node.specs.Held.{nodes_held}
use Rattle.net_strands.proofs.Extending.{Building}
use Rattle.net_strands.proofs.Rebuild.extend_all.Given as goal

abbrev pub invariant-loop-x : goal.invariant-loop-x
invariant-loop-x l =
    Building (nodes_held l.self.nodes) l.self.nodes.count l.self.event l.self.seen l.self.old.now l.self.layout
    l.initial.cells l.cells l.list.items l.x-index
