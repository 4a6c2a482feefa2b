-- `net_insertion::seek_place` meets its contract: `Seeking` is the loop's invariant, and each alternative is later.
use Prim.Native.Nat.{◌-◌}
use Rattle.net_node.specs.Held.{nodes_held}
use Rattle.net_insertion.proofs.Seeking.{Seeking}
use Rattle.net_insertion.proofs.seek_place.Given as goal

abbrev pub invariant-loop-e : goal.invariant-loop-e
invariant-loop-e l = Seeking (nodes_held l.nodes) l.nodes.count l.join l.e l.start l.i

abbrev pub decreases-loop-e : goal.decreases-loop-e
decreases-loop-e l = l.nodes.count - l.i
