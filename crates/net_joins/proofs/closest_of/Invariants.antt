-- `net_joins::closest_of` meets its contract: `Choosing` is the loop's invariant.
use Rattle.net_node.specs.Table.{node_at}
use Rattle.net_joins.proofs.Choosing.{Choosing}
use Rattle.net_joins.proofs.closest_of.Given as goal

abbrev pub invariant-loop-x : goal.invariant-loop-x
invariant-loop-x l = Choosing (node_at l.floats l.numbers) l.join l.speed l.entries l.best l.x-index
