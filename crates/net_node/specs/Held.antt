-- The nodes of a network that is only read, as the definitions see them.
use Rattle.std.specs.Prelude.{ℕ}
use Rattle.net_node.specs.declared.Nodes.{Nodes}
use Rattle.net_node.specs.declared.EstTime.{EstTime}
use Rattle.net_node.specs.Table.{node_at}

-- As a function from index to node.
-- Stands in contracts beside `i < nodes.count`: the node is another one at each call, so `Nodes` can't keep it.
abbrev pub nodes_held : Nodes → ℕ → EstTime
nodes_held nodes = node_at nodes.floats.now nodes.numbers.now
