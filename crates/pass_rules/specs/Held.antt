-- The nodes of a network that is only read, as the definitions see them.
use Rattle.std.specs.Prelude.{ℕ}
use Rattle.net_node.specs.declared.EstTime.{EstTime}
use Rattle.net_node.specs.Table.{Table, node_at}
use Rattle.pass_rules.specs.Walks.{table_of}
use Rattle.pass_rules.specs.declared.LinkedNodes.{LinkedNodes}

abbrev pub table_held : LinkedNodes → Table
table_held nodes = table_of nodes.floats.now nodes.numbers.now

-- as a function from index to node
abbrev pub nodes_held : LinkedNodes → ℕ → EstTime
nodes_held nodes = node_at nodes.floats.now nodes.numbers.now
