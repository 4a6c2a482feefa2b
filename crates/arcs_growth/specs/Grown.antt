-- "The growth rule is a definition over the book alone": two growths are the same when they have the same nodes,
-- counts, noted arcs and runs, whatever lies beyond the nodes in their tables.
use Rattle.std.specs.Prelude.{◌≡◌, ℕ, ◌<◌}
use Rattle.net_node.specs.Table.{at}
use Rattle.grow_rules.specs.Growth.{Grown}

-- the same nodes, counts, noted arcs and runs
pub record SameGrowth (g other : Grown) : Type 0 where
  pub nodes : other.nodes ≡ g.nodes
  pub added : other.added ≡ g.added
  pub splits : other.splits ≡ g.splits
  pub joined : other.joined ≡ g.joined
  pub finished : other.finished ≡ g.finished
  pub noted : other.noted ≡ g.noted
  pub runs : other.runs ≡ g.runs
  pub table : (i : ℕ) → i < g.nodes → at other.table i ≡ at g.table i
