-- Words of the contracts: the nodes of a span of a list, and an entry for each of them behind it.
use Rattle.std.specs.Prelude.{List, [], ◌∷◌, ℕ, zero, suc}
use Rattle.std.proofs.Math.Option.{Option, some}
use Rattle.net_join_paths.specs.declared.EstJoinPath.{EstJoinPath}
use Rattle.net_join_paths.specs.Entries.{entry, node_of, push, and_then}

-- an entry with match link m for each of these nodes, behind a list
unfoldable pub pushed_all : ℕ → List ℕ → List EstJoinPath → Option (List EstJoinPath)
pushed_all m [] es = some es
pushed_all m (i ∷ is) es = and_then (push es (entry m i)) (pushed_all m is)

-- the nodes of k entries of a list, from one of them on
unfoldable pub nodes_in : List EstJoinPath → ℕ → ℕ → List ℕ
nodes_in es from zero = []
nodes_in es from (suc k) = node_of es from ∷ nodes_in es (suc from) k
