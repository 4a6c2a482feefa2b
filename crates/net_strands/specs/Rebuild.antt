-- Words of the contracts of `Rebuild`'s methods: what the cells say of a new list, and what is done to it.
use Rattle.std.specs.Prelude.{List, ℕ, Result}
use Rattle.std.proofs.Math.Option.{Option}
use Prim.{Unit}
use Rattle.arrayvec.specs.ArrayVec.{ArrayVec}
use Rattle.space.specs.Lent.{Lent}
use Rattle.refusals.specs.declared.Refusal.{Refusal}
use Rattle.net_node.specs.Held.{nodes_held}
use Rattle.net_join_paths.specs.declared.EstJoinPath.{EstJoinPath}
use Rattle.net_strands.specs.declared.Rebuild.{Rebuild}
use Rattle.net_strands.specs.Given.{Given, Extends}

-- What the cells say of a list.
-- Stands in contracts of the methods that follow an entry: each writes cells and list, so `Rebuild`, which is only
-- read, can't keep it.
abbrev pub GivenFor : Rebuild → List ℕ → List EstJoinPath → Type 0
GivenFor r cells list = Given cells r.layout (nodes_held r.nodes) r.nodes.count r.event list

-- a rule is applied to a lent list; what is noted meanwhile is logged in lent cells
abbrev pub ExtendsBy : Rebuild → (List EstJoinPath → Option (List EstJoinPath)) → Lent (List ℕ)
    → Lent (ArrayVec EstJoinPath) → Result Unit Refusal → Type 0
ExtendsBy r rule cells list answer =
    Extends rule r.layout (nodes_held r.nodes) r.nodes.count r.event cells.entry.now list.entry.now.items
    cells.exit.now list.exit.now.items answer
