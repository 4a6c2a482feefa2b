-- Where strands go on and where they stop, document 01 under "Joins": kinds, and the alternatives that are stacked.
use Rattle.std.specs.Prelude.{Bool, true, false, List, ◌∷◌, ℕ, zero, suc}
use Rattle.net_node.specs.declared.EstType.{EstType}
use Rattle.net_node.specs.declared.EstType.TheVariants.{Arrive, Clear, Fake}

-- whether a kind is Arrive
abbrev pub is_arrive : EstType → Bool
is_arrive Arrive = true
is_arrive Clear = false
is_arrive Fake = false

-- "stack the node's alternative"
abbrev pub alternative_stacked : ℕ → List ℕ → List ℕ
alternative_stacked zero stack = stack
alternative_stacked (suc i) stack = suc i ∷ stack
