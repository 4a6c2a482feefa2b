-- Words of the contracts: the nodes that a strand walk gives, and a walk of which a part is done. The walk is that
-- of `strands`, without the entries: which nodes it gives depends on neither the match link nor the list before it.
use Rattle.std.specs.Prelude.{Bool, true, false, ◌||◌, List, [], ◌∷◌, ◌++◌, ℕ, zero, suc, eqb}
use Rattle.std.proofs.Math.Option.{Option, none, some}
use Rattle.net_node.specs.declared.LinkEvent.{LinkEvent}
use Rattle.net_node.specs.declared.EstTime.{EstTime}
use Rattle.net_node.specs.Table.{same_event}
use Rattle.net_stack.specs.Stack.{is_arrive, alternative_stacked}

-- nodes before those of a walk; none is a walk that reads too many nexts
abbrev pub with_nodes : List ℕ → Option (List ℕ) → Option (List ℕ)
with_nodes is none = none
with_nodes is (some js) = some (is ++ js)

-- "Then pop."
abbrev pub popped_to : List ℕ → (ℕ → List ℕ → Option (List ℕ)) → Option (List ℕ)
popped_to [] f = some []
popped_to (i ∷ stack) f = f i stack

-- by whether the next has the event, and whether it "is an Arrive or has no next"
abbrev pub walked_as : Bool → Bool → ℕ → List ℕ → (ℕ → List ℕ → Option (List ℕ)) → Option (List ℕ)
walked_as true stops next stack f = with_nodes (next ∷ []) (popped_to stack f)
walked_as false true next stack f = popped_to stack f
walked_as false false next stack f = f next stack

-- the nodes that a walk gives which may read so many nexts, from a node on and with these alternatives stacked
unfoldable pub walked : ℕ → (ℕ → EstTime) → LinkEvent → ℕ → List ℕ → Option (List ℕ)
walked zero node e here stack = none
walked (suc k) node e here stack =
    let next = (node here).idx_next in
    walked_as (same_event (node next).link_event e)
    (is_arrive (node next).link_event.est_type || eqb (node next).idx_next 0) next
    (alternative_stacked (node here).idx_next_alt stack) (walked k node e)

-- of k nexts so many are read and give these nodes; with those that are left the walk goes on as `rest` says
unfoldable pub spend : ℕ → List ℕ → (ℕ → Option (List ℕ)) → ℕ → Option (List ℕ)
spend zero is rest k = with_nodes is (rest k)
spend (suc r) is rest zero = none
spend (suc r) is rest (suc k) = spend r is rest k
