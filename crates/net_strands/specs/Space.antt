-- `update_join_paths_space`, document 01 under "Joins": "Rebuilding its list for an event". Each entry of the old list
-- is followed to the nodes that have the event, in order; the new list is what they give. The network is a function
-- from index to node.
use Rattle.std.specs.Prelude.{Bool, true, false, ◌||◌, List, [], ◌∷◌, ℕ, zero, suc, eqb}
use Rattle.std.proofs.Math.Option.{Option, none, some}
use Rattle.net_node.specs.declared.LinkEvent.{LinkEvent}
use Rattle.net_node.specs.declared.EstTime.{EstTime}
use Rattle.net_node.specs.Table.{same_event}
use Rattle.net_join_paths.specs.declared.EstJoinPath.{EstJoinPath}
use Rattle.net_join_paths.specs.Entries.{entry, push, pushed_if, and_then}
use Rattle.net_stack.specs.Stack.{is_arrive, alternative_stacked}

-- ---- "With old m = 0, e and each of its alternatives gives its next if that has the event."

-- what comes after a node: nothing if it has no alternative
abbrev pub onward : Bool → (List EstJoinPath → Option (List EstJoinPath)) → List EstJoinPath → Option (List EstJoinPath)
onward true f es = some es
onward false f es = f es

-- from node i along the alternatives, at most k of them, with m as the new match link: n are enough among n nodes,
-- since alternatives rise (`Indexed`)
unfoldable pub alternatives : ℕ → (ℕ → EstTime) → LinkEvent → ℕ → ℕ → List EstJoinPath → Option (List EstJoinPath)
alternatives zero node e m i es = some es
alternatives (suc k) node e m i es =
    and_then (pushed_if (same_event (node (node i).idx_next).link_event e) es (entry m (node i).idx_next))
    (onward (eqb (node i).idx_next_alt 0) (alternatives k node e m (node i).idx_next_alt))

-- ---- "With m nonzero, strands"

-- a strand walk: the node that it stands on, the alternatives stacked, and the new list so far
pub record Strand : Type 0 where
  pub here : ℕ
  pub stack : List ℕ
  pub entries : List EstJoinPath

-- the walk of an entry begins at its node, behind the list so far
unfoldable pub strand_from : ℕ → List EstJoinPath → Strand
strand_from i es = record { here = i; stack = []; entries = es }

-- how a turn of it ends: with the whole list, with refusal 12, or with more to do
pub data Turn : Type 0 where
  Whole : List EstJoinPath → Turn
  Over : Turn
  More : Strand → Turn

-- "Then pop."
abbrev pub popped : List ℕ → List EstJoinPath → Turn
popped [] es = Whole es
popped (i ∷ stack) es = More (record { here = i; stack = stack; entries = es })

-- the same, once an entry was put behind the list
abbrev pub popped_after : List ℕ → Option (List EstJoinPath) → Turn
popped_after stack none = Over
popped_after stack (some es) = popped stack es

-- by whether the next has the event, and whether it "is an Arrive or has no next"
abbrev pub turn_as : Bool → Bool → ℕ → ℕ → List ℕ → List EstJoinPath → Turn
turn_as true stops m next stack es = popped_after stack (push es (entry m next))
turn_as false true m next stack es = popped stack es
turn_as false false m next stack es = More (record { here = next; stack = stack; entries = es })

-- "stack the node's alternative, look at its next; the walk is left from its inner part as soon as that next has the
-- event (an entry) or is an Arrive or has no next; otherwise go on."
unfoldable pub turn : (ℕ → EstTime) → LinkEvent → ℕ → Strand → Turn
turn node e m s =
    let next = (node s.here).idx_next in
    turn_as (same_event (node next).link_event e)
    (is_arrive (node next).link_event.est_type || eqb (node next).idx_next 0) m next
    (alternative_stacked (node s.here).idx_next_alt s.stack) s.entries

-- what follows a turn
abbrev pub strands_on : Turn → (Strand → Option (List EstJoinPath)) → Option (List EstJoinPath)
strands_on (Whole es) f = some es
strands_on Over f = none
strands_on (More s) f = f s

-- Row 12: "strand walk of one entry reading over 4,096 nexts": a turn reads one
unfoldable pub strands : ℕ → (ℕ → EstTime) → LinkEvent → ℕ → Strand → Option (List EstJoinPath)
unfolding turn
strands zero node e m s = none
strands (suc k) node e m s = strands_on (turn node e m s) (strands k node e m)

-- ---- one entry of the old list

-- the list goes on by alternatives for an old m of 0, and else by strands
abbrev pub followed : ℕ → (ℕ → EstTime) → ℕ → LinkEvent → ℕ → ℕ → List EstJoinPath → Option (List EstJoinPath)
followed zero node n e m i es = alternatives n node e m i es
followed (suc old) node n e m i es = strands 4096 node e m (strand_from i es)

-- "New m is m for Arrive; for Clear 0 if m is 0 or the event's link, else the entry is copied."
abbrev pub extended_as : (dropped arrive cleared seen : Bool) → (ℕ → EstTime) → ℕ → LinkEvent → EstJoinPath
    → List EstJoinPath → Option (List EstJoinPath)
extended_as true arrive cleared seen node n e x es = some es
extended_as false false false seen node n e x es = push es x
extended_as false true cleared false node n e x es = some es
extended_as false false true false node n e x es = some es
extended_as false true cleared true node n e x es =
    followed x.link_idx_match node n e x.link_idx_match x.est_idx_next es
extended_as false false true true node n e x es = followed x.link_idx_match node n e 0 x.est_idx_next es

-- "an e with no next is dropped"
unfoldable pub extended : (ℕ → EstTime) → ℕ → LinkEvent → Bool → EstJoinPath → List EstJoinPath
    → Option (List EstJoinPath)
extended node n e seen x es =
    extended_as (eqb (node x.est_idx_next).idx_next 0) (is_arrive e.est_type)
    (eqb x.link_idx_match 0 || eqb x.link_idx_match e.link_idx) seen node n e x es

-- ---- the whole list: `seen` says whether some node has the event ("If no node has the event, nothing more")

-- the entries of the old list, one after the other
unfoldable pub extended_all : (ℕ → EstTime) → ℕ → LinkEvent → Bool → List EstJoinPath → List EstJoinPath
    → Option (List EstJoinPath)
unfolding extended
extended_all node n e seen [] es = some es
extended_all node n e seen (x ∷ xs) es = and_then (extended node n e seen x es) (extended_all node n e seen xs)
