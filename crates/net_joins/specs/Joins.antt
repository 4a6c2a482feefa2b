-- `perform_speed_join` and `add_new_join_paths`: the choice among the entries, the join, and the entries that a failed
-- join at an Arrive appends.
use Rattle.std.specs.Prelude.{◌≡◌, Bool, true, false, ◌&&◌, ◌||◌, cond, List, [], ◌∷◌, ℕ, zero, suc, ◌-◌, eqb, ltb}
use Rattle.std.specs.Prelude.{Float, Result, Ok, Err}
use Rattle.std.proofs.Math.Option.{Option, none, some}
use Rattle.std.specs.Float.Ieee.{lt}
use Rattle.floats.specs.Floats.{gap}
use Rattle.net_node.specs.declared.LinkEvent.{LinkEvent}
use Rattle.net_node.specs.declared.EstTime.{EstTime}
use Rattle.net_node.specs.declared.TimedEvent.{TimedEvent}
use Rattle.net_node.specs.Table.{blank, Table, put, at, with_next, with_prev, with_prev_alt}
use Rattle.net_insertion.specs.Insertion.{linked_to}
use Rattle.net_event_map.specs.EventMap.{seen_in, event_nodes}
use Rattle.net_join_paths.specs.declared.EstJoinPath.{EstJoinPath}
use Rattle.net_join_paths.specs.Entries.{entry, push, and_then}
use Rattle.net_stack.specs.Stack.{is_arrive}
use Rattle.net_strands.specs.Space.{extended_all}
use Rattle.refusals.specs.declared.Refusal.{Refusal}
use Rattle.refusals.specs.declared.Refusal.TheVariants.{NoPlace}
use Rattle.net_joins.specs.declared.SpeedJoin.{SpeedJoin}
use Rattle.net_joins.specs.declared.Step.{Step}
use Rattle.net_joins.specs.declared.Step.TheVariants.{Joined, Waits}

-- ---- "Of entries with m = 0 the first with the smallest gap, strictly below J, is joined"

-- by whether an entry matches and has a smaller gap
abbrev pub closer_as : Bool → SpeedJoin → Float → ℕ → SpeedJoin
closer_as true best g e = record { speed_diff_join = g; est_idx_join = e }
closer_as false best g e = best

-- the better of the best so far and one more entry
unfoldable pub closer : (ℕ → EstTime) → Float → SpeedJoin → EstJoinPath → SpeedJoin
closer node speed best x =
    let g = gap (node x.est_idx_next).speed speed in
    closer_as (eqb x.link_idx_match 0 && lt g best.speed_diff_join) best g x.est_idx_next

-- the best of a list, from the best so far on
unfoldable pub closest_of : (ℕ → EstTime) → Float → SpeedJoin → List EstJoinPath → SpeedJoin
unfolding closer
closest_of node speed best [] = best
closest_of node speed best (x ∷ xs) = closest_of node speed (closer node speed best x) xs

-- the source begins with J and no node
unfoldable pub closest : (ℕ → EstTime) → Float → Float → List EstJoinPath → SpeedJoin
unfolding closest_of
closest node join speed es = closest_of node speed (record { speed_diff_join = join; est_idx_join = 0 }) es

-- ---- "the last node links through a new Fake at the end of the target's previous-alternative chain"

-- the node itself where it has no previous alternative
abbrev pub chain_end_as : ℕ → ℕ → (ℕ → ℕ) → ℕ
chain_end_as zero i f = i
chain_end_as (suc j) i f = f (suc j)

-- from node i along the previous alternatives, for so many of them
unfoldable pub chain_end : ℕ → (ℕ → EstTime) → ℕ → ℕ
chain_end zero node i = i
chain_end (suc k) node i = chain_end_as (node i).idx_prev_alt i (chain_end k node)

-- a join's Fake, between the last node and the end of the chain
unfoldable pub join_fake : ℕ → ℕ → EstTime
unfolding blank
join_fake next prev = with_prev (with_next blank next) prev

-- The table of n nodes after a join: the chain's end gets the Fake as node n, and the last node gets it as its next.
-- The end of the chain may be the last node itself.
unfoldable pub join_at : Table → ℕ → ℕ → TimedEvent → Table
unfolding put at
join_at t n end e =
    let t1 = put t end (with_prev_alt (at t end) n) in
    let t2 = put t1 n (join_fake end (n - 1)) in
    put t2 (n - 1) (linked_to (at t2 (n - 1)) n e)

-- the join, at "the end of the target's previous-alternative chain"
unfoldable pub joined_table : Table → ℕ → ℕ → TimedEvent → Table
unfolding join_at chain_end
joined_table t n target e = join_at t n (chain_end n (at t) target) e

-- ---- "After a failed join an Arrive appends, rising, all nodes of that event that no entry names."

-- whether an entry of a list names a node
unfoldable pub names : List EstJoinPath → ℕ → Bool
names [] i = false
names (x ∷ xs) i = eqb x.est_idx_next i || names xs i

-- a node put behind a list, unless it is named
abbrev pub appended_if : Bool → ℕ → ℕ → List EstJoinPath → Option (List EstJoinPath)
appended_if true m i es = some es
appended_if false m i es = push es (entry m i)

-- these nodes, except those that the old list names, each with the event's link as its m
unfoldable pub appended_all : List EstJoinPath → ℕ → List ℕ → List EstJoinPath → Option (List EstJoinPath)
unfolding names
appended_all old m [] es = some es
appended_all old m (i ∷ is) es = and_then (appended_if (names old i) m i es) (appended_all old m is)

-- the nodes of an event, if it is an Arrive
unfoldable pub appended : (ℕ → EstTime) → ℕ → LinkEvent → List EstJoinPath → Option (List EstJoinPath)
unfolding appended_all event_nodes
appended node n e es =
    cond (is_arrive e.est_type) (appended_all es e.link_idx (event_nodes node e n) es) (some es)

-- ---- the three together, for an event of a run that has added since its pop

-- `update_join_paths_space` in a network of n nodes: the list rebuilt for an event
unfoldable pub rebuilt : (ℕ → EstTime) → ℕ → LinkEvent → List EstJoinPath → Option (List EstJoinPath)
rebuilt node n e old = extended_all node n e (seen_in node n e) old []

-- What becomes of the run: it joins a node, it goes on with a list, or there is no room for either.
pub data JoinStep : Type 0 where
  JoinsTo : ℕ → JoinStep
  GoesOn : List EstJoinPath → JoinStep
  Beyond : JoinStep

-- document 01's number for each: row 12, "node beyond the table .., join entry beyond 1,024 in a list, .. or strand
-- walk of one entry reading over 4,096 nexts"
abbrev pub step_number : JoinStep → ℕ
step_number (JoinsTo target) = 0
step_number (GoesOn es) = 0
step_number Beyond = 12

-- the run goes on with a list, or there was no room for it
abbrev pub step_with : Option (List EstJoinPath) → JoinStep
step_with none = Beyond
step_with (some es) = GoesOn es

-- a join needs a place for its Fake
abbrev pub joins_if : Bool → ℕ → JoinStep
joins_if true target = JoinsTo target
joins_if false target = Beyond

-- by whether the smallest gap is below J and whether there is room
abbrev pub chosen_as : Bool → Bool → ℕ → Option (List EstJoinPath) → JoinStep
chosen_as true room target list = joins_if room target
chosen_as false room target list = step_with list

-- what becomes of the run with its list rebuilt
abbrev pub chosen : (ℕ → EstTime) → ℕ → ℕ → Float → TimedEvent → Option (List EstJoinPath) → JoinStep
chosen node n places join e none = Beyond
chosen node n places join e (some es) =
    let best = closest node join e.speed es in
    chosen_as (lt best.speed_diff_join join) (ltb n places) best.est_idx_join
    (appended node n e.link_event es)

-- what becomes of the run at an event
unfoldable pub join_step : (ℕ → EstTime) → ℕ → ℕ → Float → TimedEvent → List EstJoinPath → JoinStep
unfolding closest appended rebuilt
join_step node n places join e old = chosen node n places join e (rebuilt node n e.link_event old)

-- ---- what the code answers

-- a step of the code is that of the definition, with the list that the run goes on with
abbrev pub StepAs : JoinStep → List EstJoinPath → Result Step Refusal → Type 0
StepAs d list (Ok (Joined target)) = d ≡ JoinsTo target
StepAs d list (Ok Waits) = d ≡ GoesOn list
StepAs d list (Err r) = (d ≡ Beyond) × (r ≡ NoPlace)

-- the table's lists, which were t before, after a step: changed by a join alone, and left as they were by a refusal
abbrev pub SteppedInto : Table → ℕ → TimedEvent → List Float → List ℕ → Result Step Refusal → Type 0
SteppedInto t n e floats numbers (Ok (Joined target)) =
    (floats ≡ (joined_table t n target e).floats) × (numbers ≡ (joined_table t n target e).numbers)
SteppedInto t n e floats numbers (Ok Waits) = (floats ≡ t.floats) × (numbers ≡ t.numbers)
SteppedInto t n e floats numbers (Err r) = (floats ≡ t.floats) × (numbers ≡ t.numbers)
