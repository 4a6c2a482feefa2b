-- The arcs of a sheet, document 01 under "Arcs". "Node 1 is the start, the last node the end; other arc ends are event
-- nodes (Arrive or Clear), by number." Read off the sheet: "each of node 1, event nodes and split Fakes (Fakes that are
-- next alternatives, 0 being none) has one arc, with its own time to next and distance to next. It leads from the event
-- or start whose next alternatives reach it (the start or an event: from itself) to the first non-Fake or the end along
-- next." The network is a function from index to node, of which the first n count. In an arc 0 stands for the end, and
-- n, which no node has and no noted arc, for an end that is not there: where a walk along next or up the alternatives
-- does not end, and where a split Fake is the next alternative of no node, of node 0, or of two.
use Rattle.std.specs.Prelude.{◌≡◌, Bool, true, false, ◌&&◌, ◌||◌}
use Rattle.std.proofs.Math.Bool.{not, cond}
use mathlib.Core.List.{List, [], ◌∷◌}
use Prim.Native.Nat.{ℕ, zero, suc, ◌+◌, ◌-◌}
use Rattle.std.proofs.Math.Dec.{eqb}
use Rattle.std.specs.Float.{binary64}
use Rattle.std.specs.Float.Ieee.{to_bits}
use Rattle.laws.specs.Below.{some_below}
use Rattle.net_node.specs.declared.EstTime.{EstTime}
use Rattle.net_node.specs.Table.{is_fake}
use Rattle.grow_rules.specs.Run.{Arc}

-- 1 for true
abbrev pub one : Bool → ℕ
one true = 1
one false = 0

-- a node's source, by whether it is the start or an event, and whether it has one owner: itself, what its owner's
-- source is, or none
abbrev pub source_as : ℕ → Bool → Bool → ℕ → ℕ → ℕ
source_as none true owned i before = i
source_as none false true i before = before
source_as none false false i before = none

module _ (node : ℕ → EstTime) (n : ℕ) where
  -- "Fakes that are next alternatives, 0 being none"
  unfoldable pub is_alternative : ℕ → Bool
  is_alternative i = not (eqb i 0) && some_below n (λ k. eqb (node k).idx_next_alt i)

  -- "each of node 1, event nodes and split Fakes"
  unfoldable pub is_base : ℕ → Bool
  unfolding is_alternative
  is_base i = eqb i 1 || not (is_fake (node i)) || is_alternative i

  -- the last of the first k nodes whose next alternative is i, or 0
  unfoldable pub alternative_of : ℕ → ℕ → ℕ
  alternative_of zero i = 0
  alternative_of (suc k) i = cond (eqb (node k).idx_next_alt i) k (alternative_of k i)

  -- how many of the first k nodes have i as their next alternative
  unfoldable pub owners : ℕ → ℕ → ℕ
  owners zero i = 0
  owners (suc k) i = owners k i + one (eqb (node k).idx_next_alt i)

  -- one node has, and it is not node 0
  unfoldable pub is_owned : ℕ → Bool
  unfolding owners alternative_of
  is_owned i = eqb (owners n i) 1 && not (eqb (alternative_of n i) 0)

  -- "from the event or start whose next alternatives reach it (the start or an event: from itself)": where the arc of
  -- node i begins, in so many steps
  unfoldable pub source_of : ℕ → ℕ → ℕ
  unfolding is_owned
  source_of zero i = n
  source_of (suc k) i =
      let before = source_of k (alternative_of n i) in
      source_as n (eqb i 1 || not (is_fake (node i))) (is_owned i) i before

  -- "to the first non-Fake or the end along next", in so many steps; 0 is the end
  abbrev goal_as : Bool → Bool → ℕ → ℕ → ℕ
  goal_as true fake i later = 0
  goal_as false false i later = i
  goal_as false true i later = later

  -- where an arc that leads to node i ends
  unfoldable pub goal_of : ℕ → ℕ → ℕ
  goal_of zero i = n
  goal_of (suc k) i =
      let later = goal_of k (node i).idx_next in
      goal_as (eqb i (n - 1)) (is_fake (node i)) i later

  -- "with its own time to next and distance to next"
  unfoldable pub arc_of : ℕ → Arc
  unfolding source_of goal_of
  arc_of i = record {
    from = source_of n i;
    to = goal_of n (node i).idx_next;
    time = (node i).time_to_next;
    distance = (node i).dist_to_next;
  }

  -- the arcs of the first k nodes
  unfoldable pub arcs_below : ℕ → List Arc
  unfolding is_base arc_of
  arcs_below zero = []
  arcs_below (suc k) = cond (is_base k) (arc_of k ∷ arcs_below k) (arcs_below k)

  -- the arcs read off the sheet
  unfoldable pub arcs_read : List Arc
  unfolding arcs_below
  arcs_read = arcs_below n

-- ---- arcs that are the same: both ends, and every bit of time and distance

-- both ends, and the bits of time and distance
unfoldable pub same_arc : Arc → Arc → Bool
same_arc a b =
    eqb a.from b.from
    && eqb a.to b.to
    && eqb (to_bits binary64 a.time) (to_bits binary64 b.time)
    && eqb (to_bits binary64 a.distance) (to_bits binary64 b.distance)

-- how often an arc is in a list
unfoldable pub times_in : Arc → List Arc → ℕ
unfolding same_arc
times_in a [] = 0
times_in a (x ∷ xs) = one (same_arc a x) + times_in a xs

-- each arc is in the one list as often as in the other
abbrev pub SameArcs : List Arc → List Arc → Type 0
SameArcs xs ys = (a : Arc) → times_in a xs ≡ times_in a ys
