-- What the definitions of arcs, runs and ends tell apart, in small cases: networks of a few nodes, and one arc or run
-- each that is right or wrong in one thing.
use mathlib.Core.Path.{◌≡◌, refl, ap}
use mathlib.Core.Logic.{◌⊎◌, inl, inr}
use mathlib.Core.List.{List, [], ◌∷◌}
use Prim.Native.Nat.{ℕ, zero, suc}
use native.Mathlib.Omega.{arith}
use lib.Ieee.{binary64, of_bits, to_bits, sub}
use Rattle.laws.proofs.Truth.{not_both}
use Rattle.net_node.specs.declared.EstType.TheVariants.{Arrive}
use Rattle.net_node.specs.declared.EstTime.{EstTime}
use Rattle.net_node.specs.declared.LinkEvent.{LinkEvent}
use Rattle.net_node.specs.declared.TimedEvent.{TimedEvent}
use Rattle.net_node.specs.Table.{blank, with_next, with_next_alt, with_event}
use Rattle.grow_rules.specs.Run.{Arc, EndedRun}
use Rattle.arcs_growth.specs.Arcs.{alternative_of, owners, is_owned, source_of, goal_of}
use Rattle.arcs_growth.specs.Runs.{HasEvent, Visits, FirstAt, LastAt, LeadsOn}
use Rattle.arcs_growth.specs.Noted.{LeadsOut, EventAt, ArcEnds}

-- ---- walks

-- a network of these nodes, blank behind them
abbrev network : List EstTime → ℕ → EstTime
network [] i = blank
network (x ∷ xs) zero = x
network (x ∷ xs) (suc i) = network xs i

-- a Fake that leads to a node, and has a next alternative
abbrev fake : ℕ → ℕ → EstTime
fake next alt = with_next_alt (with_next blank next) alt

-- an Arrive that leads to a node
abbrev event : ℕ → EstTime
event next = with_event (with_next blank next) (record { link_idx = 1; est_type = Arrive })

-- node 1 to the event 2, that over the Fake 3 to the event 4, that over the Fake 5 to the end, 6
abbrev line : ℕ → EstTime
line = network (fake 1 0 ∷ fake 2 0 ∷ event 3 ∷ fake 4 0 ∷ event 5 ∷ fake 6 0 ∷ fake 0 0 ∷ [])

-- over a Fake to the event behind it
goal_event : goal_of line 7 7 3 ≡ 4
unfolding goal_of blank
goal_event = refl

-- over the last Fake to the end
goal_end : goal_of line 7 7 5 ≡ 0
unfolding goal_of blank
goal_end = refl

-- two Fakes that lead to each other lead nowhere, and not to the end
goal_ring : goal_of (network (fake 1 0 ∷ fake 2 0 ∷ fake 3 0 ∷ fake 2 0 ∷ fake 0 0 ∷ [])) 5 5 2 ≡ 5
unfolding goal_of blank
goal_ring = refl

-- the split Fake 3 is the alternative of the start
source_start : source_of (network (fake 1 0 ∷ fake 2 3 ∷ event 4 ∷ fake 4 0 ∷ fake 0 0 ∷ [])) 5 5 3 ≡ 1
unfolding source_of is_owned owners alternative_of blank
source_start = refl

-- of node 2, an event, over another split Fake
source_event : source_of (network (fake 1 0 ∷ fake 2 0 ∷ with_next_alt
    (event 5) 3 ∷ fake 5 4 ∷ fake 5 0 ∷ fake 0 0 ∷ [])) 6 6 4 ≡ 2
unfolding source_of is_owned owners alternative_of blank
source_event = refl

-- of two nodes: it has no source
source_two : source_of (network (fake 1 0 ∷ fake 2 3 ∷ with_next_alt (event 4) 3 ∷ fake 4 0 ∷ fake 0 0 ∷ [])) 5 5 3 ≡ 5
unfolding source_of is_owned owners alternative_of blank
source_two = refl

-- of node 0
source_nought : source_of (network (fake 1 3 ∷ fake 2 0 ∷ event 4 ∷ fake 4 0 ∷ fake 0 0 ∷ [])) 5 5 3 ≡ 5
unfolding source_of is_owned owners alternative_of blank
source_nought = refl

-- of nobody
source_none : source_of (network (fake 1 0 ∷ fake 2 0 ∷ event 4 ∷ fake 4 0 ∷ fake 0 0 ∷ [])) 5 5 3 ≡ 5
unfolding source_of is_owned owners alternative_of blank
source_none = refl

-- two split Fakes, each the alternative of the other
source_ring : source_of (network (fake 1 0 ∷ fake 2 0 ∷ fake 4 3 ∷ fake 4 2 ∷ fake 0 0 ∷ [])) 5 5 3 ≡ 5
unfolding source_of is_owned owners alternative_of blank
source_ring = refl

-- ---- the arcs of a run

-- an event on a link, at so many seconds and metres by their patterns
abbrev happens : ℕ → ℕ → ℕ → TimedEvent
happens link time offset = record {
  time = of_bits binary64 time;
  offset = of_bits binary64 offset;
  speed = of_bits binary64 0;
  link_event = record { link_idx = link; est_type = Arrive };
}

-- 1, 2 and 3 as patterns
abbrev one : ℕ
one = 4607182418800017408

abbrev two : ℕ
two = 4611686018427387904

-- three events at 0, 1 and 3 seconds and 0, 2 and 4 metres, on nodes 2, 3 and 5
abbrev events : List TimedEvent
events = happens 1 0 0 ∷ happens 2 one two ∷ happens 3 4613937818241073152 4616189618054758400 ∷ []

abbrev nodes : List ℕ
nodes = 2 ∷ 3 ∷ 5 ∷ []

abbrev arc_with : ℕ → ℕ → ℕ → ℕ → Arc
arc_with from to time distance = record {
  from = from;
  to = to;
  time = of_bits binary64 time;
  distance = of_bits binary64 distance;
}

-- the second arc: from node 3 to node 5 in 2 s over 2 m
leads_second : LeadsOn events nodes (arc_with 3 5 two two)
unfolding of_bits sub
leads_second = inr (inl (record { from = refl; to = refl; time = refl; distance = refl }))

-- not from the first to the third
leads_not_over : LeadsOn events nodes (arc_with 2 5 4613937818241073152 4616189618054758400) → ⊥
leads_not_over (inl d) = let e = d.to in omega arith
leads_not_over (inr (inl d)) = let e = d.from in omega arith
leads_not_over (inr (inr d)) = d

-- not with another time
leads_not_timed : LeadsOn events nodes (arc_with 3 5 one two) → ⊥
unfolding of_bits sub to_bits
leads_not_timed (inl d) = let e = d.from in omega arith
leads_not_timed (inr (inl d)) = let e : one ≡ two = ap (to_bits binary64) d.time in omega arith
leads_not_timed (inr (inr d)) = d

-- not on nodes of another visit
leads_not_there : LeadsOn events nodes (arc_with 2 5 two two) → ⊥
leads_not_there (inl d) = let e = d.to in omega arith
leads_not_there (inr (inl d)) = let e = d.from in omega arith
leads_not_there (inr (inr d)) = d

-- the last event's node, and no other; and none where an event has no node
last_third : LastAt events nodes 5
last_third = refl

last_not_second : LastAt events nodes 3 → ⊥
last_not_second e = omega arith

last_not_short : LastAt events (2 ∷ 3 ∷ []) 3 → ⊥
last_not_short e = e

first_only : FirstAt nodes 3 → ⊥
first_only e = omega arith

-- more nodes than events
visits_not_more : (b : List ℕ) (node : ℕ → EstTime) (n : ℕ) → Visits b node n (happens 1 0 0 ∷ []) (2 ∷ 3 ∷ []) → ⊥
visits_not_more b node n v = v.1

-- a node of another link
visits_not_other : (b : List ℕ) → HasEvent b line 7 (happens 2 0 0) 2 → ⊥
unfolding blank
visits_not_other b d = let e : ◌≡◌ {A = ℕ} 1 2 = ap (λ (x : LinkEvent). x.link_idx) d.event in omega arith

-- a node behind the sheet
visits_not_outside : (b : List ℕ) → HasEvent b line 2 (happens 1 0 0) 2 → ⊥
visits_not_outside b d = let e = d.inside in omega arith

-- ---- ends

-- an arc to a Fake, or to a node behind the sheet
ends_not_fake : ArcEnds line 7 (arc_with 2 3 0 0) → ⊥
unfolding blank
ends_not_fake d = go d.to
  where
    go : (◌≡◌ {A = ℕ} 3 0) ⊎ EventAt line 7 3 → ⊥
    go (inl e) = omega arith
    go (inr e) = not_both refl e.real

ends_not_outside : ArcEnds line 4 (arc_with 2 4 0 0) → ⊥
ends_not_outside d = go d.to
  where
    go : (◌≡◌ {A = ℕ} 4 0) ⊎ EventAt line 4 4 → ⊥
    go (inl e) = omega arith
    go (inr e) = let h = e.inside in omega arith

-- a finish that takes time, or leads over some way, or to a node
out_not_timed : (b : List ℕ) (runs : List EndedRun) → LeadsOut b runs (arc_with 5 0 one 0) → ⊥
unfolding of_bits to_bits
out_not_timed b runs o = let e : one ≡ 0 = ap (to_bits binary64) o.time in omega arith

out_not_far : (b : List ℕ) (runs : List EndedRun) → LeadsOut b runs (arc_with 5 0 0 one) → ⊥
unfolding of_bits to_bits
out_not_far b runs o = let e : one ≡ 0 = ap (to_bits binary64) o.distance in omega arith

out_not_node : (b : List ℕ) (runs : List EndedRun) → LeadsOut b runs (arc_with 5 4 0 0) → ⊥
out_not_node b runs o = let e = o.to in omega arith

-- and where no run finishes there is none
out_not_alone : (b : List ℕ) → LeadsOut b [] (arc_with 5 0 0 0) → ⊥
out_not_alone b o = o.run
