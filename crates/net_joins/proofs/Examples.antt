-- Worked examples: the choice, the join and the append in networks of a few nodes.
use mathlib.Core.Path.{◌≡◌, refl}
use mathlib.Core.List.{List, [], ◌∷◌}
use mathlib.Core.Option.{Option, none, some}
use Prim.Native.Nat.{ℕ}
use lib.ListN.{length}
use lib.Ieee.{Float, binary64, sub, lt, of_bits}
use Rattle.laws.specs.Below.{some_below}
use Rattle.floats.specs.Floats.{gap}
use Rattle.net_node.specs.declared.EstType.{EstType}
use Rattle.net_node.specs.declared.EstType.TheVariants.{Arrive, Clear, Fake}
use Rattle.net_node.specs.declared.EstTime.{EstTime}
use Rattle.net_node.specs.declared.TimedEvent.{TimedEvent}
use Rattle.net_node.specs.Table.{same_event, node_at, put_floats, put_numbers, no_link_event, blank, Table, table_of}
use Rattle.net_node.specs.Table.{at, with_arc, with_speed, with_next, with_prev, with_prev_alt, with_event}
use Rattle.net_insertion.specs.Insertion.{linked_to}
use Rattle.net_event_map.specs.EventMap.{seen_in, event_nodes}
use Rattle.net_join_paths.specs.declared.EstJoinPath.{EstJoinPath}
use Rattle.net_join_paths.specs.Entries.{entry, push}
use Rattle.net_strands.specs.Space.{alternatives, strand_from, strands, extended_all}
use Rattle.net_joins.specs.Joins.{closest, join_fake, joined_table, appended, JoinsTo, GoesOn, Beyond, JoinStep}
use Rattle.net_joins.specs.Joins.{join_step}

abbrev 0s : Float
0s = of_bits binary64 0

abbrev 1s : Float
1s = of_bits binary64 4607182418800017408

abbrev 2s : Float
2s = of_bits binary64 4611686018427387904

abbrev 3s : Float
3s = of_bits binary64 4613937818241073152

abbrev 4s : Float
4s = of_bits binary64 4616189618054758400

-- ---- a network

-- a node with its speed, kind, link, next, previous and previous alternative; it holds a time and offset of 1
abbrev node : Float → EstType → ℕ → ℕ → ℕ → ℕ → EstTime
node speed kind link next prev alt =
    with_prev_alt
    (with_prev
    (with_next (with_event (with_speed (with_arc blank 1s 1s) speed)
    (record { link_idx = link; est_type = kind })) next) prev) alt

abbrev free : EstTime
free = node 0s Fake 0 0 0 0

abbrev table : List EstTime → Table
table = table_of

-- Three runs have the Arrive of link 1: node 1, with the Clear 2 behind it; node 3, which joined node 2 through the
-- Fake 4; node 5, with the Clear 6 behind it. Node 7 is the last run's. One place is free.
abbrev web : Table
web =
    table
    (free ∷ node 1s Arrive 1 2 0 0 ∷ node 2s Clear 1 0 1 4 ∷ node 3s Arrive 1 4 0 0 ∷ node 0s Fake 0 2 3 0
    ∷ node 4s Arrive 1 6 0 0 ∷ node 4s Clear 1 0 5 0 ∷ node 1s Arrive 1 0 0 0 ∷ free ∷ [])

-- a run's event, at the time and offset of 4
abbrev event : Float → EstType → ℕ → TimedEvent
event speed kind link = record {
  time = 4s;
  offset = 4s;
  speed = speed;
  link_event = record { link_idx = link; est_type = kind };
}

-- a step of the run that added node 7, with its J
abbrev step : Float → TimedEvent → List EstJoinPath → JoinStep
step join e old = join_step (at web) 8 9 join e old

-- what is appended to a list
abbrev after : EstType → List EstJoinPath → Option (List EstJoinPath)
after kind es = appended (at web) 8 (record { link_idx = 1; est_type = kind }) es

-- the network after a join of node 2, and of node 7, which is the last node and the end of its own chain
abbrev joined : Table
joined = joined_table web 8 2 (event 2s Clear 1)

abbrev looped : Table
looped = joined_table web 8 7 (event 2s Clear 1)

-- what is appended to no entries where each of the first n nodes has the Arrive of link 1
abbrev crowd : ℕ → Option (List EstJoinPath)
crowd n = appended (λ i. node 1s Arrive 1 1 0 0) n (record { link_idx = 1; est_type = Arrive }) []

-- the number of entries, 0 for a refusal
abbrev size : Option (List EstJoinPath) → ℕ
size none = 0
size (some es) = length es

record Examples : Type 0 where
  -- no entries: no join
  no_entries : step 1s (event 2s Clear 1) [] ≡ GoesOn []
  -- a gap of exactly J is no join, a smaller one is
  gap_of_upper_j : step 1s (event 1s Clear 1) (entry 1 1 ∷ []) ≡ GoesOn (entry 0 2 ∷ [])
  gap_below_upper_j : step 1s (event 2s Clear 1) (entry 1 1 ∷ []) ≡ JoinsTo 2
  -- of equal gaps the first is taken, whichever it is, and else the smallest
  first_of_equals : step 2s (event 3s Clear 1) (entry 1 1 ∷ entry 1 5 ∷ []) ≡ JoinsTo 2
  first_of_others : step 2s (event 3s Clear 1) (entry 1 5 ∷ entry 1 1 ∷ []) ≡ JoinsTo 6
  smallest : step 4s (event 4s Clear 1) (entry 1 1 ∷ entry 1 5 ∷ []) ≡ JoinsTo 6
  -- an entry whose match link is still to come is not joined
  unmatched : step 1s (event 1s Clear 9) (entry 1 1 ∷ []) ≡ GoesOn (entry 1 1 ∷ [])
  -- 12 where there is no place for the Fake; without a join none is needed
  full : join_step (at web) 8 8 1s (event 2s Clear 1) (entry 1 1 ∷ []) ≡ Beyond
  full_unjoined : join_step (at web) 8 8 1s (event 1s Clear 1) (entry 1 1 ∷ []) ≡ GoesOn (entry 0 2 ∷ [])
  -- the Fake goes to the end of the target's chain, the Fake of the join before
  joined_end : at joined 4 ≡ node 0s Fake 0 2 3 8
  joined_fake : at joined 8 ≡ join_fake 4 7
  -- the last node gets it as its next, and what it held becomes that up to the event
  joined_last : at joined 7 ≡ linked_to (node 1s Arrive 1 0 0 0) 8 (event 2s Clear 1)
  joined_time : (at joined 7).time_to_next ≡ 3s
  -- the target stays as it was, its own speed too
  joined_target : at joined 2 ≡ node 2s Clear 1 0 1 4
  -- the last node as the end of the chain gets both
  looped_next : (at looped 7).idx_next ≡ 8
  looped_alt : (at looped 7).idx_prev_alt ≡ 8
  -- an Arrive appends, rising, the nodes that no entry names, each with its link as m
  appends : after Arrive (entry 0 5 ∷ entry 1 1 ∷ []) ≡ some (entry 0 5 ∷ entry 1 1 ∷ entry 1 3 ∷ entry 1 7 ∷ [])
  appends_all : after Arrive [] ≡ some (entry 1 1 ∷ entry 1 3 ∷ entry 1 5 ∷ entry 1 7 ∷ [])
  arrives : step 1s (event 3s Arrive 1) (entry 0 1 ∷ []) ≡ GoesOn (entry 1 1 ∷ entry 1 3 ∷ entry 1 5 ∷ entry 1 7 ∷ [])
  -- a Clear appends nothing
  clear_appends : after Clear (entry 0 6 ∷ []) ≡ some (entry 0 6 ∷ [])
  -- row 12: 1,024 entries have room, one more has none
  last_entry : size (crowd 1024) ≡ 1024
  one_entry_more : crowd 1025 ≡ none

examples : Examples
unfolding join_step joined_table appended closest seen_in some_below event_nodes extended_all alternatives strands strand_from push entry same_event at node_at put_floats put_numbers linked_to join_fake gap sub lt of_bits blank no_link_event
examples = record {
  no_entries = refl;
  gap_of_upper_j = refl;
  gap_below_upper_j = refl;
  first_of_equals = refl;
  first_of_others = refl;
  smallest = refl;
  unmatched = refl;
  full = refl;
  full_unjoined = refl;
  joined_end = refl;
  joined_fake = refl;
  joined_last = refl;
  joined_time = refl;
  joined_target = refl;
  looped_next = refl;
  looped_alt = refl;
  appends = refl;
  appends_all = refl;
  arrives = refl;
  clear_appends = refl;
  last_entry = refl;
  one_entry_more = refl;
}
