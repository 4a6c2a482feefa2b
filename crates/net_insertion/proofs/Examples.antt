-- Worked examples: insertion into networks of a few nodes.
use mathlib.Core.Path.{◌≡◌, refl}
use mathlib.Core.Bool.{Bool, true, false}
use mathlib.Core.List.{List, [], ◌∷◌}
use Prim.Native.Nat.{ℕ}
use lib.Ieee.{Float, binary64, sub, lt, of_bits}
use Rattle.floats.specs.Floats.{gap}
use Rattle.net_node.specs.declared.EstType.{EstType}
use Rattle.net_node.specs.declared.EstType.TheVariants.{Arrive, Clear, Fake}
use Rattle.net_node.specs.declared.EstTime.{EstTime}
use Rattle.net_node.specs.declared.TimedEvent.{TimedEvent}
use Rattle.net_node.specs.Table.{same_event, node_at, put_floats, put_numbers, blank, Table, table_of, at, with_arc}
use Rattle.net_node.specs.Table.{with_speed, with_next, with_next_alt, with_prev, with_event}
use Rattle.net_insertion.specs.declared.Place.{Place}
use Rattle.net_insertion.specs.declared.Seek.TheVariants.{Match, Split}
use Rattle.std.specs.Prelude.{Ok, Err}
use Rattle.refusals.specs.declared.Refusal.TheVariants.{NoPlace, BadEnd}
use Rattle.net_insertion.specs.declared.Insertion.TheVariants.{Added, Moved}
use Rattle.net_insertion.specs.Insertion.{linked_to, event_node, split_fake, add_behind, split_at, place_at, sought_in}
use Rattle.net_insertion.specs.Insertion.{inserted, inserted_table}

abbrev 0s : Float
0s = of_bits binary64 0

abbrev 1s : Float
1s = of_bits binary64 4607182418800017408

abbrev 2s : Float
2s = of_bits binary64 4611686018427387904

abbrev 3s : Float
3s = of_bits binary64 4613937818241073152

abbrev 4s : Float
4s = of_bits binary64 4616189618054758400

-- ---- tables

-- a node with the time and distance that it holds, its speed, next, next alternative, previous, kind and link
abbrev whole : Float → Float → Float → ℕ → ℕ → ℕ → EstType → ℕ → EstTime
whole time dist speed next alt prev kind link =
    with_prev
    (with_next_alt
    (with_next (with_event (with_speed (with_arc blank time dist) speed)
    (record { link_idx = link; est_type = kind })) next) alt) prev

-- one whose speed and what it holds are 1
abbrev node : EstType → ℕ → ℕ → ℕ → EstTime
node kind link next alt = whole 1s 1s 1s next alt 0 kind link

abbrev none : EstTime
none = node Fake 0 0 0

abbrev table : List EstTime → Table
table = table_of

-- a run at node i, whose own time is 2 and offset 3 there; its next event, at 4; and the run behind that
abbrev here : ℕ → Place
here i = record { time_to_next = 2s; dist_to_next = 3s; idx_prev = i }

abbrev then : ℕ → Place
then i = record { time_to_next = 4s; dist_to_next = 4s; idx_prev = i }

abbrev event : Float → EstType → ℕ → TimedEvent
event speed kind link = record {
  time = 4s;
  offset = 4s;
  speed = speed;
  link_event = record { link_idx = link; est_type = kind };
}

-- node 1 has the Arrive of link 1 for its next; two places are free
abbrev arrived : Table
arrived = table (none ∷ node Fake 0 2 0 ∷ node Arrive 1 0 0 ∷ none ∷ none ∷ [])

-- node 1 has a join's Fake for its next, and that one the Clear of link 1
abbrev joined : Table
joined = table (none ∷ node Arrive 1 2 0 ∷ node Fake 0 3 0 ∷ node Clear 1 0 0 ∷ none ∷ none ∷ [])

-- the same, with a split's Fake for alternative, whose next is another Clear
abbrev split : Table
split = table (none ∷ node Arrive 1 2 4 ∷ node Fake 0 3 0 ∷ node Clear 1 0 0 ∷ node Fake 0 5 0 ∷ node Clear 1 0 0 ∷ [])

-- no run has finished; every node ends one
abbrev unended : ℕ → Bool
unended i = false

abbrev ended : ℕ → Bool
ended i = true

record Examples : Type 0 where
  -- a gap of exactly J is no match, a smaller one is
  gap_of_upper_j : sought_in arrived 3 1s (here 1) (event 2s Arrive 1) ≡ Split 1
  gap_below_upper_j : sought_in arrived 3 1s (here 1) (event 1s Arrive 1) ≡ Match 2
  -- nor does another kind or link match
  other_kind : sought_in arrived 3 1s (here 1) (event 1s Clear 1) ≡ Split 1
  other_link : sought_in arrived 3 1s (here 1) (event 1s Arrive 2) ≡ Split 1
  -- the run moves, and takes the event's own time and offset
  moved : inserted arrived 3 5 unended 1s (here 1) (event 1s Arrive 1) ≡ Ok (Moved (then 2))
  -- a split makes a Fake with the run's own time and offset, then up to the event; the node keeps its own
  split_made : inserted arrived 3 5 unended 1s (here 1) (event 2s Arrive 1) ≡ Ok (Added (then 4) true)
  split_node : at (inserted_table arrived 3 1s (here 1) (event 2s Arrive 1)) 1 ≡ node Fake 0 2 3
  split_fake_lem : at (inserted_table arrived 3 1s (here 1) (event 2s Arrive 1)) 3 ≡ whole 2s 1s 0s 4 0 1 Fake 0
  split_event : at (inserted_table arrived 3 1s (here 1) (event 2s Arrive 1)) 4 ≡ whole 4s 4s 2s 0 0 3 Arrive 1
  -- behind a node without a next, whose held time and offset become those up to the event
  open_made : inserted arrived 3 5 unended 1s (here 2) (event 1s Clear 1) ≡ Ok (Added (then 3) false)
  open_node : at (inserted_table arrived 3 1s (here 2) (event 1s Clear 1)) 2 ≡ whole 3s 3s 1s 3 0 0 Arrive 1
  -- a join's Fake is not followed, although its next matches: a split, or an alternative's next
  fake_not_followed : sought_in joined 4 1s (here 1) (event 1s Clear 1) ≡ Split 1
  fake_passed : sought_in split 6 1s (here 1) (event 1s Clear 1) ≡ Match 5
  -- 12 without room, for a split's two nodes too, and before 13
  full : inserted arrived 3 3 unended 1s (here 2) (event 1s Clear 1) ≡ Err NoPlace
  full_at_end : inserted arrived 3 3 ended 1s (here 2) (event 1s Clear 1) ≡ Err NoPlace
  full_at_split : inserted arrived 3 4 unended 1s (here 1) (event 2s Arrive 1) ≡ Err NoPlace
  at_end : inserted arrived 3 4 ended 1s (here 2) (event 1s Clear 1) ≡ Err BadEnd

examples : Examples
unfolding inserted inserted_table gap same_event node_at put_floats put_numbers linked_to event_node split_fake add_behind split_at place_at sub lt of_bits
examples = record {
  gap_of_upper_j = refl;
  gap_below_upper_j = refl;
  other_kind = refl;
  other_link = refl;
  moved = refl;
  split_made = refl;
  split_node = refl;
  split_fake_lem = refl;
  split_event = refl;
  open_made = refl;
  open_node = refl;
  fake_not_followed = refl;
  fake_passed = refl;
  full = refl;
  full_at_end = refl;
  full_at_split = refl;
  at_end = refl;
}
