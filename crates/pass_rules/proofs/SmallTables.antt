-- Tables of a few nodes, made by hand so that one rule alone decides what becomes of them. What they give was worked
-- out along the source, and harness/reference and harness/plain answer the same.
use mathlib.Core.Path.{◌≡◌, refl}
use mathlib.Core.Bool.{false}
use mathlib.Core.List.{List, [], ◌∷◌}
use Prim.Native.Nat.{ℕ}
use lib.IntN.{pos}
use lib.Ieee.{Float, binary64, of_int, of_bits, add, sub, lt, le, eq, is_nan}
use Rattle.laws.specs.Answer.{Answer, refused, given}
use Rattle.laws.specs.Below.{some_below}
use Rattle.net_node.specs.declared.EstType.{EstType}
use Rattle.net_node.specs.declared.EstType.TheVariants.{Arrive, Clear, Fake}
use Rattle.net_node.specs.declared.EstTime.{EstTime}
use Rattle.net_node.specs.Table.{Table, table_of, at, node_at, blank, with_time, with_arc, with_event, with_next, with_next_alt, with_prev, with_prev_alt}
use Rattle.pass_queue.specs.Queue.{before, best, others}
use Rattle.pass_rules.specs.Passes.{passes}
use Rattle.pass_rules.specs.Checks.{node_holds, row14}
use Rattle.pass_rules.specs.Forward as Forward
use Rattle.pass_rules.specs.Backward as Backward

-- whole seconds or metres
abbrev whole : ℕ → Float
whole n = of_int binary64 (pos n)

-- a node: its kind and link; next, next alternative, previous and previous alternative; time, time and distance to next
abbrev node : EstType → ℕ → ℕ → ℕ → ℕ → ℕ → ℕ → ℕ → ℕ → EstTime
node kind link next next_alt prev prev_alt time time-to-next dist-to-next =
    with_prev_alt (with_prev (with_next_alt (with_next (with_event (with_arc (with_time blank (whole time)) (whole time-to-next) (whole dist-to-next)) (record { link_idx = link; est_type = kind })) next) next_alt) prev) prev_alt

-- One chain, 0 1 2 4 3 5. Forward times all of it. Backward starts from the node before the last by number, which is 4,
-- and so never passes node 3 behind it; none of its assertions fails.
abbrev unpassed : List EstTime
unpassed =
    node Fake 0 1 0 0 0 0 0 0
    ∷ node Fake 0 2 0 0 0 0 0 0
    ∷ node Arrive 1 4 0 1 0 0 1 0
    ∷ node Arrive 2 5 0 4 0 0 1 0
    ∷ node Clear 1 3 0 2 0 0 1 0
    ∷ node Fake 0 0 0 3 0 0 0 0
    ∷ []

-- nodes 5 and 7 are left open
abbrev split_with : EstTime → EstTime → List EstTime
split_with node5 node7 =
    node Fake 0 1 0 0 0 0 0 0
    ∷ node Fake 0 2 0 0 0 0 0 0
    ∷ node Arrive 1 3 4 1 0 0 5 50
    ∷ node Arrive 2 7 0 2 0 0 0 0
    ∷ node Fake 0 5 0 2 0 0 3 30
    ∷ node5
    ∷ node Fake 0 7 0 5 0 0 0 0
    ∷ node7
    ∷ node Fake 0 0 0 7 0 0 0 0
    ∷ []

-- Node 2 splits: 3 is reached from it after 5 s, 5 from its Fake 4 after 3 s; both are ends. Backward both are queued
-- at 13 s less the arc that leads to them, which stands at the node before: 3 at 8 s, 5 at 10 s. So 5 goes first, gets
-- node 2 as its previous, and 3 the Fake; 2 stays at 10 s, and the Fake comes to 8 s. By the nodes' own arcs, which are
-- 0, both would be queued at 13 s, and 3 would go first, since 2 s are to be taken off it.
abbrev split : List EstTime
split = split_with (node Arrive 3 6 0 4 0 0 0 0) (node Fake 0 8 0 3 6 0 0 0)

abbrev split_timed : List EstTime
split_timed =
    node Fake 0 1 0 0 0 10 0 0
    ∷ node Fake 0 2 0 0 0 10 0 0
    ∷ node Arrive 1 5 4 1 0 10 3 30
    ∷ node Arrive 2 6 0 4 0 13 0 0
    ∷ node Fake 0 3 0 2 0 8 5 50
    ∷ node Arrive 3 7 0 2 0 13 0 0
    ∷ node Fake 0 7 0 3 0 13 0 0
    ∷ node Fake 0 8 0 5 6 13 0 0
    ∷ node Fake 0 0 0 7 0 13 0 0
    ∷ []

-- Row 14, one check at a time. A chain of four nodes, of which the first and the last are left open:
abbrev chain : EstTime → EstTime → List EstTime
chain first last = first ∷ node Fake 0 2 0 0 0 0 1 0 ∷ node Arrive 1 3 0 1 0 0 1 0 ∷ last ∷ []

-- with these the checks hold
abbrev first : EstTime
first = node Fake 0 1 0 0 0 0 0 0

abbrev last : EstTime
last = node Fake 0 0 0 2 0 0 0 0

-- what the passes give, from 10 s on
abbrev chain_gives : EstTime → EstTime → Answer Table
chain_gives a z = passes (table_of (chain a z)) 4 (whole 10)

abbrev split_gives : EstTime → EstTime → Answer Table
split_gives node5 node7 = passes (table_of (split_with node5 node7)) 9 (whole 10)

record Row14 : Type 0 where
  chain_holds : row14 (at (table_of (chain first last))) 4 ≡ false
  split_holds : row14 (at (table_of split)) 9 ≡ false
  -- node 0 has a previous
  prev_of_zero : chain_gives (node Fake 0 1 0 2 0 0 0 0) last ≡ refused 14
  -- the last node has a next, itself
  next_of_last : chain_gives first (node Fake 0 3 0 2 0 0 0 0) ≡ refused 14
  -- node 0, its own previous, has an alternative, so that neither of its nexts is itself
  prev_leads_elsewhere : chain_gives (node Fake 0 1 3 0 0 0 0 0) last ≡ refused 14
  -- the Fake 6 leads to node 7, which has node 4 for its previous alternative
  next_led_elsewhere : split_gives (node Arrive 3 6 0 4 0 0 0 0) (node Fake 0 8 0 3 4 0 0 0) ≡ refused 14
  -- the Fake 7 has both alternatives
  fake_with_both : split_gives (node Arrive 3 6 0 4 0 0 0 0) (node Fake 0 8 7 3 6 0 0 0) ≡ refused 14
  -- node 6 is the next alternative of node 5 before it and the previous alternative of node 7 behind it
  both_alternates : split_gives (node Arrive 3 6 6 4 0 0 0 0) (node Fake 0 8 0 3 6 0 0 0) ≡ refused 14

row14_of : Row14
unfolding add sub lt le eq is_nan of_bits of_int some_below at node_at before best others node_holds row14 Forward.forward Backward.backward passes
row14_of = record {
  chain_holds = refl;
  split_holds = refl;
  prev_of_zero = refl;
  next_of_last = refl;
  prev_leads_elsewhere = refl;
  next_led_elsewhere = refl;
  fake_with_both = refl;
  both_alternates = refl;
}

-- Node 2, a Fake, leads back to node 1, and by its alternative to the end, node 3: forward stops at node 1 and never
-- times node 3. Backward would pass all four.
abbrev untimed : List EstTime
untimed =
    node Fake 0 1 0 0 0 0 0 0
    ∷ node Fake 0 2 0 0 2 0 2 0
    ∷ node Fake 0 1 3 1 0 0 0 0
    ∷ node Fake 0 0 0 2 0 0 0 0
    ∷ []

-- Node 1 leads to the Fake 2 by its next and by its alternative. Forward exchanges nexts: 1 leads to 4, and 3 to 2.
-- Backward comes from node 3, an alternative of 4, to node 2 and finds node 3 before it, which is passed and of which
-- node 2 is not the next alternative.
abbrev not_its_alternative : List EstTime
not_its_alternative =
    node Fake 0 1 0 0 0 0 3 0
    ∷ node Fake 0 2 2 0 0 0 2 0
    ∷ node Fake 0 3 0 1 3 0 1 0
    ∷ node Fake 0 4 0 2 0 0 1 0
    ∷ node Arrive 1 5 0 3 3 0 3 0
    ∷ node Fake 0 0 0 4 0 0 0 0
    ∷ []

-- Node 1 splits: by 2 and by 3, 4 and 5 to the end Fake 6. The alternatives 3 (of node 1) and 5 (of node 6) should be
-- Fakes; which kinds they have is left open.
abbrev two_ways : EstType → EstType → List EstTime
two_ways kind3 kind5 =
    node Fake 0 1 0 0 0 0 0 0
    ∷ node Fake 0 2 3 0 0 0 1 0
    ∷ node Arrive 1 6 0 1 0 0 0 0
    ∷ node kind3 0 4 0 1 0 0 3 0
    ∷ node Arrive 1 5 0 3 0 0 3 0
    ∷ node kind5 0 6 0 4 0 0 0 0
    ∷ node Fake 0 7 0 2 5 0 0 0
    ∷ node Fake 0 0 0 6 0 0 0 0
    ∷ []

-- by number: 0 where the passes give a table
abbrev refusal : Answer Table → ℕ
refusal (refused n) = n
refusal (given t) = 0

record SmallTables : Type 0 where
  both_fakes : refusal (passes (table_of (two_ways Fake Fake)) 8 (whole 10)) ≡ 0
  -- assertions: what comes to a timed node forward, or to a passed node backward, is a Fake
  asserted_fake_forward : refusal (passes (table_of (two_ways Fake Arrive)) 8 (whole 10)) ≡ 15
  asserted_fake_backward : refusal (passes (table_of (two_ways Arrive Fake)) 8 (whole 10)) ≡ 15
  -- row 15: "a node never timed", and an assertion of the backward pass
  never_timed : passes (table_of untimed) 4 (whole 10) ≡ refused 15
  asserted_alternative : passes (table_of not_its_alternative) 6 (whole 10) ≡ refused 15
  -- row 15: "a node .. never passed"
  never_passed : passes (table_of unpassed) 6 (whole 10) ≡ refused 15
  -- the time in the backward queue is taken off by the arc of the node before
  arc_of_base : passes (table_of split) 9 (whole 10) ≡ given (table_of split_timed)

small_tables : SmallTables
unfolding add sub lt le eq is_nan of_bits of_int some_below at node_at before best others node_holds row14 Forward.forward Backward.backward passes
small_tables = record {
  both_fakes = refl;
  asserted_fake_forward = refl;
  asserted_fake_backward = refl;
  never_timed = refl;
  asserted_alternative = refl;
  never_passed = refl;
  arc_of_base = refl;
}
