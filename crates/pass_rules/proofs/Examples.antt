-- Node tables through the checks and both passes by the definition, computed: row 15's example and small random ones (harness/generator's tables, seed 5, by their number), of which each shows another way to end.
-- The answers are those of harness/reference, all fields of all nodes, or a refusal's number. A node's time is checked and then read as untimed, so it stands here as 0.
use mathlib.Core.Path.{◌≡◌, refl}
use mathlib.Core.List.{List, [], ◌∷◌}
use Prim.Native.Nat.{ℕ, zero, suc, ◌/◌}
use lib.ListN.{length, get_or, drop}
use lib.Ieee.{Float, binary64, of_bits, to_bits, add, sub, lt, le, eq, round, sum, is_nan, neg}
use Rattle.net_node.specs.declared.EstTime.{EstTime}
use Rattle.net_node.specs.Table.{kind_number, kind_of, Table, table_of, at, set_time, set_next, set_prev, set_arc}
use Rattle.net_node.specs.Table.{blank, with_time, with_arc, with_speed, with_event, with_next, with_next_alt, with_prev, with_prev_alt}
use Rattle.laws.specs.Answer.{Answer, refused, given}
use Rattle.laws.specs.Below.{some_below}
use Rattle.net_node.specs.Table.{node_at}
use Rattle.pass_queue.specs.Queue.{by_bits, before_forward, before_backward, before, best, others}
use Rattle.pass_rules.specs.Passes.{some_left, all_zero, passes}
use Rattle.pass_rules.specs.Checks.{prev_holds, next_holds, fake_holds, prev_leads, next_leads, not_both_alternates, node_holds, row14}
use Rattle.pass_rules.specs.Net.{also_done}
use Rattle.pass_rules.specs.Forward as Forward
use Rattle.pass_rules.specs.Backward as Backward

abbrev row : EstTime → List ℕ → List ℕ
row n rest = kind_number n.link_event.est_type ∷ n.link_event.link_idx ∷ n.idx_next ∷ n.idx_next_alt ∷ n.idx_prev ∷ n.idx_prev_alt ∷ to_bits binary64 n.time_sched ∷ to_bits binary64 n.time_to_next ∷ to_bits binary64 n.dist_to_next ∷ to_bits binary64 n.speed ∷ rest

abbrev rows : ℕ → Table → ℕ → List ℕ
rows zero t i = []
rows (suc k) t i = row (at t i) (rows k t (suc i))

abbrev summary : ℕ → Answer Table → List ℕ
summary n (refused m) = m ∷ []
summary n (given t) = rows n t 0

-- the k-th of a node's floats, by its bits
abbrev float : List ℕ → ℕ → Float
float fs k = of_bits binary64 (get_or fs k 0)

-- so many nodes, of which the reference has four floats and six numbers each
abbrev nodes : ℕ → List ℕ → List ℕ → List EstTime
nodes zero fs us = []
nodes (suc k) fs us =
    with_prev_alt (with_prev (with_next_alt (with_next (with_event (with_speed (with_arc (with_time blank (float fs 0)) (float fs 1) (float fs 2)) (float fs 3))
    (record { link_idx = get_or us 4 0; est_type = kind_of (get_or us 5 0) })) (get_or us 0 0)) (get_or us 1 0)) (get_or us 2 0)) (get_or us 3 0)
    ∷ nodes k (drop 4 fs) (drop 6 us)

abbrev table : List ℕ → List ℕ → Table
table fs us = table_of (nodes (length fs / 4) fs us)

-- nothing is relinked
table0 : summary 8 (passes (table (0 ∷ 0 ∷ 0 ∷ 0 ∷ 0 ∷ 0 ∷ 0 ∷ 0 ∷ 0 ∷ 0 ∷ 0 ∷ 0 ∷ 0 ∷ 4633218854145753088 ∷ 4624070917402656768 ∷ 0 ∷ 0 ∷ 0 ∷ 0 ∷ 4611686018427387904 ∷
    0 ∷ 0 ∷ 0 ∷ 4611686018427387904 ∷ 0 ∷ 0 ∷ 0 ∷ 0 ∷ 0 ∷ 0 ∷ 0 ∷ 0 ∷ []) (1 ∷ 0 ∷ 0 ∷ 0 ∷ 0 ∷ 2 ∷ 2 ∷ 0 ∷ 0 ∷ 0 ∷ 0 ∷ 2 ∷ 3 ∷ 0 ∷ 1 ∷ 0 ∷ 1 ∷ 0 ∷ 4 ∷ 0 ∷ 2 ∷ 0 ∷ 1 ∷ 1 ∷ 5 ∷ 0 ∷ 3 ∷ 0 ∷ 2 ∷ 0 ∷ 6 ∷ 0 ∷ 4 ∷ 0 ∷ 2 ∷ 1 ∷ 7 ∷ 0 ∷ 5 ∷ 0 ∷ 0 ∷ 2 ∷ 0 ∷ 0 ∷ 6 ∷ 0 ∷ 0 ∷ 2 ∷ [])) 8 (of_bits binary64 13856309416023818240)) ≡ 2 ∷ 0 ∷ 1 ∷ 0 ∷ 0 ∷ 0 ∷ 13856309416023818240 ∷ 0 ∷ 0 ∷ 0 ∷ 2 ∷ 0 ∷ 2 ∷ 0 ∷ 0 ∷ 0 ∷ 13856309416023818240 ∷ 0 ∷ 0 ∷ 0 ∷ 0 ∷ 1 ∷ 3 ∷ 0 ∷ 1 ∷ 0 ∷ 13856309416023818240 ∷ 0 ∷ 0 ∷ 0 ∷ 1 ∷ 1 ∷ 4 ∷ 0 ∷ 2 ∷ 0 ∷ 13856309416023818240 ∷ 4633218854145753088 ∷ 4624070917402656768 ∷ 0 ∷
    0 ∷ 2 ∷ 5 ∷ 0 ∷ 3 ∷ 0 ∷ 4611686018427387904 ∷ 0 ∷ 0 ∷ 4611686018427387904 ∷ 1 ∷ 2 ∷ 6 ∷ 0 ∷ 4 ∷ 0 ∷ 4611686018427387904 ∷ 0 ∷ 0 ∷ 4611686018427387904 ∷ 2 ∷ 0 ∷ 7 ∷ 0 ∷ 5 ∷ 0 ∷ 4611686018427387904 ∷ 0 ∷ 0 ∷ 0 ∷ 2 ∷ 0 ∷ 0 ∷ 0 ∷ 6 ∷ 0 ∷ 4611686018427387904 ∷ 0 ∷ 0 ∷ 0 ∷ []
unfolding some_below node_at at by_bits before_forward before_backward before best others some_left all_zero passes prev_holds next_holds fake_holds prev_leads next_leads not_both_alternates node_holds row14 also_done set_time set_next set_prev set_arc Forward.time_next Forward.enqueue Forward.timed Forward.is_passable Forward.relink_walk Forward.swap_join Forward.relinked Forward.step_on Forward.step Forward.stops_at Forward.strand Forward.settle Forward.turn Forward.turns Forward.forward Backward.enqueue Backward.passed Backward.is_passable Backward.relink_walk Backward.swap_split Backward.relinked Backward.step_on Backward.step Backward.stops_at Backward.strand Backward.settle Backward.turn Backward.turns Backward.last_two Backward.backward of_bits to_bits add sub lt le eq round sum is_nan neg
table0 = refl

-- 4 nodes have another next or previous afterwards
table2 : summary 14 (passes (table (0 ∷ 0 ∷ 4616471093031469056 ∷ 4598175219545276416 ∷ 0 ∷ 0 ∷ 4617034042984890368 ∷ 4620130267728707584 ∷ 0 ∷ 0 ∷ 4619004367821864960 ∷ 0 ∷ 0 ∷ 0 ∷ 4602678819172646912 ∷ 4616189618054758400 ∷ 0 ∷ 0 ∷ 4620411742705418240 ∷ 4611686018427387904 ∷
    0 ∷ 0 ∷ 4617034042984890368 ∷ 4621537642612260864 ∷ 0 ∷ 0 ∷ 4607182418800017408 ∷ 4612811918334230528 ∷ 0 ∷ 0 ∷ 4618722892845154304 ∷ 4615626668101337088 ∷ 0 ∷ 0 ∷ 4619567317775286272 ∷ 4602678819172646912 ∷ 0 ∷ 0 ∷ 4619848792751996928 ∷ 4614500768194494464 ∷
    0 ∷ 0 ∷ 4611686018427387904 ∷ 4602678819172646912 ∷ 0 ∷ 0 ∷ 4620693217682128896 ∷ 0 ∷ 0 ∷ 0 ∷ 4617034042984890368 ∷ 4619285842798575616 ∷ 0 ∷ 0 ∷ 4620693217682128896 ∷ 4619004367821864960 ∷ []) (1 ∷ 0 ∷ 0 ∷ 0 ∷ 0 ∷ 2 ∷ 2 ∷ 5 ∷ 0 ∷ 0 ∷ 0 ∷ 2 ∷ 3 ∷ 0 ∷ 1 ∷ 0 ∷ 3 ∷ 1 ∷ 4 ∷ 0 ∷ 2 ∷ 0 ∷ 3 ∷ 0 ∷ 12 ∷ 0 ∷ 3 ∷ 8 ∷ 6 ∷ 0 ∷ 6 ∷ 9 ∷ 1 ∷ 0 ∷ 0 ∷ 2 ∷ 7 ∷ 0 ∷ 5 ∷ 0 ∷ 9 ∷ 0 ∷ 8 ∷ 0 ∷ 6 ∷ 11 ∷ 6 ∷ 0 ∷ 4 ∷ 0 ∷ 7 ∷ 0 ∷ 0 ∷ 2 ∷ 10 ∷ 0 ∷ 5 ∷ 0 ∷ 0 ∷ 2 ∷
    11 ∷ 0 ∷ 9 ∷ 0 ∷ 6 ∷ 1 ∷ 7 ∷ 0 ∷ 10 ∷ 0 ∷ 0 ∷ 2 ∷ 13 ∷ 0 ∷ 4 ∷ 0 ∷ 0 ∷ 2 ∷ 0 ∷ 0 ∷ 12 ∷ 0 ∷ 0 ∷ 2 ∷ [])) 14 (of_bits binary64 4634696597773484032)) ≡ 2 ∷ 0 ∷ 1 ∷ 0 ∷ 0 ∷ 0 ∷ 4634696597773484032 ∷ 0 ∷ 4616471093031469056 ∷ 4598175219545276416 ∷ 2 ∷ 0 ∷ 2 ∷ 5 ∷ 0 ∷ 0 ∷ 4634696597773484032 ∷ 0 ∷ 4617034042984890368 ∷ 4620130267728707584 ∷ 1 ∷ 3 ∷ 3 ∷ 0 ∷ 1 ∷ 0 ∷ 4634696597773484032 ∷ 0 ∷ 4619004367821864960 ∷ 0 ∷ 0 ∷ 3 ∷ 4 ∷ 0 ∷ 2 ∷ 0 ∷ 4634696597773484032 ∷ 0 ∷ 4602678819172646912 ∷ 4616189618054758400 ∷
    0 ∷ 6 ∷ 12 ∷ 0 ∷ 3 ∷ 8 ∷ 4634696597773484032 ∷ 0 ∷ 4620411742705418240 ∷ 4611686018427387904 ∷ 2 ∷ 0 ∷ 10 ∷ 9 ∷ 1 ∷ 0 ∷ 4634696597773484032 ∷ 0 ∷ 4619848792751996928 ∷ 4621537642612260864 ∷ 0 ∷ 9 ∷ 7 ∷ 0 ∷ 9 ∷ 0 ∷ 4634696597773484032 ∷ 0 ∷ 4607182418800017408 ∷ 4612811918334230528 ∷ 0 ∷ 6 ∷ 8 ∷ 0 ∷ 6 ∷ 11 ∷ 4634696597773484032 ∷ 0 ∷ 4618722892845154304 ∷ 4615626668101337088 ∷
    2 ∷ 0 ∷ 4 ∷ 0 ∷ 7 ∷ 0 ∷ 4634696597773484032 ∷ 0 ∷ 4619567317775286272 ∷ 4602678819172646912 ∷ 2 ∷ 0 ∷ 6 ∷ 0 ∷ 5 ∷ 0 ∷ 4634696597773484032 ∷ 0 ∷ 4617034042984890368 ∷ 4614500768194494464 ∷ 1 ∷ 6 ∷ 11 ∷ 0 ∷ 5 ∷ 0 ∷ 4634696597773484032 ∷ 0 ∷ 4611686018427387904 ∷ 4602678819172646912 ∷ 2 ∷ 0 ∷ 7 ∷ 0 ∷ 10 ∷ 0 ∷ 4634696597773484032 ∷ 0 ∷ 4620693217682128896 ∷ 0 ∷
    2 ∷ 0 ∷ 13 ∷ 0 ∷ 4 ∷ 0 ∷ 4634696597773484032 ∷ 0 ∷ 4617034042984890368 ∷ 4619285842798575616 ∷ 2 ∷ 0 ∷ 0 ∷ 0 ∷ 12 ∷ 0 ∷ 4634696597773484032 ∷ 0 ∷ 4620693217682128896 ∷ 4619004367821864960 ∷ []
unfolding some_below node_at at by_bits before_forward before_backward before best others some_left all_zero passes prev_holds next_holds fake_holds prev_leads next_leads not_both_alternates node_holds row14 also_done set_time set_next set_prev set_arc Forward.time_next Forward.enqueue Forward.timed Forward.is_passable Forward.relink_walk Forward.swap_join Forward.relinked Forward.step_on Forward.step Forward.stops_at Forward.strand Forward.settle Forward.turn Forward.turns Forward.forward Backward.enqueue Backward.passed Backward.is_passable Backward.relink_walk Backward.swap_split Backward.relinked Backward.step_on Backward.step Backward.stops_at Backward.strand Backward.settle Backward.turn Backward.turns Backward.last_two Backward.backward of_bits to_bits add sub lt le eq round sum is_nan neg
table2 = refl

-- refused with 16
table6 : summary 14 (passes (table (0 ∷ 0 ∷ 4617315517961601024 ∷ 4620974692658839552 ∷ 0 ∷ 0 ∷ 4611686018427387904 ∷ 4621396905123905536 ∷ 0 ∷ 0 ∷ 4621396905123905536 ∷ 4609434218613702656 ∷ 0 ∷ 0 ∷ 4613374868287651840 ∷ 4619285842798575616 ∷ 0 ∷ 0 ∷ 4598175219545276416 ∷ 4611686018427387904 ∷
    0 ∷ 0 ∷ 4609434218613702656 ∷ 4598175219545276416 ∷ 0 ∷ 0 ∷ 4621396905123905536 ∷ 4613374868287651840 ∷ 0 ∷ 0 ∷ 4620130267728707584 ∷ 4621115430147194880 ∷ 0 ∷ 0 ∷ 4612248968380809216 ∷ 4615626668101337088 ∷ 0 ∷ 0 ∷ 4617315517961601024 ∷ 4614500768194494464 ∷
    0 ∷ 0 ∷ 4621256167635550208 ∷ 4609434218613702656 ∷ 0 ∷ 0 ∷ 4620833955170484224 ∷ 4619567317775286272 ∷ 0 ∷ 0 ∷ 4612248968380809216 ∷ 4619285842798575616 ∷ 0 ∷ 0 ∷ 4620833955170484224 ∷ 4620130267728707584 ∷ []) (1 ∷ 0 ∷ 0 ∷ 0 ∷ 0 ∷ 2 ∷ 2 ∷ 6 ∷ 0 ∷ 0 ∷ 0 ∷ 2 ∷ 3 ∷ 0 ∷ 1 ∷ 0 ∷ 9 ∷ 0 ∷ 4 ∷ 0 ∷ 2 ∷ 0 ∷ 9 ∷ 0 ∷ 5 ∷ 0 ∷ 3 ∷ 0 ∷ 7 ∷ 0 ∷ 12 ∷ 0 ∷ 4 ∷ 11 ∷ 5 ∷ 0 ∷ 7 ∷ 0 ∷ 1 ∷ 0 ∷ 0 ∷ 2 ∷ 8 ∷ 0 ∷ 6 ∷ 0 ∷ 4 ∷ 1 ∷ 9 ∷ 0 ∷ 7 ∷ 0 ∷ 2 ∷ 0 ∷ 10 ∷ 0 ∷ 8 ∷ 0 ∷ 1 ∷ 0 ∷
    11 ∷ 0 ∷ 9 ∷ 0 ∷ 8 ∷ 0 ∷ 5 ∷ 0 ∷ 10 ∷ 0 ∷ 0 ∷ 2 ∷ 13 ∷ 0 ∷ 5 ∷ 0 ∷ 0 ∷ 2 ∷ 0 ∷ 0 ∷ 12 ∷ 0 ∷ 0 ∷ 2 ∷ [])) 14 (of_bits binary64 9223372036854775808)) ≡ 16 ∷ []
unfolding some_below node_at at by_bits before_forward before_backward before best others some_left all_zero passes prev_holds next_holds fake_holds prev_leads next_leads not_both_alternates node_holds row14 also_done set_time set_next set_prev set_arc Forward.time_next Forward.enqueue Forward.timed Forward.is_passable Forward.relink_walk Forward.swap_join Forward.relinked Forward.step_on Forward.step Forward.stops_at Forward.strand Forward.settle Forward.turn Forward.turns Forward.forward Backward.enqueue Backward.passed Backward.is_passable Backward.relink_walk Backward.swap_split Backward.relinked Backward.step_on Backward.step Backward.stops_at Backward.strand Backward.settle Backward.turn Backward.turns Backward.last_two Backward.backward of_bits to_bits add sub lt le eq round sum is_nan neg
table6 = refl

-- refused with 15
table8 : summary 8 (passes (table (0 ∷ 0 ∷ 0 ∷ 0 ∷ 0 ∷ 0 ∷ 0 ∷ 0 ∷ 0 ∷ 0 ∷ 0 ∷ 0 ∷ 0 ∷ 0 ∷ 4624070917402656768 ∷ 0 ∷ 0 ∷ 4611686018427387904 ∷ 0 ∷ 4611686018427387904 ∷
    0 ∷ 0 ∷ 0 ∷ 4611686018427387904 ∷ 0 ∷ 0 ∷ 0 ∷ 0 ∷ 0 ∷ 4616189618054758400 ∷ 0 ∷ 0 ∷ []) (1 ∷ 0 ∷ 0 ∷ 0 ∷ 0 ∷ 2 ∷ 2 ∷ 0 ∷ 0 ∷ 0 ∷ 0 ∷ 2 ∷ 3 ∷ 0 ∷ 1 ∷ 0 ∷ 1 ∷ 0 ∷ 4 ∷ 0 ∷ 2 ∷ 0 ∷ 1 ∷ 1 ∷ 6 ∷ 0 ∷ 3 ∷ 0 ∷ 2 ∷ 0 ∷ 5 ∷ 0 ∷ 5 ∷ 0 ∷ 2 ∷ 1 ∷ 7 ∷ 0 ∷ 4 ∷ 0 ∷ 0 ∷ 2 ∷ 0 ∷ 0 ∷ 6 ∷ 0 ∷ 0 ∷ 2 ∷ [])) 8 (of_bits binary64 4634344754052595712)) ≡ 15 ∷ []
unfolding some_below node_at at by_bits before_forward before_backward before best others some_left all_zero passes prev_holds next_holds fake_holds prev_leads next_leads not_both_alternates node_holds row14 also_done set_time set_next set_prev set_arc Forward.time_next Forward.enqueue Forward.timed Forward.is_passable Forward.relink_walk Forward.swap_join Forward.relinked Forward.step_on Forward.step Forward.stops_at Forward.strand Forward.settle Forward.turn Forward.turns Forward.forward Backward.enqueue Backward.passed Backward.is_passable Backward.relink_walk Backward.swap_split Backward.relinked Backward.step_on Backward.step Backward.stops_at Backward.strand Backward.settle Backward.turn Backward.turns Backward.last_two Backward.backward of_bits to_bits add sub lt le eq round sum is_nan neg
table8 = refl

-- refused with 14
table24 : summary 8 (passes (table (0 ∷ 0 ∷ 0 ∷ 0 ∷ 0 ∷ 0 ∷ 0 ∷ 0 ∷ 0 ∷ 0 ∷ 0 ∷ 0 ∷ 0 ∷ 4633218854145753088 ∷ 4624070917402656768 ∷ 0 ∷ 0 ∷ 0 ∷ 0 ∷ 4611686018427387904 ∷
    0 ∷ 0 ∷ 0 ∷ 4611686018427387904 ∷ 0 ∷ 0 ∷ 0 ∷ 0 ∷ 0 ∷ 0 ∷ 0 ∷ 0 ∷ []) (1 ∷ 0 ∷ 3 ∷ 0 ∷ 0 ∷ 2 ∷ 2 ∷ 0 ∷ 0 ∷ 0 ∷ 0 ∷ 2 ∷ 3 ∷ 0 ∷ 1 ∷ 0 ∷ 1 ∷ 0 ∷ 4 ∷ 0 ∷ 2 ∷ 0 ∷ 1 ∷ 1 ∷ 5 ∷ 0 ∷ 0 ∷ 0 ∷ 2 ∷ 0 ∷ 6 ∷ 0 ∷ 4 ∷ 0 ∷ 2 ∷ 1 ∷ 7 ∷ 0 ∷ 5 ∷ 0 ∷ 0 ∷ 2 ∷ 0 ∷ 0 ∷ 6 ∷ 0 ∷ 0 ∷ 2 ∷ [])) 8 (of_bits binary64 4648638405213683712)) ≡ 14 ∷ []
unfolding some_below node_at at by_bits before_forward before_backward before best others some_left all_zero passes prev_holds next_holds fake_holds prev_leads next_leads not_both_alternates node_holds row14 also_done set_time set_next set_prev set_arc Forward.time_next Forward.enqueue Forward.timed Forward.is_passable Forward.relink_walk Forward.swap_join Forward.relinked Forward.step_on Forward.step Forward.stops_at Forward.strand Forward.settle Forward.turn Forward.turns Forward.forward Backward.enqueue Backward.passed Backward.is_passable Backward.relink_walk Backward.swap_split Backward.relinked Backward.step_on Backward.step Backward.stops_at Backward.strand Backward.settle Backward.turn Backward.turns Backward.last_two Backward.backward of_bits to_bits add sub lt le eq round sum is_nan neg
table24 = refl

-- 9 nodes have another next or previous afterwards
table146 : summary 12 (passes (table (0 ∷ 4616189618054758400 ∷ 4607182418800017408 ∷ 4617315517961601024 ∷ 0 ∷ 13830554455654793216 ∷ 4598175219545276416 ∷ 4621115430147194880 ∷ 0 ∷ 4611686018427387904 ∷ 4602678819172646912 ∷ 4614500768194494464 ∷ 0 ∷ 13835058055282163712 ∷ 4620411742705418240 ∷ 4618722892845154304 ∷ 0 ∷ 0 ∷ 4617034042984890368 ∷ 4620130267728707584 ∷
    0 ∷ 4607182418800017408 ∷ 4621396905123905536 ∷ 4615063718147915776 ∷ 0 ∷ 0 ∷ 4617315517961601024 ∷ 4609434218613702656 ∷ 0 ∷ 13839561654909534208 ∷ 4620130267728707584 ∷ 4613374868287651840 ∷ 0 ∷ 4613937818241073152 ∷ 0 ∷ 4604930618986332160 ∷ 0 ∷ 13839561654909534208 ∷ 4602678819172646912 ∷ 4609434218613702656 ∷
    0 ∷ 13837309855095848960 ∷ 4616471093031469056 ∷ 4618722892845154304 ∷ 0 ∷ 13830554455654793216 ∷ 4609434218613702656 ∷ 4620411742705418240 ∷ []) (1 ∷ 0 ∷ 0 ∷ 0 ∷ 0 ∷ 2 ∷ 2 ∷ 3 ∷ 0 ∷ 0 ∷ 0 ∷ 2 ∷ 10 ∷ 0 ∷ 1 ∷ 5 ∷ 2 ∷ 0 ∷ 4 ∷ 6 ∷ 1 ∷ 0 ∷ 0 ∷ 2 ∷ 5 ∷ 0 ∷ 3 ∷ 0 ∷ 1 ∷ 0 ∷ 2 ∷ 0 ∷ 4 ∷ 0 ∷ 0 ∷ 2 ∷ 7 ∷ 0 ∷ 3 ∷ 0 ∷ 0 ∷ 2 ∷ 8 ∷ 0 ∷ 6 ∷ 0 ∷ 3 ∷ 1 ∷ 9 ∷ 0 ∷ 7 ∷ 0 ∷ 1 ∷ 1 ∷ 10 ∷ 0 ∷ 8 ∷ 0 ∷ 0 ∷ 2 ∷
    11 ∷ 0 ∷ 2 ∷ 9 ∷ 0 ∷ 2 ∷ 0 ∷ 0 ∷ 10 ∷ 0 ∷ 0 ∷ 2 ∷ [])) 12 (of_bits binary64 13860038959465234432)) ≡ 2 ∷ 0 ∷ 1 ∷ 0 ∷ 0 ∷ 0 ∷ 13860038959465234432 ∷ 4616189618054758400 ∷ 4607182418800017408 ∷ 4617315517961601024 ∷ 2 ∷ 0 ∷ 7 ∷ 3 ∷ 0 ∷ 0 ∷ 13860038959465234432 ∷ 0 ∷ 4617315517961601024 ∷ 4621115430147194880 ∷ 0 ∷ 2 ∷ 9 ∷ 0 ∷ 3 ∷ 5 ∷ 13860250065697767424 ∷ 4611686018427387904 ∷ 4602678819172646912 ∷ 4614500768194494464 ∷ 2 ∷ 0 ∷ 2 ∷ 6 ∷ 1 ∷ 0 ∷ 13860179696953589760 ∷ 13830554455654793216 ∷ 4598175219545276416 ∷ 4618722892845154304 ∷
    0 ∷ 1 ∷ 5 ∷ 0 ∷ 6 ∷ 0 ∷ 13860250065697767424 ∷ 0 ∷ 4617034042984890368 ∷ 4620130267728707584 ∷ 2 ∷ 0 ∷ 2 ∷ 0 ∷ 4 ∷ 0 ∷ 13860250065697767424 ∷ 4607182418800017408 ∷ 4621396905123905536 ∷ 4615063718147915776 ∷ 2 ∷ 0 ∷ 4 ∷ 0 ∷ 3 ∷ 0 ∷ 13860109328209412096 ∷ 13835058055282163712 ∷ 4620411742705418240 ∷ 4609434218613702656 ∷ 1 ∷ 3 ∷ 8 ∷ 0 ∷ 1 ∷ 0 ∷ 13860038959465234432 ∷ 13839561654909534208 ∷ 4620130267728707584 ∷ 4613374868287651840 ∷
    1 ∷ 1 ∷ 10 ∷ 0 ∷ 7 ∷ 0 ∷ 13860320434441945088 ∷ 4613937818241073152 ∷ 0 ∷ 4604930618986332160 ∷ 2 ∷ 0 ∷ 10 ∷ 0 ∷ 2 ∷ 0 ∷ 13860109328209412096 ∷ 13839561654909534208 ∷ 4602678819172646912 ∷ 4609434218613702656 ∷ 2 ∷ 0 ∷ 11 ∷ 0 ∷ 8 ∷ 9 ∷ 13860109328209412096 ∷ 13837309855095848960 ∷ 4616471093031469056 ∷ 4618722892845154304 ∷ 2 ∷ 0 ∷ 0 ∷ 0 ∷ 10 ∷ 0 ∷ 13860109328209412096 ∷ 13830554455654793216 ∷ 4609434218613702656 ∷ 4620411742705418240 ∷ []
unfolding some_below node_at at by_bits before_forward before_backward before best others some_left all_zero passes prev_holds next_holds fake_holds prev_leads next_leads not_both_alternates node_holds row14 also_done set_time set_next set_prev set_arc Forward.time_next Forward.enqueue Forward.timed Forward.is_passable Forward.relink_walk Forward.swap_join Forward.relinked Forward.step_on Forward.step Forward.stops_at Forward.strand Forward.settle Forward.turn Forward.turns Forward.forward Backward.enqueue Backward.passed Backward.is_passable Backward.relink_walk Backward.swap_split Backward.relinked Backward.step_on Backward.step Backward.stops_at Backward.strand Backward.settle Backward.turn Backward.turns Backward.last_two Backward.backward of_bits to_bits add sub lt le eq round sum is_nan neg
table146 = refl

-- 5 nodes have another next or previous afterwards
table9300 : summary 13 (passes (table (0 ∷ 4617596992938311680 ∷ 4619848792751996928 ∷ 4617034042984890368 ∷ 0 ∷ 4608308318706860032 ∷ 4609434218613702656 ∷ 4621256167635550208 ∷ 0 ∷ 4621256167635550208 ∷ 4620974692658839552 ∷ 4616471093031469056 ∷ 0 ∷ 4620411742705418240 ∷ 4617878467915022336 ∷ 4616189618054758400 ∷ 0 ∷ 4621115430147194880 ∷ 4613374868287651840 ∷ 4621396905123905536 ∷
    0 ∷ 4619848792751996928 ∷ 4609434218613702656 ∷ 4618441417868443648 ∷ 0 ∷ 4617878467915022336 ∷ 4620693217682128896 ∷ 4616189618054758400 ∷ 0 ∷ 4614500768194494464 ∷ 4620974692658839552 ∷ 4610560118520545280 ∷ 0 ∷ 4602678819172646912 ∷ 4618159942891732992 ∷ 4621256167635550208 ∷ 0 ∷ 4613374868287651840 ∷ 4619004367821864960 ∷ 4621396905123905536 ∷
    0 ∷ 4617034042984890368 ∷ 4610560118520545280 ∷ 4602678819172646912 ∷ 0 ∷ 4617315517961601024 ∷ 4621537642612260864 ∷ 4619848792751996928 ∷ 0 ∷ 4616471093031469056 ∷ 4619004367821864960 ∷ 4607182418800017408 ∷ []) (1 ∷ 0 ∷ 0 ∷ 0 ∷ 0 ∷ 2 ∷ 2 ∷ 8 ∷ 0 ∷ 0 ∷ 0 ∷ 2 ∷ 3 ∷ 4 ∷ 1 ∷ 0 ∷ 1 ∷ 0 ∷ 11 ∷ 0 ∷ 2 ∷ 7 ∷ 1 ∷ 0 ∷ 5 ∷ 0 ∷ 2 ∷ 0 ∷ 0 ∷ 2 ∷ 6 ∷ 0 ∷ 4 ∷ 0 ∷ 1 ∷ 1 ∷ 9 ∷ 0 ∷ 5 ∷ 0 ∷ 1 ∷ 1 ∷ 3 ∷ 0 ∷ 8 ∷ 0 ∷ 0 ∷ 2 ∷ 7 ∷ 0 ∷ 1 ∷ 0 ∷ 0 ∷ 2 ∷ 10 ∷ 0 ∷ 6 ∷ 0 ∷ 1 ∷ 1 ∷
    11 ∷ 0 ∷ 9 ∷ 0 ∷ 0 ∷ 2 ∷ 12 ∷ 0 ∷ 3 ∷ 10 ∷ 0 ∷ 2 ∷ 0 ∷ 0 ∷ 11 ∷ 0 ∷ 0 ∷ 2 ∷ [])) 13 (of_bits binary64 9223372036854775808)) ≡ 2 ∷ 0 ∷ 1 ∷ 0 ∷ 0 ∷ 0 ∷ 9223372036854775808 ∷ 4617596992938311680 ∷ 4619848792751996928 ∷ 4617034042984890368 ∷ 2 ∷ 0 ∷ 3 ∷ 8 ∷ 0 ∷ 0 ∷ 9223372036854775808 ∷ 4602678819172646912 ∷ 4618159942891732992 ∷ 4621256167635550208 ∷ 0 ∷ 1 ∷ 7 ∷ 4 ∷ 8 ∷ 0 ∷ 13844346729513615360 ∷ 4621256167635550208 ∷ 4620974692658839552 ∷ 4616471093031469056 ∷ 0 ∷ 1 ∷ 11 ∷ 0 ∷ 1 ∷ 7 ∷ 4602678819172646912 ∷ 4620411742705418240 ∷ 4617878467915022336 ∷ 4616189618054758400 ∷
    2 ∷ 0 ∷ 5 ∷ 0 ∷ 2 ∷ 0 ∷ 13848568854164275200 ∷ 4621115430147194880 ∷ 4613374868287651840 ∷ 4621396905123905536 ∷ 1 ∷ 1 ∷ 6 ∷ 0 ∷ 4 ∷ 0 ∷ 13843220829606772736 ∷ 4619848792751996928 ∷ 4609434218613702656 ∷ 4618441417868443648 ∷ 1 ∷ 1 ∷ 9 ∷ 0 ∷ 5 ∷ 0 ∷ 0 ∷ 4617878467915022336 ∷ 4620693217682128896 ∷ 4616189618054758400 ∷ 2 ∷ 0 ∷ 3 ∷ 0 ∷ 2 ∷ 0 ∷ 4602678819172646912 ∷ 4614500768194494464 ∷ 4620974692658839552 ∷ 4610560118520545280 ∷
    2 ∷ 0 ∷ 2 ∷ 0 ∷ 1 ∷ 0 ∷ 13845050416955392000 ∷ 4608308318706860032 ∷ 4609434218613702656 ∷ 4621256167635550208 ∷ 1 ∷ 1 ∷ 10 ∷ 0 ∷ 6 ∷ 0 ∷ 4617878467915022336 ∷ 4613374868287651840 ∷ 4619004367821864960 ∷ 4621396905123905536 ∷ 2 ∷ 0 ∷ 11 ∷ 0 ∷ 9 ∷ 0 ∷ 4620833955170484224 ∷ 4617034042984890368 ∷ 4610560118520545280 ∷ 4602678819172646912 ∷ 2 ∷ 0 ∷ 12 ∷ 0 ∷ 3 ∷ 10 ∷ 4620833955170484224 ∷ 4617315517961601024 ∷ 4621537642612260864 ∷ 4619848792751996928 ∷
    2 ∷ 0 ∷ 0 ∷ 0 ∷ 11 ∷ 0 ∷ 4620833955170484224 ∷ 4616471093031469056 ∷ 4619004367821864960 ∷ 4607182418800017408 ∷ []
unfolding some_below node_at at by_bits before_forward before_backward before best others some_left all_zero passes prev_holds next_holds fake_holds prev_leads next_leads not_both_alternates node_holds row14 also_done set_time set_next set_prev set_arc Forward.time_next Forward.enqueue Forward.timed Forward.is_passable Forward.relink_walk Forward.swap_join Forward.relinked Forward.step_on Forward.step Forward.stops_at Forward.strand Forward.settle Forward.turn Forward.turns Forward.forward Backward.enqueue Backward.passed Backward.is_passable Backward.relink_walk Backward.swap_split Backward.relinked Backward.step_on Backward.step Backward.stops_at Backward.strand Backward.settle Backward.turn Backward.turns Backward.last_two Backward.backward of_bits to_bits add sub lt le eq round sum is_nan neg
table9300 = refl

-- refused with 14 by the last of the checks alone: a node is the alternate of both its neighbours
table2986 : summary 8 (passes (table (0 ∷ 0 ∷ 4615626668101337088 ∷ 4620411742705418240 ∷ 0 ∷ 0 ∷ 4616752568008179712 ∷ 4617596992938311680 ∷ 0 ∷ 0 ∷ 4617034042984890368 ∷ 4620130267728707584 ∷ 0 ∷ 0 ∷ 4613374868287651840 ∷ 4617034042984890368 ∷ 0 ∷ 0 ∷ 4618159942891732992 ∷ 4617596992938311680 ∷
    0 ∷ 0 ∷ 4607182418800017408 ∷ 4617596992938311680 ∷ 0 ∷ 0 ∷ 4621678380100616192 ∷ 4620693217682128896 ∷ 0 ∷ 0 ∷ 4617878467915022336 ∷ 4621537642612260864 ∷ []) (1 ∷ 0 ∷ 0 ∷ 0 ∷ 0 ∷ 2 ∷ 2 ∷ 3 ∷ 0 ∷ 0 ∷ 0 ∷ 2 ∷ 6 ∷ 0 ∷ 1 ∷ 5 ∷ 3 ∷ 0 ∷ 4 ∷ 0 ∷ 1 ∷ 0 ∷ 0 ∷ 2 ∷ 5 ∷ 5 ∷ 3 ∷ 0 ∷ 1 ∷ 0 ∷ 2 ∷ 0 ∷ 4 ∷ 0 ∷ 0 ∷ 2 ∷ 7 ∷ 0 ∷ 2 ∷ 0 ∷ 0 ∷ 2 ∷ 0 ∷ 0 ∷ 6 ∷ 0 ∷ 0 ∷ 2 ∷ [])) 8 (of_bits binary64 4651638343126158133)) ≡ 14 ∷ []
unfolding some_below node_at at by_bits before_forward before_backward before best others some_left all_zero passes prev_holds next_holds fake_holds prev_leads next_leads not_both_alternates node_holds row14 also_done set_time set_next set_prev set_arc Forward.time_next Forward.enqueue Forward.timed Forward.is_passable Forward.relink_walk Forward.swap_join Forward.relinked Forward.step_on Forward.step Forward.stops_at Forward.strand Forward.settle Forward.turn Forward.turns Forward.forward Backward.enqueue Backward.passed Backward.is_passable Backward.relink_walk Backward.swap_split Backward.relinked Backward.step_on Backward.step Backward.stops_at Backward.strand Backward.settle Backward.turn Backward.turns Backward.last_two Backward.backward of_bits to_bits add sub lt le eq round sum is_nan neg
table2986 = refl

-- row 15's example: 2 and 3 linked only to each other, 1 to 4 to 5
row15 : summary 6 (passes (table (0 ∷ 0 ∷ 0 ∷ 0 ∷ 0 ∷ 0 ∷ 0 ∷ 0 ∷ 0 ∷ 0 ∷ 0 ∷ 0 ∷ 0 ∷ 0 ∷ 0 ∷ 0 ∷ 0 ∷ 0 ∷ 0 ∷ 0 ∷
    0 ∷ 0 ∷ 0 ∷ 0 ∷ []) (1 ∷ 0 ∷ 0 ∷ 0 ∷ 0 ∷ 2 ∷ 4 ∷ 0 ∷ 0 ∷ 0 ∷ 0 ∷ 2 ∷ 3 ∷ 0 ∷ 3 ∷ 0 ∷ 1 ∷ 0 ∷ 2 ∷ 0 ∷ 2 ∷ 0 ∷ 1 ∷ 1 ∷ 5 ∷ 0 ∷ 1 ∷ 0 ∷ 0 ∷ 2 ∷ 0 ∷ 0 ∷ 4 ∷ 0 ∷ 0 ∷ 2 ∷ [])) 6 (of_bits binary64 4607182418800017408)) ≡ 15 ∷ []
unfolding some_below node_at at by_bits before_forward before_backward before best others some_left all_zero passes prev_holds next_holds fake_holds prev_leads next_leads not_both_alternates node_holds row14 also_done set_time set_next set_prev set_arc Forward.time_next Forward.enqueue Forward.timed Forward.is_passable Forward.relink_walk Forward.swap_join Forward.relinked Forward.step_on Forward.step Forward.stops_at Forward.strand Forward.settle Forward.turn Forward.turns Forward.forward Backward.enqueue Backward.passed Backward.is_passable Backward.relink_walk Backward.swap_split Backward.relinked Backward.step_on Backward.step Backward.stops_at Backward.strand Backward.settle Backward.turn Backward.turns Backward.last_two Backward.backward of_bits to_bits add sub lt le eq round sum is_nan neg
row15 = refl
