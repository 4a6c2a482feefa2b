-- Books grown by the definition, computed: document 01's worked book, row 9's example, and ten small random ones
-- (harness/generator, seed 77, by their number), of which each shows another way to end.
-- The answers are those of harness/reference (`reference grown`), all fields of all nodes but the time, which the
-- passes set; or a refusal's number.
use mathlib.Core.Path.{◌≡◌, refl}
use mathlib.Core.List.{List, [], ◌∷◌}
use Prim.Native.Nat.{ℕ, zero, suc, ◌*◌}
use Rattle.laws.specs.Answer.{Answer, refused, given}
use Rattle.net_node.specs.declared.EstTime.{EstTime}
use Rattle.net_node.specs.Table.{kind_number, Table, put, at, float_width, number_width}
use lib.ListN.{replicate}
use lib.Ieee.{binary64, of_bits, to_bits, of_int, add, sub, mul, div, lt, le, eq, round, sum, is_nan, neg}
use Rattle.book_format.proofs.SmallBooks as Small
use Rattle.grow_rules.specs.Run.{Arc}
use Rattle.grow_rules.specs.Growth.{Grown}
use Rattle.laws.specs.Below.{some_below, sum_below}
use Rattle.fields.specs.Fields.{u32_at, u64_at}
use Rattle.floats.specs.Floats.{billion, table_float, abs, gap, smaller}
use Rattle.root.specs.Root.{root_digits, whole_root, root_of, sqrt}
use Rattle.book_format.specs.Chains.{leg_below}
use Rattle.book_format.specs.Format.{join_bits, departure_bits, length_bits, links, origins_at_of, origins}
use Rattle.book_format.specs.Format.{destinations_at_of, destinations, legs_at_of, legs, samples_at_of, samples, end_of}
use Rattle.book_format.specs.Format.{sections_of, link_length, link_next, link_next_alt, link_prev, link_prev_alt}
use Rattle.book_format.specs.Format.{origin_link, origin_offset, origin_front, destination_link, leg_link, leg_parent}
use Rattle.book_format.specs.Format.{leg_samples, sample_time, sample_offset, sample_speed, first_sample, link_at}
use Rattle.book_format.specs.Format.{origin_at, leg_at, sample_from, sample_at, sample_patterns, head_patterns}
use Rattle.book_options.specs.Options.{member, origin_below, stacked, pushed, enter, search, options_of, in_set}
use Rattle.book_options.specs.Options.{kept_origins}
use Rattle.event_formula.specs.Event.{event_offset, clears, twice_ahead, speed_at, time_at, passing_at, bad_passing}
use Rattle.net_node.specs.Table.{same_kind, same_event, node_at, put_floats, put_numbers, no_link_event, blank}
use Rattle.event_walk.specs.Course.{course_of}
use Rattle.event_walk.specs.Walk.{first_beyond, start_back, start_front, start, offset_next, in_range, clears_next}
use Rattle.event_walk.specs.Walk.{emits, turned, turn, passed_as, passed_next, walk, turns_left, passed_from}
use Rattle.event_walk.specs.Walk.{points_passed, reaches_last, bad_point, some_bad, row11}
use Rattle.net_insertion.specs.Insertion.{matches, seek, linked_to, event_node, split_fake, add_behind, split_at}
use Rattle.net_insertion.specs.Insertion.{place_at, sought_in, inserted, inserted_table, flagged}
use Rattle.net_join_paths.specs.Entries.{entry, push}
use Rattle.net_strands.specs.Space.{alternatives, strand_from, strands, extended, extended_all}
use Rattle.net_event_map.specs.EventMap.{seen_in, nodes_from, event_nodes, last_of, arrive_at, clear_at}
use Rattle.net_joins.specs.Joins.{closer, closest_of, closest, chain_end, join_fake, join_at, joined_table, names}
use Rattle.net_joins.specs.Joins.{appended_all, appended, rebuilt, join_step}
use Rattle.grow_path.specs.Path.{legs_to, path_of, link_of, point_link, point_offset, leg_course, event_at, events_at}
use Rattle.grow_path.specs.Path.{leg_events}
use Rattle.grow_rules.specs.Growth.{fake_node, first_nodes, origin_event, origin_run, seek_leg, grow_origins}
use Rattle.grow_rules.specs.Growth.{bad_finish, finished_at, waiting, on_over, save_over, go_on, is_destination}
use Rattle.grow_rules.specs.Growth.{finishes, take_leg, drive, leads_to_end, end_fakes, last_node, grown_with, grow}
use Rattle.grow_rules.specs.Run.{arc_to, arc_to_end, added_to, moved_to, insert_event, joined_to, with_joins, run_event}
use Rattle.grow_rules.specs.Run.{run_events}

-- a node's kind, link, next, next alternative, previous, previous alternative, and the patterns of time to next,
-- distance to next and speed
abbrev idx : EstTime → List ℕ → List ℕ
idx n rest =
    kind_number n.link_event.est_type ∷ n.link_event.link_idx ∷ n.idx_next ∷ n.idx_next_alt ∷ n.idx_prev
    ∷ n.idx_prev_alt
    ∷ to_bits binary64 n.time_to_next ∷ to_bits binary64 n.dist_to_next ∷ to_bits binary64 n.speed ∷ rest

abbrev idxs : ℕ → Table → ℕ → List ℕ
idxs zero t i = []
idxs (suc k) t i = idx (at t i) (idxs k t (suc i))

-- nodes, added, splits, joined, finished, and the nodes; or the refusal
abbrev summary : Answer Grown → List ℕ
summary (refused n) = n ∷ []
summary (given g) = g.nodes ∷ g.added ∷ g.splits ∷ g.joined ∷ g.finished ∷ idxs g.nodes g.table 0

abbrev lent : ℕ → Table
lent n = record { floats = replicate (n * float_width) (of_bits binary64 0); numbers = replicate (n * number_width) 0 }

-- "A book and its listing": no pass relinks anything in it, so its links, times and distances to next are the listing's
abbrev worked : List ℕ
worked =
    0 ∷ 0 ∷ 0 ∷ 0 ∷ 0 ∷ 0 ∷ 240 ∷ 63 ∷ 0 ∷ 0 ∷ 0 ∷ 0 ∷ 0 ∷ 0 ∷ 0 ∷ 0 ∷ 0 ∷ 0 ∷ 0 ∷ 0 ∷ 0 ∷ 0 ∷ 36 ∷ 64 ∷ 3 ∷ 0 ∷ 0 ∷ 0
    ∷ 0 ∷ 0 ∷ 0 ∷ 0 ∷ 0 ∷ 0 ∷ 0 ∷ 0 ∷ 0 ∷ 0 ∷ 0 ∷ 0 ∷ 0 ∷ 0 ∷ 0 ∷ 0 ∷ 0 ∷ 0 ∷ 0 ∷ 0 ∷ 0 ∷ 0 ∷ 0 ∷ 0 ∷ 0 ∷ 0 ∷ 0 ∷ 0 ∷ 0
    ∷ 0 ∷ 40 ∷ 64 ∷
    2 ∷ 0 ∷ 0 ∷ 0 ∷ 0 ∷ 0 ∷ 0 ∷ 0 ∷ 0 ∷ 0 ∷ 0 ∷ 0 ∷ 0 ∷ 0 ∷ 0 ∷ 0 ∷ 0 ∷ 0 ∷ 0 ∷ 0 ∷ 0 ∷ 0 ∷ 89 ∷ 64 ∷ 0 ∷ 0 ∷ 0 ∷ 0 ∷ 0
    ∷ 0 ∷ 0 ∷ 0 ∷ 1 ∷ 0 ∷ 0 ∷ 0 ∷ 0 ∷ 0 ∷ 0 ∷ 0 ∷ 1 ∷ 0 ∷ 0 ∷ 0 ∷ 1 ∷ 0 ∷ 0 ∷ 0 ∷ 0 ∷ 0 ∷ 0 ∷ 0 ∷ 0 ∷ 0 ∷ 0 ∷ 0 ∷ 0
    ∷ 0 ∷ 0 ∷ 0 ∷
    1 ∷ 0 ∷ 0 ∷ 0 ∷ 2 ∷ 0 ∷ 0 ∷ 0 ∷ 2 ∷ 0 ∷ 0 ∷ 0 ∷ 1 ∷ 0 ∷ 0 ∷ 0 ∷ 0 ∷ 0 ∷ 0 ∷ 0 ∷ 1 ∷ 0 ∷ 0 ∷ 0 ∷ 2 ∷ 0 ∷ 0 ∷ 0 ∷ 1
    ∷ 0 ∷ 0 ∷ 0 ∷ 3 ∷ 0 ∷ 0 ∷ 0 ∷ 4 ∷ 0 ∷ 0 ∷ 0 ∷ 0 ∷ 0 ∷ 0 ∷ 0 ∷ 0 ∷ 0 ∷ 0 ∷ 0 ∷ 0 ∷ 0 ∷ 0 ∷ 0 ∷ 0 ∷ 0 ∷ 36 ∷ 64 ∷ 0
    ∷ 0 ∷ 0 ∷ 0 ∷
    0 ∷ 0 ∷ 0 ∷ 0 ∷ 0 ∷ 0 ∷ 0 ∷ 0 ∷ 0 ∷ 0 ∷ 0 ∷ 0 ∷ 0 ∷ 0 ∷ 0 ∷ 0 ∷ 0 ∷ 0 ∷ 36 ∷ 64 ∷ 0 ∷ 0 ∷ 0 ∷ 0 ∷ 0 ∷ 0 ∷ 0 ∷ 0 ∷ 0
    ∷ 0 ∷ 0 ∷ 0 ∷ 0 ∷ 0 ∷ 16 ∷ 64 ∷ 0 ∷ 0 ∷ 0 ∷ 0 ∷ 0 ∷ 0 ∷ 50 ∷ 64 ∷ 0 ∷ 0 ∷ 0 ∷ 0 ∷ 0 ∷ 0 ∷ 16 ∷ 64 ∷ 0 ∷ 0 ∷ 0 ∷ 0
    ∷ 0 ∷ 0 ∷ 32 ∷ 64
    ∷ 0 ∷ 0 ∷ 0 ∷ 0 ∷ 0 ∷ 0 ∷ 65 ∷ 64 ∷ 0 ∷ 0 ∷ 0 ∷ 0 ∷ 0 ∷ 0 ∷ 16 ∷ 64 ∷ []

-- it is the one that is put together from its sections
worked_sections : Small.worked ≡ worked
unfolding of_int to_bits
worked_sections = refl

worked_grown : summary (grow worked 8 (lent 8)) ≡ 8 ∷ 4 ∷ 0 ∷ 0 ∷ 1 ∷ 2 ∷ 0 ∷ 1 ∷ 0 ∷ 0 ∷ 0 ∷ 0 ∷ 0 ∷ 0 ∷ 2 ∷ 0 ∷ 2 ∷ 0
    ∷ 0 ∷ 0 ∷ 0 ∷ 0 ∷ 0 ∷ 0 ∷ 1 ∷ 3 ∷ 0 ∷ 1 ∷ 0 ∷ 0 ∷ 4621819117588971520 ∷ 0 ∷ 1 ∷ 1 ∷ 4 ∷ 0 ∷ 2 ∷ 0 ∷
    4611686018427387904 ∷ 4611686018427387904 ∷ 0 ∷ 0 ∷ 2 ∷ 5 ∷ 0 ∷ 3 ∷ 0 ∷ 4613937818241073152 ∷ 4621819117588971520
    ∷ 4611686018427387904 ∷ 1 ∷ 2 ∷ 6 ∷ 0 ∷ 4 ∷ 0 ∷ 0 ∷ 0 ∷ 4616189618054758400 ∷ 2
    ∷ 0 ∷ 7 ∷ 0 ∷ 5 ∷ 0 ∷ 0 ∷ 0 ∷ 0 ∷ 2 ∷ 0 ∷ 0 ∷ 0 ∷ 6 ∷ 0 ∷ 0 ∷ 0 ∷ 0 ∷ []
unfolding some_below sum_below u32_at u64_at billion table_float abs gap smaller root_digits whole_root root_of sqrt
    leg_below join_bits departure_bits length_bits links origins_at_of origins destinations_at_of destinations
    legs_at_of legs samples_at_of samples end_of sections_of link_length link_next link_next_alt link_prev
    link_prev_alt origin_link origin_offset origin_front destination_link leg_link leg_parent leg_samples
    sample_time sample_offset sample_speed first_sample link_at origin_at leg_at sample_from sample_at
    sample_patterns head_patterns member origin_below stacked pushed enter search options_of in_set kept_origins
    event_offset clears twice_ahead speed_at time_at passing_at bad_passing same_kind same_event node_at
    put_floats put_numbers no_link_event blank course_of first_beyond start_back start_front start offset_next
    in_range clears_next emits turned turn passed_as passed_next walk turns_left passed_from points_passed
    reaches_last bad_point some_bad row11 matches seek linked_to event_node split_fake put at add_behind split_at
    place_at sought_in inserted inserted_table flagged entry push alternatives strand_from strands extended
    extended_all seen_in nodes_from event_nodes last_of arrive_at clear_at closer closest_of closest chain_end
    join_fake join_at joined_table names appended_all appended rebuilt join_step legs_to path_of link_of
    point_link point_offset leg_course event_at events_at leg_events fake_node first_nodes origin_event origin_run
    seek_leg grow_origins bad_finish finished_at waiting on_over save_over go_on is_destination finishes take_leg
    drive leads_to_end end_fakes last_node grown_with grow arc_to arc_to_end added_to moved_to insert_event
    joined_to with_joins run_event run_events add sub mul div lt le eq of_bits round sum to_bits is_nan neg
worked_grown = refl

-- its noted arcs, the latest first: from, to (0: the end), and the patterns of time and distance, which stand at the
-- nodes of the listing
abbrev arcs : List Arc → List ℕ
arcs [] = []
arcs (a ∷ rest) = a.from ∷ a.to ∷ to_bits binary64 a.time ∷ to_bits binary64 a.distance ∷ arcs rest

abbrev noted_by : Answer Grown → List ℕ
noted_by (refused n) = n ∷ []
noted_by (given g) = arcs g.noted

worked_noted : noted_by (grow worked 8 (lent 8)) ≡ 5 ∷ 0 ∷ 0 ∷ 0 ∷ 4 ∷ 5 ∷ 4613937818241073152 ∷ 4621819117588971520 ∷ 3
    ∷ 4 ∷ 4611686018427387904 ∷ 4611686018427387904 ∷ 2 ∷ 3 ∷ 0 ∷ 4621819117588971520 ∷ 1 ∷ 2 ∷ 0 ∷ 0 ∷ []
unfolding some_below sum_below u32_at u64_at billion table_float abs gap smaller root_digits whole_root root_of sqrt
    leg_below join_bits departure_bits length_bits links origins_at_of origins destinations_at_of destinations
    legs_at_of legs samples_at_of samples end_of sections_of link_length link_next link_next_alt link_prev
    link_prev_alt origin_link origin_offset origin_front destination_link leg_link leg_parent leg_samples
    sample_time sample_offset sample_speed first_sample link_at origin_at leg_at sample_from sample_at
    sample_patterns head_patterns member origin_below stacked pushed enter search options_of in_set kept_origins
    event_offset clears twice_ahead speed_at time_at passing_at bad_passing same_kind same_event node_at
    put_floats put_numbers no_link_event blank course_of first_beyond start_back start_front start offset_next
    in_range clears_next emits turned turn passed_as passed_next walk turns_left passed_from points_passed
    reaches_last bad_point some_bad row11 matches seek linked_to event_node split_fake put at add_behind split_at
    place_at sought_in inserted inserted_table flagged entry push alternatives strand_from strands extended
    extended_all seen_in nodes_from event_nodes last_of arrive_at clear_at closer closest_of closest chain_end
    join_fake join_at joined_table names appended_all appended rebuilt join_step legs_to path_of link_of
    point_link point_offset leg_course event_at events_at leg_events fake_node first_nodes origin_event origin_run
    seek_leg grow_origins bad_finish finished_at waiting on_over save_over go_on is_destination finishes take_leg
    drive leads_to_end end_fakes last_node grown_with grow arc_to arc_to_end added_to moved_to insert_event
    joined_to with_joins run_event run_events add sub mul div lt le eq of_bits round sum to_bits is_nan neg
worked_noted = refl

-- row 9's example, a lone link as origin and destination: a run never finishes in its first leg
abbrev lone : List ℕ
lone =
    0 ∷ 0 ∷ 0 ∷ 0 ∷ 0 ∷ 0 ∷ 240 ∷ 63 ∷ 0 ∷ 0 ∷ 0 ∷ 0 ∷ 0 ∷ 0 ∷ 0 ∷ 0 ∷ 0 ∷ 0 ∷ 0 ∷ 0 ∷ 0 ∷ 0 ∷ 36 ∷ 64 ∷ 2 ∷ 0 ∷ 0 ∷ 0
    ∷ 0 ∷ 0 ∷ 0 ∷ 0 ∷ 0 ∷ 0 ∷ 0 ∷ 0 ∷ 0 ∷ 0 ∷ 0 ∷ 0 ∷ 0 ∷ 0 ∷ 0 ∷ 0 ∷ 0 ∷ 0 ∷ 0 ∷ 0 ∷ 0 ∷ 0 ∷ 0 ∷ 0 ∷ 0 ∷ 0 ∷ 0 ∷ 0 ∷ 0
    ∷ 0 ∷ 89 ∷ 64 ∷
    0 ∷ 0 ∷ 0 ∷ 0 ∷ 0 ∷ 0 ∷ 0 ∷ 0 ∷ 0 ∷ 0 ∷ 0 ∷ 0 ∷ 0 ∷ 0 ∷ 0 ∷ 0 ∷ 1 ∷ 0 ∷ 0 ∷ 0 ∷ 1 ∷ 0 ∷ 0 ∷ 0 ∷ 0 ∷ 0 ∷ 0 ∷ 0 ∷ 0
    ∷ 0 ∷ 0 ∷ 0 ∷ 0 ∷ 0 ∷ 0 ∷ 0 ∷ 1 ∷ 0 ∷ 0 ∷ 0 ∷ 1 ∷ 0 ∷ 0 ∷ 0 ∷ 1 ∷ 0 ∷ 0 ∷ 0 ∷ 1 ∷ 0 ∷ 0 ∷ 0 ∷ 0 ∷ 0 ∷ 0 ∷ 0 ∷ 1 ∷ 0
    ∷ 0 ∷ 0 ∷
    1 ∷ 0 ∷ 0 ∷ 0 ∷ 0 ∷ 0 ∷ 0 ∷ 0 ∷ 0 ∷ 0 ∷ 0 ∷ 0 ∷ 0 ∷ 0 ∷ 0 ∷ 0 ∷ 0 ∷ 0 ∷ 36 ∷ 64 ∷ 0 ∷ 0 ∷ 0 ∷ 0 ∷ 0 ∷ 0 ∷ 0 ∷ 0 ∷ []

lone_grown : summary (grow lone 8 (lent 8)) ≡ 9 ∷ []
unfolding some_below sum_below u32_at u64_at billion table_float abs gap smaller root_digits whole_root root_of sqrt
    leg_below join_bits departure_bits length_bits links origins_at_of origins destinations_at_of destinations
    legs_at_of legs samples_at_of samples end_of sections_of link_length link_next link_next_alt link_prev
    link_prev_alt origin_link origin_offset origin_front destination_link leg_link leg_parent leg_samples
    sample_time sample_offset sample_speed first_sample link_at origin_at leg_at sample_from sample_at
    sample_patterns head_patterns member origin_below stacked pushed enter search options_of in_set kept_origins
    event_offset clears twice_ahead speed_at time_at passing_at bad_passing same_kind same_event node_at
    put_floats put_numbers no_link_event blank course_of first_beyond start_back start_front start offset_next
    in_range clears_next emits turned turn passed_as passed_next walk turns_left passed_from points_passed
    reaches_last bad_point some_bad row11 matches seek linked_to event_node split_fake put at add_behind split_at
    place_at sought_in inserted inserted_table flagged entry push alternatives strand_from strands extended
    extended_all seen_in nodes_from event_nodes last_of arrive_at clear_at closer closest_of closest chain_end
    join_fake join_at joined_table names appended_all appended rebuilt join_step legs_to path_of link_of
    point_link point_offset leg_course event_at events_at leg_events fake_node first_nodes origin_event origin_run
    seek_leg grow_origins bad_finish finished_at waiting on_over save_over go_on is_destination finishes take_leg
    drive leads_to_end end_fakes last_node grown_with grow arc_to arc_to_end added_to moved_to insert_event
    joined_to with_joins run_event run_events add sub mul div lt le eq of_bits round sum to_bits is_nan neg
lone_grown = refl

-- refused with 9
abbrev book2 : List ℕ
book2 =
    0 ∷ 0 ∷ 0 ∷ 0 ∷ 0 ∷ 0 ∷ 20 ∷ 64 ∷ 0 ∷ 0 ∷ 0 ∷ 0 ∷ 0 ∷ 0 ∷ 0 ∷ 0 ∷ 0 ∷ 0 ∷ 0 ∷ 0 ∷ 0 ∷ 136 ∷ 163 ∷ 64 ∷ 6 ∷ 0 ∷ 0 ∷ 0
    ∷ 0 ∷ 0 ∷ 0 ∷ 0 ∷ 0 ∷ 0 ∷ 0 ∷ 0 ∷ 0 ∷ 0 ∷ 0 ∷ 0 ∷ 0 ∷ 0 ∷ 0 ∷ 0 ∷ 0 ∷ 0 ∷ 0 ∷ 0 ∷ 0 ∷ 0 ∷ 0 ∷ 0 ∷ 162 ∷ 230 ∷ 54
    ∷ 40 ∷ 151 ∷ 41 ∷ 130 ∷ 64 ∷
    2 ∷ 0 ∷ 0 ∷ 0 ∷ 5 ∷ 0 ∷ 0 ∷ 0 ∷ 0 ∷ 0 ∷ 0 ∷ 0 ∷ 0 ∷ 0 ∷ 0 ∷ 0 ∷ 162 ∷ 230 ∷ 54 ∷ 40 ∷ 151 ∷ 41 ∷ 130 ∷ 64 ∷ 4 ∷ 0
    ∷ 0 ∷ 0 ∷ 0 ∷ 0 ∷ 0 ∷ 0 ∷ 1 ∷ 0 ∷ 0 ∷ 0 ∷ 0 ∷ 0 ∷ 0 ∷ 0 ∷ 162 ∷ 230 ∷ 54 ∷ 40 ∷ 151 ∷ 41 ∷ 130 ∷ 64 ∷ 4 ∷ 0 ∷ 0 ∷ 0
    ∷ 5 ∷ 0 ∷ 0 ∷ 0 ∷ 2 ∷ 0 ∷ 0 ∷ 0 ∷
    0 ∷ 0 ∷ 0 ∷ 0 ∷ 162 ∷ 230 ∷ 54 ∷ 40 ∷ 151 ∷ 41 ∷ 130 ∷ 64 ∷ 5 ∷ 0 ∷ 0 ∷ 0 ∷ 0 ∷ 0 ∷ 0 ∷ 0 ∷ 2 ∷ 0 ∷ 0 ∷ 0 ∷ 3 ∷ 0
    ∷ 0 ∷ 0 ∷ 162 ∷ 230 ∷ 54 ∷ 40 ∷ 151 ∷ 41 ∷ 130 ∷ 64 ∷ 0 ∷ 0 ∷ 0 ∷ 0 ∷ 0 ∷ 0 ∷ 0 ∷ 0 ∷ 1 ∷ 0 ∷ 0 ∷ 0 ∷ 3 ∷ 0 ∷ 0 ∷ 0
    ∷ 1 ∷ 0 ∷ 0 ∷ 0 ∷ 1 ∷ 0 ∷ 0 ∷ 0 ∷
    0 ∷ 0 ∷ 0 ∷ 0 ∷ 0 ∷ 0 ∷ 0 ∷ 0 ∷ 0 ∷ 0 ∷ 0 ∷ 0 ∷ 1 ∷ 0 ∷ 0 ∷ 0 ∷ 5 ∷ 0 ∷ 0 ∷ 0 ∷ 3 ∷ 0 ∷ 0 ∷ 0 ∷ 1 ∷ 0 ∷ 0 ∷ 0 ∷ 0
    ∷ 0 ∷ 0 ∷ 0 ∷ 1 ∷ 0 ∷ 0 ∷ 0 ∷ 5 ∷ 0 ∷ 0 ∷ 0 ∷ 1 ∷ 0 ∷ 0 ∷ 0 ∷ 3 ∷ 0 ∷ 0 ∷ 0 ∷ 2 ∷ 0 ∷ 0 ∷ 0 ∷ 1 ∷ 0 ∷ 0 ∷ 0 ∷ 3 ∷ 0
    ∷ 0 ∷ 0 ∷
    7 ∷ 0 ∷ 0 ∷ 0 ∷ 0 ∷ 0 ∷ 0 ∷ 0 ∷ 0 ∷ 0 ∷ 0 ∷ 0 ∷ 198 ∷ 88 ∷ 252 ∷ 50 ∷ 139 ∷ 64 ∷ 128 ∷ 64 ∷ 0 ∷ 0 ∷ 0 ∷ 0 ∷ 0 ∷ 0
    ∷ 0 ∷ 64 ∷ 0 ∷ 0 ∷ 0 ∷ 0 ∷ 0 ∷ 0 ∷ 0 ∷ 0 ∷ 198 ∷ 88 ∷ 252 ∷ 50 ∷ 139 ∷ 64 ∷ 128 ∷ 64 ∷ 0 ∷ 0 ∷ 0 ∷ 0 ∷ 0 ∷ 0 ∷ 0
    ∷ 64 ∷ 16 ∷ 30 ∷ 33 ∷ 253 ∷ 198 ∷ 205 ∷ 89 ∷ 64 ∷
    74 ∷ 160 ∷ 68 ∷ 242 ∷ 252 ∷ 179 ∷ 134 ∷ 64 ∷ 0 ∷ 0 ∷ 0 ∷ 0 ∷ 0 ∷ 0 ∷ 0 ∷ 64 ∷ 233 ∷ 193 ∷ 89 ∷ 250 ∷ 94 ∷ 106 ∷ 94
    ∷ 64 ∷ 74 ∷ 160 ∷ 68 ∷ 242 ∷ 252 ∷ 179 ∷ 134 ∷ 64 ∷ 0 ∷ 0 ∷ 0 ∷ 0 ∷ 0 ∷ 0 ∷ 0 ∷ 64 ∷ 0 ∷ 0 ∷ 0 ∷ 0 ∷ 0 ∷ 0 ∷ 0 ∷ 0
    ∷ 198 ∷ 88 ∷ 252 ∷ 50 ∷ 139 ∷ 64 ∷ 128 ∷ 64 ∷ 0 ∷ 0 ∷ 0 ∷ 0 ∷
    0 ∷ 0 ∷ 0 ∷ 64 ∷ 74 ∷ 30 ∷ 31 ∷ 18 ∷ 2 ∷ 70 ∷ 19 ∷ 64 ∷ 198 ∷ 88 ∷ 252 ∷ 50 ∷ 139 ∷ 64 ∷ 128 ∷ 64 ∷ 0 ∷ 0 ∷ 0 ∷ 0
    ∷ 0 ∷ 0 ∷ 0 ∷ 64 ∷ 245 ∷ 15 ∷ 67 ∷ 30 ∷ 39 ∷ 2 ∷ 91 ∷ 64 ∷ 74 ∷ 160 ∷ 68 ∷ 242 ∷ 252 ∷ 179 ∷ 134 ∷ 64 ∷ 0 ∷ 0 ∷ 0
    ∷ 0 ∷ 0 ∷ 0 ∷ 0 ∷ 64 ∷ []

book2_grown : summary (grow book2 5 (lent 5)) ≡ 9 ∷ []
unfolding some_below sum_below u32_at u64_at billion table_float abs gap smaller root_digits whole_root root_of sqrt
    leg_below join_bits departure_bits length_bits links origins_at_of origins destinations_at_of destinations
    legs_at_of legs samples_at_of samples end_of sections_of link_length link_next link_next_alt link_prev
    link_prev_alt origin_link origin_offset origin_front destination_link leg_link leg_parent leg_samples
    sample_time sample_offset sample_speed first_sample link_at origin_at leg_at sample_from sample_at
    sample_patterns head_patterns member origin_below stacked pushed enter search options_of in_set kept_origins
    event_offset clears twice_ahead speed_at time_at passing_at bad_passing same_kind same_event node_at
    put_floats put_numbers no_link_event blank course_of first_beyond start_back start_front start offset_next
    in_range clears_next emits turned turn passed_as passed_next walk turns_left passed_from points_passed
    reaches_last bad_point some_bad row11 matches seek linked_to event_node split_fake put at add_behind split_at
    place_at sought_in inserted inserted_table flagged entry push alternatives strand_from strands extended
    extended_all seen_in nodes_from event_nodes last_of arrive_at clear_at closer closest_of closest chain_end
    join_fake join_at joined_table names appended_all appended rebuilt join_step legs_to path_of link_of
    point_link point_offset leg_course event_at events_at leg_events fake_node first_nodes origin_event origin_run
    seek_leg grow_origins bad_finish finished_at waiting on_over save_over go_on is_destination finishes take_leg
    drive leads_to_end end_fakes last_node grown_with grow arc_to arc_to_end added_to moved_to insert_event
    joined_to with_joins run_event run_events add sub mul div lt le eq of_bits round sum to_bits is_nan neg
book2_grown = refl

-- 0 splits, 0 joined, 1 finished
abbrev book6 : List ℕ
book6 =
    0 ∷ 0 ∷ 0 ∷ 0 ∷ 0 ∷ 0 ∷ 240 ∷ 63 ∷ 0 ∷ 0 ∷ 0 ∷ 0 ∷ 0 ∷ 0 ∷ 0 ∷ 0 ∷ 0 ∷ 0 ∷ 0 ∷ 0 ∷ 0 ∷ 0 ∷ 0 ∷ 0 ∷ 7 ∷ 0 ∷ 0 ∷ 0 ∷ 0
    ∷ 0 ∷ 0 ∷ 0 ∷ 0 ∷ 0 ∷ 0 ∷ 0 ∷ 0 ∷ 0 ∷ 0 ∷ 0 ∷ 0 ∷ 0 ∷ 0 ∷ 0 ∷ 0 ∷ 0 ∷ 0 ∷ 0 ∷ 0 ∷ 0 ∷ 0 ∷ 0 ∷ 0 ∷ 0 ∷ 0 ∷ 0 ∷ 0
    ∷ 0 ∷ 29 ∷ 64 ∷
    3 ∷ 0 ∷ 0 ∷ 0 ∷ 0 ∷ 0 ∷ 0 ∷ 0 ∷ 0 ∷ 0 ∷ 0 ∷ 0 ∷ 0 ∷ 0 ∷ 0 ∷ 0 ∷ 0 ∷ 0 ∷ 0 ∷ 0 ∷ 0 ∷ 0 ∷ 39 ∷ 64 ∷ 3 ∷ 0 ∷ 0 ∷ 0 ∷ 0
    ∷ 0 ∷ 0 ∷ 0 ∷ 1 ∷ 0 ∷ 0 ∷ 0 ∷ 0 ∷ 0 ∷ 0 ∷ 0 ∷ 0 ∷ 0 ∷ 0 ∷ 0 ∷ 0 ∷ 64 ∷ 50 ∷ 64 ∷ 4 ∷ 0 ∷ 0 ∷ 0 ∷ 0 ∷ 0 ∷ 0 ∷ 0 ∷ 1
    ∷ 0 ∷ 0 ∷ 0 ∷
    2 ∷ 0 ∷ 0 ∷ 0 ∷ 0 ∷ 0 ∷ 0 ∷ 0 ∷ 0 ∷ 192 ∷ 48 ∷ 64 ∷ 5 ∷ 0 ∷ 0 ∷ 0 ∷ 0 ∷ 0 ∷ 0 ∷ 0 ∷ 3 ∷ 0 ∷ 0 ∷ 0 ∷ 0 ∷ 0 ∷ 0 ∷ 0
    ∷ 0 ∷ 0 ∷ 0 ∷ 0 ∷ 0 ∷ 128 ∷ 48 ∷ 64 ∷ 6 ∷ 0 ∷ 0 ∷ 0 ∷ 0 ∷ 0 ∷ 0 ∷ 0 ∷ 4 ∷ 0 ∷ 0 ∷ 0 ∷ 0 ∷ 0 ∷ 0 ∷ 0 ∷ 0 ∷ 0 ∷ 0 ∷ 0
    ∷ 0 ∷ 0 ∷ 25 ∷ 64 ∷
    0 ∷ 0 ∷ 0 ∷ 0 ∷ 0 ∷ 0 ∷ 0 ∷ 0 ∷ 5 ∷ 0 ∷ 0 ∷ 0 ∷ 0 ∷ 0 ∷ 0 ∷ 0 ∷ 1 ∷ 0 ∷ 0 ∷ 0 ∷ 1 ∷ 0 ∷ 0 ∷ 0 ∷ 0 ∷ 0 ∷ 0 ∷ 0 ∷ 0
    ∷ 0 ∷ 0 ∷ 0 ∷ 0 ∷ 0 ∷ 0 ∷ 0 ∷ 1 ∷ 0 ∷ 0 ∷ 0 ∷ 6 ∷ 0 ∷ 0 ∷ 0 ∷ 5 ∷ 0 ∷ 0 ∷ 0 ∷ 1 ∷ 0 ∷ 0 ∷ 0 ∷ 0 ∷ 0 ∷ 0 ∷ 0 ∷ 2 ∷ 0
    ∷ 0 ∷ 0 ∷
    3 ∷ 0 ∷ 0 ∷ 0 ∷ 1 ∷ 0 ∷ 0 ∷ 0 ∷ 1 ∷ 0 ∷ 0 ∷ 0 ∷ 4 ∷ 0 ∷ 0 ∷ 0 ∷ 2 ∷ 0 ∷ 0 ∷ 0 ∷ 2 ∷ 0 ∷ 0 ∷ 0 ∷ 5 ∷ 0 ∷ 0 ∷ 0 ∷ 3
    ∷ 0 ∷ 0 ∷ 0 ∷ 2 ∷ 0 ∷ 0 ∷ 0 ∷ 6 ∷ 0 ∷ 0 ∷ 0 ∷ 4 ∷ 0 ∷ 0 ∷ 0 ∷ 2 ∷ 0 ∷ 0 ∷ 0 ∷ 9 ∷ 0 ∷ 0 ∷ 0 ∷ 0 ∷ 0 ∷ 0 ∷ 0 ∷ 0 ∷ 0
    ∷ 0 ∷ 0 ∷
    0 ∷ 0 ∷ 0 ∷ 0 ∷ 0 ∷ 0 ∷ 0 ∷ 0 ∷ 0 ∷ 0 ∷ 0 ∷ 0 ∷ 0 ∷ 0 ∷ 0 ∷ 0 ∷ 102 ∷ 102 ∷ 102 ∷ 102 ∷ 102 ∷ 102 ∷ 230 ∷ 63 ∷ 0 ∷ 0
    ∷ 0 ∷ 0 ∷ 0 ∷ 0 ∷ 252 ∷ 63 ∷ 0 ∷ 0 ∷ 0 ∷ 0 ∷ 0 ∷ 0 ∷ 20 ∷ 64 ∷ 102 ∷ 102 ∷ 102 ∷ 102 ∷ 102 ∷ 102 ∷ 230 ∷ 63 ∷ 0
    ∷ 0 ∷ 0 ∷ 0 ∷ 0 ∷ 0 ∷ 252 ∷ 63 ∷ 0 ∷ 0 ∷ 0 ∷ 0 ∷
    0 ∷ 0 ∷ 20 ∷ 64 ∷ 102 ∷ 102 ∷ 102 ∷ 102 ∷ 102 ∷ 102 ∷ 230 ∷ 63 ∷ 0 ∷ 0 ∷ 0 ∷ 0 ∷ 0 ∷ 0 ∷ 252 ∷ 63 ∷ 0 ∷ 0 ∷ 0 ∷ 0
    ∷ 0 ∷ 0 ∷ 20 ∷ 64 ∷ 154 ∷ 153 ∷ 153 ∷ 153 ∷ 153 ∷ 153 ∷ 5 ∷ 64 ∷ 0 ∷ 0 ∷ 0 ∷ 0 ∷ 0 ∷ 128 ∷ 39 ∷ 64 ∷ 0 ∷ 0 ∷ 0 ∷ 0
    ∷ 0 ∷ 0 ∷ 20 ∷ 64 ∷ 154 ∷ 153 ∷ 153 ∷ 153 ∷ 153 ∷ 153 ∷ 5 ∷ 64 ∷
    0 ∷ 0 ∷ 0 ∷ 0 ∷ 0 ∷ 128 ∷ 39 ∷ 64 ∷ 0 ∷ 0 ∷ 0 ∷ 0 ∷ 0 ∷ 0 ∷ 20 ∷ 64 ∷ 0 ∷ 0 ∷ 0 ∷ 0 ∷ 0 ∷ 0 ∷ 25 ∷ 64 ∷ 0 ∷ 0 ∷ 0
    ∷ 0 ∷ 0 ∷ 128 ∷ 61 ∷ 64 ∷ 0 ∷ 0 ∷ 0 ∷ 0 ∷ 0 ∷ 0 ∷ 20 ∷ 64 ∷ 0 ∷ 0 ∷ 0 ∷ 0 ∷ 0 ∷ 0 ∷ 25 ∷ 64 ∷ 0 ∷ 0 ∷ 0 ∷ 0 ∷ 0
    ∷ 128 ∷ 61 ∷ 64 ∷ 0 ∷ 0 ∷ 0 ∷ 0 ∷
    0 ∷ 0 ∷ 20 ∷ 64 ∷ 102 ∷ 102 ∷ 102 ∷ 102 ∷ 102 ∷ 102 ∷ 42 ∷ 64 ∷ 0 ∷ 0 ∷ 0 ∷ 0 ∷ 0 ∷ 16 ∷ 80 ∷ 64 ∷ 0 ∷ 0 ∷ 0 ∷ 0 ∷ 0
    ∷ 0 ∷ 20 ∷ 64 ∷ []

book6_grown : summary (grow book6 18 (lent 18)) ≡ 14 ∷ 10 ∷ 0 ∷ 0 ∷ 1 ∷ 2 ∷ 0 ∷ 1 ∷ 0 ∷ 0 ∷ 0 ∷ 0 ∷ 0 ∷ 0 ∷ 2 ∷ 0 ∷ 2
    ∷ 0 ∷ 0 ∷ 0 ∷ 0 ∷ 0 ∷ 0 ∷ 0 ∷ 1 ∷ 3 ∷ 0 ∷ 1 ∷ 0 ∷ 0 ∷ 0 ∷ 0 ∷ 1 ∷ 1 ∷ 4 ∷ 0 ∷ 2 ∷ 0 ∷ 4610785298501913806
    ∷ 4619848792751996928 ∷ 0 ∷ 0 ∷ 3 ∷ 5 ∷ 0 ∷ 3 ∷ 0 ∷ 0 ∷ 0 ∷ 4617315517961601024 ∷ 1 ∷ 3 ∷ 6 ∷ 0 ∷ 4 ∷ 0
    ∷ 4615401488119968563 ∷ 4625830136007098368 ∷ 4617315517961601024 ∷ 0 ∷
    4 ∷ 7 ∷ 0 ∷ 5 ∷ 0 ∷ 0 ∷ 0 ∷ 4617315517961601024 ∷ 1 ∷ 4 ∷ 8 ∷ 0 ∷ 6 ∷ 0 ∷ 4614725948175862986 ∷ 4625407923542032384
    ∷ 4617315517961601024 ∷ 0 ∷ 5 ∷ 9 ∷ 0 ∷ 7 ∷ 0 ∷ 0 ∷ 0 ∷ 4617315517961601024 ∷ 1 ∷ 5 ∷ 10 ∷ 0 ∷ 8 ∷ 0
    ∷ 4614613358185178728 ∷ 4625337554797854720 ∷ 4617315517961601024 ∷ 0 ∷ 6 ∷ 11 ∷ 0 ∷ 9 ∷ 0 ∷ 0 ∷ 0
    ∷ 4617315517961601024 ∷ 1 ∷ 6 ∷ 12 ∷ 0 ∷ 10 ∷ 0 ∷ 0 ∷ 0 ∷ 4617315517961601024 ∷ 2 ∷ 0 ∷ 13 ∷ 0 ∷ 11 ∷ 0 ∷ 0
    ∷ 0 ∷ 0 ∷ 2 ∷ 0 ∷ 0 ∷ 0 ∷ 12 ∷ 0 ∷ 0 ∷ 0 ∷ 0 ∷ []
unfolding some_below sum_below u32_at u64_at billion table_float abs gap smaller root_digits whole_root root_of sqrt
    leg_below join_bits departure_bits length_bits links origins_at_of origins destinations_at_of destinations
    legs_at_of legs samples_at_of samples end_of sections_of link_length link_next link_next_alt link_prev
    link_prev_alt origin_link origin_offset origin_front destination_link leg_link leg_parent leg_samples
    sample_time sample_offset sample_speed first_sample link_at origin_at leg_at sample_from sample_at
    sample_patterns head_patterns member origin_below stacked pushed enter search options_of in_set kept_origins
    event_offset clears twice_ahead speed_at time_at passing_at bad_passing same_kind same_event node_at
    put_floats put_numbers no_link_event blank course_of first_beyond start_back start_front start offset_next
    in_range clears_next emits turned turn passed_as passed_next walk turns_left passed_from points_passed
    reaches_last bad_point some_bad row11 matches seek linked_to event_node split_fake put at add_behind split_at
    place_at sought_in inserted inserted_table flagged entry push alternatives strand_from strands extended
    extended_all seen_in nodes_from event_nodes last_of arrive_at clear_at closer closest_of closest chain_end
    join_fake join_at joined_table names appended_all appended rebuilt join_step legs_to path_of link_of
    point_link point_offset leg_course event_at events_at leg_events fake_node first_nodes origin_event origin_run
    seek_leg grow_origins bad_finish finished_at waiting on_over save_over go_on is_destination finishes take_leg
    drive leads_to_end end_fakes last_node grown_with grow arc_to arc_to_end added_to moved_to insert_event
    joined_to with_joins run_event run_events add sub mul div lt le eq of_bits round sum to_bits is_nan neg
book6_grown = refl

-- refused with 12
abbrev book11 : List ℕ
book11 =
    0 ∷ 0 ∷ 0 ∷ 0 ∷ 0 ∷ 0 ∷ 0 ∷ 0 ∷ 0 ∷ 0 ∷ 0 ∷ 0 ∷ 0 ∷ 0 ∷ 0 ∷ 0 ∷ 174 ∷ 77 ∷ 104 ∷ 86 ∷ 201 ∷ 189 ∷ 139 ∷ 64 ∷ 3 ∷ 0
    ∷ 0 ∷ 0 ∷ 0 ∷ 0 ∷ 0 ∷ 0 ∷ 0 ∷ 0 ∷ 0 ∷ 0 ∷ 0 ∷ 0 ∷ 0 ∷ 0 ∷ 0 ∷ 0 ∷ 0 ∷ 0 ∷ 0 ∷ 0 ∷ 0 ∷ 0 ∷ 0 ∷ 0 ∷ 0 ∷ 0 ∷ 31 ∷ 8
    ∷ 27 ∷ 213 ∷ 226 ∷ 185 ∷ 150 ∷ 64 ∷
    2 ∷ 0 ∷ 0 ∷ 0 ∷ 0 ∷ 0 ∷ 0 ∷ 0 ∷ 0 ∷ 0 ∷ 0 ∷ 0 ∷ 0 ∷ 0 ∷ 0 ∷ 0 ∷ 144 ∷ 194 ∷ 205 ∷ 83 ∷ 252 ∷ 181 ∷ 129 ∷ 64 ∷ 0 ∷ 0
    ∷ 0 ∷ 0 ∷ 0 ∷ 0 ∷ 0 ∷ 0 ∷ 1 ∷ 0 ∷ 0 ∷ 0 ∷ 0 ∷ 0 ∷ 0 ∷ 0 ∷ 1 ∷ 0 ∷ 0 ∷ 0 ∷ 1 ∷ 0 ∷ 0 ∷ 0 ∷ 0 ∷ 0 ∷ 0 ∷ 0 ∷ 0 ∷ 0
    ∷ 0 ∷ 0 ∷ 0 ∷ 0 ∷ 0 ∷ 0 ∷
    1 ∷ 0 ∷ 0 ∷ 0 ∷ 2 ∷ 0 ∷ 0 ∷ 0 ∷ 2 ∷ 0 ∷ 0 ∷ 0 ∷ 1 ∷ 0 ∷ 0 ∷ 0 ∷ 0 ∷ 0 ∷ 0 ∷ 0 ∷ 1 ∷ 0 ∷ 0 ∷ 0 ∷ 2 ∷ 0 ∷ 0 ∷ 0 ∷ 1
    ∷ 0 ∷ 0 ∷ 0 ∷ 5 ∷ 0 ∷ 0 ∷ 0 ∷ 6 ∷ 0 ∷ 0 ∷ 0 ∷ 0 ∷ 0 ∷ 0 ∷ 0 ∷ 0 ∷ 0 ∷ 0 ∷ 0 ∷ 174 ∷ 77 ∷ 104 ∷ 86 ∷ 201 ∷ 189 ∷ 139
    ∷ 64 ∷ 111 ∷ 29 ∷ 186 ∷ 150 ∷
    144 ∷ 244 ∷ 39 ∷ 64 ∷ 0 ∷ 0 ∷ 0 ∷ 0 ∷ 0 ∷ 0 ∷ 0 ∷ 0 ∷ 174 ∷ 77 ∷ 104 ∷ 86 ∷ 201 ∷ 189 ∷ 139 ∷ 64 ∷ 111 ∷ 29 ∷ 186
    ∷ 150 ∷ 144 ∷ 244 ∷ 39 ∷ 64 ∷ 229 ∷ 71 ∷ 127 ∷ 192 ∷ 42 ∷ 132 ∷ 243 ∷ 63 ∷ 70 ∷ 115 ∷ 224 ∷ 139 ∷ 170 ∷ 50 ∷ 140
    ∷ 64 ∷ 111 ∷ 29 ∷ 186 ∷ 150 ∷ 144 ∷ 244 ∷ 39 ∷ 64 ∷ 185 ∷ 30 ∷ 167 ∷ 33 ∷ 154 ∷ 187 ∷ 20 ∷ 64 ∷
    70 ∷ 115 ∷ 224 ∷ 139 ∷ 170 ∷ 50 ∷ 140 ∷ 64 ∷ 111 ∷ 29 ∷ 186 ∷ 150 ∷ 144 ∷ 244 ∷ 39 ∷ 64 ∷ 26 ∷ 52 ∷ 22 ∷ 207 ∷ 241
    ∷ 182 ∷ 47 ∷ 64 ∷ 187 ∷ 249 ∷ 195 ∷ 152 ∷ 188 ∷ 24 ∷ 144 ∷ 64 ∷ 111 ∷ 29 ∷ 186 ∷ 150 ∷ 144 ∷ 244 ∷ 39 ∷ 64 ∷ 4 ∷ 252
    ∷ 155 ∷ 173 ∷ 13 ∷ 142 ∷ 79 ∷ 64 ∷ 113 ∷ 192 ∷ 148 ∷ 95 ∷ 162 ∷ 240 ∷ 152 ∷ 64 ∷ 111 ∷ 29 ∷ 186 ∷ 150
    ∷ 144 ∷ 244 ∷ 39 ∷ 64 ∷ []

book11_grown : summary (grow book11 6 (lent 6)) ≡ 12 ∷ []
unfolding some_below sum_below u32_at u64_at billion table_float abs gap smaller root_digits whole_root root_of sqrt
    leg_below join_bits departure_bits length_bits links origins_at_of origins destinations_at_of destinations
    legs_at_of legs samples_at_of samples end_of sections_of link_length link_next link_next_alt link_prev
    link_prev_alt origin_link origin_offset origin_front destination_link leg_link leg_parent leg_samples
    sample_time sample_offset sample_speed first_sample link_at origin_at leg_at sample_from sample_at
    sample_patterns head_patterns member origin_below stacked pushed enter search options_of in_set kept_origins
    event_offset clears twice_ahead speed_at time_at passing_at bad_passing same_kind same_event node_at
    put_floats put_numbers no_link_event blank course_of first_beyond start_back start_front start offset_next
    in_range clears_next emits turned turn passed_as passed_next walk turns_left passed_from points_passed
    reaches_last bad_point some_bad row11 matches seek linked_to event_node split_fake put at add_behind split_at
    place_at sought_in inserted inserted_table flagged entry push alternatives strand_from strands extended
    extended_all seen_in nodes_from event_nodes last_of arrive_at clear_at closer closest_of closest chain_end
    join_fake join_at joined_table names appended_all appended rebuilt join_step legs_to path_of link_of
    point_link point_offset leg_course event_at events_at leg_events fake_node first_nodes origin_event origin_run
    seek_leg grow_origins bad_finish finished_at waiting on_over save_over go_on is_destination finishes take_leg
    drive leads_to_end end_fakes last_node grown_with grow arc_to arc_to_end added_to moved_to insert_event
    joined_to with_joins run_event run_events add sub mul div lt le eq of_bits round sum to_bits is_nan neg
book11_grown = refl

-- refused with 11
abbrev book26 : List ℕ
book26 =
    0 ∷ 0 ∷ 0 ∷ 0 ∷ 0 ∷ 0 ∷ 240 ∷ 63 ∷ 0 ∷ 0 ∷ 0 ∷ 0 ∷ 0 ∷ 70 ∷ 128 ∷ 64 ∷ 0 ∷ 0 ∷ 0 ∷ 0 ∷ 0 ∷ 84 ∷ 117 ∷ 64 ∷ 9 ∷ 0 ∷ 0
    ∷ 0 ∷ 0 ∷ 0 ∷ 0 ∷ 0 ∷ 0 ∷ 0 ∷ 0 ∷ 0 ∷ 0 ∷ 0 ∷ 0 ∷ 0 ∷ 0 ∷ 0 ∷ 0 ∷ 0 ∷ 0 ∷ 0 ∷ 0 ∷ 0 ∷ 0 ∷ 0 ∷ 0 ∷ 0 ∷ 0 ∷ 0 ∷ 0
    ∷ 0 ∷ 0 ∷ 220 ∷ 126 ∷ 64 ∷
    5 ∷ 0 ∷ 0 ∷ 0 ∷ 6 ∷ 0 ∷ 0 ∷ 0 ∷ 0 ∷ 0 ∷ 0 ∷ 0 ∷ 0 ∷ 0 ∷ 0 ∷ 0 ∷ 0 ∷ 0 ∷ 0 ∷ 0 ∷ 0 ∷ 220 ∷ 126 ∷ 64 ∷ 8 ∷ 0 ∷ 0 ∷ 0
    ∷ 0 ∷ 0 ∷ 0 ∷ 0 ∷ 7 ∷ 0 ∷ 0 ∷ 0 ∷ 5 ∷ 0 ∷ 0 ∷ 0 ∷ 0 ∷ 0 ∷ 0 ∷ 0 ∷ 0 ∷ 220 ∷ 126 ∷ 64 ∷ 7 ∷ 0 ∷ 0 ∷ 0 ∷ 4 ∷ 0 ∷ 0 ∷ 0
    ∷ 5 ∷ 0 ∷ 0 ∷ 0 ∷
    6 ∷ 0 ∷ 0 ∷ 0 ∷ 0 ∷ 0 ∷ 0 ∷ 0 ∷ 0 ∷ 220 ∷ 126 ∷ 64 ∷ 2 ∷ 0 ∷ 0 ∷ 0 ∷ 0 ∷ 0 ∷ 0 ∷ 0 ∷ 3 ∷ 0 ∷ 0 ∷ 0 ∷ 0 ∷ 0 ∷ 0 ∷ 0
    ∷ 0 ∷ 0 ∷ 0 ∷ 0 ∷ 0 ∷ 220 ∷ 126 ∷ 64 ∷ 3 ∷ 0 ∷ 0 ∷ 0 ∷ 0 ∷ 0 ∷ 0 ∷ 0 ∷ 1 ∷ 0 ∷ 0 ∷ 0 ∷ 0 ∷ 0 ∷ 0 ∷ 0 ∷ 0 ∷ 0 ∷ 0 ∷ 0
    ∷ 0 ∷ 220 ∷ 126 ∷ 64 ∷
    3 ∷ 0 ∷ 0 ∷ 0 ∷ 0 ∷ 0 ∷ 0 ∷ 0 ∷ 1 ∷ 0 ∷ 0 ∷ 0 ∷ 0 ∷ 0 ∷ 0 ∷ 0 ∷ 0 ∷ 0 ∷ 0 ∷ 0 ∷ 0 ∷ 220 ∷ 126 ∷ 64 ∷ 2 ∷ 0 ∷ 0 ∷ 0
    ∷ 0 ∷ 0 ∷ 0 ∷ 0 ∷ 3 ∷ 0 ∷ 0 ∷ 0 ∷ 0 ∷ 0 ∷ 0 ∷ 0 ∷ 0 ∷ 0 ∷ 0 ∷ 0 ∷ 0 ∷ 220 ∷ 126 ∷ 64 ∷ 0 ∷ 0 ∷ 0 ∷ 0 ∷ 0 ∷ 0 ∷ 0 ∷ 0
    ∷ 2 ∷ 0 ∷ 0 ∷ 0 ∷
    0 ∷ 0 ∷ 0 ∷ 0 ∷ 1 ∷ 0 ∷ 0 ∷ 0 ∷ 1 ∷ 0 ∷ 0 ∷ 0 ∷ 0 ∷ 0 ∷ 0 ∷ 0 ∷ 0 ∷ 0 ∷ 0 ∷ 0 ∷ 0 ∷ 0 ∷ 0 ∷ 0 ∷ 1 ∷ 0 ∷ 0 ∷ 0 ∷ 8
    ∷ 0 ∷ 0 ∷ 0 ∷ 1 ∷ 0 ∷ 0 ∷ 0 ∷ 1 ∷ 0 ∷ 0 ∷ 0 ∷ 0 ∷ 0 ∷ 0 ∷ 0 ∷ 3 ∷ 0 ∷ 0 ∷ 0 ∷ 3 ∷ 0 ∷ 0 ∷ 0 ∷ 0 ∷ 0 ∷ 0 ∷ 0 ∷ 0 ∷ 70
    ∷ 128 ∷ 64 ∷
    0 ∷ 0 ∷ 0 ∷ 0 ∷ 0 ∷ 84 ∷ 117 ∷ 64 ∷ 0 ∷ 0 ∷ 0 ∷ 0 ∷ 0 ∷ 0 ∷ 0 ∷ 0 ∷ 0 ∷ 0 ∷ 0 ∷ 0 ∷ 0 ∷ 84 ∷ 128 ∷ 64 ∷ 0 ∷ 0 ∷ 0
    ∷ 0 ∷ 0 ∷ 84 ∷ 117 ∷ 64 ∷ 0 ∷ 0 ∷ 0 ∷ 0 ∷ 0 ∷ 0 ∷ 0 ∷ 0 ∷ 29 ∷ 131 ∷ 221 ∷ 0 ∷ 99 ∷ 175 ∷ 128 ∷ 64 ∷ 0 ∷ 0 ∷ 0 ∷ 0
    ∷ 0 ∷ 236 ∷ 126 ∷ 64 ∷ 168 ∷ 210 ∷ 35 ∷ 202
    ∷ 242 ∷ 223 ∷ 58 ∷ 64 ∷ []

book26_grown : summary (grow book26 40 (lent 40)) ≡ 11 ∷ []
unfolding some_below sum_below u32_at u64_at billion table_float abs gap smaller root_digits whole_root root_of sqrt
    leg_below join_bits departure_bits length_bits links origins_at_of origins destinations_at_of destinations
    legs_at_of legs samples_at_of samples end_of sections_of link_length link_next link_next_alt link_prev
    link_prev_alt origin_link origin_offset origin_front destination_link leg_link leg_parent leg_samples
    sample_time sample_offset sample_speed first_sample link_at origin_at leg_at sample_from sample_at
    sample_patterns head_patterns member origin_below stacked pushed enter search options_of in_set kept_origins
    event_offset clears twice_ahead speed_at time_at passing_at bad_passing same_kind same_event node_at
    put_floats put_numbers no_link_event blank course_of first_beyond start_back start_front start offset_next
    in_range clears_next emits turned turn passed_as passed_next walk turns_left passed_from points_passed
    reaches_last bad_point some_bad row11 matches seek linked_to event_node split_fake put at add_behind split_at
    place_at sought_in inserted inserted_table flagged entry push alternatives strand_from strands extended
    extended_all seen_in nodes_from event_nodes last_of arrive_at clear_at closer closest_of closest chain_end
    join_fake join_at joined_table names appended_all appended rebuilt join_step legs_to path_of link_of
    point_link point_offset leg_course event_at events_at leg_events fake_node first_nodes origin_event origin_run
    seek_leg grow_origins bad_finish finished_at waiting on_over save_over go_on is_destination finishes take_leg
    drive leads_to_end end_fakes last_node grown_with grow arc_to arc_to_end added_to moved_to insert_event
    joined_to with_joins run_event run_events add sub mul div lt le eq of_bits round sum to_bits is_nan neg
book26_grown = refl

-- 1 splits, 0 joined, 2 finished
abbrev book58 : List ℕ
book58 =
    0 ∷ 0 ∷ 0 ∷ 0 ∷ 0 ∷ 0 ∷ 40 ∷ 64 ∷ 0 ∷ 0 ∷ 0 ∷ 0 ∷ 0 ∷ 192 ∷ 133 ∷ 64 ∷ 0 ∷ 0 ∷ 0 ∷ 0 ∷ 0 ∷ 0 ∷ 34 ∷ 64 ∷ 4 ∷ 0 ∷ 0
    ∷ 0 ∷ 0 ∷ 0 ∷ 0 ∷ 0 ∷ 0 ∷ 0 ∷ 0 ∷ 0 ∷ 0 ∷ 0 ∷ 0 ∷ 0 ∷ 0 ∷ 0 ∷ 0 ∷ 0 ∷ 0 ∷ 0 ∷ 0 ∷ 0 ∷ 0 ∷ 0 ∷ 0 ∷ 0 ∷ 0 ∷ 0 ∷ 0 ∷ 0
    ∷ 0 ∷ 128 ∷ 92 ∷ 64 ∷
    2 ∷ 0 ∷ 0 ∷ 0 ∷ 0 ∷ 0 ∷ 0 ∷ 0 ∷ 3 ∷ 0 ∷ 0 ∷ 0 ∷ 0 ∷ 0 ∷ 0 ∷ 0 ∷ 0 ∷ 0 ∷ 0 ∷ 0 ∷ 0 ∷ 128 ∷ 92 ∷ 64 ∷ 0 ∷ 0 ∷ 0 ∷ 0
    ∷ 0 ∷ 0 ∷ 0 ∷ 0 ∷ 3 ∷ 0 ∷ 0 ∷ 0 ∷ 1 ∷ 0 ∷ 0 ∷ 0 ∷ 0 ∷ 0 ∷ 0 ∷ 0 ∷ 0 ∷ 128 ∷ 92 ∷ 64 ∷ 1 ∷ 0 ∷ 0 ∷ 0 ∷ 2 ∷ 0 ∷ 0 ∷ 0
    ∷ 0 ∷ 0 ∷ 0 ∷ 0 ∷
    0 ∷ 0 ∷ 0 ∷ 0 ∷ 1 ∷ 0 ∷ 0 ∷ 0 ∷ 3 ∷ 0 ∷ 0 ∷ 0 ∷ 0 ∷ 0 ∷ 0 ∷ 0 ∷ 0 ∷ 0 ∷ 0 ∷ 0 ∷ 0 ∷ 0 ∷ 0 ∷ 0 ∷ 1 ∷ 0 ∷ 0 ∷ 0 ∷ 2
    ∷ 0 ∷ 0 ∷ 0 ∷ 4 ∷ 0 ∷ 0 ∷ 0 ∷ 3 ∷ 0 ∷ 0 ∷ 0 ∷ 0 ∷ 0 ∷ 0 ∷ 0 ∷ 2 ∷ 0 ∷ 0 ∷ 0 ∷ 2 ∷ 0 ∷ 0 ∷ 0 ∷ 1 ∷ 0 ∷ 0 ∷ 0 ∷ 2 ∷ 0
    ∷ 0 ∷ 0 ∷
    1 ∷ 0 ∷ 0 ∷ 0 ∷ 1 ∷ 0 ∷ 0 ∷ 0 ∷ 3 ∷ 0 ∷ 0 ∷ 0 ∷ 2 ∷ 0 ∷ 0 ∷ 0 ∷ 3 ∷ 0 ∷ 0 ∷ 0 ∷ 2 ∷ 0 ∷ 0 ∷ 0 ∷ 9 ∷ 0 ∷ 0 ∷ 0 ∷ 0
    ∷ 0 ∷ 0 ∷ 0 ∷ 0 ∷ 192 ∷ 133 ∷ 64 ∷ 0 ∷ 0 ∷ 0 ∷ 0 ∷ 0 ∷ 0 ∷ 34 ∷ 64 ∷ 0 ∷ 0 ∷ 0 ∷ 0 ∷ 0 ∷ 0 ∷ 40 ∷ 64 ∷ 0 ∷ 0 ∷ 0 ∷ 0
    ∷ 0 ∷ 224 ∷ 133 ∷ 64 ∷
    0 ∷ 0 ∷ 0 ∷ 0 ∷ 0 ∷ 128 ∷ 76 ∷ 64 ∷ 0 ∷ 0 ∷ 0 ∷ 0 ∷ 0 ∷ 0 ∷ 40 ∷ 64 ∷ 0 ∷ 0 ∷ 0 ∷ 0 ∷ 0 ∷ 224 ∷ 133 ∷ 64 ∷ 0 ∷ 0 ∷ 0
    ∷ 0 ∷ 0 ∷ 128 ∷ 76 ∷ 64 ∷ 0 ∷ 0 ∷ 0 ∷ 0 ∷ 0 ∷ 0 ∷ 40 ∷ 64 ∷ 205 ∷ 204 ∷ 204 ∷ 204 ∷ 204 ∷ 52 ∷ 134 ∷ 64 ∷ 0 ∷ 0
    ∷ 0 ∷ 0 ∷ 0 ∷ 0 ∷ 107 ∷ 64 ∷ 0 ∷ 0 ∷ 0 ∷ 0
    ∷ 0 ∷ 0 ∷ 50 ∷ 64 ∷ 0 ∷ 0 ∷ 0 ∷ 0 ∷ 0 ∷ 224 ∷ 133 ∷ 64 ∷ 0 ∷ 0 ∷ 0 ∷ 0 ∷ 0 ∷ 128 ∷ 76 ∷ 64 ∷ 0 ∷ 0 ∷ 0 ∷ 0 ∷ 0 ∷ 0
    ∷ 40 ∷ 64 ∷ 171 ∷ 170 ∷ 170 ∷ 170 ∷ 170 ∷ 18 ∷ 134 ∷ 64 ∷ 0 ∷ 0 ∷ 0 ∷ 0 ∷ 0 ∷ 96 ∷ 101 ∷ 64 ∷ 0 ∷ 0 ∷ 0 ∷ 0 ∷ 0 ∷ 0
    ∷ 56 ∷ 64 ∷ 171 ∷ 170 ∷ 170 ∷ 170 ∷ 170 ∷ 42 ∷ 134 ∷ 64 ∷
    0 ∷ 0 ∷ 0 ∷ 0 ∷ 0 ∷ 96 ∷ 101 ∷ 64 ∷ 0 ∷ 0 ∷ 0 ∷ 0 ∷ 0 ∷ 0 ∷ 56 ∷ 64 ∷ 171 ∷ 170 ∷ 170 ∷ 170 ∷ 170 ∷ 42 ∷ 134 ∷ 64
    ∷ 0 ∷ 0 ∷ 0 ∷ 0 ∷ 0 ∷ 96 ∷ 101 ∷ 64 ∷ 0 ∷ 0 ∷ 0 ∷ 0 ∷ 0 ∷ 0 ∷ 56 ∷ 64 ∷ 244 ∷ 60 ∷ 207 ∷ 243 ∷ 60 ∷ 103 ∷ 134 ∷ 64
    ∷ 0 ∷ 0 ∷ 0 ∷ 0 ∷ 0 ∷ 160 ∷ 116 ∷ 64 ∷ 0 ∷ 0 ∷ 0 ∷ 0
    ∷ 0 ∷ 0 ∷ 50 ∷ 64 ∷ []

book58_grown : summary (grow book58 40 (lent 40)) ≡ 14 ∷ 8 ∷ 1 ∷ 0 ∷ 2 ∷ 2 ∷ 0 ∷ 1 ∷ 0 ∷ 0 ∷ 0 ∷ 0 ∷ 0 ∷ 0 ∷ 2 ∷ 0 ∷ 2
    ∷ 0 ∷ 0 ∷ 0 ∷ 0 ∷ 0 ∷ 0 ∷ 0 ∷ 3 ∷ 3 ∷ 0 ∷ 1 ∷ 0 ∷ 0 ∷ 4621256167635550208 ∷ 0 ∷ 1 ∷ 3 ∷ 4 ∷ 8 ∷ 2 ∷ 0 ∷
    4620333544367569792 ∷ 4637089135075524608 ∷ 0 ∷ 0 ∷ 1 ∷ 5 ∷ 0 ∷ 3 ∷ 0 ∷ 4602023272325003264 ∷ 4621256167635550208 ∷
    4626033829866620040 ∷ 1 ∷ 1 ∷ 6 ∷ 0 ∷ 4 ∷ 0 ∷ 4620316501498803328 ∷ 4637089135075524608 ∷ 4626281082733935416 ∷ 0 ∷
    2 ∷ 7 ∷ 0 ∷ 5 ∷ 0 ∷ 4601083365803927552 ∷ 4621256167635550208 ∷ 4626896279773072163 ∷ 1 ∷ 2 ∷ 12 ∷ 0 ∷ 6 ∷ 0 ∷ 0 ∷ 0
    ∷ 4626804506976134382 ∷ 2 ∷ 0 ∷ 9 ∷ 0 ∷ 3 ∷ 0 ∷ 4620868613749828224 ∷ 4637089135075524608 ∷ 0 ∷ 0 ∷ 2 ∷ 10 ∷ 0 ∷ 8
    ∷ 0 ∷ 4603721981377989632 ∷ 4621256167635550208 ∷ 4624318901956975221 ∷ 1 ∷ 2 ∷ 11 ∷ 0 ∷ 9 ∷ 0 ∷ 0 ∷ 0
    ∷ 4624515131738792889 ∷ 2 ∷ 0 ∷ 12 ∷ 0 ∷ 10 ∷ 0 ∷ 0 ∷ 0 ∷ 0 ∷ 2 ∷ 0 ∷ 13 ∷ 0 ∷ 7 ∷ 11 ∷ 0
    ∷ 0 ∷ 0 ∷ 2 ∷ 0 ∷ 0 ∷ 0 ∷ 12 ∷ 0 ∷ 0 ∷ 0 ∷ 0 ∷ []
unfolding some_below sum_below u32_at u64_at billion table_float abs gap smaller root_digits whole_root root_of sqrt
    leg_below join_bits departure_bits length_bits links origins_at_of origins destinations_at_of destinations
    legs_at_of legs samples_at_of samples end_of sections_of link_length link_next link_next_alt link_prev
    link_prev_alt origin_link origin_offset origin_front destination_link leg_link leg_parent leg_samples
    sample_time sample_offset sample_speed first_sample link_at origin_at leg_at sample_from sample_at
    sample_patterns head_patterns member origin_below stacked pushed enter search options_of in_set kept_origins
    event_offset clears twice_ahead speed_at time_at passing_at bad_passing same_kind same_event node_at
    put_floats put_numbers no_link_event blank course_of first_beyond start_back start_front start offset_next
    in_range clears_next emits turned turn passed_as passed_next walk turns_left passed_from points_passed
    reaches_last bad_point some_bad row11 matches seek linked_to event_node split_fake put at add_behind split_at
    place_at sought_in inserted inserted_table flagged entry push alternatives strand_from strands extended
    extended_all seen_in nodes_from event_nodes last_of arrive_at clear_at closer closest_of closest chain_end
    join_fake join_at joined_table names appended_all appended rebuilt join_step legs_to path_of link_of
    point_link point_offset leg_course event_at events_at leg_events fake_node first_nodes origin_event origin_run
    seek_leg grow_origins bad_finish finished_at waiting on_over save_over go_on is_destination finishes take_leg
    drive leads_to_end end_fakes last_node grown_with grow arc_to arc_to_end added_to moved_to insert_event
    joined_to with_joins run_event run_events add sub mul div lt le eq of_bits round sum to_bits is_nan neg
book58_grown = refl

-- its noted arcs: the split's leads from the event that it splits at (3), with the run's own differences; they stand at
-- the nodes of the reference's network, in the order of the work
book58_noted : noted_by (grow book58 40 (lent 40)) ≡ 10 ∷ 0 ∷ 0 ∷ 0 ∷ 9 ∷ 10 ∷ 4603721981377989632 ∷ 4621256167635550208
    ∷ 3 ∷ 9 ∷ 4620868613749828224 ∷ 4637089135075524608 ∷ 7 ∷ 0 ∷ 0 ∷ 0 ∷ 6 ∷ 7 ∷ 4601083365803927552
    ∷ 4621256167635550208 ∷ 5 ∷ 6 ∷ 4620316501498803328 ∷ 4637089135075524608 ∷ 4 ∷ 5 ∷ 4602023272325003264 ∷
    4621256167635550208 ∷ 3 ∷ 4 ∷ 4620333544367569792 ∷ 4637089135075524608 ∷ 2 ∷ 3 ∷ 0 ∷ 4621256167635550208 ∷ 1 ∷ 2
    ∷ 0 ∷ 0 ∷ []
unfolding some_below sum_below u32_at u64_at billion table_float abs gap smaller root_digits whole_root root_of sqrt
    leg_below join_bits departure_bits length_bits links origins_at_of origins destinations_at_of destinations
    legs_at_of legs samples_at_of samples end_of sections_of link_length link_next link_next_alt link_prev
    link_prev_alt origin_link origin_offset origin_front destination_link leg_link leg_parent leg_samples
    sample_time sample_offset sample_speed first_sample link_at origin_at leg_at sample_from sample_at
    sample_patterns head_patterns member origin_below stacked pushed enter search options_of in_set kept_origins
    event_offset clears twice_ahead speed_at time_at passing_at bad_passing same_kind same_event node_at
    put_floats put_numbers no_link_event blank course_of first_beyond start_back start_front start offset_next
    in_range clears_next emits turned turn passed_as passed_next walk turns_left passed_from points_passed
    reaches_last bad_point some_bad row11 matches seek linked_to event_node split_fake put at add_behind split_at
    place_at sought_in inserted inserted_table flagged entry push alternatives strand_from strands extended
    extended_all seen_in nodes_from event_nodes last_of arrive_at clear_at closer closest_of closest chain_end
    join_fake join_at joined_table names appended_all appended rebuilt join_step legs_to path_of link_of
    point_link point_offset leg_course event_at events_at leg_events fake_node first_nodes origin_event origin_run
    seek_leg grow_origins bad_finish finished_at waiting on_over save_over go_on is_destination finishes take_leg
    drive leads_to_end end_fakes last_node grown_with grow arc_to arc_to_end added_to moved_to insert_event
    joined_to with_joins run_event run_events add sub mul div lt le eq of_bits round sum to_bits is_nan neg
book58_noted = refl

-- 1 splits, 1 joined, 1 finished
abbrev book149 : List ℕ
book149 =
    0 ∷ 0 ∷ 0 ∷ 0 ∷ 0 ∷ 0 ∷ 240 ∷ 63 ∷ 0 ∷ 0 ∷ 0 ∷ 0 ∷ 0 ∷ 0 ∷ 0 ∷ 0 ∷ 124 ∷ 236 ∷ 11 ∷ 215 ∷ 147 ∷ 1 ∷ 219 ∷ 63 ∷ 4 ∷ 0
    ∷ 0 ∷ 0 ∷ 0 ∷ 0 ∷ 0 ∷ 0 ∷ 0 ∷ 0 ∷ 0 ∷ 0 ∷ 0 ∷ 0 ∷ 0 ∷ 0 ∷ 0 ∷ 0 ∷ 0 ∷ 0 ∷ 0 ∷ 0 ∷ 0 ∷ 0 ∷ 0 ∷ 0 ∷ 0 ∷ 0 ∷ 164 ∷ 34
    ∷ 232 ∷ 86 ∷ 14 ∷ 129 ∷ 12 ∷ 64 ∷
    2 ∷ 0 ∷ 0 ∷ 0 ∷ 0 ∷ 0 ∷ 0 ∷ 0 ∷ 0 ∷ 0 ∷ 0 ∷ 0 ∷ 0 ∷ 0 ∷ 0 ∷ 0 ∷ 218 ∷ 216 ∷ 36 ∷ 50 ∷ 104 ∷ 55 ∷ 14 ∷ 64 ∷ 2 ∷ 0 ∷ 0
    ∷ 0 ∷ 3 ∷ 0 ∷ 0 ∷ 0 ∷ 1 ∷ 0 ∷ 0 ∷ 0 ∷ 0 ∷ 0 ∷ 0 ∷ 0 ∷ 40 ∷ 98 ∷ 138 ∷ 35 ∷ 65 ∷ 197 ∷ 249 ∷ 63 ∷ 0 ∷ 0 ∷ 0 ∷ 0 ∷ 0
    ∷ 0 ∷ 0 ∷ 0 ∷ 2 ∷ 0 ∷ 0 ∷ 0 ∷
    0 ∷ 0 ∷ 0 ∷ 0 ∷ 1 ∷ 0 ∷ 0 ∷ 0 ∷ 1 ∷ 0 ∷ 0 ∷ 0 ∷ 0 ∷ 0 ∷ 0 ∷ 0 ∷ 0 ∷ 0 ∷ 0 ∷ 0 ∷ 0 ∷ 0 ∷ 0 ∷ 0 ∷ 1 ∷ 0 ∷ 0 ∷ 0 ∷ 3
    ∷ 0 ∷ 0 ∷ 0 ∷ 4 ∷ 0 ∷ 0 ∷ 0 ∷ 1 ∷ 0 ∷ 0 ∷ 0 ∷ 0 ∷ 0 ∷ 0 ∷ 0 ∷ 2 ∷ 0 ∷ 0 ∷ 0 ∷ 2 ∷ 0 ∷ 0 ∷ 0 ∷ 1 ∷ 0 ∷ 0 ∷ 0 ∷ 2 ∷ 0
    ∷ 0 ∷ 0 ∷
    3 ∷ 0 ∷ 0 ∷ 0 ∷ 2 ∷ 0 ∷ 0 ∷ 0 ∷ 2 ∷ 0 ∷ 0 ∷ 0 ∷ 2 ∷ 0 ∷ 0 ∷ 0 ∷ 2 ∷ 0 ∷ 0 ∷ 0 ∷ 2 ∷ 0 ∷ 0 ∷ 0 ∷ 8 ∷ 0 ∷ 0 ∷ 0 ∷ 0
    ∷ 0 ∷ 0 ∷ 0 ∷ 0 ∷ 0 ∷ 0 ∷ 0 ∷ 124 ∷ 236 ∷ 11 ∷ 215 ∷ 147 ∷ 1 ∷ 219 ∷ 63 ∷ 0 ∷ 0 ∷ 0 ∷ 0 ∷ 0 ∷ 0 ∷ 46 ∷ 64 ∷ 141 ∷ 39
    ∷ 24 ∷ 81 ∷ 183 ∷ 205 ∷ 202 ∷ 63 ∷
    163 ∷ 34 ∷ 232 ∷ 86 ∷ 14 ∷ 129 ∷ 12 ∷ 64 ∷ 0 ∷ 0 ∷ 0 ∷ 0 ∷ 0 ∷ 0 ∷ 46 ∷ 64 ∷ 141 ∷ 39 ∷ 24 ∷ 81 ∷ 183 ∷ 205 ∷ 202
    ∷ 63 ∷ 163 ∷ 34 ∷ 232 ∷ 86 ∷ 14 ∷ 129 ∷ 12 ∷ 64 ∷ 0 ∷ 0 ∷ 0 ∷ 0 ∷ 0 ∷ 0 ∷ 46 ∷ 64 ∷ 24 ∷ 50 ∷ 23 ∷ 144 ∷ 104 ∷ 132
    ∷ 221 ∷ 63 ∷ 190 ∷ 125 ∷ 134 ∷ 68 ∷ 59 ∷ 92 ∷ 29 ∷ 64 ∷ 0 ∷ 0 ∷ 0 ∷ 0 ∷
    0 ∷ 0 ∷ 46 ∷ 64 ∷ 24 ∷ 50 ∷ 23 ∷ 144 ∷ 104 ∷ 132 ∷ 221 ∷ 63 ∷ 190 ∷ 125 ∷ 134 ∷ 68 ∷ 59 ∷ 92 ∷ 29 ∷ 64 ∷ 0 ∷ 0 ∷ 0
    ∷ 0 ∷ 0 ∷ 0 ∷ 46 ∷ 64 ∷ 119 ∷ 251 ∷ 12 ∷ 145 ∷ 214 ∷ 49 ∷ 226 ∷ 63 ∷ 35 ∷ 139 ∷ 180 ∷ 198 ∷ 197 ∷ 230 ∷ 33 ∷ 64 ∷ 0
    ∷ 0 ∷ 0 ∷ 0 ∷ 0 ∷ 0 ∷ 46 ∷ 64 ∷ 24 ∷ 50 ∷ 23 ∷ 144 ∷ 104 ∷ 132 ∷ 221 ∷ 63
    ∷ 190 ∷ 125 ∷ 134 ∷ 68 ∷ 59 ∷ 92 ∷ 29 ∷ 64 ∷ 0 ∷ 0 ∷ 0 ∷ 0 ∷ 0 ∷ 0 ∷ 46 ∷ 64 ∷ 191 ∷ 89 ∷ 5 ∷ 245 ∷ 97 ∷ 156 ∷ 227
    ∷ 63 ∷ 135 ∷ 99 ∷ 109 ∷ 116 ∷ 168 ∷ 58 ∷ 35 ∷ 64 ∷ 0 ∷ 0 ∷ 0 ∷ 0 ∷ 0 ∷ 0 ∷ 46 ∷ 64 ∷ []

book149_grown : summary (grow book149 40 (lent 40)) ≡ 13 ∷ 7 ∷ 1 ∷ 1 ∷ 1 ∷ 2 ∷ 0 ∷ 1 ∷ 0 ∷ 0 ∷ 0 ∷ 0 ∷ 0 ∷ 0 ∷ 2 ∷ 0 ∷ 2
    ∷ 0 ∷ 0 ∷ 0 ∷ 0 ∷ 0 ∷ 0 ∷ 0 ∷ 1 ∷ 3 ∷ 0 ∷ 1 ∷ 0 ∷ 0 ∷ 4601273178768796796 ∷ 0 ∷ 1 ∷ 1 ∷ 4 ∷ 0 ∷ 2 ∷ 0 ∷
    4596712556908259214 ∷ 4614255421879133460 ∷ 0 ∷ 0 ∷ 2 ∷ 5 ∷ 0 ∷ 3 ∷ 0 ∷ 4583765550849374208 ∷ 4601273178768796800 ∷
    4624633867356078080 ∷ 1 ∷ 2 ∷ 6 ∷ 8 ∷ 4 ∷ 7 ∷ 4597226660399719842 ∷ 4614737393902377802 ∷ 4624633867356078080 ∷ 0 ∷
    2 ∷ 7 ∷ 0 ∷ 5 ∷ 0 ∷ 4583765550849374224 ∷ 4601273178768796800 ∷ 4624633867356078080 ∷ 2 ∷ 0 ∷ 5 ∷ 0 ∷ 6 ∷ 0 ∷ 0 ∷ 0
    ∷ 0 ∷ 2 ∷ 0 ∷ 9 ∷ 0 ∷ 5 ∷ 0 ∷ 4597226660399719846 ∷ 4614737393902377802 ∷ 0 ∷ 0 ∷ 3 ∷ 10 ∷ 0 ∷ 8 ∷ 0
    ∷ 4583765550849374208 ∷ 4601273178768796800 ∷ 4624633867356078080 ∷ 1 ∷ 3 ∷ 11 ∷ 0 ∷ 9 ∷ 0 ∷ 0 ∷ 0
    ∷ 4624633867356078080 ∷ 2 ∷ 0 ∷ 12 ∷ 0 ∷ 10 ∷ 0 ∷ 0 ∷ 0 ∷ 0 ∷ 2 ∷ 0 ∷ 0 ∷ 0 ∷ 11 ∷ 0 ∷ 0
    ∷ 0 ∷ 0 ∷ []
unfolding some_below sum_below u32_at u64_at billion table_float abs gap smaller root_digits whole_root root_of sqrt
    leg_below join_bits departure_bits length_bits links origins_at_of origins destinations_at_of destinations
    legs_at_of legs samples_at_of samples end_of sections_of link_length link_next link_next_alt link_prev
    link_prev_alt origin_link origin_offset origin_front destination_link leg_link leg_parent leg_samples
    sample_time sample_offset sample_speed first_sample link_at origin_at leg_at sample_from sample_at
    sample_patterns head_patterns member origin_below stacked pushed enter search options_of in_set kept_origins
    event_offset clears twice_ahead speed_at time_at passing_at bad_passing same_kind same_event node_at
    put_floats put_numbers no_link_event blank course_of first_beyond start_back start_front start offset_next
    in_range clears_next emits turned turn passed_as passed_next walk turns_left passed_from points_passed
    reaches_last bad_point some_bad row11 matches seek linked_to event_node split_fake put at add_behind split_at
    place_at sought_in inserted inserted_table flagged entry push alternatives strand_from strands extended
    extended_all seen_in nodes_from event_nodes last_of arrive_at clear_at closer closest_of closest chain_end
    join_fake join_at joined_table names appended_all appended rebuilt join_step legs_to path_of link_of
    point_link point_offset leg_course event_at events_at leg_events fake_node first_nodes origin_event origin_run
    seek_leg grow_origins bad_finish finished_at waiting on_over save_over go_on is_destination finishes take_leg
    drive leads_to_end end_fakes last_node grown_with grow arc_to arc_to_end added_to moved_to insert_event
    joined_to with_joins run_event run_events add sub mul div lt le eq of_bits round sum to_bits is_nan neg
book149_grown = refl

-- 0 splits, 1 joined, 0 finished
abbrev book204 : List ℕ
book204 =
    0 ∷ 0 ∷ 0 ∷ 0 ∷ 0 ∷ 0 ∷ 208 ∷ 63 ∷ 0 ∷ 0 ∷ 0 ∷ 0 ∷ 0 ∷ 0 ∷ 0 ∷ 0 ∷ 0 ∷ 0 ∷ 0 ∷ 0 ∷ 0 ∷ 0 ∷ 0 ∷ 0 ∷ 4 ∷ 0 ∷ 0 ∷ 0 ∷ 0
    ∷ 0 ∷ 0 ∷ 0 ∷ 0 ∷ 0 ∷ 0 ∷ 0 ∷ 0 ∷ 0 ∷ 0 ∷ 0 ∷ 0 ∷ 0 ∷ 0 ∷ 0 ∷ 0 ∷ 0 ∷ 0 ∷ 0 ∷ 0 ∷ 0 ∷ 0 ∷ 0 ∷ 0 ∷ 0 ∷ 0 ∷ 0 ∷ 0
    ∷ 0 ∷ 46 ∷ 64 ∷
    3 ∷ 0 ∷ 0 ∷ 0 ∷ 0 ∷ 0 ∷ 0 ∷ 0 ∷ 0 ∷ 0 ∷ 0 ∷ 0 ∷ 0 ∷ 0 ∷ 0 ∷ 0 ∷ 0 ∷ 0 ∷ 0 ∷ 0 ∷ 0 ∷ 0 ∷ 46 ∷ 64 ∷ 0 ∷ 0 ∷ 0 ∷ 0 ∷ 0
    ∷ 0 ∷ 0 ∷ 0 ∷ 3 ∷ 0 ∷ 0 ∷ 0 ∷ 0 ∷ 0 ∷ 0 ∷ 0 ∷ 0 ∷ 0 ∷ 0 ∷ 0 ∷ 0 ∷ 0 ∷ 46 ∷ 64 ∷ 3 ∷ 0 ∷ 0 ∷ 0 ∷ 0 ∷ 0 ∷ 0 ∷ 0 ∷ 1
    ∷ 0 ∷ 0 ∷ 0 ∷
    0 ∷ 0 ∷ 0 ∷ 0 ∷ 1 ∷ 0 ∷ 0 ∷ 0 ∷ 1 ∷ 0 ∷ 0 ∷ 0 ∷ 0 ∷ 0 ∷ 0 ∷ 0 ∷ 0 ∷ 0 ∷ 0 ∷ 0 ∷ 0 ∷ 0 ∷ 0 ∷ 0 ∷ 1 ∷ 0 ∷ 0 ∷ 0 ∷ 2
    ∷ 0 ∷ 0 ∷ 0 ∷ 3 ∷ 0 ∷ 0 ∷ 0 ∷ 1 ∷ 0 ∷ 0 ∷ 0 ∷ 0 ∷ 0 ∷ 0 ∷ 0 ∷ 3 ∷ 0 ∷ 0 ∷ 0 ∷ 3 ∷ 0 ∷ 0 ∷ 0 ∷ 1 ∷ 0 ∷ 0 ∷ 0 ∷ 3 ∷ 0
    ∷ 0 ∷ 0 ∷
    3 ∷ 0 ∷ 0 ∷ 0 ∷ 2 ∷ 0 ∷ 0 ∷ 0 ∷ 3 ∷ 0 ∷ 0 ∷ 0 ∷ 9 ∷ 0 ∷ 0 ∷ 0 ∷ 0 ∷ 0 ∷ 0 ∷ 0 ∷ 0 ∷ 0 ∷ 0 ∷ 0 ∷ 0 ∷ 0 ∷ 0 ∷ 0 ∷ 0
    ∷ 0 ∷ 0 ∷ 0 ∷ 0 ∷ 0 ∷ 0 ∷ 0 ∷ 0 ∷ 0 ∷ 50 ∷ 64 ∷ 57 ∷ 142 ∷ 227 ∷ 56 ∷ 142 ∷ 227 ∷ 216 ∷ 63 ∷ 0 ∷ 0 ∷ 0 ∷ 0 ∷ 0 ∷ 0
    ∷ 28 ∷ 64 ∷ 0 ∷ 0 ∷ 0 ∷ 0 ∷
    0 ∷ 0 ∷ 50 ∷ 64 ∷ 228 ∷ 56 ∷ 142 ∷ 227 ∷ 56 ∷ 142 ∷ 227 ∷ 63 ∷ 0 ∷ 0 ∷ 0 ∷ 0 ∷ 0 ∷ 0 ∷ 38 ∷ 64 ∷ 0 ∷ 0 ∷ 0 ∷ 0 ∷ 0
    ∷ 0 ∷ 50 ∷ 64 ∷ 228 ∷ 56 ∷ 142 ∷ 227 ∷ 56 ∷ 142 ∷ 227 ∷ 63 ∷ 0 ∷ 0 ∷ 0 ∷ 0 ∷ 0 ∷ 0 ∷ 38 ∷ 64 ∷ 0 ∷ 0 ∷ 0 ∷ 0 ∷ 0 ∷ 0
    ∷ 50 ∷ 64 ∷ 199 ∷ 113 ∷ 28 ∷ 199 ∷ 113 ∷ 156 ∷ 49 ∷ 64 ∷
    0 ∷ 0 ∷ 0 ∷ 0 ∷ 0 ∷ 0 ∷ 38 ∷ 64 ∷ 0 ∷ 0 ∷ 0 ∷ 0 ∷ 0 ∷ 0 ∷ 50 ∷ 64 ∷ 28 ∷ 199 ∷ 113 ∷ 28 ∷ 199 ∷ 113 ∷ 50 ∷ 64 ∷ 0
    ∷ 0 ∷ 0 ∷ 0 ∷ 0 ∷ 0 ∷ 58 ∷ 64 ∷ 0 ∷ 0 ∷ 0 ∷ 0 ∷ 0 ∷ 0 ∷ 50 ∷ 64 ∷ 28 ∷ 199 ∷ 113 ∷ 28 ∷ 199 ∷ 113 ∷ 50 ∷ 64 ∷ 0 ∷ 0
    ∷ 0 ∷ 0 ∷ 0 ∷ 0 ∷ 58 ∷ 64 ∷ 0 ∷ 0 ∷ 0 ∷ 0 ∷
    0 ∷ 0 ∷ 50 ∷ 64 ∷ 199 ∷ 113 ∷ 28 ∷ 199 ∷ 113 ∷ 156 ∷ 50 ∷ 64 ∷ 0 ∷ 0 ∷ 0 ∷ 0 ∷ 0 ∷ 0 ∷ 61 ∷ 64 ∷ 0 ∷ 0 ∷ 0 ∷ 0 ∷ 0
    ∷ 0 ∷ 50 ∷ 64 ∷ 114 ∷ 28 ∷ 199 ∷ 113 ∷ 28 ∷ 71 ∷ 51 ∷ 64 ∷ 0 ∷ 0 ∷ 0 ∷ 0 ∷ 0 ∷ 128 ∷ 68 ∷ 64 ∷ 0 ∷ 0 ∷ 0 ∷ 0 ∷ 0 ∷ 0
    ∷ 50 ∷ 64 ∷ []

book204_grown : summary (grow book204 10 (lent 10)) ≡ 9 ∷ 5 ∷ 0 ∷ 1 ∷ 0 ∷ 2 ∷ 0 ∷ 1 ∷ 0 ∷ 0 ∷ 0 ∷ 0 ∷ 0 ∷ 0 ∷ 2 ∷ 0 ∷ 2
    ∷ 0 ∷ 0 ∷ 0 ∷ 0 ∷ 0 ∷ 0 ∷ 0 ∷ 1 ∷ 3 ∷ 0 ∷ 1 ∷ 0 ∷ 0 ∷ 0 ∷ 0 ∷ 1 ∷ 1 ∷ 4 ∷ 0 ∷ 2 ∷ 0 ∷ 4625712854766802261
    ∷ 4624633867356078080 ∷ 0 ∷ 0 ∷ 3 ∷ 5 ∷ 0 ∷ 3 ∷ 0 ∷ 0 ∷ 0 ∷ 4625759767262920704 ∷ 1 ∷ 3 ∷ 6 ∷ 0 ∷ 4 ∷ 7
    ∷ 4605681218924227264 ∷ 4624633867356078080 ∷ 4625759767262920704 ∷ 0 ∷
    3 ∷ 7 ∷ 0 ∷ 5 ∷ 0 ∷ 0 ∷ 0 ∷ 4625759767262920704 ∷ 2 ∷ 0 ∷ 5 ∷ 0 ∷ 6 ∷ 0 ∷ 0 ∷ 0 ∷ 0 ∷ 2 ∷ 0 ∷ 0 ∷ 0 ∷ 7 ∷ 0 ∷ 0 ∷ 0
    ∷ 0 ∷ []
unfolding some_below sum_below u32_at u64_at billion table_float abs gap smaller root_digits whole_root root_of sqrt
    leg_below join_bits departure_bits length_bits links origins_at_of origins destinations_at_of destinations
    legs_at_of legs samples_at_of samples end_of sections_of link_length link_next link_next_alt link_prev
    link_prev_alt origin_link origin_offset origin_front destination_link leg_link leg_parent leg_samples
    sample_time sample_offset sample_speed first_sample link_at origin_at leg_at sample_from sample_at
    sample_patterns head_patterns member origin_below stacked pushed enter search options_of in_set kept_origins
    event_offset clears twice_ahead speed_at time_at passing_at bad_passing same_kind same_event node_at
    put_floats put_numbers no_link_event blank course_of first_beyond start_back start_front start offset_next
    in_range clears_next emits turned turn passed_as passed_next walk turns_left passed_from points_passed
    reaches_last bad_point some_bad row11 matches seek linked_to event_node split_fake put at add_behind split_at
    place_at sought_in inserted inserted_table flagged entry push alternatives strand_from strands extended
    extended_all seen_in nodes_from event_nodes last_of arrive_at clear_at closer closest_of closest chain_end
    join_fake join_at joined_table names appended_all appended rebuilt join_step legs_to path_of link_of
    point_link point_offset leg_course event_at events_at leg_events fake_node first_nodes origin_event origin_run
    seek_leg grow_origins bad_finish finished_at waiting on_over save_over go_on is_destination finishes take_leg
    drive leads_to_end end_fakes last_node grown_with grow arc_to arc_to_end added_to moved_to insert_event
    joined_to with_joins run_event run_events add sub mul div lt le eq of_bits round sum to_bits is_nan neg
book204_grown = refl

-- refused with 10
abbrev book235 : List ℕ
book235 =
    0 ∷ 0 ∷ 0 ∷ 0 ∷ 0 ∷ 0 ∷ 240 ∷ 63 ∷ 0 ∷ 0 ∷ 0 ∷ 0 ∷ 0 ∷ 144 ∷ 126 ∷ 64 ∷ 0 ∷ 0 ∷ 0 ∷ 0 ∷ 0 ∷ 192 ∷ 96 ∷ 64 ∷ 5 ∷ 0
    ∷ 0 ∷ 0 ∷ 0 ∷ 0 ∷ 0 ∷ 0 ∷ 0 ∷ 0 ∷ 0 ∷ 0 ∷ 0 ∷ 0 ∷ 0 ∷ 0 ∷ 0 ∷ 0 ∷ 0 ∷ 0 ∷ 0 ∷ 0 ∷ 0 ∷ 0 ∷ 0 ∷ 0 ∷ 0 ∷ 0 ∷ 0 ∷ 0 ∷ 0
    ∷ 0 ∷ 0 ∷ 0 ∷ 111 ∷ 64 ∷
    2 ∷ 0 ∷ 0 ∷ 0 ∷ 0 ∷ 0 ∷ 0 ∷ 0 ∷ 0 ∷ 0 ∷ 0 ∷ 0 ∷ 0 ∷ 0 ∷ 0 ∷ 0 ∷ 0 ∷ 0 ∷ 0 ∷ 0 ∷ 0 ∷ 32 ∷ 125 ∷ 64 ∷ 3 ∷ 0 ∷ 0 ∷ 0
    ∷ 4 ∷ 0 ∷ 0 ∷ 0 ∷ 1 ∷ 0 ∷ 0 ∷ 0 ∷ 0 ∷ 0 ∷ 0 ∷ 0 ∷ 0 ∷ 0 ∷ 0 ∷ 0 ∷ 0 ∷ 224 ∷ 120 ∷ 64 ∷ 4 ∷ 0 ∷ 0 ∷ 0 ∷ 0 ∷ 0 ∷ 0 ∷ 0
    ∷ 2 ∷ 0 ∷ 0 ∷ 0 ∷
    0 ∷ 0 ∷ 0 ∷ 0 ∷ 0 ∷ 0 ∷ 0 ∷ 0 ∷ 0 ∷ 0 ∷ 90 ∷ 64 ∷ 0 ∷ 0 ∷ 0 ∷ 0 ∷ 0 ∷ 0 ∷ 0 ∷ 0 ∷ 2 ∷ 0 ∷ 0 ∷ 0 ∷ 3 ∷ 0 ∷ 0 ∷ 0 ∷ 1
    ∷ 0 ∷ 0 ∷ 0 ∷ 1 ∷ 0 ∷ 0 ∷ 0 ∷ 0 ∷ 0 ∷ 0 ∷ 0 ∷ 0 ∷ 0 ∷ 0 ∷ 0 ∷ 0 ∷ 0 ∷ 0 ∷ 0 ∷ 1 ∷ 0 ∷ 0 ∷ 0 ∷ 4 ∷ 0 ∷ 0 ∷ 0 ∷ 4
    ∷ 0 ∷ 0 ∷ 0 ∷
    1 ∷ 0 ∷ 0 ∷ 0 ∷ 0 ∷ 0 ∷ 0 ∷ 0 ∷ 3 ∷ 0 ∷ 0 ∷ 0 ∷ 2 ∷ 0 ∷ 0 ∷ 0 ∷ 1 ∷ 0 ∷ 0 ∷ 0 ∷ 3 ∷ 0 ∷ 0 ∷ 0 ∷ 4 ∷ 0 ∷ 0 ∷ 0 ∷ 2
    ∷ 0 ∷ 0 ∷ 0 ∷ 3 ∷ 0 ∷ 0 ∷ 0 ∷ 3 ∷ 0 ∷ 0 ∷ 0 ∷ 2 ∷ 0 ∷ 0 ∷ 0 ∷ 2 ∷ 0 ∷ 0 ∷ 0 ∷ 11 ∷ 0 ∷ 0 ∷ 0 ∷ 0 ∷ 0 ∷ 0 ∷ 0 ∷ 0
    ∷ 144 ∷ 126 ∷ 64 ∷
    0 ∷ 0 ∷ 0 ∷ 0 ∷ 0 ∷ 192 ∷ 96 ∷ 64 ∷ 0 ∷ 0 ∷ 0 ∷ 0 ∷ 0 ∷ 0 ∷ 0 ∷ 0 ∷ 0 ∷ 0 ∷ 0 ∷ 0 ∷ 0 ∷ 136 ∷ 127 ∷ 64 ∷ 0 ∷ 0 ∷ 0
    ∷ 0 ∷ 0 ∷ 128 ∷ 104 ∷ 64 ∷ 0 ∷ 0 ∷ 0 ∷ 0 ∷ 0 ∷ 0 ∷ 32 ∷ 64 ∷ 0 ∷ 0 ∷ 0 ∷ 0 ∷ 0 ∷ 190 ∷ 127 ∷ 64 ∷ 0 ∷ 0 ∷ 0 ∷ 0 ∷ 0
    ∷ 224 ∷ 107 ∷ 64 ∷ 0 ∷ 0 ∷ 0 ∷ 0 ∷
    0 ∷ 0 ∷ 32 ∷ 64 ∷ 0 ∷ 0 ∷ 0 ∷ 0 ∷ 0 ∷ 190 ∷ 127 ∷ 64 ∷ 0 ∷ 0 ∷ 0 ∷ 0 ∷ 0 ∷ 224 ∷ 107 ∷ 64 ∷ 0 ∷ 0 ∷ 0 ∷ 0 ∷ 0 ∷ 0
    ∷ 32 ∷ 64 ∷ 0 ∷ 0 ∷ 0 ∷ 0 ∷ 0 ∷ 175 ∷ 129 ∷ 64 ∷ 0 ∷ 0 ∷ 0 ∷ 0 ∷ 0 ∷ 224 ∷ 107 ∷ 64 ∷ 0 ∷ 0 ∷ 0 ∷ 0 ∷ 0 ∷ 0 ∷ 32
    ∷ 64 ∷ 0 ∷ 0 ∷ 0 ∷ 0 ∷ 0 ∷ 119 ∷ 131 ∷ 64 ∷
    0 ∷ 0 ∷ 0 ∷ 0 ∷ 0 ∷ 224 ∷ 107 ∷ 64 ∷ 0 ∷ 0 ∷ 0 ∷ 0 ∷ 0 ∷ 0 ∷ 0 ∷ 0 ∷ 0 ∷ 0 ∷ 0 ∷ 0 ∷ 0 ∷ 119 ∷ 131 ∷ 64 ∷ 0 ∷ 0 ∷ 0
    ∷ 0 ∷ 0 ∷ 224 ∷ 107 ∷ 64 ∷ 0 ∷ 0 ∷ 0 ∷ 0 ∷ 0 ∷ 0 ∷ 0 ∷ 0 ∷ 0 ∷ 0 ∷ 0 ∷ 0 ∷ 0 ∷ 199 ∷ 135 ∷ 64 ∷ 0 ∷ 0 ∷ 0 ∷ 0 ∷ 0
    ∷ 56 ∷ 136 ∷ 64 ∷ 0 ∷ 0 ∷ 0 ∷ 0
    ∷ 0 ∷ 0 ∷ 32 ∷ 64 ∷ 0 ∷ 0 ∷ 0 ∷ 0 ∷ 0 ∷ 231 ∷ 135 ∷ 64 ∷ 0 ∷ 0 ∷ 0 ∷ 0 ∷ 0 ∷ 56 ∷ 137 ∷ 64 ∷ 0 ∷ 0 ∷ 0 ∷ 0 ∷ 0 ∷ 0
    ∷ 32 ∷ 64 ∷ 0 ∷ 0 ∷ 0 ∷ 0 ∷ 0 ∷ 119 ∷ 131 ∷ 64 ∷ 0 ∷ 0 ∷ 0 ∷ 0 ∷ 0 ∷ 224 ∷ 107 ∷ 64 ∷ 0 ∷ 0 ∷ 0 ∷ 0 ∷ 0 ∷ 0 ∷ 0 ∷ 0
    ∷ 0 ∷ 0 ∷ 0 ∷ 0 ∷ 0 ∷ 239 ∷ 134 ∷ 64
    ∷ 0 ∷ 0 ∷ 0 ∷ 0 ∷ 0 ∷ 216 ∷ 132 ∷ 64 ∷ 0 ∷ 0 ∷ 0 ∷ 0 ∷ 0 ∷ 0 ∷ 32 ∷ 64 ∷ []

book235_grown : summary (grow book235 6 (lent 6)) ≡ 10 ∷ []
unfolding some_below sum_below u32_at u64_at billion table_float abs gap smaller root_digits whole_root root_of sqrt
    leg_below join_bits departure_bits length_bits links origins_at_of origins destinations_at_of destinations
    legs_at_of legs samples_at_of samples end_of sections_of link_length link_next link_next_alt link_prev
    link_prev_alt origin_link origin_offset origin_front destination_link leg_link leg_parent leg_samples
    sample_time sample_offset sample_speed first_sample link_at origin_at leg_at sample_from sample_at
    sample_patterns head_patterns member origin_below stacked pushed enter search options_of in_set kept_origins
    event_offset clears twice_ahead speed_at time_at passing_at bad_passing same_kind same_event node_at
    put_floats put_numbers no_link_event blank course_of first_beyond start_back start_front start offset_next
    in_range clears_next emits turned turn passed_as passed_next walk turns_left passed_from points_passed
    reaches_last bad_point some_bad row11 matches seek linked_to event_node split_fake put at add_behind split_at
    place_at sought_in inserted inserted_table flagged entry push alternatives strand_from strands extended
    extended_all seen_in nodes_from event_nodes last_of arrive_at clear_at closer closest_of closest chain_end
    join_fake join_at joined_table names appended_all appended rebuilt join_step legs_to path_of link_of
    point_link point_offset leg_course event_at events_at leg_events fake_node first_nodes origin_event origin_run
    seek_leg grow_origins bad_finish finished_at waiting on_over save_over go_on is_destination finishes take_leg
    drive leads_to_end end_fakes last_node grown_with grow arc_to arc_to_end added_to moved_to insert_event
    joined_to with_joins run_event run_events add sub mul div lt le eq of_bits round sum to_bits is_nan neg
book235_grown = refl

-- refused with 13
abbrev book790 : List ℕ
book790 =
    0 ∷ 0 ∷ 0 ∷ 0 ∷ 0 ∷ 0 ∷ 248 ∷ 63 ∷ 116 ∷ 119 ∷ 63 ∷ 35 ∷ 181 ∷ 127 ∷ 132 ∷ 64 ∷ 0 ∷ 0 ∷ 0 ∷ 0 ∷ 0 ∷ 0 ∷ 0 ∷ 0 ∷ 4
    ∷ 0 ∷ 0 ∷ 0 ∷ 0 ∷ 0 ∷ 0 ∷ 0 ∷ 0 ∷ 0 ∷ 0 ∷ 0 ∷ 0 ∷ 0 ∷ 0 ∷ 0 ∷ 0 ∷ 0 ∷ 0 ∷ 0 ∷ 0 ∷ 0 ∷ 0 ∷ 0 ∷ 0 ∷ 0 ∷ 0 ∷ 0 ∷ 236
    ∷ 252 ∷ 45 ∷ 229 ∷ 199 ∷ 90 ∷ 247 ∷ 63 ∷
    0 ∷ 0 ∷ 0 ∷ 0 ∷ 0 ∷ 0 ∷ 0 ∷ 0 ∷ 2 ∷ 0 ∷ 0 ∷ 0 ∷ 3 ∷ 0 ∷ 0 ∷ 0 ∷ 68 ∷ 93 ∷ 242 ∷ 208 ∷ 255 ∷ 24 ∷ 3 ∷ 64 ∷ 3 ∷ 0 ∷ 0
    ∷ 0 ∷ 1 ∷ 0 ∷ 0 ∷ 0 ∷ 0 ∷ 0 ∷ 0 ∷ 0 ∷ 0 ∷ 0 ∷ 0 ∷ 0 ∷ 208 ∷ 150 ∷ 128 ∷ 249 ∷ 207 ∷ 252 ∷ 249 ∷ 63 ∷ 1 ∷ 0 ∷ 0 ∷ 0
    ∷ 0 ∷ 0 ∷ 0 ∷ 0 ∷ 2 ∷ 0 ∷ 0 ∷ 0 ∷
    0 ∷ 0 ∷ 0 ∷ 0 ∷ 1 ∷ 0 ∷ 0 ∷ 0 ∷ 2 ∷ 0 ∷ 0 ∷ 0 ∷ 0 ∷ 0 ∷ 0 ∷ 0 ∷ 0 ∷ 0 ∷ 0 ∷ 0 ∷ 0 ∷ 0 ∷ 0 ∷ 0 ∷ 1 ∷ 0 ∷ 0 ∷ 0 ∷ 1
    ∷ 0 ∷ 0 ∷ 0 ∷ 4 ∷ 0 ∷ 0 ∷ 0 ∷ 2 ∷ 0 ∷ 0 ∷ 0 ∷ 0 ∷ 0 ∷ 0 ∷ 0 ∷ 3 ∷ 0 ∷ 0 ∷ 0 ∷ 1 ∷ 0 ∷ 0 ∷ 0 ∷ 1 ∷ 0 ∷ 0 ∷ 0 ∷ 1 ∷ 0
    ∷ 0 ∷ 0 ∷
    3 ∷ 0 ∷ 0 ∷ 0 ∷ 1 ∷ 0 ∷ 0 ∷ 0 ∷ 2 ∷ 0 ∷ 0 ∷ 0 ∷ 1 ∷ 0 ∷ 0 ∷ 0 ∷ 3 ∷ 0 ∷ 0 ∷ 0 ∷ 2 ∷ 0 ∷ 0 ∷ 0 ∷ 8 ∷ 0 ∷ 0 ∷ 0 ∷ 116
    ∷ 119 ∷ 63 ∷ 35 ∷ 181 ∷ 127 ∷ 132 ∷ 64 ∷ 190 ∷ 228 ∷ 213 ∷ 189 ∷ 80 ∷ 92 ∷ 2 ∷ 64 ∷ 0 ∷ 0 ∷ 0 ∷ 0 ∷ 0 ∷ 0 ∷ 50
    ∷ 64 ∷ 38 ∷ 114 ∷ 49 ∷ 183 ∷ 76 ∷ 29 ∷ 134 ∷ 64 ∷
    190 ∷ 228 ∷ 213 ∷ 189 ∷ 80 ∷ 92 ∷ 2 ∷ 64 ∷ 0 ∷ 0 ∷ 0 ∷ 0 ∷ 0 ∷ 0 ∷ 0 ∷ 0 ∷ 194 ∷ 21 ∷ 219 ∷ 223 ∷ 60 ∷ 52 ∷ 134 ∷ 64
    ∷ 190 ∷ 228 ∷ 213 ∷ 189 ∷ 80 ∷ 92 ∷ 2 ∷ 64 ∷ 0 ∷ 0 ∷ 0 ∷ 0 ∷ 0 ∷ 0 ∷ 50 ∷ 64 ∷ 194 ∷ 21 ∷ 219 ∷ 223 ∷ 60 ∷ 52
    ∷ 134 ∷ 64 ∷ 190 ∷ 228 ∷ 213 ∷ 189 ∷ 80 ∷ 92 ∷ 2 ∷ 64 ∷ 0 ∷ 0 ∷ 0 ∷ 0 ∷
    0 ∷ 0 ∷ 50 ∷ 64 ∷ 194 ∷ 21 ∷ 219 ∷ 223 ∷ 60 ∷ 52 ∷ 134 ∷ 64 ∷ 190 ∷ 228 ∷ 213 ∷ 189 ∷ 80 ∷ 92 ∷ 2 ∷ 64 ∷ 0 ∷ 0 ∷ 0
    ∷ 0 ∷ 0 ∷ 0 ∷ 50 ∷ 64 ∷ 146 ∷ 213 ∷ 205 ∷ 193 ∷ 163 ∷ 52 ∷ 134 ∷ 64 ∷ 248 ∷ 130 ∷ 82 ∷ 207 ∷ 51 ∷ 152 ∷ 9 ∷ 64 ∷ 0
    ∷ 0 ∷ 0 ∷ 0 ∷ 0 ∷ 0 ∷ 50 ∷ 64 ∷ 146 ∷ 213 ∷ 205 ∷ 193 ∷ 163 ∷ 52 ∷ 134 ∷ 64 ∷
    248 ∷ 130 ∷ 82 ∷ 207 ∷ 51 ∷ 152 ∷ 9 ∷ 64 ∷ 0 ∷ 0 ∷ 0 ∷ 0 ∷ 0 ∷ 0 ∷ 50 ∷ 64 ∷ 33 ∷ 13 ∷ 114 ∷ 160 ∷ 149 ∷ 53 ∷ 134
    ∷ 64 ∷ 216 ∷ 70 ∷ 157 ∷ 173 ∷ 237 ∷ 76 ∷ 21 ∷ 64 ∷ 0 ∷ 0 ∷ 0 ∷ 0 ∷ 0 ∷ 0 ∷ 50 ∷ 64 ∷ []

book790_grown : summary (grow book790 8 (lent 8)) ≡ 13 ∷ []
unfolding some_below sum_below u32_at u64_at billion table_float abs gap smaller root_digits whole_root root_of sqrt
    leg_below join_bits departure_bits length_bits links origins_at_of origins destinations_at_of destinations
    legs_at_of legs samples_at_of samples end_of sections_of link_length link_next link_next_alt link_prev
    link_prev_alt origin_link origin_offset origin_front destination_link leg_link leg_parent leg_samples
    sample_time sample_offset sample_speed first_sample link_at origin_at leg_at sample_from sample_at
    sample_patterns head_patterns member origin_below stacked pushed enter search options_of in_set kept_origins
    event_offset clears twice_ahead speed_at time_at passing_at bad_passing same_kind same_event node_at
    put_floats put_numbers no_link_event blank course_of first_beyond start_back start_front start offset_next
    in_range clears_next emits turned turn passed_as passed_next walk turns_left passed_from points_passed
    reaches_last bad_point some_bad row11 matches seek linked_to event_node split_fake put at add_behind split_at
    place_at sought_in inserted inserted_table flagged entry push alternatives strand_from strands extended
    extended_all seen_in nodes_from event_nodes last_of arrive_at clear_at closer closest_of closest chain_end
    join_fake join_at joined_table names appended_all appended rebuilt join_step legs_to path_of link_of
    point_link point_offset leg_course event_at events_at leg_events fake_node first_nodes origin_event origin_run
    seek_leg grow_origins bad_finish finished_at waiting on_over save_over go_on is_destination finishes take_leg
    drive leads_to_end end_fakes last_node grown_with grow arc_to arc_to_end added_to moved_to insert_event
    joined_to with_joins run_event run_events add sub mul div lt le eq of_bits round sum to_bits is_nan neg
book790_grown = refl

-- 2 splits, 1 joined, 2 finished
abbrev book809 : List ℕ
book809 =
    0 ∷ 0 ∷ 0 ∷ 0 ∷ 0 ∷ 0 ∷ 20 ∷ 64 ∷ 0 ∷ 0 ∷ 0 ∷ 0 ∷ 0 ∷ 208 ∷ 139 ∷ 64 ∷ 0 ∷ 0 ∷ 0 ∷ 0 ∷ 0 ∷ 0 ∷ 240 ∷ 63 ∷ 4 ∷ 0 ∷ 0
    ∷ 0 ∷ 0 ∷ 0 ∷ 0 ∷ 0 ∷ 0 ∷ 0 ∷ 0 ∷ 0 ∷ 0 ∷ 0 ∷ 0 ∷ 0 ∷ 0 ∷ 0 ∷ 0 ∷ 0 ∷ 0 ∷ 0 ∷ 0 ∷ 0 ∷ 0 ∷ 0 ∷ 0 ∷ 0 ∷ 0 ∷ 0 ∷ 0
    ∷ 0 ∷ 0 ∷ 0 ∷ 8 ∷ 64 ∷
    2 ∷ 0 ∷ 0 ∷ 0 ∷ 0 ∷ 0 ∷ 0 ∷ 0 ∷ 0 ∷ 0 ∷ 0 ∷ 0 ∷ 0 ∷ 0 ∷ 0 ∷ 0 ∷ 0 ∷ 0 ∷ 0 ∷ 0 ∷ 0 ∷ 0 ∷ 16 ∷ 64 ∷ 2 ∷ 0 ∷ 0 ∷ 0 ∷ 3
    ∷ 0 ∷ 0 ∷ 0 ∷ 1 ∷ 0 ∷ 0 ∷ 0 ∷ 2 ∷ 0 ∷ 0 ∷ 0 ∷ 0 ∷ 0 ∷ 0 ∷ 0 ∷ 0 ∷ 0 ∷ 240 ∷ 63 ∷ 0 ∷ 0 ∷ 0 ∷ 0 ∷ 0 ∷ 0 ∷ 0 ∷ 0 ∷ 2
    ∷ 0 ∷ 0 ∷ 0 ∷
    0 ∷ 0 ∷ 0 ∷ 0 ∷ 1 ∷ 0 ∷ 0 ∷ 0 ∷ 1 ∷ 0 ∷ 0 ∷ 0 ∷ 0 ∷ 0 ∷ 0 ∷ 0 ∷ 0 ∷ 0 ∷ 0 ∷ 0 ∷ 0 ∷ 0 ∷ 0 ∷ 0 ∷ 1 ∷ 0 ∷ 0 ∷ 0 ∷ 3
    ∷ 0 ∷ 0 ∷ 0 ∷ 6 ∷ 0 ∷ 0 ∷ 0 ∷ 1 ∷ 0 ∷ 0 ∷ 0 ∷ 0 ∷ 0 ∷ 0 ∷ 0 ∷ 2 ∷ 0 ∷ 0 ∷ 0 ∷ 2 ∷ 0 ∷ 0 ∷ 0 ∷ 1 ∷ 0 ∷ 0 ∷ 0 ∷ 1 ∷ 0
    ∷ 0 ∷ 0 ∷
    3 ∷ 0 ∷ 0 ∷ 0 ∷ 2 ∷ 0 ∷ 0 ∷ 0 ∷ 2 ∷ 0 ∷ 0 ∷ 0 ∷ 2 ∷ 0 ∷ 0 ∷ 0 ∷ 2 ∷ 0 ∷ 0 ∷ 0 ∷ 2 ∷ 0 ∷ 0 ∷ 0 ∷ 3 ∷ 0 ∷ 0 ∷ 0 ∷ 4
    ∷ 0 ∷ 0 ∷ 0 ∷ 2 ∷ 0 ∷ 0 ∷ 0 ∷ 2 ∷ 0 ∷ 0 ∷ 0 ∷ 4 ∷ 0 ∷ 0 ∷ 0 ∷ 2 ∷ 0 ∷ 0 ∷ 0 ∷ 11 ∷ 0 ∷ 0 ∷ 0 ∷ 0 ∷ 0 ∷ 0 ∷ 0 ∷ 0
    ∷ 208 ∷ 139 ∷ 64 ∷
    0 ∷ 0 ∷ 0 ∷ 0 ∷ 0 ∷ 0 ∷ 240 ∷ 63 ∷ 0 ∷ 0 ∷ 0 ∷ 0 ∷ 0 ∷ 0 ∷ 240 ∷ 63 ∷ 85 ∷ 85 ∷ 85 ∷ 85 ∷ 85 ∷ 213 ∷ 139 ∷ 64 ∷ 0
    ∷ 0 ∷ 0 ∷ 0 ∷ 0 ∷ 0 ∷ 0 ∷ 64 ∷ 0 ∷ 0 ∷ 0 ∷ 0 ∷ 0 ∷ 0 ∷ 0 ∷ 64 ∷ 85 ∷ 85 ∷ 85 ∷ 85 ∷ 85 ∷ 213 ∷ 139 ∷ 64 ∷ 0 ∷ 0 ∷ 0
    ∷ 0 ∷ 0 ∷ 0 ∷ 0 ∷ 64 ∷ 0 ∷ 0 ∷ 0 ∷ 0 ∷
    0 ∷ 0 ∷ 0 ∷ 64 ∷ 85 ∷ 85 ∷ 85 ∷ 85 ∷ 85 ∷ 213 ∷ 139 ∷ 64 ∷ 0 ∷ 0 ∷ 0 ∷ 0 ∷ 0 ∷ 0 ∷ 0 ∷ 64 ∷ 0 ∷ 0 ∷ 0 ∷ 0 ∷ 0 ∷ 0
    ∷ 0 ∷ 64 ∷ 0 ∷ 0 ∷ 0 ∷ 0 ∷ 0 ∷ 240 ∷ 139 ∷ 64 ∷ 0 ∷ 0 ∷ 0 ∷ 0 ∷ 0 ∷ 0 ∷ 28 ∷ 64 ∷ 0 ∷ 0 ∷ 0 ∷ 0 ∷ 0 ∷ 0 ∷ 240 ∷ 63
    ∷ 85 ∷ 85 ∷ 85 ∷ 85 ∷ 85 ∷ 213 ∷ 139 ∷ 64 ∷
    0 ∷ 0 ∷ 0 ∷ 0 ∷ 0 ∷ 0 ∷ 0 ∷ 64 ∷ 0 ∷ 0 ∷ 0 ∷ 0 ∷ 0 ∷ 0 ∷ 0 ∷ 64 ∷ 122 ∷ 158 ∷ 231 ∷ 121 ∷ 158 ∷ 231 ∷ 139 ∷ 64 ∷ 0
    ∷ 0 ∷ 0 ∷ 0 ∷ 0 ∷ 0 ∷ 24 ∷ 64 ∷ 0 ∷ 0 ∷ 0 ∷ 0 ∷ 0 ∷ 0 ∷ 248 ∷ 63 ∷ 122 ∷ 158 ∷ 231 ∷ 121 ∷ 158 ∷ 231 ∷ 139 ∷ 64 ∷ 0
    ∷ 0 ∷ 0 ∷ 0 ∷ 0 ∷ 0 ∷ 24 ∷ 64 ∷ 0 ∷ 0 ∷ 0 ∷ 0 ∷
    0 ∷ 0 ∷ 248 ∷ 63 ∷ 122 ∷ 158 ∷ 231 ∷ 121 ∷ 158 ∷ 7 ∷ 140 ∷ 64 ∷ 0 ∷ 0 ∷ 0 ∷ 0 ∷ 0 ∷ 0 ∷ 38 ∷ 64 ∷ 0 ∷ 0 ∷ 0 ∷ 0 ∷ 0
    ∷ 0 ∷ 240 ∷ 63 ∷ 122 ∷ 158 ∷ 231 ∷ 121 ∷ 158 ∷ 231 ∷ 139 ∷ 64 ∷ 0 ∷ 0 ∷ 0 ∷ 0 ∷ 0 ∷ 0 ∷ 24 ∷ 64 ∷ 0 ∷ 0 ∷ 0 ∷ 0
    ∷ 0 ∷ 0 ∷ 248 ∷ 63 ∷ 207 ∷ 243 ∷ 60 ∷ 207 ∷ 243 ∷ 252 ∷ 139 ∷ 64
    ∷ 0 ∷ 0 ∷ 0 ∷ 0 ∷ 0 ∷ 0 ∷ 36 ∷ 64 ∷ 0 ∷ 0 ∷ 0 ∷ 0 ∷ 0 ∷ 0 ∷ 248 ∷ 63 ∷ []

book809_grown : summary (grow book809 40 (lent 40)) ≡ 16 ∷ 8 ∷ 2 ∷ 1 ∷ 2 ∷ 2 ∷ 0 ∷ 1 ∷ 0 ∷ 0 ∷ 0 ∷ 0 ∷ 0 ∷ 0 ∷ 2 ∷ 0 ∷ 2
    ∷ 0 ∷ 0 ∷ 0 ∷ 0 ∷ 0 ∷ 0 ∷ 0 ∷ 1 ∷ 3 ∷ 0 ∷ 1 ∷ 0 ∷ 0 ∷ 4607182418800017408 ∷ 0 ∷ 1 ∷ 1 ∷ 4 ∷ 0 ∷ 2 ∷ 0 ∷
    4607998208032306688 ∷ 4611686018427387904 ∷ 0 ∷ 0 ∷ 2 ∷ 5 ∷ 0 ∷ 3 ∷ 0 ∷ 4603103615400740864 ∷ 4607182418800017408 ∷
    4611179177059995450 ∷ 1 ∷ 2 ∷ 6 ∷ 11 ∷ 4 ∷ 7 ∷ 4611193973893833728 ∷ 4613937818241073152 ∷ 4610640133763304104 ∷ 0 ∷
    2 ∷ 7 ∷ 8 ∷ 5 ∷ 0 ∷ 4604180019048436736 ∷ 4607182418800017408 ∷ 4609434218613702656 ∷ 2 ∷ 0 ∷ 5 ∷ 0 ∷ 6 ∷ 0 ∷ 0 ∷ 0
    ∷ 0 ∷ 2 ∷ 0 ∷ 9 ∷ 0 ∷ 6 ∷ 0 ∷ 4604756809356684288 ∷ 4607182418800017408 ∷ 0 ∷ 1 ∷ 2 ∷ 10 ∷ 0 ∷ 8 ∷ 0
    ∷ 4612998829527786496 ∷ 4613937818241073152 ∷ 4608636521481959658 ∷ 0 ∷ 3 ∷ 14 ∷ 0 ∷ 9 ∷ 0 ∷ 0 ∷ 0
    ∷ 4607182418800017408 ∷ 2 ∷ 0 ∷ 12 ∷ 0 ∷ 5 ∷ 0 ∷ 4612236358700182016 ∷ 4613937818241073152 ∷ 0 ∷ 0 ∷ 3 ∷ 13 ∷ 0 ∷ 11
    ∷ 0 ∷ 0 ∷
    0 ∷ 4607182418800017408 ∷ 2 ∷ 0 ∷ 14 ∷ 0 ∷ 12 ∷ 0 ∷ 0 ∷ 0 ∷ 0 ∷ 2 ∷ 0 ∷ 15 ∷ 0 ∷ 10 ∷ 13 ∷ 0 ∷ 0 ∷ 0 ∷ 2 ∷ 0 ∷ 0 ∷ 0
    ∷ 14 ∷ 0 ∷ 0 ∷ 0 ∷ 0 ∷ []
unfolding some_below sum_below u32_at u64_at billion table_float abs gap smaller root_digits whole_root root_of sqrt
    leg_below join_bits departure_bits length_bits links origins_at_of origins destinations_at_of destinations
    legs_at_of legs samples_at_of samples end_of sections_of link_length link_next link_next_alt link_prev
    link_prev_alt origin_link origin_offset origin_front destination_link leg_link leg_parent leg_samples
    sample_time sample_offset sample_speed first_sample link_at origin_at leg_at sample_from sample_at
    sample_patterns head_patterns member origin_below stacked pushed enter search options_of in_set kept_origins
    event_offset clears twice_ahead speed_at time_at passing_at bad_passing same_kind same_event node_at
    put_floats put_numbers no_link_event blank course_of first_beyond start_back start_front start offset_next
    in_range clears_next emits turned turn passed_as passed_next walk turns_left passed_from points_passed
    reaches_last bad_point some_bad row11 matches seek linked_to event_node split_fake put at add_behind split_at
    place_at sought_in inserted inserted_table flagged entry push alternatives strand_from strands extended
    extended_all seen_in nodes_from event_nodes last_of arrive_at clear_at closer closest_of closest chain_end
    join_fake join_at joined_table names appended_all appended rebuilt join_step legs_to path_of link_of
    point_link point_offset leg_course event_at events_at leg_events fake_node first_nodes origin_event origin_run
    seek_leg grow_origins bad_finish finished_at waiting on_over save_over go_on is_destination finishes take_leg
    drive leads_to_end end_fakes last_node grown_with grow arc_to arc_to_end added_to moved_to insert_event
    joined_to with_joins run_event run_events add sub mul div lt le eq of_bits round sum to_bits is_nan neg
book809_grown = refl
