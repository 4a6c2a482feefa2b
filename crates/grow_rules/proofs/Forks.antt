-- Books with forks, made by hand. What they give was worked out from document 01's words, and harness/reference answers
-- the same: the counts and the network, or the refusal's number.
use mathlib.Core.Path.{◌≡◌, refl}
use mathlib.Core.Bool.{true, false}
use mathlib.Core.List.{List, [], ◌∷◌, ◌++◌}
use Prim.Native.Nat.{ℕ, ◌*◌}
use lib.ListN.{replicate}
use lib.Ieee.{binary64, of_bits, to_bits, of_int, add, sub, mul, div, lt, le, eq, round, sum, is_nan, neg}
use Rattle.laws.specs.Answer.{Answer, refused, given}
use Rattle.net_node.specs.Table.{Table, table_of, put, at, with_next, float_width, number_width}
use Rattle.grow_rules.specs.Run.{Arc, Net, Run}
use Rattle.grow_rules.specs.Growth.{Grown}
use Rattle.laws.specs.Below.{some_below, sum_below}
use Rattle.fields.specs.Fields.{u32_at, u64_at}
use Rattle.floats.specs.Floats.{billion, table_float, abs, gap, smaller}
use Rattle.root.specs.Root.{root_digits, whole_root, root_of, sqrt}
use Rattle.book_format.specs.Chains.{leg_below}
use Rattle.book_format.specs.Format.{join_bits, departure_bits, length_bits, links, origins_at_of, origins}
use Rattle.book_format.specs.Format.{destinations_at_of, destinations, legs_at_of, legs, samples_at_of, samples, end_of}
use Rattle.book_format.specs.Format.{sections_of, link_length, link_next, link_next_alt, link_prev, link_prev_alt}
use Rattle.book_format.specs.Format.{origin_link, origin_offset, origin_front, destination_link, leg_link, leg_parent}
use Rattle.book_format.specs.Format.{leg_samples, sample_time, sample_offset, sample_speed, first_sample, link_at}
use Rattle.book_format.specs.Format.{origin_at, leg_at, sample_from, sample_at, sample_patterns, head_patterns}
use Rattle.book_options.specs.Options.{member, origin_below, stacked, pushed, enter, search, options_of, in_set}
use Rattle.book_options.specs.Options.{kept_origins}
use Rattle.event_formula.specs.Event.{event_offset, clears, twice_ahead, speed_at, time_at, passing_at, bad_passing}
use Rattle.net_node.specs.Table.{same_kind, same_event, node_at, put_floats, put_numbers, no_link_event, blank}
use Rattle.event_walk.specs.Course.{course_of}
use Rattle.event_walk.specs.Walk.{first_beyond, start_back, start_front, start, offset_next, in_range, clears_next}
use Rattle.event_walk.specs.Walk.{emits, turned, turn, passed_as, passed_next, walk, turns_left, passed_from}
use Rattle.event_walk.specs.Walk.{points_passed, reaches_last, bad_point, some_bad, row11}
use Rattle.net_insertion.specs.Insertion.{matches, seek, linked_to, event_node, split_fake, add_behind, split_at}
use Rattle.net_insertion.specs.Insertion.{place_at, sought_in, inserted, inserted_table, flagged}
use Rattle.net_join_paths.specs.Entries.{entry, push}
use Rattle.net_strands.specs.Space.{alternatives, strand_from, strands, extended, extended_all}
use Rattle.net_event_map.specs.EventMap.{seen_in, nodes_from, event_nodes, last_of, arrive_at, clear_at}
use Rattle.net_joins.specs.Joins.{closer, closest_of, closest, chain_end, join_fake, join_at, joined_table, names}
use Rattle.net_joins.specs.Joins.{appended_all, appended, rebuilt, join_step}
use Rattle.grow_path.specs.Path.{legs_to, path_of, link_of, point_link, point_offset, leg_course, event_at, events_at}
use Rattle.grow_path.specs.Path.{leg_events}
use Rattle.grow_rules.specs.Growth.{fake_node, first_nodes, origin_event, origin_run, seek_leg, grow_origins}
use Rattle.grow_rules.specs.Growth.{bad_finish, finished_at, waiting, on_over, save_over, go_on, is_destination}
use Rattle.grow_rules.specs.Growth.{finishes, take_leg, drive, leads_to_end, end_fakes, last_node, grown_with, grow}
use Rattle.grow_rules.specs.Run.{arc_to, arc_to_end, added_to, moved_to, insert_event, joined_to, with_joins, run_event}
use Rattle.grow_rules.specs.Run.{run_events}
use Rattle.book_format.proofs.SmallBooks.{whole, float, number, link, origin, leg, sample, section, book, link0, link2}
use Rattle.book_format.proofs.SmallBooks as Small

-- a table of so many places, zero
abbrev lent : ℕ → Table
lent n = record { floats = replicate (n * float_width) (of_bits binary64 0); numbers = replicate (n * number_width) 0 }

-- what growth counts and notes, or the refusal's number
record Answered : Type 0 where
  number : ℕ
  nodes : ℕ
  added : ℕ
  splits : ℕ
  joined : ℕ
  finished : ℕ
  noted : List Arc

-- the noted arcs are kept the latest first; here the first comes first
abbrev in_order : List Arc → List Arc → List Arc
in_order [] later = later
in_order (a ∷ before) later = in_order before (a ∷ later)

abbrev answer : Answer Grown → Answered
answer (refused n) = record { number = n; nodes = 0; added = 0; splits = 0; joined = 0; finished = 0; noted = [] }
answer (given g) = record {
  number = 0;
  nodes = g.nodes;
  added = g.added;
  splits = g.splits;
  joined = g.joined;
  finished = g.finished;
  noted = in_order g.noted [];
}

abbrev refusal : {A : Type 0} → Answer A → ℕ
refusal (refused n) = n
refusal (given a) = 0

-- an arc with whole seconds and metres; to 0: the end
abbrev arc : ℕ → ℕ → ℕ → ℕ → Arc
arc from to time distance = record { from = from; to = to; time = whole time; distance = whole distance }

-- ---- two forks

-- Links of 100 m: 1 leads to 2 and to 3, both lead to 4, and 4 to 5 and to 6, which are the destinations. A train of
-- 20 m departs at 0 s; it is at 10 m/s wherever a sample or an event is. J is 1.
abbrev forks : List ℕ
forks =
    book (float 1 ++ float 0 ++ float 20)
    (section
    (link0
    ∷ link (float 100) 2 3 0 0
    ∷ link (float 100) 4 0 1 0
    ∷ link (float 100) 4 0 1 0
    ∷ link (float 100) 5 6 2 3
    ∷ link (float 100) 0 0 4 0
    ∷ link (float 100) 0 0 4 0
    ∷ []))
    Small.origins (section (number 5 ∷ number 6 ∷ []))
    (section
    (leg 1 0 2
    ∷ leg 2 1 2
    ∷ leg 4 2 2
    ∷ leg 5 3 2
    ∷ leg 6 3 3
    ∷ leg 3 1 2
    ∷ leg 4 6 2
    ∷ leg 5 7 2
    ∷ leg 6 7 2
    ∷ []))
    (section
    (sample 0 20 10 ∷ sample 7 90 10
    ∷ sample 7 90 10 ∷ sample 17 190 10
    ∷ sample 17 190 10 ∷ sample 19 210 10
    ∷ sample 19 210 10 ∷ sample 37 390 10
    ∷ sample 19 210 10 ∷ sample 22 230 10 ∷ sample 38 390 10
    ∷ sample 7 90 10 ∷ sample 18 190 10
    ∷ sample 18 190 10 ∷ sample 20 210 10
    ∷ sample 20 210 10 ∷ sample 38 390 10
    ∷ sample 20 210 10 ∷ sample 39 390 10
    ∷ []))

-- Four runs, the last saved first. A is an Arrive, C a Clear, each with its link and when and where the run has it.
abbrev forks_noted : List Arc
forks_noted =
    -- 1, 2, 4, 5: A1 (0 s, 0 m) is node 2, C1 (0, 20) 3, A2 (8, 100) 4, C2 (10, 120) 5, A4 (18, 200) 6, C4 (20, 220) 7,
    -- A5 (28, 300) 8, C5 (30, 320) 9; it finishes there
    arc 1 2 0 0
    ∷ arc 2 3 0 20
    ∷ arc 3 4 8 80
    ∷ arc 4 5 2 20
    ∷ arc 5 6 8 80
    ∷ arc 6 7 2 20
    ∷ arc 7 8 8 80
    ∷ arc 8 9 2 20
    ∷ arc 9 0 0 0
    -- then 6, saved at A4: C4 (21, 220) moves to node 7, whose own run had it at 20 s; from there by a split, the Fake
    -- 10: A6 (29, 300) 11, C6 (31, 320) 12; it finishes
    ∷ arc 7 11 8 80
    ∷ arc 11 12 2 20
    ∷ arc 12 0 0 0
    -- 3, 4, 5, saved at C1: by a split, the Fake 13: A3 (9, 100) 14, C3 (11, 120) 15, A4 (19, 200) 16; C4 (21, 220)
    -- joins node 7, through the Fake 17
    ∷ arc 3 14 9 80
    ∷ arc 14 15 2 20
    ∷ arc 15 16 8 80
    ∷ arc 16 7 2 20
    -- then 6, saved at that A4 with the entry (4, 6): by a split, the Fake 18: C4 (22, 220) 19, A6 (30, 300) 20. There
    -- the entry leads to node 11, which is then not appended with 6 for its m; C6 (32, 320) 21 joins nothing and the
    -- run finishes
    ∷ arc 16 19 3 20
    ∷ arc 19 20 8 80
    ∷ arc 20 21 2 20
    ∷ arc 21 0 0 0
    ∷ []

-- ---- "Only a run that has added since its pop joins."

-- 1 leads to 2, 2 to 3 and to 4, 3 to 4, the destination. The run over 3 goes first. The other, saved at A2, moves to
-- its C2; A4, which the first has as node 8, is its own first addition and finds it nothing. So its C4 joins nothing.
abbrev detour : List ℕ
detour =
    book (float 1 ++ float 0 ++ float 20)
    (section
    (link0
    ∷ link (float 100) 2 0 0 0
    ∷ link (float 100) 3 4 1 0
    ∷ link (float 100) 4 0 2 0
    ∷ link (float 100) 0 0 3 2
    ∷ []))
    Small.origins (section (number 4 ∷ [])) (section (leg 1 0 2 ∷ leg 2 1 2 ∷ leg 3 2 2 ∷ leg 4 3 2 ∷ leg 4 2 2 ∷ []))
    (section
    (sample 0 20 10 ∷ sample 7 90 10
    ∷ sample 7 90 10 ∷ sample 9 110 10
    ∷ sample 9 110 10 ∷ sample 27 290 10
    ∷ sample 27 290 10 ∷ sample 37 390 10
    ∷ sample 9 110 10 ∷ sample 27 290 10
    ∷ []))

-- A1 is node 2, C1 3, A2 4, C2 5, A3 6, C3 7, A4 8, C4 9; then behind the Fake 10 A4 11 and C4 12
abbrev detour_noted : List Arc
detour_noted =
    arc 1 2 0 0
    ∷ arc 2 3 0 20
    ∷ arc 3 4 8 80
    ∷ arc 4 5 2 20
    ∷ arc 5 6 8 80
    ∷ arc 6 7 2 20
    ∷ arc 7 8 8 80
    ∷ arc 8 9 2 20
    ∷ arc 9 0 0 0
    ∷ arc 5 11 8 80
    ∷ arc 11 12 2 20
    ∷ arc 12 0 0 0
    ∷ []

-- ---- "last saved run first"

-- 1 and 2, the origins, lead to 3, the destination. Link 1's origin is kept first, and so the run from 2 is taken up
-- first: its A3 (9, 100) is node 7; that from 1 has A3 (8, 100) as node 9.
abbrev two_origins : List ℕ
two_origins =
    book (float 1 ++ float 0 ++ float 20)
    (section (link0 ∷ link (float 100) 3 0 0 0 ∷ link (float 100) 3 0 0 0 ∷ link (float 100) 0 0 2 1 ∷ []))
    (section (origin 1 (float 0) 0 ∷ origin 2 (float 0) 0 ∷ [])) (section (number 3 ∷ []))
    (section (leg 1 0 2 ∷ leg 2 0 2 ∷ leg 3 1 2 ∷ leg 3 2 2 ∷ []))
    (section
    (sample 0 20 10 ∷ sample 7 90 10
    ∷ sample 0 20 10 ∷ sample 7 90 10
    ∷ sample 7 90 10 ∷ sample 17 190 10
    ∷ sample 7 90 10 ∷ sample 18 190 10
    ∷ []))

-- A1 is node 2, C1 3; behind the Fake 4, a split at the start, A2 5 and C2 6
abbrev two_origins_noted : List Arc
two_origins_noted =
    arc 1 2 0 0
    ∷ arc 2 3 0 20
    ∷ arc 1 5 0 0
    ∷ arc 5 6 0 20
    ∷ arc 6 7 9 80
    ∷ arc 7 8 2 20
    ∷ arc 8 0 0 0
    ∷ arc 3 9 8 80
    ∷ arc 9 10 2 20
    ∷ arc 10 0 0 0
    ∷ []

-- ---- row 13: "addition behind a finished run's event; finish .. on one .. already an end"

-- 1 leads to 2 and to 3, the destinations. On the way to 2 no event follows C1, node 3, and so the run finishes there.
-- What the other, saved there too, has over 3 is left open.
abbrev ended : ℕ → List (List ℕ) → List ℕ
ended n over =
    book (float 1 ++ float 0 ++ float 20)
    (section (link0 ∷ link (float 100) 2 3 0 0 ∷ link (float 100) 0 0 1 0 ∷ link (float 100) 0 0 1 0 ∷ []))
    Small.origins (section (number 2 ∷ number 3 ∷ [])) (section (leg 1 0 2 ∷ leg 2 1 1 ∷ leg 3 1 n ∷ []))
    (section (sample 0 20 10 ∷ sample 7 90 10 ∷ sample 7 90 10 ∷ over))

-- no event, so it finishes on the same node; or A3, which is to be added behind it
abbrev finished_twice : List ℕ
finished_twice = ended 1 (sample 7 90 10 ∷ [])

abbrev added_behind : List ℕ
added_behind = ended 2 (sample 7 90 10 ∷ sample 17 190 10 ∷ [])

-- ---- row 9: "next is 0"

-- the worked book, but link 2 is the alternative of link 1, which has no next
abbrev alternative_alone : List ℕ
alternative_alone =
    book Small.head (section (link0 ∷ link (float 12) 0 2 0 0 ∷ link2 ∷ [])) Small.origins Small.destinations Small.legs
    Small.samples

-- the worked book with another next of link 1, link 3, from which no destination is reached: the run goes on over the
-- alternative, and the sheet's arcs are the worked book's
abbrev over_alternative : List ℕ
over_alternative =
    book Small.head (section (link0 ∷ link (float 12) 3 2 0 0 ∷ link2 ∷ link (float 50) 0 0 1 0 ∷ [])) Small.origins
    Small.destinations Small.legs Small.samples

abbrev worked_noted : List Arc
worked_noted = arc 1 2 0 0 ∷ arc 2 3 0 10 ∷ arc 3 4 2 2 ∷ arc 4 5 3 10 ∷ arc 5 0 0 0 ∷ []

-- ---- what no small book shows by itself: closed networks and runs

-- a run that has taken leg 1 of the worked book, at a node, with so many join entries
abbrev run_at : ℕ → ℕ → Run
run_at i n = record {
  place = record { time_to_next = whole 0; dist_to_next = whole 0; idx_prev = i };
  leg = 1;
  has_split = true;
  joins = replicate n (entry 1 1);
  nodes = [];
}

-- the number for saving a run with so many entries, while one with three waits, on a table of 8 places
abbrev saving : ℕ → ℕ
saving n = refusal (save_over Small.worked 8 (run_at 3 n) 2 (run_at 3 3 ∷ []))

-- nodes 0 to 3 in a line, the last with this next, and these ends
abbrev line : ℕ → List ℕ → Net
line next ends = record {
  table = table_of (with_next blank 1 ∷ with_next blank 2 ∷ with_next blank 3 ∷ with_next blank next ∷ []);
  nodes = 4;
  ends = ends;
  added = 2;
  splits = 0;
  joined = 0;
  noted = [];
  runs = [];
}

record Closed : Type 0 where
  -- row 12: "entries of all waiting runs beyond the table's places"
  entries_fit : saving 5 ≡ 0
  one_entry_more : saving 6 ≡ 12
  -- row 13: "finish not on the last node, or on one with a next or already an end"
  finish_on_last : bad_finish (line 0 (2 ∷ [])) (run_at 3 0) ≡ false
  finish_before_last : bad_finish (line 0 []) (run_at 2 0) ≡ true
  finish_with_next : bad_finish (line 1 []) (run_at 3 0) ≡ true
  finish_on_end : bad_finish (line 0 (3 ∷ [])) (run_at 3 0) ≡ true

record Forks : Type 0 where
  forks_grown : answer (grow forks 26 (lent 26))
      ≡ record { number = 0; nodes = 26; added = 16; splits = 3; joined = 1; finished = 3; noted = forks_noted }
  -- one place less: row 12
  forks_short : answer (grow forks 25 (lent 25)) ≡ answer (refused 12)
  detour_grown : answer (grow detour 16 (lent 16))
      ≡ record { number = 0; nodes = 16; added = 10; splits = 1; joined = 0; finished = 2; noted = detour_noted }
  two_origins_grown : answer (grow two_origins 14 (lent 14))
      ≡ record { number = 0; nodes = 14; added = 8; splits = 1; joined = 0; finished = 2; noted = two_origins_noted }
  alternative_grown : answer (grow over_alternative 8 (lent 8))
      ≡ record { number = 0; nodes = 8; added = 4; splits = 0; joined = 0; finished = 1; noted = worked_noted }
  -- rows 9 and 13 each by this cause alone
  next_of_zero : answer (grow alternative_alone 8 (lent 8)) ≡ answer (refused 9)
  already_an_end : answer (grow finished_twice 8 (lent 8)) ≡ answer (refused 13)
  behind_an_end : answer (grow added_behind 8 (lent 8)) ≡ answer (refused 13)
  -- "Of 12 and 13 at one event: 12"
  behind_an_end_full : answer (grow added_behind 4 (lent 4)) ≡ answer (refused 12)

forks_of : Forks
unfolding of_int some_below sum_below u32_at u64_at billion table_float abs gap smaller root_digits whole_root root_of
    sqrt leg_below join_bits departure_bits length_bits links origins_at_of origins destinations_at_of
    destinations legs_at_of legs samples_at_of samples end_of sections_of link_length link_next link_next_alt
    link_prev link_prev_alt origin_link origin_offset origin_front destination_link leg_link leg_parent
    leg_samples sample_time sample_offset sample_speed first_sample link_at origin_at leg_at sample_from sample_at
    sample_patterns head_patterns member origin_below stacked pushed enter search options_of in_set kept_origins
    event_offset clears twice_ahead speed_at time_at passing_at bad_passing same_kind same_event node_at
    put_floats put_numbers no_link_event blank course_of first_beyond start_back start_front start offset_next
    in_range clears_next emits turned turn passed_as passed_next walk turns_left passed_from points_passed
    reaches_last bad_point some_bad row11 matches seek linked_to event_node split_fake put at add_behind split_at
    place_at sought_in inserted inserted_table flagged entry push alternatives strand_from strands extended
    extended_all seen_in nodes_from event_nodes last_of arrive_at clear_at closer closest_of closest chain_end
    join_fake join_at joined_table names appended_all appended rebuilt join_step legs_to path_of link_of
    point_link point_offset leg_course event_at events_at leg_events fake_node first_nodes origin_event origin_run
    seek_leg grow_origins bad_finish finished_at waiting on_over save_over go_on is_destination finishes take_leg
    drive leads_to_end end_fakes last_node grown_with grow arc_to arc_to_end added_to moved_to insert_event
    joined_to with_joins run_event run_events add sub mul div lt le eq of_bits round sum to_bits is_nan neg
forks_of = record {
  forks_grown = refl;
  forks_short = refl;
  detour_grown = refl;
  two_origins_grown = refl;
  alternative_grown = refl;
  next_of_zero = refl;
  already_an_end = refl;
  behind_an_end = refl;
  behind_an_end_full = refl;
}

closed : Closed
unfolding of_int some_below sum_below u32_at u64_at billion table_float abs gap smaller root_digits whole_root root_of
    sqrt leg_below join_bits departure_bits length_bits links origins_at_of origins destinations_at_of
    destinations legs_at_of legs samples_at_of samples end_of sections_of link_length link_next link_next_alt
    link_prev link_prev_alt origin_link origin_offset origin_front destination_link leg_link leg_parent
    leg_samples sample_time sample_offset sample_speed first_sample link_at origin_at leg_at sample_from sample_at
    sample_patterns head_patterns member origin_below stacked pushed enter search options_of in_set kept_origins
    event_offset clears twice_ahead speed_at time_at passing_at bad_passing same_kind same_event node_at
    put_floats put_numbers no_link_event blank course_of first_beyond start_back start_front start offset_next
    in_range clears_next emits turned turn passed_as passed_next walk turns_left passed_from points_passed
    reaches_last bad_point some_bad row11 matches seek linked_to event_node split_fake put at add_behind split_at
    place_at sought_in inserted inserted_table flagged entry push alternatives strand_from strands extended
    extended_all seen_in nodes_from event_nodes last_of arrive_at clear_at closer closest_of closest chain_end
    join_fake join_at joined_table names appended_all appended rebuilt join_step legs_to path_of link_of
    point_link point_offset leg_course event_at events_at leg_events fake_node first_nodes origin_event origin_run
    seek_leg grow_origins bad_finish finished_at waiting on_over save_over go_on is_destination finishes take_leg
    drive leads_to_end end_fakes last_node grown_with grow arc_to arc_to_end added_to moved_to insert_event
    joined_to with_joins run_event run_events add sub mul div lt le eq of_bits round sum to_bits is_nan neg
closed = record {
  entries_fit = refl;
  one_entry_more = refl;
  finish_on_last = refl;
  finish_before_last = refl;
  finish_with_next = refl;
  finish_on_end = refl;
}
