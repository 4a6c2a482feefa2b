-- Document 01's worked book, byte for byte as examples/worked.book has it: rows 5, 7 and 8 let it through, and it grows
-- to the eight nodes of its listing. So the theorems are not empty.
use mathlib.Core.Path.{◌≡◌, refl}
use mathlib.Core.List.{List, [], ◌∷◌, ◌++◌}
use Prim.Native.Nat.{ℕ, ◌*◌}
use lib.ListN.{replicate}
use lib.Ieee.{binary64, of_bits, is_nan, le, add, sub, mul, div, eq}
use Rattle.net_node.specs.Table.{float_width, number_width, Table}
use Rattle.laws.specs.Answer.{Answer, refused, given}
use Rattle.laws.specs.Below.{some_below}
use Rattle.book_format.specs.Format.{legs}
use Rattle.book_format.specs.Rows.{row5}
use Rattle.grow_rules.specs.Run.{EndedRun}
use Rattle.grow_rules.specs.Growth.{Grown, grow}
use Rattle.laws.specs.Below as BelowOf
use Rattle.fields.specs.Fields as FieldsOf
use Rattle.floats.specs.Floats as FloatsOf
use Rattle.root.specs.Root as RootRoot
use Rattle.book_format.specs.Format as FormatOf
use Rattle.book_format.specs.Rows as RowsOf
use Rattle.book_format.specs.Chains as ChainsOf
use Rattle.book_options.specs.Options as OptionsOf
use Rattle.event_formula.specs.Event as EventOf
use Rattle.net_node.specs.Table as TableOf
use Rattle.event_walk.specs.Walk as WalkOf
use Rattle.net_insertion.specs.Insertion as InsertionOf
use Rattle.net_strands.specs.Space as SpaceOf
use Rattle.net_event_map.specs.EventMap as EventMapOf
use Rattle.net_joins.specs.Joins as JoinsOf
use Rattle.grow_path.specs.Path as PathOf
use Rattle.grow_rules.specs.Run as RunOf
use Rattle.grow_rules.specs.Growth as GrowthOf
use Rattle.arcs_growth.specs.Read.{Read}
use Rattle.arcs_growth.proofs.Books.{read_rows_lem}

abbrev worked : List ℕ
worked =
    (0 ∷ 0 ∷ 0 ∷ 0 ∷ 0 ∷ 0 ∷ 240 ∷ 63 ∷ 0 ∷ 0 ∷ 0 ∷ 0 ∷ 0 ∷ 0 ∷ 0 ∷ 0 ∷ 0 ∷ 0 ∷ 0 ∷ 0 ∷ 0 ∷ 0 ∷ 36 ∷ 64 ∷ 3 ∷ 0 ∷ 0 ∷ 0
    ∷ 0 ∷ 0 ∷ 0 ∷ 0 ∷ []) ++
    (0 ∷ 0 ∷ 0 ∷ 0 ∷ 0 ∷ 0 ∷ 0 ∷ 0 ∷ 0 ∷ 0 ∷ 0 ∷ 0 ∷ 0 ∷ 0 ∷ 0 ∷ 0 ∷ 0 ∷ 0 ∷ 0 ∷ 0 ∷ 0 ∷ 0 ∷ 0 ∷ 0 ∷ 0 ∷ 0 ∷ 40 ∷ 64 ∷ 2
    ∷ 0 ∷ 0 ∷ 0 ∷ []) ++
    (0 ∷ 0 ∷ 0 ∷ 0 ∷ 0 ∷ 0 ∷ 0 ∷ 0 ∷ 0 ∷ 0 ∷ 0 ∷ 0 ∷ 0 ∷ 0 ∷ 0 ∷ 0 ∷ 0 ∷ 0 ∷ 89 ∷ 64 ∷ 0 ∷ 0 ∷ 0 ∷ 0 ∷ 0 ∷ 0 ∷ 0 ∷ 0 ∷ 1
    ∷ 0 ∷ 0 ∷ 0 ∷ []) ++
    (0 ∷ 0 ∷ 0 ∷ 0 ∷ 1 ∷ 0 ∷ 0 ∷ 0 ∷ 1 ∷ 0 ∷ 0 ∷ 0 ∷ 0 ∷ 0 ∷ 0 ∷ 0 ∷ 0 ∷ 0 ∷ 0 ∷ 0 ∷ 0 ∷ 0 ∷ 0 ∷ 0 ∷ 1 ∷ 0 ∷ 0 ∷ 0 ∷ 2
    ∷ 0 ∷ 0 ∷ 0 ∷ []) ++
    (2 ∷ 0 ∷ 0 ∷ 0 ∷ 1 ∷ 0 ∷ 0 ∷ 0 ∷ 0 ∷ 0 ∷ 0 ∷ 0 ∷ 1 ∷ 0 ∷ 0 ∷ 0 ∷ 2 ∷ 0 ∷ 0 ∷ 0 ∷ 1 ∷ 0 ∷ 0 ∷ 0 ∷ 3 ∷ 0 ∷ 0 ∷ 0 ∷ 4
    ∷ 0 ∷ 0 ∷ 0 ∷ []) ++
    (0 ∷ 0 ∷ 0 ∷ 0 ∷ 0 ∷ 0 ∷ 0 ∷ 0 ∷ 0 ∷ 0 ∷ 0 ∷ 0 ∷ 0 ∷ 0 ∷ 36 ∷ 64 ∷ 0 ∷ 0 ∷ 0 ∷ 0 ∷ 0 ∷ 0 ∷ 0 ∷ 0 ∷ 0 ∷ 0 ∷ 0 ∷ 0 ∷ 0
    ∷ 0 ∷ 0 ∷ 0 ∷ []) ++
    (0 ∷ 0 ∷ 0 ∷ 0 ∷ 0 ∷ 0 ∷ 36 ∷ 64 ∷ 0 ∷ 0 ∷ 0 ∷ 0 ∷ 0 ∷ 0 ∷ 0 ∷ 0 ∷ 0 ∷ 0 ∷ 0 ∷ 0 ∷ 0 ∷ 0 ∷ 16 ∷ 64 ∷ 0 ∷ 0 ∷ 0 ∷ 0
    ∷ 0 ∷ 0 ∷ 50 ∷ 64 ∷ []) ++
    (0 ∷ 0 ∷ 0 ∷ 0 ∷ 0 ∷ 0 ∷ 16 ∷ 64 ∷ 0 ∷ 0 ∷ 0 ∷ 0 ∷ 0 ∷ 0 ∷ 32 ∷ 64 ∷ 0 ∷ 0 ∷ 0 ∷ 0 ∷ 0 ∷ 0 ∷ 65 ∷ 64 ∷ 0 ∷ 0 ∷ 0 ∷ 0
    ∷ 0 ∷ 0 ∷ 16 ∷ 64 ∷ [])

abbrev zeros : Table
zeros = record { floats = replicate (8 * float_width) (of_bits binary64 0); numbers = replicate (8 * number_width) 0 }

-- nodes, added, splits, joined, finished; or the refusal's number
abbrev counts : Answer Grown → List ℕ
counts (refused n) = n ∷ []
counts (given g) = g.nodes ∷ g.added ∷ g.splits ∷ g.joined ∷ g.finished ∷ []

worked_read : Read worked
unfolding BelowOf.some_below FieldsOf.u64_at FormatOf.links FormatOf.origins_at_of FormatOf.origins
    FormatOf.destinations_at_of FormatOf.destinations FormatOf.legs_at_of FormatOf.legs FormatOf.link_length
    FormatOf.link_next FormatOf.link_next_alt FormatOf.link_prev FormatOf.link_prev_alt FormatOf.origin_link
    FormatOf.destination_link FormatOf.leg_link FormatOf.leg_parent RowsOf.row5 RowsOf.row7 OptionsOf.member
    OptionsOf.origin_below OptionsOf.stacked OptionsOf.pushed OptionsOf.kept_origins OptionsOf.link_options
worked_read = read_rows_lem worked refl refl refl

worked_grows : counts (grow worked 8 zeros) ≡ 8 ∷ 4 ∷ 0 ∷ 0 ∷ 1 ∷ []
unfolding le eq add of_bits sub is_nan mul div BelowOf.some_below BelowOf.sum_below FieldsOf.u64_at FloatsOf.table_float
    FloatsOf.gap FloatsOf.smaller RootRoot.sqrt FormatOf.join_bits FormatOf.departure_bits FormatOf.length_bits
    FormatOf.links FormatOf.origins_at_of FormatOf.origins FormatOf.destinations_at_of FormatOf.destinations
    FormatOf.legs_at_of FormatOf.legs FormatOf.samples_at_of FormatOf.link_length FormatOf.link_next
    FormatOf.link_next_alt FormatOf.link_prev FormatOf.origin_link FormatOf.destination_link FormatOf.leg_link
    FormatOf.leg_parent FormatOf.leg_samples FormatOf.sample_time FormatOf.sample_offset FormatOf.sample_speed
    FormatOf.first_sample FormatOf.sample_at ChainsOf.leg_below OptionsOf.member OptionsOf.origin_below
    OptionsOf.stacked OptionsOf.pushed OptionsOf.in_set OptionsOf.kept_origins EventOf.passing_at
    EventOf.bad_passing TableOf.same_event TableOf.node_at TableOf.put_floats TableOf.put_numbers WalkOf.turned
    WalkOf.turn WalkOf.passed_as WalkOf.row11 InsertionOf.linked_to InsertionOf.event_node InsertionOf.add_behind
    InsertionOf.place_at InsertionOf.inserted InsertionOf.inserted_table SpaceOf.extended_all EventMapOf.seen_in
    JoinsOf.join_step PathOf.leg_events RunOf.arc_to_end RunOf.run_events GrowthOf.bad_finish GrowthOf.finished_at
    GrowthOf.grow FormatOf.link_prev_alt
worked_grows = refl

-- its one run, by document 01's listing: it ends in leg 2, and its four events have nodes 2 to 5
abbrev runs_by : Answer Grown → List EndedRun
runs_by (refused n) = []
runs_by (given g) = g.runs

worked_runs : runs_by (grow worked 8 zeros) ≡ record { leg = 2; nodes = 2 ∷ 3 ∷ 4 ∷ 5 ∷ [] } ∷ []
unfolding le eq add of_bits sub is_nan mul div BelowOf.some_below BelowOf.sum_below FieldsOf.u64_at FloatsOf.table_float
    FloatsOf.gap FloatsOf.smaller RootRoot.sqrt FormatOf.join_bits FormatOf.departure_bits FormatOf.length_bits
    FormatOf.links FormatOf.origins_at_of FormatOf.origins FormatOf.destinations_at_of FormatOf.destinations
    FormatOf.legs_at_of FormatOf.legs FormatOf.samples_at_of FormatOf.link_length FormatOf.link_next
    FormatOf.link_next_alt FormatOf.link_prev FormatOf.origin_link FormatOf.destination_link FormatOf.leg_link
    FormatOf.leg_parent FormatOf.leg_samples FormatOf.sample_time FormatOf.sample_offset FormatOf.sample_speed
    FormatOf.first_sample FormatOf.sample_at ChainsOf.leg_below OptionsOf.member OptionsOf.origin_below
    OptionsOf.stacked OptionsOf.pushed OptionsOf.in_set OptionsOf.kept_origins EventOf.passing_at
    EventOf.bad_passing TableOf.same_event TableOf.node_at TableOf.put_floats TableOf.put_numbers WalkOf.turned
    WalkOf.turn WalkOf.passed_as WalkOf.row11 InsertionOf.linked_to InsertionOf.event_node InsertionOf.add_behind
    InsertionOf.place_at InsertionOf.inserted InsertionOf.inserted_table SpaceOf.extended_all EventMapOf.seen_in
    JoinsOf.join_step PathOf.leg_events RunOf.arc_to_end RunOf.run_events GrowthOf.bad_finish GrowthOf.finished_at
    GrowthOf.grow FormatOf.link_prev_alt
worked_runs = refl
