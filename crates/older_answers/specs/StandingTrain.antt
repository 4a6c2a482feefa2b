-- Events, growth and the whole job as they were before document 02, Ask 1: the time of every event is the quotient's.
-- Kept for what proofs/StandingTrain.antt says of old answers and new ones. No contract reads them.
use Rattle.std.specs.Prelude.{◌≡◌, ◌⊎◌, Bool, true, false, ◌||◌, cond, List, [], ◌∷◌, ◌++◌, ℕ, zero, suc, ◌-◌, ltb}
use Rattle.std.specs.Prelude.{length, Float}
use Rattle.laws.specs.Answer.{Answer, refused, given, and_then, unless}
use Rattle.laws.specs.Refusals.{row, first_of}
use Rattle.book_format.specs.declared.Sample.{Sample}
use Rattle.book_format.specs.Format.{legs}
use Rattle.book_options.specs.Options.{kept_origins}
use Rattle.book_reader.specs.Reader.{read_number}
use Rattle.event_formula.specs.declared.Passing.{Passing}
use Rattle.event_formula.specs.Event.{twice_ahead, speed_at, time_by_quotient}
use Rattle.event_walk.specs.declared.Heads.{Heads}
use Rattle.event_walk.specs.declared.PassedPoint.{PassedPoint}
use Rattle.event_walk.specs.Course.{Course}
use Rattle.event_walk.specs.Walk.{start, offset_next, clears_next, emits, turn, passed_as, turns_left}
use Rattle.event_walk.specs.Walk.{reaches_last, some_bad, bad_leg_number}
use Rattle.event_maker.specs.Maker.{bad_counts, bad_floats, falling, rows_to11, short_number, answered}
use Rattle.net_node.specs.declared.TimedEvent.{TimedEvent}
use Rattle.net_node.specs.Table.{Table}
use Rattle.net_node.specs.Left.{Network}
use Rattle.net_node.specs.Lent.{Sizes, places_in}
use Rattle.grow_path.specs.Path.{path_of, leg_course, events_at}
use Rattle.grow_rules.specs.Run.{Net, Run, run_events}
use Rattle.grow_rules.specs.Growth.{Growth, Grown, join_gap, leg_done, start_as, first_nodes, grow_origins}
use Rattle.grow_rules.specs.Growth.{end_fakes, last_node, grown_with}
use Rattle.est_times.specs.Network.{zero_table}
use Rattle.est_times.specs.Sheet.{Finished, timed_from}

-- ---- one event

-- "and the time is t − d/(v + speed)", whatever d and v + speed are
unfoldable pub older_passing : Sample → Sample → Float → Passing
unfolding twice_ahead speed_at time_by_quotient
older_passing s before offset =
    let d = twice_ahead s offset in
    let v = speed_at s before d in
    record { time = time_by_quotient s v d; speed = v }

-- ---- the events of a leg

unfoldable pub older_next : Course → Heads → PassedPoint
unfolding older_passing clears_next offset_next passed_as
older_next c h =
    passed_as h (clears_next c h) (offset_next c h)
    (older_passing (c.sample h.i) (c.sample (h.i - 1)) (offset_next c h))

unfoldable pub older_walk : ℕ → Course → Heads → List PassedPoint
unfolding older_next emits turn
older_walk zero c h = []
older_walk (suc n) c h =
    let later = older_walk n c (turn c h) in
    cond (ltb h.i c.samples) (cond (emits c h) (older_next c h ∷ later) later) []

unfoldable pub older_points : Course → List PassedPoint
unfolding older_walk turns_left start
older_points c = older_walk (turns_left c (start c)) c (start c)

-- row 11 of a leg
unfoldable pub older_row11 : Course → Bool
unfolding older_points reaches_last some_bad
older_row11 c = reaches_last c || some_bad (older_points c)

-- what the event maker answers
unfoldable pub older_made : Course → List ℕ → ℕ → Answer ℕ
unfolding older_row11 bad_counts bad_floats falling first_of
older_made c samples places =
    answered (first_of (rows_to11 (bad_counts c) (bad_floats c samples) (falling c) (older_row11 c)
    ++ row short_number (ltb places (length (older_points c))) ∷ [])) (length (older_points c))

-- ---- growth

unfoldable pub older_events : List ℕ → ℕ → List TimedEvent
unfolding older_points
older_events b j = events_at b (path_of b j) (older_points (leg_course b j))

-- by whether row 11 holds of the leg
abbrev pub older_leg_as : Bool → List ℕ → ℕ → Net → Run → List Run → Answer Growth
older_leg_as true b places net run saved = refused bad_leg_number
older_leg_as false b places net run saved =
    and_then (run_events places (join_gap b) (older_events b run.leg) (record { net = net; run = run }))
    (leg_done b places saved)

unfoldable pub older_leg : List ℕ → ℕ → Net → Run → List Run → Answer Growth
unfolding older_row11 older_events
older_leg b places net run saved = older_leg_as (older_row11 (leg_course b run.leg)) b places net run saved

unfoldable pub older_drive : ℕ → List ℕ → ℕ → Net → List Run → Answer Net
unfolding older_leg
older_drive zero b places net [] = given net
older_drive zero b places net (run ∷ saved) = refused 0
older_drive (suc k) b places net [] = given net
older_drive (suc k) b places net (run ∷ saved) =
    and_then (older_leg b places net run saved) (λ (g : Growth). older_drive k b places g.net g.saved)

unfoldable pub older_grow : List ℕ → ℕ → Table → Answer Grown
unfolding first_nodes grow_origins older_drive end_fakes last_node grown_with
older_grow b places t =
    and_then (start_as (ltb 1 places) (first_nodes b t))
    (λ (s : Growth). and_then (grow_origins b places (kept_origins b) s)
    (λ (g : Growth). and_then (older_drive (legs b) b places g.net g.saved)
    (λ (net : Net). and_then (end_fakes places net.ends 0 (record { table = net.table; nodes = net.nodes }))
    (λ (u : Network). and_then (last_node places u) (λ (v : Network). given (grown_with net v))))))

-- ---- the whole

unfoldable pub older_network : List ℕ → Sizes → Answer Grown
older_network b z = unless (read_number b (places_in z) z.bytes) (older_grow b (places_in z) (zero_table z))

unfoldable pub older_job : List ℕ → Sizes → Answer Finished
older_job b z = and_then (older_network b z) (timed_from b)

-- ---- old answers and new ones

-- an answer is as it was, or it was a certain one
abbrev pub KeptBut : {A : Type 0} → A → A → A → Type 0
KeptBut was older newer = (older ≡ was) ⊎ (older ≡ newer)

-- of a book: it was 11
abbrev pub Kept : {A : Type 0} → Answer A → Answer A → Type 0
Kept older newer = KeptBut (refused bad_leg_number) older newer

-- of an event list
abbrev pub KeptMade : Answer ℕ → Answer ℕ → Type 0
KeptMade older newer = KeptBut (refused bad_leg_number) older newer
