-- Document 02, Ask 1: of every event list and of every book, on every table and in every work space, the answer is as it was, or it was 11.
use mathlib.Core.Path.{◌≡◌, refl, sym, ap, ◌∙◌, subst}
use mathlib.Core.Logic.{inl, inr, ⊎_elim}
use mathlib.Core.Bool.{Bool, true, false, not, ◌||◌, cond}
use mathlib.Core.List.{List, [], ◌∷◌, ◌++◌}
use Prim.Native.Nat.{ℕ, zero, suc, ◌-◌}
use lib.Dec.{ltb}
use lib.ListN.{length}
use lib.Ieee.{Float}
use lib.Ieee.Scale.{finite}
use borrow.Author.Tests.{not-false}
use Rattle.laws.specs.Answer.{Answer, refused, given, and_then, unless}
use Rattle.laws.specs.Refusals.{row, first_of}
use Rattle.laws.proofs.Truth.{true_or_false, none_left, none_right}
use Rattle.floats.specs.Floats.{table_float}
use Rattle.floats.proofs.Order.{table_number_lem}
use Rattle.book_format.specs.declared.Sample.{Sample}
use Rattle.book_format.specs.Format.{legs}
use Rattle.book_options.specs.Options.{kept_origins}
use Rattle.book_reader.specs.Reader.{read_number}
use Rattle.event_formula.specs.declared.Passing.{Passing}
use Rattle.event_formula.specs.Event.{twice_ahead, speed_at, time_by_quotient, passing_at, bad_passing}
use Rattle.event_formula.proofs.Standing.{time_kept}
use Rattle.event_walk.specs.declared.Heads.{Heads}
use Rattle.event_walk.specs.declared.PassedPoint.{PassedPoint}
use Rattle.event_walk.specs.Course.{Course}
use Rattle.event_walk.specs.Walk.{start, offset_next, clears_next, emits, turn, passed_as, passed_next, walk, passed_from, turns_left, points_passed, reaches_last, bad_point, some_bad, row11}
use Rattle.event_maker.specs.Maker.{bad_counts, bad_floats, falling, rows_to11, maker_rows, short_number, answered, answer_of}
use Rattle.net_node.specs.declared.TimedEvent.{TimedEvent}
use Rattle.net_node.specs.Table.{Table}
use Rattle.net_node.specs.Left.{Network}
use Rattle.net_node.specs.Lent.{Sizes, places_in}
use Rattle.grow_path.specs.Path.{path_of, leg_course, events_at, leg_events}
use Rattle.grow_rules.specs.Run.{Net, Run, run_events}
use Rattle.grow_rules.specs.Growth.{Growth, Grown, join_gap, leg_as, leg_done, take_leg, drive, start_as, first_nodes, grow_origins, end_fakes, last_node, grown_with, grow}
use Rattle.est_times.specs.Network.{zero_table, network}
use Rattle.est_times.specs.Sheet.{timed_from, job}
use Rattle.older_answers.specs.StandingTrain.{older_passing, older_next, older_walk, older_points, older_row11, older_made, older_events, older_leg_as, older_leg, older_drive, older_grow, older_network, older_job, Kept, KeptMade}

-- ---- one event

-- an event that was not bad is the same, bit for bit
pub passing_kept : (s before : Sample) (offset : Float) → bad_passing (older_passing s before offset) ≡ false → passing_at s before offset ≡ older_passing s before offset
unfolding passing_at older_passing bad_passing
passing_kept s before offset h =
    let d = twice_ahead s offset in
    let v = speed_at s before d in
    let t = time_by_quotient s v d in
    ap {B = Passing} (λ (x : Float). record { time = x; speed = v }) (time_kept s v d (table_number_lem t (not-false (table_float t) (none_right (not (finite v)) (not (table_float t)) h))))

-- ---- the events of a leg

bad_as_lem : (h : Heads) (t : Bool) (offset : Float) (p : Passing) → bad_point (passed_as h t offset p) ≡ bad_passing p
unfolding bad_point passed_as
bad_as_lem h true offset p = refl
bad_as_lem h false offset p = refl

next_kept : (c : Course) (h : Heads) → bad_point (older_next c h) ≡ false → passed_next c h ≡ older_next c h
unfolding passed_next older_next
next_kept c h e =
    let older = older_passing (c.sample h.i) (c.sample (h.i - 1)) (offset_next c h) in
    ap (passed_as h (clears_next c h) (offset_next c h)) (passing_kept (c.sample h.i) (c.sample (h.i - 1)) (offset_next c h) (sym (bad_as_lem h (clears_next c h) (offset_next c h) older) ∙ e))

walk_kept : (n : ℕ) (c : Course) (h : Heads) → some_bad (older_walk n c h) ≡ false → walk n c h ≡ older_walk n c h
unfolding walk older_walk some_bad
walk_kept zero c h e = refl
walk_kept (suc n) c h e = go (walk_kept n c (turn c h)) (ltb h.i c.samples) (emits c h) e
  where
    older : List PassedPoint
    older = older_walk n c (turn c h)

    newer : List PassedPoint
    newer = walk n c (turn c h)

    go : (some_bad older ≡ false → newer ≡ older) → (a b : Bool) → some_bad (cond a (cond b (older_next c h ∷ older) older) []) ≡ false
        → cond a (cond b (passed_next c h ∷ newer) newer) [] ≡ cond a (cond b (older_next c h ∷ older) older) []
    go kept true true e =
        ap (λ (p : PassedPoint). p ∷ newer) (next_kept c h (none_left (bad_point (older_next c h)) (some_bad older) e))
        ∙ ap (λ (ps : List PassedPoint). older_next c h ∷ ps) (kept (none_right (bad_point (older_next c h)) (some_bad older) e))
    go kept true false e = kept e
    go kept false b e = refl

-- where row 11 did not hold of a leg its events are the same
pub points_kept : (c : Course) → older_row11 c ≡ false → points_passed c ≡ older_points c
unfolding points_passed passed_from older_points older_row11
points_kept c e = walk_kept (turns_left c (start c)) c (start c) (none_right (reaches_last c) (some_bad (older_points c)) e)

-- and it does not hold
pub row_kept : (c : Course) → older_row11 c ≡ false → row11 c ≡ false
unfolding row11 older_row11
row_kept c e = ap (λ (ps : List PassedPoint). reaches_last c || some_bad ps) (points_kept c e) ∙ e

-- ---- the event maker

-- an event list's answer is as it was, or it was 11
pub maker_kept : (c : Course) (samples : List ℕ) (places : ℕ) → KeptMade (older_made c samples places) (answer_of c samples places)
unfolding older_made answer_of maker_rows first_of
maker_kept c samples places = ⊎_elim bad good (true_or_false (older_row11 c))
  where
    made : Bool → List PassedPoint → Answer ℕ
    made eleven ps = answered (first_of (rows_to11 (bad_counts c) (bad_floats c samples) (falling c) eleven ++ row short_number (ltb places (length ps)) ∷ [])) (length ps)

    -- a number that comes before 11 comes before it still
    first : (three four seven eleven : Bool) (ps qs : List PassedPoint)
        → KeptMade (answered (first_of (rows_to11 three four seven true ++ row short_number (ltb places (length ps)) ∷ [])) (length ps))
        (answered (first_of (rows_to11 three four seven eleven ++ row short_number (ltb places (length qs)) ∷ [])) (length qs))
    first true four seven eleven ps qs = inr refl
    first false true seven eleven ps qs = inr refl
    first false false true eleven ps qs = inr refl
    first false false false eleven ps qs = inl refl

    bad : older_row11 c ≡ true → KeptMade (made (older_row11 c) (older_points c)) (made (row11 c) (points_passed c))
    bad e =
        subst (λ (t : Bool). KeptMade (made t (older_points c)) (made (row11 c) (points_passed c))) (sym e)
        (first (bad_counts c) (bad_floats c samples) (falling c) (row11 c) (older_points c) (points_passed c))

    good : older_row11 c ≡ false → KeptMade (made (older_row11 c) (older_points c)) (made (row11 c) (points_passed c))
    good e = inr (ap (λ (t : Bool). made t (older_points c)) (e ∙ sym (row_kept c e)) ∙ ap (made (row11 c)) (sym (points_kept c e)))

-- ---- answers that are put together

kept_then : {A B : Type 0} (x y : Answer A) (f g : A → Answer B) → Kept x y → ((a : A) → Kept (f a) (g a)) → Kept (and_then x f) (and_then y g)
kept_then x y f g (inl e) k = inl (ap (λ z. and_then z f) e)
kept_then {A} {B} x y f g (inr e) k = subst (λ (z : Answer A). Kept (and_then z f) (and_then y g)) (sym e) (go y)
  where
    go : (y : Answer A) → Kept (and_then y f) (and_then y g)
    go (refused n) = inr refl
    go (given a) = k a

-- the same answer, put to use in two ways
kept_behind : {A B : Type 0} (x : Answer A) (f g : A → Answer B) → ((a : A) → Kept (f a) (g a)) → Kept (and_then x f) (and_then x g)
kept_behind x f g k = kept_then x x f g (inr refl) k

kept_unless : {A : Type 0} (n : ℕ) (x y : Answer A) → Kept x y → Kept (unless n x) (unless n y)
kept_unless zero x y k = k
kept_unless (suc n) x y k = inr refl

-- ---- growth

events_kept : (b : List ℕ) (j : ℕ) → older_row11 (leg_course b j) ≡ false → leg_events b j ≡ older_events b j
unfolding leg_events older_events
events_kept b j e = ap (events_at b (path_of b j)) (points_kept (leg_course b j) e)

leg_kept : (b : List ℕ) (places : ℕ) (net : Net) (run : Run) (saved : List Run) → Kept (older_leg b places net run saved) (take_leg b places net run saved)
unfolding older_leg take_leg
leg_kept b places net run saved = ⊎_elim bad good (true_or_false (older_row11 (leg_course b run.leg)))
  where
    c : Course
    c = leg_course b run.leg

    bad : older_row11 c ≡ true → Kept (older_leg_as (older_row11 c) b places net run saved) (leg_as (row11 c) b places net run saved)
    bad e = inl (ap (λ (t : Bool). older_leg_as t b places net run saved) e)

    good : older_row11 c ≡ false → Kept (older_leg_as (older_row11 c) b places net run saved) (leg_as (row11 c) b places net run saved)
    good e =
        inr
        (ap (λ (t : Bool). older_leg_as t b places net run saved) e
        ∙ ap (λ (es : List TimedEvent). and_then (run_events places (join_gap b) es (record { net = net; run = run })) (leg_done b places saved)) (sym (events_kept b run.leg e))
        ∙ ap (λ (t : Bool). leg_as t b places net run saved) (sym (row_kept c e)))

drive_kept : (k : ℕ) (b : List ℕ) (places : ℕ) (net : Net) (saved : List Run) → Kept (older_drive k b places net saved) (drive k b places net saved)
unfolding older_drive drive
drive_kept zero b places net [] = inr refl
drive_kept zero b places net (run ∷ saved) = inr refl
drive_kept (suc k) b places net [] = inr refl
drive_kept (suc k) b places net (run ∷ saved) =
    kept_then (older_leg b places net run saved) (take_leg b places net run saved) (λ (g : Growth). older_drive k b places g.net g.saved) (λ (g : Growth). drive k b places g.net g.saved)
    (leg_kept b places net run saved) (λ (g : Growth). drive_kept k b places g.net g.saved)

grow_kept : (b : List ℕ) (places : ℕ) (t : Table) → Kept (older_grow b places t) (grow b places t)
unfolding older_grow grow
grow_kept b places t =
    kept_behind (start_as (ltb 1 places) (first_nodes b t)) (λ (s : Growth). and_then (grow_origins b places (kept_origins b) s) (driven older)) (λ (s : Growth). and_then (grow_origins b places (kept_origins b) s) (driven newer))
    (λ (s : Growth). kept_behind (grow_origins b places (kept_origins b) s) (driven older) (driven newer)
    (λ (g : Growth). kept_then (older g) (newer g) ends ends (drive_kept (legs b) b places g.net g.saved) (λ (net : Net). inr refl)))
  where
    older : Growth → Answer Net
    older g = older_drive (legs b) b places g.net g.saved

    newer : Growth → Answer Net
    newer g = drive (legs b) b places g.net g.saved

    ends : Net → Answer Grown
    ends net =
        and_then (end_fakes places net.ends 0 (record { table = net.table; nodes = net.nodes }))
        (λ (u : Network). and_then (last_node places u) (λ (v : Network). given (grown_with net v)))

    driven : (Growth → Answer Net) → Growth → Answer Grown
    driven drives g = and_then (drives g) ends

-- ---- the whole

network_kept : (b : List ℕ) (z : Sizes) → Kept (older_network b z) (network b z)
unfolding older_network network
network_kept b z =
    kept_unless (read_number b (places_in z) z.bytes) (older_grow b (places_in z) (zero_table z)) (grow b (places_in z) (zero_table z)) (grow_kept b (places_in z) (zero_table z))

-- "so the only answers that change were 11": of every book, on every table and in every work space
pub only_eleven : (b : List ℕ) (z : Sizes) → Kept (older_job b z) (job b z)
unfolding older_job job
only_eleven b z = kept_then (older_network b z) (network b z) (timed_from b) (timed_from b) (network_kept b z) (λ a. inr refl)
