-- A run through its events: each is joined, moved to or added, and the driver's invariant goes on.
use mathlib.Core.Path.{◌≡◌, refl, sym, ap, ◌∙◌, subst}
use mathlib.Core.Logic.{◌⊎◌, inl, inr}
use mathlib.Core.Bool.{Bool, true, false}
use mathlib.Core.List.{List, [], ◌∷◌}
use Prim.Native.Nat.{ℕ, suc, ◌<◌, ◌≤◌}
use native.Mathlib.Omega.{arith}
use lib.Ieee.{Float, lt}
use Rattle.floats.specs.Floats.{gap}
use Rattle.net_node.specs.Table.{at, fake_kind}
use Rattle.laws.proofs.Answers.{Holds, holds_then}
use Rattle.laws.specs.Answer.{Answer, refused, given}
use Rattle.net_node.specs.declared.LinkEvent.{LinkEvent}
use Rattle.net_node.specs.declared.TimedEvent.{TimedEvent}
use Rattle.net_insertion.specs.Insertion.{matches}
use Rattle.net_join_paths.specs.declared.EstJoinPath.{EstJoinPath}
use Rattle.net_joins.specs.Joins.{JoinStep, JoinsTo, GoesOn, Beyond, join_step}
use Rattle.grow_rules.specs.Run.{EndedRun, Net, Run, After, nodes_to, arc_to, insert_event, joined_to, Outcome, Ended}
use Rattle.grow_rules.specs.Run.{On, goes_on, with_joins, joined_as, event_as, run_event, next_event, run_events}
use Rattle.grow_rules.specs.Growth.{join_gap}
use Rattle.arcs_growth.specs.Runs.{run_events_to, HasEvent, AllTaken, LeadsOn}
use Rattle.arcs_growth.specs.Noted.{LeadsOut}
use Rattle.laws.proofs.Members.{All}
use Rattle.arcs_growth.proofs.Labels.{event, base_role, itself, Labels}
use Rattle.arcs_growth.proofs.Laid.{NextOf}
use Rattle.arcs_growth.proofs.Seeks.{Reached}
use Rattle.arcs_growth.proofs.Invariant.{Grows, Listed, Stands, Owned, Tip, Waits}
use Rattle.arcs_growth.proofs.Insertions.{Inserts, Safe, insert_keeps, match_event, real_event, same_event_lem}
use Rattle.arcs_growth.proofs.Entries.{Stepped, step_right}
use Rattle.arcs_growth.proofs.Joining.{join_keeps}
use Rattle.arcs_growth.proofs.Paths.{Real}
use Rattle.arcs_growth.proofs.Visits.{near_move, has_more, taken_more, so_far, nodes_further, Covers, covers_first}
use Rattle.arcs_growth.proofs.Visits.{all_runs, covers_end, some_ended}
use Rattle.arcs_growth.proofs.AtEvents.{Notes, at_event_more, waiting_more, notes_more, notes_on, out_more, leads_next}
use Rattle.arcs_growth.proofs.AtEvents.{ends_next, visits_next, at_event_on, Driven, Running}

-- the next that insertion moves to lies one deeper than the place
pub next_deeper : {L : Labels} {places : ℕ} {net : Net} → Grows L places net → (p : ℕ) → p < net.nodes
    → itself (L.role p) ≡ true → (limit : Float) (e : TimedEvent) → Real e
    → (from : ℕ) → Reached L (at net.table) net.nodes p from → 0 < (at net.table from).idx_next
    → matches limit e (at net.table (at net.table from).idx_next) ≡ true
    → ((at net.table from).idx_next < net.nodes)
    × ((L.role (at net.table from).idx_next ≡ event) × (L.depth (at net.table from).idx_next ≡ suc (L.depth p)))
next_deeper {L} {places} {net} g p h self limit e real from r some same =
    let y : ℕ = (at net.table from).idx_next in
    let v = g.body.graph.laid in
    let o : NextOf L (at net.table) net.nodes from y = (v.each from r.within).next y refl some r.base in
    let c = match_event limit e (at net.table y) same in
    let m : L.role y ≡ event = real_event (L.role y)
    (sym (v.each y o.inside).kind ∙ ap (λ (z : LinkEvent). fake_kind z.est_type) c ∙ real) in (
      o.inside,
      (
        m,
        ((v.each y o.inside).events m).depth from o.back
            ∙ ap (λ (k : ℕ). suc (L.depth k)) (r.owner ∙ (v.each p h).own self),
      ),
    )

-- a run that has left its origin behind never moves to an open node: those are its own place and origins' Clears
pub safe_deep : {L : Labels} {places : ℕ} {net : Net} {run : Run} {saved : List Run} → Grows L places net
    → Waits L net (run ∷ saved) → 2 ≤ L.depth run.place.idx_prev
    → (limit : Float) (e : TimedEvent) → Real e → Safe L net run.place.idx_prev limit e
safe_deep {L} {places} {net} {run} {saved} g u deep limit e real from r some same z o =
    let d = next_deeper g run.place.idx_prev u.stand.0.within u.stand.0.self limit e real from r some same in
    absurd (go (at net.table from).idx_next d.1.1 (u.owned (at net.table from).idx_next d.0 (ap base_role d.1.0) z o))
  where
    go : (y : ℕ) → L.depth y ≡ suc (L.depth run.place.idx_prev) → Owned L y (run ∷ saved) → ⊥
    go y d (inl q) = let c : L.depth y ≡ L.depth run.place.idx_prev = ap L.depth q in omega arith
    go y d (inr q) = let c = q.0 in omega arith

-- what an event makes of a run: it is over, or stands on the event
abbrev pub Came : List ℕ → ℕ → ℕ → List Run → List TimedEvent → Outcome → Type 0
Came b places leg saved es (Ended net) = Driven b places net saved
Came b places leg saved es (On a) = Running b places a.net a.run saved es × (a.run.leg ≡ leg)

module _ {b : List ℕ} {places : ℕ} {net : Net} {run : Run} {saved : List Run} {e : TimedEvent} {es : List TimedEvent}
    (d : Running b places net run saved (e ∷ es)) (real : Real e) where
  some_nodes : 0 < net.nodes
  some_nodes = omega (arith, d.grows.body.graph.laid.two)

  inserts_on : (a : After) → Inserts d.labels places net run saved (join_gap b) e a
      → Came b places run.leg saved es (On a)
  unfolding arc_to
  inserts_on a i = (
    record {
      labels = i.labels;
      grows = i.grows;
      waits = i.waits;
      at_event = at_event_on d.at_event i.later.nodes i.kept
          (subst (λ (k : ℕ). 2 ≤ k) (sym i.deeper) deeper) i.leg i.nodes has real i.time i.distance;
      others = waiting_more b (at net.table) (at a.net.table) i.later.labels i.later.nodes i.kept saved d.others;
      notes = noted i.noted;
      taken = subst (AllTaken b (at a.net.table) a.net.nodes) (sym i.runs)
          (taken_more b (at net.table) (at a.net.table) i.later.nodes i.kept net.runs d.taken);
    },
    i.leg,
  )
    where
      deeper : 2 ≤ suc (d.labels.depth run.place.idx_prev)
      deeper = let k = d.at_event.deep in omega arith

      has : HasEvent b (at a.net.table) a.net.nodes e a.run.place.idx_prev
      has = record {
        inside = i.waits.stand.0.within;
        event = i.here;
        speed = near_move b e (at a.net.table a.run.place.idx_prev) i.near;
      }

      further : Covers b (all_runs (run ∷ saved) net.runs) (all_runs (a.run ∷ saved) a.net.runs)
      further = subst (λ (xs : List EndedRun). Covers b (all_runs (run ∷ saved) net.runs) (all_runs (a.run ∷ saved) xs))
          (sym i.runs)
          (covers_first b (so_far run) (so_far a.run) (all_runs saved net.runs)
          (nodes_further b (so_far run) (so_far a.run) i.leg (a.run.place.idx_prev ∷ []) i.nodes))

      old : All (Notes b (at a.net.table) a.net.nodes (a.run ∷ saved) a.net.runs) net.noted
      old = notes_on b (at a.net.table) a.net.nodes (run ∷ saved) (a.run ∷ saved) net.runs a.net.runs
          (λ arc o. subst (λ (xs : List EndedRun). LeadsOut b xs arc) (sym i.runs) o) further net.noted
          (notes_more b (at net.table) (at a.net.table) some_nodes i.later.nodes i.kept
          (run ∷ saved) net.runs net.noted d.notes)

      leads : LeadsOn (run_events_to b a.run.leg) a.run.nodes (arc_to run.place a.run.place.idx_prev e)
      leads = subst (λ (k : ℕ). LeadsOn (run_events_to b k) a.run.nodes (arc_to run.place a.run.place.idx_prev e))
          (sym i.leg)
          (subst (λ (is : List ℕ). LeadsOn (run_events_to b run.leg) is (arc_to run.place a.run.place.idx_prev e))
          (sym i.nodes) (leads_next d.at_event a.run.place.idx_prev))

      noted : (a.net.noted ≡ net.noted) ⊎ (a.net.noted ≡ arc_to run.place a.run.place.idx_prev e ∷ net.noted)
          → All (Notes b (at a.net.table) a.net.nodes (a.run ∷ saved) a.net.runs) a.net.noted
      noted (inl q) = subst (All (Notes b (at a.net.table) a.net.nodes (a.run ∷ saved) a.net.runs)) (sym q) old
      noted (inr q) = subst (All (Notes b (at a.net.table) a.net.nodes (a.run ∷ saved) a.net.runs)) (sym q)
          ((ends_next d.at_event i.later.nodes i.kept a.run.place.idx_prev has real, inr (inr (inl leads))), old)

  inserting : Holds (Came b places run.leg saved es) (goes_on (insert_event places (join_gap b) net run e))
  inserting = go (insert_event places (join_gap b) net run e)
      (insert_keeps d.grows d.waits (join_gap b) e real (safe_deep d.grows d.waits d.at_event.deep (join_gap b) e real))
    where
      go : (x : Answer After) → Holds (Inserts d.labels places net run saved (join_gap b) e) x
          → Holds (Came b places run.leg saved es) (goes_on x)
      go (refused n) h = tt
      go (given a) h = inserts_on a h

  -- the run ends at the target, with a node for that event too
  joining : Tip net run → (target : ℕ) → target < net.nodes → (at net.table target).link_event ≡ e.link_event
      → net.nodes < places → lt (gap (at net.table target).speed e.speed) (join_gap b) ≡ true
      → Driven b places (joined_to net run e target) saved
  unfolding joined_to arc_to
  joining tip target h q room near =
      let j = join_keeps d.grows d.waits tip e target h q real room in
      let more : Net = joined_to net run e target in
      let ended : EndedRun = record { leg = run.leg; nodes = nodes_to run target } in
      let n = j.later.nodes in
      let there = has_more b (at net.table) (at more.table) n j.kept e target
      (record { inside = h; event = q; speed = inr (inr near) }) in
      let at_event = at_event_more b (at net.table) (at more.table) j.later.labels n j.kept run (e ∷ es) d.at_event in
      record {
        labels = j.labels;
        grows = j.grows;
        waits = j.waits;
        at_event = waiting_more b (at net.table) (at more.table) j.later.labels n j.kept saved d.others;
        notes = (
          (
            ends_next d.at_event n j.kept target there real,
            inr (inr (some_ended (λ (r : EndedRun). LeadsOn (run_events_to b r.leg) r.nodes (arc_to run.place target e))
                saved net.runs ended (leads_next d.at_event target))),
          ),
          notes_on b (at more.table) more.nodes (run ∷ saved) saved net.runs (ended ∷ net.runs)
              (out_more b ended net.runs)
              (covers_end b (so_far run) ended (nodes_further b (so_far run) ended refl (target ∷ []) refl) saved
              net.runs) net.noted
              (notes_more b (at net.table) (at more.table) some_nodes n j.kept
              (run ∷ saved) net.runs net.noted d.notes),
        );
        taken = (
          record { taken = d.at_event.taken; visits = visits_next at_event target there },
          taken_more b (at net.table) (at more.table) n j.kept net.runs d.taken,
        );
      }

-- another list of join entries
relisted : {b : List ℕ} {places : ℕ} {net : Net} {run : Run} {saved : List Run} {es : List TimedEvent}
    → Running b places net run saved es → (list : List EstJoinPath) → Listed net.nodes list
    → Running b places net (with_joins run list) saved es
unfolding with_joins
relisted {net = net} {run = run} d list l = record {
  labels = d.labels;
  grows = d.grows;
  waits = record {
    owned = d.waits.owned;
    stand = (record { within = s.within; self = s.self; holds = s.holds; listed = l }, d.waits.stand.1);
    last = (
      (λ w. let t = d.waits.last.0 w in record { last = t.last; empty = t.empty; no_end = t.no_end }),
      d.waits.last.1,
    );
  };
  at_event = record {
    deep = d.at_event.deep;
    taken = d.at_event.taken;
    past = d.at_event.past;
    last = d.at_event.last;
    events = d.at_event.events;
    front = d.at_event.front;
    nodes = d.at_event.nodes;
    paired = d.at_event.paired;
    here = d.at_event.here;
    real = d.at_event.real;
    time = d.at_event.time;
    distance = d.at_event.distance;
  };
  others = d.others;
  notes = d.notes;
  taken = d.taken;
}
  where
    s : Stands d.labels net run
    s = d.waits.stand.0

pub event_runs : {b : List ℕ} {places : ℕ} {net : Net} {run : Run} {saved : List Run} {e : TimedEvent}
    {es : List TimedEvent} → Running b places net run saved (e ∷ es) → Real e
    → Holds (Came b places run.leg saved es) (run_event places (join_gap b) net run e)
unfolding run_event with_joins
event_runs {b} {places} {net} {run} {saved} {e} {es} d real = go run.has_split refl
  where
    steps : Tip net run → (s : JoinStep) → Stepped (at net.table) net.nodes places (join_gap b) e s
        → Holds (Came b places run.leg saved es) (joined_as places (join_gap b) net run e s)
    steps tip Beyond h = tt
    steps tip (JoinsTo target) h = joining d real tip target h.0
        (same_event_lem (at net.table target).link_event e.link_event h.1.0) h.1.1.0 h.1.1.1
    steps tip (GoesOn list) h = inserting (relisted d list h) real

    go : (a : Bool) → run.has_split ≡ a → Holds (Came b places run.leg saved es)
        (event_as a places (join_gap b) net run e)
    go true q = steps (d.waits.last.0 q) (join_step (at net.table) net.nodes places (join_gap b) e run.joins)
        (step_right (at net.table) net.nodes places (join_gap b) e run.joins d.grows.body.indexed
        d.waits.stand.0.listed)
    go false q = inserting d real

pub events_run : {b : List ℕ} {places : ℕ} {saved : List Run} (es : List TimedEvent) (a : After)
    → Running b places a.net a.run saved es → All Real es
    → Holds (Came b places a.run.leg saved []) (run_events places (join_gap b) es a)
unfolding run_events
events_run [] a d real = (d, refl)
events_run {b} {places} {saved} (e ∷ es) a d real =
    holds_then (Came b places a.run.leg saved es) (Came b places a.run.leg saved [])
    (run_event places (join_gap b) a.net a.run e) (next_event (run_events places (join_gap b) es))
    (event_runs d real.0) (go (λ c f. events_run es c f real.1))
  where
    go : ((c : After) → Running b places c.net c.run saved es
        → Holds (Came b places c.run.leg saved []) (run_events places (join_gap b) es c)) → (o : Outcome)
        → Came b places a.run.leg saved es o → Holds (Came b places a.run.leg saved [])
        (next_event (run_events places (join_gap b) es) o)
    go further (Ended net) f = f
    go further (On c) f = subst (λ (k : ℕ). Holds (Came b places k saved []) (run_events places (join_gap b) es c)) f.1
        (further c f.0)
