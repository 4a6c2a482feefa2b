-- A run between two events: which of its events it stands on, which nodes they have, and which come next. Noted arcs
-- lead between neighbouring events.
use mathlib.Core.Path.{◌≡◌, refl, sym, ap, ◌∙◌, subst}
use mathlib.Core.Logic.{◌⊎◌, inl, inr}
use mathlib.Core.List.{List, [], ◌∷◌, ◌++◌, append_assoc}
use Prim.Native.Nat.{ℕ, ◌<◌, ◌≤◌}
use lib.Ieee.{binary64, sub}
use Rattle.net_node.specs.Table.{at}
use Rattle.net_node.specs.declared.EstTime.{EstTime}
use Rattle.net_node.specs.declared.TimedEvent.{TimedEvent}
use Rattle.grow_path.specs.Path.{leg_events}
use Rattle.grow_rules.specs.Run.{Arc, EndedRun, Net, Run, arc_to, nodes_to}
use Rattle.arcs_growth.specs.Runs.{Taken, run_events_to, HasEvent, Visits, AllTaken, LastAt, LeadsOn}
use Rattle.arcs_growth.specs.Noted.{LeadsOut, Starts, Follows, ArcEnds}
use Rattle.laws.proofs.Members.{All, all_so}
use Rattle.arcs_growth.proofs.Labels.{Labels, Extends}
use Rattle.arcs_growth.proofs.NewNodes.{EventsKept}
use Rattle.arcs_growth.proofs.Invariant.{Grows, Waits}
use Rattle.arcs_growth.proofs.Paths.{Real}
use Rattle.arcs_growth.proofs.Visits.{has_more, ends_more, starts_more, has_real, Paired, paired_more, paired_on}
use Rattle.arcs_growth.proofs.Visits.{visits_paired, last_paired, leads_paired, all_runs, Covers, starts_covered}
use Rattle.arcs_growth.proofs.Visits.{follows_covered}

-- the run stands on the node of its last event, with that event's own numbers, each event before it has a node, and it
-- has es to come; its place is no origin's Arrive
pub record AtEvent (b : List ℕ) (L : Labels) (node : ℕ → EstTime) (n : ℕ) (run : Run)
    (es : List TimedEvent) : Type 0 where
  pub deep : 2 ≤ L.depth run.place.idx_prev
  pub taken : Taken b run.leg
  pub past : List TimedEvent
  pub last : TimedEvent
  pub events : run_events_to b run.leg ≡ past ++ (last ∷ es)
  pub front : List ℕ
  pub nodes : run.nodes ≡ front ++ (run.place.idx_prev ∷ [])
  pub paired : Paired b node n past front
  pub here : HasEvent b node n last run.place.idx_prev
  pub real : Real last
  pub time : run.place.time_to_next ≡ last.time
  pub distance : run.place.dist_to_next ≡ last.offset

-- a noted arc, while these runs wait and those have ended
abbrev pub Notes : List ℕ → (ℕ → EstTime) → ℕ → List Run → List EndedRun → Arc → Type 0
Notes b node n runs ended arc = ArcEnds node n arc
    × (LeadsOut b ended arc ⊎ (Starts b node (all_runs runs ended) arc ⊎ Follows b (all_runs runs ended) arc))

-- it stays so where the nodes keep their events
module _ (b : List ℕ) {L M : Labels} {n m : ℕ} (node after : ℕ → EstTime) (x : Extends L M n) (h : n ≤ m)
    (f : EventsKept n node after) where
  pub at_event_more : (run : Run) (es : List TimedEvent) → AtEvent b L node n run es → AtEvent b M after m run es
  at_event_more run es d = record {
    deep = subst (λ (k : ℕ). 2 ≤ k) (sym (x.depth run.place.idx_prev d.here.inside)) d.deep;
    taken = d.taken;
    past = d.past;
    last = d.last;
    events = d.events;
    front = d.front;
    nodes = d.nodes;
    paired = paired_more b node after h f d.past d.front d.paired;
    here = has_more b node after h f d.last run.place.idx_prev d.here;
    real = d.real;
    time = d.time;
    distance = d.distance;
  }

  pub waiting_more : (runs : List Run) → All (λ (s : Run). AtEvent b L node n s (leg_events b s.leg)) runs
      → All (λ (s : Run). AtEvent b M after m s (leg_events b s.leg)) runs
  waiting_more = all_so (λ (s : Run). AtEvent b L node n s (leg_events b s.leg))
      (λ (s : Run). AtEvent b M after m s (leg_events b s.leg)) (λ s d. at_event_more s (leg_events b s.leg) d)

pub notes_more : (b : List ℕ) {n m : ℕ} (node after : ℕ → EstTime) → 0 < n → n ≤ m → EventsKept n node after
    → (runs : List Run) (ended : List EndedRun) (arcs : List Arc) → All (Notes b node n runs ended) arcs
    → All (Notes b after m runs ended) arcs
notes_more b {n} {m} node after some h f runs ended =
    all_so (Notes b node n runs ended) (Notes b after m runs ended)
    (λ arc d. (ends_more b node after h f arc d.0, still arc d.0 d.1))
  where
    still : (arc : Arc) → ArcEnds node n arc → LeadsOut b ended arc
        ⊎ (Starts b node (all_runs runs ended) arc ⊎ Follows b (all_runs runs ended) arc)
        → LeadsOut b ended arc ⊎ (Starts b after (all_runs runs ended) arc ⊎ Follows b (all_runs runs ended) arc)
    still arc e (inl o) = inl o
    still arc e (inr (inl o)) = inr (inl (starts_more b node after h f some (all_runs runs ended) arc e o))
    still arc e (inr (inr o)) = inr (inr o)

-- it stays so where the runs go on
pub notes_on : (b : List ℕ) (node : ℕ → EstTime) (n : ℕ) (runs next : List Run) (ended more : List EndedRun)
    → ((arc : Arc) → LeadsOut b ended arc → LeadsOut b more arc)
    → Covers b (all_runs runs ended) (all_runs next more) → (arcs : List Arc) → All (Notes b node n runs ended) arcs
    → All (Notes b node n next more) arcs
notes_on b node n runs next ended more f c = all_so (Notes b node n runs ended) (Notes b node n next more)
    (λ arc d. (d.0, still arc d.1))
  where
    still : (arc : Arc) → LeadsOut b ended arc ⊎ (Starts b node (all_runs runs ended) arc ⊎ Follows b
        (all_runs runs ended) arc)
        → LeadsOut b more arc ⊎ (Starts b node (all_runs next more) arc ⊎ Follows b (all_runs next more) arc)
    still arc (inl o) = inl (f arc o)
    still arc (inr (inl o)) = inr (inl (starts_covered b node (all_runs runs ended) (all_runs next more) c arc o))
    still arc (inr (inr o)) = inr (inr (follows_covered b (all_runs runs ended) (all_runs next more) c arc o))

-- a run more has ended
pub out_more : (b : List ℕ) (run : EndedRun) (ended : List EndedRun) (arc : Arc) → LeadsOut b ended arc
    → LeadsOut b (run ∷ ended) arc
out_more b run ended arc o = record { run = inr o.run; to = o.to; time = o.time; distance = o.distance }

-- ---- the next event

module _ {b : List ℕ} {L : Labels} {node : ℕ → EstTime} {n : ℕ} {run : Run} {e : TimedEvent} {es : List TimedEvent}
    (d : AtEvent b L node n run (e ∷ es)) where
  -- an arc to node i, which has the run's next event
  pub leads_next : (i : ℕ) → LeadsOn (run_events_to b run.leg) (nodes_to run i) (arc_to run.place i e)
  unfolding arc_to
  leads_next i =
      subst (λ (xs : List TimedEvent). LeadsOn xs (nodes_to run i) (arc_to run.place i e)) (sym d.events)
      (subst (λ (is : List ℕ). LeadsOn (d.past ++ (d.last ∷ e ∷ es)) is (arc_to run.place i e)) (sym nodes_are)
      (leads_paired b node n d.past d.front d.paired d.last e run.place.idx_prev i (arc_to run.place i e)
      (record {
        from = refl;
        to = refl;
        time = ap (sub binary64 e.time) d.time;
        distance = ap (sub binary64 e.offset) d.distance;
      }) es))
    where
      nodes_are : nodes_to run i ≡ d.front ++ (run.place.idx_prev ∷ i ∷ [])
      nodes_are = ap (λ (is : List ℕ). is ++ (i ∷ [])) d.nodes ∙ append_assoc d.front (run.place.idx_prev ∷ []) (i ∷ [])

  -- both its ends are event nodes
  pub ends_next : {after : ℕ → EstTime} {m : ℕ} → n ≤ m → EventsKept n node after → (i : ℕ) → HasEvent b after m e i
      → Real e → ArcEnds after m (arc_to run.place i e)
  unfolding arc_to
  ends_next {after} {m} h f i q real = record {
    from = inr (has_real b after m d.last run.place.idx_prev
        (has_more b node after h f d.last run.place.idx_prev d.here) d.real);
    to = inr (has_real b after m e i q real);
  }

  -- the nodes of its events, the next among them
  pub visits_next : (i : ℕ) → HasEvent b node n e i → Visits b node n (run_events_to b run.leg) (nodes_to run i)
  visits_next i h =
      subst (λ (xs : List TimedEvent). Visits b node n xs (nodes_to run i))
      (sym (d.events ∙ sym (append_assoc d.past (d.last ∷ []) (e ∷ es))))
      (visits_paired b node n (d.past ++ (d.last ∷ [])) run.nodes
      (subst (Paired b node n (d.past ++ (d.last ∷ []))) (sym d.nodes)
      (paired_on b node n d.past d.front d.paired d.last run.place.idx_prev d.here)) e i h es)

  -- the run has gone on to its next event
  pub at_event_on : {M : Labels} {after : ℕ → EstTime} {m : ℕ} {next : Run} → n ≤ m → EventsKept n node after
      → 2 ≤ M.depth next.place.idx_prev → next.leg ≡ run.leg
      → next.nodes ≡ nodes_to run next.place.idx_prev → HasEvent b after m e next.place.idx_prev → Real e
      → next.place.time_to_next ≡ e.time → next.place.dist_to_next ≡ e.offset → AtEvent b M after m next es
  at_event_on {M} {after} {m} {next} h f k l q p real t o = record {
    deep = k;
    taken = subst (Taken b) (sym l) d.taken;
    past = d.past ++ (d.last ∷ []);
    last = e;
    events = ap (run_events_to b) l ∙ d.events ∙ sym (append_assoc d.past (d.last ∷ []) (e ∷ es));
    front = run.nodes;
    nodes = q;
    paired = subst (Paired b after m (d.past ++ (d.last ∷ []))) (sym d.nodes)
        (paired_on b after m d.past d.front (paired_more b node after h f d.past d.front d.paired) d.last
        run.place.idx_prev (has_more b node after h f d.last run.place.idx_prev d.here));
    here = p;
    real = real;
    time = t;
    distance = o;
  }

-- ---- at the end of a leg

module _ {b : List ℕ} {L : Labels} {node : ℕ → EstTime} {n : ℕ} {run : Run} (d : AtEvent b L node n run []) where
  -- the run stands on the node of its last event
  pub last_here : LastAt (run_events_to b run.leg) run.nodes run.place.idx_prev
  last_here =
      subst (λ (xs : List TimedEvent). LastAt xs run.nodes run.place.idx_prev) (sym d.events)
      (subst (λ (is : List ℕ). LastAt (d.past ++ (d.last ∷ [])) is run.place.idx_prev) (sym d.nodes)
      (last_paired b node n d.past d.front d.paired d.last run.place.idx_prev))

  pub visits_here : Visits b node n (run_events_to b run.leg) run.nodes
  visits_here =
      subst (λ (xs : List TimedEvent). Visits b node n xs run.nodes) (sym d.events)
      (subst (Visits b node n (d.past ++ (d.last ∷ []))) (sym d.nodes)
      (visits_paired b node n d.past d.front d.paired d.last run.place.idx_prev d.here []))

-- ---- the driver's invariant: the runs that wait

pub record Driven (b : List ℕ) (places : ℕ) (net : Net) (runs : List Run) : Type 0 where
  pub labels : Labels
  pub grows : Grows labels places net
  pub waits : Waits labels net runs
  pub at_event : All (λ (s : Run). AtEvent b labels (at net.table) net.nodes s (leg_events b s.leg)) runs
  pub notes : All (Notes b (at net.table) net.nodes runs net.runs) net.noted
  pub taken : AllTaken b (at net.table) net.nodes net.runs

-- and with a run within a leg, es to come
pub record Running (b : List ℕ) (places : ℕ) (net : Net) (run : Run) (saved : List Run)
    (es : List TimedEvent) : Type 0 where
  pub labels : Labels
  pub grows : Grows labels places net
  pub waits : Waits labels net (run ∷ saved)
  pub at_event : AtEvent b labels (at net.table) net.nodes run es
  pub others : All (λ (s : Run). AtEvent b labels (at net.table) net.nodes s (leg_events b s.leg)) saved
  pub notes : All (Notes b (at net.table) net.nodes (run ∷ saved) net.runs) net.noted
  pub taken : AllTaken b (at net.table) net.nodes net.runs
