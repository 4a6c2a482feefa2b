-- The nodes of a run's events, as the list grows: what is said of them stays true while the network keeps its events,
-- and of an arc while the run goes on.
use mathlib.Core.Path.{◌≡◌, refl, sym, ap, ◌∙◌, subst}
use mathlib.Core.Logic.{◌⊎◌, inl, inr}
use mathlib.Core.Bool.{true}
use mathlib.Core.List.{List, [], ◌∷◌, ◌++◌, append-nil}
use Prim.Native.Nat.{ℕ, ◌<◌, ◌≤◌}
use native.Mathlib.Omega.{arith}
use lib.Ieee.{Float, lt}
use Rattle.floats.specs.Floats.{gap}
use Rattle.net_node.specs.Table.{fake_kind}
use Rattle.net_node.specs.declared.LinkEvent.{LinkEvent}
use Rattle.net_node.specs.declared.EstTime.{EstTime}
use Rattle.net_node.specs.declared.TimedEvent.{TimedEvent}
use Rattle.grow_rules.specs.Run.{Arc, EndedRun, Run}
use Rattle.grow_rules.specs.Growth.{join_gap}
use Rattle.arcs_growth.specs.Runs.{run_events_to, HasEvent, Visits, AllTaken, SomeRun, FirstAt, LastAt, BetweenEvents}
use Rattle.arcs_growth.specs.Runs.{LeadsOn}
use Rattle.arcs_growth.specs.Noted.{Starts, Follows, EventAt, ArcEnds}
use Rattle.laws.proofs.Members.{All, all_so}
use Rattle.arcs_growth.proofs.NewNodes.{EventsKept}
use Rattle.arcs_growth.proofs.Paths.{Real}

-- ---- nodes keep their events

module _ (b : List ℕ) {n m : ℕ} (node after : ℕ → EstTime) (h : n ≤ m) (k : EventsKept n node after) where
  pub has_more : (e : TimedEvent) (i : ℕ) → HasEvent b node n e i → HasEvent b after m e i
  has_more e i d =
      let w = d.inside in
      record { inside = omega arith; event = k.event i w ∙ d.event; speed = near d.speed }
    where
      same : (after i).speed ≡ (node i).speed
      same = k.speed i d.inside

      near : ((node i).speed ≡ e.speed) ⊎ ((lt (gap e.speed (node i).speed) (join_gap b) ≡ true)
          ⊎ (lt (gap (node i).speed e.speed) (join_gap b) ≡ true))
          → ((after i).speed ≡ e.speed) ⊎ ((lt (gap e.speed (after i).speed) (join_gap b) ≡ true)
          ⊎ (lt (gap (after i).speed e.speed) (join_gap b) ≡ true))
      near (inl q) = inl (same ∙ q)
      near (inr (inl q)) = inr (inl (ap (λ (v : Float). lt (gap e.speed v) (join_gap b)) same ∙ q))
      near (inr (inr q)) = inr (inr (ap (λ (v : Float). lt (gap v e.speed) (join_gap b)) same ∙ q))

  pub visits_more : (es : List TimedEvent) (is : List ℕ) → Visits b node n es is → Visits b after m es is
  visits_more es [] v = tt
  visits_more [] (i ∷ is) v = absurd v
  visits_more (e ∷ es) (i ∷ is) v = (has_more e i v.0, visits_more es is v.1)

  pub taken_more : (runs : List EndedRun) → AllTaken b node n runs → AllTaken b after m runs
  taken_more [] d = tt
  taken_more (run ∷ runs) d = (
    record {
      taken = d.0.taken;
      visits = visits_more (run_events_to b run.leg) run.nodes d.0.visits;
    },
    taken_more runs d.1,
  )

  event_more : (i : ℕ) → EventAt node n i → EventAt after m i
  event_more i d = let w = d.inside in record {
    inside = omega arith;
    real = ap (λ (z : LinkEvent). fake_kind z.est_type) (k.event i w) ∙ d.real;
  }

  pub ends_more : (arc : Arc) → ArcEnds node n arc → ArcEnds after m arc
  ends_more arc d = record { from = from d.from; to = to d.to }
    where
      from : (arc.from ≡ 1) ⊎ EventAt node n arc.from → (arc.from ≡ 1) ⊎ EventAt after m arc.from
      from (inl q) = inl q
      from (inr q) = inr (event_more arc.from q)

      to : (arc.to ≡ 0) ⊎ EventAt node n arc.to → (arc.to ≡ 0) ⊎ EventAt after m arc.to
      to (inl q) = inl q
      to (inr q) = inr (event_more arc.to q)

  pub starts_more : 0 < n → (runs : List EndedRun) (arc : Arc) → ArcEnds node n arc → Starts b node runs arc
      → Starts b after runs arc
  starts_more some runs arc d s = record {
    idx = s.idx;
    kept = s.kept;
    run = s.run;
    from = s.from;
    to_event = k.event arc.to (inside d.to) ∙ s.to_event;
    time = s.time;
    distance = s.distance;
  }
    where
      inside : (arc.to ≡ 0) ⊎ EventAt node n arc.to → arc.to < n
      inside (inl q) = omega arith
      inside (inr q) = q.inside

-- a speed near an event's, where the run moved or added
pub near_move : (b : List ℕ) (e : TimedEvent) (x : EstTime)
    → (x.speed ≡ e.speed) ⊎ (lt (gap e.speed x.speed) (join_gap b) ≡ true)
    → (x.speed ≡ e.speed) ⊎ ((lt (gap e.speed x.speed) (join_gap b) ≡ true)
    ⊎ (lt (gap x.speed e.speed) (join_gap b) ≡ true))
near_move b e x (inl q) = inl q
near_move b e x (inr q) = inr (inl q)

-- a node that has a real event
pub has_real : (b : List ℕ) (node : ℕ → EstTime) (n : ℕ) (e : TimedEvent) (i : ℕ) → HasEvent b node n e i → Real e
    → EventAt node n i
has_real b node n e i d real = record {
  inside = d.inside;
  real = ap (λ (z : LinkEvent). fake_kind z.est_type) d.event ∙ real;
}

-- ---- as many nodes as events

abbrev pub Paired : List ℕ → (ℕ → EstTime) → ℕ → List TimedEvent → List ℕ → Type 0
Paired b node n [] [] = Unit
Paired b node n [] (i ∷ is) = ⊥
Paired b node n (e ∷ es) [] = ⊥
Paired b node n (e ∷ es) (i ∷ is) = HasEvent b node n e i × Paired b node n es is

pub paired_more : (b : List ℕ) {n m : ℕ} (node after : ℕ → EstTime) → n ≤ m → EventsKept n node after
    → (es : List TimedEvent) (is : List ℕ) → Paired b node n es is → Paired b after m es is
paired_more b node after h k [] [] p = tt
paired_more b node after h k [] (i ∷ is) p = absurd p
paired_more b node after h k (e ∷ es) [] p = absurd p
paired_more b node after h k (e ∷ es) (i ∷ is) p =
    (has_more b node after h k e i p.0, paired_more b node after h k es is p.1)

module _ (b : List ℕ) (node : ℕ → EstTime) (n : ℕ) where
  -- one pair more
  pub paired_on : (es : List TimedEvent) (is : List ℕ) → Paired b node n es is → (e : TimedEvent) (i : ℕ)
      → HasEvent b node n e i → Paired b node n (es ++ (e ∷ [])) (is ++ (i ∷ []))
  paired_on [] [] p e i h = (h, tt)
  paired_on [] (j ∷ is) p e i h = absurd p
  paired_on (x ∷ es) [] p e i h = absurd p
  paired_on (x ∷ es) (j ∷ is) p e i h = (p.0, paired_on es is p.1 e i h)

  -- the nodes of the first events
  pub visits_paired : (es : List TimedEvent) (is : List ℕ) → Paired b node n es is → (e : TimedEvent) (i : ℕ)
      → HasEvent b node n e i → (later : List TimedEvent) → Visits b node n (es ++ (e ∷ later)) (is ++ (i ∷ []))
  visits_paired [] [] p e i h later = (h, tt)
  visits_paired [] (j ∷ is) p e i h later = absurd p
  visits_paired (x ∷ es) [] p e i h later = absurd p
  visits_paired (x ∷ es) (j ∷ is) p e i h later = (p.0, visits_paired es is p.1 e i h later)

  -- the node of the last event
  pub last_paired : (es : List TimedEvent) (is : List ℕ) → Paired b node n es is → (e : TimedEvent) (i : ℕ)
      → LastAt (es ++ (e ∷ [])) (is ++ (i ∷ [])) i
  last_paired [] [] p e i = refl
  last_paired [] (j ∷ is) p e i = absurd p
  last_paired (x ∷ es) [] p e i = absurd p
  last_paired (x ∷ []) (j ∷ is) p e i = last_paired [] is p.1 e i
  last_paired (x ∷ y ∷ es) (j ∷ is) p e i = last_paired (y ∷ es) is p.1 e i

  -- from the node of an event to that of the next
  pub leads_paired : (es : List TimedEvent) (is : List ℕ) → Paired b node n es is
      → (x y : TimedEvent) (i k : ℕ) (arc : Arc) → BetweenEvents x y i k arc → (later : List TimedEvent)
      → LeadsOn (es ++ (x ∷ y ∷ later)) (is ++ (i ∷ k ∷ [])) arc
  leads_paired [] [] p x y i k arc d later = inl d
  leads_paired [] (j ∷ is) p x y i k arc d later = absurd p
  leads_paired (z ∷ es) [] p x y i k arc d later = absurd p
  leads_paired (z ∷ []) (j ∷ []) p x y i k arc d later = inr (inl d)
  leads_paired (z ∷ []) (j ∷ l ∷ is) p x y i k arc d later = absurd p.1
  leads_paired (z ∷ w ∷ es) (j ∷ []) p x y i k arc d later = absurd p.1
  leads_paired (z ∷ w ∷ es) (j ∷ l ∷ is) p x y i k arc d later =
      inr (leads_paired (w ∷ es) (l ∷ is) p.1 x y i k arc d later)

-- ---- a run goes on

-- the run as it would be noted
abbrev pub so_far : Run → EndedRun
so_far run = record { leg = run.leg; nodes = run.nodes }

-- more events and more nodes
pub record Further (b : List ℕ) (run next : EndedRun) : Type 0 where
  pub events : List TimedEvent
  pub nodes : List ℕ
  pub more_events : run_events_to b next.leg ≡ run_events_to b run.leg ++ events
  pub more_nodes : next.nodes ≡ run.nodes ++ nodes

pub no_further : (b : List ℕ) (run : EndedRun) → Further b run run
no_further b run = record {
  events = [];
  nodes = [];
  more_events = sym (append-nil (run_events_to b run.leg));
  more_nodes = sym (append-nil run.nodes);
}

-- nodes more, in the same leg
pub nodes_further : (b : List ℕ) (run next : EndedRun) → next.leg ≡ run.leg → (is : List ℕ)
    → next.nodes ≡ run.nodes ++ is → Further b run next
nodes_further b run next l is q = record {
  events = [];
  nodes = is;
  more_events = ap (run_events_to b) l ∙ sym (append-nil (run_events_to b run.leg));
  more_nodes = q;
}

leads_further : (es later : List TimedEvent) (is more : List ℕ) (arc : Arc) → LeadsOn es is arc
    → LeadsOn (es ++ later) (is ++ more) arc
leads_further [] later is more arc d = absurd d
leads_further (x ∷ []) later is more arc d = absurd d
leads_further (x ∷ y ∷ es) later [] more arc d = absurd d
leads_further (x ∷ y ∷ es) later (i ∷ []) more arc d = absurd d
leads_further (x ∷ y ∷ es) later (i ∷ k ∷ is) more arc (inl q) = inl q
leads_further (x ∷ y ∷ es) later (i ∷ k ∷ is) more arc (inr q) = inr (leads_further (y ∷ es) later (k ∷ is) more arc q)

first_further : (is more : List ℕ) (k : ℕ) → FirstAt is k → FirstAt (is ++ more) k
first_further [] more k d = absurd d
first_further (i ∷ is) more k d = d

abbrev LeadsIn : List ℕ → Arc → EndedRun → Type 0
LeadsIn b arc r = LeadsOn (run_events_to b r.leg) r.nodes arc

leads_on : (b : List ℕ) (arc : Arc) (run next : EndedRun) → Further b run next → LeadsIn b arc run → LeadsIn b arc next
leads_on b arc run next f d =
    subst (λ (xs : List TimedEvent). LeadsOn xs next.nodes arc) (sym f.more_events)
    (subst (λ (is : List ℕ). LeadsOn (run_events_to b run.leg ++ f.events) is arc) (sym f.more_nodes)
    (leads_further (run_events_to b run.leg) f.events run.nodes f.nodes arc d))

first_on : (b : List ℕ) (k : ℕ) (run next : EndedRun) → Further b run next → FirstAt run.nodes k → FirstAt next.nodes k
first_on b k run next f d = subst (λ (is : List ℕ). FirstAt is k) (sym f.more_nodes)
    (first_further run.nodes f.nodes k d)

-- ---- runs of one list go on in another

some_so : (P Q : EndedRun → Type 0) → ((r : EndedRun) → P r → Q r) → (runs : List EndedRun) → SomeRun P runs
    → SomeRun Q runs
some_so P Q f [] s = absurd s
some_so P Q f (r ∷ runs) (inl p) = inl (f r p)
some_so P Q f (r ∷ runs) (inr s) = inr (some_so P Q f runs s)

-- each run of the first list is one of the second, or has gone on as one
abbrev pub Covers : List ℕ → List EndedRun → List EndedRun → Type 0
Covers b rs ss = All (λ (r : EndedRun). SomeRun (Further b r) ss) rs

covered : (b : List ℕ) (P : EndedRun → Type 0) → ((r s : EndedRun) → Further b r s → P r → P s)
    → (rs ss : List EndedRun) → Covers b rs ss → SomeRun P rs → SomeRun P ss
covered b P f [] ss c s = absurd s
covered b P f (r ∷ rs) ss c (inl p) = some_so (Further b r) P (λ s g. f r s g p) ss c.0
covered b P f (r ∷ rs) ss c (inr q) = covered b P f rs ss c.1 q

covers_add : (b : List ℕ) (x : EndedRun) (rs ss : List EndedRun) → Covers b rs ss → Covers b rs (x ∷ ss)
covers_add b x rs ss = all_so (λ (r : EndedRun). SomeRun (Further b r) ss)
    (λ (r : EndedRun). SomeRun (Further b r) (x ∷ ss)) (λ r s. inr s) rs

pub covers_same : (b : List ℕ) (rs : List EndedRun) → Covers b rs rs
covers_same b [] = tt
covers_same b (r ∷ rs) = (inl (no_further b r), covers_add b r rs rs (covers_same b rs))

-- the first has gone on
pub covers_first : (b : List ℕ) (r s : EndedRun) (rs : List EndedRun) → Further b r s → Covers b (r ∷ rs) (s ∷ rs)
covers_first b r s rs f = (inl f, covers_add b s rs rs (covers_same b rs))

-- one more
pub covers_more : (b : List ℕ) (r : EndedRun) (rs : List EndedRun) → Covers b rs (r ∷ rs)
covers_more b r rs = covers_add b r rs rs (covers_same b rs)

-- one more, behind the first
pub covers_second : (b : List ℕ) (r s : EndedRun) (rs : List EndedRun) → Covers b (r ∷ rs) (r ∷ s ∷ rs)
covers_second b r s rs = (inl (no_further b r), covers_add b r rs (s ∷ rs) (covers_more b s rs))

-- the runs that wait, and those that have ended
abbrev pub all_runs : List Run → List EndedRun → List EndedRun
all_runs [] ended = ended
all_runs (run ∷ runs) ended = so_far run ∷ all_runs runs ended

-- the first of them ends
pub covers_end : (b : List ℕ) (r s : EndedRun) → Further b r s → (runs : List Run) (ended : List EndedRun)
    → Covers b (r ∷ all_runs runs ended) (all_runs runs (s ∷ ended))
covers_end b r s f [] ended = covers_first b r s ended f
covers_end b r s f (run ∷ runs) ended =
    let c = covers_end b r s f runs ended in (
      inr c.0,
      (
        inl (no_further b (so_far run)),
        covers_add b (so_far run) (all_runs runs ended)
            (all_runs runs (s ∷ ended)) c.1,
      ),
    )

-- the run that has just ended
pub some_ended : (P : EndedRun → Type 0) (runs : List Run) (ended : List EndedRun) (r : EndedRun) → P r
    → SomeRun P (all_runs runs (r ∷ ended))
some_ended P [] ended r p = inl p
some_ended P (run ∷ runs) ended r p = inr (some_ended P runs ended r p)

pub starts_covered : (b : List ℕ) (node : ℕ → EstTime) (rs ss : List EndedRun) → Covers b rs ss → (arc : Arc)
    → Starts b node rs arc → Starts b node ss arc
starts_covered b node rs ss c arc s = record {
  idx = s.idx;
  kept = s.kept;
  run = covered b (λ (r : EndedRun). FirstAt r.nodes arc.to) (λ r q. first_on b arc.to r q) rs ss c s.run;
  from = s.from;
  to_event = s.to_event;
  time = s.time;
  distance = s.distance;
}

pub follows_covered : (b : List ℕ) (rs ss : List EndedRun) → Covers b rs ss → (arc : Arc) → Follows b rs arc
    → Follows b ss arc
follows_covered b rs ss c arc s = covered b (LeadsIn b arc) (λ r q. leads_on b arc r q) rs ss c s
