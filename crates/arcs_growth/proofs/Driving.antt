-- The driver keeps its invariant: a leg's events, then a finish or the way on, with what is saved; and no run waits
-- when it is done.
use mathlib.Core.Path.{◌≡◌, refl, sym, ap, ◌∙◌, subst}
use mathlib.Core.Logic.{inl, inr}
use mathlib.Core.Bool.{Bool, true, false}
use mathlib.Core.List.{List, [], ◌∷◌, ◌++◌, append-nil, append_assoc}
use Prim.Native.Nat.{ℕ, zero, suc, ◌+◌, ◌-◌, ◌<◌, ◌≤◌}
use native.Mathlib.Omega.{arith}
use borrow.Author.Tests.{eqb-true, eqb-false}
use lib.Dec.{eqb, ltb}
use lib.ListN.{length}
use Rattle.net_node.specs.Table.{at}
use Rattle.laws.proofs.Answers.{Holds, holds_then, holds_so}
use Rattle.laws.specs.Answer.{given, and_then}
use Rattle.book_format.specs.Format.{legs, link_next, link_next_alt, leg_link, leg_parent}
use Rattle.book_format.specs.Chains.{leg_below}
use Rattle.book_options.specs.Options.{in_set}
use Rattle.event_walk.specs.Walk.{row11}
use Rattle.net_node.specs.declared.EstTime.{EstTime}
use Rattle.net_node.specs.declared.TimedEvent.{TimedEvent}
use Rattle.grow_path.specs.Path.{link_of, leg_course, leg_events}
use Rattle.grow_rules.specs.Run.{Net, Run, arc_to_end, Outcome, Ended, On, run_events}
use Rattle.grow_rules.specs.Growth.{Growth, join_gap, on_leg, takes, seek_leg, bad_finish, finished_at, finish_as}
use Rattle.grow_rules.specs.Growth.{waiting, on_over, fits_in, save_over, on_as, go_on, finishes, leg_end_as, leg_done}
use Rattle.grow_rules.specs.Growth.{leg_as, take_leg, drive}
use Rattle.arcs_growth.specs.Arcs.{one}
use Rattle.arcs_growth.specs.Runs.{Taken, later, run_events_to}
use Rattle.arcs_growth.specs.Read.{Read}
use Rattle.laws.proofs.Members.{All}
use Rattle.book_legs.proofs.Found.{LegOf, leg_found}
use Rattle.arcs_growth.proofs.Labels.{Labels}
use Rattle.arcs_growth.proofs.Invariant.{Stands, Waits, Owned}
use Rattle.arcs_growth.proofs.Finishing.{finish_tip, finish_keeps}
use Rattle.arcs_growth.proofs.Paths.{run_events_more, events_real}
use Rattle.arcs_growth.proofs.Visits.{has_real, so_far, Further, no_further, covers_first, covers_second, covers_end}
use Rattle.arcs_growth.proofs.Visits.{all_runs}
use Rattle.arcs_growth.proofs.AtEvents.{AtEvent, notes_on, out_more, last_here, visits_here, Driven, Running}
use Rattle.arcs_growth.proofs.Running.{Came, events_run}
use Rattle.arcs_growth.proofs.Loads.{leg_count_lem, load, load_same, Kids, load_less}

-- the number of a leg
abbrev pub LegIn : List ℕ → Run → Type 0
LegIn b r = (0 < r.leg) × (r.leg ≤ legs b)

pub some_run : (run : Run) (runs : List Run) → (run ∷ runs) ≡ [] → ⊥
some_run run runs e = let q : suc (length runs) ≡ 0 = ap length e in omega arith

-- ---- another leg, and a saved run

pub waits_leg : {L : Labels} {net : Net} {run : Run} {saved : List Run} → Waits L net (run ∷ saved) → (j : ℕ)
    → Waits L net (on_leg run j run.has_split ∷ saved)
waits_leg {L} {net} {run} u j = record {
  owned = u.owned;
  stand = (record { within = s.within; self = s.self; holds = s.holds; listed = s.listed }, u.stand.1);
  last = ((λ w. let t = u.last.0 w in record { last = t.last; empty = t.empty; no_end = t.no_end }), u.last.1);
}
  where
    s : Stands L net run
    s = u.stand.0

pub waits_saved : {L : Labels} {net : Net} {run : Run} {saved : List Run} → Waits L net (run ∷ saved) → (j : ℕ)
    → Waits L net (run ∷ on_leg run j false ∷ saved)
waits_saved {L} {net} {run} {saved} u j = record {
  owned = λ i h b z o. go i (u.owned i h b z o);
  stand = (s, (record { within = s.within; self = s.self; holds = s.holds; listed = s.listed }, u.stand.1));
  last = (u.last.0, (refl, u.last.1));
}
  where
    s : Stands L net run
    s = u.stand.0

    go : (i : ℕ) → Owned L i (run ∷ saved) → Owned L i (run ∷ on_leg run j false ∷ saved)
    go i (inl q) = inl q
    go i (inr q) = inr (q.0, inr q.1)

module _ {b : List ℕ} (r : Read b) where
  -- a run at the end of its leg takes one of the leg's children
  leg_events_lem : (run : Run) → LegIn b run → {link : ℕ} (i : ℕ) → LegOf b (legs b) run.leg link i
      → run_events_to b (suc i) ≡ run_events_to b run.leg ++ leg_events b (suc i)
  leg_events_lem run l i o =
      let is : run.leg ≡ suc (run.leg - 1) = omega (arith, l.0) in
      run_events_more r i (run.leg - 1) o.within (o.parent ∙ is)
      ∙ ap (λ (j : ℕ). run_events_to b j ++ leg_events b (suc i)) (sym is)

  at_event_leg : {L : Labels} {node : ℕ → EstTime} {n : ℕ} {run : Run} → AtEvent b L node n run [] → LegIn b run
      → {link : ℕ} (i : ℕ) → LegOf b (legs b) run.leg link i → Taken b (suc i) → (flag : Bool)
      → AtEvent b L node n (on_leg run (suc i) flag) (leg_events b (suc i))
  at_event_leg {run = run} f l i o t flag = record {
    deep = f.deep;
    taken = t;
    past = f.past;
    last = f.last;
    events = leg_events_lem run l i o ∙ ap (λ (xs : List TimedEvent). xs ++ leg_events b (suc i)) f.events
        ∙ append_assoc f.past (f.last ∷ []) (leg_events b (suc i));
    front = f.front;
    nodes = f.nodes;
    paired = f.paired;
    here = f.here;
    real = f.real;
    time = f.time;
    distance = f.distance;
  }

  -- the run of the leg goes on as that of the child
  leg_further : (run : Run) → LegIn b run → {link : ℕ} (i : ℕ) → LegOf b (legs b) run.leg link i → (flag : Bool)
      → Further b (so_far run) (so_far (on_leg run (suc i) flag))
  leg_further run l i o flag = record {
    events = leg_events b (suc i);
    nodes = [];
    more_events = leg_events_lem run l i o;
    more_nodes = sym (append-nil run.nodes);
  }

  -- what waits after a turn
  pub record Turned (places : ℕ) (run : Run) (saved : List Run) (g : Growth) : Type 0 where
    pub driven : Driven b places g.net g.saved
    pub legs_in : All (LegIn b) g.saved
    pub less : load b g.saved + 1 ≤ load b (run ∷ saved)

  -- ---- the way on

  module _ (places : ℕ) (net : Net) (run : Run) (saved : List Run) (in_here : LegIn b run) (link : ℕ) (way : (i : ℕ)
      → leg_below b (legs b) run.leg link ≡ suc i → Taken b (suc i)) where
    -- the children counted so far stay apart from one over this link
    on_over_lem : {rest : List Run} → Running b places net run rest [] → All (LegIn b) rest → (c : ℕ → ℕ)
        → ((x : ℕ) → leg_count_lem rest x ≡ c x + leg_count_lem saved x)
        → ((i : ℕ) → LegOf b (legs b) run.leg link i → Kids b run.leg (λ (x : ℕ). one (eqb (suc i) x) + c x))
        → Holds (Turned places run saved) (on_over b net run link rest)
    unfolding on_over seek_leg
    on_over_lem {rest} d ls c counts kids = go (leg_below b (legs b) run.leg link) refl
      where
        go : (j : ℕ) → leg_below b (legs b) run.leg link ≡ j
            → Holds (Turned places run saved) (and_then (takes run j)
            (λ (q : Run). given (record { net = net; saved = on_leg q q.leg run.has_split ∷ rest })))
        go zero e = tt
        go (suc i) e =
            let o = leg_found b (legs b) run.leg link i e in
            record {
              driven = record {
                labels = d.labels;
                grows = d.grows;
                waits = waits_leg d.waits (suc i);
                at_event = (at_event_leg d.at_event in_here i o (way i e) run.has_split, d.others);
                notes = notes_on b (at net.table) net.nodes (run ∷ rest)
                    (on_leg run (suc i) run.has_split ∷ rest) net.runs net.runs (λ arc z. z)
                    (covers_first b (so_far run) (so_far (on_leg run (suc i) run.has_split)) (all_runs rest net.runs)
                    (leg_further run in_here i o run.has_split)) net.noted d.notes;
                taken = d.taken;
              };
              legs_in = ((omega arith, omega (arith, o.within)), ls);
              less = load_less r run saved (on_leg run (suc i) run.has_split ∷ rest)
                  (λ (x : ℕ). one (eqb (suc i) x) + c x) in_here.0 in_here.1 (kids i o) (λ x. let q = counts x in
                  omega arith);
            }

    -- an alternative's run is saved
    record Saved (rest : List Run) : Type 0 where
      running : Running b places net run rest []
      legs_in : All (LegIn b) rest
      child : ℕ
      is_child : LegOf b (legs b) run.leg link child
      counts : (x : ℕ) → leg_count_lem rest x ≡ one (eqb (suc child) x) + leg_count_lem saved x

    save_over_lem : Running b places net run saved [] → All (LegIn b) saved
        → Holds Saved (save_over b places run link saved)
    unfolding save_over seek_leg
    save_over_lem d ls = go (leg_below b (legs b) run.leg link) refl
      where
        fits : (t : Bool) (rest : List Run) → Saved rest → Holds Saved (fits_in t rest)
        fits true rest s = tt
        fits false rest s = s

        go : (j : ℕ) → leg_below b (legs b) run.leg link ≡ j
            → Holds Saved (and_then (takes run j) (λ (q : Run). fits_in (ltb places (waiting (q ∷ saved))) (q ∷ saved)))
        go zero e = tt
        go (suc i) e =
            let o = leg_found b (legs b) run.leg link i e in
            fits (ltb places (waiting (on_leg run (suc i) false ∷ saved))) (on_leg run (suc i) false ∷ saved) (record {
              running = record {
                labels = d.labels;
                grows = d.grows;
                waits = waits_saved d.waits (suc i);
                at_event = d.at_event;
                others = (at_event_leg d.at_event in_here i o (way i e) false, d.others);
                notes = notes_on b (at net.table) net.nodes (run ∷ saved)
                    (run ∷ on_leg run (suc i) false ∷ saved) net.runs net.runs (λ arc z. z)
                    (covers_second b (so_far run) (so_far (on_leg run (suc i) false)) (all_runs saved net.runs))
                    net.noted d.notes;
                taken = d.taken;
              };
              legs_in = ((omega arith, omega (arith, o.within)), ls);
              child = i;
              is_child = o;
              counts = λ x. refl;
            })

  -- one child alone
  one_kid : (p i link : ℕ) → LegOf b (legs b) p link i → Kids b p (λ (x : ℕ). one (eqb (suc i) x) + 0)
  one_kid p i link o = record {
    once = λ j h. go (eqb (suc i) (suc j));
    parent = λ j h q. same j (eqb (suc i) (suc j)) refl q;
  }
    where
      go : (t : Bool) → one t + 0 ≤ 1
      go true = omega arith
      go false = omega arith

      same : (j : ℕ) (t : Bool) → eqb (suc i) (suc j) ≡ t → 0 < one t + 0 → leg_parent b j ≡ p
      same j true e q = let d : suc i ≡ suc j = eqb-true (suc i) (suc j) e in let f : j ≡ i = omega arith in
          ap (leg_parent b) f ∙ o.parent
      same j false e q = absurd (omega arith)

  -- two children over different links
  two_kids : (p i k link alt : ℕ) → LegOf b (legs b) p link i → LegOf b (legs b) p alt k → (link ≡ alt → ⊥)
      → Kids b p (λ (x : ℕ). one (eqb (suc i) x) + one (eqb (suc k) x))
  two_kids p i k link alt o m d = record {
    once = λ j h. go j (eqb (suc i) (suc j)) (eqb (suc k) (suc j)) refl refl;
    parent = λ j h q. same j (eqb (suc i) (suc j)) (eqb (suc k) (suc j)) refl refl q;
  }
    where
      is : (l j : ℕ) → eqb (suc l) (suc j) ≡ true → j ≡ l
      is l j e = let q : suc l ≡ suc j = eqb-true (suc l) (suc j) e in omega arith

      go : (j : ℕ) (s t : Bool) → eqb (suc i) (suc j) ≡ s → eqb (suc k) (suc j) ≡ t → one s + one t ≤ 1
      go j true true e f = absurd (d (sym o.link ∙ ap (leg_link b) (sym (is i j e) ∙ is k j f) ∙ m.link))
      go j true false e f = omega arith
      go j false true e f = omega arith
      go j false false e f = omega arith

      same : (j : ℕ) (s t : Bool) → eqb (suc i) (suc j) ≡ s → eqb (suc k) (suc j) ≡ t → 0 < one s + one t
          → leg_parent b j ≡ p
      same j true t e f q = ap (leg_parent b) (is i j e) ∙ o.parent
      same j false true e f q = ap (leg_parent b) (is k j f) ∙ m.parent
      same j false false e f q = absurd (omega arith)

  goes_on_lem : {places : ℕ} {net : Net} {run : Run} {saved : List Run} → Running b places net run saved []
      → LegIn b run → All (LegIn b) saved → finishes b run.leg ≡ false
      → Holds (Turned places run saved) (go_on b places net run saved)
  unfolding go_on link_of
  goes_on_lem {places} {net} {run} {saved} d in_here ls fin =
      go (eqb next 0) (in_set b next) (in_set b alt) refl refl refl
    where
      next : ℕ
      next = link_next b (link_of b run.leg)

      alt : ℕ
      alt = link_next_alt b (link_of b run.leg)

      differ : eqb next 0 ≡ false → next ≡ alt → ⊥
      differ e q = eqb-false next 0 e (r.forks (run.leg - 1) (omega (arith, in_here.0, in_here.1)) q)

      over_next : in_set b next ≡ true → (i : ℕ) → leg_below b (legs b) run.leg next ≡ suc i → Taken b (suc i)
      over_next s i e = later run.leg i next d.at_event.taken fin (inl refl) s e

      over_alt : in_set b alt ≡ true → (i : ℕ) → leg_below b (legs b) run.leg alt ≡ suc i → Taken b (suc i)
      over_alt s i e = later run.leg i alt d.at_event.taken fin (inr refl) s e

      single : (link : ℕ) → ((i : ℕ) → leg_below b (legs b) run.leg link ≡ suc i → Taken b (suc i))
          → Holds (Turned places run saved) (on_over b net run link saved)
      single link way = on_over_lem places net run saved in_here link way d ls (λ (x : ℕ). 0) (λ x. omega arith)
          (λ i o. one_kid run.leg i link o)

      go : (x y z : Bool) → eqb next 0 ≡ x → in_set b next ≡ y → in_set b alt ≡ z
          → Holds (Turned places run saved) (on_as x y z b places net run next alt saved)
      go true y z e p q = tt
      go false false false e p q = tt
      go false true false e p q = single next (over_next p)
      go false false true e p q = single alt (over_alt q)
      go false true true e p q =
          holds_then (Saved places net run saved in_here alt (over_alt q)) (Turned places run saved)
          (save_over b places run alt saved) (on_over b net run next)
          (save_over_lem places net run saved in_here alt (over_alt q) d ls)
          (λ rest s. on_over_lem places net run saved in_here next (over_next p) s.running s.legs_in
          (λ (x : ℕ). one (eqb (suc s.child) x)) s.counts
          (λ i o. two_kids run.leg i s.child next alt o s.is_child (differ e)))

  -- ---- one leg

  finishes_here : {places : ℕ} {net : Net} {run : Run} {saved : List Run} → Running b places net run saved []
      → LegIn b run → All (LegIn b) saved → finishes b run.leg ≡ true → (t : Bool) → bad_finish net run ≡ t
      → Holds (Turned places run saved) (finish_as t net run saved)
  unfolding finished_at arc_to_end
  finishes_here d l ls fin true e = tt
  finishes_here {places} {net} {run} {saved} d l ls fin false e =
      let v = d.grows.body.graph.laid.two in
      let tip = finish_tip net run (omega arith) e in
      let f = finish_keeps d.grows d.waits tip in
      let a = d.at_event in
      record {
        driven = record {
          labels = d.labels;
          grows = f.grows;
          waits = f.waits;
          at_event = d.others;
          notes = (
            (
              record {
                from = inr (has_real b (at net.table) net.nodes a.last run.place.idx_prev a.here a.real);
                to = inl refl;
              },
              inl (record { run = inl (fin, last_here a); to = refl; time = refl; distance = refl }),
            ),
            notes_on b (at net.table) net.nodes (run ∷ saved) saved net.runs (so_far run ∷ net.runs)
                (out_more b (so_far run) net.runs) (covers_end b (so_far run) (so_far run)
                (no_further b (so_far run)) saved net.runs) net.noted d.notes,
          );
          taken = (record { taken = a.taken; visits = visits_here a }, d.taken);
        };
        legs_in = ls;
        less = load_less r run saved saved (λ (x : ℕ). 0) l.0 l.1
            (record { once = λ i h. omega arith; parent = λ i h q. absurd (omega arith) }) (λ x. omega arith);
      }

  leg_done_lem : (places : ℕ) (run : Run) (saved : List Run) (o : Outcome) → Came b places run.leg saved [] o
      → LegIn b run → All (LegIn b) saved → Holds (Turned places run saved) (leg_done b places saved o)
  leg_done_lem places run saved (Ended net) d l ls = record {
    driven = d;
    legs_in = ls;
    less = load_less r run saved saved (λ (x : ℕ). 0) l.0 l.1
        (record { once = λ i h. omega arith; parent = λ i h q. absurd (omega arith) }) (λ x. omega arith);
  }
  leg_done_lem places run saved (On a) d l ls =
      holds_so (Turned places a.run saved) (Turned places run saved)
      (leg_end_as (finishes b a.run.leg) b places a saved) (go (finishes b a.run.leg) refl)
      (λ g t. record {
        driven = t.driven;
        legs_in = t.legs_in;
        less = subst (λ (k : ℕ). load b g.saved + 1 ≤ k) same t.less;
      })
    where
      in_here : LegIn b a.run
      in_here = subst (λ (k : ℕ). (0 < k) × (k ≤ legs b)) (sym d.1) l

      same : load b (a.run ∷ saved) ≡ load b (run ∷ saved)
      same = load_same b (leg_count_lem (a.run ∷ saved)) (leg_count_lem (run ∷ saved))
          (λ x. ap (λ (k : ℕ). one (eqb k x) + leg_count_lem saved x) d.1)

      go : (t : Bool) → finishes b a.run.leg ≡ t → Holds (Turned places a.run saved) (leg_end_as t b places a saved)
      go true fin = finishes_here d.0 in_here ls fin (bad_finish a.net a.run) refl
      go false fin = goes_on_lem d.0 in_here ls fin

  pub takes_leg : {places : ℕ} {net : Net} {run : Run} {saved : List Run} → Driven b places net (run ∷ saved)
      → All (LegIn b) (run ∷ saved) → Holds (Turned places run saved) (take_leg b places net run saved)
  unfolding take_leg
  takes_leg {places} {net} {run} {saved} d ls = go (row11 (leg_course b run.leg))
    where
      running : Running b places net run saved (leg_events b run.leg)
      running = record {
        labels = d.labels;
        grows = d.grows;
        waits = d.waits;
        at_event = d.at_event.0;
        others = d.at_event.1;
        notes = d.notes;
        taken = d.taken;
      }

      go : (t : Bool) → Holds (Turned places run saved) (leg_as t b places net run saved)
      go true = tt
      go false =
          holds_then (Came b places run.leg saved []) (Turned places run saved)
          (run_events places (join_gap b) (leg_events b run.leg) (record { net = net; run = run }))
          (leg_done b places saved)
          (events_run (leg_events b run.leg) (record { net = net; run = run }) running (events_real b run.leg))
          (λ o c. leg_done_lem places run saved o c ls.0 ls.1)

  -- ---- all runs

  pub nobody : (runs : List Run) → All (LegIn b) runs → load b runs ≤ 0 → runs ≡ []
  nobody [] ls h = refl
  nobody (run ∷ runs) ls h =
      let l = load_less r run runs runs (λ (x : ℕ). 0) ls.0.0 ls.0.1
      (record { once = λ i k. omega arith; parent = λ i k q. absurd (omega arith) }) (λ x. omega arith) in
      absurd (omega arith)

  pub drives : {places : ℕ} (k : ℕ) (net : Net) (saved : List Run) → Driven b places net saved → All (LegIn b) saved
      → load b saved ≤ k → Holds (λ (n : Net). Driven b places n []) (drive k b places net saved)
  unfolding drive
  drives zero net [] d ls h = d
  drives zero net (run ∷ saved) d ls h = absurd (some_run run saved (nobody (run ∷ saved) ls h))
  drives (suc k) net [] d ls h = d
  drives {places} (suc k) net (run ∷ saved) d ls h =
      holds_then (Turned places run saved) (λ (n : Net). Driven b places n []) (take_leg b places net run saved)
      (λ (g : Growth). drive k b places g.net g.saved) (takes_leg d ls)
      (λ g t. drives k g.net g.saved t.driven t.legs_in (let l = t.less in omega arith))
