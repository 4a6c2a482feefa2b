-- The origins: each one's Arrive behind the start, its Clear behind that, and its run saved. The invariant holds with a
-- run at the start in front of those saved.
use mathlib.Core.Path.{◌≡◌, refl, sym, ap, ◌∙◌, subst}
use mathlib.Core.Logic.{◌⊎◌, inl, inr}
use mathlib.Core.Bool.{Bool, true, false, ◌||◌}
use mathlib.Core.List.{List, [], ◌∷◌, ◌++◌}
use Prim.Native.Nat.{ℕ, zero, suc, ◌+◌, ◌-◌, ◌<◌, ◌≤◌}
use native.Mathlib.Omega.{arith}
use borrow.Author.Tests.{eqb-true, eq-eqb}
use lib.Dec.{eqb}
use lib.Ieee.{Float, binary64, add, sub, of_bits}
use Rattle.laws.proofs.Truth.{not_both, equal_or_not}
use Rattle.net_node.proofs.Tables.{RoomIn}
use Rattle.net_node.specs.Table.{Table, at}
use Rattle.laws.proofs.Answers.{Holds, holds_then, holds_so}
use Rattle.laws.specs.Answer.{given, and_then}
use Rattle.book_format.specs.Format.{legs, origin_link, leg_link, leg_parent, length_bits, float_of}
use Rattle.book_format.specs.Chains.{leg_below}
use Rattle.book_options.specs.Options.{kept_origins}
use Rattle.net_node.specs.declared.EstType.TheVariants.{Arrive, Clear}
use Rattle.net_node.specs.declared.TimedEvent.{TimedEvent}
use Rattle.grow_path.specs.Path.{leg_events}
use Rattle.grow_rules.specs.Run.{Arc, EndedRun, Net, Run, After, arc_to, member_of, insert_event}
use Rattle.grow_rules.specs.Growth.{Growth, join_gap, departure, first_nodes, origin_event, origin_run, on_leg, takes}
use Rattle.grow_rules.specs.Growth.{seek_leg, saves, grow_origin, grow_origins}
use Rattle.arcs_growth.specs.Arcs.{one}
use Rattle.arcs_growth.specs.Runs.{first, run_events_to, HasEvent, AllTaken, FirstAt, LeadsOn}
use Rattle.arcs_growth.specs.Read.{SomeKept, Read}
use Rattle.laws.proofs.Below.{or_right}
use Rattle.laws.proofs.Members.{All, Some, all_so}
use Rattle.book_legs.proofs.Found.{LegOf, leg_found}
use Rattle.book_options.proofs.Apart.{Other, Apart, kept_apart}
use Rattle.arcs_growth.proofs.Labels.{event, fake_role, base_role, Labels}
use Rattle.arcs_growth.proofs.NewNodes.{apart}
use Rattle.arcs_growth.proofs.Invariant.{Grows, Stands, Owned, Waits, stands_more, owned_popped}
use Rattle.arcs_growth.proofs.Insertions.{Inserts, Safe, insert_keeps}
use Rattle.arcs_growth.proofs.Joining.{last_popped}
use Rattle.arcs_growth.proofs.Paths.{run_events_first}
use Rattle.arcs_growth.proofs.Visits.{near_move, has_more, has_real, taken_more, so_far, all_runs, covers_more}
use Rattle.arcs_growth.proofs.AtEvents.{AtEvent, Notes, waiting_more, notes_more, notes_on, Driven}
use Rattle.arcs_growth.proofs.Running.{next_deeper}
use Rattle.arcs_growth.proofs.Firsts.{first_labels, first_grows, first_waits}
use Rattle.arcs_growth.proofs.Driving.{LegIn}
use Rattle.arcs_growth.proofs.Loads.{leg_count_lem, load, Kids, firsts_load}

-- where a train that waits at its origin ends
abbrev pub train_end : List ℕ → Float
train_end b = add binary64 (of_bits binary64 0) (float_of (length_bits b))

abbrev pub arrive : List ℕ → ℕ → TimedEvent
arrive b link = origin_event b link Arrive (of_bits binary64 0)

abbrev pub clear : List ℕ → ℕ → TimedEvent
clear b link = origin_event b link Clear (train_end b)

-- the runs saved so far stand at origins' Clears, and are to take starting legs, no leg twice
pub record Rooted (b : List ℕ) (places : ℕ) (g : Growth) : Type 0 where
  pub labels : Labels
  pub grows : Grows labels places g.net
  pub waits : Waits labels g.net (origin_run b ∷ g.saved)
  pub at_event : All (λ (s : Run). AtEvent b labels (at g.net.table) g.net.nodes s (leg_events b s.leg)) g.saved
  pub notes : All (Notes b (at g.net.table) g.net.nodes g.saved g.net.runs) g.net.noted
  pub taken : AllTaken b (at g.net.table) g.net.nodes g.net.runs
  pub numbers : All (λ (s : Run). (s.place.time_to_next ≡ departure b) × (s.place.dist_to_next ≡ train_end b)) g.saved
  pub legs_in : All (LegIn b) g.saved
  pub firsts : Kids b 0 (leg_count_lem g.saved)

-- no saved run's leg is over the link of one of these rows
abbrev pub Unused : List ℕ → List Run → List ℕ → Type 0
Unused b saved idxs = All (λ (idx : ℕ). (x : ℕ) → 0 < leg_count_lem saved x → leg_link b (x - 1) ≡ origin_link b idx
    → ⊥) idxs

-- after an origin the start has a next; these rows are to come
pub record RootedWith (b : List ℕ) (places : ℕ) (idxs : List ℕ) (g : Growth) : Type 0 where
  pub rooted : Rooted b places g
  pub closed : 0 < (at g.net.table 1).idx_next
  pub unused : Unused b g.saved idxs

module _ {b : List ℕ} (r : Read b) (places : ℕ) (idx : ℕ) (kept : member_of (kept_origins b) idx ≡ true) (g : Growth)
    (d : Rooted b places g) (idxs : List ℕ) (unused : Unused b g.saved (idx ∷ idxs)) (other : Other b idx idxs) where
  abbrev link : ℕ
  link = origin_link b idx

  abbrev net : Net
  net = g.net

  abbrev saved : List Run
  saved = g.saved

  -- the start's next nodes are never open: they are not so deep
  safe_arrive : Safe d.labels net 1 (join_gap b) (arrive b link)
  unfolding origin_event origin_run
  safe_arrive from q some same z o =
      let v = d.grows.body.graph.laid in
      let y : ℕ = (at net.table from).idx_next in
      let e = next_deeper d.grows 1 v.two d.waits.stand.0.self (join_gap b) (arrive b link) refl from q some same in
      absurd (go y e.1.0 e.1.1 (d.waits.owned y e.0 (ap base_role e.1.0) z o))
    where
      go : (y : ℕ) → d.labels.role y ≡ event → d.labels.depth y ≡ suc (d.labels.depth 1)
          → Owned d.labels y (origin_run b ∷ saved) → ⊥
      go y m k (inl e) = apart fake_role (ap d.labels.role e ∙ d.grows.body.graph.laid.first) m refl refl
      go y m k (inr e) = let w = d.grows.body.bottom in let c = e.0 in omega arith

  pub arrive_keeps : Holds (Inserts d.labels places net (origin_run b) saved (join_gap b) (arrive b link))
      (insert_event places (join_gap b) net (origin_run b) (arrive b link))
  unfolding origin_run origin_event
  arrive_keeps = insert_keeps d.grows d.waits (join_gap b) (arrive b link) refl safe_arrive

  module _ (a : After) (i : Inserts d.labels places net (origin_run b) saved (join_gap b) (arrive b link) a) where
    deep_one : i.labels.depth a.run.place.idx_prev ≡ 1
    unfolding origin_run
    deep_one = i.deeper ∙ ap suc d.grows.body.bottom

    -- an open Clear holds what every run at an origin has
    safe_clear : Safe i.labels a.net a.run.place.idx_prev (join_gap b) (clear b link)
    unfolding origin_event
    safe_clear from q some same z o =
        let y : ℕ = (at a.net.table from).idx_next in
        let e = next_deeper i.grows a.run.place.idx_prev i.waits.stand.0.within i.waits.stand.0.self (join_gap b)
        (clear b link) refl from q some same in
        go y e.1.1 (i.waits.owned y e.0 (ap base_role e.1.0) z o) z o
      where
        go : (y : ℕ) → i.labels.depth y ≡ suc (i.labels.depth a.run.place.idx_prev) → Owned i.labels y (a.run ∷ saved)
            → (at a.net.table y).idx_next ≡ 0 → member_of a.net.ends y ≡ false
            → ((at a.net.table y).time_to_next ≡ departure b) × ((at a.net.table y).dist_to_next ≡ train_end b)
        go y k (inl e) z o = let c : i.labels.depth y ≡ i.labels.depth a.run.place.idx_prev = ap i.labels.depth e in
            absurd (omega arith)
        go y k (inr e) z o = here saved e.1 i.waits.stand.1 d.numbers
          where
            here : (runs : List Run) → Some (λ (s : Run). y ≡ s.place.idx_prev) runs → All (Stands i.labels a.net) runs
                → All (λ (s : Run). (s.place.time_to_next ≡ departure b) × (s.place.dist_to_next ≡ train_end b)) runs
                → ((at a.net.table y).time_to_next ≡ departure b) × ((at a.net.table y).dist_to_next ≡ train_end b)
            here [] s f n = absurd s
            here (s ∷ runs) (inl e) f n =
                let h = f.0.holds (ap (λ (k : ℕ). (at a.net.table k).idx_next) (sym e) ∙ z)
                (ap (member_of a.net.ends) (sym e) ∙ o) in (
                  ap (λ (k : ℕ). (at a.net.table k).time_to_next) e ∙ h.0 ∙ n.0.0,
                  ap (λ (k : ℕ). (at a.net.table k).dist_to_next) e ∙ h.1 ∙ n.0.1,
                )
            here (s ∷ runs) (inr t) f n = here runs t f.1 n.1

    module _ (c : After) (j : Inserts i.labels places a.net a.run saved (join_gap b) (clear b link) c) where
      deep_two : j.labels.depth c.run.place.idx_prev ≡ 2
      deep_two = j.deeper ∙ ap suc deep_one

      origin_waits : (k : ℕ) → Waits j.labels c.net (origin_run b ∷ on_leg c.run k false ∷ saved)
      unfolding origin_run
      origin_waits k = record {
        owned = λ x h p z o. go x (j.waits.owned x h p z o);
        stand = (
          stands_more j.later (origin_run b) (stands_more i.later (origin_run b) d.waits.stand.0),
          (record { within = s.within; self = s.self; holds = s.holds; listed = s.listed }, j.waits.stand.1),
        );
        last = ((λ w. not_both w refl), (refl, j.waits.last.1));
      }
        where
          s : Stands j.labels c.net c.run
          s = j.waits.stand.0

          go : (x : ℕ) → Owned j.labels x (c.run ∷ saved)
              → Owned j.labels x (origin_run b ∷ on_leg c.run k false ∷ saved)
          go x (inl e) = inr (ap j.labels.depth e ∙ deep_two, inl e)
          go x (inr e) = inr (e.0, inr e.1)

      module _ (k : ℕ) (o : LegOf b (legs b) 0 link k) (by : leg_below b (legs b) 0 link ≡ suc k) where
        events_are : run_events_to b (suc k) ≡ arrive b link ∷ clear b link ∷ leg_events b (suc k)
        events_are = run_events_first r k o.within o.parent
            ∙ ap (λ (l : ℕ). arrive b l ∷ clear b l ∷ leg_events b (suc k)) o.link

        abbrev run : Run
        run = on_leg c.run (suc k) false

        -- the nodes of its Arrive and Clear
        abbrev x : ℕ
        x = a.run.place.idx_prev

        abbrev y : ℕ
        y = c.run.place.idx_prev

        nodes_are : c.run.nodes ≡ x ∷ y ∷ []
        unfolding origin_run
        nodes_are = j.nodes ∙ ap (λ (is : List ℕ). is ++ (y ∷ [])) i.nodes

        has-arrive : HasEvent b (at a.net.table) a.net.nodes (arrive b link) x
        has-arrive = record {
          inside = i.waits.stand.0.within;
          event = i.here;
          speed = near_move b (arrive b link) (at a.net.table x) i.near;
        }

        has-clear : HasEvent b (at c.net.table) c.net.nodes (clear b link) y
        has-clear = record {
          inside = j.waits.stand.0.within;
          event = j.here;
          speed = near_move b (clear b link) (at c.net.table y) j.near;
        }

        has-arrive-then : HasEvent b (at c.net.table) c.net.nodes (arrive b link) x
        has-arrive-then = has_more b (at a.net.table) (at c.net.table) j.later.nodes j.kept (arrive b link) x has-arrive

        origin-at-event : AtEvent b j.labels (at c.net.table) c.net.nodes run (leg_events b (suc k))
        unfolding origin_event
        origin-at-event = record {
          deep = subst (λ (l : ℕ). 2 ≤ l) (sym deep_two) (omega arith);
          taken = first idx k kept by;
          past = arrive b link ∷ [];
          last = clear b link;
          events = events_are;
          front = x ∷ [];
          nodes = nodes_are;
          paired = (has-arrive-then, tt);
          here = has-clear;
          real = refl;
          time = j.time;
          distance = j.distance;
        }

        -- ---- what was noted of the Arrive, and of the Clear

        abbrev Noted : Arc → Type 0
        Noted = Notes b (at c.net.table) c.net.nodes (run ∷ saved) c.net.runs

        runs_same : c.net.runs ≡ net.runs
        runs_same = j.runs ∙ i.runs

        -- of those before
        old-notes : All Noted net.noted
        old-notes = subst (λ (xs : List EndedRun). All
            (Notes b (at c.net.table) c.net.nodes (run ∷ saved) xs) net.noted) (sym runs_same)
            (notes_on b (at c.net.table) c.net.nodes saved (run ∷ saved) net.runs net.runs (λ arc z. z)
            (covers_more b (so_far run) (all_runs saved net.runs)) net.noted
            (notes_more b (at a.net.table) (at c.net.table)
            (omega (arith, d.grows.body.graph.laid.two, i.later.nodes)) j.later.nodes j.kept saved net.runs net.noted
            (notes_more b (at net.table) (at a.net.table)
            (omega (arith, d.grows.body.graph.laid.two)) i.later.nodes i.kept saved net.runs net.noted d.notes)))

        first-here : FirstAt c.run.nodes x
        first-here = subst (λ (is : List ℕ). FirstAt is x) (sym nodes_are) refl

        arrive-notes : All Noted a.net.noted
        unfolding origin_run origin_event arc_to
        arrive-notes = go i.noted
          where
            go : (a.net.noted ≡ net.noted) ⊎ (a.net.noted ≡ arc_to (origin_run b).place x (arrive b link) ∷ net.noted)
                → All Noted a.net.noted
            go (inl e) = subst (All Noted) (sym e) old-notes
            go (inr e) = subst (All Noted) (sym e) (
              (
                record {
                  from = inl refl;
                  to = inr (has_real b (at c.net.table) c.net.nodes
                      (arrive b link) x has-arrive-then refl);
                },
                inr (inl (record {
                  idx = idx;
                  kept = kept;
                  run = inl first-here;
                  from = refl;
                  to_event = has-arrive-then.event;
                  time = refl;
                  distance = refl;
                })),
              ),
              old-notes,
            )

        leads-here : LeadsOn (run_events_to b (suc k)) c.run.nodes (arc_to a.run.place y (clear b link))
        unfolding arc_to
        leads-here =
            subst (λ (xs : List TimedEvent). LeadsOn xs c.run.nodes (arc_to a.run.place y (clear b link)))
            (sym events_are)
            (subst (λ (is : List ℕ). LeadsOn (arrive b link ∷ clear b link ∷ leg_events b (suc k)) is
            (arc_to a.run.place y (clear b link))) (sym nodes_are)
            (inl (record {
              from = refl;
              to = refl;
              time = ap (sub binary64 (clear b link).time) i.time;
              distance = ap (sub binary64 (clear b link).offset) i.distance;
            })))

        clear-notes : All Noted c.net.noted
        unfolding arc_to origin_event
        clear-notes = go j.noted
          where
            go : (c.net.noted ≡ a.net.noted) ⊎ (c.net.noted ≡ arc_to a.run.place y (clear b link) ∷ a.net.noted)
                → All Noted c.net.noted
            go (inl e) = subst (All Noted) (sym e) arrive-notes
            go (inr e) = subst (All Noted) (sym e) (
              (
                record {
                  from = inr (has_real b (at c.net.table) c.net.nodes (arrive b link) x has-arrive-then refl);
                  to = inr (has_real b (at c.net.table) c.net.nodes (clear b link) y has-clear refl);
                },
                inr (inr (inl leads-here)),
              ),
              arrive-notes,
            )

        -- the leg is new among the saved runs', as its link is
        origin-kids : Kids b 0 (leg_count_lem (on_leg c.run (suc k) false ∷ saved))
        origin-kids = record {
          once = λ x h. once x h (eqb (suc k) (suc x)) refl;
          parent = λ x h p. parent x h (eqb (suc k) (suc x)) refl p;
        }
          where
            is : (x : ℕ) → eqb (suc k) (suc x) ≡ true → x ≡ k
            is x e = let q : suc k ≡ suc x = eqb-true (suc k) (suc x) e in omega arith

            fresh : (x : ℕ) → x ≡ k → leg_count_lem saved (suc x) ≡ 0
            fresh x e = go (equal_or_not (leg_count_lem saved (suc x)) 0)
              where
                less : suc x - 1 ≡ k
                less = omega arith

                go : (leg_count_lem saved (suc x) ≡ 0) ⊎ (leg_count_lem saved (suc x) ≡ 0 → ⊥)
                    → leg_count_lem saved (suc x) ≡ 0
                go (inl q) = q
                go (inr q) = absurd (unused.0 (suc x) (omega arith) (ap (leg_link b) less ∙ o.link))

            once : (x : ℕ) → x < legs b → (t : Bool) → eqb (suc k) (suc x) ≡ t → one t + leg_count_lem saved (suc x) ≤ 1
            once x h true e = let q = fresh x (is x e) in omega arith
            once x h false e = let q = d.firsts.once x h in omega arith

            parent : (x : ℕ) → x < legs b → (t : Bool) → eqb (suc k) (suc x) ≡ t
                → 0 < one t + leg_count_lem saved (suc x) → leg_parent b x ≡ 0
            parent x h true e p = ap (leg_parent b) (is x e) ∙ o.parent
            parent x h false e p = d.firsts.parent x h (omega arith)

        origin-rooted : Rooted b places (saves g c.net (on_leg c.run (suc k) false))
        unfolding origin_event
        origin-rooted = record {
          labels = j.labels;
          grows = j.grows;
          waits = origin_waits (suc k);
          at_event = (
            origin-at-event,
            waiting_more b (at a.net.table) (at c.net.table) j.later.labels j.later.nodes j.kept saved
                (waiting_more b (at net.table) (at a.net.table) i.later.labels i.later.nodes i.kept saved d.at_event),
          );
          notes = clear-notes;
          taken = subst (AllTaken b (at c.net.table) c.net.nodes) (sym runs_same)
              (taken_more b (at a.net.table) (at c.net.table) j.later.nodes j.kept net.runs
              (taken_more b (at net.table) (at a.net.table) i.later.nodes i.kept net.runs d.taken));
          numbers = ((j.time, j.distance), d.numbers);
          legs_in = ((omega arith, omega (arith, o.within)), d.legs_in);
          firsts = origin-kids;
        }

        still-unused : Unused b (on_leg c.run (suc k) false ∷ saved) idxs
        still-unused = go idxs other unused.1
          where
            one-row : (x : ℕ) → (origin_link b idx ≡ origin_link b x → ⊥)
                → ((y : ℕ) → 0 < leg_count_lem saved y → leg_link b (y - 1) ≡ origin_link b x → ⊥)
                → (y : ℕ) (t : Bool) → eqb (suc k) y ≡ t → 0 < one t + leg_count_lem saved y
                → leg_link b (y - 1) ≡ origin_link b x → ⊥
            one-row x f u y true e p q =
                let s : suc k ≡ y = eqb-true (suc k) y e in
                let w : y - 1 ≡ k = omega arith in
                f (sym o.link ∙ ap (leg_link b) (sym w) ∙ q)
            one-row x f u y false e p q = u y (omega arith) q

            go : (xs : List ℕ) → Other b idx xs → Unused b saved xs → Unused b (on_leg c.run (suc k) false ∷ saved) xs
            go [] f u = tt
            go (x ∷ xs) f u = ((λ y. one-row x f.0 u.0 y (eqb (suc k) y) refl), go xs f.1 u.1)

  pub origin_keeps : Holds (RootedWith b places idxs) (grow_origin b places link g)
  unfolding grow_origin seek_leg origin_run origin_event
  origin_keeps =
      holds_then (Inserts d.labels places net (origin_run b) saved (join_gap b) (arrive b link))
      (RootedWith b places idxs) (insert_event places (join_gap b) net (origin_run b) (arrive b link))
      (λ (a : After). and_then (insert_event places (join_gap b) a.net a.run (clear b link))
      (λ (c : After). and_then (seek_leg b c.run 0 link) (λ (run : Run). given (saves g c.net run))))
      arrive_keeps
      (λ a i. holds_then (Inserts i.labels places a.net a.run saved (join_gap b) (clear b link))
      (RootedWith b places idxs) (insert_event places (join_gap b) a.net a.run (clear b link))
      (λ (c : After). and_then (seek_leg b c.run 0 link) (λ (run : Run). given (saves g c.net run)))
      (insert_keeps i.grows i.waits (join_gap b) (clear b link) refl (safe_clear a i))
      (λ c j. go a i c j (leg_below b (legs b) 0 link) refl))
    where
      go : (a : After) (i : Inserts d.labels places net (origin_run b) saved (join_gap b) (arrive b link) a) (c : After)
          (j : Inserts i.labels places a.net a.run saved (join_gap b) (clear b link) c) (x : ℕ)
          → leg_below b (legs b) 0 link ≡ x
          → Holds (RootedWith b places idxs) (and_then (takes c.run x) (λ (run : Run). given (saves g c.net run)))
      go a i c j zero e = tt
      go a i c j (suc k) e =
          let o = leg_found b (legs b) 0 link k e in
          record {
            rooted = origin-rooted a i c j k o e;
            closed = closed (equal_or_not (at c.net.table 1).idx_next 0);
            unused = still-unused a i c j k o e;
          }
        where
          closed : ((at c.net.table 1).idx_next ≡ 0) ⊎ ((at c.net.table 1).idx_next ≡ 0 → ⊥)
              → 0 < (at c.net.table 1).idx_next
          closed (inl z) = let w = (j.later.still 1 (omega (arith, d.grows.body.graph.laid.two, i.later.nodes)) z).0 in
              let f = i.closes in absurd (omega arith)
          closed (inr z) = omega arith

-- ---- all of them

abbrev pub KeptAll : List ℕ → List ℕ → Type 0
KeptAll b idxs = All (λ (idx : ℕ). member_of (kept_origins b) idx ≡ true) idxs

pub member_all : (xs : List ℕ) → All (λ (x : ℕ). member_of xs x ≡ true) xs
member_all [] = tt
member_all (x ∷ xs) = (
  ap (λ (t : Bool). t || member_of xs x) (eq-eqb x x refl),
  all_so (λ (y : ℕ). member_of xs y ≡ true) (λ (y : ℕ). member_of (x ∷ xs) y ≡ true)
      (λ y e. or_right (eqb x y) (member_of xs y) e) xs (member_all xs),
)

origins_rest : {b : List ℕ} → Read b → (places : ℕ) (idxs : List ℕ) (g : Growth) → RootedWith b places idxs g
    → Apart b idxs → KeptAll b idxs → Holds (RootedWith b places []) (grow_origins b places idxs g)
unfolding grow_origins
origins_rest r places [] g d a k = d
origins_rest {b} r places (idx ∷ idxs) g d a k =
    holds_then (RootedWith b places idxs) (RootedWith b places []) (grow_origin b places (origin_link b idx) g)
    (grow_origins b places idxs)
    (origin_keeps r places idx k.0 g d.rooted idxs d.unused a.0) (λ h e. origins_rest r places idxs h e a.1 k.1)

origins_all : {b : List ℕ} → Read b → (places : ℕ) (idxs : List ℕ) (g : Growth) → Rooted b places g
    → Unused b g.saved idxs → SomeKept idxs → Apart b idxs → KeptAll b idxs
    → Holds (RootedWith b places []) (grow_origins b places idxs g)
unfolding grow_origins
origins_all r places [] g d u s a k = absurd s
origins_all {b} r places (idx ∷ idxs) g d u s a k =
    holds_then (RootedWith b places idxs) (RootedWith b places []) (grow_origin b places (origin_link b idx) g)
    (grow_origins b places idxs)
    (origin_keeps r places idx k.0 g d idxs u a.0) (λ h e. origins_rest r places idxs h e a.1 k.1)

-- the driver's invariant, with the saved runs as light as the legs are many
pub record Ready (b : List ℕ) (places : ℕ) (g : Growth) : Type 0 where
  pub driven : Driven b places g.net g.saved
  pub legs_in : All (LegIn b) g.saved
  pub light : load b g.saved ≤ legs b

rooted_ready : {b : List ℕ} → Read b → (places : ℕ) (g : Growth) → RootedWith b places [] g → Ready b places g
unfolding origin_run
rooted_ready {b} r places g d =
    let o = d.rooted in
    let c = d.closed in
    record {
      driven = record {
        labels = o.labels;
        grows = o.grows;
        waits = record {
          owned = λ i h p z e. owned_popped o.labels (origin_run b) g.saved (o.waits.owned i h p z e)
              (λ (q : i ≡ 1). let w : (at g.net.table 1).idx_next ≡ 0 = ap (λ (k : ℕ). (at g.net.table k).idx_next)
              (sym q) ∙ z in omega arith);
          stand = o.waits.stand.1;
          last = last_popped g.net g.saved o.waits.last.1;
        };
        at_event = o.at_event;
        notes = o.notes;
        taken = o.taken;
      };
      legs_in = o.legs_in;
      light = firsts_load r (leg_count_lem g.saved) o.firsts;
    }

pub first_rooted : (b : List ℕ) (places : ℕ) (t : Table) → RoomIn t places → 1 < places
    → Rooted b places (record { net = first_nodes b t; saved = [] })
unfolding first_nodes
first_rooted b places t room more = record {
  labels = first_labels;
  grows = first_grows b t places room more;
  waits = first_waits b t places room more;
  at_event = tt;
  notes = tt;
  taken = tt;
  numbers = tt;
  legs_in = tt;
  firsts = record { once = λ i h. omega arith; parent = λ i h p. absurd (omega arith) };
}

pub none_used : (b idxs : List ℕ) → Unused b [] idxs
none_used b [] = tt
none_used b (idx ∷ idxs) = ((λ x h e. absurd (omega arith)), none_used b idxs)

pub origins_ready : {b : List ℕ} → Read b → (places : ℕ) (t : Table) → RoomIn t places → 1 < places
    → Holds (Ready b places) (grow_origins b places (kept_origins b) (record { net = first_nodes b t; saved = [] }))
origins_ready {b} r places t room more =
    holds_so (RootedWith b places []) (Ready b places)
    (grow_origins b places (kept_origins b) (record { net = first_nodes b t; saved = [] }))
    (origins_all r places (kept_origins b) (record { net = first_nodes b t; saved = [] })
    (first_rooted b places t room more) (none_used b (kept_origins b)) r.kept (kept_apart b)
    (member_all (kept_origins b)))
    (rooted_ready r places)
