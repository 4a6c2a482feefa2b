-- A growth's refusal has a number of document 01's table, and never 0: in particular the driver's turns never run out.
use mathlib.Core.Path.{◌≡◌, refl}
use mathlib.Core.Logic.{inl, inr}
use mathlib.Core.Bool.{Bool, true, false}
use mathlib.Core.List.{List, [], ◌∷◌}
use Prim.Native.Nat.{ℕ, zero, suc, ◌-◌, ◌≤◌}
use native.Mathlib.Omega.{arith}
use lib.Dec.{eqb, ltb}
use lib.Ieee.{Float, binary64, of_bits}
use borrow.Author.Tests.{ltb-true}
use Rattle.laws.specs.Answer.{Answer, refused, given, and_then}
use Rattle.laws.proofs.Answers.{Refuses, refuses_then, refuses_with}
use Rattle.laws.proofs.Members.{All}
use Rattle.book_format.specs.Format.{legs, link_next, link_next_alt, origin_link}
use Rattle.book_format.specs.Chains.{leg_below}
use Rattle.book_options.specs.Options.{in_set, kept_origins}
use Rattle.event_walk.specs.Walk.{row11}
use Rattle.net_node.specs.Table.{Room, Table, put, at}
use Rattle.net_node.specs.declared.EstTime.{EstTime}
use Rattle.net_node.specs.Left.{Network}
use Rattle.net_node.specs.declared.TimedEvent.{TimedEvent}
use Rattle.std.specs.Prelude.{Result, Ok, Err}
use Rattle.net_insertion.specs.declared.Insertion.{Insertion}
use Rattle.net_insertion.specs.declared.Insertion.TheVariants.{Added, Moved}
use Rattle.refusals.specs.declared.Refusal.{Refusal}
use Rattle.net_insertion.specs.Insertion.{inserted, inserted_table}
use Rattle.net_insertion.proofs.Numbers.{RefusesAs, inserted_refuses}
use Rattle.net_joins.specs.Joins.{JoinStep, JoinsTo, GoesOn, Beyond, join_step}
use Rattle.grow_path.specs.Path.{link_of, leg_course, leg_events}
use Rattle.grow_rules.specs.Run.{Net, Run, After, member_of, inserted_run, insert_event, Outcome, Ended, On, goes_on}
use Rattle.grow_rules.specs.Run.{with_joins, joined_as, event_as, run_event, next_event, run_events}
use Rattle.grow_rules.specs.Growth.{Growth, join_gap, first_nodes, origin_run, origin_arrive, origin_clear, takes}
use Rattle.grow_rules.specs.Growth.{seek_leg, saves, grow_origin, grow_origins, bad_finish, finish_as, waiting, on_leg}
use Rattle.grow_rules.specs.Growth.{on_over, fits_in, save_over, on_as, go_on, finishes, leg_end_as, leg_done, leg_as}
use Rattle.grow_rules.specs.Growth.{take_leg, drive, fake_node, leads_to_end, room_for, end_fakes, last_node, Grown}
use Rattle.grow_rules.specs.Growth.{start_as, grown_with, grow}
use Rattle.arcs_growth.specs.Read.{Read}
use Rattle.arcs_growth.proofs.AtEvents.{Driven}
use Rattle.arcs_growth.proofs.Driving.{LegIn, Turned, takes_leg, nobody, some_run}
use Rattle.arcs_growth.proofs.Loads.{load}
use Rattle.arcs_growth.proofs.Origins.{Ready, origins_ready}

-- rows 9 to 13
abbrev pub OfGrowth : ℕ → Type 0
OfGrowth k = (9 ≤ k) × (k ≤ 13)

abbrev Grows : {A : Type 0} → Answer A → Type 0
Grows a = Refuses OfGrowth a

-- ---- one event

module _ (places : ℕ) (limit : Float) where
  insert_numbered : (net : Net) (run : Run) (e : TimedEvent) → Grows (insert_event places limit net run e)
  unfolding insert_event
  insert_numbered net run e =
      go (inserted_table net.table net.nodes limit run.place e)
      (inserted net.table net.nodes places (member_of net.ends) limit run.place e)
      (inserted_refuses net.table net.nodes places (member_of net.ends) limit run.place e)
    where
      go : (t : Table) (a : Result Insertion Refusal) → RefusesAs a → Grows (inserted_run net run e t a)
      go t (Err r) (inl q) = rw q (omega arith, omega arith)
      go t (Err r) (inr q) = rw q (omega arith, omega arith)
      go t (Ok i) h = grown i
        where
          grown : (i : Insertion) → Grows (inserted_run net run e t (Ok i))
          grown (Moved q) = tt
          grown (Added q split) = tt

  goes_numbered : (a : Answer After) → Grows a → Grows (goes_on a)
  goes_numbered (refused k) h = h
  goes_numbered (given a) h = tt

  event_numbered : (net : Net) (run : Run) (e : TimedEvent) → Grows (run_event places limit net run e)
  unfolding run_event
  event_numbered net run e = go run.has_split
    where
      steps : (s : JoinStep) → Grows (joined_as places limit net run e s)
      steps Beyond = (omega arith, omega arith)
      steps (JoinsTo target) = tt
      steps (GoesOn es) = goes_numbered (insert_event places limit net (with_joins run es) e)
          (insert_numbered net (with_joins run es) e)

      go : (t : Bool) → Grows (event_as t places limit net run e)
      go true = steps (join_step (at net.table) net.nodes places limit e run.joins)
      go false = goes_numbered (insert_event places limit net run e) (insert_numbered net run e)

  events_numbered : (es : List TimedEvent) (a : After) → Grows (run_events places limit es a)
  unfolding run_events
  events_numbered [] a = tt
  events_numbered (e ∷ es) a = refuses_then OfGrowth (run_event places limit a.net a.run e)
      (next_event (run_events places limit es)) (event_numbered a.net a.run e) (go (events_numbered es))
    where
      go : ((c : After) → Grows (run_events places limit es c)) → (o : Outcome)
          → Grows (next_event (run_events places limit es) o)
      go ih (Ended net) = tt
      go ih (On c) = ih c

-- ---- one leg

takes_numbered : (run : Run) (j : ℕ) → Grows (takes run j)
takes_numbered run zero = (omega arith, omega arith)
takes_numbered run (suc j) = tt

seek_numbered : (b : List ℕ) (run : Run) (parent link : ℕ) → Grows (seek_leg b run parent link)
unfolding seek_leg
seek_numbered b run parent link = takes_numbered run (leg_below b (legs b) parent link)

over_numbered : (b : List ℕ) (net : Net) (run : Run) (link : ℕ) (saved : List Run)
    → Grows (on_over b net run link saved)
unfolding on_over
over_numbered b net run link saved =
    refuses_then OfGrowth (seek_leg b run run.leg link)
    (λ (r : Run). given (record { net = net; saved = on_leg r r.leg run.has_split ∷ saved }))
    (seek_numbered b run run.leg link) (λ r. tt)

fits_numbered : (t : Bool) (saved : List Run) → Grows (fits_in t saved)
fits_numbered true saved = (omega arith, omega arith)
fits_numbered false saved = tt

save_numbered : (b : List ℕ) (places : ℕ) (run : Run) (link : ℕ) (saved : List Run)
    → Grows (save_over b places run link saved)
unfolding save_over
save_numbered b places run link saved =
    refuses_then OfGrowth (seek_leg b run run.leg link)
    (λ (r : Run). fits_in (ltb places (waiting (r ∷ saved))) (r ∷ saved)) (seek_numbered b run run.leg link)
    (λ r. fits_numbered (ltb places (waiting (r ∷ saved))) (r ∷ saved))

on_numbered : (b : List ℕ) (places : ℕ) (net : Net) (run : Run) (saved : List Run)
    → Grows (go_on b places net run saved)
unfolding go_on
on_numbered b places net run saved =
    go (eqb (link_next b (link_of b run.leg)) 0) (in_set b (link_next b (link_of b run.leg)))
    (in_set b (link_next_alt b (link_of b run.leg))) (link_next b (link_of b run.leg))
    (link_next_alt b (link_of b run.leg))
  where
    go : (x y z : Bool) (next alt : ℕ) → Grows (on_as x y z b places net run next alt saved)
    go true y z next alt = (omega arith, omega arith)
    go false false false next alt = (omega arith, omega arith)
    go false true false next alt = over_numbered b net run next saved
    go false false true next alt = over_numbered b net run alt saved
    go false true true next alt = refuses_then OfGrowth (save_over b places run alt saved) (on_over b net run next)
        (save_numbered b places run alt saved) (λ rest. over_numbered b net run next rest)

leg_numbered : (b : List ℕ) (places : ℕ) (net : Net) (run : Run) (saved : List Run)
    → Grows (take_leg b places net run saved)
unfolding take_leg
leg_numbered b places net run saved = go (row11 (leg_course b run.leg))
  where
    finish : (t : Bool) (m : Net) (r : Run) → Grows (finish_as t m r saved)
    finish true m r = (omega arith, omega arith)
    finish false m r = tt

    end : (t : Bool) (a : After) → Grows (leg_end_as t b places a saved)
    end true a = finish (bad_finish a.net a.run) a.net a.run
    end false a = on_numbered b places a.net a.run saved

    done : (o : Outcome) → Grows (leg_done b places saved o)
    done (Ended m) = tt
    done (On a) = end (finishes b a.run.leg) a

    go : (t : Bool) → Grows (leg_as t b places net run saved)
    go true = (omega arith, omega arith)
    go false = refuses_then OfGrowth (run_events places (join_gap b) (leg_events b run.leg)
        (record { net = net; run = run })) (leg_done b places saved)
        (events_numbered places (join_gap b) (leg_events b run.leg) (record { net = net; run = run })) done

-- ---- all runs

drive_numbered : {b : List ℕ} (r : Read b) {places : ℕ} (k : ℕ) (net : Net) (saved : List Run)
    → Driven b places net saved → All (LegIn b) saved → load b saved ≤ k → Grows (drive k b places net saved)
unfolding drive
drive_numbered r zero net [] d ls h = tt
drive_numbered r zero net (run ∷ saved) d ls h = absurd (some_run run saved (nobody r (run ∷ saved) ls h))
drive_numbered r (suc k) net [] d ls h = tt
drive_numbered {b} r {places} (suc k) net (run ∷ saved) d ls h =
    refuses_with OfGrowth (Turned r places run saved) (take_leg b places net run saved)
    (λ (g : Growth). drive k b places g.net g.saved) (takes_leg r d ls) (leg_numbered b places net run saved)
    (λ g t. drive_numbered r k g.net g.saved t.driven t.legs_in (let l = t.less in omega arith))

-- ---- origins and ends

origins_numbered : (b : List ℕ) (places : ℕ) (idxs : List ℕ) (g : Growth) → Grows (grow_origins b places idxs g)
unfolding grow_origins grow_origin
origins_numbered b places [] g = tt
origins_numbered b places (idx ∷ idxs) g =
    refuses_then OfGrowth (grow_origin b places (origin_link b idx) g) (grow_origins b places idxs)
    (refuses_then OfGrowth (insert_event places (join_gap b) g.net (origin_run b) (origin_arrive b (origin_link b idx)))
    (λ (a : After). and_then (insert_event places (join_gap b) a.net a.run (origin_clear b (origin_link b idx)))
    (λ (c : After). and_then (seek_leg b c.run 0 (origin_link b idx)) (λ (run : Run). given (saves g c.net run))))
    (insert_numbered places (join_gap b) g.net (origin_run b) (origin_arrive b (origin_link b idx)))
    (λ a. refuses_then OfGrowth (insert_event places (join_gap b) a.net a.run (origin_clear b (origin_link b idx)))
    (λ (c : After). and_then (seek_leg b c.run 0 (origin_link b idx)) (λ (run : Run). given (saves g c.net run)))
    (insert_numbered places (join_gap b) a.net a.run (origin_clear b (origin_link b idx)))
    (λ c. refuses_then OfGrowth (seek_leg b c.run 0 (origin_link b idx)) (λ (run : Run). given (saves g c.net run))
    (seek_numbered b c.run 0 (origin_link b idx)) (λ run. tt))))
    (λ h. origins_numbered b places idxs h)

room_numbered : (t : Bool) (u : Network) → Grows (room_for t u)
room_numbered true u = tt
room_numbered false u = (omega arith, omega arith)

ends_numbered : (places : ℕ) (is : List ℕ) (alt : ℕ) (t : Network) → Grows (end_fakes places is alt t)
unfolding end_fakes
ends_numbered places [] alt t = tt
ends_numbered places (i ∷ is) alt t =
    refuses_then OfGrowth (room_for (ltb t.nodes places)
    (record {
      table = put (put t.table t.nodes fake) i (leads_to_end (at (put t.table t.nodes fake) i) t.nodes);
      nodes = suc t.nodes;
    }))
    (end_fakes places is t.nodes) (room_numbered (ltb t.nodes places)
    (record {
      table = put (put t.table t.nodes fake) i (leads_to_end (at (put t.table t.nodes fake) i) t.nodes);
      nodes = suc t.nodes;
    })) (λ u. ends_numbered places is t.nodes u)
  where
    fake : EstTime
    fake = fake_node (suc t.nodes) i alt (of_bits binary64 0)

last_numbered : (places : ℕ) (t : Network) → Grows (last_node places t)
unfolding last_node
last_numbered places t = room_numbered (ltb t.nodes places)
    (record { table = put t.table t.nodes (fake_node 0 (t.nodes - 1) 0 (of_bits binary64 0)); nodes = suc t.nodes })

-- ---- growth

-- of every book that was read, on every table
pub grow_numbered : (b : List ℕ) (places : ℕ) (t : Table) → Read b → Room t.floats t.numbers places
    → Refuses OfGrowth (grow b places t)
unfolding grow
grow_numbered b places t r room = go (ltb 1 places) refl
  where
    tail : (net : Net) → Grows (and_then (end_fakes places net.ends 0 (record { table = net.table; nodes = net.nodes }))
        (λ (u : Network). and_then (last_node places u) (λ (v : Network). given (grown_with net v))))
    tail net =
        refuses_then OfGrowth (end_fakes places net.ends 0 (record { table = net.table; nodes = net.nodes }))
        (λ (u : Network). and_then (last_node places u) (λ (v : Network). given (grown_with net v)))
        (ends_numbered places net.ends 0 (record { table = net.table; nodes = net.nodes }))
        (λ u. refuses_then OfGrowth (last_node places u) (λ (v : Network). given (grown_with net v))
        (last_numbered places u) (λ v. tt))

    onward : (g : Growth) → Answer Grown
    onward g = and_then (drive (legs b) b places g.net g.saved)
        (λ (net : Net). and_then (end_fakes places net.ends 0 (record { table = net.table; nodes = net.nodes }))
        (λ (u : Network). and_then (last_node places u) (λ (v : Network). given (grown_with net v))))

    go : (x : Bool) → ltb 1 places ≡ x → Grows (and_then (start_as x (first_nodes b t))
        (λ (s : Growth). and_then (grow_origins b places (kept_origins b) s) onward))
    go false e = (omega arith, omega arith)
    go true e =
        refuses_with OfGrowth (Ready b places) (grow_origins b places (kept_origins b)
        (record { net = first_nodes b t; saved = [] })) onward (origins_ready r places t room (ltb-true 1 places e))
        (origins_numbered b places (kept_origins b) (record { net = first_nodes b t; saved = [] }))
        (λ g d. refuses_then OfGrowth (drive (legs b) b places g.net g.saved)
        (λ (net : Net). and_then (end_fakes places net.ends 0 (record { table = net.table; nodes = net.nodes }))
        (λ (u : Network). and_then (last_node places u) (λ (v : Network). given (grown_with net v))))
        (drive_numbered r (legs b) g.net g.saved d.driven d.legs_in d.light) tail)
