-- The driver makes the same of two tables that agree in the nodes so far: legs, finishes, the way on, and the origins.
use mathlib.Core.Path.{◌≡◌, refl, sym, subst}
use mathlib.Core.Bool.{Bool, true, false, not, ◌||◌}
use mathlib.Core.List.{List, [], ◌∷◌}
use Prim.Native.Nat.{ℕ, zero, suc, ◌-◌, ◌<◌}
use native.Mathlib.Omega.{arith}
use lib.Dec.{eqb, ltb}
use Rattle.net_node.proofs.Tables.{RoomIn}
use Rattle.net_node.specs.Table.{Table, at}
use Rattle.laws.proofs.Answers.{Both, both_then, both_with}
use Rattle.laws.specs.Answer.{given, and_then}
use Rattle.book_format.specs.Format.{legs, link_next, link_next_alt, origin_link}
use Rattle.book_format.specs.Chains.{leg_below}
use Rattle.book_options.specs.Options.{in_set, kept_origins}
use Rattle.event_walk.specs.Walk.{row11}
use Rattle.net_node.specs.declared.EstTime.{EstTime}
use Rattle.grow_path.specs.Path.{link_of, leg_course, leg_events}
use Rattle.grow_rules.specs.Run.{Net, Run, After, member_of, insert_event, Outcome, Ended, On, run_events}
use Rattle.grow_rules.specs.Growth.{on_leg, Growth, join_gap, origin_run, takes, seek_leg, saves, grow_origin}
use Rattle.grow_rules.specs.Growth.{grow_origins, bad_finish, finished_at, finish_as, waiting, on_over, fits_in}
use Rattle.grow_rules.specs.Growth.{save_over, on_as, go_on, finishes, leg_end_as, leg_done, leg_as, take_leg, drive}
use Rattle.arcs_growth.specs.Read.{Read}
use Rattle.laws.proofs.Members.{All}
use Rattle.book_options.proofs.Apart.{Other, Apart}
use Rattle.arcs_growth.proofs.Insertions.{Inserts}
use Rattle.arcs_growth.proofs.Paths.{events_real}
use Rattle.arcs_growth.proofs.AtEvents.{Driven, Running}
use Rattle.arcs_growth.proofs.Running.{Came, events_run}
use Rattle.arcs_growth.proofs.Driving.{LegIn, Turned, takes_leg}
use Rattle.arcs_growth.proofs.Origins.{Rooted, RootedWith, KeptAll, Unused, arrive, clear, arrive_keeps, origin_keeps}
use Rattle.arcs_growth.proofs.Agreeing.{Agree}
use Rattle.arcs_growth.proofs.Alike.{with_table, Alike, AlikeAfter, insert_alike}
use Rattle.arcs_growth.proofs.AlikeRuns.{AlikeOutcome, after_is, events_alike}

abbrev pub AlikeGrowth : ℕ → Growth → Growth → Type 0
AlikeGrowth others g h = Alike others g.net h.net × (h.saved ≡ g.saved)

pub growth_is : {others : ℕ} (g other : Growth) → AlikeGrowth others g other → (P : Growth → Type 0)
    → ((u : Table) → Agree g.net.nodes (at g.net.table) (at u) → RoomIn u others
    → P (record { net = with_table g.net u; saved = g.saved })) → P other
growth_is g other (l, q) P f = subst P (λ k. record { net = sym l.is k; saved = sym q k }) (f l.table l.agree l.room)

-- ---- a finish, and the way on

module _ (b : List ℕ) (places others : ℕ) (net : Net) (run : Run) (u : Table)
    (ag : Agree net.nodes (at net.table) (at u)) (room : RoomIn u others) where
  abbrev other : Net
  other = with_table net u

  here : Alike others net other
  here = record { table = u; is = refl; agree = ag; room = room }

  finish_alike : (saved : List Run) → 0 < net.nodes
      → Both (AlikeGrowth others) (finish_as (bad_finish net run) net run saved)
      (finish_as (bad_finish other run) other run saved)
  unfolding bad_finish finished_at
  finish_alike saved h =
      subst (λ (x : EstTime). Both (AlikeGrowth others) (finish_as (bad_finish net run) net run saved)
      (finish_as (not (eqb run.place.idx_prev (net.nodes - 1)) || not (eqb x.idx_next 0) || member_of net.ends
      (net.nodes - 1)) other run saved)) (sym (ag (net.nodes - 1) (omega arith)))
      (go (bad_finish net run))
    where
      go : (t : Bool) → Both (AlikeGrowth others) (finish_as t net run saved) (finish_as t other run saved)
      go true = tt
      go false = (record { table = u; is = refl; agree = ag; room = room }, refl)

  over_alike : (link : ℕ) (saved : List Run) → Both (AlikeGrowth others) (on_over b net run link saved)
      (on_over b other run link saved)
  unfolding on_over seek_leg
  over_alike link saved = go (leg_below b (legs b) run.leg link)
    where
      go : (j : ℕ) → Both (AlikeGrowth others) (and_then (takes run j)
          (λ (r : Run). given (record { net = net; saved = on_leg r r.leg run.has_split ∷ saved })))
          (and_then (takes run j) (λ (r : Run). given (record {
            net = other;
            saved = on_leg r r.leg run.has_split ∷ saved;
          })))
      go zero = tt
      go (suc i) = (here, refl)

  save_alike : (link : ℕ) (saved : List Run) → Both (λ (x y : List Run). y ≡ x) (save_over b places run link saved)
      (save_over b others run link saved)
  unfolding save_over seek_leg
  save_alike link saved = go (leg_below b (legs b) run.leg link)
    where
      fits : (s t : Bool) (rest : List Run) → Both (λ (x y : List Run). y ≡ x) (fits_in s rest) (fits_in t rest)
      fits true t rest = tt
      fits false true rest = tt
      fits false false rest = refl

      go : (j : ℕ) → Both (λ (x y : List Run). y ≡ x)
          (and_then (takes run j) (λ (r : Run). fits_in (ltb places (waiting (r ∷ saved))) (r ∷ saved)))
          (and_then (takes run j) (λ (r : Run). fits_in (ltb others (waiting (r ∷ saved))) (r ∷ saved)))
      go zero = tt
      go (suc i) =
          let r : Run = on_leg run (suc i) false in
          fits (ltb places (waiting (r ∷ saved))) (ltb others (waiting (r ∷ saved))) (r ∷ saved)

  on_alike : (saved : List Run) → Both (AlikeGrowth others) (go_on b places net run saved)
      (go_on b others other run saved)
  unfolding go_on
  on_alike saved = go (eqb next 0) (in_set b next) (in_set b alt)
    where
      next : ℕ
      next = link_next b (link_of b run.leg)

      alt : ℕ
      alt = link_next_alt b (link_of b run.leg)

      go : (x y z : Bool) → Both (AlikeGrowth others) (on_as x y z b places net run next alt saved)
          (on_as x y z b others other run next alt saved)
      go true y z = tt
      go false false false = tt
      go false true false = over_alike next saved
      go false false true = over_alike alt saved
      go false true true =
          both_then (λ (x y : List Run). y ≡ x) (AlikeGrowth others) (save_over b places run alt saved)
          (save_over b others run alt saved) (on_over b net run next) (on_over b other run next)
          (save_alike alt saved)
          (λ x y e. subst (λ (r : List Run). Both (AlikeGrowth others) (on_over b net run next x)
          (on_over b other run next r)) (sym e) (over_alike next x))

-- ---- one leg

leg_done_alike : (b : List ℕ) (places others : ℕ) (saved : List Run) (leg : ℕ) (o p : Outcome)
    → Came b places leg saved [] o → AlikeOutcome others o p
    → Both (AlikeGrowth others) (leg_done b places saved o) (leg_done b others saved p)
leg_done_alike b places others saved leg (Ended net) (Ended other) d h = (h, refl)
leg_done_alike b places others saved leg (Ended net) (On c) d h = absurd h
leg_done_alike b places others saved leg (On a) (Ended other) d h = absurd h
leg_done_alike b places others saved leg (On a) (On c) d h =
    after_is a c h (λ (z : After). Both (AlikeGrowth others) (leg_end_as (finishes b a.run.leg) b places a saved)
    (leg_end_as (finishes b z.run.leg) b others z saved))
    (λ u ag room. go u ag room (finishes b a.run.leg))
  where
    go : (u : Table) → Agree a.net.nodes (at a.net.table) (at u) → RoomIn u others → (t : Bool)
        → Both (AlikeGrowth others) (leg_end_as t b places a saved)
        (leg_end_as t b others (record { net = with_table a.net u; run = a.run }) saved)
    go u ag room true = finish_alike b places others a.net a.run u ag room saved
        (omega (arith, d.0.grows.body.graph.laid.two))
    go u ag room false = on_alike b places others a.net a.run u ag room saved

take_alike : {b : List ℕ} {places : ℕ} (others : ℕ) (net : Net) (run : Run) (saved : List Run)
    → Driven b places net (run ∷ saved) → (u : Table) → Agree net.nodes (at net.table) (at u) → RoomIn u others
    → Both (AlikeGrowth others) (take_leg b places net run saved) (take_leg b others (with_table net u) run saved)
unfolding take_leg
take_alike {b} {places} others net run saved d u ag room = go (row11 (leg_course b run.leg))
  where
    running : Running b places net run saved (leg_events b run.leg)
    running = record {
      labels = d.labels;
      grows = d.grows;
      waits = d.waits;
      at_event = d.at_event.0;
      others = d.at_event.1;
      notes = d.notes;
      taken = d.taken;
    }

    go : (t : Bool) → Both (AlikeGrowth others) (leg_as t b places net run saved)
        (leg_as t b others (with_table net u) run saved)
    go true = tt
    go false =
        both_then (λ (o p : Outcome). Came b places run.leg saved [] o × AlikeOutcome others o p) (AlikeGrowth others)
        (run_events places (join_gap b) (leg_events b run.leg) (record { net = net; run = run }))
        (run_events others (join_gap b) (leg_events b run.leg) (record { net = with_table net u; run = run }))
        (leg_done b places saved) (leg_done b others saved)
        (both_with (Came b places run.leg saved []) (AlikeOutcome others)
        (run_events places (join_gap b) (leg_events b run.leg) (record { net = net; run = run }))
        (run_events others (join_gap b) (leg_events b run.leg) (record { net = with_table net u; run = run }))
        (events_run (leg_events b run.leg) (record { net = net; run = run }) running (events_real b run.leg))
        (events_alike others (leg_events b run.leg) (record { net = net; run = run }) running
        (events_real b run.leg) u ag room))
        (λ o p h. leg_done_alike b places others saved run.leg o p h.0 h.1)

-- ---- all runs

pub drive_alike : {b : List ℕ} → Read b → {places : ℕ} (others k : ℕ) (net : Net) (saved : List Run)
    → Driven b places net saved → All (LegIn b) saved → (u : Table) → Agree net.nodes (at net.table) (at u)
    → RoomIn u others
    → Both (Alike others) (drive k b places net saved) (drive k b others (with_table net u) saved)
unfolding drive
drive_alike r others zero net [] d ls u ag room = record { table = u; is = refl; agree = ag; room = room }
drive_alike r others zero net (run ∷ saved) d ls u ag room = tt
drive_alike r others (suc k) net [] d ls u ag room = record { table = u; is = refl; agree = ag; room = room }
drive_alike {b} r {places} others (suc k) net (run ∷ saved) d ls u ag room =
    both_then (λ (g h : Growth). Turned r places run saved g × AlikeGrowth others g h) (Alike others)
    (take_leg b places net run saved) (take_leg b others (with_table net u) run saved)
    (λ (g : Growth). drive k b places g.net g.saved) (λ (g : Growth). drive k b others g.net g.saved)
    (both_with (Turned r places run saved) (AlikeGrowth others) (take_leg b places net run saved)
    (take_leg b others (with_table net u) run saved) (takes_leg r d ls) (take_alike others net run saved d u ag room))
    (λ g h q. growth_is g h q.1 (λ (z : Growth). Both (Alike others) (drive k b places g.net g.saved)
    (drive k b others z.net z.saved)) (λ v x y. drive_alike r others k g.net g.saved q.0.driven q.0.legs_in v x y))

-- ---- the origins

origin_alike : {b : List ℕ} → Read b → (places others : ℕ) (idx : ℕ) → member_of (kept_origins b) idx ≡ true
    → (g : Growth) → Rooted b places g → (idxs : List ℕ) → Unused b g.saved (idx ∷ idxs) → Other b idx idxs
    → (u : Table) → Agree g.net.nodes (at g.net.table) (at u) → RoomIn u others
    → Both (AlikeGrowth others) (grow_origin b places (origin_link b idx) g)
    (grow_origin b others (origin_link b idx) (record { net = with_table g.net u; saved = g.saved }))
unfolding grow_origin seek_leg
origin_alike {b} r places others idx kept g d idxs unused other u ag room =
    both_then (λ (a c : After). Inserts d.labels places g.net (origin_run b) g.saved (join_gap b) (arrive b link) a
    × AlikeAfter others a c) (AlikeGrowth others)
    (insert_event places (join_gap b) g.net (origin_run b) (arrive b link))
    (insert_event others (join_gap b) (with_table g.net u) (origin_run b) (arrive b link))
    (λ (a : After). and_then (insert_event places (join_gap b) a.net a.run (clear b link))
    (λ (c : After). and_then (seek_leg b c.run 0 link) (λ (run : Run). given (saves g c.net run))))
    (λ (a : After). and_then (insert_event others (join_gap b) a.net a.run (clear b link))
    (λ (c : After). and_then (seek_leg b c.run 0 link) (λ (run : Run). given (saves h c.net run))))
    (both_with (Inserts d.labels places g.net (origin_run b) g.saved (join_gap b) (arrive b link)) (AlikeAfter others)
    (insert_event places (join_gap b) g.net (origin_run b) (arrive b link))
    (insert_event others (join_gap b) (with_table g.net u) (origin_run b) (arrive b link))
    (arrive_keeps r places idx kept g d idxs unused other)
    (insert_alike others d.grows (origin_run b) d.waits.stand.0 u ag room (join_gap b) (arrive b link)))
    (λ a c q. after_is a c q.1
    (λ (z : After). Both (AlikeGrowth others) (and_then (insert_event places (join_gap b) a.net a.run (clear b link))
    (λ (x : After). and_then (seek_leg b x.run 0 link) (λ (run : Run). given (saves g x.net run))))
    (and_then (insert_event others (join_gap b) z.net z.run (clear b link))
    (λ (x : After). and_then (seek_leg b x.run 0 link) (λ (run : Run). given (saves h x.net run)))))
    (λ v x y. both_then (AlikeAfter others) (AlikeGrowth others)
    (insert_event places (join_gap b) a.net a.run (clear b link))
    (insert_event others (join_gap b) (with_table a.net v) a.run (clear b link))
    (λ (x : After). and_then (seek_leg b x.run 0 link) (λ (run : Run). given (saves g x.net run)))
    (λ (x : After). and_then (seek_leg b x.run 0 link) (λ (run : Run). given (saves h x.net run)))
    (insert_alike others q.0.grows a.run q.0.waits.stand.0 v x y (join_gap b) (clear b link))
    (λ m l e. after_is m l e (λ (z : After). Both (AlikeGrowth others)
    (and_then (seek_leg b m.run 0 link) (λ (run : Run). given (saves g m.net run)))
    (and_then (seek_leg b z.run 0 link) (λ (run : Run). given (saves h z.net run))))
    (λ w f k. last m w f k (leg_below b (legs b) 0 link)))))
  where
    link : ℕ
    link = origin_link b idx

    h : Growth
    h = record { net = with_table g.net u; saved = g.saved }

    last : (m : After) (w : Table) → Agree m.net.nodes (at m.net.table) (at w) → RoomIn w others → (j : ℕ)
        → Both (AlikeGrowth others) (and_then (takes m.run j) (λ (run : Run). given (saves g m.net run)))
        (and_then (takes m.run j) (λ (run : Run). given (saves h (with_table m.net w) run)))
    last m w f k zero = tt
    last m w f k (suc i) = (record { table = w; is = refl; agree = f; room = k }, refl)

-- the start needs no next yet
pub record RootedFor (b : List ℕ) (places : ℕ) (idxs : List ℕ) (g : Growth) : Type 0 where
  pub rooted : Rooted b places g
  pub unused : Unused b g.saved idxs

pub origins_alike : {b : List ℕ} → Read b → (places others : ℕ) (idxs : List ℕ) (g : Growth) → RootedFor b places idxs g
    → Apart b idxs → KeptAll b idxs → (u : Table) → Agree g.net.nodes (at g.net.table) (at u) → RoomIn u others
    → Both (AlikeGrowth others) (grow_origins b places idxs g)
    (grow_origins b others idxs (record { net = with_table g.net u; saved = g.saved }))
unfolding grow_origins
origins_alike r places others [] g d a k u ag room = (record { table = u; is = refl; agree = ag; room = room }, refl)
origins_alike {b} r places others (idx ∷ idxs) g d a k u ag room =
    both_then (λ (x y : Growth). RootedWith b places idxs x × AlikeGrowth others x y) (AlikeGrowth others)
    (grow_origin b places (origin_link b idx) g) (grow_origin b others (origin_link b idx)
    (record { net = with_table g.net u; saved = g.saved })) (grow_origins b places idxs) (grow_origins b others idxs)
    (both_with (RootedWith b places idxs) (AlikeGrowth others) (grow_origin b places (origin_link b idx) g)
    (grow_origin b others (origin_link b idx) (record { net = with_table g.net u; saved = g.saved }))
    (origin_keeps r places idx k.0 g d.rooted idxs d.unused a.0)
    (origin_alike r places others idx k.0 g d.rooted idxs d.unused a.0 u ag room))
    (λ x y q. growth_is x y q.1 (λ (z : Growth). Both (AlikeGrowth others) (grow_origins b places idxs x)
    (grow_origins b others idxs z))
    (λ v f l. origins_alike r places others idxs x (record { rooted = q.0.rooted; unused = q.0.unused }) a.1 k.1 v f l))
