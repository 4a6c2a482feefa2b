-- A run's events make the same of two tables that agree in the nodes so far.
use mathlib.Core.Path.{◌≡◌, refl, sym, subst}
use mathlib.Core.Bool.{Bool, true, false}
use mathlib.Core.List.{List, [], ◌∷◌}
use mathlib.Core.Option.{Option, none, some}
use Prim.Native.Nat.{ℕ, zero, suc, ◌<◌}
use borrow.Author.Tests.{ltb-true}
use lib.Dec.{ltb}
use lib.Ieee.{Float, lt}
use Rattle.net_node.proofs.Tables.{RoomIn}
use Rattle.laws.proofs.Answers.{Both, both_then, both_with}
use Rattle.laws.specs.Answer.{Answer, refused, given}
use Rattle.net_node.specs.declared.EstTime.{EstTime}
use Rattle.net_node.specs.declared.TimedEvent.{TimedEvent}
use Rattle.net_node.specs.Table.{Indexed, Table, at}
use Rattle.net_join_paths.specs.declared.EstJoinPath.{EstJoinPath}
use Rattle.net_joins.specs.declared.SpeedJoin.{SpeedJoin}
use Rattle.net_joins.specs.Joins.{chain_end_as, chain_end, join_at, joined_table, closest, closest_of, appended}
use Rattle.net_joins.specs.Joins.{rebuilt, chosen_as, chosen, join_step}
use Rattle.grow_rules.specs.Growth.{join_gap}
use Rattle.grow_rules.specs.Run.{Net, Run, After, insert_event, joined_to, Outcome, Ended, On, goes_on, with_joins}
use Rattle.grow_rules.specs.Run.{joined_as, event_as, run_event, next_event, run_events}
use Rattle.laws.proofs.Members.{All, all_so}
use Rattle.arcs_growth.proofs.Labels.{Labels}
use Rattle.arcs_growth.proofs.Invariant.{Grows, Listed, Stands}
use Rattle.arcs_growth.proofs.Entries.{Stepped, step_right, Given, Good, GoodAll, rebuilt_good}
use Rattle.arcs_growth.proofs.Paths.{Real}
use Rattle.arcs_growth.proofs.AtEvents.{Running}
use Rattle.arcs_growth.proofs.Running.{Came, event_runs}
use Rattle.arcs_growth.proofs.Agreeing.{Agree, chain_same, appended_same, closest_same, rebuilt_same}
use Rattle.arcs_growth.proofs.Alike.{with_table, Alike, AlikeAfter, join_agree, insert_alike}

abbrev pub AlikeOutcome : ℕ → Outcome → Outcome → Type 0
AlikeOutcome others (Ended net) (Ended other) = Alike others net other
AlikeOutcome others (Ended net) (On c) = ⊥
AlikeOutcome others (On a) (Ended other) = ⊥
AlikeOutcome others (On a) (On c) = AlikeAfter others a c

chain_within : {node : ℕ → EstTime} {n : ℕ} → Indexed node n → (k i : ℕ) → i < n → chain_end k node i < n
unfolding chain_end
chain_within w zero i h = h
chain_within {node} {n} w (suc k) i h = go (node i).idx_prev_alt (w.prev_alt i h) (chain_within w k)
  where
    go : (a : ℕ) → a < n → ((j : ℕ) → j < n → chain_end k node j < n) → chain_end_as a i (chain_end k node) < n
    go zero l ih = h
    go (suc a) l ih = ih (suc a) l

goes_alike : (others : ℕ) (x y : Answer After) → Both (AlikeAfter others) x y
    → Both (AlikeOutcome others) (goes_on x) (goes_on y)
goes_alike others (refused n) y h = tt
goes_alike others (given a) (refused m) h = tt
goes_alike others (given a) (given c) h = h

module _ {L : Labels} {places : ℕ} {net : Net} (others : ℕ) (g : Grows L places net) (run : Run) (s : Stands L net run)
    (u : Table) (ag : Agree net.nodes (at net.table) (at u)) (room : RoomIn u others) (limit : Float)
    (e : TimedEvent) where
  abbrev t : Table
  t = net.table

  abbrev n : ℕ
  n = net.nodes

  join_alike : (target : ℕ) → target < n → n < places → n < others
      → Alike others (joined_to net run e target) (joined_to (with_table net u) run e target)
  unfolding joined_to joined_table
  join_alike target h p q =
      let c : ℕ = chain_end n (at t) target in
      let same : chain_end n (at u) target ≡ c = chain_same (at t) (at u) n ag g.body.indexed n target h in
      let a = join_agree t u places others n g.body.room room ag p q c e (chain_within g.body.indexed n target h) in
      record {
        table = join_at u n (chain_end n (at u) target) e;
        is = refl;
        agree = subst (λ (k : ℕ). Agree (suc n) (at (join_at t n c e)) (at (join_at u n k e))) (sym same) a.1;
        room = subst (λ (k : ℕ). RoomIn (join_at u n k e) others) (sym same) a.0;
      }

  relisted : (es : List EstJoinPath) → Listed n es → Stands L net (with_joins run es)
  unfolding with_joins
  relisted es l = record { within = s.within; self = s.self; holds = s.holds; listed = l }

  -- by what is chosen, which is the same for both but for the room
  chosen_alike : (a r q : Bool) (target : ℕ) (list : Option (List EstJoinPath)) → ltb n others ≡ q
      → Stepped (at t) n places limit e (chosen_as a r target list)
      → Both (AlikeOutcome others) (joined_as places limit net run e (chosen_as a r target list))
      (joined_as others limit (with_table net u) run e (chosen_as a q target list))
  chosen_alike true true true target list p h = join_alike target h.0 h.1.1.0 (ltb-true n others p)
  chosen_alike true true false target list p h = tt
  chosen_alike true false q target list p h = tt
  chosen_alike false r q target none p h = tt
  chosen_alike false r q target (some es) p h =
      goes_alike others (insert_event places limit net (with_joins run es) e)
      (insert_event others limit (with_table net u) (with_joins run es) e)
      (insert_alike others g (with_joins run es) (relisted es h) u ag room limit e)

  step_alike : Both (AlikeOutcome others) (joined_as places limit net run e
      (join_step (at t) n places limit e run.joins))
      (joined_as others limit (with_table net u) run e (join_step (at u) n others limit e run.joins))
  unfolding join_step closest
  step_alike =
      subst (λ (x : Option (List EstJoinPath)). Both (AlikeOutcome others)
      (joined_as places limit net run e (chosen (at t) n places limit e (rebuilt (at t) n e.link_event run.joins)))
      (joined_as others limit (with_table net u) run e (chosen (at u) n others limit e x)))
      (sym (rebuilt_same (at t) (at u) n ag g.body.indexed e.link_event run.joins s.listed))
      (go (rebuilt (at t) n e.link_event run.joins)
      (rebuilt_good (at t) n e.link_event g.body.indexed run.joins s.listed)
      (step_right (at t) n places limit e run.joins g.body.indexed s.listed))
    where
      go : (x : Option (List EstJoinPath)) → Given (GoodAll (at t) n e.link_event) x
          → Stepped (at t) n places limit e (chosen (at t) n places limit e x)
          → Both (AlikeOutcome others) (joined_as places limit net run e (chosen (at t) n places limit e x))
          (joined_as others limit (with_table net u) run e (chosen (at u) n others limit e x))
      go none h k = tt
      go (some es) h k =
          let c : SpeedJoin = record { speed_diff_join = limit; est_idx_join = 0 } in
          let l : Listed n es = all_so (Good (at t) n e.link_event) (λ (x : EstJoinPath). x.est_idx_next < n)
          (λ x o. o.0) es h in
          subst (λ (z : SpeedJoin). Both (AlikeOutcome others)
          (joined_as places limit net run e (chosen (at t) n places limit e (some es)))
          (joined_as others limit (with_table net u) run e
          (chosen_as (lt z.speed_diff_join limit) (ltb n others) z.est_idx_join
          (appended (at u) n e.link_event es))))
          (sym (closest_same (at t) (at u) n ag g.body.indexed e.speed c es l))
          (subst (λ (z : Option (List EstJoinPath)). Both (AlikeOutcome others)
          (joined_as places limit net run e (chosen (at t) n places limit e (some es)))
          (joined_as others limit (with_table net u) run e
          (chosen_as (lt (closest_of (at t) e.speed c es).speed_diff_join limit) (ltb n others)
          (closest_of (at t) e.speed c es).est_idx_join z)))
          (sym (appended_same (at t) (at u) n ag g.body.indexed e.link_event es))
          (chosen_alike (lt (closest_of (at t) e.speed c es).speed_diff_join limit) (ltb n places) (ltb n others)
          (closest_of (at t) e.speed c es).est_idx_join (appended (at t) n e.link_event es) refl k))

  event_alike : Both (AlikeOutcome others) (run_event places limit net run e)
      (run_event others limit (with_table net u) run e)
  unfolding run_event
  event_alike = go run.has_split
    where
      go : (a : Bool) → Both (AlikeOutcome others) (event_as a places limit net run e)
          (event_as a others limit (with_table net u) run e)
      go true = step_alike
      go false = goes_alike others (insert_event places limit net run e)
          (insert_event others limit (with_table net u) run e) (insert_alike others g run s u ag room limit e)

-- after other, which is a but for the table
pub after_is : {others : ℕ} (a other : After) → AlikeAfter others a other → (P : After → Type 0)
    → ((u : Table) → Agree a.net.nodes (at a.net.table) (at u) → RoomIn u others
    → P (record { net = with_table a.net u; run = a.run })) → P other
after_is a other (l, q) P f = subst P (λ k. record { net = sym l.is k; run = sym q k }) (f l.table l.agree l.room)

pub events_alike : {b : List ℕ} {places : ℕ} (others : ℕ) {saved : List Run} (es : List TimedEvent) (a : After)
    → Running b places a.net a.run saved es → All Real es
    → (u : Table) → Agree a.net.nodes (at a.net.table) (at u) → RoomIn u others
    → Both (AlikeOutcome others) (run_events places (join_gap b) es a)
    (run_events others (join_gap b) es (record { net = with_table a.net u; run = a.run }))
unfolding run_events
events_alike others [] a d real u ag room = (record { table = u; is = refl; agree = ag; room = room }, refl)
events_alike {b} {places} others {saved} (e ∷ es) a d real u ag room =
    both_then (λ (o p : Outcome). Came b places a.run.leg saved es o × AlikeOutcome others o p) (AlikeOutcome others)
    (run_event places (join_gap b) a.net a.run e) (run_event others (join_gap b) (with_table a.net u) a.run e)
    (next_event (run_events places (join_gap b) es)) (next_event (run_events others (join_gap b) es))
    (both_with (Came b places a.run.leg saved es) (AlikeOutcome others) (run_event places (join_gap b) a.net a.run e)
    (run_event others (join_gap b) (with_table a.net u) a.run e)
    (event_runs d real.0) (event_alike others d.grows a.run d.waits.stand.0 u ag room (join_gap b) e))
    (go (λ c f v h q. events_alike others es c f real.1 v h q))
  where
    go : ((c : After) → Running b places c.net c.run saved es → (v : Table) → Agree c.net.nodes (at c.net.table) (at v)
        → RoomIn v others
        → Both (AlikeOutcome others) (run_events places (join_gap b) es c)
        (run_events others (join_gap b) es (record { net = with_table c.net v; run = c.run })))
        → (o p : Outcome) → Came b places a.run.leg saved es o × AlikeOutcome others o p
        → Both (AlikeOutcome others) (next_event (run_events places (join_gap b) es) o)
        (next_event (run_events others (join_gap b) es) p)
    go ih (Ended net) (Ended other) h = h.1
    go ih (Ended net) (On c) h = absurd h.1
    go ih (On c) (Ended other) h = absurd h.1
    go ih (On c) (On other) h = after_is c other h.1
        (λ (z : After). Both (AlikeOutcome others) (run_events places (join_gap b) es c)
        (run_events others (join_gap b) es z)) (λ v x y. ih c h.0.0 v x y)
