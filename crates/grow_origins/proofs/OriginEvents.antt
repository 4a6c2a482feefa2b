-- An origin's Arrive and Clear, inserted at the start one after the other.
use mathlib.Core.Path.{◌≡◌, refl, sym, ap, ◌∙◌, subst}
use mathlib.Core.Bool.{true, false}
use mathlib.Core.List.{List, [], ◌∷◌}
use Prim.{Unit, tt}
use Prim.Native.Nat.{ℕ, ◌≤◌, ◌<◌}
use native.Mathlib.Omega.{arith}
use lib.Ieee.{Float, binary64, add, of_bits}
use Rattle.net_node.specs.Table.{Table}
use Rattle.laws.specs.Answer.{Answer, refused, given, and_then}
use Rattle.net_node.specs.declared.EstType.TheVariants.{Arrive, Clear}
use Rattle.net_node.specs.declared.TimedEvent.{TimedEvent}
use Rattle.net_insertion.specs.declared.Insertion.{Insertion}
use Rattle.net_insertion.specs.declared.Insertion.TheVariants.{Added, Moved}
use Rattle.net_insertion.specs.Insertion.{inserted, inserted_table, table_of}
use Rattle.net_join_paths.specs.declared.EstJoinPath.{EstJoinPath}
use Rattle.net_event_map.specs.declared.Layout.{Layout}
use Rattle.grow_rules.specs.Run.{Arc, Net, Run, After, arc_to, added_to, moved_to, inserted_run, insert_event, goes_on}
use Rattle.grow_rules.specs.Run.{member_of}
use Rattle.grow_rules.specs.Run.{Outcome, Ended as Left, On as Goes}
use Rattle.grow_rules.specs.Growth.{join_gap, departure, origin_event, origin_run, seek_leg, grow_origin, origin_clear}
use Rattle.grow_rules.specs.Growth.{origin_arrive}
use Rattle.grow_events.specs.declared.Counts.{Counts}
use Rattle.grow_events.specs.declared.Mover.{Mover}
use Rattle.std.specs.Prelude.{Result, Ok, Err, IfOk, IsErrAnd}
use Rattle.refusals.specs.declared.Refusal.{Refusal}
use Rattle.refusals.specs.Refusals.{refusal_number}
use Rattle.grow_events.specs.Held.{NetIn, RunIn, Growing, InsertedAs, InsertsEvent}
use Rattle.grow_events.proofs.Kept.{goes_given, net_noted}
use Rattle.grow_state.specs.declared.Plan.{Plan}
use Rattle.grow_state.specs.Held.{PlanIn}
use Rattle.grow_origins.specs.Origins.{origin_answer, place_on, LeadsFrom, saved_origin, mover_at, event_at_rest}

-- ---- the run and the events, as the code makes them

-- the run of the definition, but on node i
abbrev run_at : Float → ℕ → Run
run_at time i = record {
  place = place_on time (of_bits binary64 0) i;
  leg = 0;
  has_split = false;
  joins = [];
  nodes = [];
}

run_there : (n : ℕ) (time : Float) (i : ℕ) (m : Mover) → m ≡ mover_at time i → i < n → RunIn n 0 [] m (run_at time i)
run_there n time i m e h = subst (λ (x : Mover). RunIn n 0 [] x (run_at time i)) (sym e) (record {
  place = refl;
  leg = refl;
  has_split = refl;
  joins = refl;
  few = omega arith;
  valid = record { node = λ k g. absurd (omega arith) };
  stands = h;
})

-- ---- how many nodes there are

pub fewer_as : (c d : Counts) (m : Mover) (r : Result (Counts × Mover) Refusal) → r ≡ Ok (d, m)
    → IfOk r (λ x. c.nodes ≤ x.0.nodes) → c.nodes ≤ d.nodes
fewer_as c d m r e h = subst (λ (y : Result (Counts × Mover) Refusal). IfOk y (λ x. c.nodes ≤ x.0.nodes)) e h

-- ---- the first event

module _ (w : Layout) (join time : Float) (last : ℕ) (fs : List Float) (us cells : List ℕ) (c : Counts) (m : Mover)
    (e : TimedEvent) (fs' : List Float) (us' cells' : List ℕ) (r : Result (Counts × Mover) Refusal)
    (t : InsertsEvent w join c m e (table_of fs us) cells (table_of fs' us') cells' r)
    (dm : m ≡ mover_at time last) (within : last < c.nodes) where
  -- a network is there for the second
  pub first_grown : Growing w fs us cells c → (d : Counts) (n : Mover) → r ≡ Ok (d, n)
      → Growing w fs' us' cells' d × (n.place.idx_prev < d.nodes)
  first_grown g d n q =
      let o = subst (InsertedAs (insert_event w.places join g.net (run_at time last) e) w g.start 0 fs' us' cells' []) q
      (t g.start [] 0 g.net (run_at time last) g.holds (run_there c.nodes time last m dm within)) in
      (record { start = g.start; net = o.after.net; holds = o.net }, o.run.stands)

-- ---- a refusal that is handed on

pub inserted_refused : (answer : Answer After) (w : Layout) (start : List ℕ) (leg : ℕ) (fs : List Float)
    (us cells : List ℕ) (joins : List EstJoinPath) (r : Result (Counts × Mover) Refusal) (k : Refusal)
    → IsErrAnd r (λ (x : Refusal). x ≡ k) → answer ≡ refused (refusal_number k)
    → InsertedAs answer w start leg fs us cells joins r
inserted_refused answer w start leg fs us cells joins (Ok x) k h q = absurd h
inserted_refused answer w start leg fs us cells joins (Err x) k h q =
    q ∙ ap (λ (y : Refusal). refused (refusal_number y)) (sym h)

-- ---- where the Arrive is inserted from

abbrev gone_in : After → Answer Outcome → After
gone_in d (given (Goes x)) = x
gone_in d (given (Left net)) = d
gone_in d (refused n) = d

module _ (net : Net) (time : Float) (last : ℕ) (e : TimedEvent) (w : Layout) (start : List ℕ) (fs : List Float)
    (us cells : List ℕ) (joins : List EstJoinPath) (r : Result (Counts × Mover) Refusal) where
  -- an answer from node `last` is one from the start: only the arc differs
  answer_from : (t : Table) (x : Result Insertion Refusal)
      → InsertedAs (inserted_run net (run_at time last) e t x) w start 0 fs us cells joins r
      → InsertedAs (inserted_run net (run_at time 1) e t x) w start 0 fs us cells joins r
  unfolding moved_to added_to
  answer_from t (Err k) o = o
  answer_from t (Ok (Moved q)) o = o
  answer_from t (Ok (Added q split)) o = go r o
    where
      from : Arc
      from = arc_to (place_on time (of_bits binary64 0) last) q.idx_prev e

      go : (r : Result (Counts × Mover) Refusal) → InsertedAs
          (inserted_run net (run_at time last) e t (Ok (Added q split))) w start 0 fs us cells joins r
          → InsertedAs (inserted_run net (run_at time 1) e t (Ok (Added q split))) w start 0 fs us cells joins r
      go (Ok (c, m)) o =
          let s = ap (gone_in o.after) (sym o.is) in
          record {
            after = record {
              net = added_to net t q split (arc_to (place_on time (of_bits binary64 0) 1) q.idx_prev e);
              run = moved_to (run_at time 1) q true;
            };
            is = refl;
            net = net_noted (subst (λ (z : After). NetIn w start fs us cells c z.net) s o.net)
                (arc_to (place_on time (of_bits binary64 0) 1) q.idx_prev e ∷ net.noted);
            run = subst (λ (z : After). RunIn c.nodes 0 joins m z.run) s o.run;
          }
      go (Err k) o = cc

  event_from : (places : ℕ) (join : Float) (link : ℕ) → LeadsFrom net.table net.nodes last link
      → e.link_event.link_idx ≡ link
      → InsertedAs (insert_event places join net (run_at time last) e) w start 0 fs us cells joins r
      → InsertedAs (insert_event places join net (run_at time 1) e) w start 0 fs us cells joins r
  unfolding insert_event
  event_from places join link l d o =
      answer_from (inserted_table net.table net.nodes join (place_on time (of_bits binary64 0) 1) e)
      (inserted net.table net.nodes places (member_of net.ends) join (place_on time (of_bits binary64 0) 1) e)
      (subst (λ (x : Result Insertion Refusal). InsertedAs
      (inserted_run net (run_at time last) e (inserted_table net.table net.nodes join
      (place_on time (of_bits binary64 0) 1) e) x) w start 0 fs us cells joins r)
      (l.answer places (member_of net.ends) join time (of_bits binary64 0) e d)
      (subst (λ (t : Table). InsertedAs (inserted_run net (run_at time last) e t
      (inserted net.table net.nodes places (member_of net.ends) join (place_on time (of_bits binary64 0) last) e)) w
      start 0 fs us cells joins r)
      (l.table join time (of_bits binary64 0) e d)
      o))

leads_net : {w : Layout} {start : List ℕ} {fs : List Float} {us cells : List ℕ} {c : Counts} {net : Net} (last link : ℕ)
    → NetIn w start fs us cells c net → LeadsFrom (table_of fs us) c.nodes last link
    → LeadsFrom net.table net.nodes last link
leads_net {c = c} {net = net} last link v l =
    subst (λ (n : ℕ). LeadsFrom net.table n last link) (sym v.nodes)
    (subst (λ (t : Table). LeadsFrom t c.nodes last link) (sym v.table) l)

-- ---- both events

module _ (b : List ℕ) (places link : ℕ) (net : Net) where
  abbrev pub clears : After → Answer After
  clears a = insert_event places (join_gap b) a.net a.run (origin_clear b link)

  abbrev pub arrived : Answer After
  arrived = insert_event places (join_gap b) net (origin_run b) (origin_arrive b link)

  answered : origin_answer b places link net ≡ and_then arrived clears
  unfolding origin_answer
  answered = refl

module _ (b : List ℕ) (p : Plan) (reals : ℕ) (plan : PlanIn b p reals) (link : ℕ) (fs : List Float) (us cells : List ℕ)
    (c : Counts) (m : Mover) (e : TimedEvent) (fs' : List Float) (us' cells' : List ℕ)
    (r : Result (Counts × Mover) Refusal)
    (t : InsertsEvent p.w p.join c m e (table_of fs us) cells (table_of fs' us') cells' r) (last : ℕ)
    (leads : LeadsFrom (table_of fs us) c.nodes last link) (dm : m ≡ mover_at p.departure last)
    (de : e ≡ event_at_rest p.departure link Arrive (of_bits binary64 0)) (start : List ℕ) (net : Net)
    (v : NetIn p.w start fs us cells c net) where
  arrives : InsertedAs (insert_event p.w.places (join_gap b) net (origin_run b) (origin_arrive b link)) p.w start 0 fs'
      us' cells' [] r
  unfolding origin_run origin_event
  arrives =
      event_from net (departure b) last (origin_arrive b link) p.w start fs' us' cells' [] r p.w.places
      (join_gap b) link (leads_net last link v leads) refl
      (subst (λ (j : Float). InsertedAs (insert_event p.w.places j net (run_at (departure b) last)
      (origin_arrive b link)) p.w start 0 fs' us' cells' [] r) plan.join
      (subst (λ (x : TimedEvent). InsertedAs (insert_event p.w.places p.join net (run_at (departure b) last) x) p.w
      start 0 fs' us' cells' [] r) (de ∙ ap (λ (x : Float). event_at_rest x link Arrive (of_bits binary64 0))
      plan.departs)
      (t start [] 0 net (run_at (departure b) last) v
      (run_there c.nodes (departure b) last m (dm ∙ ap (λ (x : Float). mover_at x last) plan.departs) leads.within))))

  -- the Arrive is refused
  pub origin_stops : (k : Refusal) → r ≡ Err k → origin_answer b p.w.places link net ≡ refused (refusal_number k)
  origin_stops k q = answered b p.w.places link net
      ∙ ap (λ (a : Answer After). and_then a (clears b p.w.places link net))
      (subst (InsertedAs (arrived b p.w.places link net) p.w start 0 fs' us' cells' []) q arrives)

  -- it goes on, and clears
  pub origin_clears : (d : Counts) (n : Mover) → r ≡ Ok (d, n) → (f : TimedEvent)
      → f ≡ event_at_rest p.departure link Clear (add binary64 (of_bits binary64 0) p.length)
      → (fs'' : List Float) (us'' cells'' : List ℕ) (x : Result (Counts × Mover) Refusal)
      → InsertsEvent p.w p.join d n f (table_of fs' us') cells' (table_of fs'' us'') cells'' x
      → InsertedAs (origin_answer b p.w.places link net) p.w start 0 fs'' us'' cells'' [] x
  unfolding origin_event
  origin_clears d n q f df fs'' us'' cells'' x u =
      let o = subst (InsertedAs (arrived b p.w.places link net) p.w start 0 fs' us' cells' []) q arrives in
      let a : After = o.after in
      let g : arrived b p.w.places link net ≡ given a = goes_given (arrived b p.w.places link net) a o.is in
      let ev : f ≡ origin_clear b link = df ∙ ap (λ (y : Float). event_at_rest y link Clear
      (add binary64 (of_bits binary64 0) p.length)) plan.departs
      ∙ ap (λ (y : Float). event_at_rest (departure b) link Clear (add binary64 (of_bits binary64 0) y)) plan.train
      in
      subst (λ (y : Answer After). InsertedAs y p.w start 0 fs'' us'' cells'' [] x)
      (sym (answered b p.w.places link net ∙ ap (λ (y : Answer After). and_then y (clears b p.w.places link net))
      g))
      (subst (λ (j : Float). InsertedAs (insert_event p.w.places j a.net a.run (origin_clear b link)) p.w start 0 fs''
      us'' cells'' [] x) plan.join
      (subst (λ (y : TimedEvent). InsertedAs (insert_event p.w.places p.join a.net a.run y) p.w start 0 fs'' us''
      cells'' [] x) ev
      (u start [] 0 a.net a.run o.net o.run)))

-- ---- the run's leg is sought

abbrev pub Filled : Answer After → Type 0
Filled (given x) = Unit
Filled (refused n) = ⊥

record Both (x : Answer After) (f : After → Answer After) (a : After) : Type 0 where
  mid : After
  first : x ≡ given mid
  second : f mid ≡ given a

then_both : (x : Answer After) (f : After → Answer After) (a : After) → and_then x f ≡ given a → Both x f a
then_both (given y) f a h = record { mid = y; first = refl; second = h }
then_both (refused n) f a h = absurd (subst Filled (sym h) tt)

then_more : {B : Type 0} (x : Answer After) (f : After → Answer After) (g : After → Answer B) (a : After)
    → and_then x f ≡ given a → and_then x (λ (y : After). and_then (f y) g) ≡ g a
then_more (given y) f g a h = ap (λ (z : Answer After). and_then z g) h
then_more (refused n) f g a h = absurd (subst Filled (sym h) tt)

then_less : {B : Type 0} (x : Answer After) (f : After → Answer After) (g : After → Answer B) (k : ℕ)
    → and_then x f ≡ refused k → and_then x (λ (y : After). and_then (f y) g) ≡ refused k
then_less (given y) f g k h = ap (λ (z : Answer After). and_then z g) h
then_less {B} (refused n) f g k h = ap (λ (z : Answer After). and_then {B = B} z (λ (y : After). refused 0)) h

abbrev joins_in : Run → Answer After → List EstJoinPath
joins_in run (given x) = x.run.joins
joins_in run (refused n) = run.joins

inserted_joins : (net : Net) (run : Run) (e : TimedEvent) (t : Table) (i : Result Insertion Refusal) (a : After)
    → inserted_run net run e t i ≡ given a → a.run.joins ≡ run.joins
unfolding moved_to
inserted_joins net run e t (Err k) a h = absurd (subst Filled (sym h) tt)
inserted_joins net run e t (Ok (Moved q)) a h = ap (joins_in run) (sym h)
inserted_joins net run e t (Ok (Added q s)) a h = ap (joins_in run) (sym h)

insert_joins : (places : ℕ) (join : Float) (net : Net) (run : Run) (e : TimedEvent) (a : After)
    → insert_event places join net run e ≡ given a → a.run.joins ≡ run.joins
unfolding insert_event
insert_joins places join net run e a h = inserted_joins net run e (inserted_table net.table net.nodes join run.place e)
    (inserted net.table net.nodes places (member_of net.ends) join run.place e) a h

module _ (b : List ℕ) (places link : ℕ) (net : Net) where
  -- it has no join entries
  pub origin_joins : (a : After) → goes_on (origin_answer b places link net) ≡ given (Goes a) → a.run.joins ≡ []
  unfolding origin_run
  origin_joins a h =
      let k = then_both (arrived b places link net) (clears b places link net) a
      (sym (answered b places link net) ∙ goes_given (origin_answer b places link net) a h) in
      insert_joins places (join_gap b) k.mid.net k.mid.run (origin_clear b link) a k.second
      ∙ insert_joins places (join_gap b) net (origin_run b) (origin_arrive b link) k.mid k.first

  pub origin_given : (runs : List Run) (a : After) → goes_on (origin_answer b places link net) ≡ given (Goes a)
      → grow_origin b places link (record { net = net; saved = runs }) ≡ saved_origin b link a.net a.run runs
  unfolding grow_origin saved_origin
  origin_given runs a h =
      then_more (arrived b places link net) (clears b places link net)
      (λ (c : After). and_then (seek_leg b c.run 0 link)
      (λ (run : Run). given (record { net = c.net; saved = run ∷ runs }))) a
      (sym (answered b places link net) ∙ goes_given (origin_answer b places link net) a h)

  pub origin_refused : (runs : List Run) (k : ℕ) → origin_answer b places link net ≡ refused k
      → grow_origin b places link (record { net = net; saved = runs }) ≡ refused k
  unfolding grow_origin
  origin_refused runs k h =
      then_less (arrived b places link net) (clears b places link net)
      (λ (c : After). and_then (seek_leg b c.run 0 link)
      (λ (run : Run). given (record { net = c.net; saved = run ∷ runs }))) k (sym (answered b places link net) ∙ h)
