-- The events of a leg: the loop goes from event to event, and what is left of the leg gives what the whole gives. Each
-- event is a link's Arrive or Clear, and the cells of the path stay.
use mathlib.Core.Path.{◌≡◌, refl, sym, ap, ◌∙◌, subst}
use mathlib.Core.Bool.{Bool, true, false, cond}
use mathlib.Core.List.{List, [], ◌∷◌}
use Prim.{tt}
use Prim.Native.Nat.{ℕ, zero, suc, ◌+◌, ◌*◌, ◌≤◌, ◌<◌, ◌-◌}
use native.Mathlib.Omega.{arith}
use lib.Dec.{ltb}
use lib.Ieee.{Float}
use lib.ListN.{length}
use Rattle.laws.specs.Answer.{Answer, refused, and_then}
use Rattle.net_node.specs.declared.TimedEvent.{TimedEvent}
use Rattle.event_formula.specs.declared.Passing.{Passing}
use Rattle.event_formula.specs.Event.{passing_at}
use Rattle.event_walk.specs.declared.Movement.{Movement}
use Rattle.event_walk.specs.declared.Heads.{Heads}
use Rattle.event_walk.specs.declared.PassedPoint.{PassedPoint}
use Rattle.event_walk.specs.Course.{Course, course_of, Walkable}
use Rattle.event_walk.specs.Walk.{start, offset_next, clears_next, emits, turn, passed_as, passed_next, walk}
use Rattle.event_walk.specs.Walk.{turns_left, passed_from, points_passed, bad_point, some_bad, Each}
use Rattle.event_walk.proofs.Theorems.{never_the_last}
use Rattle.grow_path.proofs.Testing.{bad_first, fine_first}
use Rattle.grow_path.specs.Path.{event_at, events_at}
use Rattle.net_event_map.specs.declared.Layout.{Layout}
use Rattle.net_join_paths.specs.declared.EstJoinPath.{EstJoinPath}
use Rattle.net_event_map.specs.EventMap.{RealKind, Real}
use Rattle.grow_rules.specs.Run.{Net, Run, After, run_event, next_event, run_events}
use Rattle.grow_rules.specs.Run.{Outcome}
use Rattle.grow_path.specs.Kept.{event_in}
use Rattle.grow_events.specs.declared.Counts.{Counts}
use Rattle.grow_events.specs.declared.Mover.{Mover}
use Rattle.std.specs.Prelude.{Result, Ok, Err}
use Rattle.refusals.specs.declared.Refusal.{Refusal}
use Rattle.grow_events.specs.declared.RunOutcome.{RunOutcome}
use Rattle.grow_events.specs.declared.RunOutcome.TheVariants.{On, Ended}
use Rattle.grow_events.specs.Held.{NetIn, RunIn, Moving, Along, SomePath, GoesAs, OutcomeAs, NotFewer, unless_bad}
use Rattle.grow_events.specs.Held.{stopped_as}
use Rattle.grow_events.proofs.Kept.{along_kept}

-- ---- the points that are passed

-- an Arrive or a Clear, and not the last of so many points
pub record Ahead (points : ℕ) (p : PassedPoint) : Type 0 where
  pub kind : RealKind p.est_type
  pub before_last : suc p.point < points

passed_real : (c : Course) (h : Heads) → RealKind (passed_next c h).est_type
unfolding passed_next passed_as
passed_real c h = go (clears_next c h) (offset_next c h)
    (passing_at (c.sample h.i) (c.sample (h.i - 1)) (offset_next c h))
  where
    go : (t : Bool) (x : Float) (p : Passing) → RealKind (passed_as h t x p).est_type
    go true x p = tt
    go false x p = tt

walk_real : (n : ℕ) (c : Course) (h : Heads) → Each (λ p. RealKind p.est_type) (walk n c h)
unfolding walk Each
walk_real zero c h = tt
walk_real (suc n) c h = go (ltb h.i c.samples) (emits c h) (walk_real n c (turn c h))
  where
    go : (s t : Bool) → Each (λ p. RealKind p.est_type) (walk n c (turn c h))
        → Each (λ p. RealKind p.est_type) (cond s (cond t (passed_next c h ∷ walk n c (turn c h)) (walk n c (turn c h)))
        [])
    go true true d = (passed_real c h, d)
    go true false d = d
    go false t d = tt

each_ahead : (n : ℕ) (ps : List PassedPoint) → Each (λ p. RealKind p.est_type) ps → Each (λ p. suc p.point < n) ps
    → Each (Ahead n) ps
unfolding Each
each_ahead n [] d g = tt
each_ahead n (p ∷ ps) d g = (record { kind = d.0; before_last = g.0 }, each_ahead n ps d.1 g.1)

all_ahead : (c : Course) → Walkable c → Each (Ahead c.points) (points_passed c)
unfolding points_passed passed_from
all_ahead c k = each_ahead c.points (points_passed c) (walk_real (turns_left c (start c)) c (start c))
    (never_the_last k)

-- ---- a point as an event

module _ {b : List ℕ} {reals : List Float} {cells : List ℕ} {w : Layout} {n : ℕ} {path : List ℕ}
    (a : Along b reals cells w n path) {p : PassedPoint} (d : Ahead n p) where
  on_path : p.point < length path
  on_path = omega (arith, a.points, d.before_last)

  event_is : event_in cells p ≡ event_at b path p
  unfolding event_at
  event_is = ap (λ (l : ℕ). record {
    time = p.time;
    offset = p.offset;
    speed = p.speed;
    link_event = record { link_idx = l; est_type = p.est_type };
  }) (a.kept.links p.point on_path)

  event_real : Real (event_in cells p).link_event w.links
  event_real = (d.kind, subst (λ (l : ℕ). l < w.links) (sym (a.kept.links p.point on_path)) (a.named p.point on_path))

  event_inside : p.point * 8 + 3 < w.nodes_at
  event_inside = let h = on_path in omega (arith, a.before)

-- ---- the loop

module _ (b : List ℕ) (reals : List Float) (v : Movement) (w : Layout) (join : Float) where
  abbrev course : Course
  course = course_of b reals v

  -- what is left of a leg from a network and a run
  abbrev left_of : List ℕ → List PassedPoint → Net → Run → Answer Outcome
  left_of path ps net run = run_events w.places join (events_at b path ps) (record { net = net; run = run })

  -- and behind its next event
  abbrev then_left : List ℕ → List PassedPoint → Answer Outcome → Answer Outcome
  then_left path later x = and_then x (next_event (run_events w.places join (events_at b path later)))

  abbrev whole_of : List ℕ → Net → Run → Answer Outcome
  whole_of path net run = run_events w.places join (events_at b path (points_passed course))
      (record { net = net; run = run })

  -- a network and a run on their way, and what the whole leg gives
  pub record OnWay (start path : List ℕ) (leg : ℕ) (fs : List Float) (us cells : List ℕ) (joins : List EstJoinPath)
      (ps : List PassedPoint) (c : Counts) (m : Mover) (whole : Answer Outcome) : Type 0 where
    pub net : Net
    pub run : Run
    pub holds : NetIn w start fs us cells c net
    pub runs : RunIn c.nodes leg joins m run
    pub along : Along b reals cells w v.points path
    pub left : left_of path ps net run ≡ whole

  module _ (fs₀ : List Float) (us₀ cells₀ : List ℕ) (joins₀ : List EstJoinPath) (c₀ : Counts) (m₀ : Mover) where
    pub record Going (fs : List Float) (us cells : List ℕ) (joins : List EstJoinPath) (ps : List PassedPoint)
        (c : Counts) (m : Mover) : Type 0 where
      pub ahead : Each (Ahead v.points) ps
      pub more : c₀.nodes ≤ c.nodes
      pub fine : some_bad (points_passed course) ≡ some_bad ps
      pub goes : (start path : List ℕ) (leg : ℕ) (net : Net) (run : Run) → NetIn w start fs₀ us₀ cells₀ c₀ net
          → RunIn c₀.nodes leg joins₀ m₀ run → Along b reals cells₀ w v.points path
          → OnWay start path leg fs us cells joins ps c m (whole_of path net run)

    pub going_start : (ps : List PassedPoint) → ps ≡ points_passed course → Walkable course
        → Going fs₀ us₀ cells₀ joins₀ ps c₀ m₀
    unfolding course_of
    going_start ps e l = record {
      ahead = subst (Each (Ahead v.points)) (sym e) (all_ahead course l);
      more = omega arith;
      fine = ap some_bad (sym e);
      goes = λ start path leg net run n r a. record {
        net = net;
        run = run;
        holds = n;
        runs = r;
        along = a;
        left = ap (λ (x : List PassedPoint). left_of path x net run) e;
      };
    }

    module _ {fs : List Float} {us cells : List ℕ} {joins : List EstJoinPath} {ps : List PassedPoint} {c : Counts}
        {m : Mover} (s : Going fs us cells joins ps c m) where
      pub going_end : ps ≡ [] → (start path : List ℕ) (leg : ℕ) (net : Net) (run : Run)
          → NetIn w start fs₀ us₀ cells₀ c₀ net → RunIn c₀.nodes leg joins₀ m₀ run
          → Along b reals cells₀ w v.points path
          → GoesAs (unless_bad (some_bad (points_passed course)) (whole_of path net run)) w start leg fs us cells joins
          c m
      unfolding run_events events_at some_bad
      going_end e start path leg net run n r a =
          let o = s.goes start path leg net run n r a in
          let x : After = record { net = o.net; run = o.run } in
          record {
            after = x;
            is = ap (λ (t : Bool). unless_bad t (whole_of path net run)) (s.fine ∙ ap some_bad e)
                ∙ sym o.left ∙ ap (λ (ps : List PassedPoint). run_events w.places join (events_at b path ps) x) e;
            net =
                o.holds;
            run = o.runs;
          }

      -- the next event
      module _ (p : PassedPoint) (later : List PassedPoint) (e : ps ≡ p ∷ later) where
        next-all : Ahead v.points p × Each (Ahead v.points) later
        unfolding Each
        next-all = subst (Each (Ahead v.points)) e s.ahead

        next-ahead : Ahead v.points p
        next-ahead = next-all.0

        -- it is bad
        pub going-bad : bad_point p ≡ true → (answer : Answer Outcome)
            → unless_bad (some_bad (points_passed course)) answer ≡ refused 11
        going-bad d answer = ap (λ (t : Bool). unless_bad t answer) (s.fine ∙ bad_first ps later p e d)

        -- what is asked of it
        module _ (q : SomePath b reals cells₀ w v.points) (y : Moving w fs₀ us₀ cells₀ joins₀ c₀ m₀) where
          way : OnWay y.start q.path y.leg fs us cells joins ps c m (whole_of q.path y.net y.run)
          way = s.goes y.start q.path y.leg y.net y.run y.holds y.runs q.along

          pub next-moving : Moving w fs us cells joins c m
          next-moving = record {
            start = y.start;
            leg = y.leg;
            net = way.net;
            run = way.run;
            holds = way.holds;
            runs = way.runs;
          }

          pub next_inside : p.point * 8 + 3 < length cells
          next_inside = omega (arith, event_inside way.along next-ahead, way.holds.apart.nodes_inside)

          pub next-real : (x : TimedEvent) → x ≡ event_in cells p → Real x.link_event w.links
          next-real x z = subst (λ (y : TimedEvent). Real y.link_event w.links) (sym z)
              (event_real way.along next-ahead)

        -- what became of it
        module _ (x : TimedEvent) (z : x ≡ event_in cells p) (fs' : List Float) (us' cells' : List ℕ)
            (joins' : List EstJoinPath) (r : Result RunOutcome Refusal)
            (f : (start : List ℕ) (leg : ℕ) (net : Net) (run : Run) → NetIn w start fs us cells c net
            → RunIn c.nodes leg joins m run → OutcomeAs (run_event w.places join net run x) w start leg fs' us' cells'
            joins' r)
            (k : NotFewer c r) (ok : bad_point p ≡ false) where
          fine-left : some_bad (points_passed course) ≡ some_bad later
          fine-left = s.fine ∙ fine_first ps later p e ok

          step : (path : List ℕ) (net : Net) (run : Run) → Along b reals cells w v.points path
              → left_of path ps net run ≡ then_left path later (run_event w.places join net run x)
          unfolding run_events events_at
          step path net run a =
              ap (λ (ps : List PassedPoint). run_events w.places join (events_at b path ps)
              (record { net = net; run = run })) e
              ∙ ap (λ (y : TimedEvent). then_left path later (run_event w.places join net run y))
              (sym (z ∙ event_is a next-ahead))

          stopped : (r : Result RunOutcome Refusal) → ((d : Counts) (n : Mover) → r ≡ Ok (On d n) → ⊥)
              → (start path : List ℕ) (leg : ℕ) (net : Net) (run : Run) → Along b reals cells w v.points path
              → OutcomeAs (run_event w.places join net run x) w start leg fs' us' cells' joins' r
              → OutcomeAs (left_of path ps net run) w start leg fs' us' cells' joins' r
          stopped (Ok (On d n)) i start path leg net run a o = absurd (i d n refl)
          stopped (Ok (Ended d)) i start path leg net run a o =
              record { after = o.after; is = step path net run a ∙ ap (then_left path later) o.is; net = o.net }
          stopped (Err n) i start path leg net run a o = step path net run a ∙ ap (then_left path later) o

          stays : ((d : Counts) (n : Mover) → r ≡ Ok (On d n) → ⊥)
              → (start path : List ℕ) (leg : ℕ) (net : Net) (run : Run) → NetIn w start fs₀ us₀ cells₀ c₀ net
              → RunIn c₀.nodes leg joins₀ m₀ run → Along b reals cells₀ w v.points path
              → OutcomeAs (whole_of path net run) w start leg fs' us' cells' joins' r
          stays i start path leg net run n u a =
              let o = s.goes start path leg net run n u a in
              subst (λ (y : Answer Outcome). OutcomeAs y w start leg fs' us' cells' joins' r) o.left
              (stopped r i start path leg o.net o.run o.along (f start leg o.net o.run o.holds o.runs))

          -- it is the last, unless a bad one is left
          pub going-stop : ((d : Counts) (n : Mover) → r ≡ Ok (On d n) → ⊥) → (r' : Result RunOutcome Refusal)
              → r' ≡ stopped_as (some_bad later) r
              → (start path : List ℕ) (leg : ℕ) (net : Net) (run : Run) → NetIn w start fs₀ us₀ cells₀ c₀ net
              → RunIn c₀.nodes leg joins₀ m₀ run → Along b reals cells₀ w v.points path
              → OutcomeAs (unless_bad (some_bad (points_passed course)) (whole_of path net run)) w start leg fs' us'
              cells' joins' r'
          going-stop i r' q start path leg net run n u a =
              subst (λ (t : Bool). OutcomeAs (unless_bad t (whole_of path net run)) w start leg fs' us' cells' joins'
              r') (sym fine-left)
              (subst (OutcomeAs (unless_bad (some_bad later) (whole_of path net run)) w start leg fs' us' cells' joins')
              (sym q) (go (some_bad later)))
            where
              go : (t : Bool) → OutcomeAs (unless_bad t (whole_of path net run)) w start leg fs' us' cells' joins'
                  (stopped_as t r)
              go true = refl
              go false = stays i start path leg net run n u a

          pub going_on : (d : Counts) (n : Mover) → r ≡ Ok (On d n) → Going fs' us' cells' joins' later d n
          going_on d n i = record {
            ahead = next-all.1;
            more = let y : c.nodes ≤ d.nodes = subst (NotFewer c) i k in omega (arith, s.more);
            fine = fine-left;
            goes = λ start path leg net run a u j. on start path leg net run (s.goes start path leg net run a u j);
          }
            where
              on : (start path : List ℕ) (leg : ℕ) (net : Net) (run : Run)
                  → OnWay start path leg fs us cells joins ps c m (whole_of path net run)
                  → OnWay start path leg fs' us' cells' joins' later d n (whole_of path net run)
              on start path leg net run o =
                  let y : GoesAs (run_event w.places join o.net o.run x) w start leg fs' us' cells' joins' d n =
                  subst (OutcomeAs (run_event w.places join o.net o.run x) w start leg fs' us' cells' joins') i
                  (f start leg o.net o.run o.holds o.runs) in
                  record {
                    net = y.after.net;
                    run = y.after.run;
                    holds = y.net;
                    runs = y.run;
                    along = along_kept o.holds y.net o.along;
                    left = sym (step path o.net o.run o.along ∙ ap (then_left path later) y.is) ∙ o.left;
                  }

-- ---- the slices keep their lengths

pub record Long (fs₀ : List Float) (us₀ cells₀ : List ℕ) (fs : List Float) (us cells : List ℕ) : Type 0 where
  pub floats : length fs ≡ length fs₀
  pub numbers : length us ≡ length us₀
  pub cells_long : length cells ≡ length cells₀

-- ---- what became of a run, by its arms

pub went_on : (r : Result RunOutcome Refusal) (o : RunOutcome) (d : Counts) (n : Mover) → r ≡ Ok o → o ≡ On d n
    → r ≡ Ok (On d n)
went_on r o d n p q = p ∙ ap Ok q

pub not_ended : (r : Result RunOutcome Refusal) (o : RunOutcome) (d : Counts) → r ≡ Ok o → o ≡ Ended d
    → (x : Counts) (n : Mover) → r ≡ Ok (On x n) → ⊥
not_ended r o d p q x n e = cc

pub not_refused : (r : Result RunOutcome Refusal) (k : Refusal) → r ≡ Err k → (x : Counts) (n : Mover) → r ≡ Ok (On x n)
    → ⊥
not_refused r k p x n e = cc
