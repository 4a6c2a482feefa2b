-- All runs: a turn after the other, until none is left. As many turns as there are legs are enough: the load of the
-- runs that wait is less with each.
use mathlib.Core.Path.{◌≡◌, refl, sym, ap, ◌∙◌, subst}
use mathlib.Core.List.{List, [], ◌∷◌}
use Prim.Native.Nat.{ℕ, zero, suc, ◌+◌, ◌-◌, ◌≤◌, ◌<◌}
use native.Mathlib.Omega.{arith}
use lib.ListN.{length}
use lib.Ieee.{Float}
use Rattle.net_join_paths.specs.declared.EstJoinPath.{EstJoinPath}
use Rattle.std.specs.Prelude.{Option, Some, None, Result, Ok, Err}
use Rattle.refusals.specs.declared.Refusal.{Refusal}
use Rattle.refusals.specs.Refusals.{refusal_number}
use Rattle.laws.specs.Answer.{Answer, refused, given, and_then}
use Rattle.laws.proofs.Answers.{holds_given}
use Rattle.laws.proofs.Members.{All}
use Rattle.book_format.specs.Format.{legs}
use Rattle.book_format.proofs.Given.{limits}
use Rattle.book_options.specs.Options.{kept_origins}
use Rattle.grow_waiting.specs.declared.rooms.Rooms.{Rooms}
use Rattle.grow_waiting.specs.Held.{Waiting, SavedIn}
use Rattle.grow_waiting.proofs.Kept.{saved_end}
use Rattle.grow_rules.specs.Run.{Net, Run}
use Rattle.grow_rules.specs.Growth.{Growth, first_nodes, grow_origins, take_leg, drive}
use Rattle.grow_events.specs.declared.Counts.{Counts}
use Rattle.grow_state.specs.declared.Plan.{Plan}
use Rattle.grow_state.specs.declared.Front.{Front}
use Rattle.grow_state.specs.declared.Rest.{Rest}
use Rattle.grow_state.specs.declared.State.{State}
use Rattle.grow_state.specs.Held.{PlanIn, SameRuns, WaitIn, RunsIn, DriveIn, Driving, GivesAs, TurnedAs}
use Rattle.grow_state.specs.Held.{Lists, lists, SameDrive, idle, with_front}
use Rattle.grow_leg.specs.OneLeg.{TakesLeg}
use Rattle.arcs_growth.specs.Read.{Read}
use Rattle.arcs_growth.proofs.AtEvents.{Driven}
use Rattle.arcs_growth.proofs.Driving.{LegIn, Turned, takes_leg, nobody}
use Rattle.arcs_growth.proofs.Loads.{load}
use Rattle.arcs_growth.proofs.Origins.{Ready, origins_ready}
use Rattle.grow_book.specs.Answers.{next_turn, NextRun, DrivenAs, DriveAs, FromOrigins, TakesNext, Drives}

-- ---- the definition, a turn at a time

drive_none : (n : ℕ) (b : List ℕ) (places : ℕ) (net : Net) → drive n b places net [] ≡ given net
unfolding drive
drive_none zero b places net = refl
drive_none (suc n) b places net = refl

drive_turn : (n : ℕ) (b : List ℕ) (places : ℕ) (net : Net) (runs : List Run)
    → drive (suc n) b places net runs ≡ and_then (next_turn b places net runs)
    (λ (g : Growth). drive n b places g.net g.saved)
unfolding drive
drive_turn n b places net [] = sym (drive_none n b places net)
drive_turn n b places net (run ∷ runs) = refl

-- ---- no run is left

none_same : (b : List ℕ) (ws : List Waiting) (rs : List Run) → ws ≡ [] → SameRuns b ws rs → rs ≡ []
none_same b [] [] e s = refl
none_same b [] (r ∷ rs) e s = absurd s
none_same b (w ∷ ws) rs e s = let l : suc (length ws) ≡ 0 = ap length e in absurd (omega arith)

wait_none : {b : List ℕ} {r : Rooms} {reals : List Float} {cells : List ℕ} {top used : ℕ} {runs : List Run}
    → WaitIn b r reals cells top used runs → top ≡ 0 → runs ≡ []
wait_none {b} {r} {reals} {cells} {top} {used} {runs} w e =
    none_same b w.runs runs (saved_end cells reals r top used w.runs e w.kept) w.same

-- a state without a run has none in any network
all_none : {b : List ℕ} {p : Plan} {s : Lists} {path path' : List ℕ} (g : State) {net net' : Net} {runs' : List Run}
    → DriveIn b p s path g net [] → DriveIn b p s path' g net' runs' → runs' ≡ []
all_none {b} {p} {s} g {runs' = runs'} d d' = go g.front d.waiting d'.waiting
  where
    top_none : (r : Rooms) (top used : ℕ) (ws : List Waiting) → SameRuns b ws [] → SavedIn s.cells s.reals r top used ws
        → top ≡ 0
    top_none r top used [] e k = k.0
    top_none r top used (w ∷ ws) e k = absurd e

    go : (f : Option Front) → RunsIn f b p.r s.reals s.cells s.joins g.rest []
        → RunsIn f b p.r s.reals s.cells s.joins g.rest runs' → runs' ≡ []
    go None w w' = wait_none w' (top_none p.r g.rest.top g.rest.used w.runs w.same w.kept)
    go (Some f) w w' = absurd w

-- ---- the run that is next

module _ {p : Plan} {reals : List Float} {cells : List ℕ} {joins : List EstJoinPath} (g : State) where
  pub none_next : g.front ≡ None → g.rest.top ≡ 0 → (joins' : List EstJoinPath)
      → NextRun p reals cells joins joins' g None
  none_next e z joins' b fs us path net runs d = wait_none (idle_drive e b fs us path net runs d).waiting z
    where
      idle_drive : g.front ≡ None → (b : List ℕ) (fs : List Float) (us path : List ℕ) (net : Net) (runs : List Run)
          → DriveIn b p (lists fs us reals cells joins) path g net runs
          → DriveIn b p (lists fs us reals cells joins) path (idle g.rest) net runs
      idle_drive e b fs us path net runs d = subst (λ (x : Option Front). DriveIn b p
          (lists fs us reals cells joins) path (record { rest = g.rest; front = x }) net runs) e d

  pub up_next : g.front ≡ None → (joins' : List EstJoinPath) (h : State)
      → SameDrive p reals cells joins joins' (idle g.rest) h → SameDrive p reals cells joins joins' g h
  up_next e joins' h f b fs us path net runs d =
      f b fs us path net runs (subst (λ (x : Option Front). DriveIn b p (lists fs us reals cells joins) path
      (record { rest = g.rest; front = x }) net runs) e d)

-- ---- one turn

module _ (b : List ℕ) (p : Plan) (fs : List Float) (us : List ℕ) (reals : List Float) (cells : List ℕ)
    (joins : List EstJoinPath) (g : Rest) (front : Front) (fs' : List Float) (us' : List ℕ) (reals' : List Float)
    (cells' : List ℕ) (joins' : List EstJoinPath) (t : Result State Refusal)
    (told : TakesLeg b p g front (lists fs us reals cells joins) (lists fs' us' reals' cells' joins') t) where
  -- where one moves, there is one
  turn_as_lem : TakesNext b p (with_front g front) (lists fs us reals cells joins)
      (lists fs' us' reals' cells' joins') t
  turn_as_lem path net [] d = absurd d.waiting
  turn_as_lem path net (run ∷ saved) d = told path net run saved d

-- the run that was saved last is taken up first
module _ (b : List ℕ) (p : Plan) (fs : List Float) (us : List ℕ) (reals : List Float) (cells : List ℕ)
    (joins joins' : List EstJoinPath) (g : State) (h : Rest) (front : Front)
    (held : SameDrive p reals cells joins joins' g (with_front h front)) where
  pub up_driving : Driving b p (lists fs us reals cells joins) g
      → Driving b p (lists fs us reals cells joins') (with_front h front)
  up_driving s = record { path = s.path; net = s.net; runs = s.runs; holds = held b fs us s.path s.net s.runs s.holds }

  pub up_turn_as : (fs' : List Float) (us' : List ℕ) (reals' : List Float) (cells' : List ℕ)
      (joins'' : List EstJoinPath) (t : Result State Refusal)
      → (TakesLeg b p h front (lists fs us reals cells joins') (lists fs' us' reals' cells' joins'') t)
      → TakesNext b p g (lists fs us reals cells joins) (lists fs' us' reals' cells' joins'') t
  up_turn_as fs' us' reals' cells' joins'' t told path net runs d =
      turn_as_lem b p fs us reals cells joins' h front fs' us' reals' cells' joins'' t told path net runs
      (held b fs us path net runs d)

-- ---- the loop

-- what is left gives what the whole gives
pub record Goes (b : List ℕ) (p : Plan) (fs : List Float) (us : List ℕ) (reals : List Float) (cells : List ℕ)
    (joins : List EstJoinPath) (g : State) (n : ℕ) (answer : Answer Net) : Type 0 where
  pub path : List ℕ
  pub net : Net
  pub runs : List Run
  pub holds : DriveIn b p (lists fs us reals cells joins) path g net runs
  pub same : answer ≡ drive n b p.w.places net runs

-- some runs that are left take at most so many legs more: no leg is taken twice
pub record Light (b : List ℕ) (p : Plan) (s : Lists) (g : State) (n : ℕ) : Type 0 where
  pub path : List ℕ
  pub net : Net
  pub runs : List Run
  pub holds : DriveIn b p s path g net runs
  pub driven : Driven b p.w.places net runs
  pub legs_in : All (LegIn b) runs
  pub light : load b runs ≤ n

origins_light : {b : List ℕ} {p : Plan} {s : Lists} {g : Rest} → FromOrigins b p s g → Light b p s (idle g) (legs b)
origins_light {b} {p} {s} {g} v =
    let r : Ready b p.w.places v.growth =
    holds_given (Ready b p.w.places) (grow_origins b p.w.places (kept_origins b)
    (record { net = first_nodes b v.table; saved = [] })) v.growth
    (origins_ready v.read p.w.places v.table v.room v.more) v.grown in
    record {
      path = v.path;
      net = v.growth.net;
      runs = v.growth.saved;
      holds = v.holds;
      driven = r.driven;
      legs_in = r.legs_in;
      light = r.light;
    }

pub record Turning (b : List ℕ) (p : Plan) (fs₀ : List Float) (us₀ : List ℕ) (reals₀ : List Float) (cells₀ : List ℕ)
    (joins₀ : List EstJoinPath) (g₀ : Rest) (fs : List Float) (us : List ℕ) (reals : List Float) (cells : List ℕ)
    (joins : List EstJoinPath) (g : State) (k : ℕ) : Type 0 where
  pub within : k ≤ legs b
  pub floats : length fs ≡ length fs₀
  pub numbers : length us ≡ length us₀
  pub reals_long : length reals ≡ length reals₀
  pub cells_long : length cells ≡ length cells₀
  pub goes : (path : List ℕ) (net : Net) (runs : List Run)
      → DriveIn b p (lists fs₀ us₀ reals₀ cells₀ joins₀) path (idle g₀) net runs
      → Goes b p fs us reals cells joins g (legs b - k) (drive (legs b) b p.w.places net runs)
  pub light : Light b p (lists fs us reals cells joins) g (legs b - k)

pub turning_start : (b : List ℕ) (p : Plan) (fs : List Float) (us : List ℕ) (reals : List Float) (cells : List ℕ)
    (joins : List EstJoinPath) (g : Rest) → FromOrigins b p (lists fs us reals cells joins) g
    → Turning b p fs us reals cells joins g fs us reals cells joins (idle g) 0
turning_start b p fs us reals cells joins g v = record {
  within = omega arith;
  floats = refl;
  numbers = refl;
  reals_long = refl;
  cells_long = refl;
  goes = λ path net runs d. let e : legs b ≡ legs b - 0 = omega arith in
      record { path = path; net = net; runs = runs; holds = d; same = ap (λ (n : ℕ). drive n b p.w.places net runs) e };
  light = let e : legs b ≡ legs b - 0 = omega arith in
      subst (Light b p (lists fs us reals cells joins) (idle g)) e (origins_light v);
}

pub legs_left : {b : List ℕ} {p : Plan} {n : ℕ} → PlanIn b p n → (k : ℕ) → k < legs b → k < 65535
legs_left {b} plan k h = omega (arith, (limits b plan.readable.counted.counts).legs_most)

module _ (b : List ℕ) (p : Plan) (fs₀ : List Float) (us₀ : List ℕ) (reals₀ : List Float) (cells₀ : List ℕ)
    (joins₀ : List EstJoinPath) (g₀ : Rest) (fs : List Float) (us : List ℕ) (reals : List Float) (cells : List ℕ)
    (joins : List EstJoinPath) (g : State) (k : ℕ)
    (v : Turning b p fs₀ us₀ reals₀ cells₀ joins₀ g₀ fs us reals cells joins g k) where
  pub turning_plan : PlanIn b p (length reals₀) → PlanIn b p (length reals)
  turning_plan plan = subst (PlanIn b p) (sym v.reals_long) plan

  pub turning_some : Driving b p (lists fs us reals cells joins) g
  turning_some = record { path = v.light.path; net = v.light.net; runs = v.light.runs; holds = v.light.holds }

  -- where a run is next, one is left
  pub next_some : (h : Rest) (front : Front) (joins' : List EstJoinPath)
      → SameDrive p reals cells joins joins' g (with_front h front) → v.light.runs ≡ [] → ⊥
  next_some h front joins' held e = go v.light.runs e (held b fs us v.light.path v.light.net v.light.runs v.light.holds)
    where
      go : (runs : List Run) → runs ≡ [] → DriveIn b p (lists fs us reals cells joins') v.light.path
          (with_front h front) v.light.net runs → ⊥
      go [] q d = d.waiting
      go (run ∷ runs) q d = let l : suc (length runs) ≡ 0 = ap length q in omega arith

  -- no run is left
  ended : (path : List ℕ) (net : Net) (runs : List Run)
      → ((path : List ℕ) (net : Net) (runs : List Run) → DriveIn b p (lists fs us reals cells joins) path g net runs
      → runs ≡ []) → DriveIn b p (lists fs₀ us₀ reals₀ cells₀ joins₀) path (idle g₀) net runs
      → DrivenAs (drive (legs b) b p.w.places net runs) p fs us cells g.rest.counts
  ended path net runs none d =
      let x = v.goes path net runs d in
      record {
        net = x.net;
        is = x.same ∙ ap (drive (legs b - k) b p.w.places x.net) (none x.path x.net x.runs x.holds)
            ∙ drive_none (legs b - k) b p.w.places x.net;
        holds = x.holds.grown;
      }

  pub turning_done : (joins' : List EstJoinPath) → NextRun p reals cells joins joins' g None
      → (joins'' : List EstJoinPath) → Drives b p g₀ (lists fs₀ us₀ reals₀ cells₀ joins₀)
      (lists fs us reals cells joins'') (Ok g.rest.counts)
  turning_done joins' f joins'' path net runs d = ended path net runs (λ path net runs h. f b fs us path net runs h) d

  -- each leg had its turn
  pub turning_over : Read b → legs b ≤ k → Drives b p g₀ (lists fs₀ us₀ reals₀ cells₀ joins₀)
      (lists fs us reals cells joins) (Ok g.rest.counts)
  turning_over r h path net runs d =
      let e : v.light.runs ≡ [] = nobody r v.light.runs v.light.legs_in (omega (arith, v.light.light)) in
      ended path net runs (λ path net runs a. all_none g
      (subst (DriveIn b p (lists fs us reals cells joins) v.light.path g v.light.net) e v.light.holds) a) d

  module _ (h : k < legs b) (fs' : List Float) (us' : List ℕ) (reals' : List Float) (cells' : List ℕ)
      (joins' : List EstJoinPath) (t : Result State Refusal)
      (told : TakesNext b p g (lists fs us reals cells joins) (lists fs' us' reals' cells' joins') t) where
    unfolds : {answer : Answer Net} → (x : Goes b p fs us reals cells joins g (legs b - k) answer)
        → answer ≡ and_then (next_turn b p.w.places x.net x.runs)
        (λ (y : Growth). drive (legs b - (k + 1)) b p.w.places y.net y.saved)
    unfolds x =
        let e : legs b - k ≡ suc (legs b - (k + 1)) = omega arith in
        x.same ∙ ap (λ (n : ℕ). drive n b p.w.places x.net x.runs) e
        ∙ drive_turn (legs b - (k + 1)) b p.w.places x.net x.runs

    pub turning_stop : (n : Refusal) → t ≡ Err n → (r : Result Counts Refusal) → r ≡ Err n
        → Drives b p g₀ (lists fs₀ us₀ reals₀ cells₀ joins₀) (lists fs' us' reals' cells' joins') r
    turning_stop n e r l path net runs d =
        let x = v.goes path net runs d in
        let q : next_turn b p.w.places x.net x.runs ≡ refused (refusal_number n) =
        subst (TurnedAs (next_turn b p.w.places x.net x.runs) b p (lists fs' us' reals' cells' joins')) e
        (told x.path x.net x.runs x.holds) in
        subst (DriveAs (drive (legs b) b p.w.places net runs) p fs' us' cells') (sym l)
        (unfolds x ∙ ap (λ (a : Answer Growth). and_then a
        (λ (y : Growth). drive (legs b - (k + 1)) b p.w.places y.net y.saved)) q)

    -- the load of the runs is less
    lighter : Read b → (some : (v.light.runs ≡ [] → ⊥)) → (g' : State) → t ≡ Ok g'
        → Light b p (lists fs' us' reals' cells' joins') g' (legs b - (k + 1))
    lighter r some g' e = go v.light.runs v.light.holds v.light.driven v.light.legs_in v.light.light some
      where
        go : (runs : List Run) → DriveIn b p (lists fs us reals cells joins) v.light.path g v.light.net runs
            → Driven b p.w.places v.light.net runs → All (LegIn b) runs → load b runs ≤ legs b - k → (runs ≡ [] → ⊥)
            → Light b p (lists fs' us' reals' cells' joins') g' (legs b - (k + 1))
        go [] d dr li lo some = absurd (some refl)
        go (run ∷ saved) d dr li lo some =
            let q : GivesAs (take_leg b p.w.places v.light.net run saved) b p (lists fs' us' reals' cells' joins') g' =
            subst (TurnedAs (take_leg b p.w.places v.light.net run saved) b p (lists fs' us' reals' cells' joins'))
            e (told v.light.path v.light.net (run ∷ saved) d) in
            let l : Turned r p.w.places run saved q.growth =
            holds_given (Turned r p.w.places run saved) (take_leg b p.w.places v.light.net run saved) q.growth
            (takes_leg r dr li) q.is in
            record {
              path = q.path;
              net = q.growth.net;
              runs = q.growth.saved;
              holds = q.holds;
              driven = l.driven;
              legs_in = l.legs_in;
              light = let m = l.less in omega arith;
            }

    pub turning_on : Read b → (v.light.runs ≡ [] → ⊥) → (g' : State) → t ≡ Ok g' → length fs' ≡ length fs
        → length us' ≡ length us → length reals' ≡ length reals → length cells' ≡ length cells
        → Turning b p fs₀ us₀ reals₀ cells₀ joins₀ g₀ fs' us' reals' cells' joins' g' (k + 1)
    turning_on read some g' e lf lu lr lc = record {
      within = omega arith;
      floats = lf ∙ v.floats;
      numbers = lu ∙ v.numbers;
      reals_long = lr ∙ v.reals_long;
      cells_long = lc ∙ v.cells_long;
      goes = λ path net runs d.
          let x = v.goes path net runs d in
          let q : GivesAs (next_turn b p.w.places x.net x.runs) b p (lists fs' us' reals' cells' joins') g' =
          subst (TurnedAs (next_turn b p.w.places x.net x.runs) b p (lists fs' us' reals' cells' joins')) e
          (told x.path x.net x.runs x.holds) in
          record {
            path = q.path;
            net = q.growth.net;
            runs = q.growth.saved;
            holds = q.holds;
            same = unfolds x ∙ ap (λ (a : Answer Growth). and_then a
                (λ (y : Growth). drive (legs b - (k + 1)) b p.w.places y.net y.saved)) q.is;
          };
      light = lighter read some g' e;
    }
