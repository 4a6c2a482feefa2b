-- A run's path and its events: a leg more, and that every event is an Arrive or a Clear.
use mathlib.Core.Path.{◌≡◌, refl, sym, ap, ◌∙◌}
use mathlib.Core.Bool.{Bool, true, false, cond}
use mathlib.Core.List.{List, [], ◌∷◌, ◌++◌, append-nil, append_assoc}
use Prim.Native.Nat.{ℕ, zero, suc, ◌-◌, ◌<◌}
use native.Mathlib.Omega.{arith}
use lib.Dec.{ltb}
use lib.Ieee.{Float}
use Rattle.net_node.specs.Table.{fake_kind}
use Rattle.book_format.specs.Format.{legs, leg_link, leg_parent}
use Rattle.net_node.specs.declared.TimedEvent.{TimedEvent}
use Rattle.event_formula.specs.declared.Passing.{Passing}
use Rattle.event_formula.specs.Event.{passing_at}
use Rattle.event_walk.specs.declared.Heads.{Heads}
use Rattle.event_walk.specs.declared.PassedPoint.{PassedPoint}
use Rattle.event_walk.specs.Course.{Course}
use Rattle.event_walk.specs.Walk.{offset_next, clears_next, emits, turn, passed_as, passed_next, walk, turns_left}
use Rattle.event_walk.specs.Walk.{passed_from, points_passed, start}
use Rattle.grow_path.specs.Path.{legs_to, path_of, link_of, leg_course, event_at, events_at, leg_events}
use Rattle.grow_path.proofs.Paths.{path_more}
use Rattle.grow_rules.specs.Growth.{origin_arrive, origin_clear}
use Rattle.arcs_growth.specs.Runs.{events_of_legs, origin_events, run_events_to}
use Rattle.arcs_growth.specs.Read.{Read}
use Rattle.laws.proofs.Members.{All}

-- ---- paths

path : {b : List ℕ} → Read b → (i p : ℕ) → i < legs b → leg_parent b i ≡ p
    → path_of b (suc i) ≡ path_of b p ++ (suc i ∷ [])
path {b} r i p h e = path_more (record { parents = r.parents }) i h ∙ ap (λ (q : ℕ). path_of b q ++ (suc i ∷ [])) e

events_more : (b js : List ℕ) (j : ℕ) → events_of_legs b (js ++ (j ∷ [])) ≡ events_of_legs b js ++ leg_events b j
unfolding events_of_legs
events_more b [] j = append-nil (leg_events b j)
events_more b (k ∷ js) j = ap (λ (xs : List TimedEvent). leg_events b k ++ xs) (events_more b js j)
    ∙ sym (append_assoc (leg_events b k) (events_of_legs b js) (leg_events b j))

origin_same : (b js : List ℕ) (j k : ℕ) → origin_events b ((js ++ (j ∷ [])) ++ (k ∷ [])) ≡ origin_events b
    (js ++ (j ∷ []))
origin_same b [] j k = refl
origin_same b (x ∷ js) j k = refl

-- the events of a run that takes one more leg
pub run_events_more : {b : List ℕ} → Read b → (i p : ℕ) → i < legs b → leg_parent b i ≡ suc p
    → run_events_to b (suc i) ≡ run_events_to b (suc p) ++ leg_events b (suc i)
unfolding run_events_to path_of legs_to
run_events_more {b} r i p h e =
    let js : List ℕ = legs_to p b (leg_parent b p) ++ (suc p ∷ []) in
    ap (λ (xs : List ℕ). origin_events b xs ++ events_of_legs b xs) (path r i (suc p) h e)
    ∙ ap (λ (xs : List TimedEvent). xs ++ events_of_legs b (js ++ (suc i ∷ [])))
    (origin_same b (legs_to p b (leg_parent b p)) (suc p) (suc i))
    ∙ ap (λ (xs : List TimedEvent). origin_events b js ++ xs) (events_more b js (suc i))
    ∙ sym (append_assoc (origin_events b js) (events_of_legs b js) (leg_events b (suc i)))

-- the events of a run that takes its first leg
pub run_events_first : {b : List ℕ} → Read b → (i : ℕ) → i < legs b → leg_parent b i ≡ 0
    → run_events_to b (suc i)
    ≡ origin_arrive b (leg_link b i) ∷ origin_clear b (leg_link b i) ∷ leg_events b (suc i)
unfolding run_events_to path_of legs_to events_of_legs link_of
run_events_first {b} r i h e =
    ap (λ (xs : List ℕ). origin_events b xs ++ events_of_legs b xs) (path r i 0 h e)
    ∙ ap (λ (m : ℕ). origin_arrive b (leg_link b m) ∷ origin_clear b (leg_link b m) ∷ (leg_events b (suc i) ++ [])) less
    ∙ ap (λ (xs : List TimedEvent). origin_arrive b (leg_link b i) ∷ origin_clear b (leg_link b i) ∷ xs)
    (append-nil (leg_events b (suc i)))
  where
    less : suc i - 1 ≡ i
    less = omega arith

-- ---- events are Arrives and Clears

abbrev pub Real : TimedEvent → Type 0
Real e = fake_kind e.link_event.est_type ≡ false

abbrev RealPoint : PassedPoint → Type 0
RealPoint p = fake_kind p.est_type ≡ false

passed_real : (c : Course) (h : Heads) → RealPoint (passed_next c h)
unfolding passed_next passed_as
passed_real c h = go (clears_next c h) (offset_next c h)
    (passing_at (c.sample h.i) (c.sample (h.i - 1)) (offset_next c h))
  where
    go : (t : Bool) (x : Float) (p : Passing) → RealPoint (passed_as h t x p)
    go true x p = refl
    go false x p = refl

walk_real : (n : ℕ) (c : Course) (h : Heads) → All RealPoint (walk n c h)
unfolding walk
walk_real zero c h = tt
walk_real (suc n) c h = go (ltb h.i c.samples) (emits c h) (walk_real n c (turn c h))
  where
    go : (s t : Bool) → All RealPoint (walk n c (turn c h))
        → All RealPoint (cond s (cond t (passed_next c h ∷ walk n c (turn c h)) (walk n c (turn c h))) [])
    go true true d = (passed_real c h, d)
    go true false d = d
    go false t d = tt

events_at_real : (b path : List ℕ) (ps : List PassedPoint) → All RealPoint ps → All Real (events_at b path ps)
unfolding events_at event_at
events_at_real b path [] h = tt
events_at_real b path (p ∷ ps) h = (h.0, events_at_real b path ps h.1)

pub events_real : (b : List ℕ) (j : ℕ) → All Real (leg_events b j)
unfolding leg_events points_passed passed_from
events_real b j = events_at_real b (path_of b j) (points_passed (leg_course b j))
    (walk_real (turns_left (leg_course b j) (start (leg_course b j))) (leg_course b j) (start (leg_course b j)))
