-- Parents of the plan's legs, how many entries wait, and what a longer path leaves. What a change elsewhere leaves is
-- in state's proofs/Keeping.antt.
use mathlib.Core.Path.{◌≡◌, ap, ◌∙◌}
use mathlib.Core.List.{List, [], ◌∷◌, ◌++◌, append_assoc}
use Prim.Native.Nat.{ℕ, ◌-◌}
use native.Mathlib.Omega.{arith}
use lib.ListN.{length}
use lib.Ieee.{Float}
use Rattle.book_format.proofs.Given.{leg_above}
use Rattle.grow_waiting.specs.declared.rooms.Rooms.{Rooms}
use Rattle.grow_waiting.specs.Held.{Waiting, SavedIn}
use Rattle.grow_rules.specs.Run.{Run}
use Rattle.grow_rules.specs.Growth.{waiting}
use Rattle.grow_state.specs.declared.Plan.{Plan}
use Rattle.grow_state.specs.Held.{PlanIn, WaitIn, SameRuns, Prefixes, path_before}
use Rattle.grow_path.proofs.Paths.{Above}

-- ---- the plan

pub plan_above : {b : List ℕ} {p : Plan} {n : ℕ} → PlanIn b p n → Above b
plan_above {b} a = record { parents = leg_above b a.readable.single }

-- ---- the runs that wait

-- as many entries as all of them have
used_is : (b : List ℕ) (cells : List ℕ) (reals : List Float) (r : Rooms) (top used : ℕ) (ws : List Waiting)
    (runs : List Run) → SavedIn cells reals r top used ws → SameRuns b ws runs → used ≡ waiting runs
unfolding waiting
used_is b cells reals r top used [] [] s e = s.1
used_is b cells reals r top used [] (x ∷ xs) s e = absurd e
used_is b cells reals r top used (w ∷ ws) [] s e = absurd e
used_is b cells reals r top used (w ∷ ws) (x ∷ xs) s e =
    let n = used_is b cells reals r _ (used - length w.joins) ws xs s.1.1.1.1 e.1 in
    let m : length w.joins ≡ length x.joins = ap length e.0.joins in
    omega (arith, s.1.0)

pub wait_used : {b : List ℕ} {r : Rooms} {reals : List Float} {cells : List ℕ} {top used : ℕ} {runs : List Run}
    → WaitIn b r reals cells top used runs → used ≡ waiting runs
wait_used {b} {r} {reals} {cells} {top} {used} {runs} w = used_is b cells reals r top used w.runs runs w.kept w.same

-- ---- a longer path

pub prefixes_more : (b path more : List ℕ) (runs : List Run) → Prefixes b path runs → Prefixes b (path ++ more) runs
prefixes_more b path more [] h = tt
prefixes_more b path more (r ∷ rs) h = (
  record {
    rest = h.0.rest ++ more;
    is = ap (λ (xs : List ℕ). xs ++ more) h.0.is ∙ append_assoc (path_before b r.leg) h.0.rest more;
  },
  h.1,
)
