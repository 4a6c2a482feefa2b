-- A job that is finished: its network was given, and its passes were too.
use mathlib.Core.Path.{◌≡◌, sym, ap, ◌∙◌}
use mathlib.Core.List.{List}
use Prim.Native.Nat.{ℕ}
use native.Mathlib.Omega.{arith}
use Rattle.laws.specs.Answer.{Answer, refused, given, and_then}
use Rattle.net_node.specs.Table.{Table}
use Rattle.net_node.specs.Lent.{Sizes}
use Rattle.grow_rules.specs.Growth.{Grown, departure}
use Rattle.pass_rules.specs.Passes.{passes}
use Rattle.est_times.specs.Network.{network}
use Rattle.est_times.specs.Sheet.{Finished, finished_as, timed_from, job}

pub record FinishedBy (b : List ℕ) (a : Answer Grown) (f : Finished) : Type 0 where
  pub network_given : a ≡ given f.grown
  pub passes_given : passes f.grown.table f.grown.nodes (departure b) ≡ given f.timed

timed_finished : (g : Grown) (p : Answer Table) (f : Finished) → and_then p (λ (t : Table). given (finished_as g t)) ≡ given f → (g ≡ f.grown) × (p ≡ given f.timed)
timed_finished g (refused k) f e = let z : ◌≡◌ {A = ℕ} 0 1 = cc in absurd (omega arith)
timed_finished g (given t) f e = let d : finished_as g t ≡ f = cc in (ap (λ (x : Finished). x.grown) d, ap (λ (x : Finished). given x.timed) d)

passed_finished : (b : List ℕ) (a : Answer Grown) (f : Finished) → and_then a (timed_from b) ≡ given f → FinishedBy b a f
passed_finished b (refused k) f e = let z : ◌≡◌ {A = ℕ} 0 1 = cc in absurd (omega arith)
passed_finished b (given g) f e =
    let d = timed_finished g (passes g.table g.nodes (departure b)) f e in
    record { network_given = ap given d.0; passes_given = ap (λ (x : Grown). passes x.table x.nodes (departure b)) (sym d.0) ∙ d.1 }

pub job_finished : (b : List ℕ) (z : Sizes) (f : Finished) → job b z ≡ given f → FinishedBy b (network b z) f
unfolding job
job_finished b z f e = passed_finished b (network b z) f e
