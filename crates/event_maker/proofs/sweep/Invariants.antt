-- `event_maker::sweep` meets its contract: `Swept` is the loop's invariant.
use Prim.Native.Nat.{ℕ, ◌-◌, ◌≤◌}
use mathlib.Core.Bool.{Bool, false}
use Rattle.event_maker.specs.Parts.{Tells}
use Rattle.event_maker.proofs.Sweeps.{Swept}
use Rattle.event_maker.proofs.sweep.Given as goal

abbrev pub invariant-loop-i : goal.invariant-loop-i
invariant-loop-i g l = record {
  inside : l.i ≤ l.n;
  before : goal.B-post g l.is_bad (l.i - 1) false;
  swept : (bad fallen : ℕ → Bool) → Tells l.n (goal.B-post g l.is_bad) bad → Tells (l.n - 1) (goal.F-post g l.falls) fallen → Swept l.n bad fallen l.i l.fell;
}
