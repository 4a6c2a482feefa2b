-- `grow_waiting::push_entries` meets its contract: `EntriesPushed` is the loop's invariant.
use mathlib.Core.Path.{refl}
use native.Mathlib.Omega.{arith}
use Rattle.grow_waiting.proofs.Runs.{pushed_on}
use Rattle.grow_waiting.proofs.push_entries.Goals as goal

pub loop-k-preserved : goal.loop-k-preserved
loop-k-preserved c = pushed_on _ _ c.loop-k.invariant (omega arith) c.requires.entries_fit
    (omega (arith, c.requires.places_in_bounds)) _ _ refl
