-- `net_notes::forget_notes` meets its contract: `Forgetting` is the loop's invariant.
use native.Mathlib.Omega.{arith}
use Rattle.net_notes.proofs.Log.{noted, forgetting_on, forgetting_all}
use Rattle.net_notes.proofs.forget_notes.Goals as goal

pub loop-k-preserved : goal.loop-k-preserved
unfolding noted
loop-k-preserved c = forgetting_on c.requires.cells_apart c.requires.log_in c.loop-k.invariant (omega arith)

pub returns : goal.returns
returns c = forgetting_all c.requires.cells_apart c.requires.log_in c.loop-k.invariant (omega arith)
