-- `grow_waiting::copy_entries` meets its contract: `Copied` is the loop's invariant.
use Rattle.grow_waiting.proofs.Runs.{copied_on}
use Rattle.grow_waiting.proofs.copy_entries.Goals as goal

pub loop-k-preserved : goal.loop-k-preserved
loop-k-preserved c = copied_on c.loop-k.invariant c.loop-k-test.true _ c.push.ensures.items
