-- `grow_waiting::copy_entries` meets its contract: `Copied` is the loop's invariant.
use Rattle.grow_waiting.proofs.Runs.{Copied}
use Rattle.grow_waiting.proofs.copy_entries.Given as goal

abbrev pub invariant-loop-k : goal.invariant-loop-k
invariant-loop-k l = Copied l.cells l.w l.from l.count l.k l.joins.items
