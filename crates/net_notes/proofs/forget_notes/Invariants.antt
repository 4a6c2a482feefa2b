-- `net_notes::forget_notes` meets its contract: `Forgetting` is the loop's invariant.
use Rattle.net_notes.proofs.Log.{Forgetting}
use Rattle.net_notes.proofs.forget_notes.Given as goal

abbrev pub invariant-loop-k : goal.invariant-loop-k
invariant-loop-k l = Forgetting l.w l.initial.cells l.count l.cells l.k
