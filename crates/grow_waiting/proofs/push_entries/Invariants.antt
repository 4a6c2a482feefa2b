-- `grow_waiting::push_entries` meets its contract: `EntriesPushed` is the loop's invariant.
use lib.ListN.{take}
use Rattle.grow_waiting.specs.Steps.{EntriesPushed}
use Rattle.grow_waiting.proofs.push_entries.Given as goal

abbrev pub invariant-loop-k : goal.invariant-loop-k
invariant-loop-k l = EntriesPushed l.initial.cells l.cells l.w l.used (take l.k l.joins)
