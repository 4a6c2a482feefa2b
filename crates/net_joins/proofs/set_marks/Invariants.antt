-- `net_joins::set_marks` meets its contract: `Marking` is the loop's invariant.
use Rattle.net_joins.proofs.Marking.{Marking}
use Rattle.net_joins.proofs.set_marks.Given as goal

abbrev pub invariant-loop-x : goal.invariant-loop-x
invariant-loop-x l = Marking l.w.nodes_at l.mark l.list l.initial.cells l.cells l.x-index
