-- `net_joins::append_unmarked` meets its contract: `Appending` is the loop's invariant, and the nodes of a chain rise.
use Rattle.net_joins.proofs.Appending.{Appending, turns}
use Rattle.net_joins.proofs.append_unmarked.Given as goal

abbrev pub invariant-loop-i : goal.invariant-loop-i
invariant-loop-i l = Appending l.cells l.w l.link_idx l.initial.list.items l.list.items l.i

abbrev pub decreases-loop-i : goal.decreases-loop-i
decreases-loop-i l = turns l.w.places l.i
