-- `pass_table::check_nodes` meets its contract: `Swept` is the loop's invariant.
use Rattle.pass_table.proofs.FirstRows.{Swept}
use Rattle.pass_table.proofs.check_nodes.Given as goal

abbrev pub invariant-loop-i : goal.invariant-loop-i
invariant-loop-i l = Swept (record { floats = l.floats; numbers = l.numbers }) l.n l.i l.stray
