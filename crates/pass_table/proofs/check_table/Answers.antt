-- `pass_table::check_table` meets its contract.
use mathlib.Core.Bool.{not}
use mathlib.Core.Path.{ap}
use Rattle.pass_table.proofs.FirstRows.{first_three, first_four, first_nodes_lem}
use Rattle.pass_table.proofs.check_table.Goals as goal

pub returns-then-size_refused : goal.returns-then-size_refused
returns-then-size_refused c = first_three _ _ _ _ _ c.size_refused.ensures c.if-size_refused.true

pub returns-then-not-is_table_float : goal.returns-then-not-is_table_float
returns-then-not-is_table_float c = first_four _ _ _ _ _ _ c.size_refused.ensures c.if-size_refused.false c.is_table_float.ensures (ap not c.if-not-is_table_float.true)

pub returns : goal.returns
returns c = first_nodes_lem _ _ _ _ _ _ _ c.size_refused.ensures c.if-size_refused.false c.is_table_float.ensures (ap not c.if-not-is_table_float.false) c.check_nodes.ensures
