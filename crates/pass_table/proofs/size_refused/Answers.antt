-- `pass_table::size_refused` meets its contract.
use Rattle.pass_table.proofs.FirstRows.{size_outside, size_inside}
use Rattle.pass_table.proofs.size_refused.Goals as goal

pub returns-then-n : goal.returns-then-n
returns-then-n c = size_outside _ _ c.if-n.true

pub returns : goal.returns
returns c = size_inside _ _ c.if-n.false
