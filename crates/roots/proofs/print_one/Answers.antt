-- `roots::print_one` meets its contract. Assumes nothing.
use Rattle.std.proofs.Common.{rules}
use Rattle.roots.proofs.Lines.{eight_read, line_printed}
use Rattle.roots.proofs.print_one.Goals as goal

pub returns-clause-line : goal.returns-clause-line
returns-clause-line g c = line_printed _ _ _ _ c.in_ok-n.ensures.bytes (search rules) c.if-n-lt8.false _ _ _ _ (search rules) c.answer.ensures c.in_ok-write_all-2.ensures.bytes c.in_ok-write_all-3.ensures.bytes

pub returns-clause-rest : goal.returns-clause-rest
returns-clause-rest g c = eight_read _ _ _ _ c.in_ok-n.ensures.bytes (search rules) c.if-n-lt8.false
