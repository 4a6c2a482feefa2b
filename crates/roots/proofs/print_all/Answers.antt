-- `roots::print_all` meets its contract. Assumes nothing.
use Rattle.roots.proofs.Lines.{none_turned, turned_on, all_printed}
use Rattle.roots.proofs.print_all.Goals as goal

pub loop-turn-init : goal.loop-turn-init
loop-turn-init g c = none_turned _ _

pub loop-turn-preserved : goal.loop-turn-preserved
loop-turn-preserved g c = let one = c.in_ok-more.ensures in turned_on _ c.loop-turn.invariant one.line _ c.if-not-more.false one.rest one.more

pub returns-then-not-more : goal.returns-then-not-more
returns-then-not-more g c = let one = c.in_ok-more.ensures in all_printed _ c.loop-turn.invariant one.line c.if-not-more.true one.more
