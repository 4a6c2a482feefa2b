-- `net_joins::set_marks` meets its contract: `Marking` is the loop's invariant.
use mathlib.Core.Path.{refl}
use Rattle.net_joins.proofs.Marking.{marking_on}
use Rattle.net_joins.proofs.set_marks.Goals as goal

pub loop-x-preserved : goal.loop-x-preserved
loop-x-preserved c = marking_on c.loop-x.invariant c.loop-x-test.true _ _ refl
