-- `net_joins::closest_of` meets its contract: `Choosing` is the loop's invariant.
use mathlib.Core.Path.{refl}
use Rattle.net_joins.proofs.Choosing.{choosing_on}
use Rattle.net_joins.proofs.closest_of.Goals as goal

pub loop-x-preserved : goal.loop-x-preserved
loop-x-preserved c =
    choosing_on c.loop-x.invariant c.loop-x-test.true _ _ refl _ (c.closer_of-best.ensures _ c.load-node.ensures)
