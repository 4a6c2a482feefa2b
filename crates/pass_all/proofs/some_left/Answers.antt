-- `pass_all::some_left` meets its contract.
use Rattle.pass_all.proofs.Sweeps.{left_start, left_on, left_end}
use Rattle.pass_all.proofs.some_left.Goals as goal

pub loop-flag-init : goal.loop-flag-init
loop-flag-init c = left_start _

pub loop-flag-preserved : goal.loop-flag-preserved
loop-flag-preserved c = left_on _ _ _ c.loop-flag.invariant

pub returns : goal.returns
returns c = left_end _ _ _ _ c.loop-flag.auto.flag-index-end c.loop-flag-test.false c.loop-flag.invariant
