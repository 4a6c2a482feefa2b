-- `pass_all::all_zero` meets its contract: `NoneYet` is the loop's invariant.
use Rattle.pass_all.proofs.Sweeps.{zero_start, zero_hit, zero_on, zero_end}
use Rattle.pass_all.proofs.all_zero.Goals as goal

pub loop-i-init : goal.loop-i-init
loop-i-init c = zero_start _ _

pub returns-then-load : goal.returns-then-load
returns-then-load c = zero_hit _ _ _ c.loop-i.invariant c.loop-i-test.true _ c.load.ensures c.if-load.true

pub loop-i-preserved : goal.loop-i-preserved
loop-i-preserved c = zero_on _ _ _ c.loop-i.invariant c.loop-i-test.true _ c.load.ensures c.if-load.false

pub returns : goal.returns
returns c = zero_end _ _ _ c.loop-i.invariant c.loop-i-test.false
