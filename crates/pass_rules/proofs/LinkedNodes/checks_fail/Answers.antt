-- `pass_rules::LinkedNodes::checks_fail` meets its contract: `Checked` is the loop's invariant.
use Rattle.pass_rules.proofs.Held.{checked_start, checked_fails, checked_more, checked_all}
use Rattle.pass_rules.proofs.LinkedNodes.checks_fail.Goals as goal

pub loop-i-init : goal.loop-i-init
loop-i-init c = checked_start _ _

pub returns-then-not-node_holds : goal.returns-then-not-node_holds
returns-then-not-node_holds c = checked_fails _ _ _ c.loop-i.invariant _ c.loop-i-test.true c.node_holds.ensures c.if-not-node_holds.true

pub loop-i-preserved : goal.loop-i-preserved
loop-i-preserved c = checked_more _ _ _ c.loop-i.invariant _ c.loop-i-test.true c.node_holds.ensures c.if-not-node_holds.false

pub returns : goal.returns
returns c = checked_all _ _ _ c.loop-i.invariant c.loop-i-test.false
