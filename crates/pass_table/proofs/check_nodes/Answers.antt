-- `pass_table::check_nodes` meets its contract: `Swept` is the loop's invariant.
use mathlib.Core.Bool.{true, false}
use Rattle.laws.specs.Refusals.{first_of}
use Rattle.pass_table.proofs.FirstRows.{sweep_start, sweep_bad, sweep_on, sweep_end}
use Rattle.pass_table.proofs.check_nodes.Goals as goal

pub loop-i-init : goal.loop-i-init
loop-i-init c = sweep_start _ _ _

pub returns-then-is_bad_node : goal.returns-then-is_bad_node
returns-then-is_bad_node c = sweep_bad _ _ _ _ _ c.loop-i.invariant _ _ _ c.loop-i-test.true c.load-node.ensures c.kind_at.ensures c.is_bad_node.ensures c.if-is_bad_node.true

pub loop-i-preserved : goal.loop-i-preserved
loop-i-preserved c = sweep_on _ _ _ _ _ c.loop-i.invariant _ _ _ _ c.loop-i-test.true c.load-node.ensures c.kind_at.ensures c.is_bad_node.ensures c.if-is_bad_node.false c.is_stray_node-stray.ensures

pub returns-then-stray : goal.returns-then-stray
unfolding first_of
returns-then-stray c = sweep_end _ _ _ _ _ c.loop-i.invariant true c.loop-i-test.false c.if-stray.true

pub returns : goal.returns
unfolding first_of
returns c = sweep_end _ _ _ _ _ c.loop-i.invariant false c.loop-i-test.false c.if-stray.false
