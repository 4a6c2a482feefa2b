-- `pass_rules::LinkedNodes::relink_walk` meets its contract: `Walking` is the loop's invariant.
use native.Mathlib.Omega.{arith}
use Rattle.pass_rules.proofs.Walking.{walk_found, walk_endless, walk_on}
use Rattle.pass_rules.proofs.LinkedNodes.relink_walk.Goals as goal

pub returns-then-not-is_passable : goal.returns-then-not-is_passable
returns-then-not-is_passable g c =
    walk_found g.L.Order.backward c.args.self.now.floats.now c.args.self.now.numbers.now c.args.flags.now c.args.self.now.count _ _ _ c.loop.invariant _ c.is_passable.ensures c.if-not-is_passable.true

pub returns-else-not-is_passable : goal.returns-else-not-is_passable
returns-else-not-is_passable g c =
    walk_endless g.L.Order.backward c.args.self.now.floats.now c.args.self.now.numbers.now c.args.flags.now c.args.self.now.count _ _ _ c.loop.invariant _ c.is_passable.ensures c.if-not-is_passable.false (omega arith)

pub loop-preserved : goal.loop-preserved
loop-preserved g c =
    walk_on g.L.Order.backward c.args.self.now.floats.now c.args.self.now.numbers.now c.args.flags.now c.args.self.now.count _ _ _ c.loop.invariant _ c.is_passable.ensures c.if-not-is_passable.false (omega arith) c.args.self.now.linked.inside _ c.load.ensures _ c.ahead-at.ensures
