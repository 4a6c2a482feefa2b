-- `pass_rules::LinkedNodes::relink_walk` meets its contract: `Walking` is the loop's invariant.
use Rattle.pass_rules.proofs.Walking.{Walking, walk_of}
use Rattle.pass_rules.proofs.LinkedNodes.relink_walk.Given as goal

abbrev pub invariant-loop : goal.invariant-loop
invariant-loop g l = Walking (walk_of g.L.Order.backward l.self.floats.now l.self.numbers.now l.flags l.self.count) l.self.count l.i l.at l.counter
