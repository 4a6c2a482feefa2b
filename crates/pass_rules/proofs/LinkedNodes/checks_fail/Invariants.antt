-- `pass_rules::LinkedNodes::checks_fail` meets its contract: `Checked` is the loop's invariant.
use Rattle.net_node.specs.Table.{node_at}
use Rattle.pass_rules.proofs.Held.{Checked}
use Rattle.pass_rules.proofs.LinkedNodes.checks_fail.Given as goal

abbrev pub invariant-loop-i : goal.invariant-loop-i
invariant-loop-i l = Checked (node_at l.self.floats.now l.self.numbers.now) l.self.count l.i
