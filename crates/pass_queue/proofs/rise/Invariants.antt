-- `pass_queue::rise` meets its contract: `Rising` is the loop's invariant, and the hole rises.
use Rattle.pass_queue.proofs.Sifts.{Rising}
use Rattle.pass_queue.proofs.rise.Given as goal

abbrev pub invariant-loop-i : goal.invariant-loop-i
invariant-loop-i g l = Rising g.O.Order.backward l.initial.times l.initial.nodes l.n l.e l.times l.nodes l.i

abbrev pub decreases-loop-i : goal.decreases-loop-i
decreases-loop-i g l = l.i
