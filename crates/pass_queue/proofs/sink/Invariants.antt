-- `pass_queue::sink` meets its contract: `Sinking` is the loop's invariant, and the hole sinks.
use Prim.Native.Nat.{◌-◌}
use Rattle.pass_queue.proofs.Sifts.{Sinking}
use Rattle.pass_queue.proofs.sink.Given as goal

abbrev pub invariant-loop-i : goal.invariant-loop-i
invariant-loop-i g l = Sinking g.O.Order.backward l.initial.times l.initial.nodes l.n l.e l.times l.nodes l.i

abbrev pub decreases-loop-i : goal.decreases-loop-i
decreases-loop-i g l = l.n - l.i
