-- `root::digits` meets its contract: `Turned` is the loop's invariant, and each way through a turn is one law of Steps.
use Rattle.root.proofs.Steps.{Turned}
use Rattle.root.proofs.digits.Given as goal

abbrev pub invariant-loop : goal.invariant-loop
invariant-loop l = Turned l.fn.s.a l.counter l.q l.r l.left
