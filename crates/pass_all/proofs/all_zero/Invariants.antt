-- `pass_all::all_zero` meets its contract: `NoneYet` is the loop's invariant.
use Rattle.pass_all.proofs.Sweeps.{NoneYet, not_zero}
use Rattle.pass_all.proofs.all_zero.Given as goal

abbrev pub invariant-loop-i : goal.invariant-loop-i
invariant-loop-i l = NoneYet (not_zero (record { floats = l.floats; numbers = l.numbers })) l.n l.i
