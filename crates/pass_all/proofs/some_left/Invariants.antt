-- `pass_all::some_left` meets its contract.
use mathlib.Core.Path.{◌≡◌}
use Rattle.laws.specs.Below.{some_below}
use Rattle.pass_all.proofs.Sweeps.{not_done}
use Rattle.pass_all.proofs.some_left.Given as goal

abbrev pub invariant-loop-flag : goal.invariant-loop-flag
invariant-loop-flag l = l.left ≡ some_below l.flag-index (not_done l.flags)
