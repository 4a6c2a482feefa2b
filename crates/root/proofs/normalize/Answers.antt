-- `root::normalize` meets its contract: the zeros before the leading digit say how far the digits go up.
use native.Mathlib.Omega.{arith}
use Rattle.root.proofs.Steps.{top_of, zeros_enough, moved_up}
use Rattle.root.proofs.normalize.Goals as goal

pub overflow_sub-up : goal.overflow_sub-up
overflow_sub-up c = omega (arith, zeros_enough (top_of c.args.t c.requires.t_nonzero (omega arith)) c.requires.t_bound)

pub returns : goal.returns
returns c = moved_up (top_of c.args.t c.requires.t_nonzero (omega arith)) c.requires.t_bound
