-- `roots::print_all` meets its contract. Assumes nothing.
use Rattle.roots.proofs.Lines.{Turned}
use Rattle.roots.proofs.print_all.Given as goal

abbrev pub invariant-loop-turn : goal.invariant-loop-turn
invariant-loop-turn g l = Turned l._turn (g.R.Read.remaining l.initial.from) (g.R.Read.remaining l.from) (g.W.Write.contents l.initial.to) (g.W.Write.contents l.to)
