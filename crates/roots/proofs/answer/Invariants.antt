-- `roots::answer` meets its contract. The invariant: the digits to come and those in the text are the root's. Assumes nothing.
use Rattle.roots.proofs.Laws.{Written}
use Rattle.roots.proofs.answer.Given as goal

abbrev pub invariant-loop-at : goal.invariant-loop-at
invariant-loop-at l = Written l.initial.rest l.rest l.at l.text
