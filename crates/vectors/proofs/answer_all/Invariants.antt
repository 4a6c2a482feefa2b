-- `vectors::answer_all` meets its contract: after k turns k books are answered.
use Rattle.vectors.proofs.Streams.{Turned}
use Rattle.vectors.proofs.answer_all.Given as goal

abbrev pub invariant-loop-k : goal.invariant-loop-k
invariant-loop-k g l =
    Turned l.k (g.R.Read.remaining l.initial.from) (g.R.Read.remaining l.from)
    (g.W.Write.contents l.initial.to) (g.W.Write.contents l.to)
