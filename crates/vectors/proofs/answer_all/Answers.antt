-- `vectors::answer_all` meets its contract: after k turns k books are answered.
use Rattle.vectors.proofs.Streams.{none_turned, turned_on}
use Rattle.vectors.proofs.answer_all.Goals as goal

pub loop-k-init : goal.loop-k-init
loop-k-init g c = none_turned _ _

pub loop-k-preserved : goal.loop-k-preserved
loop-k-preserved g c =
    turned_on c.loop-k.invariant c.loop-k-test.true c.in_ok-answer_next.ensures.answered c.if-not-branch.false
