-- `roots::answer` meets its contract. Assumes nothing.
use Rattle.roots.proofs.Laws.{written_on, answer_is}
use Rattle.roots.proofs.answer.Goals as goal

pub loop-at-preserved : goal.loop-at-preserved
loop-at-preserved c = written_on c.loop-at.invariant c.loop-at-test.true c.digit.ensures

pub returns : goal.returns
returns c = answer_is c.args.bytes c.pattern.ensures c.root_bits-rest.ensures c.loop-at.invariant c.loop-at-test.false
