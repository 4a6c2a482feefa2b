-- `book_options::push_destinations` meets its contract: `DestinationsStacked` is the loop's invariant.
use Rattle.std.proofs.Common.{ap, ◌+◌, ℕ, arith}
use Rattle.book_options.proofs.Starts.{pushed_none, pushed_more, zero_met}
use Rattle.book_options.proofs.push_destinations.Goals as goal

pub loop-i-init : goal.loop-i-init
loop-i-init c = pushed_none _ _ (omega arith) c.requires.marks_zero

pub returns-then-l-eq0-clause-answer : goal.returns-then-l-eq0-clause-answer
returns-then-l-eq0-clause-answer c =
    let h = zero_met c.args.book.now c.loop-i.i _ (omega arith) c.destination_link-l.ensures c.if-l-eq0.true in rw h

pub loop-i-preserved : goal.loop-i-preserved
loop-i-preserved c =
    pushed_more c.loop-i.invariant _ _ c.destination_link-l.ensures c.if-l-eq0.false
    (ap (λ (x : ℕ). x + c.loop-i.i) c.links-base.ensures) (omega arith)
