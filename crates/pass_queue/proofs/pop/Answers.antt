-- `pass_queue::pop` meets its contract: the only entry, or one of several.
use Rattle.pass_queue.proofs.Sifts.{popped_only, popped}
use Rattle.pass_queue.proofs.pop.Goals as goal

pub returns-then-last-eq0 : goal.returns-then-last-eq0
returns-then-last-eq0 g c = popped_only _ _ _ _ _ c.entry_at-top.ensures c.requires.n_nonzero c.if-last-eq0.true

pub returns : goal.returns
returns g c =
    popped _ _ _ _ _ c.entry_at-top.ensures c.requires.n_nonzero _ _ _ _ _ _ c.sink-i.ensures.held c.put_entry.ensures.times c.put_entry.ensures.nodes
