-- `Backward::swap` meets its contract.
use Rattle.pass_rules.proofs.Sets.{split_stored}
use Rattle.pass_rules.proofs.BackwardLinks.swap.Goals as goal

pub returns : goal.returns
returns c =
    let all = split_stored _ _ _ _ _ _ _ _ _ _ _ _ _ _ _ _ _ _ _ _ c.load-base.ensures
    (c.set_prev.ensures.floats, c.set_prev.ensures.numbers) (c.set_prev-2.ensures.floats, c.set_prev-2.ensures.numbers)
    (c.set_next.ensures.floats, c.set_next.ensures.numbers) (c.set_next-2.ensures.floats, c.set_next-2.ensures.numbers)
    c.load-a.ensures c.load-b.ensures
    (c.set_arc.ensures.floats, c.set_arc.ensures.numbers) (c.set_arc-2.ensures.floats, c.set_arc-2.ensures.numbers) in
    record {
      floats = all.0;
      numbers = all.1;
    }
