-- `Forward::swap` meets its contract.
use Rattle.pass_rules.proofs.Sets.{join_stored}
use Rattle.pass_rules.proofs.ForwardLinks.swap.Goals as goal

pub returns : goal.returns
returns c =
    let all = join_stored _ _ _ _ _ _ _ _ _ _ _ _ _ _ c.load-base.ensures
    (c.set_next.ensures.floats, c.set_next.ensures.numbers) (c.set_next-2.ensures.floats, c.set_next-2.ensures.numbers)
    (c.set_prev.ensures.floats, c.set_prev.ensures.numbers) (c.set_prev-2.ensures.floats, c.set_prev-2.ensures.numbers) in
    record {
      floats = all.0;
      numbers = all.1;
    }
