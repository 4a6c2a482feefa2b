-- `grow_ends::first_nodes` meets its contract.
use Rattle.grow_ends.proofs.Fakes.{first_stored}
use Rattle.grow_ends.proofs.first_nodes.Goals as goal

pub returns : goal.returns
returns c =
    let all = first_stored _ _ _ _ _ _ _ _ c.fake_node-first.ensures c.store.ensures.floats c.store.ensures.numbers
    c.fake_node-start.ensures c.store-2.ensures.floats c.store-2.ensures.numbers in
    record {
      floats = all.0;
      numbers = all.1;
    }
