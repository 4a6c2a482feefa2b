-- `net_insertion::add_behind` meets its contract.
use Rattle.net_insertion.proofs.Puts.{add_stored}
use Rattle.net_insertion.proofs.add_behind.Goals as goal

pub returns : goal.returns
returns c =
    let all = add_stored _ _ _ _ _ _ _ _ _ _ _ c.load-node.ensures c.link_to-linked.ensures c.event_node-added.ensures
    (record {
      floats = c.store.ensures.floats;
      numbers = c.store.ensures.numbers;
      floats_then = c.store-2.ensures.floats;
      numbers_then = c.store-2.ensures.numbers;
    }) in
    record { floats = all.0; numbers = all.1 }
