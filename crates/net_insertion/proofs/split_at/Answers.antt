-- `net_insertion::split_at` meets its contract.
use mathlib.Core.Path.{refl}
use Rattle.net_insertion.proofs.Puts.{split_stored}
use Rattle.net_insertion.proofs.split_at.Goals as goal

pub returns : goal.returns
returns c =
    let all = split_stored _ _ _ _ _ _ _ _ _ _ _ c.load-node.ensures refl c.split_fake-fake.ensures
    (record {
      floats = c.store.ensures.floats;
      numbers = c.store.ensures.numbers;
      floats_then = c.store-2.ensures.floats;
      numbers_then = c.store-2.ensures.numbers;
    }) in
    record { floats = all.0; numbers = all.1 }
