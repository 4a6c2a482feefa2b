-- `net_joins::join_at` meets its contract: `Stored` has its three stores.
use mathlib.Core.Path.{refl}
use Rattle.net_joins.specs.Joins.{join_fake}
use Rattle.net_joins.proofs.Stores.{join_stored}
use Rattle.net_joins.proofs.join_at.Goals as goal

pub returns : goal.returns
unfolding join_fake
returns c =
    let all = join_stored (record {
      load = c.load-node.ensures;
      joined = refl;
      floats = c.store.ensures.floats;
      numbers = c.store.ensures.numbers;
      fake = refl;
      floats_then = c.store-2.ensures.floats;
      numbers_then = c.store-2.ensures.numbers;
      load_then = c.load-before.ensures;
      linked = c.link_to-linked.ensures;
      floats_last = c.store-3.ensures.floats;
      numbers_last = c.store-3.ensures.numbers;
    }) in
    record { floats = all.0; numbers = all.1 }
