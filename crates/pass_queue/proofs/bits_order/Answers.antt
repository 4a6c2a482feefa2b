-- `pass_queue::bits_order` meets its contract.
use Rattle.pass_queue.proofs.Compare.{bits_is}
use Rattle.pass_queue.proofs.bits_order.Goals as goal

pub returns : goal.returns
returns c = bits_is _ _ _ _ _ _ _ _ _ c.bits_of.ensures c.bits_of-2.ensures c.bits_of-3.ensures c.bits_of-4.ensures c.cmp.ensures c.cmp-2.ensures c.then.ensures
