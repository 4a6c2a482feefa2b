-- `Forward::is_before` meets its contract.
use mathlib.Core.Path.{refl, ◌∙◌}
use Rattle.std.proofs.Common.{rules}
use Rattle.std.specs.Ordering.{nat_cmp}
use Rattle.pass_queue.specs.Queue.{by_bits}
use Rattle.pass_queue.proofs.Compare.{with_is, last_is, forward_is}
use Rattle.pass_queue.proofs.ForwardOrder.is_before.Goals as goal

pub returns : goal.returns
returns c =
    let a = c.args.a in
    let b = c.args.b in
    let node = with_is c.float_order.result (nat_cmp a.node b.node) c.then_with.result c.then_with.ensures (λ h. search rules) in
    let bits = last_is c.then_with.result c.then_with-2.result (by_bits a b) c.then_with-2.ensures (λ h. search rules) in
    c.is_lt.ensures ∙ forward_is a b _ _ bits.0 _ _ c.float_order.ensures refl node bits.1.1 bits.1.0
