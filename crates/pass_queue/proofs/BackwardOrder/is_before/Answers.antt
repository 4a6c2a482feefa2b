-- `Backward::is_before` meets its contract.
use mathlib.Core.Path.{refl, ◌∙◌}
use lib.Ieee.{lt}
use Rattle.std.proofs.Common.{rules}
use Rattle.std.specs.Ordering.{nat_cmp}
use Rattle.pass_queue.specs.Queue.{order_by, by_bits}
use Rattle.pass_queue.proofs.Compare.{with_is, last_is, backward_is}
use Rattle.pass_queue.proofs.BackwardOrder.is_before.Goals as goal

pub returns : goal.returns
returns c =
    let a = c.args.a in
    let b = c.args.b in
    let sub = with_is c.float_order.result (order_by (lt b.sub a.sub) (lt a.sub b.sub)) c.then_with.result c.then_with.ensures (λ h. search rules) in
    let node = with_is c.then_with.result (nat_cmp b.node a.node) c.then_with-2.result c.then_with-2.ensures (λ h. search rules) in
    let bits = last_is c.then_with-2.result c.then_with-3.result (by_bits a b) c.then_with-3.ensures (λ h. search rules) in
    c.is_lt.ensures ∙ backward_is a b _ _ _ bits.0 _ _ _ c.float_order.ensures refl sub refl node bits.1.1 bits.1.0
