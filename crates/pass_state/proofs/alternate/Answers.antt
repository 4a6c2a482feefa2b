-- `pass_state::alternate` meets its contract.
use native.Mathlib.Omega.{arith}
use mathlib.Core.Path.{sym, subst}
use Prim.Native.Nat.{ℕ, ◌<◌}
use Rattle.pass_state.proofs.Links.{names_in}
use Rattle.pass_state.proofs.Both.{ahead_alt_in, alternative_none, alternative_some}
use Rattle.pass_state.proofs.alternate.Goals as goal

pub returns-then-i-eq0 : goal.returns-then-i-eq0
returns-then-i-eq0 g c = λ p begun v. alternative_none _ v _ _ c.load-node.ensures _ c.ahead_alt-i.ensures c.if-i-eq0.true

pub returns : goal.returns
returns g c =
    λ p begun v.
    let h = subst (λ (k : ℕ). k < c.args.n) (sym c.ahead_alt-i.ensures) (ahead_alt_in g.P.Order.backward (names_in _ _ v.linked.inside _ c.requires.curr_lt_n _ c.load-node.ensures)) in
    alternative_some _ v _ _ c.load-node.ensures _ c.ahead_alt-i.ensures c.if-i-eq0.false h _ c.load-alternative.ensures (c.set_done.ensures.floats, (c.set_done.ensures.numbers, c.set_done.ensures.flags)) _
    c.alternative_entry-e.ensures c.enqueue.ensures (omega (arith, c.enqueue.auto)) (omega (arith, c.enqueue.auto))
