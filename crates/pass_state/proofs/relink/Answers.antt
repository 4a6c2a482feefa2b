-- `pass_state::relink` meets its contract.
use Rattle.pass_state.proofs.Relinks.{relink_undone, relink_done, relink_endless, relink-same, relink-swapped}
use Rattle.pass_state.proofs.Both.{relinker}
use Rattle.pass_state.proofs.relink.Goals.{then-not-is_done-via-then-not-is_done, then-not-is_done-via-else-not-is_done+then-is_done}
use Rattle.pass_state.proofs.relink.Goals as goal

pub returns-then-not-is_done : goal.returns-then-not-is_done
returns-then-not-is_done g c =
    λ less p begun ts ns count most v.
    elim c.then-not-is_done.branch [
      | then-not-is_done-via-then-not-is_done w ↦ relink_undone (relinker g.P.Order.backward c.args.n less) v _ _ c.load.ensures _ c.ahead-next.ensures _ c.is_done.ensures w.if-not-is_done.true
      | then-not-is_done-via-else-not-is_done+then-is_done w ↦
          relink_done (relinker g.P.Order.backward c.args.n less) v _ _ c.load.ensures _ c.ahead-next.ensures _ c.is_done.ensures w.if-not-is_done.false _ w.is_done-else-not-is_done.ensures w.if-is_done.true
    ]

pub returns-in_err-found : goal.returns-in_err-found
returns-in_err-found g c =
    λ less p begun ts ns count most v.
    rw c.from_residual.ensures (relink_endless (relinker g.P.Order.backward c.args.n less) v _ _ c.load.ensures _ c.ahead-next.ensures _ c.is_done.ensures c.if-not-is_done.false _ c.is_done-else-not-is_done.ensures c.if-is_done.false c.in_err-found.ensures)

pub returns-then-next-found : goal.returns-then-next-found
returns-then-next-found g c =
    λ less p begun ts ns count most v.
    relink-same (relinker g.P.Order.backward c.args.n less) v _ _ c.load.ensures _ c.ahead-next.ensures _ c.is_done.ensures c.if-not-is_done.false _ c.is_done-else-not-is_done.ensures c.if-is_done.false _ c.in_ok-found.ensures c.if-next-found.true

pub returns : goal.returns
returns g c =
    λ less p begun ts ns count most v.
    relink-swapped (relinker g.P.Order.backward c.args.n less) v _ _ c.load.ensures _ c.ahead-next.ensures _ c.is_done.ensures c.if-not-is_done.false _ c.is_done-else-not-is_done.ensures c.if-is_done.false _ c.in_ok-found.ensures c.if-next-found.false c.requires.curr_lt_n (c.swap.ensures.floats, c.swap.ensures.numbers)
