-- `grow_leg::on_over` meets its contract.
use native.Mathlib.Omega.{arith}
use Rattle.grow_state.proofs.Keeping.{turned_refused}
use Rattle.grow_leg.proofs.GoingOn.{front_depth, on_refused, on_gives}
use Rattle.grow_leg.proofs.on_over.Goals as goal

pub overflow_add-on : goal.overflow_add-on
overflow_add-on c = let s = c.requires in omega (arith, front_depth s.plan s.ends.ends.ends)

pub returns-in_err-leg : goal.returns-in_err-leg
returns-in_err-leg c = λ fs us reals joins net run rest plan a f.
    turned_refused _ _ _ _ c.from_residual.result _ c.from_residual.ensures.1
    (on_refused plan a _ c.book.ensures.is c.take_leg.result c.take_leg.ensures _ c.in_err-leg.was)

pub returns : goal.returns
returns c = λ fs us reals joins net run rest plan a f.
    on_gives plan a _ c.book.ensures.is c.take_leg.result c.take_leg.ensures _ c.in_ok-leg.was f
