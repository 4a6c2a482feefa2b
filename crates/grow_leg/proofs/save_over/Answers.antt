-- `grow_leg::save_over` meets its contract.
use mathlib.Core.Path.{sym, ap, subst}
use mathlib.Core.List.{List}
use Prim.Native.Nat.{ℕ}
use native.Mathlib.Omega.{arith}
use lib.ListN.{length}
use Rattle.book_format.specs.Format.{legs}
use Rattle.book_format.specs.Chains.{Chained}
use Rattle.grow_state.proofs.Keeping.{plan_legs, planned_in}
use Rattle.grow_leg.proofs.GoingOn.{saved_refused, front_leg, front_depth, front_used, save_none, save_full, save_leg}
use Rattle.grow_leg.proofs.GoingOn.{save-gives}
use Rattle.grow_leg.proofs.save_over.Goals as goal

pub take_leg-requires : goal.take_leg-requires
take_leg-requires c =
    let plan = planned_in _ c.args.p.now.planned c.requires.reals_room in
    let s = c.requires in
    let e = c.book.ensures.is in
    record {
      chained = subst (λ (b : List ℕ). Chained b c.args.cells.now) (sym e) s.some_ending.ends.ends.chained;
      parent_le_legs = omega (arith, ap legs e, front_leg plan s.some_ending.ends.ends);
    }

pub returns-in_err-leg : goal.returns-in_err-leg
returns-in_err-leg c =
    let plan = planned_in _ c.args.p.now.planned c.requires.reals_room in
    λ fs us net run rest a f.
    saved_refused _ _ _ _ _ _ _ _ _ c.from_residual.result _ c.from_residual.ensures.1
    (save_none plan a _ c.book.ensures.is c.take_leg.result c.take_leg.ensures _ c.in_err-leg.was)

pub overflow_add-used : goal.overflow_add-used
overflow_add-used c =
    let plan = planned_in _ c.args.p.now.planned c.requires.reals_room in
    let all = front_used plan c.requires.some_ending.ends.ends in
    omega (arith, all.0, all.1, c.len.ensures.value)

pub returns-then-r-used : goal.returns-then-r-used
returns-then-r-used c =
    let plan = planned_in _ c.args.p.now.planned c.requires.reals_room in
    λ fs us net run rest a f. save_full plan a _ c.book.ensures.is c.take_leg.result c.take_leg.ensures _
    c.in_ok-leg.was (omega (arith, c.if-r-used.true, c.len.ensures.value))

pub overflow_add-front : goal.overflow_add-front
overflow_add-front c =
    let plan = planned_in _ c.args.p.now.planned c.requires.reals_room in
    let s = c.requires in omega (arith, front_depth plan s.some_ending.ends.ends)

pub save-requires : goal.save-requires
save-requires c =
    let plan = planned_in _ c.args.p.now.planned c.requires.reals_room in
    let s = c.requires in
    let a = s.some_ending.ends.ends in
    let l = save_leg plan a _ c.book.ensures.is c.take_leg.result c.take_leg.ensures _ c.in_ok-leg.was in
    record {
      places_in_bounds = omega (arith, a.grown.apart.nodes_inside, plan.same_nodes, plan.same_places);
      pairs_in_bounds = plan.pairs;
      leg_le_legs = l.1;
      leg_nonzero = l.0;
      legs_le_65535 = omega (arith, plan.all_legs, plan_legs plan);
      depth_le_65535 = front_depth plan a;
      entries_fit = omega (arith, c.if-r-used.false, c.len.ensures.value, ap length c.deref.ensures.0);
      places_le_65535 = omega (arith, plan.same_places, a.grown.room.most);
    }

pub returns : goal.returns
returns c =
    let plan = planned_in _ c.args.p.now.planned c.requires.reals_room in
    let v = c.save in
    let m = c.len.ensures.value in
    λ fs us net run rest a f. save-gives plan a _ c.book.ensures.is c.take_leg.result c.take_leg.ensures _
    c.in_ok-leg.was (omega (arith, c.if-r-used.false, m)) _ _
    (omega (arith, v.auto)) v.ensures.elsewhere _ c.deref.ensures.0 v.ensures.saved f _ (omega (arith, m))
