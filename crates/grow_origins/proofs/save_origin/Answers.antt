-- `grow_origins::save_origin` meets its contract: proofs/Saving.antt.
use mathlib.Core.Path.{refl}
use native.Mathlib.Omega.{arith}
use Rattle.grow_state.proofs.Keeping.{planned_in}
use Rattle.grow_origins.proofs.Saving.{origin_no_leg, save_asks, origin_saved}
use Rattle.grow_origins.proofs.OriginLoop.{origins_refused}
use Rattle.grow_origins.proofs.save_origin.Goals as goal

pub returns-in_err-leg : goal.returns-in_err-leg
returns-in_err-leg c =
    let plan = planned_in _ c.args.p.now.planned.planned c.requires.reals_room in
    λ fs us idxs net run runs v.
    origins_refused _ _ _ _ _ c.from_residual.result _ c.from_residual.ensures.1
    (origin_no_leg _ _ _ _ _ _ _ _ _ _ _ _ _ _ plan v _ c.book.ensures.is c.take_start.ensures _ c.in_err-leg.was)

pub save-requires-clause-leg_le_legs : goal.save-requires-clause-leg_le_legs
save-requires-clause-leg_le_legs c =
    let plan = planned_in _ c.args.p.now.planned.planned c.requires.reals_room in
    (save_asks _ _ _ _ _ _ _ _ _ _ _ _ _ _ plan c.requires.some_origin_inserted.inserted_origin _
    c.book.ensures.is c.take_start.ensures _ c.in_ok-leg.was refl).leg_le_legs

pub save-requires-clause-leg_nonzero : goal.save-requires-clause-leg_nonzero
save-requires-clause-leg_nonzero c =
    let plan = planned_in _ c.args.p.now.planned.planned c.requires.reals_room in
    (save_asks _ _ _ _ _ _ _ _ _ _ _ _ _ _ plan c.requires.some_origin_inserted.inserted_origin _
    c.book.ensures.is c.take_start.ensures _ c.in_ok-leg.was refl).leg_nonzero

pub save-requires-clause-legs_le_65535 : goal.save-requires-clause-legs_le_65535
save-requires-clause-legs_le_65535 c =
    let plan = planned_in _ c.args.p.now.planned.planned c.requires.reals_room in
    (save_asks _ _ _ _ _ _ _ _ _ _ _ _ _ _ plan c.requires.some_origin_inserted.inserted_origin _
    c.book.ensures.is c.take_start.ensures _ c.in_ok-leg.was refl).legs_le_65535

pub save-requires-clause-entries_fit : goal.save-requires-clause-entries_fit
save-requires-clause-entries_fit c =
    let plan = planned_in _ c.args.p.now.planned.planned c.requires.reals_room in
    (save_asks _ _ _ _ _ _ _ _ _ _ _ _ _ _ plan c.requires.some_origin_inserted.inserted_origin _
    c.book.ensures.is c.take_start.ensures _ c.in_ok-leg.was refl).entries_fit

pub returns : goal.returns
returns c =
    let plan = planned_in _ c.args.p.now.planned.planned c.requires.reals_room in
    let s = c.save in
    λ fs us idxs net run runs v. origin_saved _ _ _ _ _ _ _ _ _ _ _ _ _ _ plan v _
    c.book.ensures.is c.take_start.ensures _ c.in_ok-leg.was refl _ _ (omega (arith, s.auto))
    s.ensures.elsewhere s.ensures.saved
