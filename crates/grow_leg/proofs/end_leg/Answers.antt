-- `grow_leg::end_leg` meets its contract.
use mathlib.Core.Path.{ap}
use native.Mathlib.Omega.{arith}
use Rattle.book_format.specs.Format.{legs}
use Rattle.grow_state.proofs.Keeping.{planned_in}
use Rattle.grow_leg.proofs.GoingOn.{front_leg, front_some}
use Rattle.grow_leg.proofs.Ending.{end_link, end_finishes, end_goes}
use Rattle.grow_leg.proofs.end_leg.Goals as goal

pub leg_at-leg-requires : goal.leg_at-leg-requires
leg_at-leg-requires c =
    let plan = planned_in _ c.args.p.now.planned c.requires.reals_room in
    let s = c.requires in
    record {
      i_lt_legs = omega (
        arith,
        ap legs c.book-rows.ensures.is,
        front_leg plan s.some_way.ends,
        front_some plan s.some_way.ends,
      );
    }

pub finish_run-requires : goal.finish_run-requires
finish_run-requires c =
    let plan = planned_in _ c.args.p.now.planned c.requires.reals_room in
    let s = c.requires in let y = s.some_way in record {
      b = _;
      reals = _;
      joins = _;
      plan = plan;
      ends = record { net = _; run = _; rest = _; ends = y.ends };
    }

pub returns-then-here-leg : goal.returns-then-here-leg
returns-then-here-leg c =
    let plan = planned_in _ c.args.p.now.planned c.requires.reals_room in
    λ net run rest a f. end_finishes a c.book-rows.ensures.is c.leg_at-leg.result c.leg_at-leg.ensures
    c.is_destination-here.result c.is_destination-here.ensures _ _ c.finish_run.result c.if-here-leg.true
    (c.finish_run.ensures _ _ _ net run rest plan a)

pub go_on-requires : goal.go_on-requires
go_on-requires c = let s = c.requires in let y = s.some_way in
    record {
      reals_room = c.requires.reals_room;
      some_going = record { fs = _; us = _; way = y };
      leg_link = end_link y.ends c.book-rows.ensures.is c.leg_at-leg.result c.leg_at-leg.ensures;
    }

pub returns : goal.returns
returns c = λ net run rest a f. end_goes a c.book-rows.ensures.is c.leg_at-leg.result c.leg_at-leg.ensures
    c.is_destination-here.result c.is_destination-here.ensures _ _ c.go_on.result c.if-here-leg.false
    (c.go_on.ensures _ _ net run rest a f)
