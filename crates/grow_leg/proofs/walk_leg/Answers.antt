-- `grow_leg::walk_leg` meets its contract: each answer is a law of proofs/Walking.antt.
use mathlib.Core.Path.{ap, ◌∙◌}
use mathlib.Core.List.{List}
use Prim.Native.Nat.{ℕ, ◌+◌, ◌-◌}
use native.Mathlib.Omega.{arith}
use Rattle.book_format.specs.Format.{legs, leg_at, samples_at_of}
use Rattle.event_walk.specs.Course.{course_of}
use Rattle.grow_path.specs.Kept.{movement_on}
use Rattle.grow_state.proofs.Keeping.{plan_legs, planned_in}
use Rattle.grow_leg.proofs.Walking.{Looks, some_front, some_leg, leg_inside, depth_inside, link_inside, samples_inside}
use Rattle.grow_leg.proofs.Walking.{section_inside, walk_held, walk_sound, walk_refused, walk_walkable, walk_path}
use Rattle.grow_leg.proofs.Walking.{walk_moving, walk_goes}
use Rattle.grow_leg.proofs.walk_leg.Goals as goal
use Rattle.grow_leg.proofs.walk_leg.Goals.{After-movement_of-movement}

-- what was read of the leg
abbrev looks : (c : After-movement_of-movement)
    → Looks c.args.p.now.book.now c.args.p.now.plan c.args.reals.now c.args.cells.now c.args.front
    c.extend_path.new.reals c.extend_path.new.cells c.movement_of-movement.result
looks c =
    let e = c.book-rows.ensures.is in
    record {
      leg = c.leg_at-leg.result;
      is = c.leg_at-leg.ensures ∙ ap (λ (b : List ℕ). leg_at b (c.args.front.leg - 1)) e;
      taken = c.leg_samples-taken.result;
      samples = c.leg_samples-taken.ensures;
      reals_then = c.extend_path.ensures.reals;
      cells_then = c.extend_path.ensures.cells;
      bytes = c.bytes-samples.result.now;
      same = c.bytes-samples.ensures.is ∙ e;
      moves = c.movement_of-movement.ensures ∙ ap (λ (b : List ℕ). movement_on b c.leg_samples-taken.result
          (c.args.front.depth + 1) c.args.p.now.plan.length) e;
    }

pub overflow_sub-front : goal.overflow_sub-front
overflow_sub-front c =
    let plan = planned_in _ c.args.p.now.planned c.requires.reals_room in
    let s = c.requires in omega (arith, some_leg plan (some_front s.driving).holds)

pub leg_at-leg-requires : goal.leg_at-leg-requires
leg_at-leg-requires c =
    let plan = planned_in _ c.args.p.now.planned c.requires.reals_room in
    let s = c.requires in
    let d = (some_front s.driving).holds in
    record { i_lt_legs = omega (arith, ap legs c.book-rows.ensures.is, some_leg plan d, leg_inside plan d) }

pub leg_samples-taken-requires : goal.leg_samples-taken-requires
leg_samples-taken-requires c =
    let plan = planned_in _ c.args.p.now.planned c.requires.reals_room in
    let s = c.requires in
    let d = (some_front s.driving).holds in
    record { number_nonzero = some_leg plan d; number_cells_inside = omega (arith, leg_inside plan d, d.chained.room) }

pub extend_path-requires : goal.extend_path-requires
extend_path-requires c =
    let plan = planned_in _ c.args.p.now.planned c.requires.reals_room in
    let s = c.requires in
    let d = (some_front s.driving).holds in
    let n = depth_inside plan d in
    record {
      point_in_bounds = omega (arith, n, plan.pairs, plan.pairs_at);
      cell_in_bounds = omega (arith, n, d.chained.room);
      link_idx_lt_links = link_inside plan d c.leg_at-leg.result
          (c.leg_at-leg.ensures ∙ ap (λ (b : List ℕ). leg_at b (c.args.front.leg - 1)) c.book-rows.ensures.is);
    }

pub overflow_add-front : goal.overflow_add-front
overflow_add-front c =
    let plan = planned_in _ c.args.p.now.planned c.requires.reals_room in
    let s = c.requires in omega (arith, depth_inside plan (some_front s.driving).holds, plan_legs plan)

pub movement_of-movement-requires : goal.movement_of-movement-requires
movement_of-movement-requires c =
    let plan = planned_in _ c.args.p.now.planned c.requires.reals_room in
    let s = c.requires in
    let d = (some_front s.driving).holds in
    let i = samples_inside plan d c.leg_samples-taken.result c.leg_samples-taken.ensures in
    record {
      first_le_end = i.0;
      end_le_1000000 = i.1;
      samples_at_le_4000000 = omega (arith, ap samples_at_of c.book-rows.ensures.is, section_inside plan d);
      depth_le_65535 = omega (arith, depth_inside plan d, plan_legs plan);
    }

pub reaches_last-requires : goal.reaches_last-requires
unfolding course_of
reaches_last-requires c =
    let plan = planned_in _ c.args.p.now.planned c.requires.reals_room in
    let s = c.requires in
    let d = (some_front s.driving).holds in
    let k = looks (goal.at.reaches_last-requires c).After-movement_of-movement in
    let w = walk_sound plan d k in
    record {
      held = walk_held plan d k;
      points_nonzero = w.some_points;
      samples_nonzero = w.some;
      rises = w.samples_rise;
    }

pub returns-then-reaches_last : goal.returns-then-reaches_last
returns-then-reaches_last c =
    let plan = planned_in _ c.args.p.now.planned c.requires.reals_room in
    let k = looks (goal.at.returns-then-reaches_last c).After-movement_of-movement in
    record {
      walked = λ path net run saved d. walk_refused plan d k c.reaches_last.result c.reaches_last.ensures
          c.if-reaches_last.true _ _ _;
      more = tt;
    }

pub invariant_of-course : goal.invariant_of-course
invariant_of-course c =
    let plan = planned_in _ c.args.p.now.planned c.requires.reals_room in
    let s = c.requires in
    let d = (some_front s.driving).holds in
    let k = looks (goal.at.invariant_of-course c).After-movement_of-movement in
    record {
      held = walk_held plan d k;
      walkable = walk_walkable plan d k c.reaches_last.result c.reaches_last.ensures
          c.if-reaches_last.false;
    }

pub run_events-requires : goal.run_events-requires
run_events-requires c =
    let plan = planned_in _ c.args.p.now.planned c.requires.reals_room in
    let s = c.requires in
    let d = (some_front s.driving).holds in
    let k = looks (goal.at.run_events-requires c).After-movement_of-movement in
    record {
      some_path = walk_path plan d k c.reaches_last.result c.reaches_last.ensures c.if-reaches_last.false;
      moving = walk_moving plan d k c.reaches_last.result c.reaches_last.ensures c.if-reaches_last.false;
    }

pub returns : goal.returns
returns c =
    let plan = planned_in _ c.args.p.now.planned c.requires.reals_room in
    let k = looks (goal.at.returns c).After-movement_of-movement in
    let v = c.run_events in
    record {
      walked = λ path net run saved d.
          walk_goes plan d k c.reaches_last.result c.reaches_last.ensures c.if-reaches_last.false v.new.floats
          v.new.numbers v.new.cells v.new.joins.items v.result v.ensures.outcome;
      more = v.ensures.more;
    }
