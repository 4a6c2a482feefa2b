-- `event_maker::list_events` meets its contract.
use mathlib.Core.Path.{sym, ◌∙◌}
use native.Mathlib.Omega.{arith}
use Rattle.event_walk.specs.Course.{course_of}
use Rattle.event_maker.proofs.Walks.{listing_start, listing_room, end_answer, end_floats, end_numbers, bad_answer, point_before, count_most, listing_on}
use Rattle.event_maker.proofs.list_events.Goals as goal

pub loop-p-init : goal.loop-p-init
loop-p-init c = listing_start _ _ _ _ _ _ c.requires.floats_zero c.requires.numbers_zero (c.into_iter-p-iterator.ensures.into_iter_gives ∙ c.passed_points-p-items.ensures) c.list_places-places.ensures

pub returns-then-is_bad : goal.returns-then-is_bad
returns-then-is_bad c = record {
  answer = bad_answer c.loop-p.invariant c.in-Some.p _ c.in-Some.ensures.steps (sym c.if-is_bad.ensures);
  floats = tt;
  numbers = tt;
}

pub offset_bounds-links-p : goal.offset_bounds-links-p
unfolding course_of
offset_bounds-links-p c = omega (arith, point_before c.loop-p.invariant c.in-Some.p _ c.in-Some.ensures.steps c.args.course.now.walkable, c.requires.links_room)

pub bounds-links-p : goal.bounds-links-p
unfolding course_of
bounds-links-p c = omega (arith, point_before c.loop-p.invariant c.in-Some.p _ c.in-Some.ensures.steps c.args.course.now.walkable, c.requires.links_room)

pub list_event-requires : goal.list_event-requires
list_event-requires c =
    let r = listing_room c.loop-p.invariant in
    record {
      floats_room = r.0;
      numbers_room = r.1;
    }

pub overflow_add-count : goal.overflow_add-count
unfolding course_of
overflow_add-count c =
    let l = count_most c.loop-p.invariant c.in-Some.p _ c.in-Some.ensures.steps in
    let h = c.args.course.now.held in
    omega (arith, h.bytes, h.points)

pub loop-p-preserved : goal.loop-p-preserved
loop-p-preserved c =
    listing_on c.loop-p.invariant c.in-Some.p _ c.in-Some.ensures.steps (sym c.if-is_bad.ensures) _ _ c.list_event.auto.floats c.list_event.auto.numbers c.list_event.ensures.floats c.list_event.ensures.numbers

pub returns : goal.returns
returns c = record {
  answer = end_answer c.loop-p.invariant c.in-None.ensures.steps.0 _ c.listed.ensures;
  floats = end_floats c.loop-p.invariant c.in-None.ensures.steps.0 _ c.listed.ensures;
  numbers = end_numbers c.loop-p.invariant c.in-None.ensures.steps.0 _ c.listed.ensures;
}
