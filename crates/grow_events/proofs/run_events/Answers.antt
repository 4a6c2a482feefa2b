-- `grow_events::run_events` meets its contract: `Going` is the loop's invariant.
use mathlib.Core.Path.{refl, sym, ap, ◌∙◌}
use native.Mathlib.Omega.{arith}
use Rattle.grow_events.specs.Held.{stopped_as}
use Rattle.grow_events.proofs.Leg.{going_start, going_end, next-moving, next_inside, next-real, going-bad, going-stop}
use Rattle.grow_events.proofs.Leg.{going_on, went_on, not_ended, not_refused}
use Rattle.grow_events.proofs.run_events.Goals as goal

pub loop-p-init : goal.loop-p-init
loop-p-init c = (
  record { floats = refl; numbers = refl; cells_long = refl },
  going_start _ _ _ _ _ _ _ _ _ _ _ _ c.passed_points-events.ensures c.args.course.now.walkable,
)

-- it is bad
pub returns-then-is_bad-clause-outcome : goal.returns-then-is_bad-clause-outcome
returns-then-is_bad-clause-outcome c = λ start path leg net run n r a.
    going-bad _ _ _ _ _ _ _ _ _ _ _ c.loop-p.invariant.1 _ _ c.in-Some.ensures.steps (sym c.if-is_bad.ensures) _

pub event_at-e-requires : goal.event_at-e-requires
event_at-e-requires c = next_inside _ _ _ _ _ _ _ _ _ _ _ c.loop-p.invariant.1 _ _ c.in-Some.ensures.steps
    c.requires.some_path c.requires.moving

pub run_event-became-requires-clause-moving : goal.run_event-became-requires-clause-moving
run_event-became-requires-clause-moving c = next-moving _ _ _ _ _ _ _ _ _ _ _ c.loop-p.invariant.1 _ _
    c.in-Some.ensures.steps c.requires.some_path c.requires.moving

pub run_event-became-requires-clause-real : goal.run_event-became-requires-clause-real
run_event-became-requires-clause-real c =
    next-real _ _ _ _ _ _ _ _ _ _ _ c.loop-p.invariant.1 _ _ c.in-Some.ensures.steps c.requires.some_path
    c.requires.moving c.event_at-e.result c.event_at-e.ensures

pub returns-in_default-outcome-clause-outcome : goal.returns-in_default-outcome-clause-outcome
returns-in_default-outcome-clause-outcome c =
    let x = c.event_at-e in
    let r = c.run_event-became in
    going-stop _ _ _ _ _ _ _ _ _ _ _ c.loop-p.invariant.1 _ _ c.in-Some.ensures.steps x.result x.ensures _ _ _ _
    r.result r.ensures.outcome r.ensures.more (sym c.if-is_bad.ensures)
    (not_ended _ _ _ c.in-Ok.is c.in_default-outcome.is) c.stopped-in_default-outcome.result
    (c.stopped-in_default-outcome.ensures ∙ ap (stopped_as _) (sym c.in-Ok.is))

pub returns-in_default-became-clause-outcome : goal.returns-in_default-became-clause-outcome
returns-in_default-became-clause-outcome c =
    let x = c.event_at-e in
    let r = c.run_event-became in
    going-stop _ _ _ _ _ _ _ _ _ _ _ c.loop-p.invariant.1 _ _ c.in-Some.ensures.steps x.result x.ensures _ _ _ _
    r.result r.ensures.outcome r.ensures.more (sym c.if-is_bad.ensures)
    (not_refused _ _ c.in_default-became.is) c.stopped.result c.stopped.ensures

pub loop-p-preserved : goal.loop-p-preserved
loop-p-preserved c =
    let l = c.loop-p.invariant.0 in
    let x = c.event_at-e in
    let r = c.run_event-became in
    let k = r.auto in (
      record {
        floats = omega (arith, k, l.floats);
        numbers = omega (arith, k, l.numbers);
        cells_long = omega (arith, k, l.cells_long);
      },
      going_on _ _ _ _ _ _ _ _ _ _ _ c.loop-p.invariant.1 _ _ c.in-Some.ensures.steps x.result x.ensures _ _ _ _
          r.result r.ensures.outcome r.ensures.more (sym c.if-is_bad.ensures) _ _
          (went_on _ _ _ _ c.in-Ok.is c.in-On.is),
    )

pub returns-clause-outcome : goal.returns-clause-outcome
returns-clause-outcome c = going_end _ _ _ _ _ _ _ _ _ _ _ c.loop-p.invariant.1 c.in_default.ensures.steps.0
