-- `grow_events::run_events` meets its contract: `Going` is the loop's invariant.
use Rattle.grow_events.proofs.Leg.{Long, Going}
use Rattle.grow_events.proofs.run_events.Given as goal

abbrev pub invariant-loop-p : goal.invariant-loop-p
invariant-loop-p l =
    Long l.initial.floats l.initial.numbers l.initial.cells l.floats l.numbers l.cells
    × Going l.course.samples.now l.course.offsets.now l.course.movement l.w l.join l.initial.floats l.initial.numbers
    l.initial.cells l.initial.joins.items l.initial.counts l.initial.mover l.floats l.numbers l.cells l.joins.items
    l.events l.counts l.mover
