-- `grow_book::drive` meets its contract: `Turning` is the loop's invariant.
use Rattle.grow_book.proofs.Driving.{Turning}
use Rattle.grow_book.proofs.drive.Given as goal

abbrev pub invariant-loop : goal.invariant-loop
invariant-loop l =
    Turning l.p.book.now l.p.plan l.initial.floats l.initial.numbers l.initial.reals l.initial.cells
    l.initial.joins.items l.fn.g l.floats l.numbers l.reals l.cells l.joins.items l.state l.counter
