-- `grow_origins::origins` meets its contract: `OriginLoop` is the loop's invariant.
use mathlib.Core.List.{[]}
use Rattle.grow_origins.proofs.OriginLoop.{OriginLoop}
use Rattle.grow_origins.proofs.origins.Given as goal

abbrev pub invariant-loop-k : goal.invariant-loop-k
invariant-loop-k l =
    OriginLoop l.p.planned.book.now l.p.planned.plan [] l.initial.floats l.initial.numbers l.initial.reals
    l.initial.cells l.initial.rest l.floats l.numbers l.reals l.cells l.rest l.last l.k
