-- `grow_ends::end_fakes` meets its contract: `Faking` is the loop's invariant.
use Prim.Native.Nat.{◌-◌}
use Rattle.net_insertion.specs.Insertion.{table_of}
use Rattle.grow_ends.proofs.Fakes.{Faking}
use Rattle.grow_ends.proofs.end_fakes.Given as goal

abbrev pub invariant-loop-i : goal.invariant-loop-i
invariant-loop-i l = Faking l.cells l.ends_at l.last_end l.n l.places (table_of l.initial.floats l.initial.numbers)
    (table_of l.floats l.numbers) l.i l.alt l.k

abbrev pub decreases-loop-i : goal.decreases-loop-i
decreases-loop-i l = l.places - l.k
