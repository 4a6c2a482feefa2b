-- `event_maker::list_events` meets its contract: `Listing` is the loop's invariant.
use lib.ListN.{length}
use Rattle.event_walk.specs.Held.{course_held}
use Rattle.event_maker.proofs.Walks.{Listing}
use Rattle.event_maker.proofs.list_events.Given as goal

abbrev pub invariant-loop-p : goal.invariant-loop-p
invariant-loop-p l = Listing (course_held l.course) l.links (length l.initial.floats) (length l.initial.numbers) l.places l.floats l.numbers l.p-iterator l.count
