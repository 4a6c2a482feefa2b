-- `event_walk::Position::next_event` meets its contract.
use mathlib.Core.Path.{◌≡◌, sym, ◌∙◌, subst}
use native.Mathlib.Omega.{arith}
use Rattle.event_walk.specs.Held.{course_held}
use Rattle.event_walk.specs.Walk.{passed_from, Within, NextOf}
use Rattle.event_walk.proofs.Turns.{heads}
use Rattle.event_walk.proofs.Steps.{unseen_is, unseen_later, next_unseen, next_none, next_from}
use Rattle.event_walk.proofs.Position.next_event.Goals as goal
use Rattle.event_walk.proofs.Position.next_event.Goals.{In_ok-i}

-- from where the first point is passed the walk is the same
skipped : (c : In_ok-i)
    → (passed_from (course_held c.args.self.course) c.args.self.heads ≡ passed_from (course_held c.args.self.course) (heads c.in_ok-i.i 1 c.args.self.heads.pt_idx_front)) × Within (course_held c.args.self.course) (heads c.in_ok-i.i 1 c.args.self.heads.pt_idx_front)
skipped c =
    let u = unseen_is (course_held c.args.self.course) c.args.self.heads (sym c.is_unseen.ensures ∙ c.if-not-is_unseen.false) in
    next_unseen c.args.self.course.walkable c.args.self.within c.offset_next.result c.offset_next.ensures c.in_ok-i.i c.in_ok-i.ensures u.0 u.1

pub returns-in_err-i : goal.returns-in_err-i
returns-in_err-i c = subst (NextOf _ c.args.self.heads) (sym c.from_residual.ensures) (next_none c.args.self.course.walkable c.args.self.within c.offset_next.result c.offset_next.ensures c.in_err-i.ensures)

pub invariant_of-later : goal.invariant_of-later
invariant_of-later c = record { within = (skipped c).1 }

pub seen_event-requires-2 : goal.seen_event-requires-2
seen_event-requires-2 c = record { emitted = unseen_later _ (heads c.in_ok-i.i 1 c.args.self.heads.pt_idx_front) (λ e. omega arith) }

pub returns : goal.returns
returns c = next_from _ c.args.self.heads (heads c.in_ok-i.i 1 c.args.self.heads.pt_idx_front) (skipped (goal.at.returns c).In_ok-i).0 c.seen_event-2.result c.seen_event-2.ensures
