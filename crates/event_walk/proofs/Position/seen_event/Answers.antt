-- `event_walk::Position::seen_event` meets its contract.
use mathlib.Core.Path.{sym, ◌∙◌}
use Rattle.event_walk.proofs.Steps.{seen_later, next_cleared, next_arrived}
use Rattle.event_walk.proofs.Position.seen_event.Goals as goal

pub returns-then-clears_next : goal.returns-then-clears_next
returns-then-clears_next c =
    let o = c.offset_next-offset_next in
    let q = sym c.clears_next.ensures ∙ c.if-clears_next.true in
    next_cleared c.args.self.course.walkable c.args.self.within o.result o.ensures c.in_ok-i.i c.in_ok-i.ensures c.passed_at-p.result q (seen_later _ c.args.self.heads c.requires.emitted q) c.passed_at-p.ensures

pub returns : goal.returns
returns c =
    let o = c.offset_next-offset_next in
    next_arrived c.args.self.course.walkable c.args.self.within o.result o.ensures c.in_ok-i.i c.in_ok-i.ensures c.passed_at-p-2.result (sym c.clears_next.ensures ∙ c.if-clears_next.false) c.passed_at-p-2.ensures
