-- `net_strands::Rebuild::follow_alternatives` meets its contract: `Following` is the loop's invariant, and each
-- alternative is later.
use mathlib.Core.Path.{◌≡◌, sym, ap, ◌∙◌}
use mathlib.Core.Bool.{Bool, true}
use mathlib.Core.Option.{some}
use Rattle.arrayvec.specs.ArrayVec.{ArrayVec}
use Rattle.net_node.proofs.Events.{event_eq}
use Rattle.net_join_paths.specs.declared.EstJoinPath.{EstJoinPath}
use Rattle.net_join_paths.specs.Entries.{entry, pushed_if}
use Rattle.net_join_paths.proofs.Entries.{over_as}
use Rattle.net_strands.proofs.Alternatives.{following_over, following_last, following_on}
use Rattle.net_strands.proofs.Rebuild.follow_alternatives.Goals as goal
use Rattle.net_strands.proofs.Rebuild.follow_alternatives.Goals.{Joined-eq, then-eq+in_ok-push_entry, else-eq}

-- the next is put behind the list if it has the event
got : (c : Joined-eq) → pushed_if c.eq.result c.loop-x.list.items
    (entry c.args.link_idx_match c.load-node.result.idx_next) ≡ some c.if-eq.list.items
unfolding entry
got c =
    let pushed =
    λ (b : Bool). pushed_if b c.loop-x.list.items (entry c.args.link_idx_match c.load-node.result.idx_next) in
    let items = λ (l : ArrayVec EstJoinPath). some l.items in
    elim c.if-eq.branch [
      | then-eq+in_ok-push_entry w ↦ ap pushed w.if-eq.true ∙ w.in_ok-push_entry.ensures.list ∙ ap items (sym w.list-is)
      | else-eq w ↦ ap pushed w.if-eq.false ∙ ap items (sym w.list-is)
    ]

pub returns-in_err-push_entry : goal.returns-in_err-push_entry
unfolding entry
returns-in_err-push_entry c =
    let p = c.in_err-push_entry.ensures.list in
    over_as _ _ c.from_residual.ensures (following_over c.args.self.now.nodes.indexed c.loop-x.invariant
    _ c.load-node.ensures _ c.load-there.ensures true (sym c.if-eq.true ∙ c.eq.ensures ∙ event_eq _ _) p.0) p.1

pub returns-then-node-eq0 : goal.returns-then-node-eq0
returns-then-node-eq0 c =
    following_last c.args.self.now.nodes.indexed c.loop-x.invariant _ c.load-node.ensures _ c.load-there.ensures
    _ (c.eq.ensures ∙ event_eq _ _) _ (got (goal.at.returns-then-node-eq0 c).Joined-eq) c.if-node-eq0.true

pub loop-x-preserved : goal.loop-x-preserved
loop-x-preserved c =
    following_on c.args.self.now.nodes.indexed c.loop-x.invariant _ c.load-node.ensures _ c.load-there.ensures
    _ (c.eq.ensures ∙ event_eq _ _) _ (got (goal.at.loop-x-preserved c).Joined-eq) c.if-node-eq0.false
