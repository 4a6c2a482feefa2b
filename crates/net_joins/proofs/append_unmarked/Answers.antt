-- `net_joins::append_unmarked` meets its contract: `Appending` is the loop's invariant, and the nodes of a chain rise.
use mathlib.Core.Path.{◌≡◌, sym, ap, ◌∙◌}
use mathlib.Core.Bool.{Bool, not}
use mathlib.Core.Option.{some}
use Prim.Native.Nat.{◌+◌, ◌*◌}
use native.Mathlib.Omega.{arith}
use lib.Dec.{eqb}
use lib.ListN.{get_or}
use Rattle.arrayvec.specs.ArrayVec.{ArrayVec}
use Rattle.net_join_paths.specs.declared.EstJoinPath.{EstJoinPath}
use Rattle.net_join_paths.specs.Entries.{entry}
use Rattle.net_join_paths.proofs.Entries.{over_as}
use Rattle.net_joins.specs.Joins.{appended_if}
use Rattle.net_joins.proofs.Appending.{mark_none, mark_some, appending_whole, link_here, turns_less, appending_over}
use Rattle.net_joins.proofs.Appending.{appending_on}
use Rattle.net_joins.proofs.append_unmarked.Goals as goal
use Rattle.net_joins.proofs.append_unmarked.Goals.{After-next_node-i, then-not-marked+in_ok-push_entry, else-not-marked}

-- the node is put behind the list unless it is marked
got : (c : After-next_node-i) → appended_if
    (not (eqb (get_or c.args.cells.now (c.args.w.nodes_at + c.loop-i.i * 8 + 1) 0) 0)) c.args.link_idx c.loop-i.i
    c.loop-i.list.items ≡ some c.if-not-marked.list.items
unfolding entry
got c =
    let put = λ (b : Bool). appended_if b c.args.link_idx c.loop-i.i c.loop-i.list.items in
    let items = λ (l : ArrayVec EstJoinPath). some l.items in
    elim c.if-not-marked.branch [
      | then-not-marked+in_ok-push_entry w ↦ ap put (mark_none _ w.if-not-marked.true) ∙ w.in_ok-push_entry.ensures.list
          ∙ ap items (sym w.list-is)
      | else-not-marked w ↦ ap put (mark_some _ w.if-not-marked.false) ∙ ap items (sym w.list-is)
    ]

pub bounds-cells-w : goal.bounds-cells-w
bounds-cells-w c = let h = link_here c.loop-i.invariant c.loop-i-test.true in
    omega (arith, h.placed, c.requires.cells_apart.nodes_inside)

pub returns-in_err-push_entry-clause-list : goal.returns-in_err-push_entry-clause-list
unfolding entry
returns-in_err-push_entry-clause-list c =
    let p = c.in_err-push_entry.ensures.list in
    λ is x. over_as _ _ c.from_residual.ensures
    (appending_over c.loop-i.invariant c.loop-i-test.true c.requires.names_marked
    (ap (λ (b : Bool). appended_if b c.args.link_idx c.loop-i.i c.loop-i.list.items) (mark_none _ c.if-not-marked.true)
    ∙ p.0) is x) p.1

pub next_node-i-requires-clause-i_lt_places : goal.next_node-i-requires-clause-i_lt_places
next_node-i-requires-clause-i_lt_places c = (link_here c.loop-i.invariant c.loop-i-test.true).placed

pub loop-i-smaller : goal.loop-i-smaller
loop-i-smaller c = turns_less c.loop-i.invariant c.loop-i-test.true _ c.next_node-i.ensures

pub loop-i-preserved : goal.loop-i-preserved
loop-i-preserved c =
    appending_on c.loop-i.invariant c.loop-i-test.true c.requires.names_marked
    _ (got (goal.at.loop-i-preserved c).After-next_node-i) _ c.next_node-i.ensures

pub returns-clause-list : goal.returns-clause-list
returns-clause-list c = appending_whole c.loop-i.invariant c.loop-i-test.false
