-- `net_joins::add_new_join_paths` meets its contract: the nodes that the list names are marked, the others appended,
-- the marks taken back.
use mathlib.Core.Path.{◌≡◌, sym, ap, ◌∙◌}
use mathlib.Core.List.{List}
use Prim.Native.Nat.{ℕ}
use borrow.Author.Tests.{not-false}
use lib.ListN.{length, take}
use Rattle.net_event_map.specs.EventMap.{event_nodes, arrive_at}
use Rattle.net_join_paths.specs.declared.EstJoinPath.{EstJoinPath}
use Rattle.net_stack.proofs.Arrives.{arrive_eq}
use Rattle.net_joins.specs.Marks.{marks}
use Rattle.net_joins.proofs.Answers.{while_chain, while_marked, while_ending, marks_gone, append_listed}
use Rattle.net_joins.proofs.add_new_join_paths.Goals as goal
use Rattle.net_joins.proofs.add_new_join_paths.Goals.{After-set_marks}

-- the nodes that the list names are marked
marked : (c : After-set_marks) → c.set_marks.new.cells
    ≡ marks c.args.w.nodes_at 1 c.args.list.now.items c.args.cells.now
marked c =
    c.set_marks.ensures ∙ ap (λ (es : List EstJoinPath). marks c.args.w.nodes_at 1 es c.args.cells.now)
    c.deref.ensures.0

pub append_unmarked-appended-requires-clause-ending : goal.append_unmarked-appended-requires-clause-ending
append_unmarked-appended-requires-clause-ending c =
    let r =
    c.requires in while_ending r.cells_apart r.valid
    _ (marked (goal.at.append_unmarked-appended-requires-clause-ending c).After-set_marks) r.map_walkable _ r.real.1

pub append_unmarked-appended-requires-clause-names_marked : goal.append_unmarked-appended-requires-clause-names_marked
append_unmarked-appended-requires-clause-names_marked c =
    let r =
    c.requires in while_marked r.cells_apart r.valid
    _ (marked (goal.at.append_unmarked-appended-requires-clause-names_marked c).After-set_marks) r.map_walkable

pub returns-clause-list : goal.returns-clause-list
returns-clause-list c =
    let r = c.requires in
    let a = c.args in
    let u = c.append_unmarked-appended in
    λ node n h x. append_listed node n a.event a.list.now.items u.new.list.items u.result
    (sym (arrive_eq _) ∙ not-false _ (sym c.if-ne.ensures))
    (u.ensures.list (event_nodes node (arrive_at a.event.link_idx) n)
    (while_chain r.cells_apart r.valid _ (marked (goal.at.returns-clause-list c).After-set_marks) node n _ h x
    r.real.1))

pub returns-clause-cells : goal.returns-clause-cells
returns-clause-cells c =
    let r = c.requires in
    let fs = c.deref-2.result.now in
    let f = ap (λ (k : ℕ). take k fs) c.len-count.ensures.value
    ∙ ap (take (length c.args.list.now.items)) c.deref-2.ensures.0 ∙ c.append_unmarked-appended.ensures.kept in
    λ node n x. marks_gone r.cells_apart r.valid _ (marked (goal.at.returns-clause-cells c).After-set_marks) node n
    _ _ x f c.set_marks-2.ensures
