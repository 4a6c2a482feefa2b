-- `net_strands::Rebuild::follow_strands` meets its contract: `Popping` is what the outer loop keeps, and `Standing`
-- what the inner one does; beside them the entries that were pushed since each loop began, and what the cells say.
use mathlib.Core.Path.{◌≡◌}
use mathlib.Core.List.{List}
use Prim.Native.Nat.{ℕ, ◌+◌, ◌*◌, ◌≤◌}
use lib.ListN.{length}
use Rattle.net_node.specs.Held.{nodes_held}
use Rattle.net_notes.specs.Log.{Touched}
use Rattle.net_join_paths.proofs.Spans.{Pushed}
use Rattle.net_strands.specs.Given.{Given}
use Rattle.net_strands.proofs.Walking.{Popping, Standing}
use Rattle.net_strands.proofs.Rebuild.follow_strands.Given as goal

abbrev pub invariant-loop-left : goal.invariant-loop-left
invariant-loop-left l =
    (l.left * 4 + length l.stack.items ≤ l.initial.left * 4 + length l.initial.stack.items)
    × Standing (nodes_held l.self.nodes) l.self.nodes.count l.self.event l.start l.fn.list.items l.stack.items
    l.list.items l.left l.here × Pushed l.link_idx_match l.initial.list.items l.list.items

abbrev pub decreases-loop-left : goal.decreases-loop-left
decreases-loop-left l = l.left

abbrev pub invariant-strands : goal.invariant-strands
invariant-strands l =
    (length l.cells ≡ length l.initial.cells)
    × Popping (nodes_held l.self.nodes) l.self.nodes.count l.self.event l.start l.fn.list.items l.stack.items
    l.list.items l.left × Pushed l.link_idx_match l.fn.list.items l.list.items
    × Given l.cells l.self.layout (nodes_held l.self.nodes) l.self.nodes.count l.self.event l.list.items
    × ((z : List ℕ) → Touched l.self.layout z l.initial.cells → Touched l.self.layout z l.cells)

abbrev pub decreases-strands : goal.decreases-strands
decreases-strands l = l.left * 4 + length l.stack.items
