-- `pass_queue::best_child` meets its contract.
use mathlib.Core.Path.{sym, ◌∙◌}
use Rattle.pass_queue.proofs.Compare.{child_only, child_right, child_left}
use Rattle.pass_queue.proofs.best_child.Goals as goal

pub returns-then-right-n : goal.returns-then-right-n
returns-then-right-n g c = child_only _ _ _ _ _ c.requires.has_child c.if-right-n.true

pub returns-then-is_before : goal.returns-then-is_before
returns-then-is_before g c =
    child_right _ _ _ _ _ c.requires.has_child c.if-right-n.false _ _ c.entry_at-x.ensures c.entry_at-y.ensures
    (sym c.is_before.ensures ∙ c.if-is_before.true)

pub returns : goal.returns
returns g c =
    child_left _ _ _ _ _ c.requires.has_child c.if-right-n.false _ _ c.entry_at-x.ensures c.entry_at-y.ensures
    (sym c.is_before.ensures ∙ c.if-is_before.false)
