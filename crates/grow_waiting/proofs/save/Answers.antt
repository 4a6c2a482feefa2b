-- `grow_waiting::save` meets its contract.
use mathlib.Core.Path.{refl}
use lib.ListN.{length}
use Rattle.grow_waiting.proofs.Runs.{Saving, save_elsewhere, save_saved}
use Rattle.grow_waiting.proofs.save.Goals as goal
use Rattle.grow_waiting.proofs.save.Goals.{After-push_entries}

saving : (c : After-push_entries) → Saving c.args.cells.now c.args.reals.now c.args.w c.args.top c.args.used
    c.args.place c.args.leg c.args.depth c.args.joins.now (length c.args.joins.now)
saving c = record {
  counted = refl;
  nodes_inside = c.requires.places_in_bounds;
  pairs_inside = c.requires.pairs_in_bounds;
  inside = c.requires.leg_le_legs;
  real = c.requires.leg_nonzero;
  entries_inside = c.requires.entries_fit;
}

pub returns-clause-elsewhere : goal.returns-clause-elsewhere
returns-clause-elsewhere c = save_elsewhere (saving (goal.at.returns-clause-elsewhere c).After-push_entries)
    c.push_entries.ensures

pub returns-clause-saved : goal.returns-clause-saved
returns-clause-saved c = save_saved (saving (goal.at.returns-clause-saved c).After-push_entries) c.push_entries.ensures
