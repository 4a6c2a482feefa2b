-- `net_notes::note` meets its contract: a node is named and noted, if the log isn't full.
use mathlib.Core.Bool.{false}
use Rattle.net_notes.proofs.Log.{noted, named, not_full, count_is, full_is, notes_one}
use Rattle.net_notes.proofs.note.Goals as goal

pub returns : goal.returns
unfolding noted named
returns c =
    notes_one _ _ _ _ _ _ _ c.requires.cells_apart c.requires.i_lt_places (count_is c.args.w c.args.cells.now)
    (not_full _ _ c.if-count-w.false).1 (full_is c.args.w c.args.cells.now false c.if-count-w.false)
