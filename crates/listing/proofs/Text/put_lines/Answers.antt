-- `listing::Text::put_lines` meets its contract: `Turned` is the loop's invariant.
use Rattle.listing.proofs.Texts.{turned_none, turned_more, turned_all, no_lines, line_one}
use Rattle.listing.proofs.Text.put_lines.Goals as goal

pub loop-i-init : goal.loop-i-init
loop-i-init c = turned_none _ _ _ (no_lines _)

pub loop-i-preserved : goal.loop-i-preserved
loop-i-preserved c = turned_more c.loop-i.invariant c.loop-i-test.true c.put_line.ensures (line_one _ _ c.load.ensures)

pub returns : goal.returns
returns c = turned_all c.loop-i.invariant c.loop-i-test.false
