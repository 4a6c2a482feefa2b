-- `listing::Text::put_lines` meets its contract: `Turned` is the loop's invariant.
use Rattle.net_node.specs.Table.{node_at}
use Rattle.listing.specs.Listing.{lines}
use Rattle.listing.proofs.Texts.{Turned}
use Rattle.listing.proofs.Text.put_lines.Given as goal

abbrev pub invariant-loop-i : goal.invariant-loop-i
invariant-loop-i l = Turned l.initial.self (lines (node_at l.floats l.numbers)) l.n l.self l.i
