-- `listing::list_sheet` meets its contract.
use mathlib.Core.Path.{refl}
use native.Mathlib.Omega.{arith}
use Rattle.std.proofs.Common.{rules}
use Rattle.net_node.specs.Table.{at}
use Rattle.listing.specs.Listing.{sheet_text}
use Rattle.listing.proofs.Texts.{then_put, text_listed, listed_in, unfilled_listed, filled_listed}
use Rattle.listing.proofs.list_sheet.Goals as goal

pub returns-then-filled-n : goal.returns-then-filled-n
returns-then-filled-n c = unfilled_listed _ _ c.nodes_filled-filled.ensures c.if-filled-n.true c.clear.ensures

pub put_lines-requires : goal.put_lines-requires
put_lines-requires c = omega (arith, c.nodes_filled-filled.ensures, c.if-filled-n.false)

pub returns : goal.returns
unfolding sheet_text at
returns c =
    let text = then_put c.put_head.ensures c.put_lines.ensures in
    let same_slice = text.same_slice in
    filled_listed _ _ c.nodes_filled-filled.ensures c.if-filled-n.false
    (listed_in (text_listed refl text c.finish.ensures) (search rules))
