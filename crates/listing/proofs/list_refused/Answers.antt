-- `listing::list_refused` meets its contract.
use mathlib.Core.Path.{refl}
use Rattle.std.proofs.Common.{rules}
use Rattle.listing.specs.Listing.{refused_text}
use Rattle.listing.proofs.Texts.{then_put, text_listed, listed_in}
use Rattle.listing.proofs.list_refused.Goals as goal

pub returns : goal.returns
unfolding refused_text
returns c =
    let text = then_put c.put_field.ensures c.put_byte.ensures in
    let same_slice = text.same_slice in
    listed_in (text_listed refl text c.finish.ensures) (search rules)
