-- `listing::Text::put_head` meets its contract.
use Rattle.listing.specs.Listing.{head}
use Rattle.listing.proofs.Texts.{then_put}
use Rattle.listing.proofs.Text.put_head.Goals as goal

pub returns : goal.returns
unfolding head
returns c =
    then_put
    c.put_field.ensures
    (then_put c.put_field-2.ensures (then_put c.put_field-3.ensures (then_put c.put_field-4.ensures (then_put c.put_field-5.ensures c.put_byte.ensures))))
