-- `listing::Text::put_field` meets its contract.
use Rattle.listing.proofs.Texts.{then_put}
use Rattle.listing.proofs.Text.put_field.Goals as goal

pub returns : goal.returns
returns c = then_put c.put_bytes.ensures c.put_decimal.ensures
