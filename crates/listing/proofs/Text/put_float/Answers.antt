-- `listing::Text::put_float` meets its contract.
use Rattle.listing.proofs.Texts.{then_put, put_as}
use Rattle.listing.proofs.Numbers.{float_digits}
use Rattle.listing.proofs.Text.put_float.Goals as goal

pub returns : goal.returns
returns c =
    then_put c.put_byte.ensures (put_as c.put_hex.ensures (float_digits _ c.bits_of-bits.ensures c.min-zeros.ensures))
