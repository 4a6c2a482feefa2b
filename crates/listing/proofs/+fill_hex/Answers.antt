-- `listing::fill_hex` meets its contract.
use Rattle.listing.proofs.Numbers.{none_filled, one_filled}
use Rattle.listing.proofs.+fill_hex.Goals as goal

pub returns-in_default : goal.returns-in_default
returns-in_default t c = none_filled _ _ c.in_default.ensures.cases

pub returns : goal.returns
returns t c = one_filled _ _ _ c.in-Some.ensures.cases.1 c.fill_hex.ensures c.glyph.ensures
