-- `listing::fill_hex` calls itself for the digits before the last one: the place's length is the measure.
use lib.ListN.{length}
use Rattle.listing.proofs.+fill_hex.Given as goal

abbrev pub decreases-fill_hex : goal.decreases-fill_hex
decreases-fill_hex l = length l.place.now
