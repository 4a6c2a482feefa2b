-- `listing::fill_decimal` calls itself for the digits before the last one: the number is the measure.
use Rattle.listing.proofs.+fill_decimal.Given as goal

abbrev pub decreases-fill_decimal : goal.decreases-fill_decimal
decreases-fill_decimal l = l.n
