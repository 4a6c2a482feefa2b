-- `listing::fill_decimal` meets its contract.
use Prim.Native.Nat.{◌≤◌}
use native.Mathlib.Omega.{arith}
use lib.ListN.{length}
use Rattle.listing.proofs.Numbers.{last_filled, more_filled, more_fit}
use Rattle.listing.proofs.+fill_decimal.Goals as goal

pub returns-in_default : goal.returns-in_default
returns-in_default t c = absurd (omega (arith, c.in_default.ensures.cases))

pub returns-then-n-lt10-clause-digits : goal.returns-then-n-lt10-clause-digits
returns-then-n-lt10-clause-digits t c = last_filled _ c.in-Some.before.now c.if-n-lt10.true

pub fill_decimal-requires : goal.fill_decimal-requires
fill_decimal-requires t c =
    (omega arith, more_fit _ _ _ c.in-Some.ensures.cases.1 c.requires.fits c.if-n-lt10.false)

pub returns-clause-digits : goal.returns-clause-digits
returns-clause-digits t c =
    let within : c.fill_decimal.result ≤ length c.fill_decimal.new.place = omega arith in
    more_filled _ _ _ c.if-n-lt10.false c.ranges.n.fits within c.fill_decimal.ensures.digits
