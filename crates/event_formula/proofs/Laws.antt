-- Laws of one event: the code's operations are the definition's.
use mathlib.Core.Path.{◌≡◌, refl, ap}
use mathlib.Core.Bool.{Bool, true, false, cond}
use lib.Ieee.{Float, nan, inf, fin}
use lib.Ieee.Scale.{finite}
use Rattle.std.specs.Float.{float_is_finite}
use Rattle.book_format.specs.declared.Sample.{Sample}
use Rattle.event_formula.specs.Event.{time_by_quotient, stands_at, time_at}

-- ---- a number that is no infinity

pub finite_is : (x : Float) → float_is_finite x ≡ finite x
unfolding float_is_finite
finite_is nan = refl
finite_is (inf s) = refl
finite_is (fin s m e) = refl

-- ---- the formula

-- a train that stands on the point has the sample's own time, and any other the quotient's
pub own_time : (s : Sample) (speed d : Float) → stands_at s speed d ≡ true → time_at s speed d ≡ s.time
unfolding time_at
own_time s speed d e = ap (λ (t : Bool). cond t s.time (time_by_quotient s speed d)) e

pub quotient_time : (s : Sample) (speed d : Float) → stands_at s speed d ≡ false → time_at s speed d ≡ time_by_quotient s speed d
unfolding time_at
quotient_time s speed d e = ap (λ (t : Bool). cond t s.time (time_by_quotient s speed d)) e
