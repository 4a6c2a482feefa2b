-- No refusal has the number 0, which is told where nothing is refused.
use Rattle.std.proofs.Common.{◌≡◌, arith}
use Rattle.refusals.specs.declared.Refusal.{Refusal}
use Rattle.refusals.specs.declared.Refusal.TheVariants.{CutOff, LeftOver, OutOfBounds, BadValue, BadIndex, BadOrigin}
use Rattle.refusals.specs.declared.Refusal.TheVariants.{BadLeg, NoPath, NoWayOn, MissingLeg, BadEvent, NoPlace, BadEnd}
use Rattle.refusals.specs.declared.Refusal.TheVariants.{BadLinks, NotTimed, AllZero}
use Rattle.refusals.specs.Refusals.{refusal_number}

pub refusal_some : (r : Refusal) → refusal_number r ≡ 0 → ⊥
refusal_some CutOff e = omega arith
refusal_some LeftOver e = omega arith
refusal_some OutOfBounds e = omega arith
refusal_some BadValue e = omega arith
refusal_some BadIndex e = omega arith
refusal_some BadOrigin e = omega arith
refusal_some BadLeg e = omega arith
refusal_some NoPath e = omega arith
refusal_some NoWayOn e = omega arith
refusal_some MissingLeg e = omega arith
refusal_some BadEvent e = omega arith
refusal_some NoPlace e = omega arith
refusal_some BadEnd e = omega arith
refusal_some BadLinks e = omega arith
refusal_some NotTimed e = omega arith
refusal_some AllZero e = omega arith
