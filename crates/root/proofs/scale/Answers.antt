-- `root::scale` meets its contract: an even exponent, or an odd one.
use Rattle.root.proofs.Steps.{even_scales, odd_scales}
use Rattle.root.proofs.scale.Goals as goal

pub returns-then-y-eq0 : goal.returns-then-y-eq0
returns-then-y-eq0 c = even_scales c.significand_of-s.ensures c.if-y-eq0.true

pub returns : goal.returns
returns c = odd_scales c.significand_of-s.ensures c.if-y-eq0.false
