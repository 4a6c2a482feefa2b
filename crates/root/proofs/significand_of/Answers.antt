-- `root::significand_of` meets its contract: a pattern with an empty exponent's field is a subnormal number's digits alone.
use native.Mathlib.Omega.{arith}
use Rattle.root.proofs.Steps.{normal_significant}
use Rattle.root.proofs.significand_of.Goals as goal

pub returns : goal.returns
returns c = normal_significant c.args.x.bits c.args.x.finite (omega arith)
