-- `root::guess` meets its contract: a pattern below the infinity's is a number's, and the digits of any pattern are few enough.
use native.Mathlib.Omega.{arith}
use Rattle.root.proofs.Patterns.{number_pattern}
use Rattle.root.proofs.guess.Goals as goal

pub float_from_bits-x : goal.float_from_bits-x
float_from_bits-x c = number_pattern _ (omega arith)

pub float_from_bits-s : goal.float_from_bits-s
float_from_bits-s c = number_pattern _ (omega arith)
