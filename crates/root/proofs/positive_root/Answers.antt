-- `root::positive_root` meets its contract: the steps' results are what `root_positive` asks for.
use Prim.Native.Nat.{ℕ, ◌≤◌}
use native.Mathlib.Omega.{arith}
use Rattle.root.specs.Steps.{RoundedRoot}
use Rattle.root.proofs.Patterns.{root_positive, number_pattern, decided_most}
use Rattle.root.proofs.positive_root.Goals as goal

-- the root, rounded
most : {a n : ℕ} → RoundedRoot a n → n ≤ 9007199254740992
most {a} {n} w = decided_most w.q w.r n w.root.most w.last

pub float_from_bits-result : goal.float_from_bits-result
float_from_bits-result c = number_pattern _ (omega (arith, c.scale-s.ensures, most c.rounded_root-n.ensures))

pub returns : goal.returns
returns c =
    let w = c.rounded_root-n.ensures in
    root_positive c.args.x.bits c.scale-s.result.a c.scale-s.result.k w.q w.r c.rounded_root-n.result
    c.args.x.nonzero c.args.x.finite c.scale-s.ensures w.root w.last
