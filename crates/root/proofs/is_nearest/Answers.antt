-- `root::is_nearest` meets its contract: the products of n's halves fit, and `checked` says what the tests found.
use mathlib.Core.Path.{sym, subst}
use Prim.Native.Nat.{◌/◌, ◌%◌}
use native.Mathlib.Omega.{arith}
use lib.Dec.{T, leb→le}
use Rattle.root.proofs.Checked.{checked}
use Rattle.root.proofs.is_nearest.Goals as goal

pub returns : goal.returns
returns c = λ e.
    let n = c.args.n in
    checked c.args.s.a n (n / 134217728) (n % 134217728)
    c.args.s.a_from c.requires.n_bound (omega arith)
    c.if-lent-top.false c.if-rest-cross.false c.if-have-take.false (leb→le _ _ (subst T (sym e) tt))
