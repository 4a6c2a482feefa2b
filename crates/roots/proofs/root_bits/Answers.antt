-- `roots::root_bits` meets its contract. Assumes nothing.
use mathlib.Core.Path.{sym, ◌∙◌}
use Rattle.roots.proofs.Laws.{nan_bits_lem, number_bits, root_nan, root_number}
use Rattle.roots.proofs.root_bits.Goals as goal

pub returns-then-bits-gt-INFINITY : goal.returns-then-bits-gt-INFINITY
returns-then-bits-gt-INFINITY c = nan_bits_lem c.args.bits c.if-bits-gt-INFINITY.true

pub float_from_bits-bits : goal.float_from_bits-bits
float_from_bits-bits c = number_bits c.args.bits c.if-bits-gt-INFINITY.false

pub returns-then-is_nan : goal.returns-then-is_nan
returns-then-is_nan c =
    root_nan c.args.bits c.root-x.result c.root-x.ensures (sym c.is_nan.ensures.value ∙ c.if-is_nan.true)

pub returns : goal.returns
returns c = root_number c.args.bits c.root-x.result c.root-x.ensures
