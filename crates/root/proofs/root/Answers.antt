-- `root::root` meets its contract: each kind of pattern has its law in Patterns.
use mathlib.Core.Path.{sym, ap, ◌∙◌}
use native.Mathlib.Omega.{arith}
use lib.Ieee.{binary64, div, to_bits, of_bits}
use Rattle.root.specs.Root.{sqrt}
use Rattle.root.proofs.Patterns.{root_zero, root_infinity, root_nan, root_negative, pattern_written}
use Rattle.root.proofs.root.Goals as goal

pub returns-then-is_nan : goal.returns-then-is_nan
returns-then-is_nan c = root_nan c.args.x (sym c.is_nan.ensures.value ∙ c.if-is_nan.true)

pub returns-then-bits-eq0 : goal.returns-then-bits-eq0
returns-then-bits-eq0 c =
    let w = pattern_written c.args.x c.well_formed.0.1 (sym c.is_nan.ensures.value ∙ c.if-is_nan.false) in
    root_zero c.args.x (to_bits binary64 c.args.x) w.reads w.wide c.if-bits-eq0.true

pub returns-then-bits-ge-SIGN : goal.returns-then-bits-ge-SIGN
unfolding div of_bits
returns-then-bits-ge-SIGN c =
    let w = pattern_written c.args.x c.well_formed.0.1 (sym c.is_nan.ensures.value ∙ c.if-is_nan.false) in
    root_negative c.args.x (to_bits binary64 c.args.x) w.reads c.if-bits-ge-SIGN.true c.if-bits-eq0.false

pub returns-then-bits-eq-INFINITY : goal.returns-then-bits-eq-INFINITY
returns-then-bits-eq-INFINITY c =
    let w = pattern_written c.args.x c.well_formed.0.1 (sym c.is_nan.ensures.value ∙ c.if-is_nan.false) in
    root_infinity c.args.x (ap (of_bits binary64) (sym c.if-bits-eq-INFINITY.true) ∙ w.reads)

pub invariant_of-positive_root : goal.invariant_of-positive_root
invariant_of-positive_root c = omega (arith, pattern_written c.args.x c.well_formed.0.1 (sym c.is_nan.ensures.value ∙ c.if-is_nan.false))

pub returns : goal.returns
returns c =
    let w = pattern_written c.args.x c.well_formed.0.1 (sym c.is_nan.ensures.value ∙ c.if-is_nan.false) in
    c.positive_root.ensures ∙ ap (sqrt binary64) w.reads
