-- `listing::Text::put_line` meets its contract.
use mathlib.Core.Path.{ap}
use mathlib.Core.List.{[], ◌∷◌}
use Prim.Native.Nat.{ℕ}
use Rattle.listing.specs.Listing.{line}
use Rattle.listing.proofs.Texts.{then_put, put_as}
use Rattle.listing.proofs.Text.put_line.Goals as goal

-- each call, from the last one back
pub returns : goal.returns
unfolding line
returns c =
    let kind = put_as c.put_byte-2.ensures (ap (λ (b : ℕ). b ∷ []) c.letter.ensures) in
    then_put
    c.put_decimal.ensures
    (then_put c.put_byte.ensures
    (then_put kind
    (then_put c.put_field.ensures
    (then_put c.put_field-2.ensures
    (then_put c.put_field-3.ensures
    (then_put c.put_field-4.ensures
    (then_put c.put_field-5.ensures
    (then_put c.put_float.ensures (then_put c.put_float-2.ensures (then_put c.put_float-3.ensures (then_put c.put_float-4.ensures c.put_byte-3.ensures)))))))))))
