-- `listing::Text::put_decimal` meets its contract.
use mathlib.Core.Path.{◌∙◌}
use Prim.Native.Nat.{◌-◌, ◌≤◌}
use native.Mathlib.Omega.{arith}
use lib.ListN.{length, drop, length-drop}
use lib.Seq.{take_all}
use Rattle.listing.proofs.Texts.{put_as}
use Rattle.listing.proofs.Text.put_decimal.Goals as goal

pub returns : goal.returns
returns c =
    let at = c.fill_decimal-at.result in
    let text = c.fill_decimal-at.new.place in
    let rest : length (drop at text) ≤ 20 - at = omega (arith, length-drop at text) in
    put_as c.put_bytes.ensures (take_all (20 - at) (drop at text) rest ∙ c.fill_decimal-at.ensures.digits)
