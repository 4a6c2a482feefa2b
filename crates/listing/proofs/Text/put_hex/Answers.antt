-- `listing::Text::put_hex` meets its contract.
use mathlib.Core.Path.{ap, ◌∙◌}
use Prim.Native.Nat.{ℕ}
use lib.Seq.{length-take-le}
use Rattle.listing.specs.Listing.{digits}
use Rattle.listing.proofs.Texts.{put_as}
use Rattle.listing.proofs.Text.put_hex.Goals as goal

pub returns : goal.returns
returns c =
    put_as
    c.put_bytes.ensures
    (c.fill_hex.ensures ∙ ap (λ (k : ℕ). digits 16 k c.args.n) (length-take-le c.args.count _ c.requires))
