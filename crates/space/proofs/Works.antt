-- The work space's three slices together.
use mathlib.Core.Path.{◌≡◌, ap, ◌∙◌}
use lib.ListN.{length}
use Rattle.space.specs.Space.{zeros, zero_floats}
use Rattle.space.specs.Lent.{Work, Cleared}

-- work space that is cleared, by the lengths that it was lent with
pub cleared_as : {lent other left : Work} → length other.reals ≡ length lent.reals → length other.cells ≡ length lent.cells → length other.marks ≡ length lent.marks → Cleared other left → Cleared lent left
cleared_as p q r c = record { reals = c.reals ∙ ap zero_floats p; cells = c.cells ∙ ap zeros q; marks = c.marks ∙ ap zeros r }
