-- The work space and slices that are zero. Document 01 counts work space in bytes. It is lent in units of 64 bytes:
-- 3 f64 (`reals`), 8 u32 (`cells`) and 2 u32 (`marks`), as many units as all three slices fill. Row 3 asks for a
-- multiple of 64 bytes, so no byte is lost by that.
use Rattle.std.specs.Prelude.{List, ℕ, ◌*◌, ◌/◌, min, replicate, Float}
use Rattle.std.specs.Float.{binary64}
use Rattle.std.specs.Float.Ieee.{of_bits}

-- whole units of work space
unfoldable pub units_of : ℕ → ℕ → ℕ → ℕ
units_of reals cells marks = min (min (reals / 3) (cells / 8)) (marks / 2)

unfoldable pub bytes_of : ℕ → ℕ → ℕ → ℕ
unfolding units_of
bytes_of reals cells marks = 64 * units_of reals cells marks

-- a slice that is zero: every number 0, every float +0
-- Stands in contracts of what first writes in a lent slice, as `s.old ≡ zeros (length s.old)`: a struct of the slice
-- and this fact would hold until the first write alone.
unfoldable pub zeros : ℕ → List ℕ
zeros n = replicate n 0

unfoldable pub zero_floats : ℕ → List Float
zero_floats n = replicate n (of_bits binary64 0)
