-- What "nearest" means for a root, said by whole numbers. proofs/Nearest.antt proves it of `sqrt binary64` for every
-- positive finite number.
use Rattle.std.specs.Prelude.{ℕ, ◌+◌, ◌-◌, ◌*◌, ◌^◌, ◌<◌, Float, false}
use Rattle.std.specs.Float.{binary64}
use Rattle.std.specs.Float.Ieee.{low, of_bits, to_bits}
use Rattle.std.specs.Float.Ieee.Exact.{HasValue}
use Rattle.std.specs.Float.Ieee.Positive.{num, den}

-- r and its two neighbours among the format's values, the patterns before and after its own, are `lo`, `at` and `hi`
-- units of the format's smallest value. Twice the exact root of x = num x / den x lies between lo + at and at + hi,
-- which are twice the middles between the neighbours, and is neither: so every other value of the format lies farther
-- from the root than r does. Squares are compared, so that no root stands in the statement.
pub record NearestRoot (x r : Float) : Type 0 where
  pub lo : ℕ
  pub at : ℕ
  pub hi : ℕ
  pub before : HasValue (of_bits binary64 (to_bits binary64 r - 1)) false lo (2 ^ low binary64)
  pub here : HasValue r false at (2 ^ low binary64)
  pub after : HasValue (of_bits binary64 (to_bits binary64 r + 1)) false hi (2 ^ low binary64)
  pub rises : lo < at
  pub rises_on : at < hi
  pub least : (lo + at) * (lo + at) * den x < 4 * (num x * (2 ^ low binary64 * 2 ^ low binary64))
  pub most : 4 * (num x * (2 ^ low binary64 * 2 ^ low binary64)) < (at + hi) * (at + hi) * den x
