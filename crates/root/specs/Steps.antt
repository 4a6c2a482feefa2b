-- What the steps of the program's root give. Only the contracts of private functions and the laws in proofs/ use these
-- words.
use Rattle.std.specs.Prelude.{◌≡◌}
use Prim.Native.Nat.{ℕ, zero, suc, ◌+◌, ◌*◌, ◌/◌, ◌%◌, ◌^◌, ◌≤◌, ◌<◌, compare}
use Rattle.std.specs.Float.{Format, binary64}
use Rattle.std.specs.Float.Ieee.{hid, low, nearest}

-- The magnitude that an exponent's field x and the digits t stand for, in units of the format's smallest value.
unfoldable pub magnitude_at : Format → ℕ → ℕ → ℕ
magnitude_at f zero t = t
magnitude_at f (suc x) t = (hid f + t) * 2 ^ x

-- The magnitude of the pattern b, whose sign bit is clear and which lies below the infinity's.
unfoldable pub magnitude : Format → ℕ → ℕ
unfolding magnitude_at
magnitude f b = magnitude_at f (b / hid f) (b % hid f)

-- b's magnitude in squared units is m * 2 ^ y, with all 53 digits in m.
pub record Significant (b m y : ℕ) : Type 0 where
  pub value : m * 2 ^ y ≡ magnitude binary64 b * 2 ^ low binary64
  pub least : 4503599627370496 ≤ m
  pub most : m < 9007199254740992
  pub above : 1000 ≤ y
  pub under : y ≤ 3119

-- b's magnitude in squared units is a * 2 ^ 52, with k pairs of binary zeros behind it.
pub record Scales (b a k : ℕ) : Type 0 where
  pub value : a * 4503599627370496 * (2 ^ k * 2 ^ k) ≡ magnitude binary64 b * 2 ^ low binary64
  pub least : 4503599627370496 ≤ a
  pub most : a < 18014398509481984
  pub under : k ≤ 1533

-- q is the whole root of a * 2 ^ 52, and r what is left over.
pub record Rooted (a q r : ℕ) : Type 0 where
  pub value : q * q + r ≡ a * 4503599627370496
  pub rest : r ≤ 2 * q
  pub least : 4503599627370496 ≤ q
  pub most : q < 9007199254740992

-- n is the root of a * 2 ^ 52, rounded: the whole root q or one more, as what is left over, r, lies below or above the
-- middle between the two.
pub record RoundedRoot (a n : ℕ) : Type 0 where
  pub q : ℕ
  pub r : ℕ
  pub root : Rooted a q r
  pub last : n ≡ nearest q (compare (r * 4) (q * 4 + 1))
