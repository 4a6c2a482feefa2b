-- The square root of IEEE 754, over whole numbers: the value of the format that is nearest to the exact root, a tie to
-- the even one. Document 01, "the speed at the point is the rounded square root". It has the shape of `round` in std's
-- `Float.Ieee`: the fraction is scaled to whole units of the format's smallest value, the whole root keeps its `prec`
-- leading digits, and `nearest` decides the last one by an exact comparison of squares. It says nothing of how a
-- program finds the digits. proofs/Nearest.antt proves that every other value of the format lies farther from the root:
-- it is never in the middle of two.
use Rattle.std.specs.Prelude.{true, false, cond, leb}
use Prim.Native.Nat.{ℕ, zero, suc, ◌+◌, ◌-◌, ◌*◌, ◌/◌, ◌^◌, compare}
use lib.Ieee.{Float, nan, inf, fin, Format, prec, low, up, down, size, nearest, units}

-- The whole root of an n below 4 ^ d, digit by digit: the root of n / 4, doubled, and one more where its square is
-- still within n.
unfoldable pub root_digits : ℕ → ℕ → ℕ
root_digits zero n = 0
root_digits (suc d) n = let w = root_digits d (n / 4) in cond (leb ((2 * w + 1) * (2 * w + 1)) n) (2 * w + 1) (2 * w)

-- The whole root of n: the w with w * w ≤ n < (w + 1) * (w + 1). n has `size n` binary digits, so it lies below 4 ^
-- size n.
unfoldable pub whole_root : ℕ → ℕ
unfolding root_digits size
whole_root n = root_digits (size n) n

-- The value of f that is nearest to the root of num / den. In units of f's smallest value the root is that of n / den.
-- Of its whole part w the format keeps the `prec` leading digits, q, and drops k. Twice the root lies below, on or
-- above h, which is twice the middle between q and q + 1, as 4 * n lies below, on or above h * h * den.
unfoldable pub root_of : Format → ℕ → ℕ → Float
unfolding whole_root size units
root_of f num den =
    let n = num * (2 ^ low f * 2 ^ low f) in
    let w = whole_root (n / den) in
    let k = size w - prec f in
    let q = w / 2 ^ k in
    let h = (2 * q + 1) * 2 ^ k in
    units f false (nearest q (compare (4 * n) (h * h * den))) k

-- IEEE 754-2019, 5.4.1 and 6.3: the root of a zero is that zero, of a number below zero no number, of the positive
-- infinity itself.
unfoldable pub sqrt : Format → Float → Float
unfolding root_of
sqrt f nan = nan
sqrt f (inf false) = inf false
sqrt f (inf true) = nan
sqrt f (fin s zero e) = fin s zero e
sqrt f (fin true (suc m) e) = nan
sqrt f (fin false (suc m) e) = root_of f (suc m * up e) (down e)
