-- The whole root is the one number whose square n reaches while it does not reach the next one's.
use mathlib.Core.Path.{◌≡◌}
use mathlib.Core.Bool.{Bool, true, false, not, cond}
use Prim.Native.Nat.{ℕ, zero, suc, ◌+◌, ◌*◌, ◌/◌, ◌^◌, ◌≤◌, ◌<◌}
use native.Mathlib.Nat.{lt_of_lt_of_le, lt_of_not-le, not-le_of_lt, le_antisymm, mul-le-mul, pow-succ'}
use native.Mathlib.Omega.{arith}
use lib.Dec.{T, leb, leb→le, nleb→lt}
use lib.Ieee.{size}
use lib.Ieee.Digits.{size-lt}
use Rattle.root.specs.Root.{root_digits, whole_root}

-- w is the whole root of n
pub record IsRoot (n w : ℕ) : Type 0 where
  pub within : w * w ≤ n
  pub beyond : n < (w + 1) * (w + 1)

pub square_back : (a b : ℕ) → a * a < b * b → a < b
square_back a b h = lt_of_not-le (λ (g : b ≤ a). not-le_of_lt h (mul-le-mul g g))

below_next : (v w n : ℕ) → v * v ≤ n → n < (w + 1) * (w + 1) → v ≤ w
below_next v w n a b =
    let h : v * v < (w + 1) * (w + 1) = omega arith in
    let g : v < w + 1 = square_back v (w + 1) h in
    omega arith

pub one_root : (n v w : ℕ) → IsRoot n v → IsRoot n w → v ≡ w
one_root n v w a b = le_antisymm (below_next v w n a.within b.beyond) (below_next w v n b.within a.beyond)

digits_root : (d n : ℕ) → n < 4 ^ d → IsRoot n (root_digits d n)
unfolding root_digits
digits_root zero n h = record { within = omega arith; beyond = omega arith }
digits_root (suc d) n h = go (root_digits d (n / 4)) (digits_root d (n / 4) small)
  where
    small : n / 4 < 4 ^ d
    small = let p : 4 ^ suc d ≡ 4 * 4 ^ d = pow-succ' 4 d in omega arith

    test : (w : ℕ) → IsRoot (n / 4) w → (b : Bool) → (T b → (2 * w + 1) * (2 * w + 1) ≤ n) → (T (not b) → n < (2 * w + 1) * (2 * w + 1))
        → IsRoot n (cond b (2 * w + 1) (2 * w))
    test w i true a b =
        let u : n / 4 < (w + 1) * (w + 1) = i.beyond in
        let v : n < 4 * (n / 4) + 4 = omega arith in
        record { within = a tt; beyond = omega arith }
    test w i false a b =
        let u : w * w ≤ n / 4 = i.within in
        let v : 4 * (n / 4) ≤ n = omega arith in
        record { within = omega arith; beyond = b tt }

    go : (w : ℕ) → IsRoot (n / 4) w → IsRoot n (cond (leb ((2 * w + 1) * (2 * w + 1)) n) (2 * w + 1) (2 * w))
    go w i = test w i (leb ((2 * w + 1) * (2 * w + 1)) n) (leb→le ((2 * w + 1) * (2 * w + 1)) n) (nleb→lt ((2 * w + 1) * (2 * w + 1)) n)

two_four : (n : ℕ) → 2 ^ n ≤ 4 ^ n
two_four zero = omega arith
two_four (suc n) =
    let h : 2 ^ n ≤ 4 ^ n = two_four n in
    let p : 2 ^ suc n ≡ 2 * 2 ^ n = pow-succ' 2 n in
    let q : 4 ^ suc n ≡ 4 * 4 ^ n = pow-succ' 4 n in
    omega arith

pub whole_root_lem : (n : ℕ) → IsRoot n (whole_root n)
unfolding whole_root
whole_root_lem n = digits_root (size n) n (lt_of_lt_of_le (size-lt n) (two_four (size n)))
