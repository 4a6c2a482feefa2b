-- `sqrt binary64` of a positive finite number is the value nearest to the exact root, which is never in the middle of two neighbouring values.
use mathlib.Core.Path.{◌≡◌, refl, sym, ap, ◌∙◌, subst}
use mathlib.Core.Logic.{◌⊎◌, inl, inr}
use mathlib.Core.Bool.{Bool, true, false, not, ◌&&◌}
use Prim.Native.Nat.{ℕ, zero, suc, ◌+◌, ◌-◌, ◌*◌, ◌/◌, ◌%◌, ◌^◌, ◌≤◌, ◌<◌, compare, Ordering}
use native.Mathlib.Nat.{le_refl, le_trans, le_of_eq, le_of_lt, lt_of_lt_of_le, lt_of_le_of_lt, lt_of_not-le, not-le_of_lt, eq-or-lt_of_le, mul-one, one-mul, mul_right_comm, mul-pos, zero-lt-suc, mul-le-mul, mul-le-mul_right, mul-lt-mul_of_pos_right, div-lt_iff_lt-mul, le-div_iff_mul-le, div-mul-le_self, pow-succ'}
use native.Mathlib.Omega.{arith}
use lib.Dec.{T, ltb, leb, eqb, ltb→lt, leb→le, eqb→eq}
use lib.IntN.{ℤ, pos, negsuc}
use lib.Pow.{pow-add, pow_pos, pow_mono}
use lib.Ieee.{Float, nan, inf, fin, binary64, prec, emax, low, up, down, size, nearest, units, fits, of_bits, to_bits}
use lib.Ieee.Digits.{size-lt, size-le, size_reaches}
use lib.Ieee.Fits.{and_l, and_r, up_pos, down_pos, nearest-le}
use lib.Ieee.Exact.{HasValue, units_val}
use lib.Ieee.Positive.{num, den, positive}
use lib.Ieee.Bits.{to_bits-of_bits, nan_bits_is}
use lib.Ieee.Nearest.{nearest-ge}
use Rattle.root.specs.Root.{whole_root, sqrt}
use Rattle.root.specs.Steps.{magnitude}
use Rattle.root.specs.Nearest.{NearestRoot}
use Rattle.root.proofs.Whole.{IsRoot, square_back, whole_root_lem}
use Rattle.root.proofs.Rounded.{Cmp, cmp, root_of_is}
use Rattle.root.proofs.Steps.{magnitude_high}
use Rattle.root.proofs.Patterns.{pattern_value, units_pattern, far_below, fin_root, number_pattern}

-- ---- the digits kept, from the definition

-- n / den is the scaled number, w its whole root, and q the root's leading digits, all but k of them
record Kept (n den w q k : ℕ) : Type 0 where
  from : q * 2 ^ k * (q * 2 ^ k) * den ≤ n
  under : n < (q + 1) * 2 ^ k * ((q + 1) * 2 ^ k) * den
  least : 4503599627370496 ≤ q
  most : q < 9007199254740992
  places : 1 ≤ k
  few : k ≤ 1533

-- the whole root of a number from 2 ^ 1074 up to below 2 ^ 3172 has 538 to 1586 binary digits
root_size : (m w : ℕ) → IsRoot m w → 2 ^ 537 * 2 ^ 537 ≤ m → m < 2 ^ 1586 * 2 ^ 1586 → (537 < size w) × (size w ≤ 1586)
root_size m w i lo hi = (
  lt_of_not-le (λ (g : size w ≤ 537). not-le_of_lt (lt_of_lt_of_le (size-lt w) (pow_mono g)) (reached (2 ^ 537) m w lo i.beyond)),
  size-le w 1586 (square_back w (2 ^ 1586) (lt_of_le_of_lt i.within hi)),
)
  where
    reached : (a m w : ℕ) → a * a ≤ m → m < (w + 1) * (w + 1) → a ≤ w
    reached a m w h g = let l : a < w + 1 = square_back a (w + 1) (lt_of_le_of_lt h g) in omega arith

kept_digits : (n den w k : ℕ) → 0 < den → IsRoot (n / den) w → 537 < size w → size w ≤ 1586 → size w - 53 ≡ k → Kept n den w (w / 2 ^ k) k
kept_digits n den w k D i lo hi e =
    let K = 2 ^ k in
    let q = w / K in
    let a : q * K ≤ w = div-mul-le_self w K in
    let b : w < (q + 1) * K = (div-lt_iff_lt-mul (pow_pos k)).0 (less q) in
    let c : w * w * den ≤ n = le_trans (mul-le-mul_right den i.within) (div-mul-le_self n den) in
    let d : n < (w + 1) * (w + 1) * den = (div-lt_iff_lt-mul D).0 i.beyond in
    record {
      from = le_trans (mul-le-mul_right den (mul-le-mul a a)) c;
      under = lt_of_lt_of_le d (mul-le-mul_right den (mul-le-mul (next w ((q + 1) * K) b) (next w ((q + 1) * K) b)));
      least = (le-div_iff_mul-le (pow_pos k)).1 (le_trans (le_of_eq (sym (pow-add 2 52 k))) (size_reaches w (52 + k) (one_less (size w) k lo e)));
      most = (div-lt_iff_lt-mul (pow_pos k)).1 (lt_of_lt_of_le (size-lt w) (le_trans (pow_mono (all (size w) k lo e)) (le_of_eq (pow-add 2 53 k))));
      places = places (size w) k lo e;
      few = few (size w) k hi e;
    }
  where
    less : (q : ℕ) → q < q + 1
    less q = omega arith

    next : (a b : ℕ) → a < b → a + 1 ≤ b
    next a b h = omega arith

    one_less : (z k : ℕ) → 537 < z → z - 53 ≡ k → 52 + k < z
    one_less z k h e = omega arith

    all : (z k : ℕ) → 537 < z → z - 53 ≡ k → z ≤ 53 + k
    all z k h e = omega arith

    places : (z k : ℕ) → 537 < z → z - 53 ≡ k → 1 ≤ k
    places z k h e = omega arith

    few : (z k : ℕ) → z ≤ 1586 → z - 53 ≡ k → k ≤ 1533
    few z k h e = omega arith

-- ---- a value and its neighbours

-- n * 2 ^ k units with all digits in n: also where n has one digit more
magnitude_at_lem : (k n : ℕ) → 4503599627370496 ≤ n → n ≤ 9007199254740992 → magnitude binary64 (k * 4503599627370496 + n) ≡ n * 2 ^ k
magnitude_at_lem k n lo hi = go (eq-or-lt_of_le hi)
  where
    H : ℕ
    H = 4503599627370496

    field : (k n x : ℕ) → n ≡ 4503599627370496 + x → x < 4503599627370496 → (k * 4503599627370496 + n) / 4503599627370496 ≡ suc k
    field k n x e l = omega arith

    digits : (k n x : ℕ) → n ≡ 4503599627370496 + x → x < 4503599627370496 → (k * 4503599627370496 + n) % 4503599627370496 ≡ x
    digits k n x e l = omega arith

    at : (k n x : ℕ) → n ≡ 4503599627370496 + x → x < 4503599627370496 → magnitude binary64 (k * 4503599627370496 + n) ≡ n * 2 ^ k
    at k n x e l =
        magnitude_high binary64 (k * H + n) k (field k n x e l)
        ∙ ap (λ (t : ℕ). (H + t) * 2 ^ k) (digits k n x e l)
        ∙ ap (λ (t : ℕ). t * 2 ^ k) (sym e)

    shift : (k : ℕ) → k * 4503599627370496 + 9007199254740992 ≡ suc k * 4503599627370496 + 4503599627370496
    shift k = omega arith

    double : (p : ℕ) → 4503599627370496 * (2 * p) ≡ 9007199254740992 * p
    double p = omega arith

    go : (n ≡ 9007199254740992) ⊎ (n < 9007199254740992) → magnitude binary64 (k * H + n) ≡ n * 2 ^ k
    go (inl e) =
        ap (λ (x : ℕ). magnitude binary64 (k * H + x)) e
        ∙ ap (magnitude binary64) (shift k)
        ∙ at (suc k) H 0 (omega arith) (omega arith)
        ∙ ap (λ (x : ℕ). H * x) (pow-succ' 2 k)
        ∙ double (2 ^ k)
        ∙ ap (λ (x : ℕ). x * 2 ^ k) (sym e)
    go (inr l) = at k n (n - 4503599627370496) (omega arith) (omega arith)

-- the neighbours of n * 2 ^ k units
record Beside (k n : ℕ) : Type 0 where
  below : magnitude binary64 (k * 4503599627370496 + n - 1) < n * 2 ^ k
  below_is : 4503599627370496 < n → magnitude binary64 (k * 4503599627370496 + n - 1) + 2 ^ k ≡ n * 2 ^ k
  above : n * 2 ^ k + 2 ^ k ≤ magnitude binary64 (k * 4503599627370496 + n + 1)

beside : (k n : ℕ) → 1 ≤ k → 4503599627370496 ≤ n → n ≤ 9007199254740992 → Beside k n
beside zero n p lo hi = absurd (omega arith)
beside (suc j) n p lo hi = record { below = down_to (eq-or-lt_of_le lo); below_is = less; above = up_to (eq-or-lt_of_le hi) }
  where
    k : ℕ
    k = suc j

    one : (n H K : ℕ) → H < n → (n - 1) * K + K ≡ n * K
    one n H K h = let e : n ≡ (n - 1) + 1 = omega arith in ap (λ (x : ℕ). x) (grow (n - 1) K) ∙ ap (λ (x : ℕ). x * K) (sym e)
      where
        grow : (m K : ℕ) → m * K + K ≡ (m + 1) * K
        grow m K = omega arith

    less : 4503599627370496 < n → magnitude binary64 (suc j * 4503599627370496 + n - 1) + 2 ^ suc j ≡ n * 2 ^ suc j
    less h =
        ap (λ (b : ℕ). magnitude binary64 b + 2 ^ k) (back (k * 4503599627370496) n h)
        ∙ ap (λ (b : ℕ). b + 2 ^ k) (magnitude_at_lem k (n - 1) (omega arith) (omega arith))
        ∙ one n 4503599627370496 (2 ^ k) h
      where
        back : (a n : ℕ) → 4503599627370496 < n → a + n - 1 ≡ a + (n - 1)
        back a n h = omega arith

    down_to : (4503599627370496 ≡ n) ⊎ (4503599627370496 < n) → magnitude binary64 (suc j * 4503599627370496 + n - 1) < n * 2 ^ suc j
    down_to (inl e) =
        let b : suc j * 4503599627370496 + n - 1 ≡ j * 4503599627370496 + 9007199254740991 = omega arith in
        let v : magnitude binary64 (suc j * 4503599627370496 + n - 1) ≡ 9007199254740991 * 2 ^ j = ap (magnitude binary64) b ∙ magnitude_at_lem j 9007199254740991 (omega arith) (omega arith) in
        let w : n * 2 ^ suc j ≡ 9007199254740992 * 2 ^ j = ap (λ (x : ℕ). x * 2 ^ suc j) (sym e) ∙ ap (λ (x : ℕ). 4503599627370496 * x) (pow-succ' 2 j) ∙ omega arith in
        let P : 0 < 2 ^ j = pow_pos j in
        omega arith
    down_to (inr h) =
        let e = less h in
        let P : 0 < 2 ^ suc j = pow_pos (suc j) in
        omega arith

    up_to : (n ≡ 9007199254740992) ⊎ (n < 9007199254740992) → n * 2 ^ suc j + 2 ^ suc j ≤ magnitude binary64 (suc j * 4503599627370496 + n + 1)
    up_to (inl e) =
        let b : suc j * 4503599627370496 + n + 1 ≡ suc (suc j) * 4503599627370496 + 4503599627370497 = omega arith in
        let v : magnitude binary64 (suc j * 4503599627370496 + n + 1) ≡ 4503599627370497 * 2 ^ suc (suc j) = ap (magnitude binary64) b ∙ magnitude_at_lem (suc (suc j)) 4503599627370497 (omega arith) (omega arith) in
        let w : 4503599627370497 * 2 ^ suc (suc j) ≡ 9007199254740994 * 2 ^ suc j = ap (λ (x : ℕ). 4503599627370497 * x) (pow-succ' 2 (suc j)) ∙ omega arith in
        let u : n * 2 ^ suc j ≡ 9007199254740992 * 2 ^ suc j = ap (λ (x : ℕ). x * 2 ^ suc j) e in
        omega arith
    up_to (inr h) =
        let b : suc j * 4503599627370496 + n + 1 ≡ suc j * 4503599627370496 + (n + 1) = omega arith in
        let v : magnitude binary64 (suc j * 4503599627370496 + n + 1) ≡ (n + 1) * 2 ^ suc j = ap (magnitude binary64) b ∙ magnitude_at_lem (suc j) (n + 1) (omega arith) (omega arith) in
        omega arith

-- ---- between the middles

-- K is the place's weight, and all squares are compared times den
record Middles (n den lo at hi : ℕ) : Type 0 where
  least : (lo + at) * (lo + at) * den < 4 * n
  most : 4 * n < (at + hi) * (at + hi) * den

-- rounded down
stayed : (n den q K lo hi : ℕ) → 0 < den → q * K * (q * K) * den ≤ n → 4 * n < (2 * q + 1) * K * ((2 * q + 1) * K) * den → lo < q * K → q * K + K ≤ hi → Middles n den lo (q * K) hi
stayed n den q K lo hi D from mid l h =
    let a : lo + q * K < 2 * (q * K) = omega arith in
    let b : (2 * q + 1) * K ≤ q * K + hi = omega arith in
    let c : (lo + q * K) * (lo + q * K) * den < 2 * (q * K) * (2 * (q * K)) * den = mul-lt-mul_of_pos_right (square (lo + q * K) (2 * (q * K)) a) D in
    let d : 2 * (q * K) * (2 * (q * K)) * den ≡ 4 * (q * K * (q * K) * den) = four (q * K) den in
    record { least = omega arith; most = lt_of_lt_of_le mid (mul-le-mul_right den (mul-le-mul b b)) }
  where
    square : (x y : ℕ) → x < y → x * x < y * y
    square x y h = lt_of_le_of_lt (mul-le-mul (le_refl x) (le_of_lt h)) (mul-lt-mul_of_pos_right h (omega arith))

    four : (a d : ℕ) → 2 * a * (2 * a) * d ≡ 4 * (a * a * d)
    four a d = omega arith

-- rounded up
raised : (n den q K lo hi : ℕ) → n < (q + 1) * K * ((q + 1) * K) * den → (2 * q + 1) * K * ((2 * q + 1) * K) * den < 4 * n → lo + K ≡ (q + 1) * K → (q + 1) * K + K ≤ hi → Middles n den lo ((q + 1) * K) hi
raised n den q K lo hi under mid l h =
    let a : lo + (q + 1) * K ≡ (2 * q + 1) * K = sum lo q K l in
    let b : 2 * ((q + 1) * K) ≤ (q + 1) * K + hi = omega arith in
    let c : 2 * ((q + 1) * K) * (2 * ((q + 1) * K)) * den ≤ ((q + 1) * K + hi) * ((q + 1) * K + hi) * den = mul-le-mul_right den (mul-le-mul b b) in
    let d : 2 * ((q + 1) * K) * (2 * ((q + 1) * K)) * den ≡ 4 * ((q + 1) * K * ((q + 1) * K) * den) = four ((q + 1) * K) den in
    record { least = subst (λ (x : ℕ). x * x * den < 4 * n) (sym a) mid; most = bounded n ((q + 1) * K * ((q + 1) * K) * den) (2 * ((q + 1) * K) * (2 * ((q + 1) * K)) * den) (((q + 1) * K + hi) * ((q + 1) * K + hi) * den) under d c }
  where
    four : (a d : ℕ) → 2 * a * (2 * a) * d ≡ 4 * (a * a * d)
    four a d = omega arith

    sum : (lo q K : ℕ) → lo + K ≡ (q + 1) * K → lo + (q + 1) * K ≡ (2 * q + 1) * K
    sum lo q K e = omega arith

    bounded : (n a b c : ℕ) → n < a → b ≡ 4 * a → b ≤ c → 4 * n < c
    bounded n a b c h e g = omega arith

-- the last digit as `nearest` decides it, where the root is not in the middle
decided : (n den q k lo hi : ℕ) → 0 < den → (4 * n ≡ (2 * q + 1) * 2 ^ k * ((2 * q + 1) * 2 ^ k) * den → ⊥) → (o : Ordering) → Cmp o (4 * n) ((2 * q + 1) * 2 ^ k * ((2 * q + 1) * 2 ^ k) * den)
    → q * 2 ^ k * (q * 2 ^ k) * den ≤ n → n < (q + 1) * 2 ^ k * ((q + 1) * 2 ^ k) * den → 4503599627370496 ≤ q
    → lo < nearest q o * 2 ^ k → (4503599627370496 < nearest q o → lo + 2 ^ k ≡ nearest q o * 2 ^ k) → nearest q o * 2 ^ k + 2 ^ k ≤ hi
    → Middles n den lo (nearest q o * 2 ^ k) hi
decided n den q k lo hi D apart Ordering.lt x from under least l d h = stayed n den q (2 ^ k) lo hi D from x l h
decided n den q k lo hi D apart Ordering.gt x from under least l d h = up_one (suc q) (one q) d h
  where
    one : (q : ℕ) → suc q ≡ q + 1
    one q = omega arith

    up_one : (m : ℕ) → m ≡ q + 1 → (4503599627370496 < m → lo + 2 ^ k ≡ m * 2 ^ k) → m * 2 ^ k + 2 ^ k ≤ hi → Middles n den lo (m * 2 ^ k) hi
    up_one m e d h =
        subst (λ (i : ℕ). Middles n den lo (i * 2 ^ k) hi) (sym e)
        (raised n den q (2 ^ k) lo hi under x (d (omega arith) ∙ ap (λ (i : ℕ). i * 2 ^ k) e) (subst (λ (i : ℕ). i * 2 ^ k + 2 ^ k ≤ hi) e h))
decided n den q k lo hi D apart Ordering.eq x from under least l d h = absurd (apart x)

-- ---- never in the middle

-- two odd numbers times powers of two are equal only where the odd numbers are
odd_parts : (s t a c : ℕ) → a % 2 ≡ 1 → c % 2 ≡ 1 → a * 2 ^ s ≡ c * 2 ^ t → a ≡ c
odd_parts zero zero a c p q e = sym (mul-one a) ∙ e ∙ mul-one c
odd_parts zero (suc t) a c p q e = absurd (even a c (2 ^ t) p (sym (mul-one a) ∙ e ∙ ap (λ (x : ℕ). c * x) (pow-succ' 2 t)))
  where
    even : (a c x : ℕ) → a % 2 ≡ 1 → a ≡ c * (2 * x) → ⊥
    even a c x p e = omega arith
odd_parts (suc s) zero a c p q e = absurd (even c a (2 ^ s) q (sym (mul-one c) ∙ sym e ∙ ap (λ (x : ℕ). a * x) (pow-succ' 2 s)))
  where
    even : (a c x : ℕ) → a % 2 ≡ 1 → a ≡ c * (2 * x) → ⊥
    even a c x p e = omega arith
odd_parts (suc s) (suc t) a c p q e =
    odd_parts s t a c p q (half a c (2 ^ s) (2 ^ t) (ap (λ (x : ℕ). a * x) (sym (pow-succ' 2 s)) ∙ e ∙ ap (λ (x : ℕ). c * x) (pow-succ' 2 t)))
  where
    half : (a c x y : ℕ) → a * (2 * x) ≡ c * (2 * y) → a * x ≡ c * y
    half a c x y e = omega arith

-- an odd m that is a square's part, times powers of two, is that square
middle_odd : (m q i l k j : ℕ) → m % 2 ≡ 1 → 4 * (m * 2 ^ i * (2 ^ l * 2 ^ l)) ≡ (2 * q + 1) * 2 ^ k * ((2 * q + 1) * 2 ^ k) * 2 ^ j → m ≡ (2 * q + 1) * (2 * q + 1)
middle_odd m q i l k j p e =
    let a : 2 ^ (2 + i + (l + l)) ≡ 4 * 2 ^ i * (2 ^ l * 2 ^ l) = pow-add 2 (2 + i) (l + l) ∙ ap (λ (x : ℕ). x * 2 ^ (l + l)) (pow-add 2 2 i) ∙ ap (λ (x : ℕ). 4 * 2 ^ i * x) (pow-add 2 l l) in
    let b : 2 ^ (k + k + j) ≡ 2 ^ k * 2 ^ k * 2 ^ j = pow-add 2 (k + k) j ∙ ap (λ (x : ℕ). x * 2 ^ j) (pow-add 2 k k) in
    odd_parts (2 + i + (l + l)) (k + k + j) m ((2 * q + 1) * (2 * q + 1)) p (odd q)
    (ap (λ (x : ℕ). m * x) a ∙ left m (2 ^ i) (2 ^ l) ∙ e ∙ right (2 * q + 1) (2 ^ k) (2 ^ j) ∙ ap (λ (x : ℕ). (2 * q + 1) * (2 * q + 1) * x) (sym b))
  where
    odd : (q : ℕ) → (2 * q + 1) * (2 * q + 1) % 2 ≡ 1
    odd q = omega arith

    left : (m a c : ℕ) → m * (4 * a * (c * c)) ≡ 4 * (m * a * (c * c))
    left m a c = omega arith

    right : (h a c : ℕ) → h * a * (h * a) * c ≡ h * h * (a * a * c)
    right h a c = omega arith

-- The root of a number of at most 53 digits is never in the middle of two: it would be that of an odd square of more.
never_middle : (m q l k : ℕ) (e : ℤ) → m % 2 ≡ 1 → m < 9007199254740992 → 4503599627370496 ≤ q
    → 4 * (m * up e * (2 ^ l * 2 ^ l)) ≡ (2 * q + 1) * 2 ^ k * ((2 * q + 1) * 2 ^ k) * down e → ⊥
never_middle m q l k e p few many h = beyond m (2 * q + 1) few (omega arith) (square e h)
  where
    square : (e : ℤ) → 4 * (m * up e * (2 ^ l * 2 ^ l)) ≡ (2 * q + 1) * 2 ^ k * ((2 * q + 1) * 2 ^ k) * down e → m ≡ (2 * q + 1) * (2 * q + 1)
    square (pos i) h = middle_odd m q i l k 0 p h
    square (negsuc j) h = middle_odd m q 0 l k (suc j) p h

    beyond : (m h : ℕ) → m < 9007199254740992 → 9007199254740992 ≤ h → m ≡ h * h → ⊥
    beyond m h few many e =
        let a : 1 ≤ h = omega arith in
        let b : 9007199254740992 * 1 ≤ h * h = mul-le-mul many a in
        omega arith

-- ---- the theorem

-- the answer, its pattern and its neighbours, once the last digit m is decided
placed : (x : Float) (k m : ℕ) → sqrt binary64 x ≡ units binary64 false m k → 4503599627370496 ≤ m → m ≤ 9007199254740992 → 1 ≤ k → k ≤ 1533
    → Middles (num x * (2 ^ low binary64 * 2 ^ low binary64)) (den x) (magnitude binary64 (k * 4503599627370496 + m - 1)) (m * 2 ^ k) (magnitude binary64 (k * 4503599627370496 + m + 1))
    → NearestRoot x (sqrt binary64 x)
placed x k m e lo hi p f s =
    let b = k * 4503599627370496 + m in
    let small : b + 1 < 9218868437227405312 = omega arith in
    let pattern : of_bits binary64 b ≡ units binary64 false m k = units_pattern binary64 m k lo hi (far_below m k hi f) in
    let bits : to_bits binary64 (sqrt binary64 x) ≡ b =
    ap (to_bits binary64) (e ∙ sym pattern)
    ∙ to_bits-of_bits binary64 b (omega arith) (subst (λ (t : Bool). T (not t)) (nan_bits_is binary64 b) (number_pattern b (omega arith))) in
    let side = beside k m p lo hi in
    record {
      lo = magnitude binary64 (b - 1);
      at = m * 2 ^ k;
      hi = magnitude binary64 (b + 1);
      before = subst (λ (i : ℕ). HasValue (of_bits binary64 (i - 1)) false (magnitude binary64 (b - 1)) (2 ^ low binary64)) (sym bits) (pattern_value binary64 (b - 1) (omega arith));
      here = subst (λ (v : Float). HasValue v false (m * 2 ^ k) (2 ^ low binary64)) (sym e) (units_val binary64 false m k (far_below m k hi f));
      after = subst (λ (i : ℕ). HasValue (of_bits binary64 (i + 1)) false (magnitude binary64 (b + 1)) (2 ^ low binary64)) (sym bits) (pattern_value binary64 (b + 1) small);
      rises = side.below;
      rises_on = grows (m * 2 ^ k) (2 ^ k) (magnitude binary64 (b + 1)) (pow_pos k) side.above;
      least = s.least;
      most = s.most;
    }
  where
    grows : (a c h : ℕ) → 0 < c → a + c ≤ h → a < h
    grows a c h p g = omega arith

least_of : (v L d s : ℕ) → 0 < v → 0 < d → d ≤ L → s * s ≡ L → s * s ≤ v * (L * L) / d
least_of v L d s p D h e =
    (le-div_iff_mul-le D).1
    (le_trans (mul-le-mul (le_of_eq e) h) (le_trans (le_of_eq (sym (one-mul (L * L)))) (mul-le-mul_right (L * L) p)))

most_of : (v S d t u : ℕ) → 0 < d → 0 < S → v < t * d → t * S ≡ u * u → v * S / d < u * u
most_of v S d t u D p h e =
    (div-lt_iff_lt-mul D).1 (lt_of_lt_of_le (mul-lt-mul_of_pos_right h p) (le_of_eq (mul_right_comm t d S ∙ ap (λ (x : ℕ). x * d) e)))

nearest_fin : (m : ℕ) (e : ℤ) → 0 < m → m % 2 ≡ 1 → m < 9007199254740992 → down e ≤ 2 ^ low binary64 → m * up e < 2 ^ 1024 * down e → NearestRoot (fin false m e) (sqrt binary64 (fin false m e))
nearest_fin m e p odd digits low-enough high-enough = go (root_size (n / d) w (whole_root_lem (n / d)) scaled_least scaled_most)
  where
    L : ℕ
    L = 2 ^ low binary64

    d : ℕ
    d = down e

    n : ℕ
    n = m * up e * (L * L)

    w : ℕ
    w = whole_root (n / d)

    k : ℕ
    k = size w - 53

    q : ℕ
    q = w / 2 ^ k

    o : Ordering
    o = compare (4 * n) ((2 * q + 1) * 2 ^ k * ((2 * q + 1) * 2 ^ k) * d)

    scaled_least : 2 ^ 537 * 2 ^ 537 ≤ n / d
    scaled_least = least_of (m * up e) L d (2 ^ 537) (mul-pos p (up_pos e)) (down_pos e) low-enough refl

    scaled_most : n / d < 2 ^ 1586 * 2 ^ 1586
    scaled_most = most_of (m * up e) (L * L) d (2 ^ 1024) (2 ^ 1586) (down_pos e) (pow_pos 2148) high-enough refl

    go : (537 < size w) × (size w ≤ 1586) → NearestRoot (fin false m e) (sqrt binary64 (fin false m e))
    go z =
        let i = kept_digits n d w k (down_pos e) (whole_root_lem (n / d)) z.0 z.1 refl in
        let lo = le_trans i.least (nearest-ge q o) in
        let hi = le_trans (nearest-le q o) i.most in
        let side = beside k (nearest q o) i.places lo hi in
        placed (fin false m e) k (nearest q o) (fin_root binary64 m e p ∙ root_of_is binary64 (m * up e) d w k q refl refl refl) lo hi i.places i.few
        (decided n d q k (magnitude binary64 (k * 4503599627370496 + nearest q o - 1)) (magnitude binary64 (k * 4503599627370496 + nearest q o + 1)) (down_pos e) (never_middle m q (low binary64) k e odd digits i.least) o (cmp (4 * n) ((2 * q + 1) * 2 ^ k * ((2 * q + 1) * 2 ^ k) * d)) i.from i.under i.least side.below side.below_is side.above)

pub root_nearest : (x : Float) → T (fits binary64 x) → T (positive x) → NearestRoot x (sqrt binary64 x)
unfolding fits
root_nearest nan g p = absurd p
root_nearest (inf s) g p = absurd p
root_nearest (fin true m e) g p = absurd p
root_nearest (fin false zero e) g p = absurd p
root_nearest (fin false (suc m) e) g p =
    let A = eqb (suc m % 2) 1 in
    let B = ltb (suc m) (2 ^ prec binary64) in
    let C = leb (down e) (2 ^ low binary64) in
    let D = ltb (suc m * up e) (2 ^ suc (emax binary64) * down e) in
    nearest_fin (suc m) e (zero-lt-suc m)
    (eqb→eq (suc m % 2) 1 (and_l A B (and_l (A && B) C (and_l (A && B && C) D g))))
    (ltb→lt (suc m) (2 ^ prec binary64) (and_r A B (and_l (A && B) C (and_l (A && B && C) D g))))
    (leb→le (down e) (2 ^ low binary64) (and_r (A && B) C (and_l (A && B && C) D g)))
    (ltb→lt (suc m * up e) (2 ^ suc (emax binary64) * down e) (and_r (A && B && C) D g))
