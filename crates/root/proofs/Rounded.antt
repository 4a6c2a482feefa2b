-- What `sqrt` gives for a positive number, once a whole root of its leading digits is known: the digits kept, the number dropped, and how the last one is decided.
use mathlib.Core.Path.{◌≡◌, refl, ap, ◌∙◌, subst}
use mathlib.Core.Bool.{false, not}
use Prim.Native.Nat.{ℕ, ◌+◌, ◌-◌, ◌*◌, ◌/◌, ◌^◌, ◌≤◌, ◌<◌, compare, Ordering}
use native.Mathlib.Nat.{le_trans, lt_of_lt_of_le, lt_of_not-le, not-le_of_lt, mul-pos, mul-le-mul_right, mul-lt-mul_of_pos_right, mul-div_cancel, div-lt_iff_lt-mul, le-div_iff_mul-le}
use native.Mathlib.Omega.{arith}
use lib.Dec.{T, is_le, compare_is_eq, eqb, leb→le, nleb→lt, eqb→eq, eqb_refl}
use lib.Arith.{lt_of_le-ne}
use lib.Pow.{pow-add, pow_pos, pow_mono}
use lib.Ieee.{Float, Format, prec, low, size, nearest, units}
use lib.Ieee.Digits.{size-lt, size-le}
use lib.Ieee.Fits.{two}
use Rattle.root.specs.Root.{whole_root, root_of}
use Rattle.root.proofs.Whole.{IsRoot, square_back, whole_root_lem}

-- ---- comparing

-- what an answer of `compare` says
abbrev pub Cmp : Ordering → ℕ → ℕ → Type 0
Cmp Ordering.lt a b = a < b
Cmp Ordering.eq a b = a ≡ b
Cmp Ordering.gt a b = b < a

pub cmp : (a b : ℕ) → Cmp (compare a b) a b
cmp a b = go (compare a b) (leb→le a b) (nleb→lt a b) (eqb→eq a b) (λ (e : a ≡ b). subst (λ (x : ℕ). T (eqb a x)) e (eqb_refl a))
  where
    go : (o : Ordering) → (T (is_le o) → a ≤ b) → (T (not (is_le o)) → b < a) → (T (compare_is_eq o) → a ≡ b) → (a ≡ b → T (compare_is_eq o)) → Cmp o a b
    go Ordering.lt h k e n = lt_of_le-ne (h tt) n
    go Ordering.eq h k e n = e tt
    go Ordering.gt h k e n = k tt

-- two answers that say the same of two numbers are one
pub one_answer : (o p : Ordering) (a b : ℕ) → Cmp o a b → Cmp p a b → o ≡ p
one_answer Ordering.lt Ordering.lt a b x y = refl
one_answer Ordering.lt Ordering.eq a b x y = absurd (omega arith)
one_answer Ordering.lt Ordering.gt a b x y = absurd (omega arith)
one_answer Ordering.eq Ordering.lt a b x y = absurd (omega arith)
one_answer Ordering.eq Ordering.eq a b x y = refl
one_answer Ordering.eq Ordering.gt a b x y = absurd (omega arith)
one_answer Ordering.gt Ordering.lt a b x y = absurd (omega arith)
one_answer Ordering.gt Ordering.eq a b x y = absurd (omega arith)
one_answer Ordering.gt Ordering.gt a b x y = refl

-- what is decided by an answer that is right is what `compare` decides
pub decided : (o : Ordering) (q part half : ℕ) → Cmp o part half → nearest q o ≡ nearest q (compare part half)
decided o q part half h = ap (nearest q) (one_answer o (compare part half) part half h (cmp part half))

-- with a part z taken off both, and the rest in units of c
scaled_answer : (o : Ordering) (a b z c : ℕ) → 0 < c → Cmp o a b → Cmp o ((z + a) * c) ((z + b) * c)
scaled_answer Ordering.lt a b z c p x = let h : z + a < z + b = omega arith in mul-lt-mul_of_pos_right h p
scaled_answer Ordering.eq a b z c p x = ap (λ (n : ℕ). (z + n) * c) x
scaled_answer Ordering.gt a b z c p x = let h : z + b < z + a = omega arith in mul-lt-mul_of_pos_right h p

compare_scaled : (a b z c : ℕ) → 0 < c → compare ((z + a) * c) ((z + b) * c) ≡ compare a b
compare_scaled a b z c p =
    one_answer (compare ((z + a) * c) ((z + b) * c)) (compare a b) ((z + a) * c) ((z + b) * c) (cmp ((z + a) * c) ((z + b) * c)) (scaled_answer (compare a b) a b z c p (cmp a b))

-- ---- the digits kept

-- the root of (q * q + r) * K * K lies from q * K up to below (q + 1) * K
root_from : (n q r K w : ℕ) → IsRoot n w → n ≡ (q * q + r) * (K * K) → q * K ≤ w
root_from n q r K w i e =
    let h : q * q * (K * K) ≤ (q * q + r) * (K * K) = omega arith in
    let u : n < (w + 1) * (w + 1) = i.beyond in
    let g : q * K * (q * K) < (w + 1) * (w + 1) = omega arith in
    let l : q * K < w + 1 = square_back (q * K) (w + 1) g in
    omega arith

root_under : (n q r K w : ℕ) → 0 < K → IsRoot n w → n ≡ (q * q + r) * (K * K) → r ≤ 2 * q → w < (q + 1) * K
root_under n q r K w p i e m =
    let z : q * q + r < (q + 1) * (q + 1) = omega arith in
    let h : (q * q + r) * (K * K) < (q + 1) * (q + 1) * (K * K) = mul-lt-mul_of_pos_right z (mul-pos p p) in
    let u : w * w ≤ n = i.within in
    let g : w * w < (q + 1) * K * ((q + 1) * K) = omega arith in
    square_back w ((q + 1) * K) g

pub kept : (w q K : ℕ) → 0 < K → q * K ≤ w → w < (q + 1) * K → w / K ≡ q
kept w q K p lo hi =
    let a : q ≤ w / K = (le-div_iff_mul-le p).1 lo in
    let b : w / K < q + 1 = (div-lt_iff_lt-mul p).1 hi in
    omega arith

-- q has p binary digits
pub dropped : (p w q k : ℕ) → 0 < p → 2 ^ (p - 1) ≤ q → q < 2 ^ p → q * 2 ^ k ≤ w → w < (q + 1) * 2 ^ k → size w - p ≡ k
dropped p w q k P lo hi from under =
    let a : 2 ^ (p - 1) * 2 ^ k ≤ q * 2 ^ k = mul-le-mul_right (2 ^ k) lo in
    let b : 2 ^ (p - 1 + k) ≡ 2 ^ (p - 1) * 2 ^ k = pow-add 2 (p - 1) k in
    let c : (q + 1) * 2 ^ k ≤ 2 ^ p * 2 ^ k = mul-le-mul_right (2 ^ k) (next q (2 ^ p) hi) in
    let d : 2 ^ (p + k) ≡ 2 ^ p * 2 ^ k = pow-add 2 p k in
    let e : w < 2 ^ (p + k) = omega arith in
    let f : 2 ^ (p - 1 + k) ≤ w = omega arith in
    let g : size w ≤ p + k = size-le w (p + k) e in
    let h : p - 1 + k < size w = lt_of_not-le (λ (j : size w ≤ p - 1 + k). not-le_of_lt (lt_of_lt_of_le (size-lt w) (pow_mono j)) f) in
    omega arith
  where
    next : (a b : ℕ) → a < b → a + 1 ≤ b
    next a b h = omega arith

-- ---- the root

-- q and r: the whole root of the leading digits A and what is left over; all but k pairs of binary zeros of the scaled number are in A
pub record Leading (f : Format) (n den q r k : ℕ) : Type 0 where
  pub value : n ≡ (q * q + r) * (2 ^ k * 2 ^ k) * den
  pub rest : r ≤ 2 * q
  pub least : 2 ^ (prec f - 1) ≤ q
  pub most : q < 2 ^ prec f

pub root_of_is : (f : Format) (num den w k q : ℕ) → whole_root (num * (2 ^ low f * 2 ^ low f) / den) ≡ w → size w - prec f ≡ k → w / 2 ^ k ≡ q
    → root_of f num den ≡ units f false (nearest q (compare (4 * (num * (2 ^ low f * 2 ^ low f))) ((2 * q + 1) * 2 ^ k * ((2 * q + 1) * 2 ^ k) * den))) k
unfolding root_of
root_of_is f num den w k q a b c =
    let n = num * (2 ^ low f * 2 ^ low f) in
    let R : ℕ → ℕ → ℕ → Float = λ (v j p : ℕ). units f false (nearest p (compare (4 * n) ((2 * p + 1) * 2 ^ j * ((2 * p + 1) * 2 ^ j) * den))) j in
    ap (λ (v : ℕ). R v (size v - prec f) (v / 2 ^ (size v - prec f))) a ∙ ap (λ (j : ℕ). R w j (w / 2 ^ j)) b ∙ ap (λ (p : ℕ). R w k p) c

-- both sides of the last comparison, with the square of 2 * q taken off
last_digit : (n den q r K : ℕ) → 0 < den → 0 < K → n ≡ (q * q + r) * (K * K) * den
    → compare (4 * n) ((2 * q + 1) * K * ((2 * q + 1) * K) * den) ≡ compare (r * 4) (q * 4 + 1)
last_digit n den q r K D P e =
    let c = K * K * den in
    let a : 4 * n ≡ (4 * (q * q) + r * 4) * c = ap (λ (x : ℕ). 4 * x) e ∙ left q r K den in
    let b : (2 * q + 1) * K * ((2 * q + 1) * K) * den ≡ (4 * (q * q) + (q * 4 + 1)) * c = right q K den in
    ap (λ (x : ℕ). compare x ((2 * q + 1) * K * ((2 * q + 1) * K) * den)) a
    ∙ ap (λ (x : ℕ). compare ((4 * (q * q) + r * 4) * c) x) b
    ∙ compare_scaled (r * 4) (q * 4 + 1) (4 * (q * q)) c (mul-pos (mul-pos P P) D)
  where
    left : (q r K den : ℕ) → 4 * ((q * q + r) * (K * K) * den) ≡ (4 * (q * q) + r * 4) * (K * K * den)
    left q r K den = omega arith

    right : (q K den : ℕ) → (2 * q + 1) * K * ((2 * q + 1) * K) * den ≡ (4 * (q * q) + (q * 4 + 1)) * (K * K * den)
    right q K den = omega arith

pub root_of_gives : (f : Format) (num den q r k : ℕ) → 0 < den → Leading f (num * (2 ^ low f * 2 ^ low f)) den q r k
    → root_of f num den ≡ units f false (nearest q (compare (r * 4) (q * 4 + 1))) k
root_of_gives f num den q r k D l =
    let n = num * (2 ^ low f * 2 ^ low f) in
    let K = 2 ^ k in
    let N = (q * q + r) * (K * K) in
    let e : n / den ≡ N = ap (λ (x : ℕ). x / den) l.value ∙ mul-div_cancel N D in
    let w = whole_root N in
    let from : q * K ≤ w = root_from N q r K w (whole_root_lem N) refl in
    let under : w < (q + 1) * K = root_under N q r K w (pow_pos k) (whole_root_lem N) refl l.rest in
    root_of_is f num den w k q (ap whole_root e) (dropped (prec f) w q k (lt_of_lt_of_le (pow_pos 0) (le_trans (one_two) (two f))) l.least l.most from under) (kept w q K (pow_pos k) from under)
    ∙ ap (λ (o : Ordering). units f false (nearest q o) k) (last_digit n den q r K D (pow_pos k) l.value)
  where
    one_two : 1 ≤ 2
    one_two = omega arith
