-- Numbers as digits: one digit more, and closing zeros.
use mathlib.Core.Path.{◌≡◌, refl, sym, ap, subst, ◌∙◌}
use mathlib.Core.Bool.{Bool, true, false, cond}
use mathlib.Core.List.{List, [], ◌∷◌, ◌++◌}
use mathlib.Core.Logic.{◌⊎◌, inl, inr, ◌≢◌}
use Prim.Native.Nat.{ℕ, zero, suc, ◌+◌, ◌-◌, ◌*◌, ◌/◌, ◌%◌, ◌^◌, ◌≤◌, ◌<◌, min}
use native.Mathlib.Nat.{mod-eq_of_lt, div-lt_iff_lt-mul, mul_comm, pow-succ'}
use native.Mathlib.Numerals.{add-one, sub-one}
use native.Mathlib.Omega.{arith}
use borrow.Author.Tests.{lt-ltb, le-ltb, ltb-true, ltb-false, ne_eqb}
use lib.Count.{count_trailing_zeros, under}
use lib.Pow.{shr-shr}
use lib.Dec.{ltb, eqb, lit<}
use lib.ListN.{length, drop}
use lib.Seq.{drop_at, drop-append-le}
use lib.Ieee.{Float, binary64, to_bits}
use Rattle.listing.specs.Listing.{glyph, digits, places, decimal, unless_zero, trimmed, one_kept, float}

-- ---- digits

pub low_glyph : (d : ℕ) → d < 10 → glyph d ≡ 48 + d
unfolding glyph
low_glyph d h = rw (lt-ltb d 10 h) refl

pub high_glyph : (d : ℕ) → 10 ≤ d → glyph d ≡ 87 + d
unfolding glyph
high_glyph d h = rw (le-ltb d 10 h) refl

-- a digit more
pub digits_more : (base k n : ℕ) → 0 < k → digits base (k - 1) (n / base) ++ (glyph (n % base) ∷ []) ≡ digits base k n
unfolding digits
digits_more base zero n h = absurd (omega arith)
digits_more base (suc k) n h = ap (λ (j : ℕ). digits base j (n / base) ++ (glyph (n % base) ∷ [])) (sub-one (suc k))

-- a place filled with the last digits of n: an empty one, and one whose last digit stands behind those of n / 16
pub none_filled : (n : ℕ) (place : List ℕ) → length place ≡ 0 → place ≡ digits 16 (length place) n
unfolding digits
none_filled n [] e = refl
none_filled n (x ∷ place) e = absurd (omega arith)

pub one_filled : (n j k : ℕ) {d : ℕ} {before : List ℕ} → j + 1 ≡ k → before ≡ digits 16 j (n / 16) → d ≡ glyph (n % 16)
    → before ++ (d ∷ []) ≡ digits 16 k n
unfolding digits
one_filled n j k {d} e b g =
    ap (λ (t : List ℕ). t ++ (d ∷ [])) b
    ∙ ap (λ (x : ℕ). digits 16 j (n / 16) ++ (x ∷ [])) g
    ∙ ap (λ (i : ℕ). digits 16 i n) (sym (add-one j) ∙ e)

-- ---- in decimal

places_enough : (k n : ℕ) → n < 10 ^ suc k → places (suc k) n ≡ places k n
unfolding places
places_enough zero n h = rw (lt-ltb n 10 h) refl
places_enough (suc k) n h =
    let g : n < 10 ^ suc k * 10 = subst (λ (m : ℕ). n < m) (pow-succ' 10 (suc k) ∙ mul_comm 10 (10 ^ suc k)) h in
    ap (λ (m : ℕ). cond (ltb n 10) 1 (suc m)) (places_enough k (n / 10) ((div-lt_iff_lt-mul (lit< tt)).1 g))

pub decimal_one : (n : ℕ) → n < 10 → (48 + n) ∷ [] ≡ decimal n
unfolding decimal
decimal_one n h = rw (lt-ltb n 10 h) (ap (λ (m : ℕ). m ∷ []) (sym (ap glyph (mod-eq_of_lt h) ∙ low_glyph n h)))

pub decimal_more : (n : ℕ) → 10 ≤ n → n < 2 ^ 64 → decimal (n / 10) ++ ((48 + n % 10) ∷ []) ≡ decimal n
unfolding decimal
decimal_more n h l =
    let fewer : places 20 (n / 10) ≡ places 19 (n / 10) = places_enough 19 (n / 10) (omega arith) in
    let last : 48 + n % 10 ≡ glyph (n % 10) = sym (low_glyph (n % 10) (omega arith)) in
    let more : places 20 n ≡ suc (places 19 (n / 10)) = rw (le-ltb n 10 h) refl in
    ap (λ (k : ℕ). digits 10 k (n / 10) ++ ((48 + n % 10) ∷ [])) fewer
    ∙ ap (λ (d : ℕ). digits 10 (places 19 (n / 10)) (n / 10) ++ (d ∷ [])) last
    ∙ sym (ap (λ (k : ℕ). digits 10 k n) more)

-- a place that ends with the digits of n: its last digit alone, and behind those of n / 10
pub last_filled : (n : ℕ) (before : List ℕ) → n < 10 → drop (length before) (before ++ ((48 + n % 10) ∷ [])) ≡ decimal n
last_filled n before h =
    drop_at before ((48 + n % 10) ∷ []) (length before) refl
    ∙ ap (λ (d : ℕ). (48 + d) ∷ []) (mod-eq_of_lt h)
    ∙ decimal_one n h

pub more_filled : (n at : ℕ) (before : List ℕ) → 10 ≤ n → n < 2 ^ 64 → at ≤ length before
    → drop at before ≡ decimal (n / 10) → drop at (before ++ ((48 + n % 10) ∷ [])) ≡ decimal n
more_filled n at before h l w e =
    drop-append-le at before ((48 + n % 10) ∷ []) w
    ∙ ap (λ (t : List ℕ). t ++ ((48 + n % 10) ∷ [])) e
    ∙ decimal_more n h l

-- and it has room for those
pub more_fit : (n j k : ℕ) → j + 1 ≡ k → n < 10 ^ k → 10 ≤ n → (0 < j) × (n / 10 < 10 ^ j)
more_fit n zero k e f h = absurd (let g : n < 10 ^ 1 = subst (λ (i : ℕ). n < 10 ^ i) (sym e) f in omega arith)
more_fit n (suc j) k e f h =
    let g : n < 10 ^ suc (suc j) = subst (λ (i : ℕ). n < 10 ^ i) (sym e ∙ add-one (suc j)) f in
    let m : n < 10 ^ suc j * 10 = subst (λ (i : ℕ). n < i) (pow-succ' 10 (suc j) ∙ mul_comm 10 (10 ^ suc j)) g in
    (omega arith, (div-lt_iff_lt-mul (lit< tt)).1 m)

-- ---- closing zeros

trimmed_zero : (xs : List ℕ) → trimmed (xs ++ (48 ∷ [])) ≡ trimmed xs
unfolding trimmed
trimmed_zero [] = refl
trimmed_zero (x ∷ xs) = ap (unless_zero x) (trimmed_zero xs)

kept_zero : (xs : List ℕ) (y : ℕ) → one_kept ((xs ++ (y ∷ [])) ++ (48 ∷ [])) ≡ one_kept (xs ++ (y ∷ []))
unfolding trimmed
kept_zero [] y = refl
kept_zero (x ∷ xs) y = ap (λ (t : List ℕ). x ∷ t) (trimmed_zero (xs ++ (y ∷ [])))

unless_more : (x : ℕ) (xs : List ℕ) (y : ℕ) → unless_zero x (xs ++ (y ∷ [])) ≡ x ∷ (xs ++ (y ∷ []))
unless_more x [] y = refl
unless_more x (z ∷ xs) y = refl

trimmed_digit : (xs : List ℕ) (y : ℕ) → eqb y 48 ≡ false → trimmed (xs ++ (y ∷ [])) ≡ xs ++ (y ∷ [])
unfolding trimmed
trimmed_digit [] y e = rw e refl
trimmed_digit (x ∷ xs) y e = ap (unless_zero x) (trimmed_digit xs y e) ∙ unless_more x xs y

kept_digit : (xs : List ℕ) (y : ℕ) → eqb y 48 ≡ false → one_kept (xs ++ (y ∷ [])) ≡ xs ++ (y ∷ [])
unfolding trimmed
kept_digit [] y e = refl
kept_digit (x ∷ xs) y e = ap (λ (t : List ℕ). x ∷ t) (trimmed_digit xs y e)

-- ---- the digits of a float

-- `count` digits of `bits`, with no closing zeros, are those of x
pub record Kept (x : Float) (bits count : ℕ) : Type 0 where
  pub same : one_kept (digits 16 count bits) ≡ float x
  pub some : 0 < count

pub kept_all : (x : Float) {bits : ℕ} → bits ≡ to_bits binary64 x → Kept x bits 16
unfolding float
kept_all x e = record { same = ap (λ (n : ℕ). one_kept (digits 16 16 n)) e; some = omega arith }

zero_dropped : (count bits : ℕ) → 1 < count → bits % 16 ≡ 0 → one_kept (digits 16 count bits) ≡ one_kept (digits 16 (count - 1) (bits / 16))
zero_dropped count bits l z =
    let xs = digits 16 (count - 1 - 1) (bits / 16 / 16) in
    let y = glyph (bits / 16 % 16) in
    let inner : xs ++ (y ∷ []) ≡ digits 16 (count - 1) (bits / 16) = digits_more 16 (count - 1) (bits / 16) (omega arith) in
    let outer : digits 16 (count - 1) (bits / 16) ++ (48 ∷ []) ≡ digits 16 count bits =
    ap (λ (d : ℕ). digits 16 (count - 1) (bits / 16) ++ (d ∷ [])) (sym (ap glyph z ∙ low_glyph 0 (omega arith))) ∙ digits_more 16 count bits (omega arith) in
    ap one_kept (sym outer) ∙ ap (λ (t : List ℕ). one_kept (t ++ (48 ∷ []))) (sym inner) ∙ kept_zero xs y ∙ ap one_kept inner

kept_drop : {x : Float} {bits count : ℕ} → Kept x bits count → 1 < count → bits % 16 ≡ 0 → Kept x (bits / 16) (count - 1)
kept_drop {x} {bits} {count} k l z = record { same = sym (zero_dropped count bits l z) ∙ k.same; some = omega arith }

-- only one is left
one_digit : (bits : ℕ) → digits 16 1 bits ≡ one_kept (digits 16 1 bits)
unfolding digits trimmed
one_digit bits = refl

kept_one : {x : Float} {bits count : ℕ} → Kept x bits count → count ≤ 1 → digits 16 count bits ≡ float x
kept_one {x} {bits} {count} k l =
    let e : count ≡ 1 = omega (arith, k.some) in
    ap (λ (n : ℕ). digits 16 n bits) e ∙ one_digit bits ∙ ap (λ (n : ℕ). one_kept (digits 16 n bits)) (sym e) ∙ k.same

not_zero_lem : (d : ℕ) → d ≢ 0 → eqb (glyph d) 48 ≡ false
not_zero_lem d n = ne_eqb (glyph d) 48 (go (ltb d 10) refl)
  where
    go : (t : Bool) → ltb d 10 ≡ t → glyph d ≢ 48
    go true e q = n (omega (arith, sym (low_glyph d (ltb-true d 10 e)) ∙ q))
    go false e q = absurd (omega (arith, sym (high_glyph d (ltb-false d 10 e)) ∙ q))

-- the last is not zero
kept_rest : {x : Float} {bits count : ℕ} → Kept x bits count → bits % 16 ≢ 0 → digits 16 count bits ≡ float x
kept_rest {x} {bits} {count} k n =
    let xs = digits 16 (count - 1) (bits / 16) in
    let y = glyph (bits % 16) in
    let last : xs ++ (y ∷ []) ≡ digits 16 count bits = digits_more 16 count bits k.some in
    sym last ∙ sym (kept_digit xs y (not_zero_lem (bits % 16) n)) ∙ ap one_kept last ∙ k.same

-- ---- closing zeros, by the zeros that the bits end with

-- so many digits' bits
quads : ℕ → ℕ
quads zero = zero
quads (suc k) = suc (suc (suc (suc (quads k))))

-- four bits, and how many zeros the digits behind them begin with: all are 0 and count, or some bit is not
abbrev FourCases : ℕ → ℕ → ℕ → ℕ → ℕ → Type 0
FourCases a b c d t =
    (((a ≡ 0) × ((b ≡ 0) × ((c ≡ 0) × (d ≡ 0)))) × (under a (under b (under c (under d t))) ≡ 4 + t))
    ⊎ ((0 < a + (b + (c + d))) × (under a (under b (under c (under d t))) < 4))

four_cases : (a b c d t : ℕ) → FourCases a b c d t
four_cases zero zero zero zero t = inl ((refl, (refl, (refl, refl))), omega arith)
four_cases zero zero zero (suc d) t = inr (omega arith, omega arith)
four_cases zero zero (suc c) d t = inr (omega arith, omega arith)
four_cases zero (suc b) c d t = inr (omega arith, omega arith)
four_cases (suc a) b c d t = inr (omega arith, omega arith)

-- the last digit is 0 and four of the zeros are its, or it isn't and they are fewer
abbrev FourBits : ℕ → ℕ → Type 0
FourBits k n =
    ((n % 16 ≡ 0) × (count_trailing_zeros (suc (suc (suc (suc k)))) n ≡ 4 + count_trailing_zeros k (n / 16)))
    ⊎ ((n % 16 ≢ 0) × (count_trailing_zeros (suc (suc (suc (suc k)))) n < 4))

four_bits : (k n : ℕ) → FourBits k n
unfolding count_trailing_zeros
four_bits k n = go (four_cases (n % 2) (n / 2 % 2) (n / 2 / 2 % 2) (n / 2 / 2 / 2 % 2) (count_trailing_zeros k rest))
  where
    rest : ℕ
    rest = n / 2 / 2 / 2 / 2

    halved : n / 2 / 2 / 2 / 2 ≡ n / 16
    halved = omega arith

    go : FourCases (n % 2) (n / 2 % 2) (n / 2 / 2 % 2) (n / 2 / 2 / 2 % 2) (count_trailing_zeros k rest) → FourBits k n
    go (inl h) =
        let a : n % 2 ≡ 0 = h.0.0 in
        let b : n / 2 % 2 ≡ 0 = h.0.1.0 in
        let c : n / 2 / 2 % 2 ≡ 0 = h.0.1.1.0 in
        let d : n / 2 / 2 / 2 % 2 ≡ 0 = h.0.1.1.1 in
        inl (omega arith, h.1 ∙ ap (λ (m : ℕ). 4 + count_trailing_zeros k m) halved)
    go (inr h) =
        let s : 0 < n % 2 + (n / 2 % 2 + (n / 2 / 2 % 2 + n / 2 / 2 / 2 % 2)) = h.0 in
        inr (λ (z : n % 16 ≡ 0). omega arith, h.1)

-- nothing is dropped
none_dropped : (x : Float) (m bits : ℕ) → digits 16 (suc m) bits ≡ float x → (z : ℕ) → z ≡ 0
    → digits 16 (suc m - z) (bits / 2 ^ (4 * z)) ≡ float x
none_dropped x m bits e z q =
    let all : suc m - z ≡ suc m = omega (arith, q) in
    let none : 4 * z ≡ 0 = omega (arith, q) in
    let one : bits / 1 ≡ bits = omega arith in
    ap (λ (k : ℕ). digits 16 k (bits / 2 ^ (4 * z))) all
    ∙ ap (λ (k : ℕ). digits 16 (suc m) (bits / 2 ^ k)) none
    ∙ ap (digits 16 (suc m)) one
    ∙ e

-- as many of the last digits as there are whole fours of zeros, but for the first digit
abbrev DroppedAll : Float → ℕ → ℕ → Type 0
DroppedAll x m bits =
    Kept x bits (suc m) → (z : ℕ) → z ≡ min (count_trailing_zeros (quads (suc m)) bits / 4) m
    → digits 16 (suc m - z) (bits / 2 ^ (4 * z)) ≡ float x

one_dropped : (x : Float) (m bits : ℕ) → DroppedAll x m (bits / 16) → FourBits (quads (suc m)) bits
    → DroppedAll x (suc m) bits
unfolding quads
one_dropped x m bits rest (inl h) k z e =
    let more : count_trailing_zeros (quads (suc (suc m))) bits ≡ 4 + count_trailing_zeros (quads (suc m)) (bits / 16) = h.1 in
    let y = min (count_trailing_zeros (quads (suc m)) (bits / 16) / 4) m in
    let s : z ≡ suc y = omega (arith, e, more) in
    let less : suc (suc m) - 1 ≡ suc m = omega arith in
    let fewer : suc (suc m) - z ≡ suc m - y = omega (arith, s) in
    let four : 4 * z ≡ 4 + 4 * y = omega (arith, s) in
    let divided : bits / 2 ^ (4 * z) ≡ bits / 16 / 2 ^ (4 * y) =
    ap (λ (p : ℕ). bits / 2 ^ p) four ∙ sym (shr-shr bits 4 (4 * y)) in
    ap (λ (c : ℕ). digits 16 c (bits / 2 ^ (4 * z))) fewer
    ∙ ap (digits 16 (suc m - y)) divided
    ∙ rest (subst (Kept x (bits / 16)) less (kept_drop k (omega arith) h.0)) y refl
one_dropped x m bits rest (inr h) k z e =
    let few : count_trailing_zeros (quads (suc (suc m))) bits < 4 = h.1 in
    none_dropped x (suc m) bits (kept_rest k h.0) z (omega (arith, e, few))

zeros_dropped : (x : Float) (m bits : ℕ) → DroppedAll x m bits
zeros_dropped x zero bits = λ k z e. none_dropped x zero bits (kept_one k (omega arith)) z (omega (arith, e))
zeros_dropped x (suc m) bits = one_dropped x m bits (zeros_dropped x m (bits / 16)) (four_bits (quads (suc m)) bits)

-- the digits of a float's bits: 64 of them, four to a digit
pub float_digits : (x : Float) {bits z : ℕ} → bits ≡ to_bits binary64 x → z ≡ min (count_trailing_zeros 64 bits / 4) 15
    → digits 16 (16 - z) (bits / 2 ^ (4 * z)) ≡ float x
unfolding quads
float_digits x {bits} {z} e q = zeros_dropped x 15 bits (kept_all x e) z q
