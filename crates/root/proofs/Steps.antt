-- Laws of the root's steps: the digit loop's turns, moving a subnormal number's digits up, and splitting an exponent into a power of four and a rest.
use mathlib.Core.Path.{◌≡◌, refl, sym, ap, ◌∙◌, subst}
use Prim.Native.Nat.{ℕ, suc, ◌+◌, ◌-◌, ◌*◌, ◌/◌, ◌%◌, ◌^◌, ◌≤◌, ◌<◌}
use native.Mathlib.Nat.{le_trans, lt_of_lt_of_le, lt_of_not-le, not-le_of_lt, mul_assoc, mul-le-mul_right, pow-succ', mod-eq_of_lt, div-eq_of_lt}
use native.Mathlib.Numerals.{add-one}
use native.Mathlib.Omega.{arith}
use lib.Count.{count_leading_zeros, leading_top}
use lib.Pow.{pow-add, pow_mono, pow_pos}
use lib.Ieee.{Format, binary64, hid, low}
use Rattle.root.specs.Steps.{magnitude_at, magnitude, Significant, Scales, Rooted}
use Rattle.root.proofs.Whole.{square_back}

-- ---- the digit loop

-- After i turns q is the whole root of the i leading pairs of binary digits of a, r what is left over, and `left` the digits to come, moved up.
pub record Turned (a i q r left : ℕ) : Type 0 where
  pub value : (q * q + r) * 18014398509481984 + left ≡ a * 4 ^ i
  pub rest : r ≤ 2 * q
  pub small : q < 2 ^ i
  pub part : left < 18014398509481984
  pub turns : i ≤ 53

pub none_turned : (a : ℕ) → a < 18014398509481984 → Turned a 0 0 0 a
none_turned a h = record { value = omega arith; rest = omega arith; small = omega arith; part = h; turns = omega arith }

pub turned_small : {a i q r left : ℕ} → Turned a i q r left → q < 9007199254740992
turned_small t = lt_of_lt_of_le t.small (pow_mono t.turns)

power : (b i : ℕ) → b ^ (i + 1) ≡ b * b ^ i
power b i = ap (λ (x : ℕ). b ^ x) (add-one i) ∙ pow-succ' b i

value_next : (a i q r left s : ℕ) → (q * q + r) * 18014398509481984 + left ≡ a * 4 ^ i → s ≡ 4 * (q * q) + (r * 4 + left / 4503599627370496)
    → s * 18014398509481984 + left % 4503599627370496 * 4 ≡ a * 4 ^ (i + 1)
value_next a i q r left s e d =
    let p : a * 4 ^ (i + 1) ≡ a * (4 * 4 ^ i) = ap (λ (x : ℕ). a * x) (power 4 i) in
    omega arith

pub turned_up : {a i q r left : ℕ} → Turned a i q r left → i < 53 → q * 4 + 1 ≤ r * 4 + left / 4503599627370496
    → Turned a (i + 1) (q * 2 + 1) (r * 4 + left / 4503599627370496 - (q * 4 + 1)) (left % 4503599627370496 * 4)
turned_up {a} {i} {q} {r} {left} t h g =
    let p : 2 ^ (i + 1) ≡ 2 * 2 ^ i = power 2 i in
    let u : r ≤ 2 * q = t.rest in
    let v : left < 18014398509481984 = t.part in
    let w : q < 2 ^ i = t.small in
    let s = (q * 2 + 1) * (q * 2 + 1) + (r * 4 + left / 4503599627370496 - (q * 4 + 1)) in
    let e : s ≡ 4 * (q * q) + (r * 4 + left / 4503599627370496) = omega arith in
    record { value = value_next a i q r left s t.value e; rest = omega arith; small = omega arith; part = omega arith; turns = omega arith }

pub turned_same : {a i q r left : ℕ} → Turned a i q r left → i < 53 → r * 4 + left / 4503599627370496 < q * 4 + 1
    → Turned a (i + 1) (q * 2) (r * 4 + left / 4503599627370496) (left % 4503599627370496 * 4)
turned_same {a} {i} {q} {r} {left} t h g =
    let p : 2 ^ (i + 1) ≡ 2 * 2 ^ i = power 2 i in
    let w : q < 2 ^ i = t.small in
    let s = q * 2 * (q * 2) + (r * 4 + left / 4503599627370496) in
    let e : s ≡ 4 * (q * q) + (r * 4 + left / 4503599627370496) = omega arith in
    record { value = value_next a i q r left s t.value e; rest = omega arith; small = omega arith; part = omega arith; turns = omega arith }

-- the same after an `if`, whose locals have other names
pub turned_at : {a i q r left q' r' : ℕ} → q' ≡ q → r' ≡ r → Turned a i q r left → Turned a i q' r' left
turned_at {a} {i} {q} {r} {left} {q'} {r'} e d t = subst (λ (x : ℕ). Turned a i x r' left) (sym e) (subst (λ (x : ℕ). Turned a i q x left) (sym d) t)

all_digits : (s left a : ℕ) → s * 18014398509481984 + left ≡ a * 81129638414606681695789005144064 → left < 18014398509481984 → s ≡ a * 4503599627370496
all_digits s left a e h = omega arith

-- the root of a number that has its leading digit in place has it too
pub rooted : (a q r : ℕ) → 4503599627370496 ≤ a → q < 9007199254740992 → q * q + r ≡ a * 4503599627370496 → r ≤ 2 * q → Rooted a q r
rooted a q r l s v m = record { value = v; rest = m; least = next 4503599627370496 q large; most = s }
  where
    reached : (s a H : ℕ) → s ≡ a * H → H ≤ a → H * H ≤ s
    reached s a H e h = subst (λ (x : ℕ). H * H ≤ x) (sym e) (mul-le-mul_right H h)

    beyond : (s q r : ℕ) → s ≤ q * q + r → r ≤ 2 * q → s < (q + 1) * (q + 1)
    beyond s q r g m = omega arith

    next : (a b : ℕ) → a < b + 1 → a ≤ b
    next a b h = omega arith

    large : 4503599627370496 < q + 1
    large =
        square_back 4503599627370496 (q + 1)
        (beyond (4503599627370496 * 4503599627370496) q r (reached (q * q + r) a 4503599627370496 v l) m)

pub turned_all : {a i q r left : ℕ} → Turned a i q r left → 53 ≤ i → 4503599627370496 ≤ a → Rooted a q r
turned_all {a} {i} {q} {r} {left} t h l =
    let z : i ≡ 53 = let u : i ≤ 53 = t.turns in omega arith in
    rooted a q r l (turned_small t)
    (all_digits (q * q + r) left a (subst (λ (n : ℕ). (q * q + r) * 18014398509481984 + left ≡ a * 4 ^ n) z t.value) t.part)
    t.rest

-- ---- the significand

magnitude_is : (f : Format) (b x t : ℕ) → b / hid f ≡ x → b % hid f ≡ t → magnitude f b ≡ magnitude_at f x t
unfolding magnitude
magnitude_is f b x t p q = ap (λ (n : ℕ). magnitude_at f n (b % hid f)) p ∙ ap (magnitude_at f x) q

pub magnitude_low : (f : Format) (b : ℕ) → b < hid f → magnitude f b ≡ b
unfolding magnitude_at
magnitude_low f b h = magnitude_is f b 0 b (div-eq_of_lt h) (mod-eq_of_lt h)

pub magnitude_high : (f : Format) (b x : ℕ) → b / hid f ≡ suc x → magnitude f b ≡ (hid f + b % hid f) * 2 ^ x
unfolding magnitude_at
magnitude_high f b x e = magnitude_is f b (suc x) (b % hid f) e refl

-- t's leading digit has place j, and so many zeros stand before it in 64 digits.
pub record Top (t zeros : ℕ) : Type 0 where
  pub j : ℕ
  pub before : zeros + suc j ≡ 64
  pub least : 2 ^ j ≤ t
  pub most : t < 2 ^ suc j

pub top_of : (t : ℕ) → 0 < t → t < 18446744073709551616 → Top t (count_leading_zeros 64 t)
top_of t h s = let w = leading_top 64 t h s in record { j = w.0; before = w.1; least = w.2; most = w.3 }

below_hid : (t j : ℕ) → 2 ^ j ≤ t → t < 4503599627370496 → j < 52
below_hid t j g h = lt_of_not-le (λ (e : 52 ≤ j). not-le_of_lt h (le_trans (pow_mono e) g))

-- the zeros before the leading digit's place of a significand, at least
pub zeros_enough : {t zeros : ℕ} → Top t zeros → t < 4503599627370496 → 11 < zeros
zeros_enough {t} {zeros} w h =
    let a : w.j < 52 = below_hid t w.j w.least h in
    let e : zeros + suc w.j ≡ 64 = w.before in
    omega arith

-- m * 2 ^ y is v * 2 ^ l where m is v moved up by l - y places
moved_value : (v m y i l : ℕ) → y + i ≡ l → m ≡ v * 2 ^ i → m * 2 ^ y ≡ v * 2 ^ l
moved_value v m y i l p e =
    let a : 2 ^ l ≡ 2 ^ y * 2 ^ i = ap (λ (x : ℕ). 2 ^ x) (sym p) ∙ pow-add 2 y i in
    ap (λ (x : ℕ). x * 2 ^ y) e ∙ swap v (2 ^ i) (2 ^ y) ∙ ap (λ (x : ℕ). v * x) (sym a)
  where
    swap : (a b c : ℕ) → a * b * c ≡ a * (c * b)
    swap a b c = omega arith

-- a subnormal number's digits, moved up until the leading one is in its place
moved_by : {t zeros : ℕ} → Top t zeros → t < 4503599627370496
    → Significant t (t * 2 ^ (zeros - 11)) (1074 - (zeros - 11))
moved_by {t} {zeros} w s =
    let a : w.j < 52 = below_hid t w.j w.least s in
    let e : zeros + suc w.j ≡ 64 = w.before in
    let i = zeros - 11 in
    let p : w.j + i ≡ 52 = omega arith in
    let d : 2 ^ (w.j + i) ≡ 2 ^ w.j * 2 ^ i = pow-add 2 w.j i in
    let m : 2 ^ (w.j + i) ≡ 2 ^ 52 = ap (λ (x : ℕ). 2 ^ x) p in
    let f : 2 ^ suc w.j * 2 ^ i ≡ 2 * 2 ^ w.j * 2 ^ i = ap (λ (x : ℕ). x * 2 ^ i) (pow-succ' 2 w.j) in
    let g : 2 ^ w.j * 2 ^ i ≤ t * 2 ^ i = mul-le-mul_right (2 ^ i) w.least in
    let h : suc t * 2 ^ i ≤ 2 ^ suc w.j * 2 ^ i = mul-le-mul_right (2 ^ i) w.most in
    let z : 1 ≤ 2 ^ i = pow_pos i in
    record {
      value =
          moved_value t (t * 2 ^ i) (1074 - i) i 1074 (omega arith) refl
          ∙ ap (λ (x : ℕ). x * 2 ^ low binary64) (sym (magnitude_low binary64 t s));
      least = omega arith;
      most = omega arith;
      above = omega arith;
      under = omega arith;
    }

pub moved_up : {t zeros : ℕ} → Top t zeros → t < 4503599627370496
    → Significant t (t * 2 ^ (zeros - 11) % 18446744073709551616) (1074 - (zeros - 11))
moved_up {t} {zeros} w s =
    let v = moved_by w s in
    let h : t * 2 ^ (zeros - 11) < 9007199254740992 = v.most in
    subst (λ (m : ℕ). Significant t m (1074 - (zeros - 11))) (sym (mod-eq_of_lt (omega arith))) v

-- a normal number: its field counts the places above the smallest value, less one
normal_value : (v x y l : ℕ) → y ≡ x + l → v * 2 ^ y ≡ v * 2 ^ x * 2 ^ l
normal_value v x y l e = ap (λ (n : ℕ). v * 2 ^ n) e ∙ ap (λ (n : ℕ). v * n) (pow-add 2 x l) ∙ sym (mul_assoc v (2 ^ x) (2 ^ l))

pub normal_significant : (b : ℕ) → b < 9218868437227405312 → 1 ≤ b / 4503599627370496 → Significant b (4503599627370496 + b % 4503599627370496) (b / 4503599627370496 + 1073)
normal_significant b h g =
    let x = b / 4503599627370496 - 1 in
    let e : b / 4503599627370496 ≡ suc x = omega arith in
    record {
      value =
          normal_value (4503599627370496 + b % 4503599627370496) x (b / 4503599627370496 + 1073) 1074 (omega arith)
          ∙ ap (λ (n : ℕ). n * 2 ^ low binary64) (sym (magnitude_high binary64 b x e));
      least = omega arith;
      most = omega arith;
      above = omega arith;
      under = omega arith;
    }

-- ---- a power of four and a rest

four_value : (a m y k c : ℕ) → a ≡ m * 2 ^ c → c + (52 + (k + k)) ≡ y → a * 4503599627370496 * (2 ^ k * 2 ^ k) ≡ m * 2 ^ y
four_value a m y k c e p =
    let K = 2 ^ k in
    let q : 2 ^ y ≡ 2 ^ c * (4503599627370496 * (K * K)) =
    ap (λ (x : ℕ). 2 ^ x) (sym p) ∙ pow-add 2 c (52 + (k + k)) ∙ ap (λ (x : ℕ). 2 ^ c * x) (pow-add 2 52 (k + k) ∙ ap (λ (x : ℕ). 4503599627370496 * x) (pow-add 2 k k)) in
    ap (λ (x : ℕ). x * 4503599627370496 * (K * K)) e ∙ swap m (2 ^ c) 4503599627370496 (K * K) ∙ ap (λ (x : ℕ). m * x) (sym q)
  where
    swap : (a b c d : ℕ) → a * b * c * d ≡ a * (b * (c * d))
    swap a b c d = mul_assoc (a * b) c d ∙ mul_assoc a b (c * d)

pub even_scales : {b m y : ℕ} → Significant b m y → y % 2 ≡ 0 → Scales b m ((y - 52) / 2)
even_scales {b} {m} {y} s e =
    let l : 1000 ≤ y = s.above in
    let u : y ≤ 3119 = s.under in
    let v : m < 9007199254740992 = s.most in
    record { value = four_value m m y ((y - 52) / 2) 0 (omega arith) (omega arith) ∙ s.value; least = s.least; most = omega arith; under = omega arith }

pub odd_scales : {b m y : ℕ} → Significant b m y → (y % 2 ≡ 0 → ⊥) → Scales b (m * 2) ((y - 52) / 2)
odd_scales {b} {m} {y} s e =
    let l : 1000 ≤ y = s.above in
    let u : y ≤ 3119 = s.under in
    let v : m < 9007199254740992 = s.most in
    let w : 4503599627370496 ≤ m = s.least in
    record { value = four_value (m * 2) m y ((y - 52) / 2) 1 (omega arith) (omega arith) ∙ s.value; least = omega arith; most = omega arith; under = omega arith }
