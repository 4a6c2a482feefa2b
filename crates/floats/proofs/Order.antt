-- The order of floats as a program's tests see it, and that a rounded sum of two sizes is no smaller than the first, and a rounded difference no larger.
-- A comparison's result is a Bool equation here, since a branch gives that. Assumes nothing.
use mathlib.Core.Path.{◌≡◌, refl, sym, ap, ◌∙◌, subst}
use mathlib.Core.Bool.{Bool, true, false, not, ◌&&◌, ◌||◌, beq, cond}
use Prim.Native.Nat.{ℕ, zero, suc, ◌+◌, ◌-◌, ◌*◌, ◌/◌, ◌%◌, ◌^◌, ◌≤◌, ◌<◌}
use native.Mathlib.Nat.{le_refl, mul-le-mul_right, le_of_mul-le-mul_right, mul-lt-mul_of_pos_right, lt_of_mul-lt-mul_right, mul-pos}
use native.Mathlib.Omega.{arith}
use borrow.Author.Tests.{ltb-true, ltb-false, eqb-true, not-true, not-false, lt-ltb, le-ltb, lt-leb, eq-eqb, ne_eqb}
use lib.Dec.{T, ltb, leb, eqb, ltb→lt, leb→le}
use lib.IntN.{ℤ, pos, negsuc}
use lib.Pow.{pow_pos, pow-lt, pow-add}
use lib.Ieee.{Float, nan, inf, fin, Format, binary64, prec, emax, low, up, down, top, ones, hid, odd, units, round, sum, add, sub, below, level, lt, le, is_nan, fits, of_fields, of_bits, to_bits}
use lib.Ieee.Bits.{of_bits-fits, of_bits-to_bits, is_true}
use lib.Ieee.Exact.{HasValue, odd_sign, round_exact}
use lib.Ieee.Fits.{up_pos, down_pos, round_is, and_l, and_r}
use lib.Ieee.Order.{transfer, round_mono, kept, drop}
use lib.Ieee.Scale.{finite}
use Rattle.laws.proofs.Truth.{never}
use Rattle.floats.specs.Floats.{table_float, book_float, book_value, Size}

-- ---- two signed numbers: ±a < ±b is one comparison of sums without signs

-- the part of ±a above zero, and the part below
abbrev over : Bool → ℕ → ℕ
over true a = 0
over false a = a

abbrev under : Bool → ℕ → ℕ
under true a = a
under false a = 0

-- two tests that pass together
same_lt : (a b c d : ℕ) → (a < b → c < d) → (b ≤ a → d ≤ c) → ltb a b ≡ ltb c d
same_lt a b c d f g = go (ltb a b) refl
  where
    go : (t : Bool) → ltb a b ≡ t → t ≡ ltb c d
    go true e = sym (lt-ltb c d (f (ltb-true a b e)))
    go false e = sym (le-ltb c d (g (ltb-false a b e)))

below_is : (s : Bool) (x q : ℕ) (t : Bool) (y p : ℕ) → below s (x * q) t (y * p) ≡ ltb (over s x * q + under t y * p) (over t y * p + under s x * q)
below_is true x q true y p = same_lt (y * p) (x * q) (0 * q + y * p) (0 * p + x * q) (λ (h : y * p < x * q). omega arith) (λ (h : x * q ≤ y * p). omega arith)
below_is true x q false y p = same_lt 0 (x * q + y * p) (0 * q + 0 * p) (y * p + x * q) (λ (h : 0 < x * q + y * p). omega arith) (λ (h : x * q + y * p ≤ 0). omega arith)
below_is false x q true y p = sym (le-ltb (x * q + y * p) (0 * p + 0 * q) (omega arith))
below_is false x q false y p = same_lt (x * q) (y * p) (x * q + 0 * p) (y * p + 0 * q) (λ (h : x * q < y * p). omega arith) (λ (h : y * p ≤ x * q). omega arith)

-- three fractions over positive denominators: (a - u) / p ≥ (b - v) / q ≥ (c - w) / r
chain : (a u p b v q c w r : ℕ) → 0 < q → b * p + u * q ≤ a * q + v * p → c * q + v * r ≤ b * r + w * q → c * p + u * r ≤ a * r + w * p
chain a u p b v q c w r Q h k =
    let h' : (b * p + u * q) * r ≤ (a * q + v * p) * r = mul-le-mul_right r h in
    let k' : (c * q + v * r) * p ≤ (b * r + w * q) * p = mul-le-mul_right p k in
    let g : (c * p + u * r) * q ≤ (a * r + w * p) * q = omega arith in
    le_of_mul-le-mul_right g Q

fin_lt : (s : Bool) (m : ℕ) (e : ℤ) (t : Bool) (n : ℕ) (d : ℤ)
    → lt (fin s m e) (fin t n d) ≡ ltb (over s (m * up e) * down d + under t (n * up d) * down e) (over t (n * up d) * down e + under s (m * up e) * down d)
unfolding lt
fin_lt s m e t n d = below_is s (m * up e) (down d) t (n * up d) (down e)

fin_chain : (s : Bool) (m : ℕ) (e : ℤ) (t : Bool) (n : ℕ) (d : ℤ) (u : Bool) (k : ℕ) (g : ℤ)
    → lt (fin s m e) (fin t n d) ≡ false → lt (fin t n d) (fin u k g) ≡ false → lt (fin s m e) (fin u k g) ≡ false
fin_chain s m e t n d u k g p q =
    let x = m * up e in
    let y = n * up d in
    let z = k * up g in
    let a : over t y * down e + under s x * down d ≤ over s x * down d + under t y * down e =
    ltb-false (over s x * down d + under t y * down e) (over t y * down e + under s x * down d) (sym (fin_lt s m e t n d) ∙ p) in
    let b : over u z * down d + under t y * down g ≤ over t y * down g + under u z * down d =
    ltb-false (over t y * down g + under u z * down d) (over u z * down d + under t y * down g) (sym (fin_lt t n d u k g) ∙ q) in
    fin_lt s m e u k g
    ∙ le-ltb (over s x * down g + under u z * down e) (over u z * down e + under s x * down g)
    (chain (over s x) (under s x) (down e) (over t y) (under t y) (down d) (over u z) (under u z) (down g) (down_pos d) a b)

-- what is not below a number that is not below a third is not below the third
not_lt_trans : (a b c : Float) → is_nan b ≡ false → lt a b ≡ false → lt b c ≡ false → lt a c ≡ false
unfolding lt is_nan
not_lt_trans nan b c n h k = refl
not_lt_trans (inf u) b nan n h k = refl
not_lt_trans (fin u m e) b nan n h k = refl
not_lt_trans (inf u) nan (inf t) n h k = never n
not_lt_trans (inf u) nan (fin t l g) n h k = never n
not_lt_trans (fin u m e) nan (inf t) n h k = never n
not_lt_trans (fin u m e) nan (fin t l g) n h k = never n
not_lt_trans (inf false) (inf s) (inf t) n h k = refl
not_lt_trans (inf true) (inf true) (inf t) n h k = k
not_lt_trans (inf true) (inf false) (inf t) n h k = never h
not_lt_trans (inf false) (inf s) (fin t l g) n h k = refl
not_lt_trans (inf true) (inf true) (fin t l g) n h k = k
not_lt_trans (inf true) (inf false) (fin t l g) n h k = h
not_lt_trans (inf true) (fin s m e) (inf t) n h k = never h
not_lt_trans (inf false) (fin s m e) (inf t) n h k = refl
not_lt_trans (inf u) (fin s m e) (fin t l g) n h k = h
not_lt_trans (fin u m e) (inf true) (inf t) n h k = k
not_lt_trans (fin u m e) (inf false) (inf t) n h k = never h
not_lt_trans (fin u m e) (inf true) (fin t l g) n h k = never k
not_lt_trans (fin u m e) (inf false) (fin t l g) n h k = never h
not_lt_trans (fin u m e) (fin s j d) (inf t) n h k = k
not_lt_trans (fin u m e) (fin s j d) (fin t l g) n h k = fin_chain u m e s j d t l g h k

-- ---- `le` is the other one's `lt`, negated

weak : (a b : ℕ) (same : Bool) → (a ≡ b → same ≡ true) → ((a ≡ b → ⊥) → same ≡ false) → (ltb a b || same) ≡ not (ltb b a)
weak a b same f g = go (ltb a b) refl (ltb b a) refl
  where
    go : (s : Bool) → ltb a b ≡ s → (t : Bool) → ltb b a ≡ t → (s || same) ≡ not t
    go true p true q =
        let h : a < b = ltb-true a b p in
        let k : b < a = ltb-true b a q in
        absurd (omega arith)
    go true p false q = refl
    go false p true q =
        let k : b < a = ltb-true b a q in
        g (λ (e : a ≡ b). omega arith)
    go false p false q =
        let h : b ≤ a = ltb-false a b p in
        let k : a ≤ b = ltb-false b a q in
        f (omega arith)

-- of two unlike signs only the zeros are level
apart : (a b : ℕ) → (eqb a b && eqb a 0) ≡ not (ltb 0 (b + a))
apart a b = go (eqb a b) refl (eqb a 0) refl (ltb 0 (b + a)) refl
  where
    go : (s : Bool) → eqb a b ≡ s → (t : Bool) → eqb a 0 ≡ t → (r : Bool) → ltb 0 (b + a) ≡ r → (s && t) ≡ not r
    go s e t g false p =
        let h : b + a ≤ 0 = ltb-false 0 (b + a) p in
        rw (sym e, sym g, eq-eqb a b (omega arith), eq-eqb a 0 (omega arith))
    go true e true g true p =
        let h : 0 < b + a = ltb-true 0 (b + a) p in
        let i : a ≡ b = eqb-true a b e in
        let j : a ≡ 0 = eqb-true a 0 g in
        absurd (omega arith)
    go true e false g true p = refl
    go false e t g true p = refl

below_not : (s : Bool) (a : ℕ) (t : Bool) (b : ℕ) → (below s a t b || level s a t b) ≡ not (below t b s a)
below_not true a true b = weak b a (eqb a b && true) (λ (e : b ≡ a). rw (eq-eqb a b (sym e))) (λ (h : b ≡ a → ⊥). rw (ne_eqb a b (λ (e : a ≡ b). h (sym e))))
below_not true a false b = go (ltb 0 (a + b)) refl
  where
    go : (t : Bool) → ltb 0 (a + b) ≡ t → (t || (eqb a b && eqb a 0)) ≡ true
    go true p = refl
    go false p =
        let h : a + b ≤ 0 = ltb-false 0 (a + b) p in
        rw (eq-eqb a b (omega arith), eq-eqb a 0 (omega arith))
below_not false a true b = apart a b
below_not false a false b = weak a b (eqb a b && true) (λ (e : a ≡ b). rw (eq-eqb a b e)) (λ (h : a ≡ b → ⊥). rw (ne_eqb a b h))

le_not : (a b : Float) → is_nan a ≡ false → is_nan b ≡ false → le a b ≡ not (lt b a)
unfolding is_nan le
le_not nan b n k = never n
le_not (inf s) nan n k = never k
le_not (fin s m e) nan n k = never k
le_not (inf true) (inf true) n k = refl
le_not (inf true) (inf false) n k = refl
le_not (inf false) (inf true) n k = refl
le_not (inf false) (inf false) n k = refl
le_not (inf true) (fin t m e) n k = refl
le_not (inf false) (fin t m e) n k = refl
le_not (fin s m e) (inf true) n k = refl
le_not (fin s m e) (inf false) n k = refl
le_not (fin s m e) (fin t l d) n k = below_not s (m * up e * down d) t (l * up d * down e)

-- ---- the laws of the order

-- What passed `le` is no NaN, on the left
pub le_number_left : (a b : Float) → le a b ≡ true → is_nan a ≡ false
unfolding le is_nan
le_number_left nan b h = sym h
le_number_left (inf s) b h = refl
le_number_left (fin s m e) b h = refl

-- What passed `le` is no NaN, on the right
pub le_number_right : (a b : Float) → le a b ≡ true → is_nan b ≡ false
unfolding le is_nan
le_number_right nan nan h = sym h
le_number_right (inf s) nan h = sym h
le_number_right (fin s m e) nan h = sym h
le_number_right a (inf s) h = refl
le_number_right a (fin s m e) h = refl

-- What is below is at most
pub lt_le : (a b : Float) → lt a b ≡ true → le a b ≡ true
unfolding le
lt_le a b h = rw h

-- Of two numbers, if the first is not below the second, then the second is at most the first
pub not_lt : (a b : Float) → is_nan a ≡ false → is_nan b ≡ false → lt a b ≡ false → le b a ≡ true
not_lt a b n k h = le_not b a k n ∙ ap not h

-- Of two numbers, if the first is not at most the second, then the second is below the first
pub not_le : (a b : Float) → is_nan a ≡ false → is_nan b ≡ false → le a b ≡ false → lt b a ≡ true
not_le a b n k h = not-false (lt b a) (sym (le_not a b n k) ∙ h)

-- What is at most another is not above it
pub le_not_lt : (a b : Float) → le a b ≡ true → lt b a ≡ false
le_not_lt a b h = not-true (lt b a) (sym (le_not a b (le_number_left a b h) (le_number_right a b h)) ∙ h)

-- What is below another is not above it
pub lt_asym : (a b : Float) → lt a b ≡ true → lt b a ≡ false
lt_asym a b h = le_not_lt a b (lt_le a b h)

-- A number is at most itself
pub le_self : (a : Float) → is_nan a ≡ false → le a a ≡ true
le_self a n = not_lt a a n n (go (lt a a) refl)
  where
    go : (t : Bool) → lt a a ≡ t → lt a a ≡ false
    go true e = lt_asym a a e
    go false e = e

-- At most, twice
pub le_trans : (a b c : Float) → le a b ≡ true → le b c ≡ true → le a c ≡ true
le_trans a b c h k =
    not_lt c a (le_number_right b c k) (le_number_left a b h)
    (not_lt_trans c b a (le_number_left b c k) (le_not_lt b c k) (le_not_lt a b h))

-- At most, then below
pub le_lt_trans : (a b c : Float) → le a b ≡ true → lt b c ≡ true → lt a c ≡ true
le_lt_trans a b c h k = go (lt a c) refl
  where
    go : (t : Bool) → lt a c ≡ t → t ≡ true
    go true e = refl
    go false e = never (sym k ∙ not_lt_trans b a c (le_number_left a b h) (le_not_lt a b h) e)

-- Below, then at most
pub lt_le_trans : (a b c : Float) → lt a b ≡ true → le b c ≡ true → lt a c ≡ true
lt_le_trans a b c h k = go (lt a c) refl
  where
    go : (t : Bool) → lt a c ≡ t → t ≡ true
    go true e = refl
    go false e = never (sym h ∙ not_lt_trans a c b (le_number_right b c k) e (le_not_lt b c k))

-- Below, twice
pub lt_trans : (a b c : Float) → lt a b ≡ true → lt b c ≡ true → lt a c ≡ true
lt_trans a b c h k = le_lt_trans a b c (lt_le a b h) k

-- ---- no result of rounding is a NaN, and one with the sign set is at most zero

abbrev origin : Float
origin = fin false 0 (pos 0)

odd_number : (d : ℕ) (s : Bool) (q k l : ℕ) → is_nan (odd d s q k l) ≡ false
unfolding is_nan odd
odd_number d s zero k l = refl
odd_number d s (suc q) k l = refl

cond_number : (b : Bool) (x y : Float) → is_nan x ≡ false → is_nan y ≡ false → is_nan (cond b x y) ≡ false
cond_number true x y h k = h
cond_number false x y h k = k

inf_number : (s : Bool) → is_nan (inf s) ≡ false
unfolding is_nan
inf_number s = refl

fin_number : (s : Bool) (m : ℕ) (e : ℤ) → is_nan (fin s m e) ≡ false
unfolding is_nan
fin_number s m e = refl

units_number : (f : Format) (s : Bool) (q k : ℕ) → is_nan (units f s q k) ≡ false
unfolding units
units_number f s q k =
    cond_number (ltb (q * 2 ^ k) (2 ^ (low f + suc (emax f)))) (odd (suc (prec f)) s q k (low f)) (inf s) (odd_number (suc (prec f)) s q k (low f)) (inf_number s)

pub round_number : (f : Format) (s : Bool) (n c : ℕ) → is_nan (round f s n c) ≡ false
round_number f s n c = rw (round_is f s n c) (units_number f s (kept (prec f) (n * 2 ^ low f) c) (drop (prec f) (n * 2 ^ low f) c))

odd_low : (d q k l : ℕ) → le (odd d true q k l) origin ≡ true
unfolding lt is_nan
odd_low d q k l = go (odd d true q k l) (odd_sign d true q k l)
  where
    go : (x : Float) → HasValue x true (q * 2 ^ k) (2 ^ l) → le x origin ≡ true
    go nan v = absurd v
    go (inf s) v = absurd v
    go (fin true m e) v = le_not (fin true m e) origin refl refl
    go (fin false m e) v = never (sym v.0)

units_low : (f : Format) (q k : ℕ) → le (units f true q k) origin ≡ true
unfolding units
units_low f q k = go (ltb (q * 2 ^ k) (2 ^ (low f + suc (emax f))))
  where
    go : (b : Bool) → le (cond b (odd (suc (prec f)) true q k (low f)) (inf true)) origin ≡ true
    go true = odd_low (suc (prec f)) q k (low f)
    go false = unfold le in refl

round_low : (f : Format) (n c : ℕ) → le (round f true n c) origin ≡ true
round_low f n c = rw (round_is f true n c) (units_low f (kept (prec f) (n * 2 ^ low f) c) (drop (prec f) (n * 2 ^ low f) c))

-- ---- values that are not below zero, a zero of either sign among them, as fractions

-- x is finite, not below zero, and a / c
abbrev Worth : Float → ℕ → ℕ → Type 0
Worth nan a c = ⊥
Worth (inf s) a c = ⊥
Worth (fin s m e) a c = (s ≡ true → m ≡ 0) × (m * up e * c ≡ a * down e)

no_factor : (m u : ℕ) → 0 < u → m * u ≤ 0 → m ≡ 0
no_factor zero u U h = refl
no_factor (suc m) u U h = absurd (omega arith)

worth_of_value : (x : Float) (s : Bool) (a c : ℕ) → 0 < c → (s ≡ true → a ≡ 0) → HasValue x s a c → Worth x a c
worth_of_value nan s a c C z v = v
worth_of_value (inf t) s a c C z v = v
worth_of_value (fin t m e) s a c C z v = (λ (p : t ≡ true). none (z (sym v.0 ∙ p)), v.1)
  where
    none : a ≡ 0 → m ≡ 0
    none h =
        let g : m * up e * c ≡ a * down e = v.1 in
        let k : a * down e ≡ 0 * down e = ap (λ (i : ℕ). i * down e) h in
        no_factor m (up e) (up_pos e) (le_of_mul-le-mul_right (omega arith) C)

-- without a sign, but at zero, the number is the part above zero
above_part : (s : Bool) (m u : ℕ) → (s ≡ true → m ≡ 0) → over s (m * u) ≡ m * u
above_part true m u z = rw (z refl) (omega arith)
above_part false m u z = refl

below_part : (s : Bool) (m u : ℕ) → (s ≡ true → m ≡ 0) → under s (m * u) ≡ 0
below_part true m u z = rw (z refl) (omega arith)
below_part false m u z = refl

-- the order of two such values is the fractions'
worth_lt : (s : Bool) (m : ℕ) (e : ℤ) (t : Bool) (n : ℕ) (d : ℤ) → (s ≡ true → m ≡ 0) → (t ≡ true → n ≡ 0)
    → lt (fin s m e) (fin t n d) ≡ ltb (m * up e * down d + 0 * down e) (n * up d * down e + 0 * down d)
worth_lt s m e t n d z w = fin_lt s m e t n d ∙ rw (above_part s m (up e) z, below_part s m (up e) z, above_part t n (up d) w, below_part t n (up d) w)

le_of_worth : (x y : Float) (a c b d : ℕ) → 0 < c → 0 < d → Worth x a c → Worth y b d → a * d ≤ b * c → le x y ≡ true
le_of_worth nan y a c b d C D v w h = absurd v
le_of_worth (inf s) y a c b d C D v w h = absurd v
le_of_worth (fin s m e) nan a c b d C D v w h = absurd w
le_of_worth (fin s m e) (inf t) a c b d C D v w h = absurd w
le_of_worth (fin s m e) (fin t n g) a c b d C D v w h =
    let k : m * up e * down g ≤ n * up g * down e = transfer (m * up e) (n * up g) (down e) (down g) a b c d C D v.1 w.1 h in
    not_lt (fin t n g) (fin s m e) (fin_number t n g) (fin_number s m e)
    (worth_lt t n g s m e w.0 v.0 ∙ le-ltb (n * up g * down e + 0 * down g) (m * up e * down g + 0 * down e) (omega arith))

worth_of_le : (x y : Float) (a c b d : ℕ) → 0 < c → 0 < d → Worth x a c → Worth y b d → le x y ≡ true → a * d ≤ b * c
worth_of_le nan y a c b d C D v w h = absurd v
worth_of_le (inf s) y a c b d C D v w h = absurd v
worth_of_le (fin s m e) nan a c b d C D v w h = absurd w
worth_of_le (fin s m e) (inf t) a c b d C D v w h = absurd w
worth_of_le (fin s m e) (fin t n g) a c b d C D v w h =
    let k : m * up e * down g + 0 * down e ≤ n * up g * down e + 0 * down g =
    ltb-false (n * up g * down e + 0 * down g) (m * up e * down g + 0 * down e) (sym (worth_lt t n g s m e w.0 v.0) ∙ le_not_lt (fin s m e) (fin t n g) h) in
    transfer a b c d (m * up e) (n * up g) (down e) (down g) (down_pos e) (down_pos g) (sym v.1) (sym w.1) (omega arith)

-- ---- a value that its format holds rounds to itself

-- m * 2 ^ e is m * 2 ^ shift of the values 2 ^ -l
abbrev shift : ℤ → ℕ → ℕ
shift (pos k) l = k + l
shift (negsuc k) l = l - suc k

pow_back : (i j : ℕ) → 2 ^ i ≤ 2 ^ j → i ≤ j
pow_back i j h = go (ltb j i) refl
  where
    go : (t : Bool) → ltb j i ≡ t → i ≤ j
    go true p =
        let k : 2 ^ j < 2 ^ i = pow-lt (ltb-true j i p) in
        absurd (omega arith)
    go false p = ltb-false j i p

rejoin : (i l : ℕ) → i ≤ l → l ≡ l - i + i
rejoin i l h = omega arith

shifted : (m : ℕ) (e : ℤ) (l : ℕ) → down e ≤ 2 ^ l → m * up e * 2 ^ l ≡ m * 2 ^ shift e l * down e
shifted m (pos k) l h = rw (pow-add 2 k l) (omega arith)
shifted m (negsuc k) l h =
    let p : 2 ^ l ≡ 2 ^ (l - suc k) * 2 ^ suc k = ap (λ (i : ℕ). 2 ^ i) (rejoin (suc k) l (pow_back (suc k) l h)) ∙ pow-add 2 (l - suc k) (suc k) in
    let q : m * 2 ^ l ≡ m * (2 ^ (l - suc k) * 2 ^ suc k) = ap (λ (i : ℕ). m * i) p in
    omega arith

in_range_lem : (x P D L q : ℕ) → 0 < L → x < P * D → x * L ≡ q * D → q < L * P
in_range_lem x P D L q l h e =
    let k : x * L < P * D * L = mul-lt-mul_of_pos_right h l in
    let g : q * D < L * P * D = omega arith in
    lt_of_mul-lt-mul_right D g

zero_itself : (f : Format) (s : Bool) (n c : ℕ) → 0 < c → n ≡ 0 → HasValue (round f s n c) s n c
zero_itself f s n c C z = round_exact f s n c 0 0 C (pow_pos (prec f)) (pow_pos (low f + suc (emax f))) (ap (λ (i : ℕ). i * 2 ^ low f) z ∙ nothing (2 ^ low f) c)
  where
    nothing : (l d : ℕ) → 0 * l ≡ 0 * d
    nothing l d = omega arith

no_times : (u : ℕ) → 0 * u ≡ 0
no_times u = omega arith

pub itself : (f : Format) (s : Bool) (m : ℕ) (e : ℤ) → T (fits f (fin s m e)) → HasValue (round f false (m * up e) (down e)) false (m * up e) (down e)
unfolding fits
itself f s zero e t = zero_itself f false (0 * up e) (down e) (down_pos e) (no_times (up e))
itself f s (suc m) e t =
    let a : Bool = eqb (suc m % 2) 1 in
    let b : Bool = ltb (suc m) (2 ^ prec f) in
    let c : Bool = leb (down e) (2 ^ low f) in
    let d : Bool = ltb (suc m * up e) (2 ^ suc (emax f) * down e) in
    let v : suc m * up e * 2 ^ low f ≡ suc m * 2 ^ shift e (low f) * down e = shifted (suc m) e (low f) (leb→le (down e) (2 ^ low f) (and_r (a && b) c (and_l (a && b && c) d t))) in
    round_exact f false (suc m * up e) (down e) (suc m) (shift e (low f)) (down_pos e) (ltb→lt (suc m) (2 ^ prec f) (and_r a b (and_l (a && b) c (and_l (a && b && c) d t))))
    (rw (pow-add 2 (low f) (suc (emax f)))
    (in_range_lem (suc m * up e) (2 ^ suc (emax f)) (down e) (2 ^ low f) (suc m * 2 ^ shift e (low f)) (pow_pos (low f)) (ltb→lt (suc m * up e) (2 ^ suc (emax f) * down e) (and_r (a && b && c) d t)) v))
    v

itself_worth : (f : Format) (s : Bool) (m : ℕ) (e : ℤ) → T (fits f (fin s m e)) → Worth (round f false (m * up e) (down e)) (m * up e) (down e)
itself_worth f s m e t = worth_of_value (round f false (m * up e) (down e)) false (m * up e) (down e) (down_pos e) (λ (p : false ≡ true). never (sym p)) (itself f s m e t)

-- ---- the sum and the difference of two such values

-- each is at most the other: equal, but for the sign of a zero
record Near (x y : Float) : Type 0 where
  to : le x y ≡ true
  from : le y x ≡ true

near_same : (f : Format) (n k c : ℕ) → n ≡ k → Near (round f false n c) (round f false k c)
near_same f n k c e = rw e (record { to = le_self (round f false k c) (round_number f false k c); from = le_self (round f false k c) (round_number f false k c) })

near_zero : (f : Format) (n c : ℕ) → 0 < c → n ≡ 0 → Near (round f true n c) (round f false n c)
near_zero f n c C z =
    let v : Worth (round f true n c) n c = worth_of_value (round f true n c) true n c C (λ (p : true ≡ true). z) (zero_itself f true n c C z) in
    let w : Worth (round f false n c) n c = worth_of_value (round f false n c) false n c C (λ (p : false ≡ true). z) (zero_itself f false n c C z) in
    record {
      to = le_of_worth (round f true n c) (round f false n c) n c n c C C v w (le_refl (n * c));
      from = le_of_worth (round f false n c) (round f true n c) n c n c C C w v (le_refl (n * c));
    }

near_own : (f : Format) (s : Bool) (m : ℕ) (e : ℤ) → T (fits f (fin s m e)) → (s ≡ true → m ≡ 0) → Near (fin s m e) (round f false (m * up e) (down e))
near_own f s m e t z = record {
  to = le_of_worth (fin s m e) (round f false (m * up e) (down e)) (m * up e) (down e) (m * up e) (down e) (down_pos e) (down_pos e) (z, refl) (itself_worth f s m e t) (le_refl (m * up e * down e));
  from = le_of_worth (round f false (m * up e) (down e)) (fin s m e) (m * up e) (down e) (m * up e) (down e) (down_pos e) (down_pos e) (itself_worth f s m e t) (z, refl) (le_refl (m * up e * down e));
}

-- the sum of two values that are not below zero is rounded once
near_sum : (f : Format) (s : Bool) (a : ℕ) (t : Bool) (b c : ℕ) → 0 < c → (s ≡ true → a ≡ 0) → (t ≡ true → b ≡ 0) → Near (sum f s a t b c) (round f false (a + b) c)
unfolding sum
near_sum f true a true b c C z w =
    let h : a ≡ 0 = z refl in
    let k : b ≡ 0 = w refl in
    near_zero f (a + b) c C (omega arith)
near_sum f true a false b c C z w = go (ltb a b) refl (z refl)
  where
    go : (t : Bool) → ltb a b ≡ t → a ≡ 0 → Near (cond t (round f false (b - a) c) (round f (ltb b a) (a - b) c)) (round f false (a + b) c)
    go true p h = near_same f (b - a) (a + b) c (omega arith)
    go false p h =
        let k : b ≤ a = ltb-false a b p in
        rw (le-ltb b a (omega arith)) (near_same f (a - b) (a + b) c (omega arith))
near_sum f false a true b c C z w =
    let k : b ≡ 0 = w refl in
    rw (le-ltb a b (omega arith)) (near_same f (a - b) (a + b) c (omega arith))
near_sum f false a false b c C z w = near_same f (a + b) (a + b) c refl

-- The sum of one value that is not below zero and one that is not above it: at most an x that no rounded number below zero, and none up to a / c, is above.
sum_shrinks : (f : Format) (x : Float) (s : Bool) (a : ℕ) (u : Bool) (b c : ℕ) → (s ≡ true → a ≡ 0) → (u ≡ false → b ≡ 0)
    → ((n : ℕ) → le (round f true n c) x ≡ true) → ((n : ℕ) → n ≤ a → le (round f false n c) x ≡ true) → le (sum f s a u b c) x ≡ true
unfolding sum
sum_shrinks f x s a u b c z w lo hi = go s u z w
  where
    each : (g : Bool) (n : ℕ) → n ≤ a → le (round f g n c) x ≡ true
    each true n h = lo n
    each false n h = hi n h

    go : (s u : Bool) → (s ≡ true → a ≡ 0) → (u ≡ false → b ≡ 0) → le (cond (beq s u) (round f s (a + b) c) (cond (ltb a b) (round f u (b - a) c) (round f (s && ltb b a) (a - b) c))) x ≡ true
    go true true z w = lo (a + b)
    go true false z w =
        let k : b ≡ 0 = w refl in
        rw (le-ltb a b (omega arith)) (each (ltb b a) (a - b) (omega arith))
    go false true z w = part (ltb a b)
      where
        part : (t : Bool) → le (cond t (round f true (b - a) c) (round f false (a - b) c)) x ≡ true
        part true = lo (b - a)
        part false = hi (a - b) (omega arith)
    go false false z w =
        let k : b ≡ 0 = w refl in
        hi (a + b) (omega arith)

-- ---- offsets and lengths

no_sign : (s : Bool) (m : ℕ) (e : ℤ) → le origin (fin s m e) ≡ true → s ≡ true → m ≡ 0
unfolding lt
no_sign true m e h p =
    let k : m * up e * 1 + 0 * 1 * down e ≤ 0 = ltb-false 0 (m * up e * 1 + 0 * 1 * down e) (le_not_lt origin (fin true m e) h) in
    no_factor m (up e) (up_pos e) (omega arith)
no_sign false m e h p = never (sym p)

-- a size is the infinity, or finite
size_cases : (P : Float → Type 0) → P (inf false) → ((s : Bool) (m : ℕ) (e : ℤ) → Size (fin s m e) → P (fin s m e)) → (a : Float) → Size a → P a
unfolding le lt
size_cases P i h nan p = never (sym p.plus)
size_cases P i h (inf true) p = never (sym p.plus)
size_cases P i h (inf false) p = i
size_cases P i h (fin s m e) p = h s m e p

-- ---- a book's float is one

odd_high : (d q k l : ℕ) → le origin (odd d false q k l) ≡ true
odd_high d q k l =
    le_of_worth origin (odd d false q k l) 0 1 (q * 2 ^ k) (2 ^ l) (pow_pos 0) (pow_pos l) (λ (p : false ≡ true). refl, refl)
    (worth_of_value (odd d false q k l) false (q * 2 ^ k) (2 ^ l) (pow_pos l) (λ (p : false ≡ true). never (sym p)) (odd_sign d false q k l))
    (no_more (2 ^ l) (q * 2 ^ k * 1))
  where
    no_more : (i j : ℕ) → 0 * i ≤ j
    no_more i j = omega arith

fields_high : (f : Format) (x t : ℕ) → is_nan (of_fields f false x t) ≡ false → le origin (of_fields f false x t) ≡ true
unfolding of_fields
fields_high f zero t h = odd_high (prec f) t 0 (low f)
fields_high f (suc x) t h = go (eqb (suc x) (ones f)) (eqb t 0) h
  where
    go : (b c : Bool) → is_nan (cond b (cond c (inf false) nan) (odd (prec f) false (hid f + t) x (low f))) ≡ false → le origin (cond b (cond c (inf false) nan) (odd (prec f) false (hid f + t) x (low f))) ≡ true
    go true true h = unfold le in refl
    go true false h = never (unfold is_nan in h)
    go false c h = odd_high (prec f) (hid f + t) x (low f)

bits_high : (f : Format) (n : ℕ) → n < top f → is_nan (of_bits f n) ≡ false → le origin (of_bits f n) ≡ true
unfolding of_bits
bits_high f n h k = rw (lt-leb (top f) n h) (fields_high f (n % top f / hid f) (n % hid f) (rw (lt-leb (top f) n h) at k))

pub table_number_lem : (x : Float) → table_float x ≡ true → is_nan x ≡ false
unfolding table_float is_nan
table_number_lem nan h = sym h
table_number_lem (inf s) h = refl
table_number_lem (fin s m e) h = refl

-- A book's float is an accepted offset or length
pub size_of_bits : (n : ℕ) → book_float n ≡ true → Size (of_bits binary64 n)
unfolding book_float
size_of_bits n h = go (ltb n (top binary64)) refl (table_float (of_bits binary64 n)) refl h
  where
    go : (s : Bool) → ltb n (top binary64) ≡ s → (t : Bool) → table_float (of_bits binary64 n) ≡ t → (s && t) ≡ true → Size (of_bits binary64 n)
    go true p true q h = record { fit = of_bits-fits binary64 n; plus = bits_high binary64 n (ltb-true n (top binary64) p) (table_number_lem (of_bits binary64 n) q) }
    go true p false q h = never (sym h)
    go false p t q h = never (sym h)

-- ---- a sum is no smaller than its first part, and a difference no larger

-- X / p ≤ X / p + Y / q, and X / p + Z / r ≤ Y / q + Z / r for X / p ≤ Y / q; n / (p * q) ≤ X / p for n ≤ X * q
grown : (X p Y q : ℕ) → X * (p * q) ≤ (X * q + Y * p) * p
grown X p Y q = omega arith

moved : (X p Y q Z r : ℕ) → X * q ≤ Y * p → (X * r + Z * p) * (q * r) ≤ (Y * r + Z * q) * (p * r)
moved X p Y q Z r h =
    let k : X * q * (r * r) ≤ Y * p * (r * r) = mul-le-mul_right (r * r) h in
    omega arith

shrunk : (n X p q : ℕ) → n ≤ X * q → n * p ≤ X * (p * q)
shrunk n X p q h =
    let k : n * p ≤ X * q * p = mul-le-mul_right p h in
    omega arith

no_product : (s : Bool) (m u d : ℕ) → (s ≡ true → m ≡ 0) → s ≡ true → m * u * d ≡ 0
no_product s m u d z p = rw (z p) (nothing u d)
  where
    nothing : (u d : ℕ) → 0 * u * d ≡ 0
    nothing u d = omega arith

-- two finite values, neither below zero
module _ (f : Format) (s : Bool) (m : ℕ) (e : ℤ) (t : Bool) (n : ℕ) (d : ℤ) (z : s ≡ true → m ≡ 0) (w : t ≡ true → n ≡ 0) where
  fin_add : Near (add f (fin s m e) (fin t n d)) (round f false (m * up e * down d + n * up d * down e) (down e * down d))
  unfolding add
  fin_add = near_sum f s (m * up e * down d) t (n * up d * down e) (down e * down d) (mul-pos (down_pos e) (down_pos d)) (no_product s m (up e) (down d) z) (no_product t n (up d) (down e) w)

  fin_grows : T (fits f (fin s m e)) → le (fin s m e) (add f (fin s m e) (fin t n d)) ≡ true
  fin_grows h =
      let x = m * up e * down d + n * up d * down e in
      let c = down e * down d in
      le_trans (fin s m e) (round f false (m * up e) (down e)) (add f (fin s m e) (fin t n d)) (near_own f s m e h z).to
      (le_trans (round f false (m * up e) (down e)) (round f false x c) (add f (fin s m e) (fin t n d))
      (is_true (le (round f false (m * up e) (down e)) (round f false x c)) (round_mono f (m * up e) (down e) x c (down_pos e) (mul-pos (down_pos e) (down_pos d)) (grown (m * up e) (down e) (n * up d) (down d))))
      fin_add.from)

  fin_shrinks : T (fits f (fin s m e)) → le origin (fin s m e) ≡ true → le (sub f (fin s m e) (fin t n d)) (fin s m e) ≡ true
  unfolding sub
  fin_shrinks h l =
      let c = down e * down d in
      sum_shrinks f (fin s m e) s (m * up e * down d) (not t) (n * up d * down e) c (no_product s m (up e) (down d) z)
      (λ (p : not t ≡ false). no_product t n (up d) (down e) w (not-false t p))
      (λ (i : ℕ). le_trans (round f true i c) origin (fin s m e) (round_low f i c) l)
      (λ (i : ℕ) (g : i ≤ m * up e * down d).
      le_trans (round f false i c) (round f false (m * up e) (down e)) (fin s m e)
      (is_true (le (round f false i c) (round f false (m * up e) (down e))) (round_mono f i c (m * up e) (down e) (mul-pos (down_pos e) (down_pos d)) (down_pos e) (shrunk i (m * up e) (down e) (down d) g)))
      (near_own f s m e h z).from)

-- The rounded sum of two sizes is no smaller than the first
pub add_grows : (a l : Float) → Size a → Size l → le a (add binary64 a l) ≡ true
unfolding le lt add
add_grows a l p q =
    size_cases (λ (x : Float). le x (add binary64 x l) ≡ true)
    (size_cases (λ (y : Float). le (inf false) (add binary64 (inf false) y) ≡ true) refl (λ t n d r. refl) l q)
    (λ s m e (p : Size (fin s m e)).
    size_cases (λ (y : Float). le (fin s m e) (add binary64 (fin s m e) y) ≡ true) refl
    (λ t n d (q : Size (fin t n d)). fin_grows binary64 s m e t n d (no_sign s m e p.plus) (no_sign t n d q.plus) p.fit) l q) a p

-- The sum of two sizes is no NaN
pub add_number : (a l : Float) → Size a → Size l → is_nan (add binary64 a l) ≡ false
add_number a l p q = le_number_right a (add binary64 a l) (add_grows a l p q)

-- The rounded difference of two sizes, the second finite, is no larger than the first
pub sub_shrinks : (a l : Float) → Size a → Size l → finite l ≡ true → le (sub binary64 a l) a ≡ true
unfolding le lt sub add
sub_shrinks a l p q f =
    size_cases (λ (x : Float). le (sub binary64 x l) x ≡ true)
    (size_cases (λ (y : Float). finite y ≡ true → le (sub binary64 (inf false) y) (inf false) ≡ true) (λ (k : false ≡ true). never (sym k)) (λ t n d r k. refl) l q f)
    (λ s m e (p : Size (fin s m e)).
    size_cases (λ (y : Float). le (sub binary64 (fin s m e) y) (fin s m e) ≡ true) refl
    (λ t n d (q : Size (fin t n d)). fin_shrinks binary64 s m e t n d (no_sign s m e p.plus) (no_sign t n d q.plus) p.fit p.plus) l q) a p

-- The difference of two sizes, the second finite, is no NaN
pub sub_number : (a l : Float) → Size a → Size l → finite l ≡ true → is_nan (sub binary64 a l) ≡ false
sub_number a l p q f = le_number_left (sub binary64 a l) a (sub_shrinks a l p q f)

fin_moves : (f : Format) (s : Bool) (m : ℕ) (e : ℤ) (t : Bool) (n : ℕ) (d : ℤ) (u : Bool) (k : ℕ) (g : ℤ) → (s ≡ true → m ≡ 0) → (t ≡ true → n ≡ 0) → (u ≡ true → k ≡ 0)
    → le (fin s m e) (fin t n d) ≡ true → le (add f (fin s m e) (fin u k g)) (add f (fin t n d) (fin u k g)) ≡ true
fin_moves f s m e t n d u k g z w v h =
    let x = m * up e * down g + k * up g * down e in
    let y = n * up d * down g + k * up g * down d in
    let c = down e * down g in
    let b = down d * down g in
    let l : m * up e * down d ≤ n * up d * down e =
    worth_of_le (fin s m e) (fin t n d) (m * up e) (down e) (n * up d) (down d) (down_pos e) (down_pos d) (z, refl) (w, refl) h in
    le_trans (add f (fin s m e) (fin u k g)) (round f false x c) (add f (fin t n d) (fin u k g)) (fin_add f s m e u k g z v).to
    (le_trans (round f false x c) (round f false y b) (add f (fin t n d) (fin u k g))
    (is_true (le (round f false x c) (round f false y b)) (round_mono f x c y b (mul-pos (down_pos e) (down_pos g)) (mul-pos (down_pos d) (down_pos g)) (moved (m * up e) (down e) (n * up d) (down d) (k * up g) (down g) l)))
    (fin_add f t n d u k g w v).from)

-- nothing that is a number is above the infinity
le_top : (x : Float) → is_nan x ≡ false → le x (inf false) ≡ true
unfolding le lt is_nan
le_top nan h = never h
le_top (inf true) h = refl
le_top (inf false) h = refl
le_top (fin s m e) h = refl

-- a size and the infinity are the infinity
add_top : (a : Float) → Size a → add binary64 a (inf false) ≡ inf false
unfolding add
add_top = size_cases (λ (x : Float). add binary64 x (inf false) ≡ inf false) refl (λ s m e p. refl)

top_add : (l : Float) → Size l → add binary64 (inf false) l ≡ inf false
unfolding add
top_add = size_cases (λ (x : Float). add binary64 (inf false) x ≡ inf false) refl (λ s m e p. refl)

top_above : (t : Bool) (n : ℕ) (d : ℤ) (X : Type 0) → le (inf false) (fin t n d) ≡ true → X
unfolding le lt
top_above t n d X h = never (sym h)

-- Of two sizes the larger, with a third added to both, is no smaller
pub add_mono_left : (a b l : Float) → Size a → Size b → Size l → le a b ≡ true → le (add binary64 a l) (add binary64 b l) ≡ true
add_mono_left a b l p q r =
    size_cases (λ (z : Float). Size z → le a b ≡ true → le (add binary64 a z) (add binary64 b z) ≡ true) (λ (z : Size (inf false)) (h : le a b ≡ true). to_top a (inf false) (add binary64 b (inf false)) p z (add_top b q))
    (λ u k g (v : Size (fin u k g)) (z : Size (fin u k g)).
    size_cases (λ (y : Float). le a y ≡ true → le (add binary64 a (fin u k g)) (add binary64 y (fin u k g)) ≡ true) (λ (h : le a (inf false) ≡ true). to_top a (fin u k g) (add binary64 (inf false) (fin u k g)) p v (top_add (fin u k g) v))
    (λ t n d (j : Size (fin t n d)).
    size_cases (λ (x : Float). le x (fin t n d) ≡ true → le (add binary64 x (fin u k g)) (add binary64 (fin t n d) (fin u k g)) ≡ true) (top_above t n d (le (add binary64 (inf false) (fin u k g)) (add binary64 (fin t n d) (fin u k g)) ≡ true))
    (λ s m e (i : Size (fin s m e)). fin_moves binary64 s m e t n d u k g (no_sign s m e i.plus) (no_sign t n d j.plus) (no_sign u k g v.plus)) a p) b q) l r r
  where
    to_top : (a l y : Float) → Size a → Size l → y ≡ inf false → le (add binary64 a l) y ≡ true
    to_top a l y p r e = ap (le (add binary64 a l)) e ∙ le_top (add binary64 a l) (add_number a l p r)

-- A lent value that a book may hold is a size, and finite
pub size_of_value : (x : Float) → T (fits binary64 x) → book_value x ≡ true → Size x
unfolding book_value
size_of_value x f h = subst Size (of_bits-to_bits binary64 x f) (size_of_bits (to_bits binary64 x) h)
