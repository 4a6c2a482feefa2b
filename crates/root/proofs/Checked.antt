-- Laws of the guess and of the test that it has to pass.
use mathlib.Core.Path.{◌≡◌, refl, sym, ap, ◌∙◌, subst}
use mathlib.Core.Bool.{Bool, true, false, not}
use Prim.Native.Nat.{Ordering}
use Prim.Native.Nat.{ℕ, zero, suc, ◌+◌, ◌-◌, ◌*◌, ◌≤◌, ◌<◌}
use native.Mathlib.Numerals.{add-one}
use native.Mathlib.Omega.{arith}
use lib.Dec.{T, leb, leb→le, nleb→lt}
use Rattle.root.specs.Steps.{RoundedRoot}
use Rattle.root.proofs.Steps.{rooted}
use Rattle.root.proofs.Rounded.{decided}

-- A is n * n or above it, and n or less away: n is the whole root
not_below : (a n A : ℕ) → a * 4503599627370496 ≡ A → 4503599627370496 ≤ a → n < 9007199254740992 → n * n ≤ A → A ≤ n * n + n → RoundedRoot a n
not_below a n A i l s within near =
    let e : n * n + (A - n * n) ≡ a * 4503599627370496 = omega arith in
    let m : A - n * n ≤ 2 * n = omega arith in
    let h : (A - n * n) * 4 < n * 4 + 1 = omega arith in
    record { q = n; r = A - n * n; root = rooted a n (A - n * n) l s e m; last = decided Ordering.lt n ((A - n * n) * 4) (n * 4 + 1) h }

-- A is below n * n, by less than n: the whole root is the number before n
just_below : (a q A : ℕ) → a * 4503599627370496 ≡ A → 4503599627370496 ≤ a → q + 1 < 9007199254740992 → A < (q + 1) * (q + 1) → (q + 1) * (q + 1) < A + (q + 1) → RoundedRoot a (q + 1)
just_below a q A i l s under near =
    let e : q * q + (A - q * q) ≡ a * 4503599627370496 = omega arith in
    let m : A - q * q ≤ 2 * q = omega arith in
    let h : q * 4 + 1 < (A - q * q) * 4 = omega arith in
    let t : q < 9007199254740992 = omega arith in
    record { q = q; r = A - q * q; root = rooted a q (A - q * q) l t e m; last = add-one q ∙ decided Ordering.gt q ((A - q * q) * 4) (q * 4 + 1) h }

-- A lies less than a half from n, squared
pub near_rounded : (a n : ℕ) → 4503599627370496 ≤ a → n < 9007199254740992 → n * n < a * 4503599627370496 + n → a * 4503599627370496 ≤ n * n + n → RoundedRoot a n
near_rounded a n l s above below = go n s above below (leb (n * n) A) (leb→le (n * n) A) (nleb→lt (n * n) A)
  where
    A : ℕ
    A = a * 4503599627370496

    go : (n : ℕ) → n < 9007199254740992 → n * n < A + n → A ≤ n * n + n → (b : Bool) → (T b → n * n ≤ A) → (T (not b) → A < n * n) → RoundedRoot a n
    go n s above below true h k = not_below a n A refl l s (h tt) below
    go zero s above below false h k = absurd (omega (arith, k tt))
    go (suc q) s above below false h k =
        subst (RoundedRoot a) (add-one q)
        (just_below a q A refl l (subst (λ (x : ℕ). x < 9007199254740992) (sym (add-one q)) s)
        (subst (λ (x : ℕ). A < x * x) (sym (add-one q)) (k tt)) (subst (λ (x : ℕ). x * x < A + x) (sym (add-one q)) above))

-- the parts of n * n, n being h * 2 ^ 27 + l, taken off (a + 4) * 2 ^ 52 one by one
parts : (a n h l d e : ℕ) → n ≡ h * 134217728 + l → d + h * 2 * (h * 2) ≡ a + 4 → e + h * 2 * l ≡ d * 33554432
    → a * 4503599627370496 + 18014398509481984 + l * l ≡ n * n + e * 134217728
parts a n h l d e i j k =
    let s : n * n ≡ (h * 134217728 + l) * (h * 134217728 + l) = ap (λ (x : ℕ). x * x) i in
    omega arith

-- what is left is `have`, of which l * l and the rest of what was lent are still to be taken
pub checked : (a n h l : ℕ) → 4503599627370496 ≤ a → n < 9007199254740992 → n ≡ h * 134217728 + l → h * 2 * (h * 2) ≤ a + 4
    → h * 2 * l ≤ (a + 4 - h * 2 * (h * 2)) * 33554432
    → l * l + (18014398509481984 - n) < ((a + 4 - h * 2 * (h * 2)) * 33554432 - h * 2 * l) * 134217728
    → ((a + 4 - h * 2 * (h * 2)) * 33554432 - h * 2 * l) * 134217728 - (l * l + (18014398509481984 - n)) ≤ n * 2 → RoundedRoot a n
checked a n h l lo s i top cross over most =
    let d = a + 4 - h * 2 * (h * 2) in
    let e = d * 33554432 - h * 2 * l in
    let take = l * l + (18014398509481984 - n) in
    let p : a * 4503599627370496 + 18014398509481984 + l * l ≡ n * n + e * 134217728 = parts a n h l d e i (omega arith) (omega arith) in
    let b : a * 4503599627370496 + n + take ≡ n * n + e * 134217728 = back (a * 4503599627370496) n (l * l) (n * n + e * 134217728) s p in
    near_rounded a n lo s (above (a * 4503599627370496) n (n * n) take (e * 134217728) b over) (within (a * 4503599627370496) n (n * n) take (e * 134217728) b most)
  where
    back : (A n s t : ℕ) → n < 9007199254740992 → A + 18014398509481984 + s ≡ t → A + n + (s + (18014398509481984 - n)) ≡ t
    back A n s t h e = omega arith

    above : (A n s t v : ℕ) → A + n + t ≡ s + v → t < v → s < A + n
    above A n s t v e h = omega arith

    within : (A n s t v : ℕ) → A + n + t ≡ s + v → v - t ≤ n * 2 → A ≤ s + n
    within A n s t v e h = omega arith
