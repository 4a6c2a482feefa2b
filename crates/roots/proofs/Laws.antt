-- Laws of the definitions of specs/Roots.antt, for the functions' proofs. Assumes nothing.
use mathlib.Core.Path.{◌≡◌, refl, sym, ap, ◌∙◌, subst}
use mathlib.Core.Bool.{true, not}
use mathlib.Core.List.{List, ◌∷◌, ◌++◌, append-nil}
use Prim.Native.Nat.{ℕ, zero, suc, ◌-◌, ◌*◌, ◌/◌, ◌%◌, ◌≤◌, ◌<◌}
use native.Mathlib.Nat.{not-suc-le-zero}
use native.Mathlib.Numerals.{add-one, sub-one}
use native.Mathlib.Omega.{arith}
use borrow.Author.Tests.{lt-ltb, le-ltb}
use lib.Dec.{T, lit≤}
use lib.ListN.{length, drop, take, set, length-set}
use lib.Seq.{drop-length, append_snoc, take_all}
use lib.Ieee.{Float, nan, inf, fin, binary64, top, ones, hid, is_nan, of_bits, to_bits, nan_bits}
use lib.Ieee.Bits.{nan_bits_is, nan_bits_above}
use Rattle.std.proofs.lemmas.List.{drop-set}
use Rattle.root.specs.Root.{sqrt}
use Rattle.roots.specs.Roots.{little_endian, root_bits, digit, last_digits, answer}

-- ---- the root's pattern

-- what is printed where the root is no number
no_number : (n : ℕ) → sqrt binary64 (of_bits binary64 n) ≡ nan → 0x7ff8_0000_0000_0000 ≡ root_bits n
unfolding root_bits to_bits
no_number n h = ap (to_bits binary64) (sym h)

only_nan : (x : Float) → is_nan x ≡ true → x ≡ nan
unfolding is_nan
only_nan nan h = refl
only_nan (inf s) h = absurd (subst T (sym h) tt)
only_nan (fin s m e) h = absurd (subst T (sym h) tt)

nan_root : (x : Float) → is_nan x ≡ true → sqrt binary64 x ≡ nan
unfolding sqrt
nan_root x h = ap (sqrt binary64) (only_nan x h)

-- with the sign's bit taken off, a NaN's pattern is above the infinity's
pub nan_bits_lem : (n : ℕ) → ones binary64 * hid binary64 < n % top binary64 → 0x7ff8_0000_0000_0000 ≡ root_bits n
nan_bits_lem n h = no_number n (nan_root (of_bits binary64 n) (sym (nan_bits_is binary64 n) ∙ nan_bits_above binary64 n ∙ lt-ltb (ones binary64 * hid binary64) (n % top binary64) h))

pub number_bits : (n : ℕ) → n % top binary64 ≤ ones binary64 * hid binary64 → T (not (nan_bits binary64 n))
number_bits n h = rw (nan_bits_above binary64 n, le-ltb (ones binary64 * hid binary64) (n % top binary64) h) tt

pub root_nan : (n : ℕ) (r : Float) → r ≡ sqrt binary64 (of_bits binary64 n) → is_nan r ≡ true → 0x7ff8_0000_0000_0000 ≡ root_bits n
root_nan n r e h = no_number n (sym e ∙ only_nan r h)

pub root_number : (n : ℕ) (r : Float) → r ≡ sqrt binary64 (of_bits binary64 n) → to_bits binary64 r ≡ root_bits n
unfolding root_bits
root_number n r e = ap (to_bits binary64) e

-- ---- the digits

-- the digits of rest that are still to come and those in the text are the digits of n
pub record Written (n rest at : ℕ) (text : List ℕ) : Type 0 where
  pub within : at ≤ 16
  pub sized : length text ≡ 16
  pub digits : last_digits 16 at rest ++ drop at text ≡ last_digits 16 16 n

pub none_written : (n : ℕ) (text : List ℕ) → length text ≡ 16 → Written n n 16 text
none_written n text l = record {
  within = lit≤ tt;
  sized = l;
  digits = ap (λ (t : List ℕ). last_digits 16 16 n ++ t) (ap (λ (k : ℕ). drop k text) (sym l) ∙ drop-length text) ∙ append-nil (last_digits 16 16 n);
}

-- the last digit of those to come is the first of those in the text
digits_step : (at rest g : ℕ) (text : List ℕ) → 0 < at → at ≤ length text → g ≡ digit (rest % 16)
    → last_digits 16 (at - 1) (rest / 16) ++ drop (at - 1) (set text (at - 1) g) ≡ last_digits 16 at rest ++ drop at text
unfolding last_digits
digits_step zero rest g text some room e = absurd (not-suc-le-zero some)
digits_step (suc j) rest g text some room e =
    let todo = last_digits 16 j (rest / 16) in
    let done = drop (suc j) text in
    ap (λ (m : ℕ). last_digits 16 m (rest / 16) ++ drop m (set text m g)) (sub-one (suc j))
    ∙ ap (λ (l : List ℕ). todo ++ l) (drop-set text j g room ∙ ap (λ (m : ℕ). g ∷ drop m text) (add-one j))
    ∙ ap (λ (x : ℕ). todo ++ x ∷ done) e
    ∙ sym (append_snoc todo (digit (rest % 16)) done)

pub written_on : {n rest at g : ℕ} {text : List ℕ} → Written n rest at text → 0 < at → g ≡ digit (rest % 16) → Written n (rest / 16) (at - 1) (set text (at - 1) g)
written_on {n} {rest} {at} {g} {text} w p e = record {
  within = omega (arith, w.within);
  sized = length-set text (at - 1) g ∙ w.sized;
  digits = digits_step at rest g text p (omega (arith, w.within, w.sized)) e ∙ w.digits;
}

pub answer_is : (bytes : List ℕ) {text : List ℕ} {p n rest at : ℕ} → p ≡ little_endian bytes → n ≡ root_bits p → Written n rest at text → at ≤ 0 → take 16 text ≡ answer bytes
unfolding answer last_digits
answer_is bytes {text} {p} {n} {rest} {at} e r w z =
    let none : at ≡ 0 = omega arith in
    let all : last_digits 16 0 rest ++ drop 0 text ≡ last_digits 16 16 n = ap (λ (k : ℕ). last_digits 16 k rest ++ drop k text) (sym none) ∙ w.digits in
    take_all 16 text (omega (arith, w.sized)) ∙ all ∙ ap (last_digits 16 16) (r ∙ ap root_bits e)
