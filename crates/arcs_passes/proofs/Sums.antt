-- Sums over the numbers below n: equal where two values have changed places.
use mathlib.Core.Path.{◌≡◌, sym, ap, ◌∙◌}
use mathlib.Core.Logic.{◌⊎◌, inl, inr, ◌≢◌}
use Prim.Native.Nat.{ℕ, zero, suc, ◌+◌, ◌<◌}
use native.Mathlib.Nat.{not-suc-le-zero}
use native.Mathlib.Omega.{arith}
use Rattle.laws.proofs.Truth.{equal_or_not}
use Rattle.laws.specs.Below.{sum_below}
use Rattle.laws.proofs.Below.{sum_same}
use Rattle.arcs_passes.proofs.Sets.{sets, sets_at, sets_other}

-- all values but that at a
abbrev but : ℕ → (ℕ → ℕ) → ℕ → ℕ
but a f = sets a 0 f

sum_but : (n : ℕ) (f : ℕ → ℕ) (a : ℕ) → a < n → sum_below n f ≡ f a + sum_below n (but a f)
unfolding sum_below
sum_but zero f a h = absurd (not-suc-le-zero h)
sum_but (suc n) f a h = go (equal_or_not n a) (sum_but n f a)
  where
    go : (n ≡ a) ⊎ (n ≢ a) → (a < n → sum_below n f ≡ f a + sum_below n (but a f)) → sum_below n f + f n ≡ f a + (sum_below n (but a f) + but a f n)
    go (inl e) ih =
        let p : sum_below n f ≡ sum_below n (but a f) = sum_same n f (but a f) (λ (i : ℕ) (l : i < n). sym (sets_other a 0 f i (λ (o : i ≡ a). omega arith))) in
        let q : but a f n ≡ 0 = ap (but a f) e ∙ sets_at a 0 f in
        let r : f n ≡ f a = ap f e in
        omega arith
    go (inr o) ih =
        let p = ih (omega arith) in
        let q = sets_other a 0 f n o in
        omega arith

pub sum_exchanged : (n : ℕ) (f g : ℕ → ℕ) (a b : ℕ) → a < n → b < n → a ≢ b → f a ≡ g b → f b ≡ g a → ((i : ℕ) → i < n → i ≢ a → i ≢ b → f i ≡ g i) → sum_below n f ≡ sum_below n g
sum_exchanged n f g a b h k o p q e =
    let f1 = sum_but n f a h in
    let f2 = sum_but n (but a f) b k in
    let f3 = sets_other a 0 f b (λ (z : b ≡ a). o (sym z)) in
    let g1 = sum_but n g a h in
    let g2 = sum_but n (but a g) b k in
    let g3 = sets_other a 0 g b (λ (z : b ≡ a). o (sym z)) in
    let rest : sum_below n (but b (but a f)) ≡ sum_below n (but b (but a g)) = sum_same n (but b (but a f)) (but b (but a g)) (λ (i : ℕ) (l : i < n). at i l (equal_or_not i a) (equal_or_not i b)) in
    omega arith
  where
    at : (i : ℕ) → i < n → (i ≡ a) ⊎ (i ≢ a) → (i ≡ b) ⊎ (i ≢ b) → but b (but a f) i ≡ but b (but a g) i
    at i l x (inl y) = ap (but b (but a f)) y ∙ sets_at b 0 (but a f) ∙ sym (sets_at b 0 (but a g)) ∙ sym (ap (but b (but a g)) y)
    at i l (inl x) (inr y) = sets_other b 0 (but a f) i y ∙ ap (but a f) x ∙ sets_at a 0 f ∙ sym (sets_at a 0 g) ∙ sym (ap (but a g) x) ∙ sym (sets_other b 0 (but a g) i y)
    at i l (inr x) (inr y) = sets_other b 0 (but a f) i y ∙ sets_other a 0 f i x ∙ e i l x y ∙ sym (sets_other a 0 g i x) ∙ sym (sets_other b 0 (but a g) i y)
