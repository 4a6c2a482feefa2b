-- A slice that is zero: its length, and what stands in it.
use mathlib.Core.Path.{◌≡◌, refl, sym, ap, ◌∙◌}
use mathlib.Core.List.{List, ◌∷◌, ◌++◌}
use Prim.Native.Nat.{ℕ, zero, suc, ◌+◌, ◌-◌}
use native.Mathlib.Nat.{sub-zero, zero-sub, suc-sub-suc}
use lib.ListN.{length, get_or, take, drop, replicate-append-replicate}
use Rattle.space.specs.Space.{zeros}

pub zeros_length : (n : ℕ) → length (zeros n) ≡ n
unfolding zeros
zeros_length zero = refl
zeros_length (suc n) = ap suc (zeros_length n)

pub zero_at : (n i : ℕ) → get_or (zeros n) i 0 ≡ 0
unfolding zeros
zero_at zero i = refl
zero_at (suc n) zero = refl
zero_at (suc n) (suc i) = zero_at n i

-- what became zero is zero for its own length
pub zeros_again : (n : ℕ) (s : List ℕ) → s ≡ zeros n → s ≡ zeros (length s)
zeros_again n s e = e ∙ ap zeros (sym (zeros_length n) ∙ ap length (sym e))

-- and for any other name of that length
pub zeros_as : (n m : ℕ) (s : List ℕ) → s ≡ zeros n → n ≡ m → s ≡ zeros m
zeros_as n m s e d = e ∙ ap zeros d

-- what is left of zeros behind an index
zeros_drop : (n k : ℕ) → drop n (zeros k) ≡ zeros (k - n)
unfolding zeros
zeros_drop zero k = ap zeros (sym (sub-zero k))
zeros_drop (suc n) zero = ap zeros (sym (zero-sub (suc n)))
zeros_drop (suc n) (suc k) = zeros_drop n k ∙ ap zeros (sym (suc-sub-suc k n))

-- the first part of a slice that is zero
zeros_take : (n k : ℕ) → take n (zeros k) ≡ zeros (length (take n (zeros k)))
unfolding zeros
zeros_take zero k = refl
zeros_take (suc n) zero = refl
zeros_take (suc n) (suc k) = ap {B = List ℕ} (λ r. 0 ∷ r) (zeros_take n k)

pub zeros_front : (n : ℕ) {m : List ℕ} → m ≡ zeros (length m) → take n m ≡ zeros (length (take n m))
zeros_front n {m} e = let d : take n m ≡ take n (zeros (length m)) = ap (take n) e in d ∙ zeros_take n (length m) ∙ ap (λ (v : List ℕ). zeros (length v)) (sym d)

-- a slice that is zero, of which the first part was lent and is zero again
pub zeros_back : (n : ℕ) {m own back : List ℕ} → m ≡ zeros (length m) → own ≡ zeros (length own) → back ≡ own ++ drop n m → back ≡ zeros (length back)
unfolding zeros
zeros_back n {m} {own} {back} e z is =
    zeros_again (length own + (length m - n)) back
    (is ∙ ap (λ (v : List ℕ). own ++ drop n v) e ∙ ap (λ (v : List ℕ). own ++ v) (zeros_drop n (length m)) ∙ ap (λ (v : List ℕ). v ++ zeros (length m - n)) z ∙ replicate-append-replicate (length own) (length m - n) 0)
