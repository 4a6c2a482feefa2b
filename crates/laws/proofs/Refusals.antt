-- Laws of `first_of`: the first row holds or is passed, and what a number of 0 says.
use mathlib.Core.Path.{◌≡◌, refl, sym, ap, ◌∙◌}
use mathlib.Core.Bool.{Bool, true, false, ◌&&◌, cond, true≢false}
use mathlib.Core.List.{List, [], ◌∷◌}
use Prim.Native.Nat.{ℕ, zero, suc}
use native.Mathlib.Omega.{arith}
use Rattle.laws.specs.Refusals.{Row, row, first_of}

-- ---- the first row

pub first_holds : (n : ℕ) (b : Bool) (rows : List Row) → b ≡ true → first_of (row n b ∷ rows) ≡ n
unfolding first_of
first_holds n b rows e = ap (λ (x : Bool). cond x n (first_of rows)) e

pub first_passed : (n : ℕ) (b : Bool) (rows : List Row) → b ≡ false → first_of (row n b ∷ rows) ≡ first_of rows
unfolding first_of
first_passed n b rows e = ap (λ (x : Bool). cond x n (first_of rows)) e

-- ---- none of the rows holds

abbrev pub NoneHolds : List Row → Type 0
NoneHolds [] = Unit
NoneHolds (r ∷ rows) = (r.holds ≡ false) × NoneHolds rows

pub first_none : (rows : List Row) → NoneHolds rows → first_of rows ≡ 0
unfolding first_of
first_none [] h = refl
first_none (r ∷ rows) h = first_passed r.number r.holds rows h.0 ∙ first_none rows h.1

-- no row has the number 0; rows that are written out are so by `refl`
abbrev positive : ℕ → Bool
positive zero = false
positive (suc n) = true

abbrev pub numbered : List Row → Bool
numbered [] = true
numbered (r ∷ rows) = positive r.number && numbered rows

-- then a number of 0 says that none holds
pub none_holds : (rows : List Row) → numbered rows ≡ true → first_of rows ≡ 0 → NoneHolds rows
unfolding first_of
none_holds [] n e = tt
none_holds (r ∷ rows) n e = go r.number r.holds n e (none_holds rows)
  where
    go : (k : ℕ) (b : Bool) → (positive k && numbered rows) ≡ true → cond b k (first_of rows) ≡ 0
        → (numbered rows ≡ true → first_of rows ≡ 0 → NoneHolds rows) → (b ≡ false) × NoneHolds rows
    go zero b m d ih = absurd (true≢false (sym m))
    go (suc k) true m d ih = absurd (omega arith)
    go (suc k) false m d ih = (refl, ih m d)
