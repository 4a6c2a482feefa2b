-- A book's float is a number, and the three of a sample that is not bad are book's floats.
-- Assumes nothing.
use mathlib.Core.Path.{◌≡◌, refl, sym, ◌∙◌}
use mathlib.Core.Bool.{Bool, true, false, not, ◌||◌, true≢false}
use mathlib.Core.List.{List}
use Prim.Native.Nat.{ℕ, ◌+◌}
use borrow.Author.Tests.{ltb-true, ltb-false, not-false}
use lib.Dec.{T, ltb}
use lib.Ieee.{binary64, nan_bits}
use Rattle.floats.specs.Floats.{book_float}
use Rattle.floats.proofs.Laws.{book_number, book_high}
use Rattle.fields.specs.Fields.{u64_at}
use Rattle.book_format.specs.Rows.{bad_sample_from}

-- the infinity's pattern
abbrev infinity : ℕ
infinity = 9218868437227405312

pub book_no_nan : (n : ℕ) → book_float n ≡ true → T (not (nan_bits binary64 n))
book_no_nan n h = go (ltb infinity n) refl
  where
    go : (t : Bool) → ltb infinity n ≡ t → T (not (nan_bits binary64 n))
    go true e = absurd (true≢false (sym (book_high n (ltb-true infinity n e) ∙ h)))
    go false e = book_number n (ltb-false infinity n e)

-- the patterns of a sample's floats, each a book's
pub record SampleFloats (b : List ℕ) (at : ℕ) : Type 0 where
  pub time : book_float (u64_at b at) ≡ true
  pub offset : book_float (u64_at b (at + 8)) ≡ true
  pub speed : book_float (u64_at b (at + 16)) ≡ true

pub sample_floats : (b : List ℕ) (at : ℕ) → bad_sample_from b at ≡ false → SampleFloats b at
unfolding bad_sample_from
sample_floats b at h =
    let t = book_float (u64_at b at) in
    let o = book_float (u64_at b (at + 8)) in
    let s = book_float (u64_at b (at + 16)) in
    let f : (not t || not o) ≡ false = left (not t || not o) (not s) h in
    record { time = not-false t (left (not t) (not o) f); offset = not-false o (right (not t) (not o) f); speed = not-false s (right (not t || not o) (not s) h) }
  where
    left : (p q : Bool) → (p || q) ≡ false → p ≡ false
    left true q e = e
    left false q e = refl

    right : (p q : Bool) → (p || q) ≡ false → q ≡ false
    right true q e = absurd (true≢false e)
    right false q e = e
