-- The number of each row in the one count, and the lowest of all numbers as document 01 groups them: by rows 4 to 7.
-- Assumes nothing.
use mathlib.Core.Path.{◌≡◌, refl, ap, ◌∙◌}
use mathlib.Core.Bool.{Bool, true, false, not, ◌||◌, or_assoc, or_comm, or-false}
use mathlib.Core.List.{List}
use Prim.Native.Nat.{ℕ, zero, suc, ◌-◌, ◌≤◌, ◌<◌}
use borrow.Author.Tests.{not-false}
use Rattle.laws.specs.Below.{some_below}
use Rattle.floats.specs.Floats.{book_float}
use Rattle.book_format.specs.Format.{links, origins, destinations, legs, samples, rows, link_length, origin_link, destination_link}
use Rattle.book_format.specs.Rows.{no_such_link, bad_link, bad_origin_value, bad_origin_place, bad_leg_index, bad_leg, bad_sample, row4, row5}
use Rattle.book_rows.specs.Elements.{lower, lowest_below, first_number, head_number, link_number, origin_number, destination_number, leg_number, sample_number, row_number, single_number}
use Rattle.book_rows.proofs.Lowest.{number_join, lowest_tests, splice_low, splice_high, lowest_splice}

-- ---- a pattern n of the book, read as m and tested by t

pub float_read : {m n : ℕ} {t : Bool} → m ≡ n → t ≡ book_float m → not t ≡ false → book_float n ≡ true
float_read {m} {n} {t} e d h = rw (← e, ← d) (not-false t h)

-- ---- one row

module _ (b : List ℕ) (k : ℕ) where
  pub element_sample : k < samples b → row_number b k ≡ sample_number b k
  unfolding row_number
  element_sample h = rw (splice_low (samples b))

  pub element_link : samples b ≤ k → k - samples b < links b → row_number b k ≡ link_number b (k - samples b)
  unfolding row_number
  element_link h i = rw (splice_high (samples b), splice_low (links b))

  pub element_origin : samples b ≤ k → links b ≤ k - samples b → k - samples b - links b < origins b
      → row_number b k ≡ origin_number b (k - samples b - links b)
  unfolding row_number
  element_origin h i j = rw (splice_high (samples b), splice_high (links b), splice_low (origins b))

  pub element_destination : samples b ≤ k → links b ≤ k - samples b → origins b ≤ k - samples b - links b → k - samples b - links b - origins b < destinations b
      → row_number b k ≡ destination_number b (k - samples b - links b - origins b)
  unfolding row_number
  element_destination h i j l = rw (splice_high (samples b), splice_high (links b), splice_high (origins b), splice_low (destinations b))

  pub element_leg : samples b ≤ k → links b ≤ k - samples b → origins b ≤ k - samples b - links b → destinations b ≤ k - samples b - links b - origins b
      → row_number b k ≡ leg_number b (k - samples b - links b - origins b - destinations b)
  unfolding row_number
  element_leg h i j l = rw (splice_high (samples b), splice_high (links b), splice_high (origins b), splice_high (destinations b))

-- ---- all rows

sections : (b : List ℕ)
    → lowest_below (rows b) (row_number b)
    ≡ lower (lowest_below (samples b) (sample_number b))
    (lower (lowest_below (links b) (link_number b)) (lower (lowest_below (origins b) (origin_number b)) (lower (lowest_below (destinations b) (destination_number b)) (lowest_below (legs b) (leg_number b)))))
unfolding row_number
sections b = rw (lowest_splice, lowest_splice, lowest_splice, lowest_splice)

-- a test that no row has
some_none : (n : ℕ) → some_below n (λ _. false) ≡ false
unfolding some_below
some_none zero = refl
some_none (suc n) = ap (λ (t : Bool). t || false) (some_none n)

-- the sections' tests for each of rows 4 to 7, after those of the head (h) and of link 0 (z)
tests : (h z s4 l4 l5 o4 o5 o6 d5 g5 g7 : Bool)
    → lower (first_number h z false false)
    (lower (first_number s4 false false false) (lower (first_number l4 l5 false false) (lower (first_number o4 o5 o6 false) (lower (first_number false d5 false false) (first_number false g5 false g7)))))
    ≡ first_number (h || l4 || o4 || s4) (z || l5 || o5 || d5 || g5) o6 g7
tests h z s4 l4 l5 o4 o5 o6 d5 g5 g7 = simp (number_join, or_comm s4 (l4 || o4), or_assoc, or-false)

module _ (b : List ℕ) where
  samples_number : (n : ℕ) → lowest_below n (sample_number b) ≡ first_number (some_below n (bad_sample b)) false false false
  unfolding sample_number
  samples_number n = lowest_tests n (bad_sample b) (λ _. false) (λ _. false) (λ _. false) ∙ simp some_none

  links_number : (n : ℕ) → lowest_below n (link_number b) ≡ first_number (some_below n (λ i. not (book_float (link_length b i)))) (some_below n (bad_link b)) false false
  unfolding link_number
  links_number n = lowest_tests n (λ i. not (book_float (link_length b i))) (bad_link b) (λ _. false) (λ _. false) ∙ simp some_none

  origins_number : (n : ℕ) → lowest_below n (origin_number b) ≡ first_number (some_below n (bad_origin_value b)) (some_below n (λ i. no_such_link b (origin_link b i))) (some_below n (bad_origin_place b)) false
  unfolding origin_number
  origins_number n = lowest_tests n (bad_origin_value b) (λ i. no_such_link b (origin_link b i)) (bad_origin_place b) (λ _. false) ∙ simp some_none

  destinations_number : (n : ℕ) → lowest_below n (destination_number b) ≡ first_number false (some_below n (λ i. no_such_link b (destination_link b i))) false false
  unfolding destination_number
  destinations_number n = lowest_tests n (λ _. false) (λ i. no_such_link b (destination_link b i)) (λ _. false) (λ _. false) ∙ simp some_none

  legs_number : (n : ℕ) → lowest_below n (leg_number b) ≡ first_number false (some_below n (bad_leg_index b)) false (some_below n (bad_leg b))
  unfolding leg_number
  legs_number n = lowest_tests n (λ _. false) (bad_leg_index b) (λ _. false) (bad_leg b) ∙ simp some_none

  -- the lowest of the head's, link 0's and all rows' numbers
  pub lowest_all :
      lower (head_number b) (lowest_below (rows b) (row_number b))
      ≡ single_number b
  unfolding row4 row5 head_number single_number
  lowest_all = rw (sections b, samples_number, links_number, origins_number, destinations_number, legs_number) (tests _ _ _ _ _ _ _ _ _ _ _)
