-- What `measured_of` says of a book's bytes, by how their length stands to the end of the last field.
-- Assumes nothing.
use mathlib.Core.Path.{◌≡◌, refl}
use mathlib.Core.Bool.{Bool, true, false, cond}
use mathlib.Core.List.{List}
use Prim.Native.Nat.{ℕ, ◌+◌, ◌-◌, ◌*◌, ◌≤◌, ◌<◌}
use native.Mathlib.Omega.{arith}
use borrow.Author.Tests.{ltb-true, ltb-false, lt-ltb, le-ltb}
use lib.ListN.{length}
use Rattle.fields.specs.Fields.{u32_at}
use Rattle.std.specs.Prelude.{Result, Ok, Err, IsErrAnd, ltb}
use Rattle.laws.specs.Answer.{Answer, refused, given}
use Rattle.refusals.specs.declared.Refusal.{Refusal}
use Rattle.refusals.specs.declared.Refusal.TheVariants.{CutOff}
use Rattle.refusals.specs.Refusals.{refusal_number, told}
use Rattle.refusals.proofs.Answers.{handed_on}
use Rattle.book_format.specs.Format.{Sized, sections_of, link_width, origin_width, destination_width, leg_width, sample_width, links, origins, destinations, legs, samples, links_at_of, origins_at_of, destinations_at_of, legs_at_of, samples_at_of, end_of}
use Rattle.book_format.specs.Rows.{row1, row2, measured_of}
use Rattle.book_format.proofs.Places.{follow}

-- ---- the three answers

module _ (b : List ℕ) where
  pub short_is : length b < end_of b → refused 1 ≡ measured_of b
  unfolding measured_of
  short_is h = rw (lt-ltb (length b) (end_of b) h)

  pub long_is : end_of b < length b → refused 2 ≡ measured_of b
  unfolding measured_of
  long_is h = rw (le-ltb (length b) (end_of b) (omega arith), lt-ltb (end_of b) (length b) h)

  pub whole_is : length b ≡ end_of b → given b ≡ measured_of b
  unfolding measured_of
  whole_is h = rw (le-ltb (length b) (end_of b) (omega arith), le-ltb (end_of b) (length b) (omega arith))

-- ---- the counts one after the other, each read just before its rows, and what each test of the length says

abbrev to_origins : ℕ → ℕ
to_origins l = links_at_of + l * link_width + 4

abbrev to_destinations : ℕ → ℕ → ℕ
to_destinations l o = to_origins l + o * origin_width + 4

abbrev to_legs : ℕ → ℕ → ℕ → ℕ
to_legs l o d = to_destinations l o + d * destination_width + 4

abbrev to_samples : ℕ → ℕ → ℕ → ℕ → ℕ
to_samples l o d g = to_legs l o d + g * leg_width + 4

abbrev to_end : ℕ → ℕ → ℕ → ℕ → ℕ → ℕ
to_end l o d g p = to_samples l o d g + p * sample_width

-- what `count_before` answers: the count before `at`, or that the bytes end before it
abbrev counted : List ℕ → ℕ → Result ℕ Refusal
counted b at = cond (ltb (length b) at) (Err CutOff) (Ok (u32_at b (at - 4)))

count_read : (b : List ℕ) (at : ℕ) {n : ℕ} → Ok n ≡ counted b at → n ≡ u32_at b (at - 4)
count_read b at {n} e = go (ltb (length b) at) e
  where
    go : (t : Bool) → Ok n ≡ cond t (Err CutOff) (Ok (u32_at b (at - 4))) → n ≡ u32_at b (at - 4)
    go true e = cc
    go false e = cc

pub count_cut : {A : Type 0} (b : List ℕ) (at : ℕ) (t : Result A Refusal) {r : Refusal} {a : Answer A}
    → Err r ≡ counted b at → IsErrAnd t (λ x. x ≡ r) → (length b < at → refused 1 ≡ a) → told t ≡ a
count_cut b at t {r} {a} e d h = rw (handed_on t r d) (go (ltb (length b) at) refl e)
  where
    go : (p : Bool) → ltb (length b) at ≡ p → Err r ≡ cond p (Err CutOff) (Ok (u32_at b (at - 4)))
        → refused (refusal_number r) ≡ a
    go true k e =
        let i : r ≡ CutOff = cc in
        rw i (h (ltb-true (length b) at k))
    go false k e = cc

count_before : (b : List ℕ) {n at place : ℕ} → at ≡ place → n ≡ u32_at b (at - 4) → n ≡ u32_at b (place - 4)
count_before b e h = rw e at h

pub short_head : (b : List ℕ) → length b < links_at_of → refused 1 ≡ measured_of b
short_head b h = short_is b (omega (arith, follow b))

module _ (b : List ℕ) {l : ℕ} (read₁ : Ok l ≡ counted b links_at_of) where
  are₁ : l ≡ links b
  unfolding links
  are₁ = count_read b links_at_of read₁

  next₁ : to_origins l ≡ origins_at_of b
  next₁ = omega (arith, follow b, are₁)

  pub short_links : length b < to_origins l → refused 1 ≡ measured_of b
  short_links h = short_is b (omega (arith, follow b, next₁))

  module _ {o : ℕ} (read₂ : Ok o ≡ counted b (to_origins l)) where
    are₂ : o ≡ origins b
    unfolding origins
    are₂ = count_before b next₁ (count_read b (to_origins l) read₂)

    next₂ : to_destinations l o ≡ destinations_at_of b
    next₂ = omega (arith, follow b, are₂, next₁)

    pub short_origins : length b < to_destinations l o → refused 1 ≡ measured_of b
    short_origins h = short_is b (omega (arith, follow b, next₂))

    module _ {d : ℕ} (read₃ : Ok d ≡ counted b (to_destinations l o)) where
      are₃ : d ≡ destinations b
      unfolding destinations
      are₃ = count_before b next₂ (count_read b (to_destinations l o) read₃)

      next₃ : to_legs l o d ≡ legs_at_of b
      next₃ = omega (arith, follow b, are₃, next₂)

      pub short_destinations : length b < to_legs l o d → refused 1 ≡ measured_of b
      short_destinations h = short_is b (omega (arith, follow b, next₃))

      module _ {g : ℕ} (read₄ : Ok g ≡ counted b (to_legs l o d)) where
        are₄ : g ≡ legs b
        unfolding legs
        are₄ = count_before b next₃ (count_read b (to_legs l o d) read₄)

        next₄ : to_samples l o d g ≡ samples_at_of b
        next₄ = omega (arith, follow b, are₄, next₃)

        pub short-legs : length b < to_samples l o d g → refused 1 ≡ measured_of b
        short-legs h = short_is b (omega (arith, follow b, next₄))

        module _ {p : ℕ} (read₅ : Ok p ≡ counted b (to_samples l o d g)) where
          are₅ : p ≡ samples b
          unfolding samples
          are₅ = count_before b next₄ (count_read b (to_samples l o d g) read₅)

          next₅ : to_end l o d g p ≡ end_of b
          next₅ = omega (arith, follow b, are₅, next₄)

          pub short-samples : length b < to_end l o d g p → refused 1 ≡ measured_of b
          short-samples h = short_is b (omega (arith, next₅))

          pub long-samples : to_end l o d g p < length b → refused 2 ≡ measured_of b
          long-samples h = long_is b (omega (arith, next₅))

          sections-are :
              record { links = l; origins = o; destinations = d; legs = g; samples = p; origins_at = to_origins l; destinations_at = to_destinations l o; legs_at = to_legs l o d; samples_at = to_samples l o d g; end = to_end l o d g p }
              ≡ sections_of b
          unfolding sections_of
          sections-are = cc (are₁, are₂, are₃, are₄, are₅, next₁, next₂, next₃, next₄, next₅)

          pub whole-samples : to_end l o d g p ≤ length b → length b ≤ to_end l o d g p → given b ≡ measured_of b
          whole-samples h i = whole_is b (omega (arith, next₅))

          pub sized-samples : to_end l o d g p ≤ length b → length b ≤ to_end l o d g p
              → Sized b (record { links = l; origins = o; destinations = d; legs = g; samples = p; origins_at = to_origins l; destinations_at = to_destinations l o; legs_at = to_legs l o d; samples_at = to_samples l o d g; end = to_end l o d g p })
          sized-samples h i = record { is = sections-are; whole = omega (arith, next₅) }

-- ---- what each answer says

pub measured_whole : (b c : List ℕ) → measured_of b ≡ given c → (row1 b ≡ false) × (row2 b ≡ false) × (c ≡ b)
unfolding measured_of
measured_whole b c e = go (row1 b) (row2 b) e
  where
    go : (p q : Bool) → cond p (refused 1) (cond q (refused 2) (given b)) ≡ given c → (p ≡ false) × (q ≡ false) × (c ≡ b)
    go true q e = (cc, cc, cc)
    go false true e = (refl, cc, cc)
    go false false e = (refl, refl, cc)

pub rows_length : (b : List ℕ) → row1 b ≡ false → row2 b ≡ false → length b ≡ end_of b
unfolding row1 row2
rows_length b h g = omega (arith, ltb-false (length b) (end_of b) h, ltb-false (end_of b) (length b) g)
