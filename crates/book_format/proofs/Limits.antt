-- Row 3's limits of counts, from both sides: "Counts: links, legs 1 to 65,535; origins, destinations 1 to 1,000; samples
-- 1 to 1,000,000." Books of that size are too long to be computed, so these are laws of every book with such counts.
use mathlib.Core.Path.{◌≡◌, refl}
use mathlib.Core.Bool.{true, false}
use mathlib.Core.List.{List}
use Prim.Native.Nat.{ℕ}
use Rattle.book_format.specs.Format.{links, origins, destinations, legs, samples}
use Rattle.book_format.specs.Rows.{bad_count}

-- a book with so many links, legs, origins, destinations and samples
record Counts (b : List ℕ) (i j k l m : ℕ) : Type 0 where
  of_links : links b ≡ i
  of_legs : legs b ≡ j
  of_origins : origins b ≡ k
  of_destinations : destinations b ≡ l
  of_samples : samples b ≡ m

-- each such book passes, or each is refused, as far as counts tell
abbrev Pass : ℕ → ℕ → ℕ → ℕ → ℕ → Type 0
Pass i j k l m = (b : List ℕ) → Counts b i j k l m → bad_count b ≡ false

abbrev Fail : ℕ → ℕ → ℕ → ℕ → ℕ → Type 0
Fail i j k l m = (b : List ℕ) → Counts b i j k l m → bad_count b ≡ true

record Limits : Type 0 where
  all_least : Pass 1 1 1 1 1
  all_most : Pass 65535 65535 1000 1000 1000000
  no_links : Fail 0 1 1 1 1
  no_legs : Fail 1 0 1 1 1
  no_origins : Fail 1 1 0 1 1
  no_destinations : Fail 1 1 1 0 1
  no_samples : Fail 1 1 1 1 0
  links_over : Fail 65536 1 1 1 1
  legs_over : Fail 1 65536 1 1 1
  origins_over : Fail 1 1 1001 1 1
  destinations_over : Fail 1 1 1 1001 1
  samples_over : Fail 1 1 1 1 1000001

limits : Limits
unfolding bad_count
limits = record {
  all_least = λ b c. rw (c.of_links, c.of_legs, c.of_origins, c.of_destinations, c.of_samples) refl;
  all_most = λ b c. rw (c.of_links, c.of_legs, c.of_origins, c.of_destinations, c.of_samples) refl;
  no_links = λ b c. rw c.of_links refl;
  no_legs = λ b c. rw (c.of_links, c.of_legs) refl;
  no_origins = λ b c. rw (c.of_links, c.of_legs, c.of_origins) refl;
  no_destinations = λ b c. rw (c.of_links, c.of_legs, c.of_origins, c.of_destinations) refl;
  no_samples = λ b c. rw (c.of_links, c.of_legs, c.of_origins, c.of_destinations, c.of_samples) refl;
  links_over = λ b c. rw c.of_links refl;
  legs_over = λ b c. rw (c.of_links, c.of_legs) refl;
  origins_over = λ b c. rw (c.of_links, c.of_legs, c.of_origins) refl;
  destinations_over = λ b c. rw (c.of_links, c.of_legs, c.of_origins, c.of_destinations) refl;
  samples_over = λ b c. rw (c.of_links, c.of_legs, c.of_origins, c.of_destinations, c.of_samples) refl;
}
