-- Where the sections of a book stand: a `Sized` record's fields are the definitions', the sections follow one another, and each row lies inside the bytes.
-- Assumes nothing.
use mathlib.Core.Path.{◌≡◌, refl, ap}
use mathlib.Core.List.{List}
use Prim.Native.Nat.{ℕ, ◌+◌, ◌*◌, ◌≤◌, ◌<◌}
use native.Mathlib.Omega.{arith}
use lib.ListN.{length}
use Rattle.book_format.specs.declared.Sections.{Sections}
use Rattle.book_format.specs.Format.{Sized, sections_of, link_width, origin_width, destination_width, leg_width, sample_width, links, origins, destinations, legs, samples, rows, links_at_of, origins_at_of, destinations_at_of, legs_at_of, samples_at_of, end_of}

-- ---- the fields of s

module _ {b : List ℕ} {s : Sections} (z : Sized b s) where
  pub sized_links : s.links ≡ links b
  unfolding sections_of
  sized_links = ap (λ (t : Sections). t.links) z.is

  pub sized_origins : s.origins ≡ origins b
  unfolding sections_of
  sized_origins = ap (λ (t : Sections). t.origins) z.is

  pub sized_destinations : s.destinations ≡ destinations b
  unfolding sections_of
  sized_destinations = ap (λ (t : Sections). t.destinations) z.is

  pub sized_legs : s.legs ≡ legs b
  unfolding sections_of
  sized_legs = ap (λ (t : Sections). t.legs) z.is

  pub sized_samples : s.samples ≡ samples b
  unfolding sections_of
  sized_samples = ap (λ (t : Sections). t.samples) z.is

  pub sized_origins_at : s.origins_at ≡ origins_at_of b
  unfolding sections_of
  sized_origins_at = ap (λ (t : Sections). t.origins_at) z.is

  pub sized_destinations_at : s.destinations_at ≡ destinations_at_of b
  unfolding sections_of
  sized_destinations_at = ap (λ (t : Sections). t.destinations_at) z.is

  pub sized_legs_at : s.legs_at ≡ legs_at_of b
  unfolding sections_of
  sized_legs_at = ap (λ (t : Sections). t.legs_at) z.is

  pub sized_samples_at : s.samples_at ≡ samples_at_of b
  unfolding sections_of
  sized_samples_at = ap (λ (t : Sections). t.samples_at) z.is

-- ---- each section follows the one before it

pub record Follow (b : List ℕ) : Type 0 where
  pub origins_at : origins_at_of b ≡ links_at_of + links b * link_width + 4
  pub destinations_at : destinations_at_of b ≡ origins_at_of b + origins b * origin_width + 4
  pub legs_at : legs_at_of b ≡ destinations_at_of b + destinations b * destination_width + 4
  pub samples_at : samples_at_of b ≡ legs_at_of b + legs b * leg_width + 4
  pub ends : end_of b ≡ samples_at_of b + samples b * sample_width

pub follow : (b : List ℕ) → Follow b
unfolding origins_at_of destinations_at_of legs_at_of samples_at_of end_of
follow b = record { origins_at = refl; destinations_at = refl; legs_at = refl; samples_at = refl; ends = refl }

-- ---- each row lies inside the bytes

module _ (b : List ℕ) (whole : length b ≡ end_of b) where
  pub head_inside : links_at_of ≤ length b
  head_inside = omega (arith, follow b)

  pub link_inside : (i : ℕ) → i < links b → links_at_of + i * link_width + link_width ≤ length b
  link_inside i h = omega (arith, follow b)

  pub origin_inside : (i : ℕ) → i < origins b → origins_at_of b + i * origin_width + origin_width ≤ length b
  origin_inside i h = omega (arith, follow b)

  pub destination_inside : (i : ℕ) → i < destinations b → destinations_at_of b + i * destination_width + destination_width ≤ length b
  destination_inside i h = omega (arith, follow b)

  pub leg_inside : (i : ℕ) → i < legs b → legs_at_of b + i * leg_width + leg_width ≤ length b
  leg_inside i h = omega (arith, follow b)

  pub sample_inside : (i : ℕ) → i < samples b → samples_at_of b + i * sample_width + sample_width ≤ length b
  sample_inside i h = omega (arith, follow b)

-- the same in the terms of s, of which the book's bytes are b
module _ {b c : List ℕ} {s : Sections} (z : Sized b s) (e : b ≡ c) (i : ℕ) where
  pub link_stands : i < links c → links_at_of + i * link_width + link_width ≤ length b
  link_stands h = link_inside b z.whole i (rw e h)

  pub origin_stands : i < origins c → s.origins_at + i * origin_width + origin_width ≤ length b
  origin_stands h = omega (arith, sized_origins_at z, origin_inside b z.whole i (rw e h))

  pub destination_stands : i < destinations c → s.destinations_at + i * destination_width + destination_width ≤ length b
  destination_stands h = omega (arith, sized_destinations_at z, destination_inside b z.whole i (rw e h))

  pub leg_stands : i < legs c → s.legs_at + i * leg_width + leg_width ≤ length b
  leg_stands h = omega (arith, sized_legs_at z, leg_inside b z.whole i (rw e h))

  pub sample_stands : i < samples c → s.samples_at + i * sample_width + sample_width ≤ length b
  sample_stands h = omega (arith, sized_samples_at z, sample_inside b z.whole i (rw e h))

-- all rows; each has bytes of its own, so there are no more rows than bytes
module _ {b : List ℕ} {s : Sections} (z : Sized b s) where
  pub sized_rows : s.legs + s.destinations + s.origins + s.links + s.samples ≡ rows b
  sized_rows = omega (arith, sized_links z, sized_origins z, sized_destinations z, sized_legs z, sized_samples z)

  pub rows_fit : s.legs + s.destinations + s.origins + s.links + s.samples ≤ length b
  rows_fit = omega (arith, z.whole, follow b, sized_rows)
