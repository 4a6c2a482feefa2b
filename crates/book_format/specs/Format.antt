-- The format of a book, document 01 under "Book": where each section begins, and what stands in each row of it.
-- A book is a list of bytes. Three floats stand first: J in m/s, the departure in s, the train's length in m.
-- Then come five sections, each after its count: links from 0, origins, destinations, legs from 1, samples in leg
-- order.
-- A float is kept as its bit pattern where rows 4 to 7 look at it, and read by std's `Float.Ieee` in the records.
-- Every definition is total: bytes past the end are read as 0, and counts are taken as they stand. It is no parser:
-- nothing here says in which order bytes are looked at.
use Rattle.std.specs.Prelude.{◌≡◌, List, ℕ, ◌+◌, ◌-◌, ◌*◌, length, Float}
use Rattle.std.specs.Float.{binary64}
use Rattle.std.specs.Float.Ieee.{of_bits}
use Rattle.fields.specs.Fields.{u32_at, u64_at}
use Rattle.laws.specs.Below.{sum_below}
use Rattle.book_format.specs.declared.Sections.{Sections}
use Rattle.book_format.specs.declared.Link.{Link}
use Rattle.book_format.specs.declared.Origin.{Origin}
use Rattle.book_format.specs.declared.Leg.{Leg}
use Rattle.book_format.specs.declared.Sample.{Sample}
use Rattle.book_format.specs.declared.SamplePatterns.{SamplePatterns}
use Rattle.book_format.specs.declared.HeadPatterns.{HeadPatterns}

-- ---- the widths of a row, in bytes

abbrev pub link_width : ℕ
link_width = 24

abbrev pub origin_width : ℕ
origin_width = 16

abbrev pub destination_width : ℕ
destination_width = 4

abbrev pub leg_width : ℕ
leg_width = 12

abbrev pub sample_width : ℕ
sample_width = 24

-- ---- "Three floats": their patterns

unfoldable pub join_bits : List ℕ → ℕ
join_bits b = u64_at b 0

unfoldable pub departure_bits : List ℕ → ℕ
departure_bits b = u64_at b 8

unfoldable pub length_bits : List ℕ → ℕ
length_bits b = u64_at b 16

-- ---- "five sections, each after its count": the counts, and where the first row of each section stands

-- Stands in contracts as `i < links b`, and so do the other counts: an index is the caller's own, and a slice asks the
-- same of it. As `links b ≤ length marks` it stands where marks are lent: the same marks serve one search after the
-- other, cut to another length each time. As `0 < links b` it stands between row 3, which tests it, and row 5.
unfoldable pub links : List ℕ → ℕ
links b = u32_at b 24

abbrev pub links_at_of : ℕ
links_at_of = 28

unfoldable pub origins_at_of : List ℕ → ℕ
origins_at_of b = links_at_of + links b * link_width + 4

unfoldable pub origins : List ℕ → ℕ
origins b = u32_at b (origins_at_of b - 4)

unfoldable pub destinations_at_of : List ℕ → ℕ
destinations_at_of b = origins_at_of b + origins b * origin_width + 4

unfoldable pub destinations : List ℕ → ℕ
destinations b = u32_at b (destinations_at_of b - 4)

unfoldable pub legs_at_of : List ℕ → ℕ
legs_at_of b = destinations_at_of b + destinations b * destination_width + 4

unfoldable pub legs : List ℕ → ℕ
legs b = u32_at b (legs_at_of b - 4)

unfoldable pub samples_at_of : List ℕ → ℕ
samples_at_of b = legs_at_of b + legs b * leg_width + 4

unfoldable pub samples : List ℕ → ℕ
samples b = u32_at b (samples_at_of b - 4)

-- where the last field ends
unfoldable pub end_of : List ℕ → ℕ
end_of b = samples_at_of b + samples b * sample_width

-- how many rows all sections have
abbrev pub rows : List ℕ → ℕ
rows b = legs b + destinations b + origins b + links b + samples b

-- all counts and places of a book
unfoldable pub sections_of : List ℕ → Sections
sections_of b = record {
  links = links b;
  origins = origins b;
  destinations = destinations b;
  legs = legs b;
  samples = samples b;
  origins_at = origins_at_of b;
  destinations_at = destinations_at_of b;
  legs_at = legs_at_of b;
  samples_at = samples_at_of b;
  end = end_of b;
}

-- ---- the fields of a row: links, origins, destinations and samples are counted from 0; a leg's number is one more
-- than its row's

-- "links from 0: length, next, next alternative, previous, previous alternative"
unfoldable pub link_length : List ℕ → ℕ → ℕ
link_length b i = u64_at b (links_at_of + i * link_width)

unfoldable pub link_next : List ℕ → ℕ → ℕ
link_next b i = u32_at b (links_at_of + i * link_width + 8)

unfoldable pub link_next_alt : List ℕ → ℕ → ℕ
link_next_alt b i = u32_at b (links_at_of + i * link_width + 12)

unfoldable pub link_prev : List ℕ → ℕ → ℕ
link_prev b i = u32_at b (links_at_of + i * link_width + 16)

unfoldable pub link_prev_alt : List ℕ → ℕ → ℕ
link_prev_alt b i = u32_at b (links_at_of + i * link_width + 20)

-- "origins: link, offset, front flag 0 or 1"
unfoldable pub origin_link : List ℕ → ℕ → ℕ
origin_link b i = u32_at b (origins_at_of b + i * origin_width)

unfoldable pub origin_offset : List ℕ → ℕ → ℕ
origin_offset b i = u64_at b (origins_at_of b + i * origin_width + 4)

unfoldable pub origin_front : List ℕ → ℕ → ℕ
origin_front b i = u32_at b (origins_at_of b + i * origin_width + 12)

-- "destinations: link"
unfoldable pub destination_link : List ℕ → ℕ → ℕ
destination_link b i = u32_at b (destinations_at_of b + i * destination_width)

-- "legs from 1: link, parent leg (0: starts at an origin), number of samples", here by the row, which is the leg's
-- number less one
unfoldable pub leg_link : List ℕ → ℕ → ℕ
leg_link b i = u32_at b (legs_at_of b + i * leg_width)

unfoldable pub leg_parent : List ℕ → ℕ → ℕ
leg_parent b i = u32_at b (legs_at_of b + i * leg_width + 4)

unfoldable pub leg_samples : List ℕ → ℕ → ℕ
leg_samples b i = u32_at b (legs_at_of b + i * leg_width + 8)

-- "samples in leg order: time, offset, speed"
unfoldable pub sample_time : List ℕ → ℕ → ℕ
sample_time b k = u64_at b (samples_at_of b + k * sample_width)

unfoldable pub sample_offset : List ℕ → ℕ → ℕ
sample_offset b k = u64_at b (samples_at_of b + k * sample_width + 8)

unfoldable pub sample_speed : List ℕ → ℕ → ℕ
sample_speed b k = u64_at b (samples_at_of b + k * sample_width + 16)

-- the first sample of the leg in row i: as many stand before it as the legs above it have
unfoldable pub first_sample : List ℕ → ℕ → ℕ
first_sample b i = sum_below i (leg_samples b)

-- ---- the rows as records

abbrev pub float_of : ℕ → Float
float_of bits = of_bits binary64 bits

unfoldable pub link_at : List ℕ → ℕ → Link
link_at b i = record {
  length = float_of (link_length b i);
  idx_next = link_next b i;
  idx_next_alt = link_next_alt b i;
  idx_prev = link_prev b i;
  idx_prev_alt = link_prev_alt b i;
}

unfoldable pub origin_at : List ℕ → ℕ → Origin
origin_at b i = record {
  link_idx = origin_link b i;
  offset = float_of (origin_offset b i);
  is_front_end = origin_front b i;
}

unfoldable pub leg_at : List ℕ → ℕ → Leg
leg_at b i = record { link_idx = leg_link b i; parent = leg_parent b i; samples = leg_samples b i }

-- a sample whose first byte is at `at`: samples also stand in bytes that are no book
unfoldable pub sample_from : List ℕ → ℕ → Sample
sample_from b at = record {
  time = float_of (u64_at b at);
  offset = float_of (u64_at b (at + 8));
  speed = float_of (u64_at b (at + 16));
}

unfoldable pub sample_at : List ℕ → ℕ → Sample
unfolding sample_from
sample_at b k = sample_from b (samples_at_of b + k * sample_width)

-- ---- patterns alone

-- those of a sample whose first byte is at `at`
unfoldable pub patterns_from : List ℕ → ℕ → SamplePatterns
patterns_from b at = record { time = u64_at b at; offset = u64_at b (at + 8); speed = u64_at b (at + 16) }

unfoldable pub sample_patterns : List ℕ → ℕ → SamplePatterns
sample_patterns b k = record { time = sample_time b k; offset = sample_offset b k; speed = sample_speed b k }

unfoldable pub head_patterns : List ℕ → HeadPatterns
head_patterns b = record { join = join_bits b; departure = departure_bits b; length = length_bits b }

-- ---- reading

-- s says where the sections of b stand, and b ends where its last field does: what rows 1 and 2 leave
pub record Sized (b : List ℕ) (s : Sections) : Type 0 where
  pub is : s ≡ sections_of b
  pub whole : length b ≡ end_of b
