-- Two books that say the same, for the theorem that their bytes are then the same: the format holds nothing beside
-- its fields, and each byte is part of one.
use Rattle.std.specs.Prelude.{◌≡◌, List, ℕ, ◌<◌, length, get_or}
use Rattle.book_format.specs.Format.{join_bits, departure_bits, length_bits}
use Rattle.book_format.specs.Format.{links, origins, destinations, legs, samples}
use Rattle.book_format.specs.Format.{link_length, link_next, link_next_alt, link_prev, link_prev_alt}
use Rattle.book_format.specs.Format.{origin_link, origin_offset, origin_front, destination_link}
use Rattle.book_format.specs.Format.{leg_link, leg_parent, leg_samples, sample_time, sample_offset, sample_speed}

-- each element is a byte
pub record Bytes (b : List ℕ) : Type 0 where
  pub below : (k : ℕ) → k < length b → get_or b k 0 < 256

-- the same patterns at the head, the same counts, and the same fields in every row
pub record SameRows (b c : List ℕ) : Type 0 where
  pub join : join_bits b ≡ join_bits c
  pub departure : departure_bits b ≡ departure_bits c
  pub train : length_bits b ≡ length_bits c
  pub link_count : links b ≡ links c
  pub origin_count : origins b ≡ origins c
  pub destination_count : destinations b ≡ destinations c
  pub leg_count : legs b ≡ legs c
  pub sample_count : samples b ≡ samples c
  pub link_length_lem : (i : ℕ) → i < links b → link_length b i ≡ link_length c i
  pub link_next_lem : (i : ℕ) → i < links b → link_next b i ≡ link_next c i
  pub link_next_alt_lem : (i : ℕ) → i < links b → link_next_alt b i ≡ link_next_alt c i
  pub link_prev_lem : (i : ℕ) → i < links b → link_prev b i ≡ link_prev c i
  pub link_prev_alt_lem : (i : ℕ) → i < links b → link_prev_alt b i ≡ link_prev_alt c i
  pub origin_link_lem : (i : ℕ) → i < origins b → origin_link b i ≡ origin_link c i
  pub origin_offset_lem : (i : ℕ) → i < origins b → origin_offset b i ≡ origin_offset c i
  pub origin_front_lem : (i : ℕ) → i < origins b → origin_front b i ≡ origin_front c i
  pub destination_link_lem : (i : ℕ) → i < destinations b → destination_link b i ≡ destination_link c i
  pub leg_link_lem : (i : ℕ) → i < legs b → leg_link b i ≡ leg_link c i
  pub leg_parent_lem : (i : ℕ) → i < legs b → leg_parent b i ≡ leg_parent c i
  pub leg_samples_lem : (i : ℕ) → i < legs b → leg_samples b i ≡ leg_samples c i
  pub sample_time_lem : (i : ℕ) → i < samples b → sample_time b i ≡ sample_time c i
  pub sample_offset_lem : (i : ℕ) → i < samples b → sample_offset b i ≡ sample_offset c i
  pub sample_speed_lem : (i : ℕ) → i < samples b → sample_speed b i ≡ sample_speed c i
