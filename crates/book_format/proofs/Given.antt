-- What rows 3 to 7 leave of a book: counts within their limits, floats that can be read, indices that name links, parents above their children, samples that never fall.
-- And the fields of a row that was read as a record.
use mathlib.Core.Path.{◌≡◌, refl, ap}
use mathlib.Core.Bool.{Bool, true, false, not, ◌||◌, ◌&&◌}
use mathlib.Core.List.{List}
use Prim.Native.Nat.{ℕ, zero, suc, ◌+◌, ◌-◌, ◌≤◌, ◌<◌}
use native.Mathlib.Omega.{arith}
use borrow.Author.Tests.{ltb-false, leb-false, eqb-false, not-false}
use lib.Dec.{ltb, eqb}
use Rattle.laws.specs.Below.{some_below}
use Rattle.laws.proofs.Below.{none_at, none_left, none_right}
use Rattle.floats.specs.Floats.{book_float}
use Rattle.book_format.specs.declared.Link.{Link}
use Rattle.book_format.specs.declared.Origin.{Origin}
use Rattle.book_format.specs.declared.Leg.{Leg}
use Rattle.book_format.specs.Format.{link_at, origin_at, leg_at, links, origins, destinations, legs, samples, link_length, link_next, link_next_alt, link_prev, link_prev_alt, origin_link, origin_offset, origin_front, destination_link, leg_link, leg_parent, leg_samples, first_sample, sample_at, join_bits, departure_bits, length_bits, float_of}
use Rattle.book_format.specs.Rows.{outside_limits, bad_count, bad_origin_value, bad_sample, row4, no_such_link, link_zero, bad_link, bad_leg_index, row5, bad_leg, some_bad_leg, some_leg_repeats, sample_falls, falls, leg_falls, leg_begins, row7}

-- ---- the limits

-- a count that is not outside its limits
pub within : (limit n : ℕ) → outside_limits limit n ≡ false → (0 < n) × (n ≤ limit)
within limit n e = (some n (eqb-false n 0 (none_left (eqb n 0) (ltb limit n) e)), ltb-false limit n (none_right (eqb n 0) (ltb limit n) e))
  where
    some : (n : ℕ) → (n ≡ 0 → ⊥) → 0 < n
    some zero z = absurd (z refl)
    some (suc n) z = omega arith

pub record Limits (b : List ℕ) : Type 0 where
  pub links_some : 0 < links b
  pub links_most : links b ≤ 65535
  pub legs_most : legs b ≤ 65535
  pub origins_most : origins b ≤ 1000
  pub destinations_most : destinations b ≤ 1000
  pub samples_most : samples b ≤ 1000000

pub limits : (b : List ℕ) → bad_count b ≡ false → Limits b
unfolding bad_count
limits b e =
    let p = outside_limits 65535 (links b) in
    let q = p || outside_limits 65535 (legs b) in
    let r = q || outside_limits 1000 (origins b) in
    let t = r || outside_limits 1000 (destinations b) in
    let et : t ≡ false = none_left t (outside_limits 1000000 (samples b)) e in
    let er : r ≡ false = none_left r (outside_limits 1000 (destinations b)) et in
    let eq : q ≡ false = none_left q (outside_limits 1000 (origins b)) er in
    let l = within 65535 (links b) (none_left p (outside_limits 65535 (legs b)) eq) in
    record {
      links_some = l.0;
      links_most = l.1;
      legs_most = (within 65535 (legs b) (none_right p (outside_limits 65535 (legs b)) eq)).1;
      origins_most = (within 1000 (origins b) (none_right q (outside_limits 1000 (origins b)) er)).1;
      destinations_most = (within 1000 (destinations b) (none_right r (outside_limits 1000 (destinations b)) et)).1;
      samples_most = (within 1000000 (samples b) (none_right t (outside_limits 1000000 (samples b)) e)).1;
    }

-- ---- row 4

module _ (b : List ℕ) (h : row4 b ≡ false) where
  abbrev heads : Bool
  heads = not (book_float (join_bits b)) || not (book_float (departure_bits b)) || not (book_float (length_bits b))

  abbrev some_links : Bool
  some_links = some_below (links b) (λ i. not (book_float (link_length b i)))

  abbrev some_origins : Bool
  some_origins = some_below (origins b) (bad_origin_value b)

  floats : (heads || some_links || some_origins) ≡ false
  unfolding row4
  floats = none_left (heads || some_links || some_origins) (some_below (samples b) (bad_sample b)) h

  pub length_float : book_float (length_bits b) ≡ true
  length_float =
      let p = not (book_float (join_bits b)) || not (book_float (departure_bits b)) in
      not-false (book_float (length_bits b)) (none_right p (not (book_float (length_bits b))) (none_left heads some_links (none_left (heads || some_links) some_origins floats)))

  pub link_float : (l : ℕ) → l < links b → book_float (link_length b l) ≡ true
  link_float l g =
      not-false (book_float (link_length b l)) (none_at (links b) (λ i. not (book_float (link_length b i))) l g (none_right heads some_links (none_left (heads || some_links) some_origins floats)))

  pub origin_float : (i : ℕ) → i < origins b → book_float (origin_offset b i) ≡ true
  unfolding bad_origin_value
  origin_float i g =
      not-false (book_float (origin_offset b i))
      (none_left (not (book_float (origin_offset b i))) (ltb 1 (origin_front b i)) (none_at (origins b) (bad_origin_value b) i g (none_right (heads || some_links) some_origins floats)))

  pub sample_good : (k : ℕ) → k < samples b → bad_sample b k ≡ false
  unfolding row4
  sample_good k g = none_at (samples b) (bad_sample b) k g (none_right (heads || some_links || some_origins) (some_below (samples b) (bad_sample b)) h)

-- ---- row 5

module _ (b : List ℕ) (h : row5 b ≡ false) where
  named : (i : ℕ) → no_such_link b i ≡ false → i < links b
  named i e = leb-false (links b) i e

  abbrev zero_or_links : Bool
  zero_or_links = not (link_zero b) || some_below (links b) (bad_link b)

  abbrev some_origin : Bool
  some_origin = some_below (origins b) (λ i. no_such_link b (origin_link b i))

  abbrev some_destination : Bool
  some_destination = some_below (destinations b) (λ i. no_such_link b (destination_link b i))

  indices : (zero_or_links || some_origin || some_destination) ≡ false
  unfolding row5
  indices = none_left (zero_or_links || some_origin || some_destination) (some_below (legs b) (bad_leg_index b)) h

  pub destination_named : (i : ℕ) → i < destinations b → destination_link b i < links b
  destination_named i g =
      named (destination_link b i) (none_at (destinations b) (λ i. no_such_link b (destination_link b i)) i g (none_right (zero_or_links || some_origin) some_destination indices))

  pub origin_named : (i : ℕ) → i < origins b → origin_link b i < links b
  origin_named i g =
      named (origin_link b i)
      (none_at (origins b) (λ i. no_such_link b (origin_link b i)) i g (none_right zero_or_links some_origin (none_left (zero_or_links || some_origin) some_destination indices)))

  good_link : (l : ℕ) → l < links b → bad_link b l ≡ false
  good_link l g =
      none_at (links b) (bad_link b) l g
      (none_right (not (link_zero b)) (some_below (links b) (bad_link b)) (none_left zero_or_links some_origin (none_left (zero_or_links || some_origin) some_destination indices)))

  abbrev nexts : ℕ → Bool
  nexts l = no_such_link b (link_next b l) || no_such_link b (link_next_alt b l)

  fours : (l : ℕ) → l < links b → (nexts l || no_such_link b (link_prev b l) || no_such_link b (link_prev_alt b l)) ≡ false
  unfolding bad_link
  fours l g =
      let f = nexts l || no_such_link b (link_prev b l) || no_such_link b (link_prev_alt b l) in
      let z = ltb 0 l && eqb (link_length b l) 0 in
      none_left f z (none_left (f || z) (eqb (link_next b l) (link_next_alt b l) && ltb 0 (link_next b l)) (good_link l g))

  pub prev_named : (l : ℕ) → l < links b → link_prev b l < links b
  prev_named l g = named (link_prev b l) (none_right (nexts l) (no_such_link b (link_prev b l)) (none_left (nexts l || no_such_link b (link_prev b l)) (no_such_link b (link_prev_alt b l)) (fours l g)))

  pub prev_alt_named : (l : ℕ) → l < links b → link_prev_alt b l < links b
  prev_alt_named l g = named (link_prev_alt b l) (none_right (nexts l || no_such_link b (link_prev b l)) (no_such_link b (link_prev_alt b l)) (fours l g))

  pub leg_named : (i : ℕ) → i < legs b → leg_link b i < links b
  unfolding row5 bad_leg_index
  leg_named i g =
      named (leg_link b i)
      (none_left (no_such_link b (leg_link b i)) (ltb (legs b) (leg_parent b i))
      (none_at (legs b) (bad_leg_index b) i g (none_right (zero_or_links || some_origin || some_destination) (some_below (legs b) (bad_leg_index b)) h)))

-- ---- row 7

-- a parent stands above its child
pub leg_above : (b : List ℕ) → some_below (legs b) (bad_leg b) ≡ false → (i : ℕ) → i < legs b → leg_parent b i ≤ i
unfolding bad_leg
leg_above b h i g = ltb-false i (leg_parent b i) (none_right (eqb (leg_link b i) 0) (ltb i (leg_parent b i)) (none_at (legs b) (bad_leg b) i g h))

-- no sample of a leg falls against the one before it
pub leg_rises : (b : List ℕ) → row7 b ≡ false → (i : ℕ) → i < legs b → (k : ℕ) → k < leg_samples b i - 1 → sample_falls (sample_at b (first_sample b i + k)) (sample_at b (first_sample b i + k + 1)) ≡ false
unfolding row7 leg_falls falls
leg_rises b h i g k l =
    let p = some_bad_leg b || some_leg_repeats b in
    let f = some_below (legs b) (leg_falls b) in
    none_at (leg_samples b i - 1) (λ j. falls b (first_sample b i + j)) k l (none_at (legs b) (leg_falls b) i g (none_right p f (none_left (p || f) (some_below (legs b) (λ j. not (leg_begins b j))) h)))

-- ---- what is read of a row

pub origin_link_lem : (b : List ℕ) (i : ℕ) {o : Origin} → o ≡ origin_at b i → o.link_idx ≡ origin_link b i
unfolding origin_at
origin_link_lem b i e = ap (λ (o : Origin). o.link_idx) e

pub link_prev_lem : (b : List ℕ) (l : ℕ) {r : Link} → r ≡ link_at b l → r.idx_prev ≡ link_prev b l
unfolding link_at
link_prev_lem b l e = ap (λ (r : Link). r.idx_prev) e

pub link_prev_alt_lem : (b : List ℕ) (l : ℕ) {r : Link} → r ≡ link_at b l → r.idx_prev_alt ≡ link_prev_alt b l
unfolding link_at
link_prev_alt_lem b l e = ap (λ (r : Link). r.idx_prev_alt) e

pub link_length_lem : (b : List ℕ) (l : ℕ) {r : Link} → r ≡ link_at b l → r.length ≡ float_of (link_length b l)
unfolding link_at
link_length_lem b l e = ap (λ (r : Link). r.length) e

pub leg_link_lem : (b : List ℕ) (i : ℕ) (l : Leg) → l ≡ leg_at b i → l.link_idx ≡ leg_link b i
unfolding leg_at
leg_link_lem b i l e = ap (λ (x : Leg). x.link_idx) e

pub leg_parent_lem : (b : List ℕ) (i : ℕ) (l : Leg) → l ≡ leg_at b i → l.parent ≡ leg_parent b i
unfolding leg_at
leg_parent_lem b i l e = ap (λ (x : Leg). x.parent) e

pub leg_samples_lem : (b : List ℕ) (i : ℕ) (l : Leg) → l ≡ leg_at b i → l.samples ≡ leg_samples b i
unfolding leg_at
leg_samples_lem b i l e = ap (λ (x : Leg). x.samples) e
