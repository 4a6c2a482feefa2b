-- Two lists of bytes that agree in a field agree in the field's bytes; so do they in a row of fields, in a section of rows, and in all sections.
-- Assumes nothing.
use mathlib.Core.Path.{◌≡◌, refl, sym, ap, ◌∙◌, subst}
use mathlib.Core.Bool.{Bool, true, false}
use mathlib.Core.List.{List}
use mathlib.Core.Logic.{◌⊎◌, inl, inr, ⊎_elim}
use Prim.Native.Nat.{ℕ, zero, suc, ◌+◌, ◌-◌, ◌*◌, ◌≤◌, ◌<◌}
use native.Mathlib.Nat.{add-zero}
use native.Mathlib.Omega.{arith}
use borrow.Author.Tests.{ltb-true, ltb-false}
use lib.Dec.{ltb}
use lib.ListN.{length, get_or, get_or-eq_default}
use Rattle.fields.specs.Fields.{u32_at, u64_at}
use Rattle.book_format.specs.Format.{link_width, origin_width, destination_width, leg_width, sample_width, join_bits, departure_bits, length_bits, links, origins, destinations, legs, samples, links_at_of, origins_at_of, destinations_at_of, legs_at_of, samples_at_of, end_of, link_length, link_next, link_next_alt, link_prev, link_prev_alt, origin_link, origin_offset, origin_front, destination_link, leg_link, leg_parent, leg_samples, sample_time, sample_offset, sample_speed}
use Rattle.book_format.specs.Same.{Bytes, SameRows}
use Rattle.book_format.proofs.Places.{follow}

less : (m n : ℕ) → (m < n) ⊎ (n ≤ m)
less m n = go (ltb m n) refl
  where
    go : (t : Bool) → ltb m n ≡ t → (m < n) ⊎ (n ≤ m)
    go true e = inl (ltb-true m n e)
    go false e = inr (ltb-false m n e)

-- past the end a byte is read as 0
byte : {b : List ℕ} → Bytes b → (k : ℕ) → get_or b k 0 < 256
byte {b} w k = ⊎_elim (w.below k) (λ (h : length b ≤ k). subst (λ (x : ℕ). x < 256) (sym (get_or-eq_default b 0 h)) (omega arith)) (less k (length b))

-- b and c have the same bytes from lo up to hi
pub record Agree (b c : List ℕ) (lo hi : ℕ) : Type 0 where
  pub on : (k : ℕ) → lo ≤ k → k < hi → get_or b k 0 ≡ get_or c k 0

agree_on : {b c : List ℕ} {lo hi : ℕ} (mid : ℕ) → Agree b c lo mid → Agree b c mid hi → Agree b c lo hi
agree_on mid p q = record { on = λ k l r. ⊎_elim (λ (g : k < mid). p.on k l g) (λ (g : mid ≤ k). q.on k g r) (less k mid) }

-- rows of one width, one after the other
agree_rows : (b c : List ℕ) (base width n : ℕ) → ((i : ℕ) → i < n → Agree b c (base + i * width) (base + i * width + width)) → Agree b c base (base + n * width)
agree_rows b c base width zero f = record { on = λ k l r. absurd (omega arith) }
agree_rows b c base width (suc n) f =
    subst (Agree b c base) (last base width n)
    (agree_on (base + n * width) (agree_rows b c base width n (λ i h. f i (omega arith))) (f n (omega arith)))
  where
    last : (base width n : ℕ) → base + n * width + width ≡ base + suc n * width
    last base width n = omega arith

-- ---- a field

-- a number's least byte and the rest; its least word and the rest
digits : (a b m n : ℕ) → a < 256 → b < 256 → a + 256 * m ≡ b + 256 * n → (a ≡ b) × (m ≡ n)
digits a b m n h g e = (omega arith, omega arith)

words : (a b m n : ℕ) → a < 4294967296 → b < 4294967296 → a + 4294967296 * m ≡ b + 4294967296 * n → (a ≡ b) × (m ≡ n)
words a b m n h g e = (omega arith, omega arith)

four : (P : ℕ → Type 0) → P 0 → P 1 → P 2 → P 3 → (r : ℕ) → r < 4 → P r
four P p q s t zero h = p
four P p q s t (suc zero) h = q
four P p q s t (suc (suc zero)) h = s
four P p q s t (suc (suc (suc zero))) h = t
four P p q s t (suc (suc (suc (suc r)))) h = absurd (omega arith)

word_below : {s : List ℕ} → Bytes s → (at : ℕ) → u32_at s at < 4294967296
unfolding u32_at
word_below z at = omega (arith, byte z at, byte z (at + 1), byte z (at + 2), byte z (at + 3))

module _ {b c : List ℕ} (w : Bytes b) (v : Bytes c) where
  -- the four bytes of a word, the least taken off first
  word_bytes : (at : ℕ) → u32_at b at ≡ u32_at c at
      → (get_or b at 0 ≡ get_or c at 0) × (get_or b (at + 1) 0 ≡ get_or c (at + 1) 0) × (get_or b (at + 2) 0 ≡ get_or c (at + 2) 0) × (get_or b (at + 3) 0 ≡ get_or c (at + 3) 0)
  unfolding u32_at
  word_bytes at e =
      let x = get_or b at 0 in
      let y = get_or c at 0 in
      let x₁ = get_or b (at + 1) 0 in
      let y₁ = get_or c (at + 1) 0 in
      let x₂ = get_or b (at + 2) 0 in
      let y₂ = get_or c (at + 2) 0 in
      let x₃ = get_or b (at + 3) 0 in
      let y₃ = get_or c (at + 3) 0 in
      let d = digits x y (x₁ + 256 * (x₂ + 256 * x₃)) (y₁ + 256 * (y₂ + 256 * y₃)) (byte w at) (byte v at) (omega arith) in
      let d₁ = digits x₁ y₁ (x₂ + 256 * x₃) (y₂ + 256 * y₃) (byte w (at + 1)) (byte v (at + 1)) d.1 in
      let d₂ = digits x₂ y₂ x₃ y₃ (byte w (at + 2)) (byte v (at + 2)) d₁.1 in
      (d.0, d₁.0, d₂.0, d₂.1)

  agree_word : (at : ℕ) → u32_at b at ≡ u32_at c at → Agree b c at (at + 4)
  agree_word at e =
      let d = word_bytes at e in
      let first : get_or b (at + 0) 0 ≡ get_or c (at + 0) 0 = rw (add-zero at) d.0 in
      record { on = λ k l r. subst (λ (x : ℕ). get_or b x 0 ≡ get_or c x 0) (back at k l) (four (λ (j : ℕ). get_or b (at + j) 0 ≡ get_or c (at + j) 0) first d.1 d.2 d.3 (k - at) (omega arith)) }
    where
      back : (at k : ℕ) → at ≤ k → at + (k - at) ≡ k
      back at k l = omega arith

  agree_double : (at : ℕ) → u64_at b at ≡ u64_at c at → Agree b c at (at + 8)
  unfolding u64_at
  agree_double at e =
      let d = words (u32_at b at) (u32_at c at) (u32_at b (at + 4)) (u32_at c (at + 4)) (word_below w at) (word_below v at) e in
      subst (Agree b c at) (eight at) (agree_on (at + 4) (agree_word at d.0) (agree_word (at + 4) d.1))
    where
      eight : (at : ℕ) → at + 4 + 4 ≡ at + 8
      eight at = omega arith

  -- a field that stands in b at p and in c at q, which are one place
  word : {p q lo hi : ℕ} → u32_at b p ≡ u32_at c q → (p ≡ lo) × (q ≡ lo) × (lo + 4 ≡ hi) → Agree b c lo hi
  word {lo = lo} h e = subst (Agree b c lo) e.2 (agree_word lo (ap (u32_at b) (sym e.0) ∙ h ∙ ap (u32_at c) e.1))

  double : {p q lo hi : ℕ} → u64_at b p ≡ u64_at c q → (p ≡ lo) × (q ≡ lo) × (lo + 8 ≡ hi) → Agree b c lo hi
  double {lo = lo} h e = subst (Agree b c lo) e.2 (agree_double lo (ap (u64_at b) (sym e.0) ∙ h ∙ ap (u64_at c) e.1))

-- ---- the sections stand at the same places

module _ {b c : List ℕ} (s : SameRows b c) where
  same_origins_at : origins_at_of b ≡ origins_at_of c
  same_origins_at = omega (arith, follow b, follow c, s.link_count)

  same_destinations_at : destinations_at_of b ≡ destinations_at_of c
  same_destinations_at = omega (arith, follow b, follow c, same_origins_at, s.origin_count)

  same_legs_at : legs_at_of b ≡ legs_at_of c
  same_legs_at = omega (arith, follow b, follow c, same_destinations_at, s.destination_count)

  same_samples_at : samples_at_of b ≡ samples_at_of c
  same_samples_at = omega (arith, follow b, follow c, same_legs_at, s.leg_count)

  pub same_end : end_of b ≡ end_of c
  same_end = omega (arith, follow b, follow c, same_samples_at, s.sample_count)

-- ---- the head, and each section up to the next one's rows

module _ {b c : List ℕ} (w : Bytes b) (v : Bytes c) (s : SameRows b c) where
  agree_head : Agree b c 0 links_at_of
  unfolding join_bits departure_bits length_bits links
  agree_head =
      agree_on 8 (double w v s.join (omega arith))
      (agree_on 16 (double w v s.departure (omega arith)) (agree_on 24 (double w v s.train (omega arith)) (word w v s.link_count (omega arith))))

  link_row : (i : ℕ) → i < links b → Agree b c (links_at_of + i * link_width) (links_at_of + i * link_width + link_width)
  unfolding link_length link_next link_next_alt link_prev link_prev_alt
  link_row i h =
      let at = links_at_of + i * link_width in
      agree_on (at + 8) (double w v (s.link_length_lem i h) (omega arith))
      (agree_on (at + 12) (word w v (s.link_next_lem i h) (omega arith))
      (agree_on (at + 16) (word w v (s.link_next_alt_lem i h) (omega arith))
      (agree_on (at + 20) (word w v (s.link_prev_lem i h) (omega arith)) (word w v (s.link_prev_alt_lem i h) (omega arith)))))

  agree_links : Agree b c links_at_of (origins_at_of b)
  unfolding origins
  agree_links = agree_on (links_at_of + links b * link_width) (agree_rows b c links_at_of link_width (links b) link_row) (word w v s.origin_count (omega (arith, follow b, same_origins_at s)))

  origin_row : (i : ℕ) → i < origins b → Agree b c (origins_at_of b + i * origin_width) (origins_at_of b + i * origin_width + origin_width)
  unfolding origin_link origin_offset origin_front
  origin_row i h =
      let at = origins_at_of b + i * origin_width in
      let e = same_origins_at s in
      agree_on (at + 4) (word w v (s.origin_link_lem i h) (omega arith))
      (agree_on (at + 12) (double w v (s.origin_offset_lem i h) (omega arith)) (word w v (s.origin_front_lem i h) (omega arith)))

  agree_origins : Agree b c (origins_at_of b) (destinations_at_of b)
  unfolding destinations
  agree_origins =
      agree_on (origins_at_of b + origins b * origin_width) (agree_rows b c (origins_at_of b) origin_width (origins b) origin_row) (word w v s.destination_count (omega (arith, follow b, same_destinations_at s)))

  destination_row : (i : ℕ) → i < destinations b → Agree b c (destinations_at_of b + i * destination_width) (destinations_at_of b + i * destination_width + destination_width)
  unfolding destination_link
  destination_row i h = word w v (s.destination_link_lem i h) (omega (arith, same_destinations_at s))

  agree_destinations : Agree b c (destinations_at_of b) (legs_at_of b)
  unfolding legs
  agree_destinations =
      agree_on (destinations_at_of b + destinations b * destination_width) (agree_rows b c (destinations_at_of b) destination_width (destinations b) destination_row) (word w v s.leg_count (omega (arith, follow b, same_legs_at s)))

  leg_row : (i : ℕ) → i < legs b → Agree b c (legs_at_of b + i * leg_width) (legs_at_of b + i * leg_width + leg_width)
  unfolding leg_link leg_parent leg_samples
  leg_row i h =
      let at = legs_at_of b + i * leg_width in
      let e = same_legs_at s in
      agree_on (at + 4) (word w v (s.leg_link_lem i h) (omega arith))
      (agree_on (at + 8) (word w v (s.leg_parent_lem i h) (omega arith)) (word w v (s.leg_samples_lem i h) (omega arith)))

  agree_legs : Agree b c (legs_at_of b) (samples_at_of b)
  unfolding samples
  agree_legs =
      agree_on (legs_at_of b + legs b * leg_width) (agree_rows b c (legs_at_of b) leg_width (legs b) leg_row) (word w v s.sample_count (omega (arith, follow b, same_samples_at s)))

  sample_row : (i : ℕ) → i < samples b → Agree b c (samples_at_of b + i * sample_width) (samples_at_of b + i * sample_width + sample_width)
  unfolding sample_time sample_offset sample_speed
  sample_row i h =
      let at = samples_at_of b + i * sample_width in
      let e = same_samples_at s in
      agree_on (at + 8) (double w v (s.sample_time_lem i h) (omega arith))
      (agree_on (at + 16) (double w v (s.sample_offset_lem i h) (omega arith)) (double w v (s.sample_speed_lem i h) (omega arith)))

  agree_samples : Agree b c (samples_at_of b) (end_of b)
  unfolding end_of
  agree_samples = agree_rows b c (samples_at_of b) sample_width (samples b) sample_row

  pub agree_all : Agree b c 0 (end_of b)
  agree_all =
      agree_on links_at_of agree_head
      (agree_on (origins_at_of b) agree_links
      (agree_on (destinations_at_of b) agree_origins (agree_on (legs_at_of b) agree_destinations (agree_on (samples_at_of b) agree_legs agree_samples))))
