-- What the walking code reads and where it stands, in the definition's words.
use mathlib.Core.Path.{◌≡◌, refl, sym, ap, ◌∙◌, subst}
use mathlib.Core.Bool.{Bool, true, false, not, true≢false}
use mathlib.Core.List.{List, [], ◌∷◌}
use Prim.Native.Nat.{ℕ, zero, suc, ◌+◌, ◌-◌, ◌*◌, ◌≤◌, ◌<◌}
use native.Mathlib.Nat.{le_refl}
use native.Mathlib.Numerals.{add-one}
use native.Mathlib.Omega.{arith}
use borrow.Author.Tests.{eqb-true, eq-eqb, ne_eqb}
use lib.Dec.{T, eqb}
use lib.ListN.{length, get_or}
use lib.Ieee.{Float, nan, binary64, le, nan_bits}
use Rattle.floats.specs.Floats.{book_float}
use Rattle.floats.proofs.Order.{le_trans}
use Rattle.fields.specs.Fields.{u64_at}
use Rattle.laws.specs.Below.{some_below}
use Rattle.laws.proofs.Truth.{and_left, and_right}
use Rattle.laws.proofs.Below.{none_all, some_at}
use Rattle.net_node.specs.declared.EstType.TheVariants.{Arrive, Clear}
use Rattle.book_format.specs.Format.{sample_from}
use Rattle.book_format.specs.Rows.{bad_sample_from}
use Rattle.book_format.proofs.Floats.{book_no_nan, sample_floats}
use Rattle.event_walk.specs.declared.Heads.{Heads}
use Rattle.event_walk.specs.declared.Movement.{Movement}
use Rattle.event_walk.specs.declared.PassedPoint.{PassedPoint}
use Rattle.std.specs.Prelude.{Option, Some, None}
use Rattle.event_walk.specs.Course.{Course, course_of, Held, Rises, Walkable}
use Rattle.event_walk.specs.Search.{Reached, FirstReaching, unseen, point_with}
use Rattle.event_walk.specs.Walk.{offset_next, in_range, clears_next, passed_from, reaches_last, Within, NextOf}
use Rattle.event_walk.proofs.Searches.{rises_le}
use Rattle.event_walk.proofs.Turns.{heads, passed_past, point_clear, point_arrive, within_on, within_clear, within_arrive, passed_on, passed_unseen, passed_clear, passed_arrive}

-- ---- a sample

pub offset_number : (b : List ℕ) (at n : ℕ) → bad_sample_from b at ≡ false → n ≡ u64_at b (at + 8) → T (not (nan_bits binary64 n))
offset_number b at n h e = book_no_nan n (subst (λ (k : ℕ). book_float k ≡ true) (sym e) (sample_floats b at h).offset)

pub sample_held : {b : List ℕ} {offsets : List Float} {m : Movement} → Held b offsets m → (i : ℕ) → i < m.samples → (m.at + i * 24 + 24 ≤ length b) × (bad_sample_from b (m.at + i * 24) ≡ false)
sample_held h i g = (omega (arith, h.bytes), h.floats i g)

-- ---- samples that reach the last point

-- where offsets never fall, the last sample tells for all
module _ (c : Course) (some : 0 < c.samples) (r : Rises (λ i. (c.sample i).offset) c.samples) where
  abbrev last : Float
  last = c.offset (c.points - 1)

  abbrev farthest : Float
  farthest = (c.sample (c.samples - 1)).offset

  pub reaches_is : reaches_last c ≡ le last farthest
  unfolding reaches_last
  reaches_is = go (le last farthest) refl
    where
      none : le last farthest ≡ false → (i : ℕ) → i < c.samples → (t : Bool) → le last (c.sample i).offset ≡ t → t ≡ false
      none e i h true f = absurd (true≢false (sym (le_trans last (c.sample i).offset farthest f (rises_le r i (c.samples - 1) (omega arith) (omega (arith, some)))) ∙ e))
      none e i h false f = refl

      go : (t : Bool) → le last farthest ≡ t → some_below c.samples (λ i. le last (c.sample i).offset) ≡ t
      go true e = some_at c.samples (λ i. le last (c.sample i).offset) (c.samples - 1) (omega (arith, some)) e
      go false e = none_all c.samples (λ i. le last (c.sample i).offset) (λ i h. none e i h (le last (c.sample i).offset) refl)

pub reaches_by : (b : List ℕ) (offsets : List Float) (m : Movement) → 0 < m.samples → Rises (λ i. ((course_of b offsets m).sample i).offset) m.samples → (x : Float) → x ≡ (sample_from b (m.at + (m.samples - 1) * 24)).offset
    → le (get_or offsets (m.points - 1) nan) x ≡ reaches_last (course_of b offsets m)
unfolding course_of
reaches_by b offsets m some r x e = ap (le (get_or offsets (m.points - 1) nan)) e ∙ sym (reaches_is (course_of b offsets m) some r)

-- ---- the event that is not emitted

module _ (c : Course) (h : Heads) where
  pub unseen_later : (h.pt_idx_back ≡ 0 → ⊥) → unseen c h ≡ false
  unfolding unseen
  unseen_later z = rw (ne_eqb h.pt_idx_back 0 z)

  pub unseen_is : unseen c h ≡ true → (clears_next c h ≡ true) × (h.pt_idx_back ≡ 0)
  unfolding unseen
  unseen_is e =
      let s = eqb h.pt_idx_back 0 in
      let t = clears_next c h in
      (and_right s t e, eqb-true h.pt_idx_back 0 (and_left s t e))

  pub seen_later : unseen c h ≡ false → clears_next c h ≡ true → h.pt_idx_back ≡ 0 → ⊥
  unfolding unseen
  seen_later e q z = true≢false (sym (rw (q, z, eq-eqb 0 0 refl)) ∙ e)

-- ---- the next event

module _ {c : Course} (w : Walkable c) where
  -- no sample on the way is in range
  skips : (d i b f : ℕ) → Within c (heads i b f) → (0 < d → i + d ≤ c.samples) → ((k : ℕ) → i ≤ k → k < i + d → in_range c (heads k b f) ≡ false) → passed_from c (heads i b f) ≡ passed_from c (heads (i + d) b f)
  skips zero i b f v l r = let e : i ≡ i + 0 = omega arith in ap (λ (k : ℕ). passed_from c (heads k b f)) e
  skips (suc d) i b f v l r =
      let e : suc i + d ≡ i + suc d = omega arith in
      passed_on w v (omega (arith, l (omega arith))) (r i (le_refl i) (omega arith))
      ∙ skips d (suc i) b f (within_on w v (suc i) (omega arith)) (λ h. omega (arith, l (omega arith))) (λ k g h. r k (omega arith) (omega arith))
      ∙ ap (λ (k : ℕ). passed_from c (heads k b f)) e

  module _ {h : Heads} (v : Within c h) (x : Float) (e : x ≡ offset_next c h) where
    short : (k : ℕ) → le x (c.sample k).offset ≡ false → in_range c (heads k h.pt_idx_back h.pt_idx_front) ≡ false
    unfolding in_range offset_next
    short k f = ap (λ (y : Float). le y (c.sample k).offset) (sym e) ∙ f

    -- no sample is in range
    pub next_none : FirstReaching (λ k. (c.sample k).offset) c.samples x h.i None → passed_from c h ≡ []
    next_none f =
        skips (c.samples - h.i) h.i h.pt_idx_back h.pt_idx_front v (λ (g : 0 < c.samples - h.i). omega arith) (λ k g l. short k (f k g (omega arith)))
        ∙ passed_past c (heads (h.i + (c.samples - h.i)) h.pt_idx_back h.pt_idx_front) (λ (g : h.i + (c.samples - h.i) < c.samples). omega arith)

  module _ {h : Heads} (v : Within c h) (x : Float) (e : x ≡ offset_next c h) (i : ℕ) (r : Reached (λ k. (c.sample k).offset) c.samples x h.i i) where
    abbrev there : Heads
    there = heads i h.pt_idx_back h.pt_idx_front

    to_there : passed_from c h ≡ passed_from c there
    to_there =
        let d : h.i + (i - h.i) ≡ i = omega (arith, r.after) in
        skips (i - h.i) h.i h.pt_idx_back h.pt_idx_front v (λ (g : 0 < i - h.i). omega (arith, r.inside)) (λ k g l. short v x e k (r.short k g (omega arith)))
        ∙ ap (λ (k : ℕ). passed_from c (heads k h.pt_idx_back h.pt_idx_front)) d

    within_there : Within c there
    within_there = within_on w v i (omega (arith, v.after, r.after))

    in_range_lem : in_range c there ≡ true
    unfolding in_range offset_next
    in_range_lem = ap (λ (y : Float). le y (c.sample i).offset) (sym e) ∙ r.there

    pub next_cleared : (p : PassedPoint) → clears_next c h ≡ true → (h.pt_idx_back ≡ 0 → ⊥) → p ≡ point_with (c.sample i) (c.sample (i - 1)) x h.pt_idx_back Clear
        → (passed_from c h ≡ p ∷ passed_from c (heads i (h.pt_idx_back + 1) h.pt_idx_front)) × Within c (heads i (h.pt_idx_back + 1) h.pt_idx_front)
    unfolding clears_next offset_next
    next_cleared p q z f =
        subst (λ (n : ℕ). (passed_from c h ≡ p ∷ passed_from c (heads i n h.pt_idx_front)) × Within c (heads i n h.pt_idx_front)) (sym (add-one h.pt_idx_back)) (
          to_there
              ∙ passed_clear w within_there r.inside in_range_lem q z
              ∙ ap (λ (y : PassedPoint). y ∷ passed_from c (heads i (suc h.pt_idx_back) h.pt_idx_front)) (sym (f ∙ point_clear c there x e q)),
          within_clear w within_there q,
        )

    pub next_arrived : (p : PassedPoint) → clears_next c h ≡ false → p ≡ point_with (c.sample i) (c.sample (i - 1)) x h.pt_idx_front Arrive
        → (passed_from c h ≡ p ∷ passed_from c (heads i h.pt_idx_back (h.pt_idx_front + 1))) × Within c (heads i h.pt_idx_back (h.pt_idx_front + 1))
    unfolding clears_next offset_next
    next_arrived p q f =
        subst (λ (n : ℕ). (passed_from c h ≡ p ∷ passed_from c (heads i h.pt_idx_back n)) × Within c (heads i h.pt_idx_back n)) (sym (add-one h.pt_idx_front)) (
          to_there
              ∙ passed_arrive w within_there r.inside in_range_lem q
              ∙ ap (λ (y : PassedPoint). y ∷ passed_from c (heads i h.pt_idx_back (suc h.pt_idx_front))) (sym (f ∙ point_arrive c there x e q)),
          within_arrive w within_there r.inside in_range_lem q,
        )

    -- the first point is passed, and nothing is emitted
    pub next_unseen : clears_next c h ≡ true → h.pt_idx_back ≡ 0 → (passed_from c h ≡ passed_from c (heads i 1 h.pt_idx_front)) × Within c (heads i 1 h.pt_idx_front)
    unfolding clears_next
    next_unseen q z =
        let one : suc h.pt_idx_back ≡ 1 = ap suc z in
        subst (λ (n : ℕ). (passed_from c h ≡ passed_from c (heads i n h.pt_idx_front)) × Within c (heads i n h.pt_idx_front)) one
        (to_there ∙ passed_unseen w within_there r.inside in_range_lem q z, within_clear w within_there q)

-- what is next from there on is next
pub next_from : (c : Course) (h g : Heads) → passed_from c h ≡ passed_from c g → (r : Option (PassedPoint × Heads)) → NextOf c g r → NextOf c h r
next_from c h g e (Some (p, k)) n = (e ∙ n.0, n.1)
next_from c h g e None n = e ∙ n
