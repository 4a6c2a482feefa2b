-- Rows 3, 4 and 7, and 11 for the samples: the number by what the code met, and what is left where none holds.
use mathlib.Core.Path.{◌≡◌, refl, sym, ap, ◌∙◌, subst}
use mathlib.Core.Bool.{Bool, true, false, not, ◌||◌, cond, true≢false}
use mathlib.Core.List.{List, [], ◌∷◌, ◌++◌}
use Prim.Native.Nat.{ℕ, suc, ◌+◌, ◌-◌, ◌*◌, ◌≤◌, ◌<◌}
use native.Mathlib.Omega.{arith}
use borrow.Author.Tests.{not-false}
use lib.Dec.{T, ltb}
use lib.ListN.{length, get_or}
use lib.Ieee.{Float, nan, binary64, le, fits, of_bits, to_bits, top}
use lib.Ieee.Bits.{of_bits-to_bits}
use lib.Ieee.Scale.{finite}
use Rattle.laws.specs.Answer.{refused, given}
use Rattle.laws.specs.Below.{some_below}
use Rattle.laws.specs.Refusals.{row, first_of}
use Rattle.laws.proofs.Truth.{none_left, none_right, and_right}
use Rattle.laws.proofs.Refusals.{none_holds}
use Rattle.laws.proofs.Below.{none_at, some_same}
use Rattle.floats.specs.Floats.{table_float, book_float, book_value, Size}
use Rattle.floats.proofs.Laws.{table_finite}
use Rattle.floats.proofs.Order.{not_le, size_of_bits, size_of_value}
use Rattle.book_format.specs.declared.Sample.{Sample}
use Rattle.book_format.specs.Format.{sample_from}
use Rattle.book_format.specs.Rows.{outside_limits, bad_sample_from, sample_falls}
use Rattle.book_format.proofs.Floats.{sample_floats}
use Rattle.book_format.proofs.Given.{within}
use Rattle.event_walk.specs.declared.Movement.{Movement}
use Rattle.event_walk.specs.Course.{Course, course_of, Held, Rises, Walkable}
use Rattle.event_walk.specs.Walk.{points_passed, reaches_last, some_bad, row11}
use Rattle.event_walk.proofs.Searches.{size_number, rises_of, samples_rise}
use Rattle.event_maker.specs.Maker.{bad_counts, bad_floats, falling, rows_to11, answered, answer_of}
use Rattle.event_maker.specs.Parts.{rows_number, first_number, bad_offset, offset_falls, bad_at, falls_at, count_answer, walk_answer}

-- ---- the number of the rows, by their tests

zero_of : (a b c d : Bool) → rows_number a b c d ≡ 0 → (a ≡ false) × (b ≡ false) × (c ≡ false) × (d ≡ false)
zero_of a b c d e = let h = none_holds (rows_to11 a b c d) refl e in (h.0, h.1.0, h.1.1.0, h.1.1.1.0)

-- row 4 of length, points and samples; row 7 of points and samples
by_length : (l s p f r : Bool) → l ≡ true → 4 ≡ rows_number false (l || s || p) f r
unfolding first_of
by_length true s p f r e = refl
by_length false s p f r e = absurd (true≢false (sym e))

by_points : (l s p f r : Bool) → p ≡ true → 4 ≡ rows_number false (l || s || p) f r
unfolding first_of
by_points true s p f r e = refl
by_points false true p f r e = refl
by_points false false true f r e = refl
by_points false false false f r e = absurd (true≢false (sym e))

by_samples : (l s p f r : Bool) → s ≡ true → 4 ≡ rows_number false (l || s || p) f r
unfolding first_of
by_samples true s p f r e = refl
by_samples false true p f r e = refl
by_samples false false p f r e = absurd (true≢false (sym e))

by_fall : (l s p f g r : Bool) → l ≡ false → s ≡ false → p ≡ false → (g || f) ≡ true → 7 ≡ rows_number false (l || s || p) (f || g) r
unfolding first_of
by_fall true s p f g r a b c d = absurd (true≢false a)
by_fall false true p f g r a b c d = absurd (true≢false b)
by_fall false false true f g r a b c d = absurd (true≢false c)
by_fall false false false true g r a b c d = refl
by_fall false false false false true r a b c d = refl
by_fall false false false false false r a b c d = absurd (true≢false (sym d))

-- ---- a count, and a lent length

pub within_counts : (c : Course) → bad_counts c ≡ false → (c.samples ≤ 1000000) × (c.points ≤ 65536)
unfolding bad_counts
within_counts c e = ((within 1000000 c.samples (none_left (outside_limits 1000000 c.samples) (outside_limits 65536 c.points) e)).1, (within 65536 c.points (none_right (outside_limits 1000000 c.samples) (outside_limits 65536 c.points) e)).1)

value_finite : (x : Float) → T (fits binary64 x) → book_value x ≡ true → finite x ≡ true
unfolding book_value book_float
value_finite x f h = table_finite x (subst (λ (y : Float). table_float y ≡ true) (of_bits-to_bits binary64 x f) (and_right (ltb (to_bits binary64 x) (top binary64)) (table_float (of_bits binary64 (to_bits binary64 x))) h))

-- ---- what rows 3, 4 and 7 leave

pub record Counted (m : Movement) : Type 0 where
  pub some : 0 < m.samples
  pub most : m.samples ≤ 1000000
  pub some_points : 0 < m.points
  pub most_points : m.points ≤ 65536

pub record Tested (b : List ℕ) (offsets : List Float) (m : Movement) : Type 0 where
  pub counted : bad_counts (course_of b offsets m) ≡ false
  pub train : book_value m.length ≡ true
  pub good_samples : some_below m.samples (bad_at b) ≡ false
  pub good_points : some_below m.points (bad_offset offsets) ≡ false
  pub rising_samples : some_below (m.samples - 1) (falls_at b) ≡ false
  pub rising_points : some_below (m.points - 1) (offset_falls offsets) ≡ false

module _ (b : List ℕ) (offsets : List Float) (m : Movement) where
  abbrev course : Course
  course = course_of b offsets m

  abbrev bad_train : Bool
  bad_train = not (book_value m.length)

  abbrev bad_samples : Bool
  bad_samples = some_below m.samples (bad_at b)

  abbrev bad_points : Bool
  bad_points = some_below m.points (bad_offset offsets)

  abbrev samples_fall : Bool
  samples_fall = some_below (m.samples - 1) (falls_at b)

  abbrev points_fall : Bool
  points_fall = some_below (m.points - 1) (offset_falls offsets)

  counts_are : (x y : Bool) → x ≡ outside_limits 1000000 m.samples → y ≡ outside_limits 65536 m.points → bad_counts course ≡ (x || y)
  unfolding bad_counts course_of
  counts_are x y e f = sym (ap (λ (t : Bool). t || y) e ∙ ap (λ (t : Bool). outside_limits 1000000 m.samples || t) f)

  pub counts : bad_counts course ≡ false → Counted m
  unfolding bad_counts course_of
  counts e =
      let s = within 1000000 m.samples (none_left (outside_limits 1000000 m.samples) (outside_limits 65536 m.points) e) in
      let p = within 65536 m.points (none_right (outside_limits 1000000 m.samples) (outside_limits 65536 m.points) e) in
      record { some = s.0; most = s.1; some_points = p.0; most_points = p.1 }

  pub counts_left : (x y : Bool) → x ≡ outside_limits 1000000 m.samples → y ≡ outside_limits 65536 m.points → (x || y) ≡ false → bad_counts course ≡ false
  counts_left x y e f h = counts_are x y e f ∙ h

  pub first_3 : (x y : Bool) → x ≡ outside_limits 1000000 m.samples → y ≡ outside_limits 65536 m.points → (x || y) ≡ true → 3 ≡ first_number course b
  unfolding first_number first_of
  first_3 x y e f h = sym (ap (λ (t : Bool). rows_number t (bad_floats course b) (falling course) (reaches_last course)) (counts_are x y e f ∙ h))

  module _ (z : m.at ≡ 0) where
    sample_is : (i : ℕ) → course.sample i ≡ sample_from b (i * 24)
    unfolding course_of
    sample_is i = let e : m.at + i * 24 ≡ i * 24 = omega arith in ap (sample_from b) e

    falls_is : (i : ℕ) → sample_falls (course.sample i) (course.sample (suc i)) ≡ falls_at b i
    unfolding falls_at
    falls_is i = ap (λ (s : Sample). sample_falls s (course.sample (suc i))) (sample_is i) ∙ ap (sample_falls (sample_from b (i * 24))) (sample_is (suc i))

    falling_is : falling course ≡ (samples_fall || points_fall)
    unfolding falling course_of offset_falls
    falling_is = ap (λ (t : Bool). t || points_fall) (some_same (m.samples - 1) (λ i. sample_falls (course.sample i) (course.sample (suc i))) (falls_at b) (λ i h. falls_is i))

    number_is : bad_counts course ≡ false → first_number course b ≡ rows_number false (bad_train || bad_samples || bad_points) (samples_fall || points_fall) (reaches_last course)
    unfolding first_number bad_floats course_of bad_at bad_offset
    number_is e =
        ap (λ (t : Bool). rows_number t (bad_train || bad_samples || bad_points) (falling course) (reaches_last course)) e
        ∙ ap (λ (t : Bool). rows_number false (bad_train || bad_samples || bad_points) t (reaches_last course)) falling_is

    module _ (k : bad_counts course ≡ false) where
      pub first_length : (v : Bool) → v ≡ book_value m.length → not v ≡ true → 4 ≡ first_number course b
      first_length v e h = by_length bad_train bad_samples bad_points (samples_fall || points_fall) (reaches_last course) (ap not (sym e) ∙ h) ∙ sym (number_is k)

      pub first-points : bad_points ≡ true → 4 ≡ first_number course b
      first-points h = by_points bad_train bad_samples bad_points (samples_fall || points_fall) (reaches_last course) h ∙ sym (number_is k)

      pub first-samples : bad_samples ≡ true → 4 ≡ first_number course b
      first-samples h = by_samples bad_train bad_samples bad_points (samples_fall || points_fall) (reaches_last course) h ∙ sym (number_is k)

      module _ (v : Bool) (f : v ≡ book_value m.length) (h : not v ≡ false) (x : Bool) (p : (bad_points ≡ false) × (x ≡ points_fall)) (y : Bool) (s : (bad_samples ≡ false) × (y ≡ samples_fall)) where
        falls_or : (x || y) ≡ (points_fall || samples_fall)
        falls_or = cc (p.1, s.1)

        pub first-fall : (x || y) ≡ true → 7 ≡ first_number course b
        first-fall e = by_fall bad_train bad_samples bad_points samples_fall points_fall (reaches_last course) (ap not (sym f) ∙ h) s.0 p.0 (sym falls_or ∙ e) ∙ sym (number_is k)

        pub tested : (x || y) ≡ false → Tested b offsets m
        tested e = record {
          counted = k;
          train = not-false (book_value m.length) (ap not (sym f) ∙ h);
          good_samples = s.0;
          good_points = p.0;
          rising_samples = none_right points_fall samples_fall (sym falls_or ∙ e);
          rising_points = none_left points_fall samples_fall (sym falls_or ∙ e);
        }

    module _ (t : Tested b offsets m) where
      good_at : (i : ℕ) → i < m.samples → bad_sample_from b (i * 24) ≡ false
      unfolding bad_at
      good_at i h = none_at m.samples (bad_at b) i h t.good_samples

      sizes : (i : ℕ) → i < m.samples → Size (course.sample i).offset
      unfolding sample_from
      sizes i h = subst (λ (s : Sample). Size s.offset) (sym (sample_is i)) (size_of_bits _ (sample_floats b (i * 24) (good_at i h)).offset)

      abbrev last : Float
      last = get_or offsets (m.points - 1) nan

      samples_are_rising : Rises (λ i. (course.sample i).offset) m.samples
      unfolding course_of
      samples_are_rising = samples_rise course sizes (λ i h. falls_is i ∙ none_at (m.samples - 1) (falls_at b) i h t.rising_samples)

      number_left : first_number course b ≡ rows_number false false false (reaches_last course)
      number_left =
          number_is t.counted
          ∙ ap (λ (r : Bool). rows_number false (not r || bad_samples || bad_points) (samples_fall || points_fall) (reaches_last course)) t.train
          ∙ ap (λ (r : Bool). rows_number false (false || r || bad_points) (samples_fall || points_fall) (reaches_last course)) t.good_samples
          ∙ ap (λ (r : Bool). rows_number false r (samples_fall || points_fall) (reaches_last course)) t.good_points
          ∙ ap (λ (r : Bool). rows_number false false (r || points_fall) (reaches_last course)) t.rising_samples
          ∙ ap (λ (r : Bool). rows_number false false r (reaches_last course)) t.rising_points

      pub first_11 : (r : Bool) → r ≡ reaches_last course → r ≡ true → 11 ≡ first_number course b
      unfolding first_of
      first_11 r e h = sym (number_left ∙ ap (rows_number false false false) (sym e ∙ h))

      pub first_0 : (r : Bool) → r ≡ reaches_last course → r ≡ false → 0 ≡ first_number course b
      unfolding first_of
      first_0 r e h = sym (number_left ∙ ap (rows_number false false false) (sym e ∙ h))

      -- ---- what the number 0 leaves, for the walk

      points_rise : ((k : ℕ) → k < m.points → T (fits binary64 (get_or offsets k nan))) → Rises (λ k. get_or offsets k nan) m.points
      unfolding bad_offset offset_falls
      points_rise f =
          rises_of (λ k. get_or offsets k nan) m.points
          (λ k h. size_of_value (get_or offsets k nan) (f k h) (not-false (book_value (get_or offsets k nan)) (none_at m.points (bad_offset offsets) k h t.good_points)))
          (λ k h. none_at (m.points - 1) (offset_falls offsets) k h t.rising_points)

      held_of : m.samples * 24 ≤ length b → m.points ≤ length offsets → Held b offsets m
      held_of h g = record {
        bytes = omega arith;
        points = g;
        floats = λ i l. ap (bad_sample_from b) (at_is i) ∙ good_at i l;
      }
        where
          at_is : (i : ℕ) → m.at + i * 24 ≡ i * 24
          at_is i = omega arith

      -- what is asked of samples and points before the last point is looked at
      pub record MayReach : Type 0 where
        pub held : Held b offsets m
        pub points_nonzero : 0 < m.points
        pub samples_nonzero : 0 < m.samples
        pub rises : Rises (λ i. (course.sample i).offset) m.samples

      pub may_reach : m.samples * 24 ≤ length b → m.points ≤ length offsets → MayReach
      may_reach h g = record { held = held_of h g; points_nonzero = (counts t.counted).some_points; samples_nonzero = (counts t.counted).some; rises = samples_are_rising }

      walkable_of : reaches_last course ≡ false → ((k : ℕ) → k < m.points → T (fits binary64 (get_or offsets k nan))) → T (fits binary64 m.length) → Walkable course
      unfolding reaches_last course_of
      walkable_of r f g = record {
        some = c.some;
        some_points = c.some_points;
        rises = p;
        sizes = sizes;
        train = size_of_value m.length g t.train;
        bounded = value_finite m.length g t.train;
        before_last = λ i h.
            not_le last (course.sample i).offset (size_number last (p.sized (m.points - 1) (under m.points c.some_points))) (size_number (course.sample i).offset (sizes i h)) (unreached i h);
      }
        where
          c : Counted m
          c = counts t.counted

          under : (n : ℕ) → 0 < n → n - 1 < n
          under n h = omega arith

          p : Rises (λ k. get_or offsets k nan) m.points
          p = points_rise f

          unreached : (i : ℕ) → i < m.samples → le last (course.sample i).offset ≡ false
          unreached i h = none_at m.samples (λ j. le last (course.sample j).offset) i h r

    -- ---- the answer, by the number

    from_zero : first_number course b ≡ 0 → Tested b offsets m × (reaches_last course ≡ false)
    unfolding first_number bad_floats course_of bad_at bad_offset
    from_zero e =
        let q = zero_of (bad_counts course) (bad_train || bad_samples || bad_points) (falling course) (reaches_last course) e in
        let r = sym falling_is ∙ q.2 in
        let l = none_left (bad_train || bad_samples) bad_points q.1 in (
          record {
            counted = q.0;
            train = not-false (book_value m.length) (none_left bad_train bad_samples l);
            good_samples = none_right bad_train bad_samples l;
            good_points = none_right (bad_train || bad_samples) bad_points q.1;
            rising_samples = none_left samples_fall points_fall r;
            rising_points = none_right samples_fall points_fall r;
          },
          q.3,
        )

    module _ (e : first_number course b ≡ 0) where
      pub left_held : m.samples * 24 ≤ length b → m.points ≤ length offsets → Held b offsets m
      left_held = held_of (from_zero e).0

      pub left_walkable : ((k : ℕ) → k < m.points → T (fits binary64 (get_or offsets k nan))) → T (fits binary64 m.length) → Walkable course
      left_walkable = walkable_of (from_zero e).0 (from_zero e).1

  pub answer_refused : (places n : ℕ) → n ≡ first_number course b → (n ≡ 0 → ⊥) → refused n ≡ answer_of course b places
  unfolding answer_of first_number row11 first_of
  answer_refused places n e o =
      ap refused e
      ∙ refuses (bad_counts course) (bad_floats course b) (falling course) (reaches_last course) (some_bad (points_passed course)) (ltb places (length (points_passed course))) (length (points_passed course))
      (λ x. o (e ∙ x))
    where
      refuses : (p q r s x y : Bool) (k : ℕ) → (rows_number p q r s ≡ 0 → ⊥) → refused (rows_number p q r s) ≡ answered (first_of (rows_to11 p q r (s || x) ++ row 12 y ∷ [])) k
      refuses true q r s x y k o = refl
      refuses false true r s x y k o = refl
      refuses false false true s x y k o = refl
      refuses false false false true x y k o = refl
      refuses false false false false x y k o = absurd (o refl)

  pub answer_walk : (places : ℕ) → first_number course b ≡ 0 → walk_answer course places ≡ answer_of course b places
  unfolding answer_of first_number row11 walk_answer count_answer first_of
  answer_walk places e =
      let q = zero_of (bad_counts course) (bad_floats course b) (falling course) (reaches_last course) e in
      walks (bad_counts course) (bad_floats course b) (falling course) (reaches_last course) (some_bad (points_passed course)) (ltb places (length (points_passed course))) (length (points_passed course))
      q.0 q.1 q.2 q.3
    where
      told : (x y : Bool) (k : ℕ) → cond x (refused 11) (cond y (refused 12) (given k)) ≡ answered (first_of (rows_to11 false false false x ++ row 12 y ∷ [])) k
      told true y k = refl
      told false true k = refl
      told false false k = refl

      walks : (p q r s x y : Bool) (k : ℕ) → p ≡ false → q ≡ false → r ≡ false → s ≡ false
          → cond x (refused 11) (cond y (refused 12) (given k)) ≡ answered (first_of (rows_to11 p q r (s || x) ++ row 12 y ∷ [])) k
      walks p q r s x y k d e f g = rw (d, e, f, g) (told x y k)
