-- A leg of a book that was read, with its path in the work space: what the walk looks at is what the definition says,
-- and it is sound.
use mathlib.Core.Path.{◌≡◌, refl, sym, ap, ◌∙◌, subst}
use mathlib.Core.Bool.{Bool, true, false, ◌&&◌}
use mathlib.Core.List.{List}
use Prim.Native.Nat.{ℕ, zero, suc, ◌+◌, ◌-◌, ◌*◌, ◌≤◌, ◌<◌}
use native.Mathlib.Omega.{arith}
use borrow.Author.Tests.{eqb-false}
use lib.Dec.{eqb, ltb}
use lib.ListN.{length, get_or}
use lib.Ieee.{Float, nan, binary64, top, le, of_bits}
use lib.Ieee.Fits.{add-fits}
use lib.Ieee.Scale.{finite}
use Rattle.laws.proofs.Truth.{and_right}
use Rattle.fields.specs.Fields.{u64_at}
use Rattle.laws.proofs.Below.{none_at, sum_more, sum_part}
use Rattle.floats.specs.Floats.{table_float, book_float, Size}
use Rattle.floats.proofs.Laws.{table_finite}
use Rattle.floats.proofs.Order.{size_of_bits, add_grows, le_trans}
use Rattle.book_format.specs.declared.Sample.{Sample}
use Rattle.book_format.specs.Format.{legs, samples, samples_at_of, end_of, link_length, leg_samples, first_sample}
use Rattle.book_format.specs.Format.{sample_from, sample_at, length_bits, float_of}
use Rattle.book_format.specs.Rows.{bad_sample_from, bad_sample, sample_falls, row7}
use Rattle.book_format.specs.Chains.{Readable}
use Rattle.book_format.proofs.Floats.{sample_floats}
use Rattle.book_format.proofs.Given.{length_float, sample_good, leg_rises}
use Rattle.event_walk.specs.declared.Movement.{Movement}
use Rattle.event_walk.specs.Course.{course_of, Held}
use Rattle.event_walk.proofs.Searches.{samples_rise}
use Rattle.event_walk.proofs.Alike.{Alike}
use Rattle.grow_path.specs.Path.{path_of, point_link, point_offset, leg_course}
use Rattle.grow_path.specs.Kept.{PathIn, Sound}

-- ---- the points of a path

zero_book : book_float 0 ≡ true
unfolding book_float table_float of_bits le
zero_book = refl

zero_size : Size (of_bits binary64 0)
zero_size = size_of_bits 0 zero_book

-- a book's float is finite
book_finite : (n : ℕ) → book_float n ≡ true → finite (of_bits binary64 n) ≡ true
unfolding book_float
book_finite n h = go (ltb n (top binary64)) (of_bits binary64 n) h
  where
    go : (t : Bool) (x : Float) → (t && table_float x) ≡ true → finite x ≡ true
    go t x e = table_finite x (and_right t (table_float x) e)

module _ (b path : List ℕ) (named : (k : ℕ) → k < length path
    → book_float (link_length b (point_link b path k)) ≡ true) where
  pub point_size : (k : ℕ) → k ≤ length path → Size (point_offset b path k)
  unfolding point_offset
  point_size zero h = zero_size
  point_size (suc k) h = record {
    fit = add-fits binary64 (point_offset b path k) (float_of (link_length b (point_link b path k)));
    plus = le_trans _ (point_offset b path k) _ (point_size k (omega arith)).plus
        (add_grows (point_offset b path k) (float_of (link_length b (point_link b path k))) (point_size k (omega arith))
        (size_of_bits (link_length b (point_link b path k)) (named k (omega arith))));
  }

  pub point_rises : (k : ℕ) → k < length path → le (point_offset b path k) (point_offset b path (suc k)) ≡ true
  unfolding point_offset
  point_rises k h = add_grows (point_offset b path k) (float_of (link_length b (point_link b path k)))
      (point_size k (omega arith)) (size_of_bits (link_length b (point_link b path k)) (named k h))

pub less_one : (n : ℕ) → suc n - 1 ≡ n
less_one n = omega arith

-- ---- a leg: in row i, and so of number i + 1

module _ (b : List ℕ) (whole : length b ≡ end_of b) (z : Readable b) (i : ℕ) (h : i < legs b) where
  leg_end : first_sample b i + leg_samples b i ≤ samples b
  unfolding first_sample
  leg_end = omega (
    arith,
    sum_more i (leg_samples b),
    sum_part (legs b) (i + 1) (leg_samples b) (omega arith),
    z.counted.sums,
  )

  leg_some : 0 < leg_samples b i
  leg_some = let n = eqb-false (leg_samples b i) 0
      (none_at (legs b) (λ k. eqb (leg_samples b k) 0) i h z.counted.some) in omega arith

  -- what the walk looks at: where the leg's samples stand, and as many points as the path has
  abbrev moves : List ℕ → Movement
  moves path = record {
    at = samples_at_of b + first_sample b i * 24;
    samples = leg_samples b i;
    points = length path + 1;
    length = float_of (length_bits b);
  }

  module _ (reals : List Float) (cells path : List ℕ) (p : PathIn b reals cells path)
      (room : length path + 1 ≤ length reals) (named : (k : ℕ) → k < length path
      → book_float (link_length b (point_link b path k)) ≡ true) where
    sample_place : (k : ℕ) → samples_at_of b + (first_sample b i + k) * 24 ≡ samples_at_of b + first_sample b i * 24 + k
        * 24
    sample_place k = omega arith

    good_sample : (k : ℕ) → k < leg_samples b i → bad_sample_from b
        (samples_at_of b + first_sample b i * 24 + k * 24) ≡ false
    unfolding bad_sample
    good_sample k l = subst (λ (at : ℕ). bad_sample_from b at ≡ false) (sample_place k)
        (sample_good b z.floats (first_sample b i + k) (omega (arith, leg_end)))

    pub leg_held : Held b reals (moves path)
    unfolding end_of
    leg_held = record { bytes = omega (arith, leg_end, whole); points = room; floats = good_sample }

    offset_size : (k : ℕ) → k < leg_samples b i → Size
        (sample_from b (samples_at_of b + first_sample b i * 24 + k * 24)).offset
    unfolding sample_from
    offset_size k l =
        let at = samples_at_of b + first_sample b i * 24 + k * 24 in
        size_of_bits (u64_at b (at + 8)) (sample_floats b at (good_sample k l)).offset

    same_sample_lem : (k : ℕ) → sample_from b (samples_at_of b + first_sample b i * 24 + k * 24) ≡ sample_at b
        (first_sample b i + k)
    unfolding sample_at
    same_sample_lem k = ap (sample_from b) (sym (sample_place k))

    sample_rises : row7 b ≡ false → (k : ℕ) → k < leg_samples b i - 1
        → sample_falls (sample_from b (samples_at_of b + first_sample b i * 24 + k * 24))
        (sample_from b (samples_at_of b + first_sample b i * 24 + suc k * 24)) ≡ false
    sample_rises seven k l =
        let e : first_sample b i + suc k ≡ first_sample b i + k + 1 = omega arith in
        ap (λ (x : Sample). sample_falls x (sample_from b (samples_at_of b + first_sample b i * 24 + suc k * 24)))
        (same_sample_lem k)
        ∙ ap (sample_falls (sample_at b (first_sample b i + k))) (same_sample_lem (suc k) ∙ ap (sample_at b) e)
        ∙ leg_rises b seven i h k l

    pub leg_sound : row7 b ≡ false → Sound (course_of b reals (moves path))
    unfolding course_of
    leg_sound seven = record {
      some = leg_some;
      some_points = omega arith;
      rises = record {
        sized = λ k l. subst Size (sym (p.offsets k (omega arith))) (point_size b path named k (omega arith));
        rising = λ k l. ap (λ (x : Float). le x (get_or reals (suc k) nan)) (p.offsets k (omega arith))
            ∙ ap (le (point_offset b path k)) (p.offsets (suc k) (omega arith))
            ∙ point_rises b path named k (omega arith);
      };
      samples_rise = samples_rise (course_of b reals (moves path)) offset_size (sample_rises seven);
      train = size_of_bits (length_bits b) (length_float b z.floats);
      bounded = book_finite (length_bits b) (length_float b z.floats);
    }

    -- it is the leg of the definition
    pub leg_alike : path ≡ path_of b (suc i) → Alike (course_of b reals (moves path)) (leg_course b (suc i))
    unfolding course_of leg_course
    leg_alike e = record {
      samples = ap (leg_samples b) (sym (less_one i));
      points = ap (λ (q : List ℕ). length q + 1) e;
      length = refl;
      sample = λ k l. same_sample_lem k ∙ ap (λ (r : ℕ). sample_at b (first_sample b r + k)) (sym (less_one i));
      offset = λ k l. p.offsets k (omega arith) ∙ ap (λ (q : List ℕ). point_offset b q k) e;
    }
