-- What a train's walk looks at, document 01 under "Events": its samples, its length, and its path's points, "at 0 and
-- at each running sum of lengths".
-- Samples and points are functions of an index here, so that one definition serves a leg of a book and the lists that
-- are lent to the event maker.
use Rattle.std.specs.Prelude.{◌≡◌, true, false, List, ℕ, suc, ◌+◌, ◌-◌, ◌*◌, ◌≤◌, ◌<◌, length, get_or, Float}
use Rattle.std.specs.Float.{nan}
use Rattle.std.specs.Float.Ieee.{lt, le}
use Rattle.std.specs.Float.Ieee.Scale.{finite}
use Rattle.floats.specs.Floats.{Size}
use Rattle.book_format.specs.declared.Sample.{Sample}
use Rattle.book_format.specs.Format.{sample_width, sample_from}
use Rattle.book_format.specs.Rows.{bad_sample_from}
use Rattle.event_walk.specs.declared.Movement.{Movement}

pub record Course : Type 0 where
  pub samples : ℕ
  pub sample : ℕ → Sample
  pub points : ℕ
  pub offset : ℕ → Float
  pub length : Float

-- the samples that stand in bytes, and the points in a list of offsets
unfoldable pub course_of : List ℕ → List Float → Movement → Course
course_of b offsets m = record {
  samples = m.samples;
  sample = λ i. sample_from b (m.at + i * sample_width);
  points = m.points;
  offset = λ k. get_or offsets k nan;
  length = m.length;
}

-- bytes and list have what the movement says, and each sample's floats are a book's
pub record Held (b : List ℕ) (offsets : List Float) (m : Movement) : Type 0 where
  pub bytes : m.at + m.samples * sample_width ≤ length b
  pub points : m.points ≤ length offsets
  pub floats : (i : ℕ) → i < m.samples → bad_sample_from b (m.at + i * sample_width) ≡ false

-- "7 if one falls": points or samples whose offsets are sizes and never fall
pub record Rises (offset : ℕ → Float) (points : ℕ) : Type 0 where
  pub sized : (k : ℕ) → k < points → Size (offset k)
  pub rising : (k : ℕ) → suc k < points → le (offset k) (offset (suc k)) ≡ true

-- What rows 3, 4 and 7 and the first part of row 11 leave: a sample, a point, and no sample that reaches the last point
pub record Walkable (c : Course) : Type 0 where
  pub some : 0 < c.samples
  pub some_points : 0 < c.points
  pub rises : Rises c.offset c.points
  pub sizes : (i : ℕ) → i < c.samples → Size (c.sample i).offset
  pub train : Size c.length
  pub bounded : finite c.length ≡ true
  pub before_last : (i : ℕ) → i < c.samples → lt (c.sample i).offset (c.offset (c.points - 1)) ≡ true
