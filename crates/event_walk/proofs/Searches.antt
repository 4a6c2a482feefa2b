-- The searches: among points that never fall for the first that lies beyond an offset, and among samples for the first that reaches one.
use mathlib.Core.Path.{◌≡◌, refl, sym, ap, ◌∙◌, subst}
use mathlib.Core.Logic.{◌⊎◌, inl, inr}
use mathlib.Core.List.{List}
use mathlib.Core.Bool.{Bool, true, false, not, cond, true≢false}
use Prim.Native.Nat.{ℕ, zero, suc, ◌+◌, ◌-◌, ◌≤◌, ◌<◌}
use native.Mathlib.Nat.{le_refl, eq-or-lt_of_le}
use native.Mathlib.Omega.{arith}
use borrow.Author.Tests.{ltb-true, ltb-false}
use lib.Dec.{ltb}
use lib.ListN.{length, get_or, take, drop, length-take, length-drop}
use lib.Ieee.{Float, nan, lt, le, is_nan}
use Rattle.std.specs.List.Sorted.{IsPartitionedBy, IsPartitionPoint}
use Rattle.std.proofs.lemmas.List.{get_or-drop, get_or-take, get_or_default}
use Rattle.laws.proofs.Truth.{none_right}
use Rattle.floats.specs.Floats.{Size}
use Rattle.floats.proofs.Order.{not_lt, le_number_right, le_self, le_trans}
use Rattle.book_format.specs.Rows.{sample_falls}
use Rattle.event_walk.specs.Course.{Course, Rises}
use Rattle.event_walk.specs.Search.{NoneBeyond}
use Rattle.event_walk.specs.Walk.{first_beyond}

-- ---- points that never fall

pub size_number : (a : Float) → Size a → is_nan a ≡ false
size_number a s = le_number_right _ a s.plus

-- sizes of which none is below the one before it
pub rises_of : (offset : ℕ → Float) (n : ℕ) → ((k : ℕ) → k < n → Size (offset k)) → ((k : ℕ) → k < n - 1 → lt (offset (suc k)) (offset k) ≡ false) → Rises offset n
rises_of offset n s f = record {
  sized = s;
  rising = λ k h. not_lt (offset (suc k)) (offset k) (size_number (offset (suc k)) (s (suc k) h)) (size_number (offset k) (s k (omega arith))) (f k (omega arith));
}

-- samples of which none falls against the one before it
pub samples_rise : (c : Course) → ((i : ℕ) → i < c.samples → Size (c.sample i).offset) → ((i : ℕ) → i < c.samples - 1 → sample_falls (c.sample i) (c.sample (suc i)) ≡ false) → Rises (λ i. (c.sample i).offset) c.samples
unfolding sample_falls
samples_rise c s f =
    rises_of (λ i. (c.sample i).offset) c.samples s
    (λ i h. none_right (not (lt (c.sample i).time (c.sample (suc i)).time)) (lt (c.sample (suc i)).offset (c.sample i).offset) (f i h))

module _ {offset : ℕ → Float} {points : ℕ} (r : Rises offset points) where
  so_many_on : (d j : ℕ) → j + d < points → le (offset j) (offset (j + d)) ≡ true
  so_many_on zero j h =
      let e : j ≡ j + 0 = omega arith in
      subst (λ (k : ℕ). le (offset j) (offset k) ≡ true) e (le_self (offset j) (size_number (offset j) (r.sized j (omega arith))))
  so_many_on (suc d) j h =
      let e : suc (j + d) ≡ j + suc d = omega arith in
      subst (λ (k : ℕ). le (offset j) (offset k) ≡ true) e (le_trans (offset j) (offset (j + d)) (offset (suc (j + d))) (so_many_on d j (omega arith)) (r.rising (j + d) (omega arith)))

  pub rises_le : (j k : ℕ) → j ≤ k → k < points → le (offset j) (offset k) ≡ true
  rises_le j k h g =
      let e : j + (k - j) ≡ k = omega arith in
      subst (λ (i : ℕ). le (offset j) (offset i) ≡ true) e (so_many_on (k - j) j (omega arith))

  -- with a point that is not beyond x none before it is
  pub none_beyond : (x : Float) (at : ℕ) → at < points → le (offset at) x ≡ true → (k : ℕ) → k < at + 1 → le (offset k) x ≡ true
  none_beyond x at h e k g = le_trans (offset k) (offset at) x (rises_le k at (omega arith) h) e

-- ---- from the last point back

pub gallop_found : {offset : ℕ → Float} {points : ℕ} → Rises offset points → (x : Float) (step : ℕ) → 0 < step → step ≤ points → le (offset (points - step)) x ≡ true → NoneBeyond offset points x (points - step)
gallop_found {offset} {points} r x step h g f = record { inside = omega arith; before = λ k l. none_beyond r x (points - step) (omega arith) f k (omega arith) }

-- ---- the first beyond

-- r is the first of n points from k on that lies beyond x, or k + n
pub record First (offset : ℕ → Float) (x : Float) (k n r : ℕ) : Type 0 where
  pub after : k ≤ r
  pub inside : r ≤ k + n
  pub before : (j : ℕ) → k ≤ j → j < r → le (offset j) x ≡ true
  pub beyond : r < k + n → le (offset r) x ≡ false

pub first_is : (offset : ℕ → Float) (x : Float) (k n r : ℕ) → First offset x k n r → first_beyond offset x k n ≡ r
unfolding first_beyond
first_is offset x k zero r f = omega (arith, f.after, f.inside)
first_is offset x k (suc n) r f = go (le (offset k) x) refl (eq-or-lt_of_le f.after) (first_is offset x (suc k) n r)
  where
    go : (t : Bool) → le (offset k) x ≡ t → (k ≡ r) ⊎ (k < r) → (First offset x (suc k) n r → first_beyond offset x (suc k) n ≡ r) → cond t (first_beyond offset x (suc k) n) k ≡ r
    go true e (inl d) ih = absurd (true≢false (sym e ∙ ap (λ (j : ℕ). le (offset j) x) d ∙ f.beyond (omega arith)))
    go true e (inr l) ih = ih (record { after = l; inside = omega (arith, f.inside); before = λ j h g. f.before j (omega arith) g; beyond = λ h. f.beyond (omega arith) })
    go false e (inl d) ih = d
    go false e (inr l) ih = absurd (true≢false (sym (f.before k (le_refl k) l) ∙ e))

pub first_found : (offset : ℕ → Float) (x : Float) (k n : ℕ) → First offset x k n (first_beyond offset x k n)
unfolding first_beyond
first_found offset x k zero = record { after = le_refl k; inside = omega arith; before = λ j h g. absurd (omega arith); beyond = λ h. absurd (omega arith) }
first_found offset x k (suc n) = go (le (offset k) x) refl (first_found offset x (suc k) n)
  where
    go : (t : Bool) → le (offset k) x ≡ t → First offset x (suc k) n (first_beyond offset x (suc k) n) → First offset x k (suc n) (cond t (first_beyond offset x (suc k) n) k)
    go true e f = record {
      after = omega (arith, f.after);
      inside = omega (arith, f.inside);
      before = λ j h g. at j (eq-or-lt_of_le h) g;
      beyond = λ h. f.beyond (omega arith);
    }
      where
        at : (j : ℕ) → (k ≡ j) ⊎ (k < j) → j < first_beyond offset x (suc k) n → le (offset j) x ≡ true
        at j (inl d) g = ap (λ (i : ℕ). le (offset i) x) (sym d) ∙ e
        at j (inr l) g = f.before j l g
    go false e f = record { after = le_refl k; inside = omega arith; before = λ j h g. absurd (omega arith); beyond = λ h. e }

-- ---- the first sample that reaches an offset

-- one sample more that doesn't reach x
pub short_on : (offset : ℕ → Float) (x : Float) (from i : ℕ) → ((k : ℕ) → from ≤ k → k < i → le x (offset k) ≡ false) → le x (offset i) ≡ false → (k : ℕ) → from ≤ k → k < i + 1 → le x (offset k) ≡ false
short_on offset x from i s e k g l = go (eq-or-lt_of_le (less k i l))
  where
    less : (k i : ℕ) → k < i + 1 → k ≤ i
    less k i l = omega arith

    go : (k ≡ i) ⊎ (k < i) → le x (offset k) ≡ false
    go (inl d) = ap (λ (j : ℕ). le x (offset j)) d ∙ e
    go (inr m) = s k g m

-- ---- the library's search

-- the points from `low` on, as the library's search sees them
module _ (offsets : List Float) (points low : ℕ) (h : points ≤ length offsets) (x : Float) where
  abbrev seen : List Float
  seen = take (points - low) (drop low offsets)

  abbrev at : ℕ → Float
  at k = get_or offsets k nan

  seen_length : length seen ≡ points - low
  seen_length = simp (length-take, length-drop) (omega arith)

  seen_at : (k : ℕ) → k < points - low → (d : Float) → get_or seen k d ≡ at (low + k)
  seen_at k g d = get_or-take (points - low) (drop low offsets) k d g ∙ get_or-drop low offsets k d ∙ get_or_default offsets (low + k) d nan (omega arith)

  pub seen_parted : Rises (λ k. get_or offsets k nan) points → IsPartitionedBy (λ y. le y x) seen
  seen_parted r i j d g m e =
      let n : j < points - low = omega (arith, seen_length) in
      ap (λ (y : Float). le y x) (seen_at i (omega arith) d)
      ∙ none_beyond r x (low + j) (omega arith) (ap (λ (y : Float). le y x) (sym (seen_at j n d)) ∙ e) (low + i) (omega arith)

  pub first_parted : NoneBeyond (λ k. get_or offsets k nan) points x low → (i : ℕ) → i ≤ length seen → IsPartitionPoint (λ y. le y x ≡ true) (λ y. le y x ≡ false) seen i → low + i ≡ first_beyond (λ k. get_or offsets k nan) x 0 points
  first_parted b i l p =
      let n : i ≤ points - low = omega (arith, seen_length) in
      sym (first_is at x 0 points (low + i)
      (record {
        after = omega arith;
        inside = omega (arith, b.inside);
        before = λ j g m. before j m (ltb j low) refl;
        beyond = λ g.
            let m : i < points - low = omega arith in
            ap (λ (y : Float). le y x) (sym (seen_at i m nan)) ∙ p.1 i nan (omega arith) (omega (arith, seen_length));
      }))
    where
      before : (j : ℕ) → j < low + i → (t : Bool) → ltb j low ≡ t → le (at j) x ≡ true
      before j m true e = b.before j (ltb-true j low e)
      before j m false e =
          let g : low ≤ j = ltb-false j low e in
          let d : low + (j - low) ≡ j = omega arith in
          let k : j - low < points - low = omega (arith, seen_length) in
          ap (λ (o : ℕ). le (at o) x) (sym d) ∙ ap (λ (y : Float). le y x) (sym (seen_at (j - low) k nan)) ∙ p.0 (j - low) nan (omega arith) (omega arith)
