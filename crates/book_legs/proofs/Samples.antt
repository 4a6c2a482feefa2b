-- Laws of a leg's samples: what a readable book says of one sample, and the answers of the small functions by what they read.
use mathlib.Core.Path.{◌≡◌, refl, sym, ap, ◌∙◌}
use mathlib.Core.Bool.{Bool, true, false}
use mathlib.Core.List.{List}
use Prim.Native.Nat.{ℕ, zero, suc, ◌+◌, ◌-◌, ◌<◌}
use lib.Dec.{eqb}
use Rattle.laws.specs.Below.{some_below}
use Rattle.laws.proofs.Below.{some_at}
use Rattle.book_format.specs.declared.Sample.{Sample}
use Rattle.book_format.specs.declared.SamplePatterns.{SamplePatterns}
use Rattle.book_format.specs.declared.HeadPatterns.{HeadPatterns}
use Rattle.book_format.specs.Format.{sample_time, sample_offset, sample_speed, departure_bits, sample_at, sample_patterns, head_patterns}
use Rattle.book_format.specs.Rows.{sample_falls, falls, same_sample}
use Rattle.book_legs.specs.Legs.{begins_at, falls_from}

-- ---- all samples of a leg

pub falls_is : (b : List ℕ) (k n : ℕ) (x y : Sample) (r : Bool) → x ≡ sample_at b k → n ≡ k + 1 → y ≡ sample_at b n → r ≡ sample_falls x y → r ≡ falls b k
unfolding falls
falls_is b k n x y r e f g h = rw (h, e, g, f)

pub falling_found : (b : List ℕ) (first count k : ℕ) → k < count - 1 → falls b (first + k) ≡ true → true ≡ falls_from b first count
unfolding falls_from
falling_found b first count k h e = sym (some_at (count - 1) (λ j. falls b (first + j)) k h e)

pub falling_none : (b : List ℕ) (first count k : ℕ) → k ≡ count - 1 → some_below k (λ j. falls b (first + j)) ≡ false → false ≡ falls_from b first count
unfolding falls_from
falling_none b first count k e f = sym (rw e at f)

-- ---- two samples, bit for bit

patterns_are : (b : List ℕ) (k : ℕ) (p : SamplePatterns) → p ≡ sample_patterns b k → (p.time ≡ sample_time b k) × (p.offset ≡ sample_offset b k) × (p.speed ≡ sample_speed b k)
unfolding sample_patterns
patterns_are b k p e = (ap (λ (q : SamplePatterns). q.time) e, ap (λ (q : SamplePatterns). q.offset) e, ap (λ (q : SamplePatterns). q.speed) e)

-- ---- where a leg begins

departure_is : (b : List ℕ) (h : HeadPatterns) → h ≡ head_patterns b → h.departure ≡ departure_bits b
unfolding head_patterns
departure_is b h e = ap (λ (x : HeadPatterns). x.departure) e

pub begins_origin : (b : List ℕ) (parent end first : ℕ) (h : HeadPatterns) (p : SamplePatterns) → parent ≡ 0 → h ≡ head_patterns b → p ≡ sample_patterns b first
    → eqb p.time h.departure ≡ begins_at b parent end first
unfolding begins_at
begins_origin b parent end first h p z e f =
    ap (λ (x : ℕ). eqb x h.departure) (patterns_are b first p f).0
    ∙ ap (λ (x : ℕ). eqb (sample_time b first) x) (departure_is b h e)
    ∙ ap (λ (x : ℕ). begins_at b x end first) (sym z)

pub begins_parent : (b : List ℕ) (parent end first : ℕ) (r : Bool) → (parent ≡ 0 → ⊥) → r ≡ same_sample b (end - 1) first → r ≡ begins_at b parent end first
unfolding begins_at
begins_parent b zero end first r z e = absurd (z refl)
begins_parent b (suc p) end first r z e = e
