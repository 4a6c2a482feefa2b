-- What a readable book says of one leg: its parent stands above it, it has a sample, and its samples lie within the book's.
use mathlib.Core.Path.{◌≡◌, refl, sym, ap, ◌∙◌}
use mathlib.Core.Bool.{Bool, true, false, not, ◌||◌, or-true, or-false}
use mathlib.Core.List.{List}
use Prim.Native.Nat.{ℕ, zero, suc, ◌+◌, ◌≤◌, ◌<◌}
use native.Mathlib.Omega.{arith}
use lib.Dec.{eqb}
use borrow.Author.Tests.{eqb-false}
use Rattle.laws.proofs.Below.{none_at, sum_more, sum_part}
use Rattle.book_format.specs.declared.Leg.{Leg}
use Rattle.book_format.specs.Format.{legs, samples, leg_parent, leg_samples, first_sample, leg_at}
use Rattle.book_format.specs.Rows.{begins, leg_begins, leg_falls}
use Rattle.book_format.specs.Chains.{Readable}
use Rattle.book_format.proofs.Given.{limits, leg_above, leg_parent_lem, leg_samples_lem}
use Rattle.book_legs.specs.Legs.{begins_at, falls_from}

-- ---- where a leg's samples stand

pub first_next : (b : List ℕ) (i : ℕ) → first_sample b (i + 1) ≡ first_sample b i + leg_samples b i
unfolding first_sample
first_next b i = sum_more i (leg_samples b)

first_part : (b : List ℕ) (i j : ℕ) → i ≤ j → first_sample b i ≤ first_sample b j
unfolding first_sample
first_part b i j h = sum_part j i (leg_samples b) h

-- all that is wanted of the leg in row i
pub record LegIn (b : List ℕ) (i : ℕ) : Type 0 where
  pub parent : leg_parent b i ≤ i
  pub some : 1 ≤ leg_samples b i
  pub within : first_sample b i + leg_samples b i ≤ samples b
  pub end : first_sample b (leg_parent b i) ≤ first_sample b i
  pub begun : 0 < leg_parent b i → 0 < first_sample b (leg_parent b i)
  pub limit : samples b ≤ 1000000
  pub number : i + 1 ≤ 65535

module _ {b : List ℕ} (r : Readable b) where
  some_sample : (i : ℕ) → i < legs b → 1 ≤ leg_samples b i
  some_sample i h =
      let e : leg_samples b i ≡ 0 → ⊥ = eqb-false (leg_samples b i) 0 (none_at (legs b) (λ j. eqb (leg_samples b j) 0) i h r.counted.some) in
      omega arith

  total : first_sample b (legs b) ≡ samples b
  unfolding first_sample
  total = r.counted.sums

  pub leg_in_lem : (i : ℕ) → i < legs b → LegIn b i
  leg_in_lem i h =
      let p : leg_parent b i ≤ i = leg_above b r.single i h in
      let n = first_next b i in
      let w : first_sample b (i + 1) ≤ first_sample b (legs b) = first_part b (i + 1) (legs b) (omega arith) in
      let z = limits b r.counted.counts in
      record {
        parent = p;
        some = some_sample i h;
        within = omega (arith, total);
        end = first_part b (leg_parent b i) i p;
        begun = λ (g : 0 < leg_parent b i). above (leg_parent b i) g (omega arith);
        limit = z.samples_most;
        number = omega (arith, z.legs_most);
      }
    where
      above : (q : ℕ) → 0 < q → q ≤ legs b → 0 < first_sample b q
      above zero g l = absurd (omega arith)
      above (suc q) g l =
          let e : first_sample b (suc q) ≡ first_sample b q + leg_samples b q = ap (first_sample b) (one q) ∙ first_next b q in
          omega (arith, some_sample q l)
        where
          one : (q : ℕ) → suc q ≡ q + 1
          one q = omega arith

-- ---- row 7's two questions, by where the samples stand

begins_same : (b : List ℕ) (i p : ℕ) → begins_at b p (first_sample b p) (first_sample b i) ≡ begins b i p
unfolding begins_at
begins_same b i zero = refl
begins_same b i (suc p) = refl

leg_begins_is : (b : List ℕ) (i : ℕ) → leg_begins b i ≡ begins b i (leg_parent b i)
unfolding leg_begins
leg_begins_is b i = refl

leg_falls_is : (b : List ℕ) (i : ℕ) → leg_falls b i ≡ falls_from b (first_sample b i) (leg_samples b i)
unfolding leg_falls falls_from
leg_falls_is b i = refl

module _ (b : List ℕ) (i end first : ℕ) (l : Leg) (e : l ≡ leg_at b i) (f : end ≡ first_sample b (leg_parent b i)) (g : first ≡ first_sample b i) where
  begins_known : (t : Bool) → t ≡ begins_at b l.parent end first → leg_begins b i ≡ t
  begins_known t d =
      leg_begins_is b i
      ∙ sym (begins_same b i (leg_parent b i))
      ∙ sym (d
      ∙ ap (λ (p : ℕ). begins_at b p end first) (leg_parent_lem b i l e)
      ∙ ap (λ (n : ℕ). begins_at b (leg_parent b i) n first) f
      ∙ ap (λ (n : ℕ). begins_at b (leg_parent b i) (first_sample b (leg_parent b i)) n) g)

  pub fails_begun : (t r : Bool) → t ≡ begins_at b l.parent end first → t ≡ true → r ≡ falls_from b first l.samples → r ≡ (leg_falls b i || not (leg_begins b i))
  fails_begun t r d y h =
      h
      ∙ ap (λ (n : ℕ). falls_from b n l.samples) g
      ∙ ap (λ (n : ℕ). falls_from b (first_sample b i) n) (leg_samples_lem b i l e)
      ∙ sym (leg_falls_is b i)
      ∙ sym (or-false (leg_falls b i))
      ∙ ap (λ (u : Bool). leg_falls b i || not u) (sym (begins_known t d ∙ y))

  pub fails_elsewhere : (t : Bool) → t ≡ begins_at b l.parent end first → t ≡ false → true ≡ (leg_falls b i || not (leg_begins b i))
  fails_elsewhere t d n = sym (or-true (leg_falls b i)) ∙ ap (λ (u : Bool). leg_falls b i || not u) (sym (begins_known t d ∙ n))
