-- Laws of the sweep over the origins: an origin's link, and each way a turn can end.
use mathlib.Core.Path.{◌≡◌, refl, sym, ap, ◌∙◌, subst}
use mathlib.Core.Logic.{◌⊎◌, inl, inr}
use mathlib.Core.Bool.{Bool, true, false, ◌||◌, true≢false}
use mathlib.Core.List.{List}
use Prim.Native.Nat.{ℕ, ◌+◌, ◌≤◌, ◌<◌}
use native.Mathlib.Omega.{arith}
use lib.Dec.{eqb}
use lib.ListN.{length, get_or, set, length-set}
use borrow.Author.Tests.{eq-eqb, eqb-true}
use Rattle.laws.specs.Below.{some_below}
use Rattle.laws.proofs.Below.{some_more, none_more, some_at}
use Rattle.space.specs.Space.{zeros}
use Rattle.book_format.specs.declared.Origin.{Origin}
use Rattle.book_format.specs.Format.{links, origins, origin_link, origin_at}
use Rattle.book_format.specs.Rows.{row5, origin_repeats}
use Rattle.book_format.proofs.Given.{origin_named, origin_link_lem}
use Rattle.book_repeats.proofs.Marks.{Marked, mark_none, mark_more, zero_under}

-- ---- the sweep

-- one of the first i origins has the link l
abbrev pub Seen : List ℕ → ℕ → ℕ → Type 0
Seen b i l = some_below i (λ j. eqb (origin_link b j) l) ≡ true

-- After i origins, with marks that began as m₀: none of them repeats, and the stamp 1 is on their links and no other.
pub record Swept (b m₀ m : List ℕ) (i : ℕ) : Type 0 where
  pub kept : length m ≡ length m₀
  pub none : some_below i (origin_repeats b) ≡ false
  pub marks : Marked m 1 (Seen b i)
  pub within : i ≤ origins b

pub swept_start : (b m : List ℕ) → m ≡ zeros (length m) → Swept b m m 0
unfolding some_below
swept_start b m z = record { kept = refl; none = refl; marks = mark_none (zero_under m z) (λ l e. true≢false (sym e)); within = omega arith }

-- a turn, in which the origin o was read
module _ {b m₀ m : List ℕ} {i : ℕ} (w : Swept b m₀ m i) (h : i < origins b) (o : Origin) (r : o ≡ origin_at b i) where
  link_is : o.link_idx ≡ origin_link b i
  link_is = origin_link_lem b i r

  pub swept_link : row5 b ≡ false → links b ≤ length m₀ → o.link_idx < length m
  swept_link e l = omega (arith, link_is, origin_named b e i h, w.kept)

  -- a link that was seen is a repeat
  pub swept_found : get_or m o.link_idx 0 ≡ 1 → true ≡ some_below (origins b) (origin_repeats b)
  unfolding origin_repeats
  swept_found t = sym (some_at (origins b) (origin_repeats b) i h (subst (Seen b i) link_is (w.marks.found o.link_idx t)))

  pub swept_on : o.link_idx < length m → (get_or m o.link_idx 0 ≡ 1 → ⊥) → Swept b m₀ (set m o.link_idx 1) (i + 1)
  unfolding origin_repeats
  swept_on l t = record {
    kept = length-set m link 1 ∙ w.kept;
    none = none_more i (origin_repeats b) w.none (new (some_below i (λ j. eqb (origin_link b j) (origin_link b i))) refl);
    marks = mark_more link w.marks l (some_at (i + 1) (λ j. eqb (origin_link b j) link) i (omega arith) (eq-eqb (origin_link b i) link (sym link_is))) old back;
    within = omega arith;
  }
    where
      link : ℕ
      link = o.link_idx

      new : (a : Bool) → some_below i (λ j. eqb (origin_link b j) (origin_link b i)) ≡ a → a ≡ false
      new true s = absurd (t (w.marks.marked link (subst (Seen b i) (sym link_is) s)))
      new false s = refl

      old : (k : ℕ) → Seen b i k → Seen b (i + 1) k
      old k s = some_more i (λ j. eqb (origin_link b j) k) ∙ ap (λ (a : Bool). a || eqb (origin_link b i) k) s

      either : (a c : Bool) → (a || c) ≡ true → (c ≡ true) ⊎ (a ≡ true)
      either true c s = inr refl
      either false c s = inl s

      same : (k : ℕ) → (eqb (origin_link b i) k ≡ true) ⊎ Seen b i k → (k ≡ link) ⊎ Seen b i k
      same k (inl s) = inl (sym (eqb-true (origin_link b i) k s) ∙ sym link_is)
      same k (inr s) = inr s

      back : (k : ℕ) → Seen b (i + 1) k → (k ≡ link) ⊎ Seen b i k
      back k s = same k (either (some_below i (λ j. eqb (origin_link b j) k)) (eqb (origin_link b i) k) (sym (some_more i (λ j. eqb (origin_link b j) k)) ∙ s))

pub swept_all_lem : {b m₀ m : List ℕ} {i : ℕ} → Swept b m₀ m i → origins b ≤ i → false ≡ some_below (origins b) (origin_repeats b)
swept_all_lem {b} {m₀} {m} {i} w h = let e : i ≡ origins b = omega (arith, w.within) in sym (ap (λ (n : ℕ). some_below n (origin_repeats b)) (sym e) ∙ w.none)
