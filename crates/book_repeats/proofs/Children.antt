-- Laws of the walks over the legs' children: each way a turn of a walk can end, and each way a parent's walk can.
use mathlib.Core.Path.{◌≡◌, refl, sym, ap, ◌∙◌, subst}
use mathlib.Core.Logic.{◌⊎◌, inl, inr}
use mathlib.Core.Bool.{Bool, true, false, ◌&&◌, cond}
use mathlib.Core.List.{List}
use Prim.Native.Nat.{ℕ, zero, suc, ◌+◌, ◌-◌, ◌*◌, ◌≤◌, ◌<◌}
use native.Mathlib.Nat.{not-suc-le-zero, le_of_suc-le-suc, eq-or-lt_of_le, lt_of_not-le}
use native.Mathlib.Omega.{arith}
use lib.Dec.{eqb}
use lib.ListN.{length, get_or, set, length-set}
use borrow.Author.Tests.{eq-eqb, eqb-true, eqb-false}
use Rattle.laws.specs.Below.{some_below}
use Rattle.laws.proofs.Truth.{both, equal_or_not}
use Rattle.laws.proofs.Below.{none_at, none_all, some_at}
use Rattle.space.specs.Space.{zeros}
use Rattle.book_format.specs.declared.Leg.{Leg}
use Rattle.book_format.specs.Format.{links, legs, leg_link, leg_parent, leg_at}
use Rattle.book_format.specs.Rows.{leg_repeats}
use Rattle.book_format.specs.Chains.{last_child, Chained, Readable}
use Rattle.book_format.proofs.Given.{leg_named, leg_above, leg_link_lem}
use Rattle.book_legs.proofs.Chains.{last_is}
use Rattle.book_repeats.specs.Repeats.{Under, child_repeats}
use Rattle.book_repeats.proofs.Marks.{Marked, mark_none, mark_more, zero_under, under_more}

-- ---- the last child of the first n legs

last_under : (b : List ℕ) (n p : ℕ) → last_child b n p ≤ n
last_under b n p = go (last_child b n p) refl
  where
    go : (j : ℕ) → last_child b n p ≡ j → j ≤ n
    go zero e = omega arith
    go (suc j) e = (last_is b n p j e).1

-- no child stands after it
last_none : (b : List ℕ) (n p k : ℕ) → last_child b n p ≤ k → k < n → leg_parent b k ≡ p → ⊥
unfolding last_child
last_none b zero p k l h e = not-suc-le-zero h
last_none b (suc n) p k l h e = go (eqb (leg_parent b n) p) refl l (last_none b n p k)
  where
    at : (leg_parent b n ≡ p → ⊥) → (k ≡ n) ⊎ (k < n) → last_child b n p ≤ k → (last_child b n p ≤ k → k < n → leg_parent b k ≡ p → ⊥) → ⊥
    at d (inl q) m ih = d (ap (leg_parent b) (sym q) ∙ e)
    at d (inr q) m ih = ih m q e

    go : (t : Bool) → eqb (leg_parent b n) p ≡ t → cond t (suc n) (last_child b n p) ≤ k → (last_child b n p ≤ k → k < n → leg_parent b k ≡ p → ⊥) → ⊥
    go true q m ih = omega arith
    go false q m ih = at (eqb-false (leg_parent b n) p q) (eq-or-lt_of_le (le_of_suc-le-suc h)) m ih

-- ---- a walk under p, which stands at leg number j: the rows from j on are passed

-- a child of p that was passed and has the link l
pub record Child (b : List ℕ) (p j l : ℕ) : Type 0 where
  pub row : ℕ
  pub passed : j ≤ row
  pub within : row < legs b
  pub parent : leg_parent b row ≡ p
  pub link : leg_link b row ≡ l

-- the same child, seen from another number
abbrev from : {b : List ℕ} {p j l : ℕ} (x : Child b p j l) (n : ℕ) → n ≤ x.row → Child b p n l
from x n h = record { row = x.row; passed = h; within = x.within; parent = x.parent; link = x.link }

-- With marks that began as m₀: the stamp p + 1 is on the passed children's links and no other, no two of them have one link, and the row before j is a child.
pub record Walk (b m₀ m : List ℕ) (p j : ℕ) : Type 0 where
  pub kept : length m ≡ length m₀
  pub under : Under m (p + 1)
  pub marks : Marked m (p + 1) (Child b p j)
  pub apart : (l : ℕ) (x y : Child b p j l) → x.row ≡ y.row
  pub within : j ≤ legs b
  pub child : 0 < j → leg_parent b (j - 1) ≡ p

-- the row before the last child's number is that child's
child_at : (b : List ℕ) (n p j : ℕ) → j ≡ last_child b n p → 0 < j → leg_parent b (j - 1) ≡ p
child_at b n p j e h = (last_is b n p (j - 1) (sym e ∙ pred j h)).0
  where
    pred : (j : ℕ) → 0 < j → j ≡ suc (j - 1)
    pred j h = omega arith

pub walk_start : {b cells m : List ℕ} {p : ℕ} → Chained b cells → p < legs b → Under m p → Walk b m m p (get_or cells (p * 8) 0)
walk_start {b} {cells} {m} {p} ch h u = record {
  kept = refl;
  under = record { at = λ l. omega (arith, u.at l) };
  marks = mark_none u unpassed;
  apart = λ l x y. absurd (unpassed l x);
  within = subst (λ (n : ℕ). n ≤ legs b) (sym first) (last_under b (legs b) p);
  child = child_at b (legs b) p (get_or cells (p * 8) 0) first;
}
  where
    first : get_or cells (p * 8) 0 ≡ last_child b (legs b) p
    first = ch.first p (omega arith)

    unpassed : (l : ℕ) → Child b p (get_or cells (p * 8) 0) l → ⊥
    unpassed l x = last_none b (legs b) p x.row (subst (λ (n : ℕ). n ≤ x.row) first x.passed) x.within x.parent

-- where the next child stands
pub next_child : {b cells m₀ m : List ℕ} {p j : ℕ} → Chained b cells → Walk b m₀ m p j → 0 < j → get_or cells (j * 8 + 1) 0 ≡ last_child b (j - 1) p
next_child {b} {cells} {m₀} {m} {p} {j} ch w h =
    let e : j * 8 + 1 ≡ (j - 1 + 1) * 8 + 1 = omega arith in
    ap (λ (n : ℕ). get_or cells n 0) e ∙ ch.before (j - 1) (omega (arith, w.within)) ∙ ap (last_child b (j - 1)) (w.child h)

pub next_less : {b cells m₀ m : List ℕ} {p j : ℕ} → Chained b cells → Walk b m₀ m p j → 0 < j → get_or cells (j * 8 + 1) 0 < j
next_less {b} {cells} {m₀} {m} {p} {j} ch w h = omega (arith, next_child ch w h, last_under b (j - 1) p)

-- a turn, in which the leg g was read
module _ {b m₀ m : List ℕ} {p j : ℕ} (w : Walk b m₀ m p j) (h : 0 < j) (g : Leg) (e : g ≡ leg_at b (j - 1)) where
  link_is : g.link_idx ≡ leg_link b (j - 1)
  link_is = leg_link_lem b (j - 1) g e

  pub walk_link : Readable b → links b ≤ length m₀ → g.link_idx < length m
  walk_link r l = omega (arith, link_is, leg_named b r.indices (j - 1) (omega (arith, w.within)), w.kept)

  -- a link that has the mark is a repeat: the child that left it has this child above it
  pub walk_found : get_or m g.link_idx 0 ≡ p + 1 → true ≡ some_below (legs b) (child_repeats b p)
  unfolding child_repeats leg_repeats
  walk_found t =
      let x = w.marks.found g.link_idx t in
      let k = x.row in
      let a : leg_parent b (j - 1) ≡ leg_parent b k = w.child h ∙ sym x.parent in
      let c : leg_link b (j - 1) ≡ leg_link b k = sym link_is ∙ sym x.link in
      let q : (eqb (leg_parent b (j - 1)) (leg_parent b k) && eqb (leg_link b (j - 1)) (leg_link b k)) ≡ true =
      both _ _ (eq-eqb (leg_parent b (j - 1)) (leg_parent b k) a) (eq-eqb (leg_link b (j - 1)) (leg_link b k) c) in
      let f : leg_repeats b k ≡ true = some_at k (λ i. eqb (leg_parent b i) (leg_parent b k) && eqb (leg_link b i) (leg_link b k)) (j - 1) (omega (arith, x.passed)) q in
      sym (some_at (legs b) (child_repeats b p) k x.within (both _ _ (eq-eqb (leg_parent b k) p x.parent) f))

  pub walk_on : (n : ℕ) → g.link_idx < length m → (get_or m g.link_idx 0 ≡ p + 1 → ⊥) → n ≡ last_child b (j - 1) p → Walk b m₀ (set m g.link_idx (p + 1)) p n
  walk_on n l t z = record {
    kept = length-set m link (p + 1) ∙ w.kept;
    under = under_more link w.under l;
    marks = mark_more link w.marks l this old (λ k x. back k x (which k x));
    apart = λ k x y. one k x y (which k x) (which k y);
    within = omega (arith, below, w.within);
    child = child_at b (j - 1) p n z;
  }
    where
      link : ℕ
      link = g.link_idx

      below : n ≤ j - 1
      below = subst (λ (k : ℕ). k ≤ j - 1) (sym z) (last_under b (j - 1) p)

      this : Child b p n link
      this = record { row = j - 1; passed = below; within = omega (arith, w.within); parent = w.child h; link = sym link_is }

      old : (k : ℕ) → Child b p j k → Child b p n k
      old k x = from x n (omega (arith, below, x.passed))

      -- a child is this one or was passed before: none stands between
      which : (k : ℕ) (x : Child b p n k) → (x.row ≡ j - 1) ⊎ (j ≤ x.row)
      which k x = go (equal_or_not x.row (j - 1))
        where
          between : (x.row ≡ j - 1 → ⊥) → x.row ≤ j - 1 → ⊥
          between d l = last_none b (j - 1) p x.row (subst (λ (v : ℕ). v ≤ x.row) z x.passed) (omega arith) x.parent

          go : (x.row ≡ j - 1) ⊎ (x.row ≡ j - 1 → ⊥) → (x.row ≡ j - 1) ⊎ (j ≤ x.row)
          go (inl d) = inl d
          go (inr d) = inr (omega (arith, lt_of_not-le (between d)))

      at : (k : ℕ) (x : Child b p n k) → x.row ≡ j - 1 → k ≡ link
      at k x d = sym x.link ∙ ap (leg_link b) d ∙ sym link_is

      back : (k : ℕ) (x : Child b p n k) → (x.row ≡ j - 1) ⊎ (j ≤ x.row) → (k ≡ link) ⊎ Child b p j k
      back k x (inl d) = inl (at k x d)
      back k x (inr d) = inr (from x j d)

      -- the link of this child has no mark yet
      new : (k : ℕ) → k ≡ link → Child b p j k → ⊥
      new k d x = t (ap (λ (i : ℕ). get_or m i 0) (sym d) ∙ w.marks.marked k x)

      one : (k : ℕ) (x y : Child b p n k) → (x.row ≡ j - 1) ⊎ (j ≤ x.row) → (y.row ≡ j - 1) ⊎ (j ≤ y.row) → x.row ≡ y.row
      one k x y (inl c) (inl d) = c ∙ sym d
      one k x y (inl c) (inr d) = absurd (new k (at k x c) (from y j d))
      one k x y (inr c) (inl d) = absurd (new k (at k y d) (from x j c))
      one k x y (inr c) (inr d) = w.apart k (from x j c) (from y j d)

-- at the end of the chain all children are passed
pub walk_none : {b m₀ m : List ℕ} {p j : ℕ} → Walk b m₀ m p j → j ≤ 0 → false ≡ some_below (legs b) (child_repeats b p)
unfolding child_repeats leg_repeats
walk_none {b} {m₀} {m} {p} {j} w h = sym (none_all (legs b) (child_repeats b p) (λ i l. lone i l (eqb (leg_parent b i) p) refl))
  where
    first : (k : ℕ) → j ≤ k
    first k = omega arith

    pair : (i k : ℕ) → i < legs b → k < i → leg_parent b i ≡ p → (s t : Bool) → eqb (leg_parent b k) (leg_parent b i) ≡ s → eqb (leg_link b k) (leg_link b i) ≡ t → (s && t) ≡ false
    pair i k l g e false t c d = refl
    pair i k l g e true false c d = refl
    pair i k l g e true true c d =
        let x : Child b p j (leg_link b i) = record { row = i; passed = first i; within = l; parent = e; link = refl } in
        let y : Child b p j (leg_link b i) = record {
          row = k;
          passed = first k;
          within = omega arith;
          parent = eqb-true (leg_parent b k) (leg_parent b i) c ∙ e;
          link = eqb-true (leg_link b k) (leg_link b i) d;
        } in
        absurd (omega (arith, w.apart (leg_link b i) x y))

    lone : (i : ℕ) → i < legs b → (s : Bool) → eqb (leg_parent b i) p ≡ s → (s && leg_repeats b i) ≡ false
    lone i l false e = refl
    lone i l true e =
        none_all i (λ k. eqb (leg_parent b k) (leg_parent b i) && eqb (leg_link b k) (leg_link b i)) (λ k g. pair i k l g (eqb-true (leg_parent b i) p e) _ _ refl refl)

-- ---- all parents below p are walked, with marks that began as m₀

pub record Parents (b m₀ m : List ℕ) (p : ℕ) : Type 0 where
  pub kept : length m ≡ length m₀
  pub under : Under m p
  pub none : (i : ℕ) → i < legs b → leg_parent b i < p → leg_repeats b i ≡ false

pub parents_start : (b m : List ℕ) → m ≡ zeros (length m) → Parents b m m 0
parents_start b m z = record { kept = refl; under = zero_under m z; none = λ i h l. absurd (not-suc-le-zero l) }

pub parents_found : (b : List ℕ) (p : ℕ) → true ≡ some_below (legs b) (child_repeats b p) → true ≡ some_below (legs b) (leg_repeats b)
unfolding child_repeats
parents_found b p e = go (some_below (legs b) (leg_repeats b)) refl
  where
    and_false : (s t : Bool) → t ≡ false → (s && t) ≡ false
    and_false true t d = d
    and_false false t d = refl

    go : (a : Bool) → some_below (legs b) (leg_repeats b) ≡ a → true ≡ a
    go true d = refl
    go false d = e ∙ none_all (legs b) (child_repeats b p) (λ i h. and_false (eqb (leg_parent b i) p) (leg_repeats b i) (none_at (legs b) (leg_repeats b) i h d))

pub parents_on : {b m₀ m n : List ℕ} {p : ℕ} → Parents b m₀ m p → length n ≡ length m → Under n (p + 1) → false ≡ some_below (legs b) (child_repeats b p) → Parents b m₀ n (p + 1)
unfolding child_repeats
parents_on {b} {m₀} {m} {n} {p} w k u e = record { kept = k ∙ w.kept; under = u; none = λ i h l. go i h (equal_or_not (leg_parent b i) p) l }
  where
    go : (i : ℕ) → i < legs b → (leg_parent b i ≡ p) ⊎ (leg_parent b i ≡ p → ⊥) → leg_parent b i < p + 1 → leg_repeats b i ≡ false
    go i h (inl d) l = ap (λ (a : Bool). a && leg_repeats b i) (sym (eq-eqb (leg_parent b i) p d)) ∙ none_at (legs b) (child_repeats b p) i h (sym e)
    go i h (inr d) l = w.none i h (less (leg_parent b i) p l d)
      where
        less : (a c : ℕ) → a < c + 1 → (a ≡ c → ⊥) → a < c
        less a c l d = omega arith

pub parents_all : {b m₀ m : List ℕ} {p : ℕ} → Readable b → Parents b m₀ m p → legs b ≤ p → false ≡ some_below (legs b) (leg_repeats b)
parents_all {b} {m₀} {m} {p} r w h = sym (none_all (legs b) (leg_repeats b) (λ i l. w.none i l (omega (arith, leg_above b r.single i l))))
