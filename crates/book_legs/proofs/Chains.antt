-- The chains of children: what `linked` writes is what `Chained` says, and a walk along a chain meets every child.
use mathlib.Core.Path.{◌≡◌, refl, sym, ap, ◌∙◌, subst}
use mathlib.Core.Logic.{◌⊎◌, inl, inr, ◌≢◌}
use mathlib.Core.Bool.{Bool, true, false, ◌&&◌, cond}
use mathlib.Core.List.{List}
use Prim.Native.Nat.{ℕ, zero, suc, ◌+◌, ◌*◌, ◌≤◌, ◌<◌}
use native.Mathlib.Nat.{not-suc-le-zero, le_of_suc-le-suc, eq-or-lt_of_le, le_refl}
use native.Mathlib.Numerals.{add-one}
use native.Mathlib.Omega.{arith}
use lib.Dec.{eqb}
use lib.ListN.{length, get_or, set, length-set}
use lib.Seq.{get_or-set_same, get_or-set_other}
use borrow.Author.Tests.{eq-eqb, ne_eqb, eqb-true, eqb-false}
use Rattle.laws.specs.Below.{sum_below}
use Rattle.space.specs.Space.{zeros}
use Rattle.space.proofs.Zeros.{zeros_length, zero_at}
use Rattle.book_format.specs.Format.{legs, leg_link, leg_parent, first_sample}
use Rattle.book_format.specs.Chains.{last_child, leg_below, linked, Chained}

-- ---- three stores, and what stands at another place or at one of them

module _ (v : List ℕ) (i j k x y z r : ℕ) where
  three_other : r ≢ i → r ≢ j → r ≢ k → get_or (set (set (set v i x) j y) k z) r 0 ≡ get_or v r 0
  three_other a b c = get_or-set_other (set (set v i x) j y) k r z 0 c ∙ get_or-set_other (set v i x) j r y 0 b ∙ get_or-set_other v i r x 0 a

  three_first : i < length v → r ≡ i → r ≢ j → r ≢ k → get_or (set (set (set v i x) j y) k z) r 0 ≡ x
  three_first l e b c =
      get_or-set_other (set (set v i x) j y) k r z 0 c ∙ get_or-set_other (set v i x) j r y 0 b ∙ ap (λ (n : ℕ). get_or (set v i x) n 0) e ∙ get_or-set_same v i x 0 l

  three_second : j < length v → r ≡ j → r ≢ k → get_or (set (set (set v i x) j y) k z) r 0 ≡ y
  three_second l e c =
      get_or-set_other (set (set v i x) j y) k r z 0 c
      ∙ ap (λ (n : ℕ). get_or (set (set v i x) j y) n 0) e
      ∙ get_or-set_same (set v i x) j y 0 (subst (λ (n : ℕ). j < n) (sym (length-set v i x)) l)

  three_third : k < length v → r ≡ k → get_or (set (set (set v i x) j y) k z) r 0 ≡ z
  three_third l e =
      ap (λ (n : ℕ). get_or (set (set (set v i x) j y) k z) n 0) e
      ∙ get_or-set_same (set (set v i x) j y) k z 0 (subst (λ (n : ℕ). k < n) (sym (length-set (set v i x) j y ∙ length-set v i x)) l)

  three_length : length (set (set (set v i x) j y) k z) ≡ length v
  three_length = length-set (set (set v i x) j y) k z ∙ length-set (set v i x) j y ∙ length-set v i x

-- ---- what `linked` writes

pub linked_length : (b : List ℕ) (n : ℕ) (w : List ℕ) → length (linked b n w) ≡ length w
unfolding linked
linked_length b zero w = refl
linked_length b (suc n) w =
    three_length (linked b n w) ((n + 1) * 8 + 1) (leg_parent b n * 8) ((n + 1) * 8 + 2) (get_or (linked b n w) (leg_parent b n * 8) 0) (n + 1) (first_sample b (n + 1)) 0
    ∙ linked_length b n w

-- cells that begin as zero, for a book whose parents stand above their children
pub record Room (b : List ℕ) (len : ℕ) : Type 0 where
  pub room : (legs b + 1) * 8 ≤ len
  pub parents : (i : ℕ) → i < legs b → leg_parent b i ≤ i

module _ (b : List ℕ) (len : ℕ) (h : Room b len) where
  abbrev W : ℕ → List ℕ
  W n = linked b n (zeros len)

  sized : (n : ℕ) → length (W n) ≡ len
  sized n = linked_length b n (zeros len) ∙ zeros_length len

  pub linked_first : (n : ℕ) → n ≤ legs b → (p : ℕ) → p ≤ legs b → get_or (W n) (p * 8) 0 ≡ last_child b n p
  unfolding linked last_child
  linked_first zero l p g = zero_at len (p * 8)
  linked_first (suc n) l p g = go (eqb (leg_parent b n) p) refl (linked_first n (less n l) p g)
    where
      less : (n : ℕ) → suc n ≤ legs b → n ≤ legs b
      less n l = omega arith

      go : (t : Bool) → eqb (leg_parent b n) p ≡ t → get_or (W n) (p * 8) 0 ≡ last_child b n p → get_or (W (suc n)) (p * 8) 0 ≡ cond t (suc n) (last_child b n p)
      go true e ih =
          let q : leg_parent b n ≡ p = eqb-true (leg_parent b n) p e in
          let m : p * 8 < length (W n) = omega (arith, sized n, h.room) in
          three_second (W n) ((n + 1) * 8 + 1) (leg_parent b n * 8) ((n + 1) * 8 + 2) (get_or (W n) (leg_parent b n * 8) 0) (n + 1) (first_sample b (n + 1)) (p * 8)
          (subst (λ (k : ℕ). k * 8 < length (W n)) (sym q) m) (ap (λ (k : ℕ). k * 8) (sym q)) (λ (d : p * 8 ≡ (n + 1) * 8 + 2). omega arith)
          ∙ add-one n
      go false e ih =
          let q : leg_parent b n ≡ p → ⊥ = eqb-false (leg_parent b n) p e in
          three_other (W n) ((n + 1) * 8 + 1) (leg_parent b n * 8) ((n + 1) * 8 + 2) (get_or (W n) (leg_parent b n * 8) 0) (n + 1) (first_sample b (n + 1)) (p * 8)
          (λ (d : p * 8 ≡ (n + 1) * 8 + 1). omega arith) (λ (d : p * 8 ≡ leg_parent b n * 8). q (omega arith)) (λ (d : p * 8 ≡ (n + 1) * 8 + 2). omega arith)
          ∙ ih

  pub linked_before : (n : ℕ) → n ≤ legs b → (i : ℕ) → i < n → get_or (W n) ((i + 1) * 8 + 1) 0 ≡ last_child b i (leg_parent b i)
  unfolding linked
  linked_before zero l i g = absurd (not-suc-le-zero g)
  linked_before (suc n) l i g = go (eq-or-lt_of_le (le_of_suc-le-suc g)) (linked_before n (less n l) i)
    where
      less : (n : ℕ) → suc n ≤ legs b → n ≤ legs b
      less n l = omega arith

      under : (n : ℕ) → suc n ≤ legs b → leg_parent b n ≤ legs b
      under n l = omega (arith, h.parents n l)

      go : (i ≡ n) ⊎ (i < n) → (i < n → get_or (W n) ((i + 1) * 8 + 1) 0 ≡ last_child b i (leg_parent b i)) → get_or (W (suc n)) ((i + 1) * 8 + 1) 0 ≡ last_child b i (leg_parent b i)
      go (inl e) ih =
          three_first (W n) ((n + 1) * 8 + 1) (leg_parent b n * 8) ((n + 1) * 8 + 2) (get_or (W n) (leg_parent b n * 8) 0) (n + 1) (first_sample b (n + 1)) ((i + 1) * 8 + 1)
          (omega (arith, sized n, h.room)) (omega arith) (λ (d : (i + 1) * 8 + 1 ≡ leg_parent b n * 8). omega arith) (λ (d : (i + 1) * 8 + 1 ≡ (n + 1) * 8 + 2). omega arith)
          ∙ linked_first n (less n l) (leg_parent b n) (under n l)
          ∙ ap (λ (k : ℕ). last_child b k (leg_parent b k)) (sym e)
      go (inr m) ih =
          three_other (W n) ((n + 1) * 8 + 1) (leg_parent b n * 8) ((n + 1) * 8 + 2) (get_or (W n) (leg_parent b n * 8) 0) (n + 1) (first_sample b (n + 1)) ((i + 1) * 8 + 1)
          (λ (d : (i + 1) * 8 + 1 ≡ (n + 1) * 8 + 1). omega arith) (λ (d : (i + 1) * 8 + 1 ≡ leg_parent b n * 8). omega arith) (λ (d : (i + 1) * 8 + 1 ≡ (n + 1) * 8 + 2). omega arith)
          ∙ ih m

  none_first : first_sample b 0 ≡ 0
  unfolding first_sample sum_below
  none_first = refl

  pub linked_ends : (n : ℕ) → n ≤ legs b → (j : ℕ) → j ≤ n → get_or (W n) (j * 8 + 2) 0 ≡ first_sample b j
  unfolding linked
  linked_ends zero l j g =
      let e : j ≡ 0 = omega arith in
      zero_at len (j * 8 + 2) ∙ sym (ap (first_sample b) e ∙ none_first)
  linked_ends (suc n) l j g = go (eq-or-lt_of_le g) (linked_ends n (less n l) j)
    where
      less : (n : ℕ) → suc n ≤ legs b → n ≤ legs b
      less n l = omega arith

      go : (j ≡ suc n) ⊎ (j < suc n) → (j ≤ n → get_or (W n) (j * 8 + 2) 0 ≡ first_sample b j) → get_or (W (suc n)) (j * 8 + 2) 0 ≡ first_sample b j
      go (inl e) ih =
          three_third (W n) ((n + 1) * 8 + 1) (leg_parent b n * 8) ((n + 1) * 8 + 2) (get_or (W n) (leg_parent b n * 8) 0) (n + 1) (first_sample b (n + 1)) (j * 8 + 2)
          (omega (arith, sized n, h.room)) (omega arith)
          ∙ ap (first_sample b) (add-one n ∙ sym e)
      go (inr m) ih =
          three_other (W n) ((n + 1) * 8 + 1) (leg_parent b n * 8) ((n + 1) * 8 + 2) (get_or (W n) (leg_parent b n * 8) 0) (n + 1) (first_sample b (n + 1)) (j * 8 + 2)
          (λ (d : j * 8 + 2 ≡ (n + 1) * 8 + 1). omega arith) (λ (d : j * 8 + 2 ≡ leg_parent b n * 8). omega arith) (λ (d : j * 8 + 2 ≡ (n + 1) * 8 + 2). omega arith)
          ∙ ih (le_of_suc-le-suc m)

  -- behind the legs' units nothing is written
  pub linked_rest : (n : ℕ) → n ≤ legs b → (q : ℕ) → (legs b + 1) * 8 ≤ q → get_or (W n) q 0 ≡ 0
  unfolding linked
  linked_rest zero l q g = zero_at len q
  linked_rest (suc n) l q g =
      three_other (W n) ((n + 1) * 8 + 1) (leg_parent b n * 8) ((n + 1) * 8 + 2) (get_or (W n) (leg_parent b n * 8) 0) (n + 1) (first_sample b (n + 1)) q
      (λ (d : q ≡ (n + 1) * 8 + 1). omega arith) (λ (d : q ≡ leg_parent b n * 8). omega (arith, h.parents n l)) (λ (d : q ≡ (n + 1) * 8 + 2). omega arith)
      ∙ linked_rest n (omega arith) q g

  -- so the finished cells are chained
  pub chained : Chained b (W (legs b))
  chained = record {
    room = subst (λ (n : ℕ). (legs b + 1) * 8 ≤ n) (sym (sized (legs b))) h.room;
    first = linked_first (legs b) (le_refl (legs b));
    before = linked_before (legs b) (le_refl (legs b));
    ends = linked_ends (legs b) (le_refl (legs b));
  }

-- ---- a walk along a parent's children, from the last to the first

-- legs that aren't children of p don't matter: only those down to the last child of the first n are looked at
pub below_last : (b : List ℕ) (n p l : ℕ) → leg_below b n p l ≡ leg_below b (last_child b n p) p l
unfolding leg_below last_child
below_last b zero p l = refl
below_last b (suc n) p l = go (eqb (leg_parent b n) p) refl (below_last b n p l)
  where
    go : (t : Bool) → eqb (leg_parent b n) p ≡ t → leg_below b n p l ≡ leg_below b (last_child b n p) p l
        → cond (t && eqb (leg_link b n) l) (suc n) (leg_below b n p l) ≡ leg_below b (cond t (suc n) (last_child b n p)) p l
    go true e ih = ap (λ (u : Bool). cond (u && eqb (leg_link b n) l) (suc n) (leg_below b n p l)) (sym e)
    go false e ih = ih

-- the last child is a child, and one of the first n
pub last_is : (b : List ℕ) (n p j : ℕ) → last_child b n p ≡ suc j → (leg_parent b j ≡ p) × (j < n)
unfolding last_child
last_is b zero p j e = absurd (omega arith)
last_is b (suc n) p j e = go (eqb (leg_parent b n) p) refl e (last_is b n p j)
  where
    go : (t : Bool) → eqb (leg_parent b n) p ≡ t → cond t (suc n) (last_child b n p) ≡ suc j → (last_child b n p ≡ suc j → (leg_parent b j ≡ p) × (j < n)) → (leg_parent b j ≡ p) × (j < suc n)
    go true q d ih = let k : n ≡ j = omega arith in (subst (λ (m : ℕ). leg_parent b m ≡ p) k (eqb-true (leg_parent b n) p q), omega arith)
    go false q d ih = let z = ih d in (z.0, omega (arith, z.1))

-- a child with the link is the one sought, and another sends the walk to the child before it
pub below_found : (b : List ℕ) (j p l : ℕ) → leg_parent b j ≡ p → leg_link b j ≡ l → leg_below b (suc j) p l ≡ suc j
unfolding leg_below
below_found b j p l e f =
    ap (λ (t : Bool). cond (t && eqb (leg_link b j) l) (suc j) (leg_below b j p l)) (eq-eqb (leg_parent b j) p e)
    ∙ ap (λ (t : Bool). cond (true && t) (suc j) (leg_below b j p l)) (eq-eqb (leg_link b j) l f)

pub below_passed : (b : List ℕ) (j p l : ℕ) → leg_parent b j ≡ p → (leg_link b j ≡ l → ⊥) → leg_below b (suc j) p l ≡ leg_below b j p l
unfolding leg_below
below_passed b j p l e f =
    ap (λ (t : Bool). cond (t && eqb (leg_link b j) l) (suc j) (leg_below b j p l)) (eq-eqb (leg_parent b j) p e)
    ∙ ap (λ (t : Bool). cond (true && t) (suc j) (leg_below b j p l)) (ne_eqb (leg_link b j) l f)
