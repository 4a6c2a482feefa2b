-- Paths of legs: what is on a path, and which links it goes over.
use mathlib.Core.Path.{◌≡◌, refl, sym, ap, ◌∙◌, subst}
use mathlib.Core.Logic.{◌⊎◌, inl, inr}
use mathlib.Core.Bool.{Bool, true, false, ◌||◌}
use mathlib.Core.List.{List, [], ◌∷◌, ◌++◌}
use Prim.Native.Nat.{ℕ, zero, suc, ◌+◌, ◌-◌, ◌≤◌, ◌<◌}
use native.Mathlib.Omega.{arith}
use borrow.Author.Tests.{eqb-true, eq-eqb}
use lib.Dec.{eqb}
use lib.ListN.{length, length-append}
use Rattle.laws.proofs.Truth.{true_or_false, not_both}
use Rattle.laws.proofs.Below.{or_left, or_right}
use Rattle.book_format.specs.Format.{links, legs, leg_link, leg_parent}
use Rattle.grow_path.specs.Path.{legs_to, path_of, link_of, point_link}
use Rattle.grow_path.proofs.Paths.{Above, path_more}
use Rattle.grow_rules.specs.Run.{member_of}
use Rattle.grow_state.specs.Held.{path_before}

-- ---- members

pub member_append : (xs ys : List ℕ) (i : ℕ) → member_of (xs ++ ys) i ≡ (member_of xs i || member_of ys i)
member_append [] ys i = refl
member_append (x ∷ xs) ys i = go (eqb x i) (member_append xs ys i)
  where
    go : (t : Bool) → member_of (xs ++ ys) i ≡ (member_of xs i || member_of ys i)
        → (t || member_of (xs ++ ys) i) ≡ ((t || member_of xs i) || member_of ys i)
    go true h = refl
    go false h = h

-- of a list and one behind it
member_behind : (xs : List ℕ) (i : ℕ) → member_of (xs ++ (i ∷ [])) i ≡ true
member_behind xs i = member_append xs (i ∷ []) i
    ∙ or_right (member_of xs i) (member_of (i ∷ []) i) (or_left (eqb i i) false (eq-eqb i i refl))

member_before : (xs : List ℕ) (j i : ℕ) → member_of xs i ≡ true → member_of (xs ++ (j ∷ [])) i ≡ true
member_before xs j i h = member_append xs (j ∷ []) i ∙ or_left (member_of xs i) (member_of (j ∷ []) i) h

member_snoc : (xs : List ℕ) (j i : ℕ) → member_of (xs ++ (j ∷ [])) i ≡ true → (member_of xs i ≡ true) ⊎ (j ≡ i)
member_snoc xs j i h = go (member_of xs i) (eqb j i) refl refl (sym (member_append xs (j ∷ []) i) ∙ h)
  where
    go : (s t : Bool) → member_of xs i ≡ s → eqb j i ≡ t → (s || (t || false)) ≡ true
        → (member_of xs i ≡ true) ⊎ (j ≡ i)
    go true t p q e = inl p
    go false true p q e = inr (eqb-true j i q)
    go false false p q e = not_both e refl

-- none, where one would be wrong
pub member_none : (xs : List ℕ) (i : ℕ) → (member_of xs i ≡ true → ⊥) → member_of xs i ≡ false
member_none xs i h = go (true_or_false (member_of xs i))
  where
    go : (member_of xs i ≡ true) ⊎ (member_of xs i ≡ false) → member_of xs i ≡ false
    go (inl e) = absurd (h e)
    go (inr e) = e

-- ---- paths

module _ {b : List ℕ} (above : Above b) where
  pub path_is : (j : ℕ) → 0 < j → j ≤ legs b → path_of b j ≡ path_before b j ++ (j ∷ [])
  unfolding path_before
  path_is zero h l = absurd (omega arith)
  path_is (suc i) h l = path_more above i l ∙ ap (λ (k : ℕ). path_of b (leg_parent b k) ++ (suc i ∷ [])) less
    where
      less : i ≡ suc i - 1
      less = omega arith

  -- the path before a child is its parent's
  pub before_child : (i p : ℕ) → leg_parent b i ≡ p → path_before b (suc i) ≡ path_of b p
  unfolding path_before
  before_child i p e = ap (λ (k : ℕ). path_of b (leg_parent b k)) less ∙ ap (path_of b) e
    where
      less : suc i - 1 ≡ i
      less = omega arith

  pub path_long : (j : ℕ) → 0 < j → j ≤ legs b → length (path_of b j) ≡ length (path_before b j) + 1
  path_long j h l = ap length (path_is j h l) ∙ length-append (path_before b j) (j ∷ [])

  -- a leg is on its path
  pub path_own : (j : ℕ) → 0 < j → j ≤ legs b → member_of (path_of b j) j ≡ true
  path_own j h l = ap (λ (xs : List ℕ). member_of xs j) (path_is j h l) ∙ member_behind (path_before b j) j

  -- no number on it is greater
  below : (k j i : ℕ) → j ≤ k → j ≤ legs b → member_of (legs_to k b j) i ≡ true → i ≤ j
  unfolding legs_to
  below zero j i h l e = not_both e refl
  below (suc k) zero i h l e = not_both e refl
  below (suc k) (suc m) i h l e = go (below k (leg_parent b m) i)
      (member_snoc (legs_to k b (leg_parent b m)) (suc m) i e)
    where
      go : (leg_parent b m ≤ k → leg_parent b m ≤ legs b → member_of (legs_to k b (leg_parent b m)) i ≡ true
          → i ≤ leg_parent b m) → (member_of (legs_to k b (leg_parent b m)) i ≡ true) ⊎ (suc m ≡ i) → i ≤ suc m
      go ih (inl t) =
          let q = above.parents m l in
          let r = ih (omega arith) (omega arith) t in
          omega arith
      go ih (inr d) = omega arith

  pub path_below : (j i : ℕ) → j ≤ legs b → member_of (path_of b j) i ≡ true → i ≤ j
  unfolding path_of
  path_below j i l e = below j j i (omega arith) l e

  -- a leg's parent is on every path that the leg is on
  own : (k j : ℕ) → 0 < j → j ≤ k → member_of (legs_to k b j) j ≡ true
  unfolding legs_to
  own zero j h l = absurd (omega arith)
  own (suc k) zero h l = absurd (omega arith)
  own (suc k) (suc i) h l = member_behind (legs_to k b (leg_parent b i)) (suc i)

  closed : (k j i : ℕ) → j ≤ k → j ≤ legs b → 0 < leg_parent b i → member_of (legs_to k b j) (suc i) ≡ true
      → member_of (legs_to k b j) (leg_parent b i) ≡ true
  unfolding legs_to
  closed zero j i h l o e = not_both e refl
  closed (suc k) zero i h l o e = not_both e refl
  closed (suc k) (suc m) i h l o e = go (closed k (leg_parent b m) i)
      (member_snoc (legs_to k b (leg_parent b m)) (suc m) (suc i) e)
    where
      inner : member_of (legs_to k b (leg_parent b m)) (leg_parent b i) ≡ true
          → member_of (legs_to k b (leg_parent b m) ++ (suc m ∷ [])) (leg_parent b i) ≡ true
      inner = member_before (legs_to k b (leg_parent b m)) (suc m) (leg_parent b i)

      go : (leg_parent b m ≤ k → leg_parent b m ≤ legs b → 0 < leg_parent b i
          → member_of (legs_to k b (leg_parent b m)) (suc i) ≡ true
          → member_of (legs_to k b (leg_parent b m)) (leg_parent b i) ≡ true)
          → (member_of (legs_to k b (leg_parent b m)) (suc i) ≡ true) ⊎ (suc m ≡ suc i)
          → member_of (legs_to k b (leg_parent b m) ++ (suc m ∷ [])) (leg_parent b i) ≡ true
      go ih (inl t) = let q = above.parents m l in inner (ih (omega arith) (omega arith) o t)
      go ih (inr d) =
          let q = above.parents m l in
          let s : m ≡ i = omega arith in
          let p : leg_parent b m ≡ leg_parent b i = ap (leg_parent b) s in
          inner (subst (λ (x : ℕ). member_of (legs_to k b (leg_parent b m)) x ≡ true) p
          (own k (leg_parent b m) (omega arith) (omega arith)))

  pub path_closed : (j i : ℕ) → j ≤ legs b → 0 < leg_parent b i → member_of (path_of b j) (suc i) ≡ true
      → member_of (path_of b j) (leg_parent b i) ≡ true
  unfolding path_of
  path_closed j i l o e = closed j j i (omega arith) l o e

  pub on_child : (j i s : ℕ) → i < legs b → leg_parent b i ≡ j → member_of (path_of b (suc i)) s ≡ true
      → (member_of (path_of b j) s ≡ true) ⊎ (suc i ≡ s)
  on_child j i s h e m = member_snoc (path_of b j) (suc i) s
      (ap (λ (p : ℕ). member_of (path_of b p ++ (suc i ∷ [])) s) (sym e)
      ∙ ap (λ (xs : List ℕ). member_of xs s) (sym (path_more above i h)) ∙ m)

  -- ---- its links

  module _ (named : (i : ℕ) → i < legs b → leg_link b i < links b) where
    link_append : (path : List ℕ) (j k : ℕ) → ((i : ℕ) → i < length path → point_link b path i < links b)
        → link_of b j < links b → k < length (path ++ (j ∷ [])) → point_link b (path ++ (j ∷ [])) k < links b
    unfolding point_link
    link_append [] j zero f g h = g
    link_append [] j (suc k) f g h = absurd (omega arith)
    link_append (x ∷ path) j zero f g h = f 0 (omega arith)
    link_append (x ∷ path) j (suc k) f g h = link_append path j k (λ i l. f (suc i) (omega arith)) g (omega arith)

    links_named : (k j i : ℕ) → j ≤ k → j ≤ legs b → i < length (legs_to k b j)
        → point_link b (legs_to k b j) i < links b
    unfolding legs_to link_of
    links_named zero j i h l g = absurd (omega arith)
    links_named (suc k) zero i h l g = absurd (omega arith)
    links_named (suc k) (suc m) i h l g =
        let q = above.parents m l in
        link_append (legs_to k b (leg_parent b m)) (suc m) i
        (λ x y. links_named k (leg_parent b m) x (omega arith) (omega arith) y) (named (suc m - 1) (omega arith)) g

    pub path_named : (j i : ℕ) → j ≤ legs b → i < length (path_of b j) → point_link b (path_of b j) i < links b
    unfolding path_of
    path_named j i l g = links_named j j i (omega arith) l g
