-- Laws of the set, of the stack, and of a store into the marks.
use mathlib.Core.Path.{◌≡◌, refl, sym, ap, ◌∙◌, subst}
use mathlib.Core.Logic.{◌⊎◌, inl, inr}
use mathlib.Core.Bool.{Bool, true, false, ◌||◌, cond}
use mathlib.Core.List.{List, [], ◌∷◌, ◌++◌}
use Prim.Native.Nat.{ℕ, zero, suc, ◌+◌, ◌*◌, ◌≤◌, ◌<◌}
use native.Mathlib.Numerals.{add-one}
use native.Mathlib.Omega.{arith}
use borrow.Author.Tests.{eq-eqb, ne_eqb}
use lib.ListN.{length, get_or, set, length-append, get_or-append}
use lib.Seq.{get_or_at}
use Rattle.laws.proofs.Truth.{equal_or_not}
use Rattle.laws.proofs.Lists.{stored_at, kept_at}
use Rattle.book_format.specs.Format.{links, origins, destinations}
use Rattle.book_options.specs.Options.{member, origin_below}
use Rattle.book_options.specs.Turns.{stack_at, outside_set, even, SearchIn}

-- ---- the set

pub outside_itself : (l : ℕ) (s : List ℕ) → outside_set (l ∷ s) l ≡ 0
unfolding outside_set member
outside_itself l s = ap (λ (t : Bool). cond (t || member l s) 0 1) (eq-eqb l l refl)

pub outside_other : (l x : ℕ) (s : List ℕ) → (x ≡ l → ⊥) → outside_set (l ∷ s) x ≡ outside_set s x
unfolding outside_set member
outside_other l x s h = ap (λ (t : Bool). cond (t || member x s) 0 1) (ne_eqb x l h)

pub outside_most : (l : ℕ) (s : List ℕ) → outside_set s l ≤ 1
unfolding outside_set
outside_most l s = go (member l s)
  where
    go : (t : Bool) → cond t 0 1 ≤ 1
    go true = omega arith
    go false = omega arith

pub outside_less : (l x : ℕ) (s : List ℕ) → outside_set (l ∷ s) x ≤ outside_set s x
outside_less l x s = go (equal_or_not x l)
  where
    go : (x ≡ l) ⊎ (x ≡ l → ⊥) → outside_set (l ∷ s) x ≤ outside_set s x
    go (inl e) = subst (λ (y : ℕ). outside_set (l ∷ s) y ≤ outside_set s y) (sym e) (omega (arith, outside_itself l s))
    go (inr d) = omega (arith, outside_other l x s d)

pub in_set_lem : (l : ℕ) (s : List ℕ) → outside_set s l ≡ 0 → member l s ≡ true
unfolding outside_set
in_set_lem l s h = go (member l s) h
  where
    go : (t : Bool) → ◌≡◌ {A = ℕ} (cond t 0 1) 0 → t ≡ true
    go true e = refl
    go false e = absurd (omega arith)

pub not_in_set : (l : ℕ) (s : List ℕ) → outside_set s l ≡ 1 → member l s ≡ false
unfolding outside_set
not_in_set l s h = go (member l s) h
  where
    go : (t : Bool) → ◌≡◌ {A = ℕ} (cond t 0 1) 1 → t ≡ false
    go true e = absurd (omega arith)
    go false e = refl

pub is_outside : (l : ℕ) (s : List ℕ) → member l s ≡ false → outside_set s l ≡ 1
unfolding outside_set
is_outside l s h = ap (λ (t : Bool). cond t 0 1) h

-- ---- the stack

pub stack_same : (m m' : List ℕ) (at n : ℕ) → ((i : ℕ) → i < n → get_or m' (at + i) 0 ≡ get_or m (at + i) 0) → stack_at m' at n ≡ stack_at m at n
unfolding stack_at
stack_same m m' at zero h = refl
stack_same m m' at (suc n) h =
    let a : stack_at m' at n ≡ stack_at m at n = stack_same m m' at n (λ i l. h i (omega arith)) in
    let e : get_or m' (at + n) 0 ≡ get_or m (at + n) 0 = h n (omega arith) in
    cc

pub stack_one : (m : List ℕ) (at n : ℕ) → stack_at m at (n + 1) ≡ get_or m (at + n) 0 ∷ stack_at m at n
unfolding stack_at
stack_one m at n = ap (stack_at m at) (add-one n)

-- a link more on the stack
pub stack_pushed : (m : List ℕ) (at n i x : ℕ) → i ≡ at + n → i < length m → stack_at (set m i x) at (n + 1) ≡ x ∷ stack_at m at n
stack_pushed m at n i x e h =
    let a : stack_at (set m i x) at n ≡ stack_at m at n = stack_same m (set m i x) at n (λ k l. kept_at m i (at + k) x (λ (d : at + k ≡ i). omega arith)) in
    let s : get_or (set m i x) (at + n) 0 ≡ x = stored_at m i (at + n) x (sym e) h in
    stack_one (set m i x) at n ∙ cc

module _ {b m : List ℕ} {top n : ℕ} {s kept : List ℕ} (v : SearchIn b m top n s kept) where
  pub holds_fewer : (t : ℕ) → t ≤ top → SearchIn b m t n s kept
  holds_fewer t h = record { within = λ i l. v.within i (omega arith); marks = v.marks; many = v.many; rows = v.rows }

  -- an even mark is that of a link outside the set, and twice its origin's number
  pub mark_even : (l : ℕ) → l < links b → even m l ≡ outside_set s l
  unfolding even
  mark_even l h = omega (arith, v.marks l h, outside_most l s)

  pub holds_enter : (l x : ℕ) → l < links b → l < length m → outside_set s l ≡ 1 → x ≡ get_or m l 0 + 1 → SearchIn b (set m l x) top n (l ∷ s) kept
  holds_enter l x h r o e = record {
    within = λ i g. subst (λ (k : ℕ). k < links b) (sym (kept_at m l (links b + i) x (λ (d : links b + i ≡ l). omega arith))) (v.within i g);
    marks = λ k g. entered k g (equal_or_not k l);
    many = v.many;
    rows = λ k g. kept_at m l (2 * links b + destinations b + k) x (λ (d : 2 * links b + destinations b + k ≡ l). omega arith) ∙ v.rows k g;
  }
    where
      entered : (k : ℕ) → k < links b → (k ≡ l) ⊎ (k ≡ l → ⊥) → get_or (set m l x) k 0 + outside_set (l ∷ s) k ≡ 2 * origin_below b (origins b) k + 1
      entered k g (inl d) =
          subst (λ (y : ℕ). get_or (set m l x) y 0 + outside_set (l ∷ s) y ≡ 2 * origin_below b (origins b) y + 1) (sym d)
          (omega (arith, stored_at m l l x refl r, outside_itself l s, v.marks l h))
      entered k g (inr d) = omega (arith, kept_at m l k x d, outside_other l k s d, v.marks k g)

  pub holds_push : (i x : ℕ) → i ≡ links b + top → i < length m → top < links b + destinations b → x < links b → SearchIn b (set m i x) (top + 1) n s kept
  holds_push i x e r h g = record {
    within = λ k l. pushed k l (equal_or_not k top);
    marks = λ l d. ap (λ (y : ℕ). y + outside_set s l) (kept_at m i l x (λ (f : l ≡ i). omega arith)) ∙ v.marks l d;
    many = v.many;
    rows = λ k l. kept_at m i (2 * links b + destinations b + k) x (λ (d : 2 * links b + destinations b + k ≡ i). omega arith) ∙ v.rows k l;
  }
    where
      pushed : (k : ℕ) → k < top + 1 → (k ≡ top) ⊎ (k ≡ top → ⊥) → get_or (set m i x) (links b + k) 0 < links b
      pushed k l (inl d) = omega (arith, stored_at m i (links b + k) x (omega arith) r)
      pushed k l (inr d) =
          let f : k < top = omega arith in
          let o : links b + k ≡ i → ⊥ = λ (c : links b + k ≡ i). omega arith in
          omega (arith, kept_at m i (links b + k) x o, v.within k f)

  pub holds_keep : (i x : ℕ) → i ≡ 2 * links b + destinations b + n → i < length m → top ≤ links b + destinations b → SearchIn b (set m i x) top (n + 1) s (kept ++ (x ∷ []))
  holds_keep i x e r h = record {
    within = λ k l. subst (λ (y : ℕ). y < links b) (sym (kept_at m i (links b + k) x (λ (d : links b + k ≡ i). omega arith))) (v.within k l);
    marks = λ l d. ap (λ (y : ℕ). y + outside_set s l) (kept_at m i l x (λ (f : l ≡ i). omega arith)) ∙ v.marks l d;
    many = ap (λ (y : ℕ). y + 1) v.many ∙ sym (length-append kept (x ∷ []));
    rows = λ k l. row k l (equal_or_not k n);
  }
    where
      row : (k : ℕ) → k < n + 1 → (k ≡ n) ⊎ (k ≡ n → ⊥) → get_or (set m i x) (2 * links b + destinations b + k) 0 ≡ get_or (kept ++ (x ∷ [])) k 0
      row k l (inl d) = stored_at m i (2 * links b + destinations b + k) x (omega arith) r ∙ sym (get_or_at kept x [] 0 k (sym v.many ∙ sym d))
      row k l (inr d) =
          let f : k < n = omega arith in
          let o : 2 * links b + destinations b + k ≡ i → ⊥ = λ (c : 2 * links b + destinations b + k ≡ i). omega arith in
          kept_at m i (2 * links b + destinations b + k) x o ∙ v.rows k f ∙ sym (get_or-append kept (x ∷ []) 0 k (subst (λ (y : ℕ). k < y) v.many f))
