-- Two elements that change places: where each then stands, and what a sweep over the copy does.
use mathlib.Core.Path.{◌≡◌, refl, sym, ap, ◌∙◌}
use mathlib.Core.Logic.{◌⊎◌, inl, inr}
use mathlib.Core.Bool.{Bool, cond}
use mathlib.Core.List.{List}
use Prim.Native.Nat.{ℕ, zero, suc, ◌+◌, ◌≤◌, ◌<◌}
use native.Mathlib.Omega.{arith}
use borrow.Author.Tests.{eq-eqb, ne_eqb}
use lib.Dec.{eqb}
use lib.ListN.{length, get_or, set, length-set}
use Rattle.laws.proofs.Truth.{equal_or_not}
use Rattle.laws.proofs.Lists.{stored_at, kept_at}
use Rattle.book_format.specs.Format.{origin_link}
use Rattle.book_copied_origins.specs.Copied.{Copy, swapped, looked, swept}

-- ---- a swap

-- where the element at j stood before p and n changed places
unfoldable pub turned : ℕ → ℕ → ℕ → ℕ
turned p n j = cond (eqb j n) p (cond (eqb j p) n j)

module _ (p n : ℕ) where
  pub turned_n : (j : ℕ) → j ≡ n → turned p n j ≡ p
  unfolding turned
  turned_n j e = ap (λ (t : Bool). cond t p (cond (eqb j p) n j)) (eq-eqb j n e)

  turned_p : (j : ℕ) → (j ≡ n → ⊥) → j ≡ p → turned p n j ≡ n
  unfolding turned
  turned_p j d e = ap (λ (t : Bool). cond t p (cond (eqb j p) n j)) (ne_eqb j n d) ∙ ap (λ (t : Bool). cond t n j) (eq-eqb j p e)

  pub turned_other : (j : ℕ) → (j ≡ n → ⊥) → (j ≡ p → ⊥) → turned p n j ≡ j
  unfolding turned
  turned_other j d e = ap (λ (t : Bool). cond t p (cond (eqb j p) n j)) (ne_eqb j n d) ∙ ap (λ (t : Bool). cond t n j) (ne_eqb j p e)

  pub turned_back : (j : ℕ) → turned p n (turned p n j) ≡ j
  turned_back j = go (equal_or_not j n) (equal_or_not j p) (equal_or_not p n)
    where
      go : (j ≡ n) ⊎ (j ≡ n → ⊥) → (j ≡ p) ⊎ (j ≡ p → ⊥) → (p ≡ n) ⊎ (p ≡ n → ⊥) → turned p n (turned p n j) ≡ j
      go (inl e) q (inl r) = ap (turned p n) (turned_n j e) ∙ turned_n p r ∙ r ∙ sym e
      go (inl e) q (inr r) = ap (turned p n) (turned_n j e) ∙ turned_p p r refl ∙ sym e
      go (inr d) (inl e) r = ap (turned p n) (turned_p j d e) ∙ turned_n n refl ∙ sym e
      go (inr d) (inr e) r = ap (turned p n) (turned_other j d e) ∙ turned_other j d e

  pub turned_most : (j m : ℕ) → p < m → n < m → j < m → turned p n j < m
  turned_most j m hp hn hj = go (equal_or_not j n) (equal_or_not j p)
    where
      go : (j ≡ n) ⊎ (j ≡ n → ⊥) → (j ≡ p) ⊎ (j ≡ p → ⊥) → turned p n j < m
      go (inl e) q = omega (arith, turned_n j e)
      go (inr d) (inl e) = omega (arith, turned_p j d e)
      go (inr d) (inr e) = omega (arith, turned_other j d e)

  pub swapped_at : (rows : List ℕ) (j : ℕ) → p < length rows → n < length rows → get_or (swapped rows p n) j 0 ≡ get_or rows (turned p n j) 0
  unfolding swapped
  swapped_at rows j hp hn = go (equal_or_not j n) (equal_or_not j p)
    where
      once : List ℕ
      once = set rows p (get_or rows n 0)

      go : (j ≡ n) ⊎ (j ≡ n → ⊥) → (j ≡ p) ⊎ (j ≡ p → ⊥) → get_or (set once n (get_or rows p 0)) j 0 ≡ get_or rows (turned p n j) 0
      go (inl e) q = stored_at once n j (get_or rows p 0) e (omega (arith, length-set rows p (get_or rows n 0))) ∙ ap (λ (k : ℕ). get_or rows k 0) (sym (turned_n j e))
      go (inr d) (inl e) = kept_at once n j (get_or rows p 0) d ∙ stored_at rows p j (get_or rows n 0) e hp ∙ ap (λ (k : ℕ). get_or rows k 0) (sym (turned_p j d e))
      go (inr d) (inr e) = kept_at once n j (get_or rows p 0) d ∙ kept_at rows p j (get_or rows n 0) e ∙ ap (λ (k : ℕ). get_or rows k 0) (sym (turned_other j d e))

  pub swapped_length : (rows : List ℕ) → length (swapped rows p n) ≡ length rows
  unfolding swapped
  swapped_length rows = length-set (set rows p (get_or rows n 0)) n (get_or rows p 0) ∙ length-set rows p (get_or rows n 0)

-- ---- a sweep

-- the copy with the origin at p swapped behind those kept
abbrev pub kept_next : Copy → ℕ → Copy
kept_next c p = record { rows = swapped c.rows p c.kept; kept = suc c.kept }

module _ (b : List ℕ) (l : ℕ) where
  looked_other : (i : ℕ) (c : Copy) → (origin_link b (get_or c.rows i 0) ≡ l → ⊥) → looked b l i c ≡ c
  unfolding looked
  looked_other i c h = ap (λ (t : Bool). cond t (kept_next c i) c) (ne_eqb (origin_link b (get_or c.rows i 0)) l h)

  looked_found : (i : ℕ) (c : Copy) → origin_link b (get_or c.rows i 0) ≡ l → looked b l i c ≡ kept_next c i
  unfolding looked
  looked_found i c h = ap (λ (t : Bool). cond t (kept_next c i) c) (eq-eqb (origin_link b (get_or c.rows i 0)) l h)

  -- none of the k from i on has the link
  abbrev None : ℕ → ℕ → Copy → Type 0
  None k i c = (j : ℕ) → i ≤ j → j < i + k → origin_link b (get_or c.rows j 0) ≡ l → ⊥

  pub swept_none : (k i : ℕ) (c : Copy) → None k i c → swept k b l i c ≡ c
  unfolding swept
  swept_none zero i c h = refl
  swept_none (suc k) i c h =
      ap (swept k b l (suc i)) (looked_other i c (h i (omega arith) (omega arith)))
      ∙ swept_none k (suc i) c (λ j g m. h j (omega arith) (omega arith))

  -- one of them has it, and it stands no nearer than those kept end
  pub swept_one : (k i p : ℕ) (c : Copy) → i ≤ p → p < i + k → c.kept ≤ p → p < length c.rows → origin_link b (get_or c.rows p 0) ≡ l
      → ((j : ℕ) → i ≤ j → j < i + k → (j ≡ p → ⊥) → origin_link b (get_or c.rows j 0) ≡ l → ⊥) → swept k b l i c ≡ kept_next c p
  unfolding swept
  swept_one zero i p c h g m q e o = absurd (omega arith)
  swept_one (suc k) i p c h g m q e o = go (equal_or_not i p) (λ d. swept_one k (suc i) p c (omega arith) (omega arith) m q e (λ j x y. o j (omega arith) (omega arith)))
    where
      behind : i ≡ p → None k (suc p) (kept_next c p)
      behind f j x y z =
          let d : j ≡ p → ⊥ = λ (r : j ≡ p). omega arith in
          o j (omega arith) (omega arith) d
          (ap (origin_link b) (ap (λ (s : ℕ). get_or c.rows s 0) (sym (turned_other p c.kept j (λ (r : j ≡ c.kept). omega arith) d)) ∙ sym (swapped_at p c.kept c.rows j q (omega arith))) ∙ z)

      go : (i ≡ p) ⊎ (i ≡ p → ⊥) → ((i ≡ p → ⊥) → swept k b l (suc i) c ≡ kept_next c p) → swept k b l (suc i) (looked b l i c) ≡ kept_next c p
      go (inl r) later =
          ap (λ (x : ℕ). swept k b l (suc x) (looked b l x c)) r
          ∙ ap (swept k b l (suc p)) (looked_found p c e)
          ∙ swept_none k (suc p) (kept_next c p) (behind r)
      go (inr r) later = ap (swept k b l (suc i)) (looked_other i c (o i (omega arith) (omega arith) r)) ∙ later r
