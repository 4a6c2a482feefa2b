-- The walk along a parent's children: what holds where it stands at leg number j, and each way a turn can end.
use mathlib.Core.Path.{◌≡◌, sym, ap, ◌∙◌}
use mathlib.Core.List.{List}
use Prim.Native.Nat.{ℕ, zero, suc, ◌+◌, ◌-◌, ◌*◌, ◌≤◌, ◌<◌}
use native.Mathlib.Omega.{arith}
use lib.ListN.{get_or}
use Rattle.book_format.specs.Format.{legs, leg_link, leg_parent}
use Rattle.book_format.specs.Chains.{last_child, leg_below, Chained}
use Rattle.std.proofs.Common.{Some, None}
use Rattle.book_legs.specs.Legs.{search_of, leg_search}
use Rattle.book_legs.proofs.Chains.{below_last, last_is, below_found, below_passed}

-- what is sought is among the legs up to j, and j is a child of p, or 0
pub record Walking (b : List ℕ) (p l j : ℕ) : Type 0 where
  pub same : leg_below b j p l ≡ leg_below b (legs b) p l
  pub child : (i : ℕ) → j ≡ suc i → (leg_parent b i ≡ p) × (i < legs b)

pub walking_start : (b cells : List ℕ) (p l : ℕ) → Chained b cells → p ≤ legs b → Walking b p l (get_or cells (p * 8) 0)
walking_start b cells p l c h =
    let e : get_or cells (p * 8) 0 ≡ last_child b (legs b) p = c.first p h in
    record {
      same = ap (λ (j : ℕ). leg_below b j p l) e ∙ sym (below_last b (legs b) p l);
      child = λ i d. last_is b (legs b) p i (sym e ∙ d);
    }

-- where the walk stands at a child, its row
pub walking_row : {b : List ℕ} {p l j : ℕ} → Walking b p l j → 0 < j → (leg_parent b (j - 1) ≡ p) × (j - 1 < legs b)
walking_row {b} {p} {l} {j} w h = w.child (j - 1) (omega arith)

pub walking_on : {b : List ℕ} {p l j : ℕ} (cells : List ℕ) → Chained b cells → Walking b p l j → 0 < j → (leg_link b (j - 1) ≡ l → ⊥) → Walking b p l (get_or cells (j * 8 + 1) 0)
walking_on {b} {p} {l} {j} cells c w h n =
    let i = j - 1 in
    let q = walking_row w h in
    let at : j * 8 + 1 ≡ (i + 1) * 8 + 1 = omega arith in
    let e : get_or cells (j * 8 + 1) 0 ≡ last_child b i p = ap (λ (k : ℕ). get_or cells k 0) at ∙ c.before i q.1 ∙ ap (last_child b i) q.0 in
    let s : suc i ≡ j = omega arith in
    record {
      same =
          ap (λ (k : ℕ). leg_below b k p l) e
          ∙ sym (below_last b i p l)
          ∙ sym (below_passed b i p l q.0 n)
          ∙ ap (λ (k : ℕ). leg_below b k p l) s
          ∙ w.same;
      child = λ k d. let z = last_is b i p k (sym e ∙ d) in (z.0, omega (arith, z.1, q.1));
    }

-- each child stands before the one after it
pub walking_less : {b : List ℕ} {p l j : ℕ} (cells : List ℕ) → Chained b cells → Walking b p l j → 0 < j → get_or cells (j * 8 + 1) 0 < j
walking_less {b} {p} {l} {j} cells c w h =
    let i = j - 1 in
    let q = walking_row w h in
    let at : j * 8 + 1 ≡ (i + 1) * 8 + 1 = omega arith in
    go (get_or cells (j * 8 + 1) 0) (ap (λ (k : ℕ). get_or cells k 0) at ∙ c.before i q.1 ∙ ap (last_child b i) q.0)
  where
    go : (k : ℕ) → k ≡ last_child b (j - 1) p → k < j
    go zero e = h
    go (suc k) e = let z = last_is b (j - 1) p k (sym e) in omega (arith, z.1)

search_is : (b : List ℕ) (p l n : ℕ) → leg_below b (legs b) p l ≡ n → search_of n ≡ leg_search b p l
unfolding leg_search
search_is b p l n e = ap search_of (sym e)

pub walking_found : {b : List ℕ} {p l j : ℕ} → Walking b p l j → 0 < j → leg_link b (j - 1) ≡ l → Some j ≡ leg_search b p l
walking_found {b} {p} {l} {j} w h e =
    let i = j - 1 in
    let q = walking_row w h in
    let s : suc i ≡ j = omega arith in
    ap Some (sym s) ∙ search_is b p l (suc i) (sym w.same ∙ ap (λ (k : ℕ). leg_below b k p l) (sym s) ∙ below_found b i p l q.0 e)

pub walking_end : {b : List ℕ} {p l j : ℕ} → Walking b p l j → (0 < j → ⊥) → None ≡ leg_search b p l
unfolding leg_below
walking_end {b} {p} {l} {j} w h = let e : j ≡ 0 = omega arith in search_is b p l 0 (sym w.same ∙ ap (λ (k : ℕ). leg_below b k p l) e)
