-- The end of the search: the stack is empty, and the marks hold the answer.
use mathlib.Core.Path.{◌≡◌, refl, sym, ap, ◌∙◌, subst}
use mathlib.Core.Bool.{Bool, true, false, ◌||◌, cond, true≢false, or-true}
use mathlib.Core.List.{List, [], ◌∷◌}
use Prim.Native.Nat.{ℕ, ◌+◌, ◌*◌, ◌%◌, ◌<◌}
use native.Mathlib.Omega.{arith}
use borrow.Author.Tests.{eq-eqb, ne_eqb}
use lib.Dec.{eqb}
use lib.ListN.{length, get_or}
use Rattle.laws.specs.Below.{some_below}
use Rattle.book_format.specs.Format.{links, destinations, destination_link}
use Rattle.book_options.specs.Options.{Search, member, search, options_of, in_set, kept_origins, none, row8, link_options, OptionsIn}
use Rattle.book_options.specs.Turns.{stack_at, outside_set, Walking}
use Rattle.book_options.specs.declared.Walk.{Walk}
use Rattle.std.proofs.Common.{Ok, Err}
use Rattle.refusals.specs.declared.Refusal.TheVariants.{NoPath}
use Rattle.book_options.proofs.Walks.{search_empty}

module _ {b m : List ℕ} {w : Walk} (v : Walking b m w) (h : w.top ≡ 0) where
  found : options_of b ≡ record { stack = []; set = v.set; kept = v.kept }
  unfolding stack_at
  found =
      let e : stack_at m (links b) w.top ≡ [] = ap (stack_at m (links b)) h in
      sym v.answer ∙ ap (λ (s : List ℕ). search v.left b s v.set v.kept) e ∙ search_empty v.left b v.set v.kept

  found_kept : kept_origins b ≡ v.kept
  unfolding kept_origins
  found_kept = ap (λ (s : Search). s.kept) found

  found_set : (l : ℕ) → in_set b l ≡ member l v.set
  unfolding in_set
  found_set l = ap (λ (s : Search). member l s.set) found

  pub walk_marked : OptionsIn b m
  unfolding outside_set
  walk_marked = record { set = λ l g. marked l g (member l v.set) refl; kept = λ k g. kept k (subst (λ (s : List ℕ). k < length s) found_kept g) }
    where
      marked : (l : ℕ) → l < links b → (t : Bool) → member l v.set ≡ t → eqb (get_or m l 0 % 2) 1 ≡ in_set b l
      marked l g true e =
          let a : outside_set v.set l ≡ 0 = ap (λ (t : Bool). cond t 0 1) e in
          eq-eqb (get_or m l 0 % 2) 1 (omega (arith, v.holds.marks l g)) ∙ sym (found_set l ∙ e)
      marked l g false e =
          let a : outside_set v.set l ≡ 1 = ap (λ (t : Bool). cond t 0 1) e in
          ne_eqb (get_or m l 0 % 2) 1 (λ (o : get_or m l 0 % 2 ≡ 1). omega (arith, v.holds.marks l g)) ∙ sym (found_set l ∙ e)

      kept : (k : ℕ) → k < length v.kept → get_or m (2 * links b + destinations b + k) 0 ≡ get_or (kept_origins b) k 0
      kept k g = v.holds.rows k (subst (λ (n : ℕ). k < n) (sym v.holds.many) g) ∙ ap (λ (s : List ℕ). get_or s k 0) (sym found_kept)

  pub walk_none : w.kept ≡ 0 → row8 b ≡ true
  unfolding row8
  walk_none e =
      let z : none (kept_origins b) ≡ true = ap none found_kept ∙ empty v.kept (omega (arith, v.holds.many)) in
      ap (λ (t : Bool). some_below (destinations b) (λ i. eqb (destination_link b i) 0) || t) z ∙ or-true (some_below (destinations b) (λ i. eqb (destination_link b i) 0))
    where
      empty : (s : List ℕ) → length s ≡ 0 → none s ≡ true
      empty [] d = refl
      empty (x ∷ s) d = absurd (omega arith)

  pub walk_some : some_below (destinations b) (λ i. eqb (destination_link b i) 0) ≡ false → (w.kept ≡ 0 → ⊥) → Ok w.kept ≡ link_options b
  unfolding link_options row8
  walk_some d n =
      let z : none (kept_origins b) ≡ false = ap none found_kept ∙ filled v.kept (λ (o : length v.kept ≡ 0). n (v.holds.many ∙ o)) in
      let k : length (kept_origins b) ≡ w.kept = ap length found_kept ∙ sym v.holds.many in
      rw (d, z, k)
    where
      filled : (s : List ℕ) → (length s ≡ 0 → ⊥) → none s ≡ false
      filled [] d = absurd (d refl)
      filled (x ∷ s) d = refl

-- a link 0 among the destinations
pub zero_refused : (b : List ℕ) → some_below (destinations b) (λ i. eqb (destination_link b i) 0) ≡ true → row8 b ≡ true
unfolding row8
zero_refused b h = ap (λ (t : Bool). t || none (kept_origins b)) h

pub refused : (b m : List ℕ) → row8 b ≡ true → (Err NoPath ≡ link_options b) × (row8 b ≡ false → OptionsIn b m)
unfolding link_options
refused b m h = (rw h, λ e. absurd (true≢false (sym h ∙ e)))
