-- The starting legs by their links: one leg more.
use mathlib.Core.Path.{◌≡◌, refl, sym, ap, ◌∙◌, subst}
use mathlib.Core.Bool.{Bool, true, false, ◌&&◌, cond}
use mathlib.Core.List.{List}
use Prim.Native.Nat.{ℕ, zero, suc, ◌+◌, ◌<◌}
use native.Mathlib.Numerals.{add-one}
use lib.Dec.{eqb}
use lib.ListN.{length, get_or, set}
use lib.Seq.{get_or-set_same, get_or-set_other}
use borrow.Author.Tests.{eqb-true, eqb-false}
use Rattle.space.specs.Space.{zeros}
use Rattle.space.proofs.Zeros.{zero_at}
use Rattle.book_format.specs.declared.Leg.{Leg}
use Rattle.book_format.specs.Format.{links, legs, leg_link, leg_parent, leg_at}
use Rattle.book_format.specs.Chains.{leg_below}
use Rattle.book_format.proofs.Given.{leg_link_lem, leg_parent_lem}
use Rattle.std.proofs.Common.{Some, None}
use Rattle.book_legs.specs.Legs.{search_of, leg_search, Started, Named}

-- ---- one leg after the other

pub named_none : (b w : List ℕ) → w ≡ zeros (length w) → Named b 0 w
unfolding leg_below
named_none b w e = record { at = λ l h. ap (λ (v : List ℕ). get_or v l 0) e ∙ zero_at (length w) l }

pub named_more : {b w w' : List ℕ} {n : ℕ} (leg : Leg) → Named b n w → leg ≡ leg_at b n → leg.link_idx < length w
    → w' ≡ cond (eqb leg.parent 0) (set w leg.link_idx (n + 1)) w → Named b (n + 1) w'
unfolding leg_below
named_more {b} {w} {w'} {n} leg m e inside is = subst (λ (k : ℕ). Named b k w') (sym (add-one n)) (record { at = λ l h. at l (m.at l h) })
  where
    named : (l : ℕ) (t u : Bool) → eqb (leg_link b n) l ≡ u → leg_link b n < length w → get_or w l 0 ≡ leg_below b n 0 l
        → get_or (cond t (set w (leg_link b n) (suc n)) w) l 0 ≡ cond (t && u) (suc n) (leg_below b n 0 l)
    named l false u d i h = h
    named l true true d i h = ap (λ (k : ℕ). get_or (set w (leg_link b n) (suc n)) k 0) (sym (eqb-true (leg_link b n) l d)) ∙ get_or-set_same w (leg_link b n) (suc n) 0 i
    named l true false d i h = get_or-set_other w (leg_link b n) l (suc n) 0 (λ q. eqb-false (leg_link b n) l d (sym q)) ∙ h

    at : (l : ℕ) → get_or w l 0 ≡ leg_below b n 0 l → get_or w' l 0 ≡ leg_below b (suc n) 0 l
    at l h =
        ap (λ (v : List ℕ). get_or v l 0) is
        ∙ ap (λ (j : ℕ). get_or (cond (eqb leg.parent 0) (set w leg.link_idx j) w) l 0) (add-one n)
        ∙ ap (λ (p : ℕ). get_or (cond (eqb p 0) (set w leg.link_idx (suc n)) w) l 0) (leg_parent_lem b n leg e)
        ∙ ap (λ (k : ℕ). get_or (cond (eqb (leg_parent b n) 0) (set w k (suc n)) w) l 0) (leg_link_lem b n leg e)
        ∙ named l (eqb (leg_parent b n) 0) (eqb (leg_link b n) l) refl (subst (λ (k : ℕ). k < length w) (leg_link_lem b n leg e) inside) h

-- ---- the search

search_as : (b : List ℕ) (l n : ℕ) → n ≡ leg_below b (legs b) 0 l → search_of n ≡ leg_search b 0 l
unfolding leg_search
search_as b l n e = ap search_of e

pub start_missing : (b marks : List ℕ) (l : ℕ) → Started b marks → l < links b → get_or marks (links b + l) 0 ≡ 0 → None ≡ leg_search b 0 l
start_missing b marks l s h e = search_as b l 0 (sym e ∙ s.starts l h)

pub start_found : (b marks : List ℕ) (l n : ℕ) → Started b marks → l < links b → get_or marks (links b + l) 0 ≡ n → (n ≡ 0 → ⊥) → Some n ≡ leg_search b 0 l
start_found b marks l zero s h e some = absurd (some refl)
start_found b marks l (suc n) s h e some = search_as b l (suc n) (sym e ∙ s.starts l h)
