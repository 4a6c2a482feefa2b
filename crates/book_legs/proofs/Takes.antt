-- What is taken of the leg search: a found leg is one of the book's, and its cells say where its samples stand.
use mathlib.Core.Path.{◌≡◌, sym, ap, ◌∙◌, subst}
use mathlib.Core.Bool.{Bool, true, false, ◌&&◌, cond}
use mathlib.Core.List.{List}
use Prim.Native.Nat.{ℕ, zero, suc, ◌+◌, ◌-◌, ◌*◌, ◌≤◌}
use native.Mathlib.Nat.{le_refl}
use native.Mathlib.Omega.{arith}
use lib.Dec.{eqb}
use lib.ListN.{get_or}
use Rattle.book_format.specs.Format.{legs, leg_link, leg_parent, first_sample}
use Rattle.book_format.specs.Chains.{leg_below, Chained}
use Rattle.book_legs.specs.declared.TakenLeg.{TakenLeg}
use Rattle.std.proofs.Common.{Option, Result}
use Rattle.refusals.specs.declared.Refusal.{Refusal}
use Rattle.book_legs.specs.Legs.{search_of, leg_search, taken_by, taken_leg, InCells}

below_most : (b : List ℕ) (n p l : ℕ) → leg_below b n p l ≤ n
unfolding leg_below
below_most b zero p l = le_refl 0
below_most b (suc n) p l = go (eqb (leg_parent b n) p && eqb (leg_link b n) l) (below_most b n p l)
  where
    go : (t : Bool) → leg_below b n p l ≤ n → cond t (suc n) (leg_below b n p l) ≤ suc n
    go true h = le_refl (suc n)
    go false h = omega arith

-- a leg that the search finds is one of the book's, so its unit is among the cells
pub search_in : {f : Option ℕ} (b : List ℕ) (p l n : ℕ) → f ≡ leg_search b p l → (legs b + 1) * 8 ≤ n → InCells n f
unfolding leg_search
search_in {f} b p l n e h = subst (InCells n) (sym e) (go (leg_below b (legs b) p l) (below_most b (legs b) p l))
  where
    go : (k : ℕ) → k ≤ legs b → InCells n (search_of k)
    go zero m = tt
    go (suc k) m = (omega arith, omega arith)

-- the cells of a leg say where its samples stand
pub leg_of : {t : TakenLeg} (b cells : List ℕ) (j : ℕ) → Chained b cells → j ≤ legs b → t ≡ record { number = j; first = get_or cells ((j - 1) * 8 + 2) 0; end = get_or cells (j * 8 + 2) 0 }
    → t ≡ record { number = j; first = first_sample b (j - 1); end = first_sample b j }
leg_of {t} b cells j c h q =
    let x : get_or cells ((j - 1) * 8 + 2) 0 ≡ first_sample b (j - 1) = c.ends (j - 1) (omega arith) in
    let y : get_or cells (j * 8 + 2) 0 ≡ first_sample b j = c.ends j h in
    q ∙ (λ i. record { number = j; first = x i; end = y i })

-- what is taken of the search for a parent and a link
pub taken_sought : {t : Result TakenLeg Refusal} (f : Option ℕ) (b : List ℕ) (p l : ℕ) → f ≡ leg_search b p l → (InCells ((legs b + 1) * 8) f → t ≡ taken_by b f) → t ≡ taken_leg b p l
unfolding taken_leg
taken_sought f b p l e h = h (search_in b p l ((legs b + 1) * 8) e (le_refl ((legs b + 1) * 8))) ∙ ap (taken_by b) e
