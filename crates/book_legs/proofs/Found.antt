-- The leg with a parent and a link, where there is one; and what row 5 says of the links behind a link.
use mathlib.Core.Path.{◌≡◌, refl, sym, ap, ◌∙◌}
use mathlib.Core.Bool.{Bool, true, false, not, ◌&&◌, ◌||◌, cond}
use mathlib.Core.List.{List}
use Prim.Native.Nat.{ℕ, zero, suc, ◌≤◌, ◌<◌}
use native.Mathlib.Omega.{arith}
use borrow.Author.Tests.{eqb-true, eqb-false, eq-eqb, ltb-false, leb-false}
use lib.Dec.{eqb, ltb}
use Rattle.laws.specs.Below.{some_below}
use Rattle.laws.proofs.Below.{none_at, none_left, none_right}
use Rattle.book_format.specs.Format.{links, origins, destinations, legs, link_length, link_next, link_next_alt, link_prev, link_prev_alt}
use Rattle.book_format.specs.Format.{origin_link, destination_link, leg_link, leg_parent}
use Rattle.book_format.specs.Rows.{no_such_link, link_zero, bad_link, bad_leg_index, row5}
use Rattle.book_format.specs.Chains.{leg_below}

-- ---- a leg that is found

-- row i of the first n legs has this parent and link
pub record LegOf (b : List ℕ) (n p l i : ℕ) : Type 0 where
  pub within : i < n
  pub parent : leg_parent b i ≡ p
  pub link : leg_link b i ≡ l

pub leg_found : (b : List ℕ) (n p l i : ℕ) → leg_below b n p l ≡ suc i → LegOf b n p l i
unfolding leg_below
leg_found b zero p l i e = absurd (omega arith)
leg_found b (suc n) p l i e = go (eqb (leg_parent b n) p) (eqb (leg_link b n) l) refl refl e (leg_found b n p l i)
  where
    later : LegOf b n p l i → LegOf b (suc n) p l i
    later o = record { within = omega (arith, o.within); parent = o.parent; link = o.link }

    go : (x y : Bool) → eqb (leg_parent b n) p ≡ x → eqb (leg_link b n) l ≡ y
        → cond (x && y) (suc n) (leg_below b n p l) ≡ suc i → (leg_below b n p l ≡ suc i → LegOf b n p l i) → LegOf b (suc n) p l i
    go true true r s q ih =
        let d : n ≡ i = omega arith in
        record {
          within = omega arith;
          parent = ap (leg_parent b) (sym d) ∙ eqb-true (leg_parent b n) p r;
          link = ap (leg_link b) (sym d) ∙ eqb-true (leg_link b n) l s;
        }
    go true false r s q ih = later (ih q)
    go false y r s q ih = later (ih q)

-- ---- row 5: "names nothing", "next = next alternative, nonzero"

module _ (b : List ℕ) (h : row5 b ≡ false) (l : ℕ) (g : l < links b) where
  good_link : bad_link b l ≡ false
  unfolding row5
  good_link =
      let a = not (link_zero b) in
      let c = some_below (links b) (bad_link b) in
      let d = some_below (origins b) (λ i. no_such_link b (origin_link b i)) in
      let e = some_below (destinations b) (λ i. no_such_link b (destination_link b i)) in
      let f = some_below (legs b) (bad_leg_index b) in
      none_at (links b) (bad_link b) l g (none_right a c (none_left (a || c) d (none_left ((a || c) || d) e (none_left (((a || c) || d) || e) f h))))

  abbrev forked : Bool
  forked = eqb (link_next b l) (link_next_alt b l) && ltb 0 (link_next b l)

  abbrev short : Bool
  short = ltb 0 l && eqb (link_length b l) 0

  abbrev nexts : Bool
  nexts = no_such_link b (link_next b l) || no_such_link b (link_next_alt b l)

  nexts_named : nexts ≡ false
  unfolding bad_link
  nexts_named =
      let p = no_such_link b (link_prev b l) in
      let q = no_such_link b (link_prev_alt b l) in
      none_left nexts p (none_left (nexts || p) q (none_left ((nexts || p) || q) short (none_left (((nexts || p) || q) || short) forked good_link)))

  pub next_named : link_next b l < links b
  next_named = leb-false (links b) (link_next b l) (none_left (no_such_link b (link_next b l)) (no_such_link b (link_next_alt b l)) nexts_named)

  pub next_alt_named : link_next_alt b l < links b
  next_alt_named = leb-false (links b) (link_next_alt b l) (none_right (no_such_link b (link_next b l)) (no_such_link b (link_next_alt b l)) nexts_named)

  -- a next that is its own alternative is none
  pub next_alone : link_next b l ≡ link_next_alt b l → link_next b l ≡ 0
  unfolding bad_link
  next_alone e =
      let w = ((nexts || no_such_link b (link_prev b l)) || no_such_link b (link_prev_alt b l)) || short in
      let x : forked ≡ false = none_right w forked good_link in
      let t = sym (ap (λ (t : Bool). t && ltb 0 (link_next b l)) (eq-eqb (link_next b l) (link_next_alt b l) e)) in
      let y : ltb 0 (link_next b l) ≡ false = t ∙ x in
      let z : link_next b l ≤ 0 = ltb-false 0 (link_next b l) y in
      omega arith

  -- a next that is a link is not its own alternative
  pub next_other : eqb (link_next b l) 0 ≡ false → link_next b l ≡ link_next_alt b l → ⊥
  next_other n e = eqb-false (link_next b l) 0 n (next_alone e)
