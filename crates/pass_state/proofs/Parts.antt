-- A turn of either pass out of its parts: a relink, a strand, and what becomes of the node that it ends on.
use mathlib.Core.Path.{◌≡◌, refl, ap, ◌∙◌}
use mathlib.Core.Bool.{Bool, true, false}
use mathlib.Core.List.{List}
use Prim.Native.Nat.{ℕ, ◌+◌, ◌-◌, ◌<◌}
use native.Mathlib.Omega.{arith}
use lib.Ieee.{Float}
use Rattle.std.specs.Prelude.{Option, Some, None}
use Rattle.laws.specs.Answer.{Answer, refused, given, and_then}
use Rattle.pass_rules.specs.Net.{asserting, Pass}
use Rattle.pass_state.specs.declared.Stand.{Stand}
use Rattle.pass_state.specs.Held.{PassSlices, slices, left, PassIn, Working, Standing, Gives, PassAs, StandsAs, FindsBy}
use Rattle.pass_state.proofs.Kept.{works, pass_after}

pub record Parts : Type 1 where
  pub A : Type 0
  pub form : ℕ → ℕ → Pass → A
  pub relink : Pass → Answer A
  pub strand : A → Answer A
  pub settle : A → Answer Pass
  pub turn : Pass → Answer Pass
  pub is : (p : Pass) → turn p ≡ and_then (relink p) (λ (a : A). and_then (strand a) settle)

module _ (w : Parts) {backward : Bool} {n : ℕ} {held : PassSlices} {count : ℕ} (o : Working backward n held count (n - 2)) (curr : ℕ) {gs : List Float} {vs : List ℕ} where
  -- the relink fails
  pub turn_endless :
      ((p : Pass) (begun : List ℕ) (qs : List Float) (ms : List ℕ) (count most : ℕ) → PassIn begun backward n (slices held.floats held.numbers held.flags qs ms) count most p
      → FindsBy begun (w.relink p) (w.form curr) backward n (slices gs vs held.flags qs ms) count most (left p.done n + 1) None) → (p : Pass) (begun : List ℕ) → PassIn begun backward n held count (n - 2) p → PassAs begun (w.turn p) backward n (slices gs vs held.flags held.times held.nodes) (n - 1) (left p.done n) None
  turn_endless a p begun v = record { told = w.is p ∙ ap (λ (x : Answer w.A). and_then x (λ (b : w.A). and_then (w.strand b) w.settle)) (a p begun held.times held.nodes count (n - 2) v) }

  module _ {found : ℕ}
      (a : (p : Pass) (begun : List ℕ) (qs : List Float) (ms : List ℕ) (count most : ℕ) → PassIn begun backward n (slices held.floats held.numbers held.flags qs ms) count most p
      → FindsBy begun (w.relink p) (w.form curr) backward n (slices gs vs held.flags qs ms) count most (left p.done n + 1) (Some found)) where
    found_by : (p : Pass) (begun : List ℕ) → PassIn begun backward n held count (n - 2) p
        → Gives begun (w.relink p) (w.form curr found) backward n (slices gs vs held.flags held.times held.nodes) count (n - 2) (left p.done n + 1) × (found < n)
    found_by p begun v = a p begun held.times held.nodes count (n - 2) v

    pub found_stands : curr < n → Standing backward n (slices gs vs held.flags held.times held.nodes) (record { curr = curr; ahead = found; count = count })
    found_stands h = record { working = works (found_by o.pass o.begun o.holds).0.holds; curr = h; ahead = (found_by o.pass o.begun o.holds).1 }

    turn_then : (p : Pass) (begun : List ℕ) (v : PassIn begun backward n held count (n - 2) p) → w.turn p ≡ and_then (w.strand (w.form curr found (found_by p begun v).0.pass)) w.settle
    turn_then p begun v = w.is p ∙ ap (λ (x : Answer w.A). and_then x (λ (b : w.A). and_then (w.strand b) w.settle)) (found_by p begun v).0.is

    module _ {held₁ : PassSlices} where
      -- the strand fails
      pub turn_falls :
          ((p : Pass) (begun : List ℕ) → PassIn begun backward n (slices gs vs held.flags held.times held.nodes) count (n - 2) p
          → StandsAs begun (w.strand (w.form curr found p)) w.form backward n held₁ (n - 2) (left p.done n) None) → (p : Pass) (begun : List ℕ) → PassIn begun backward n held count (n - 2) p → PassAs begun (w.turn p) backward n held₁ (n - 1) (left p.done n) None
      turn_falls b p begun v = let g = (found_by p begun v).0 in record { told = turn_then p begun v ∙ ap (λ (x : Answer w.A). and_then x w.settle) (b g.pass begun g.holds).told }

      module _ {at : Stand}
          (b : (p : Pass) (begun : List ℕ) → PassIn begun backward n (slices gs vs held.flags held.times held.nodes) count (n - 2) p
          → StandsAs begun (w.strand (w.form curr found p)) w.form backward n held₁ (n - 2) (left p.done n) (Some at)) where
        pub stood : Standing backward n held₁ at
        stood =
            let g = (found_by o.pass o.begun o.holds).0 in
            let h = (b g.pass o.begun g.holds).told in
            record { working = works h.0.holds; curr = h.1.0; ahead = h.1.1 }

        -- the turn is over
        pub turn_ends : {held₂ : PassSlices} (t : Option ℕ)
            → ((p : Pass) (begun : List ℕ) → PassIn begun backward n held₁ at.count (n - 2) p → PassAs begun (w.settle (w.form at.curr at.ahead p)) backward n held₂ (n - 1) (left p.done n + 1) t)
            → (p : Pass) (begun : List ℕ) → PassIn begun backward n held count (n - 2) p → PassAs begun (w.turn p) backward n held₂ (n - 1) (left p.done n) t
        turn_ends t c p begun v =
            let g = (found_by p begun v).0 in
            let h = (b g.pass begun g.holds).told.0 in
            pass_after (left p.done n) (turn_then p begun v ∙ ap (λ (x : Answer w.A). and_then x w.settle) h.is) (omega (arith, h.fewer, g.fewer)) (c h.pass begun h.holds)

-- a turn asserts both things before it relinks
pub then_inside : {A B : Type 0} (a b : Bool) (w : Answer ℕ) (f : ℕ → A) (g : A → Answer B)
    → asserting a (asserting b (and_then w (λ (k : ℕ). g (f k)))) ≡ and_then (asserting a (asserting b (and_then w (λ (k : ℕ). given (f k))))) g
then_inside false b w f g = refl
then_inside true false w f g = refl
then_inside true true (refused m) f g = refl
then_inside true true (given k) f g = refl
