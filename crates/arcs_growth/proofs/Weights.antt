-- The noted arcs against the bases: each base that has a next, or is a finished run's event, weighs what its arc does.
-- A step changes the weight of one base at most.
use mathlib.Core.Path.{◌≡◌, refl, sym, ap, ◌∙◌}
use mathlib.Core.Bool.{Bool, true, false}
use mathlib.Core.List.{List}
use Prim.Native.Nat.{ℕ, suc, ◌+◌, ◌<◌}
use native.Mathlib.Omega.{arith}
use borrow.Author.Tests.{eq-eqb, ne_eqb}
use lib.Dec.{eqb}
use lib.Ieee.{binary64, of_bits}
use Rattle.net_node.specs.declared.EstTime.{EstTime}
use Rattle.laws.specs.Below.{sum_below}
use Rattle.grow_rules.specs.Run.{Arc, member_of}
use Rattle.arcs_growth.proofs.Sums.{sum_same, sum_suc, sum_point}
use Rattle.arcs_growth.proofs.Labels.{base_role, Labels, Extends}

-- the arc of a base that has a next, and of a finished run's event
unfoldable pub arc_there : Labels → (ℕ → EstTime) → ℕ → Arc
arc_there L node i = record {
  from = L.owner i;
  to = L.goal (node i).idx_next;
  time = (node i).time_to_next;
  distance = (node i).dist_to_next;
}

unfoldable pub arc_out : Labels → ℕ → Arc
arc_out L i = record { from = L.owner i; to = 0; time = of_bits binary64 0; distance = of_bits binary64 0 }

-- by whether it is a base, has no next, and ends a run
abbrev pub weigh_as : Bool → Bool → Bool → ℕ → ℕ → ℕ
weigh_as false empty ended x y = 0
weigh_as true false ended x y = x
weigh_as true true true x y = y
weigh_as true true false x y = 0

unfoldable pub weigh : Labels → (ℕ → EstTime) → List ℕ → (Arc → ℕ) → ℕ → ℕ
unfolding arc_there arc_out
weigh L node ends w i = weigh_as (base_role (L.role i)) (eqb (node i).idx_next 0) (member_of ends i)
    (w (arc_there L node i)) (w (arc_out L i))

module _ (L : Labels) (node : ℕ → EstTime) (ends : List ℕ) (w : Arc → ℕ) (i : ℕ) where
  pub weigh_as_lem : (a b c : Bool) → base_role (L.role i) ≡ a → eqb (node i).idx_next 0 ≡ b → member_of ends i ≡ c
      → weigh L node ends w i ≡ weigh_as a b c (w (arc_there L node i)) (w (arc_out L i))
  unfolding weigh
  weigh_as_lem a b c p q r =
      ap (λ (t : Bool). weigh_as t (eqb (node i).idx_next 0) (member_of ends i) (w (arc_there L node i))
      (w (arc_out L i))) p
      ∙ ap (λ (t : Bool). weigh_as a t (member_of ends i) (w (arc_there L node i)) (w (arc_out L i))) q
      ∙ ap (λ (t : Bool). weigh_as a b t (w (arc_there L node i)) (w (arc_out L i))) r

  pub weigh_none : base_role (L.role i) ≡ false → weigh L node ends w i ≡ 0
  weigh_none p = weigh_as_lem false _ _ p refl refl

  pub weigh_next : base_role (L.role i) ≡ true → 0 < (node i).idx_next → weigh L node ends w i ≡ w (arc_there L node i)
  weigh_next p h = weigh_as_lem true false _ p (ne_eqb (node i).idx_next 0 (λ (e : (node i).idx_next ≡ 0). omega arith))
      refl

  pub weigh_empty : base_role (L.role i) ≡ true → (node i).idx_next ≡ 0 → member_of ends i ≡ false
      → weigh L node ends w i ≡ 0
  weigh_empty p e q = weigh_as_lem true true false p (eq-eqb (node i).idx_next 0 e) q

  pub weigh_ended : base_role (L.role i) ≡ true → (node i).idx_next ≡ 0 → member_of ends i ≡ true
      → weigh L node ends w i ≡ w (arc_out L i)
  weigh_ended p e q = weigh_as_lem true true true p (eq-eqb (node i).idx_next 0 e) q

-- a node keeps its weight where next, time and distance stay
module _ {L M : Labels} {n : ℕ} (node after : ℕ → EstTime) (x : Extends L M n) (ends rest : List ℕ) (w : Arc → ℕ) where
  pub weigh_same : (i : ℕ) → i < n → (after i).idx_next ≡ (node i).idx_next
      → (after i).time_to_next ≡ (node i).time_to_next → (after i).dist_to_next ≡ (node i).dist_to_next
      → (base_role (L.role i) ≡ true → (node i).idx_next < n) → member_of rest i ≡ member_of ends i
      → weigh M after rest w i ≡ weigh L node ends w i
  unfolding weigh arc_there arc_out
  weigh_same i h p q r s m = go (base_role (L.role i)) refl
    where
      there : (node i).idx_next < n → arc_there M after i ≡ arc_there L node i
      there l = λ k. record {
        from = x.owner i h k;
        to = (ap M.goal p ∙ x.goal (node i).idx_next l) k;
        time = q k;
        distance = r k;
      }

      out : arc_out M i ≡ arc_out L i
      out = λ k. record { from = x.owner i h k; to = 0; time = of_bits binary64 0; distance = of_bits binary64 0 }

      go : (t : Bool) → base_role (L.role i) ≡ t → weigh M after rest w i ≡ weigh L node ends w i
      go false e = weigh_none M after rest w i (ap base_role (x.role i h) ∙ e) ∙ sym (weigh_none L node ends w i e)
      go true e =
          weigh_as_lem M after rest w i true (eqb (node i).idx_next 0) (member_of ends i)
          (ap base_role (x.role i h) ∙ e) (ap (λ (k : ℕ). eqb k 0) p) m
          ∙ ap (λ (a : Arc). weigh_as true (eqb (node i).idx_next 0) (member_of ends i) (w a) (w (arc_out M i)))
          (there (s e))
          ∙ ap (λ (a : Arc). weigh_as true (eqb (node i).idx_next 0) (member_of ends i) (w (arc_there L node i)) (w a))
          out
          ∙ sym (weigh_as_lem L node ends w i true _ _ e refl refl)

  -- one more node that weighs nothing, and base b now weighs x more
  pub sum_attached : (b c : ℕ) → b < n
      → ((i : ℕ) → i < n → (i ≡ b → ⊥) → weigh M after rest w i ≡ weigh L node ends w i)
      → weigh M after rest w b ≡ weigh L node ends w b + c
      → weigh M after rest w n ≡ 0
      → sum_below (suc n) (weigh M after rest w) ≡ sum_below n (weigh L node ends w) + c
  sum_attached b c h o e z =
      let a = sum_point n (weigh L node ends w) (weigh M after rest w) b c h o e in
      let d = sum_suc n (weigh M after rest w) in
      omega arith

  -- one more node that weighs nothing
  pub sum_alternated : ((i : ℕ) → i < n → weigh M after rest w i ≡ weigh L node ends w i) → weigh M after rest w n ≡ 0
      → sum_below (suc n) (weigh M after rest w) ≡ sum_below n (weigh L node ends w)
  sum_alternated o z =
      let a = sum_same n (weigh L node ends w) (weigh M after rest w) o in
      let d = sum_suc n (weigh M after rest w) in
      omega arith
