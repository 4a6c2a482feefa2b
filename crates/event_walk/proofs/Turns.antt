-- The turns of the walk: what each is, that the heads stay within, and that a turn takes one of those that are left.
use mathlib.Core.Path.{◌≡◌, refl, sym, ap, ◌∙◌}
use mathlib.Core.Logic.{◌⊎◌, inl, inr}
use mathlib.Core.Bool.{Bool, true, false, not, ◌&&◌, cond, true≢false}
use mathlib.Core.List.{[], ◌∷◌}
use Prim.Native.Nat.{ℕ, zero, suc, ◌-◌, ◌<◌}
use native.Mathlib.Nat.{eq-or-lt_of_le}
use native.Mathlib.Omega.{arith}
use borrow.Author.Tests.{lt-ltb, le-ltb, eq-eqb, ne_eqb}
use lib.Dec.{eqb}
use lib.Ieee.{Float, binary64, add, lt, le}
use Rattle.floats.specs.Floats.{Size, smaller}
use Rattle.floats.proofs.Order.{lt_asym, le_lt_trans, add_grows}
use Rattle.net_node.specs.declared.EstType.TheVariants.{Arrive, Clear}
use Rattle.event_formula.specs.Event.{event_offset, clears, passing_at}
use Rattle.event_walk.specs.declared.Heads.{Heads}
use Rattle.event_walk.specs.Course.{Course, Walkable}
use Rattle.event_walk.specs.Search.{point_with}
use Rattle.event_walk.specs.Walk.{offset_next, in_range, clears_next, emits, turned, turn, passed_as, passed_next, walk, turns_left, passed_from, Within}
use Rattle.event_walk.proofs.Searches.{size_number}

abbrev pub heads : ℕ → ℕ → ℕ → Heads
heads i b f = record { i = i; pt_idx_back = b; pt_idx_front = f }

-- ---- the definition's turn

pub walk_past : (n : ℕ) (c : Course) (h : Heads) → (h.i < c.samples → ⊥) → walk n c h ≡ []
unfolding walk
walk_past zero c h p = refl
walk_past (suc n) c h p = rw (le-ltb h.i c.samples (omega arith))

pub passed_past : (c : Course) (h : Heads) → (h.i < c.samples → ⊥) → passed_from c h ≡ []
unfolding passed_from
passed_past c h p = walk_past (turns_left c h) c h p

module _ (c : Course) (h : Heads) where
  pub walk_turn : (n : ℕ) (g : Heads) (e : Bool) → h.i < c.samples → emits c h ≡ e → turn c h ≡ g → walk (suc n) c h ≡ cond e (passed_next c h ∷ walk n c g) (walk n c g)
  unfolding walk
  walk_turn n g e l p q = rw (lt-ltb h.i c.samples l, p, q)

  pub passed_turn : (g : Heads) (e : Bool) → h.i < c.samples → emits c h ≡ e → turn c h ≡ g → turns_left c h ≡ suc (turns_left c g) → passed_from c h ≡ cond e (passed_next c h ∷ passed_from c g) (passed_from c g)
  unfolding passed_from
  passed_turn g e l p q t = ap (λ (n : ℕ). walk n c h) t ∙ walk_turn (turns_left c g) g e l p q

  pub turn_is : (a b : Bool) → in_range c h ≡ a → clears_next c h ≡ b → turn c h ≡ turned h a b
  unfolding turn
  turn_is a b p q = ap (λ (x : Bool). turned h x (clears_next c h)) p ∙ ap (turned h a) q

  pub emits_is : (a b z : Bool) → in_range c h ≡ a → clears_next c h ≡ b → eqb h.pt_idx_back 0 ≡ z → emits c h ≡ (a && not (b && z))
  unfolding emits
  emits_is a b z p q r = rw (p, q, r)

  -- the point that is passed, by its kind
  pub point_clear : (x : Float) → x ≡ offset_next c h → clears_next c h ≡ true → point_with (c.sample h.i) (c.sample (h.i - 1)) x h.pt_idx_back Clear ≡ passed_next c h
  unfolding point_with passed_next passed_as
  point_clear x e q =
      ap (λ (y : Float). point_with (c.sample h.i) (c.sample (h.i - 1)) y h.pt_idx_back Clear) e
      ∙ sym (ap (λ (t : Bool). passed_as h t (offset_next c h) (passing_at (c.sample h.i) (c.sample (h.i - 1)) (offset_next c h))) q)

  pub point_arrive : (x : Float) → x ≡ offset_next c h → clears_next c h ≡ false → point_with (c.sample h.i) (c.sample (h.i - 1)) x h.pt_idx_front Arrive ≡ passed_next c h
  unfolding point_with passed_next passed_as
  point_arrive x e q =
      ap (λ (y : Float). point_with (c.sample h.i) (c.sample (h.i - 1)) y h.pt_idx_front Arrive) e
      ∙ sym (ap (λ (t : Bool). passed_as h t (offset_next c h) (passing_at (c.sample h.i) (c.sample (h.i - 1)) (offset_next c h))) q)

-- ---- where the heads stand

never_below : (a : Float) → lt a a ≡ true → ⊥
never_below a e = true≢false (sym e ∙ lt_asym a a e)

module _ {c : Course} (w : Walkable c) {h : Heads} (v : Within c h) where
  pub front_size : Size (c.offset h.pt_idx_front)
  front_size = w.rises.sized h.pt_idx_front v.inside

  pub back_size : Size (c.offset h.pt_idx_back)
  back_size = w.rises.sized h.pt_idx_back (omega (arith, v.order, v.inside))

  -- a back point that is cleared first lies before the front point
  pub clear_before : clears_next c h ≡ true → h.pt_idx_back < h.pt_idx_front
  unfolding clears_next clears
  clear_before e = go (eq-or-lt_of_le v.order)
    where
      F : Float
      F = c.offset h.pt_idx_front

      B : Float
      B = c.offset h.pt_idx_back

      below : lt B F ≡ true
      below = le_lt_trans B (add binary64 B c.length) F (add_grows B c.length back_size w.train) e

      go : (h.pt_idx_back ≡ h.pt_idx_front) ⊎ (h.pt_idx_back < h.pt_idx_front) → h.pt_idx_back < h.pt_idx_front
      go (inl d) = absurd (never_below F (ap (λ (k : ℕ). lt (c.offset k) F) (sym d) ∙ below))
      go (inr l) = l

  -- the offset of the next event, by its kind
  pub next_arrive : clears_next c h ≡ false → offset_next c h ≡ c.offset h.pt_idx_front
  unfolding clears_next clears offset_next event_offset smaller
  next_arrive e = rw (size_number (c.offset h.pt_idx_front) front_size, e)

  pub next_clear : clears_next c h ≡ true → offset_next c h ≡ add binary64 (c.offset h.pt_idx_back) c.length
  unfolding clears_next clears offset_next event_offset smaller
  next_clear e = rw (size_number (c.offset h.pt_idx_front) front_size, e)

  -- a front point that a sample reaches is not the last
  pub arrive_before : h.i < c.samples → in_range c h ≡ true → clears_next c h ≡ false → suc h.pt_idx_front < c.points
  unfolding in_range
  arrive_before l r e = go (eq-or-lt_of_le v.inside)
    where
      F : Float
      F = c.offset h.pt_idx_front

      reached : le F (c.sample h.i).offset ≡ true
      reached = ap (λ (x : Float). le x (c.sample h.i).offset) (sym (next_arrive e)) ∙ r

      below : lt F (c.offset (c.points - 1)) ≡ true
      below = le_lt_trans F (c.sample h.i).offset (c.offset (c.points - 1)) reached (w.before_last h.i l)

      go : (suc h.pt_idx_front ≡ c.points) ⊎ (suc h.pt_idx_front < c.points) → suc h.pt_idx_front < c.points
      go (inl d) = let z : c.points - 1 ≡ h.pt_idx_front = omega arith in absurd (never_below F (ap (λ (k : ℕ). lt F (c.offset k)) (sym z) ∙ below))
      go (inr m) = m

  pub within_on : (i : ℕ) → 0 < i → Within c (heads i h.pt_idx_back h.pt_idx_front)
  within_on i p = record { after = p; order = v.order; inside = v.inside }

  pub within_clear : clears_next c h ≡ true → Within c (heads h.i (suc h.pt_idx_back) h.pt_idx_front)
  within_clear e = record { after = v.after; order = clear_before e; inside = v.inside }

  pub within_arrive : h.i < c.samples → in_range c h ≡ true → clears_next c h ≡ false → Within c (heads h.i h.pt_idx_back (suc h.pt_idx_front))
  within_arrive l r e = record { after = v.after; order = omega (arith, v.order); inside = arrive_before l r e }

  -- ---- each turn of the walk

  module _ (l : h.i < c.samples) where
    pub left_on : turns_left c h ≡ suc (turns_left c (heads (suc h.i) h.pt_idx_back h.pt_idx_front))
    unfolding turns_left
    left_on = omega arith

    pub left_clear : turns_left c h ≡ suc (turns_left c (heads h.i (suc h.pt_idx_back) h.pt_idx_front))
    unfolding turns_left
    left_clear = omega (arith, v.order, v.inside)

    pub left_arrive : turns_left c h ≡ suc (turns_left c (heads h.i h.pt_idx_back (suc h.pt_idx_front)))
    unfolding turns_left
    left_arrive = omega (arith, v.inside)

    pub passed_on : in_range c h ≡ false → passed_from c h ≡ passed_from c (heads (suc h.i) h.pt_idx_back h.pt_idx_front)
    unfolding turned
    passed_on r = passed_turn c h (heads (suc h.i) h.pt_idx_back h.pt_idx_front) false l (emits_is c h false (clears_next c h) (eqb h.pt_idx_back 0) r refl refl) (turn_is c h false (clears_next c h) r refl) left_on

    module _ (r : in_range c h ≡ true) where
      pub passed_unseen : clears_next c h ≡ true → h.pt_idx_back ≡ 0 → passed_from c h ≡ passed_from c (heads h.i (suc h.pt_idx_back) h.pt_idx_front)
      unfolding turned
      passed_unseen e z =
          passed_turn c h (heads h.i (suc h.pt_idx_back) h.pt_idx_front) false l
          (emits_is c h true true true r e (eq-eqb h.pt_idx_back 0 z)) (turn_is c h true true r e) left_clear

      pub passed_clear : clears_next c h ≡ true → (h.pt_idx_back ≡ 0 → ⊥) → passed_from c h ≡ passed_next c h ∷ passed_from c (heads h.i (suc h.pt_idx_back) h.pt_idx_front)
      unfolding turned
      passed_clear e z =
          passed_turn c h (heads h.i (suc h.pt_idx_back) h.pt_idx_front) true l
          (emits_is c h true true false r e (ne_eqb h.pt_idx_back 0 z)) (turn_is c h true true r e) left_clear

      pub passed_arrive : clears_next c h ≡ false → passed_from c h ≡ passed_next c h ∷ passed_from c (heads h.i h.pt_idx_back (suc h.pt_idx_front))
      unfolding turned
      passed_arrive e =
          passed_turn c h (heads h.i h.pt_idx_back (suc h.pt_idx_front)) true l
          (emits_is c h true false (eqb h.pt_idx_back 0) r e refl) (turn_is c h true false r e) left_arrive
