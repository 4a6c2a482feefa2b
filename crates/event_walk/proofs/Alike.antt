-- A walk looks at a course's samples and points below their counts alone: two courses that agree there have the same events.
use mathlib.Core.Path.{◌≡◌, refl, sym, ap, ◌∙◌, subst}
use mathlib.Core.Bool.{Bool, true, false, cond}
use mathlib.Core.List.{List, ◌∷◌}
use Prim.Native.Nat.{ℕ, zero, suc, ◌+◌, ◌-◌, ◌≤◌, ◌<◌}
use native.Mathlib.Omega.{arith}
use borrow.Author.Tests.{ltb-true, ltb-false}
use lib.Dec.{ltb, eqb}
use lib.Ieee.{Float, binary64, sub, le}
use Rattle.laws.specs.Below.{some_below}
use Rattle.laws.proofs.Below.{some_same}
use Rattle.event_formula.specs.Event.{event_offset, clears, passing_at}
use Rattle.book_format.specs.declared.Sample.{Sample}
use Rattle.event_walk.specs.declared.Heads.{Heads}
use Rattle.event_walk.specs.declared.PassedPoint.{PassedPoint}
use Rattle.event_walk.specs.Course.{Course, Walkable}
use Rattle.event_walk.specs.Walk.{first_beyond, start_back, start_front, start, offset_next, in_range, clears_next, emits, turned, passed_next, passed_as, walk, turns_left, passed_from, points_passed, reaches_last, Within}
use Rattle.event_walk.proofs.Turns.{heads, walk_past, walk_turn, turn_is, emits_is, within_on, within_clear, within_arrive}
use Rattle.event_walk.proofs.Starts.{within_start}

pub record Alike (c d : Course) : Type 0 where
  pub samples : c.samples ≡ d.samples
  pub points : c.points ≡ d.points
  pub length : c.length ≡ d.length
  pub sample : (i : ℕ) → i < c.samples → c.sample i ≡ d.sample i
  pub offset : (k : ℕ) → k < c.points → c.offset k ≡ d.offset k

-- ---- searches

first_alike : (f g : ℕ → Float) (x : Float) (k n : ℕ) → ((i : ℕ) → k ≤ i → i < k + n → f i ≡ g i) → first_beyond f x k n ≡ first_beyond g x k n
unfolding first_beyond
first_alike f g x k zero e = refl
first_alike f g x k (suc n) e =
    ap (λ (y : Float). cond (le y x) (first_beyond f x (suc k) n) k) (e k (omega arith) (omega arith))
    ∙ ap (λ (m : ℕ). cond (le (g k) x) m k) (first_alike f g x (suc k) n (λ i h l. e i (omega arith) (omega arith)))

module _ {c d : Course} (a : Alike c d) where
  pub reaches_alike : 0 < c.points → reaches_last c ≡ reaches_last d
  unfolding reaches_last
  reaches_alike h =
      some_same c.samples (λ i. le (c.offset (c.points - 1)) (c.sample i).offset) (λ i. le (d.offset (d.points - 1)) (d.sample i).offset) each
      ∙ ap (λ (n : ℕ). some_below n (λ i. le (d.offset (d.points - 1)) (d.sample i).offset)) a.samples
    where
      each : (i : ℕ) → i < c.samples → le (c.offset (c.points - 1)) (c.sample i).offset ≡ le (d.offset (d.points - 1)) (d.sample i).offset
      each i l =
          ap (λ (x : Float). le x (c.sample i).offset) (a.offset (c.points - 1) (omega arith) ∙ ap (λ (n : ℕ). d.offset (n - 1)) a.points)
          ∙ ap (λ (s : Sample). le (d.offset (d.points - 1)) s.offset) (a.sample i l)

  module _ (w : Walkable c) where
    -- ---- where the walk begins

    first_sample_lem : c.sample 0 ≡ d.sample 0
    first_sample_lem = a.sample 0 w.some

    back_alike : start_back c ≡ start_back d
    unfolding start_back
    back_alike =
        first_alike c.offset d.offset (sub binary64 (c.sample 0).offset c.length) 0 c.points (λ k h l. a.offset k (omega arith))
        ∙ ap (λ (s : Sample). first_beyond d.offset (sub binary64 s.offset c.length) 0 c.points) first_sample_lem
        ∙ ap (λ (x : Float). first_beyond d.offset (sub binary64 (d.sample 0).offset x) 0 c.points) a.length
        ∙ ap (first_beyond d.offset (sub binary64 (d.sample 0).offset d.length) 0) a.points

    back_inside : start_back c ≤ c.points
    unfolding start
    back_inside = omega (arith, (within_start w).order, (within_start w).inside)

    front_alike : start_front c ≡ start_front d
    unfolding start_front
    front_alike =
        first_alike c.offset d.offset (c.sample 0).offset (start_back c) (c.points - start_back c) (λ k h l. a.offset k (omega (arith, back_inside)))
        ∙ ap (λ (s : Sample). first_beyond d.offset s.offset (start_back c) (c.points - start_back c)) first_sample_lem
        ∙ ap (λ (b : ℕ). first_beyond d.offset (d.sample 0).offset b (c.points - b)) back_alike
        ∙ ap (λ (n : ℕ). first_beyond d.offset (d.sample 0).offset (start_back d) (n - start_back d)) a.points

    start_alike : start c ≡ start d
    unfolding start
    start_alike = ap (λ (b : ℕ). heads 1 b (start_front c)) back_alike ∙ ap (heads 1 (start_back d)) front_alike

    -- ---- a turn

    module _ {h : Heads} (v : Within c h) where
      front_same : c.offset h.pt_idx_front ≡ d.offset h.pt_idx_front
      front_same = a.offset h.pt_idx_front v.inside

      back_same : c.offset h.pt_idx_back ≡ d.offset h.pt_idx_back
      back_same = a.offset h.pt_idx_back (omega (arith, v.order, v.inside))

      next_same : offset_next c h ≡ offset_next d h
      unfolding offset_next
      next_same =
          ap (λ (x : Float). event_offset x (c.offset h.pt_idx_back) c.length) front_same
          ∙ ap (λ (x : Float). event_offset (d.offset h.pt_idx_front) x c.length) back_same
          ∙ ap (event_offset (d.offset h.pt_idx_front) (d.offset h.pt_idx_back)) a.length

      clears_same : clears_next c h ≡ clears_next d h
      unfolding clears_next
      clears_same =
          ap (λ (x : Float). clears x (c.offset h.pt_idx_back) c.length) front_same
          ∙ ap (λ (x : Float). clears (d.offset h.pt_idx_front) x c.length) back_same
          ∙ ap (clears (d.offset h.pt_idx_front) (d.offset h.pt_idx_back)) a.length

      range_same : h.i < c.samples → in_range c h ≡ in_range d h
      unfolding in_range
      range_same l = ap (λ (x : Float). le x (c.sample h.i).offset) next_same ∙ ap (λ (s : Sample). le (offset_next d h) s.offset) (a.sample h.i l)

      passed_same : h.i < c.samples → passed_next c h ≡ passed_next d h
      unfolding passed_next
      passed_same l =
          ap (λ (t : Bool). passed_as h t (offset_next c h) (passing_at (c.sample h.i) (c.sample (h.i - 1)) (offset_next c h))) clears_same
          ∙ ap (λ (x : Float). passed_as h (clears_next d h) x (passing_at (c.sample h.i) (c.sample (h.i - 1)) x)) next_same
          ∙ ap (λ (s : Sample). passed_as h (clears_next d h) (offset_next d h) (passing_at s (c.sample (h.i - 1)) (offset_next d h))) (a.sample h.i l)
          ∙ ap (λ (s : Sample). passed_as h (clears_next d h) (offset_next d h) (passing_at (d.sample h.i) s (offset_next d h))) (a.sample (h.i - 1) (omega arith))

      turned_within : h.i < c.samples → (x y : Bool) → in_range c h ≡ x → clears_next c h ≡ y → Within c (turned h x y)
      unfolding turned
      turned_within l true true p q = within_clear w v q
      turned_within l true false p q = within_arrive w v l p q
      turned_within l false y p q = within_on w v (suc h.i) (omega arith)

    -- ---- the walk

    walk_alike : (n : ℕ) (h : Heads) → Within c h → walk n c h ≡ walk n d h
    unfolding walk
    walk_alike zero h v = refl
    walk_alike (suc n) h v = go (walk_alike n) (ltb h.i c.samples) refl
      where
        later : ((g : Heads) → Within c g → walk n c g ≡ walk n d g) → h.i < c.samples → walk (suc n) c h ≡ walk (suc n) d h
        later f l =
            let x = in_range c h in
            let y = clears_next c h in
            let z = eqb h.pt_idx_back 0 in
            let g = turned h x y in
            let m = f g (turned_within v l x y refl refl) in
            walk_turn c h n g (emits c h) l refl (turn_is c h x y refl refl)
            ∙ ap (λ (t : Bool). cond t (passed_next c h ∷ walk n c g) (walk n c g)) (emits_is c h x y z refl refl refl ∙ sym (emits_is d h x y z (sym (range_same v l)) (sym (clears_same v)) refl))
            ∙ ap (λ (p : PassedPoint). cond (emits d h) (p ∷ walk n c g) (walk n c g)) (passed_same v l)
            ∙ ap (λ (ps : List PassedPoint). cond (emits d h) (passed_next d h ∷ ps) ps) m
            ∙ sym (walk_turn d h n g (emits d h) (subst (λ (k : ℕ). h.i < k) a.samples l) refl (turn_is d h x y (sym (range_same v l)) (sym (clears_same v))))

        past : (h.i < c.samples → ⊥) → walk (suc n) c h ≡ walk (suc n) d h
        past p = walk_past (suc n) c h p ∙ sym (walk_past (suc n) d h (λ (l : h.i < d.samples). p (subst (λ (k : ℕ). h.i < k) (sym a.samples) l)))

        go : ((g : Heads) → Within c g → walk n c g ≡ walk n d g) → (t : Bool) → ltb h.i c.samples ≡ t → walk (suc n) c h ≡ walk (suc n) d h
        go f true e = later f (ltb-true h.i c.samples e)
        go f false e = let l = ltb-false h.i c.samples e in past (λ (k : h.i < c.samples). omega arith)

    left_alike : (h : Heads) → turns_left c h ≡ turns_left d h
    unfolding turns_left
    left_alike h = omega (arith, a.samples, a.points)

    -- the same points are passed
    pub passed_alike : points_passed c ≡ points_passed d
    unfolding points_passed passed_from
    passed_alike =
        walk_alike (turns_left c (start c)) (start c) (within_start w)
        ∙ ap (λ (n : ℕ). walk n d (start c)) (left_alike (start c))
        ∙ ap (λ (h : Heads). walk (turns_left d h) d h) start_alike
