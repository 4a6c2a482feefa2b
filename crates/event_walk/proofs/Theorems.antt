-- What holds of the events of every leg that rows 3, 4, 7 and 11 let through.
use mathlib.Core.Path.{◌≡◌, refl, sym, ap, ◌∙◌, subst}
use mathlib.Core.Bool.{Bool, true, false, not, cond, true≢false}
use mathlib.Core.List.{List, [], ◌∷◌}
use Prim.Native.Nat.{ℕ, zero, suc, ◌-◌, ◌≤◌, ◌<◌}
use native.Mathlib.Omega.{arith}
use borrow.Author.Tests.{ltb-true, ltb-false}
use lib.Dec.{ltb, eqb}
use lib.Ieee.{Float, binary64, add, le, is_nan}
use Rattle.floats.proofs.Order.{lt_le, not_lt, le_self, le_trans, add_number, add_mono_left}
use Rattle.event_formula.specs.declared.Passing.{Passing}
use Rattle.event_formula.specs.Event.{clears, passing_at}
use Rattle.event_walk.specs.declared.Heads.{Heads}
use Rattle.event_walk.specs.declared.PassedPoint.{PassedPoint}
use Rattle.event_walk.specs.Course.{Course, Walkable}
use Rattle.event_walk.specs.Walk.{start, offset_next, in_range, clears_next, turned, passed_as, passed_next, walk, turns_left, passed_from, points_passed, Each, FromOn, NeverFall, Within}
use Rattle.event_walk.proofs.Searches.{size_number}
use Rattle.event_walk.proofs.Turns.{heads, walk_past, passed_past, walk_turn, turn_is, emits_is, front_size, back_size, clear_before, next_clear, next_arrive, arrive_before, within_on, within_clear, within_arrive, left_on, left_clear, left_arrive}
use Rattle.event_walk.proofs.Starts.{within_start}

-- ---- a leg of one sample

-- A train that doesn't move passes nothing: a leg of one sample has no events.
pub one_sample : (c : Course) → c.samples ≡ 1 → points_passed c ≡ []
unfolding points_passed start
one_sample c e = passed_past c (start c) (λ (h : 1 < c.samples). omega arith)

-- ---- a turn

-- what a turn leads to
record Turning (c : Course) (h : Heads) : Type 0 where
  next : Heads
  emitted : Bool
  is : (n : ℕ) → walk (suc n) c h ≡ cond emitted (passed_next c h ∷ walk n c next) (walk n c next)
  within : Within c next
  left : turns_left c h ≡ suc (turns_left c next)
  grows : le (offset_next c h) (offset_next c next) ≡ true
  before_last : emitted ≡ true → suc (passed_next c h).point < c.points

next_offset : (c : Course) (h : Heads) → (passed_next c h).offset ≡ offset_next c h
unfolding passed_next passed_as
next_offset c h = go (clears_next c h) (offset_next c h) (passing_at (c.sample h.i) (c.sample (h.i - 1)) (offset_next c h))
  where
    go : (t : Bool) (x : Float) (p : Passing) → (passed_as h t x p).offset ≡ x
    go true x p = refl
    go false x p = refl

next_point : (c : Course) (h : Heads) (t : Bool) → clears_next c h ≡ t → (passed_next c h).point ≡ cond t h.pt_idx_back h.pt_idx_front
unfolding passed_next passed_as
next_point c h t e =
    ap (λ (u : Bool). (passed_as h u (offset_next c h) (passing_at (c.sample h.i) (c.sample (h.i - 1)) (offset_next c h))).point) e
    ∙ go t (offset_next c h) (passing_at (c.sample h.i) (c.sample (h.i - 1)) (offset_next c h))
  where
    go : (t : Bool) (x : Float) (p : Passing) → (passed_as h t x p).point ≡ cond t h.pt_idx_back h.pt_idx_front
    go true x p = refl
    go false x p = refl

-- a Bool with its equation
told : {X : Type 0} (t : Bool) → (t ≡ true → X) → (t ≡ false → X) → X
told true f g = f refl
told false f g = g refl

module _ {c : Course} (w : Walkable c) where
  end_number : {h : Heads} → Within c h → is_nan (add binary64 (c.offset h.pt_idx_back) c.length) ≡ false
  end_number {h} v = add_number (c.offset h.pt_idx_back) c.length (back_size w v) w.train

  next_number : {h : Heads} → Within c h → is_nan (offset_next c h) ≡ false
  next_number {h} v =
      told (clears_next c h) (λ (e : clears_next c h ≡ true). ap is_nan (next_clear w v e) ∙ end_number v)
      (λ (e : clears_next c h ≡ false). ap is_nan (next_arrive w v e) ∙ size_number (c.offset h.pt_idx_front) (front_size w v))

  -- an offset that is at most both ends is at most the next event's
  at_most_next : {h : Heads} → Within c h → (x : Float) → le x (add binary64 (c.offset h.pt_idx_back) c.length) ≡ true → le x (c.offset h.pt_idx_front) ≡ true → le x (offset_next c h) ≡ true
  at_most_next {h} v x p q =
      told (clears_next c h) (λ (e : clears_next c h ≡ true). ap (le x) (next_clear w v e) ∙ p)
      (λ (e : clears_next c h ≡ false). ap (le x) (next_arrive w v e) ∙ q)

  module _ {h : Heads} (v : Within c h) where
    abbrev b : ℕ
    b = h.pt_idx_back

    abbrev f : ℕ
    f = h.pt_idx_front

    -- the next event's offset never falls
    grows_on : le (offset_next c h) (offset_next c (heads (suc h.i) b f)) ≡ true
    unfolding offset_next
    grows_on = le_self (offset_next c h) (next_number v)

    grows_clear : (e : clears_next c h ≡ true) → le (offset_next c h) (offset_next c (heads h.i (suc b) f)) ≡ true
    unfolding clears_next clears
    grows_clear e =
        let o = add binary64 (c.offset b) c.length in
        let n = within_clear w v e in
        ap (λ (x : Float). le x (offset_next c (heads h.i (suc b) f))) (next_clear w v e)
        ∙ at_most_next n o (add_mono_left (c.offset b) (c.offset (suc b)) c.length (back_size w v) (back_size w n) w.train (w.rises.rising b (omega (arith, clear_before w v e, v.inside))))
        (lt_le o (c.offset f) e)

    grows_arrive : (l : h.i < c.samples) (r : in_range c h ≡ true) (e : clears_next c h ≡ false) → le (offset_next c h) (offset_next c (heads h.i b (suc f))) ≡ true
    unfolding clears_next clears
    grows_arrive l r e =
        let n = within_arrive w v l r e in
        ap (λ (x : Float). le x (offset_next c (heads h.i b (suc f)))) (next_arrive w v e)
        ∙ at_most_next n (c.offset f) (not_lt (add binary64 (c.offset b) c.length) (c.offset f) (end_number v) (size_number (c.offset f) (front_size w v)) e) (w.rises.rising f (arrive_before w v l r e))

    turning : h.i < c.samples → Turning c h
    unfolding turned
    turning l =
        told (in_range c h)
        (λ (r : in_range c h ≡ true).
        told (clears_next c h) (λ (e : clears_next c h ≡ true). clearing r e (eqb b 0) refl) (λ (e : clears_next c h ≡ false). arriving r e))
        (λ (r : in_range c h ≡ false). going r)
      where
        going : in_range c h ≡ false → Turning c h
        going r = record {
          next = heads (suc h.i) b f;
          emitted = false;
          is = λ n. walk_turn c h n (heads (suc h.i) b f) false l (emits_is c h false (clears_next c h) (eqb b 0) r refl refl) (turn_is c h false (clears_next c h) r refl);
          within = within_on w v (suc h.i) (omega arith);
          left = left_on w v l;
          grows = grows_on;
          before_last = λ (z : false ≡ true). absurd (true≢false (sym z));
        }

        clearing : in_range c h ≡ true → clears_next c h ≡ true → (z : Bool) → eqb b 0 ≡ z → Turning c h
        clearing r e z d = record {
          next = heads h.i (suc b) f;
          emitted = not z;
          is = λ n. walk_turn c h n (heads h.i (suc b) f) (not z) l (emits_is c h true true z r e d) (turn_is c h true true r e);
          within = within_clear w v e;
          left = left_clear w v l;
          grows = grows_clear e;
          before_last = λ p. omega (arith, next_point c h true e, clear_before w v e, v.inside);
        }

        arriving : in_range c h ≡ true → clears_next c h ≡ false → Turning c h
        arriving r e = record {
          next = heads h.i b (suc f);
          emitted = true;
          is = λ n. walk_turn c h n (heads h.i b (suc f)) true l (emits_is c h true false (eqb b 0) r e refl) (turn_is c h true false r e);
          within = within_arrive w v l r e;
          left = left_arrive w v l;
          grows = grows_arrive l r e;
          before_last = λ p. omega (arith, next_point c h false e, arrive_before w v l r e);
        }

  -- a property of the walk's events and of where the next one is: by the turns
  by_turns : (P : Float → List PassedPoint → Type 0)
      → ((x : Float) → P x [])
      → ((h : Heads) (t : Turning c h) (ps : List PassedPoint) → Within c h → P (offset_next c t.next) ps → P (offset_next c h) (cond t.emitted (passed_next c h ∷ ps) ps))
      → (n : ℕ) (h : Heads) → Within c h → P (offset_next c h) (walk n c h)
  unfolding walk
  by_turns P z s zero h v = z (offset_next c h)
  by_turns P z s (suc n) h v = go (ltb h.i c.samples) refl (by_turns P z s n)
    where
      go : (t : Bool) → ltb h.i c.samples ≡ t → ((g : Heads) → Within c g → P (offset_next c g) (walk n c g)) → P (offset_next c h) (walk (suc n) c h)
      go true e ih =
          let t = turning v (ltb-true h.i c.samples e) in
          subst (P (offset_next c h)) (sym (t.is n)) (s h t (walk n c t.next) v (ih t.next t.within))
      go false e ih =
          let g : c.samples ≤ h.i = ltb-false h.i c.samples e in
          subst (P (offset_next c h)) (sym (walk_past (suc n) c h (λ (l : h.i < c.samples). omega arith))) (z (offset_next c h))

  -- ---- the order of the events

  from_less : (x y : Float) (ps : List PassedPoint) → le x y ≡ true → FromOn y ps → FromOn x ps
  unfolding FromOn
  from_less x y [] e d = tt
  from_less x y (p ∷ ps) e d = le_trans x y p.offset e d

  falls_not : (n : ℕ) (h : Heads) → Within c h → FromOn (offset_next c h) (walk n c h) × NeverFall (walk n c h)
  unfolding FromOn NeverFall
  falls_not = by_turns (λ x ps. FromOn x ps × NeverFall ps) (λ x. (tt, tt)) (λ h t ps v d. go h ps v t.emitted (from_less (offset_next c h) (offset_next c t.next) ps t.grows d.0) d.1)
    where
      go : (h : Heads) (ps : List PassedPoint) → Within c h → (e : Bool) → FromOn (offset_next c h) ps → NeverFall ps
          → FromOn (offset_next c h) (cond e (passed_next c h ∷ ps) ps) × NeverFall (cond e (passed_next c h ∷ ps) ps)
      go h ps v true d g = (ap (le (offset_next c h)) (next_offset c h) ∙ le_self (offset_next c h) (next_number v), (subst (λ (x : Float). FromOn x ps) (sym (next_offset c h)) d, g))
      go h ps v false d g = (d, g)

  -- Events are told in the order of the way: none lies before the one that is told before it.
  pub offsets_never_fall : NeverFall (points_passed c)
  unfolding points_passed passed_from
  offsets_never_fall = (falls_not (turns_left c (start c)) (start c) (within_start w)).1

  -- ---- the last point

  -- No event is at the last point, which names no link: the train's front doesn't reach it, so its end doesn't either.
  pub never_the_last : Each (λ p. suc p.point < c.points) (points_passed c)
  unfolding points_passed passed_from Each
  never_the_last = by_turns (λ x ps. Each (λ p. suc p.point < c.points) ps) (λ x. tt) (λ h t ps v d. go h ps t.emitted t.before_last d) (turns_left c (start c)) (start c) (within_start w)
    where
      go : (h : Heads) (ps : List PassedPoint) (e : Bool) → (e ≡ true → suc (passed_next c h).point < c.points) → Each (λ p. suc p.point < c.points) ps → Each (λ p. suc p.point < c.points) (cond e (passed_next c h ∷ ps) ps)
      go h ps true f d = (f refl, d)
      go h ps false f d = d

each_so : (P Q : PassedPoint → Type 0) → ((p : PassedPoint) → P p → Q p) → (ps : List PassedPoint) → Each P ps → Each Q ps
unfolding Each
each_so P Q f [] d = tt
each_so P Q f (p ∷ ps) d = (f p d.0, each_so P Q f ps d.1)

-- Every event names a link: each point before the last names the link that starts there, and only the last names 0.
pub every_event_names : {c : Course} → Walkable c → (link : ℕ → ℕ) → ((k : ℕ) → suc k < c.points → link k ≡ 0 → ⊥) → Each (λ p. link p.point ≡ 0 → ⊥) (points_passed c)
every_event_names {c} w link f = each_so (λ p. suc p.point < c.points) (λ p. link p.point ≡ 0 → ⊥) (λ p h. f p.point h) (points_passed c) (never_the_last w)

-- ---- the turns

-- The definition stops early nowhere: with more turns than it counts the events are the same.
pub turns_suffice : {c : Course} → Walkable c → (n : ℕ) (h : Heads) → Within c h → turns_left c h ≤ n → walk n c h ≡ passed_from c h
unfolding passed_from walk
turns_suffice {c} w zero h v l = let e : 0 ≡ turns_left c h = omega arith in ap (λ (k : ℕ). walk k c h) e
turns_suffice {c} w (suc n) h v l = go (ltb h.i c.samples) refl (turns_suffice w n)
  where
    go : (t : Bool) → ltb h.i c.samples ≡ t → ((g : Heads) → Within c g → turns_left c g ≤ n → walk n c g ≡ walk (turns_left c g) c g) → walk (suc n) c h ≡ walk (turns_left c h) c h
    go true e ih =
        let t = turning w v (ltb-true h.i c.samples e) in
        let g = t.next in
        let m = t.left in
        t.is n
        ∙ ap (λ (ps : List PassedPoint). cond t.emitted (passed_next c h ∷ ps) ps) (ih g t.within (omega arith))
        ∙ sym (t.is (turns_left c g))
        ∙ ap (λ (k : ℕ). walk k c h) (sym m)
    go false e ih =
        let g : c.samples ≤ h.i = ltb-false h.i c.samples e in
        let no : h.i < c.samples → ⊥ = λ (l : h.i < c.samples). omega arith in
        walk_past (suc n) c h no ∙ sym (walk_past (turns_left c h) c h no)
