-- The loop over the events: those that were listed, and those that are left, are the leg's.
use mathlib.Core.Path.{◌≡◌, refl, sym, ap, ◌∙◌, subst}
use mathlib.Core.Bool.{Bool, true, false, cond}
use mathlib.Core.List.{List, [], ◌∷◌, ◌++◌, append_assoc, append-nil}
use Prim.Native.Nat.{ℕ, zero, suc, ◌+◌, ◌-◌, ◌*◌, ◌≤◌, ◌<◌}
use native.Mathlib.Omega.{arith}
use borrow.Author.Tests.{ltb-false}
use lib.Dec.{ltb}
use lib.ListN.{length, get_or, length-append}
use lib.Ieee.{Float}
use Rattle.laws.specs.Answer.{Answer, refused, given}
use Rattle.laws.proofs.Truth.{or_left, or_right, none_left, none_right, neither}
use Rattle.space.specs.Space.{zeros, zero_floats}
use Rattle.event_walk.specs.declared.Heads.{Heads}
use Rattle.event_walk.specs.declared.PassedPoint.{PassedPoint}
use Rattle.event_walk.specs.Course.{Course, Walkable}
use Rattle.event_walk.specs.Walk.{start, turn, emits, passed_next, walk, turns_left, passed_from, points_passed, bad_point, some_bad, Each}
use Rattle.event_walk.proofs.Theorems.{never_the_last}
use Rattle.event_maker.specs.Maker.{list_places, event_floats, event_numbers}
use Rattle.event_maker.specs.Parts.{count_answer, walk_answer, put_event_floats, put_event_numbers, FloatsListed, NumbersListed}
use Rattle.event_maker.proofs.Lists.{places_fit, floats_put, numbers_put}

-- ---- lists of events

none_bad_more : (ps : List PassedPoint) (p : PassedPoint) → some_bad ps ≡ false → bad_point p ≡ false → some_bad (ps ++ p ∷ []) ≡ false
unfolding some_bad
none_bad_more [] p e f = neither (bad_point p) false f refl
none_bad_more (q ∷ ps) p e f = neither (bad_point q) (some_bad (ps ++ p ∷ [])) (none_left (bad_point q) (some_bad ps) e) (none_bad_more ps p (none_right (bad_point q) (some_bad ps) e) f)

bad_there : (ps : List PassedPoint) (p : PassedPoint) (rest : List PassedPoint) → bad_point p ≡ true → some_bad (ps ++ p ∷ rest) ≡ true
unfolding some_bad
bad_there [] p rest e = or_left (bad_point p) (some_bad rest) e
bad_there (q ∷ ps) p rest e = or_right (bad_point q) (some_bad (ps ++ p ∷ rest)) (bad_there ps p rest e)

each_there : (P : PassedPoint → Type 0) (ps : List PassedPoint) (p : PassedPoint) (rest : List PassedPoint) → Each P (ps ++ p ∷ rest) → P p
unfolding Each
each_there P [] p rest d = d.0
each_there P (q ∷ ps) p rest d = each_there P ps p rest d.1

-- ---- how many there can be

walk_length : (n : ℕ) (c : Course) (h : Heads) → length (walk n c h) ≤ n
unfolding walk
walk_length zero c h = omega arith
walk_length (suc n) c h = go (ltb h.i c.samples) (emits c h) (walk n c (turn c h)) (walk_length n c (turn c h))
  where
    go : (s t : Bool) (later : List PassedPoint) → length later ≤ n → length (cond s (cond t (passed_next c h ∷ later) later) []) ≤ suc n
    go true true later l = omega arith
    go true false later l = omega arith
    go false t later l = omega arith

pub passed_most : (c : Course) → length (points_passed c) ≤ c.samples + 2 * c.points
unfolding points_passed passed_from turns_left
passed_most c = omega (arith, walk_length (turns_left c (start c)) c (start c))

-- ---- the loop

pub record Listing (c : Course) (links : List ℕ) (F U places : ℕ) (floats : List Float) (numbers : List ℕ) (rest : List PassedPoint) (count : ℕ) : Type 0 where
  pub listed : List PassedPoint
  pub passed : points_passed c ≡ listed ++ rest
  pub counted : count ≡ length listed
  pub sound : some_bad listed ≡ false
  pub room : places ≡ list_places F U
  pub floats_size : length floats ≡ F
  pub numbers_size : length numbers ≡ U
  pub floats_are : count ≤ places → floats ≡ event_floats listed ++ zero_floats (F - count * 3)
  pub numbers_are : count ≤ places → numbers ≡ event_numbers links listed ++ zeros (U - count * 2)

pub listing_start : (c : Course) (links : List ℕ) (places : ℕ) (floats : List Float) (numbers : List ℕ) (rest : List PassedPoint) → floats ≡ zero_floats (length floats) → numbers ≡ zeros (length numbers) → rest ≡ points_passed c
    → places ≡ list_places (length floats) (length numbers) → Listing c links (length floats) (length numbers) places floats numbers rest 0
unfolding some_bad event_floats event_numbers
listing_start c links places floats numbers rest f u e q = record {
  listed = [];
  passed = sym e;
  counted = refl;
  sound = refl;
  room = q;
  floats_size = refl;
  numbers_size = refl;
  floats_are = λ l. f ∙ ap zero_floats (less (length floats) 3);
  numbers_are = λ l. u ∙ ap zeros (less (length numbers) 2);
}
  where
    less : (n k : ℕ) → n ≡ n - 0 * k
    less n k = omega arith

module _ {c : Course} {links : List ℕ} {F U places : ℕ} {floats : List Float} {numbers : List ℕ} {rest : List PassedPoint} {count : ℕ} (v : Listing c links F U places floats numbers rest count) where
  pub listing_room : (places * 3 ≤ length floats) × (places * 2 ≤ length numbers)
  listing_room = let f = places_fit F U in (omega (arith, v.room, v.floats_size, f.0), omega (arith, v.room, v.numbers_size, f.1))

  -- behind the last event
  module _ (e : rest ≡ []) where
    all_listed : points_passed c ≡ v.listed
    all_listed = v.passed ∙ ap (λ (t : List PassedPoint). v.listed ++ t) e ∙ append-nil v.listed

    pub end_answer : (r : Answer ℕ) → r ≡ count_answer count places → r ≡ walk_answer c (list_places F U)
    unfolding walk_answer
    end_answer r d =
        d
        ∙ ap (λ (n : ℕ). count_answer n places) (v.counted ∙ ap length (sym all_listed))
        ∙ ap (count_answer (length (points_passed c))) v.room
        ∙ sym (ap (λ (t : Bool). cond t (refused 11) (count_answer (length (points_passed c)) (list_places F U))) (ap some_bad all_listed ∙ v.sound))

    pub end_floats : (r : Answer ℕ) → r ≡ count_answer count places → FloatsListed r c F floats
    unfolding count_answer
    end_floats r d = subst (λ (x : Answer ℕ). FloatsListed x c F floats) (sym d) (go (ltb places count) refl)
      where
        go : (t : Bool) → ltb places count ≡ t → FloatsListed (cond t (refused 12) (given count)) c F floats
        go true q = tt
        go false q = v.floats_are (ltb-false places count q) ∙ ap (λ (ps : List PassedPoint). event_floats ps ++ zero_floats (F - count * 3)) (sym all_listed)

    pub end_numbers : (r : Answer ℕ) → r ≡ count_answer count places → NumbersListed r c links U numbers
    unfolding count_answer
    end_numbers r d = subst (λ (x : Answer ℕ). NumbersListed x c links U numbers) (sym d) (go (ltb places count) refl)
      where
        go : (t : Bool) → ltb places count ≡ t → NumbersListed (cond t (refused 12) (given count)) c links U numbers
        go true q = tt
        go false q = v.numbers_are (ltb-false places count q) ∙ ap (λ (ps : List PassedPoint). event_numbers links ps ++ zeros (U - count * 2)) (sym all_listed)

  -- at the next event
  module _ (p : PassedPoint) (later : List PassedPoint) (n : rest ≡ p ∷ later) where
    there : points_passed c ≡ v.listed ++ p ∷ later
    there = v.passed ∙ ap (λ (t : List PassedPoint). v.listed ++ t) n

    pub bad_answer : bad_point p ≡ true → refused 11 ≡ walk_answer c (list_places F U)
    unfolding walk_answer
    bad_answer e = sym (ap (λ (t : Bool). cond t (refused 11) (count_answer (length (points_passed c)) (list_places F U))) (ap some_bad there ∙ bad_there v.listed p later e))

    pub point_before : Walkable c → p.point < c.points
    point_before w = let l = each_there (λ q. suc q.point < c.points) v.listed p later (subst (Each (λ q. suc q.point < c.points)) there (never_the_last w)) in omega arith

    pub count_most : count < c.samples + 2 * c.points
    count_most =
        let e = ap length there ∙ length-append v.listed (p ∷ later) in
        omega (arith, passed_most c, v.counted)

    pub listing_on : bad_point p ≡ false → (fs : List Float) (us : List ℕ) → length fs ≡ length floats → length us ≡ length numbers
        → (count < places → fs ≡ put_event_floats floats count p) → (count < places → us ≡ put_event_numbers numbers count p (get_or links p.point 0))
        → Listing c links F U places fs us later (count + 1)
    listing_on e fs us f u a b = record {
      listed = v.listed ++ p ∷ [];
      passed = there ∙ sym (append_assoc v.listed (p ∷ []) later);
      counted = omega (arith, v.counted, length-append v.listed (p ∷ []));
      sound = none_bad_more v.listed p v.sound e;
      room = v.room;
      floats_size = f ∙ v.floats_size;
      numbers_size = u ∙ v.numbers_size;
      floats_are = λ (l : count + 1 ≤ places).
          a (omega arith)
          ∙ ap (λ (t : List Float). put_event_floats t count p) (v.floats_are (omega arith))
          ∙ floats_put v.listed p count F v.counted (omega (arith, v.room, (places_fit F U).0));
      numbers_are = λ (l : count + 1 ≤ places).
          b (omega arith)
          ∙ ap (λ (t : List ℕ). put_event_numbers t count p (get_or links p.point 0)) (v.numbers_are (omega arith))
          ∙ numbers_put v.listed p count U v.counted links (omega (arith, v.room, (places_fit F U).1));
    }
