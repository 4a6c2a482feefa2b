-- The entry: what is lent, as the movement that its parts are called with.
use mathlib.Core.Path.{◌≡◌, refl, sym, ap, ◌∙◌, subst}
use mathlib.Core.Bool.{Bool, true, false, true≢false}
use mathlib.Core.List.{List, [], ◌∷◌, ◌++◌}
use Prim.Native.Nat.{ℕ, ◌/◌, ◌≤◌, min}
use native.Mathlib.Omega.{arith}
use lib.Dec.{T, ltb}
use lib.ListN.{length, get_or}
use lib.Ieee.{Float, nan, binary64, fits}
use Rattle.std.specs.Prelude.{Result, Ok, Err}
use Rattle.std.specs.Result.{is_err}
use Rattle.refusals.specs.declared.Refusal.{Refusal}
use Rattle.refusals.specs.Refusals.{told}
use Rattle.laws.specs.Answer.{Answer, refused, given}
use Rattle.laws.specs.Refusals.{row, first_of}
use Rattle.space.specs.Space.{zeros, zero_floats}
use Rattle.event_walk.specs.declared.Movement.{Movement}
use Rattle.event_walk.specs.Course.{Course, course_of, Held, Walkable}
use Rattle.event_walk.specs.Walk.{points_passed, row11}
use Rattle.event_maker.specs.Maker.{movement_of, lent_course, bad_counts, bad_floats, falling, rows_to11, answered, answer_of, made_count, list_places, floats_as, numbers_as, LentLeg, EventList, EventsMade, course_in, places_in}
use Rattle.event_maker.specs.Parts.{first_number, walk_answer, FloatsListed, NumbersListed}
use Rattle.event_maker.proofs.Rows.{within_counts, left_held, left_walkable, answer_refused, answer_walk}
use Rattle.event_maker.proofs.Walks.{passed_most}

-- what became zero is zero for its own length
pub zero_again : (fs gs : List Float) → gs ≡ zero_floats (length fs) → length gs ≡ length fs → gs ≡ zero_floats (length gs)
zero_again fs gs e d = e ∙ ap zero_floats (sym d)

module _ (train : Float) (samples : List ℕ) (offsets : List Float) (links : List ℕ) (points : ℕ) (e : points ≡ min (length offsets) (length links)) where
  abbrev moved : ℕ → Movement
  moved k = record { at = 0; samples = length samples / 24; points = k; length = train }

  abbrev course : Course
  course = course_of samples offsets (moved points)

  abbrev lent : Course
  lent = lent_course train samples offsets links

  course_is : course ≡ lent
  unfolding lent_course movement_of
  course_is = ap (λ (k : ℕ). course_of samples offsets (moved k)) e

  -- a refusal by the rows
  pub rows_answer : (places n : ℕ) → n ≡ first_number course samples → (n ≡ 0 → ⊥) → refused n ≡ answer_of lent samples places
  rows_answer places n d o = answer_refused samples offsets (moved points) places n d o ∙ ap (λ (c : Course). answer_of c samples places) course_is

  module _ (d : first_number course samples ≡ 0) where
    pub lent_held : Held samples offsets (moved points)
    lent_held = left_held samples offsets (moved points) refl d (omega arith) (omega arith)

    pub lent_walkable : ((k : ℕ) → T (fits binary64 (get_or offsets k nan))) → fits binary64 train ≡ true → Walkable course
    lent_walkable f g = left_walkable samples offsets (moved points) refl d (λ k h. f k) (subst T (sym g) tt)

    -- the answer behind the walk
    module _ (r : Answer ℕ) where
      pub made_answer : (f u F U : ℕ) → f ≡ F → u ≡ U → r ≡ walk_answer course (list_places f u) → r ≡ answer_of lent samples (list_places F U)
      made_answer f u F U p q w =
          w
          ∙ answer_walk samples offsets (moved points) (list_places f u) d
          ∙ ap (λ (c : Course). answer_of c samples (list_places f u)) course_is
          ∙ ap (λ (n : ℕ). answer_of lent samples (list_places n u)) p
          ∙ ap (λ (n : ℕ). answer_of lent samples (list_places F n)) q

    -- the list of a leg that is refused or not, as it stands behind `is_err`
    module _ (r : Result ℕ Refusal) where
      pub refused-floats : is_err r ≡ true → (F : ℕ) → zero_floats F ≡ floats_as (told r) lent F
      refused-floats e F = go r e
        where
          go : (r : Result ℕ Refusal) → is_err r ≡ true → zero_floats F ≡ floats_as (told r) lent F
          go (Ok n) e = absurd (true≢false (sym e))
          go (Err x) e = refl

      pub refused-numbers : is_err r ≡ true → (U : ℕ) → zeros U ≡ numbers_as (told r) lent links U
      refused-numbers e U = go r e
        where
          go : (r : Result ℕ Refusal) → is_err r ≡ true → zeros U ≡ numbers_as (told r) lent links U
          go (Ok n) e = absurd (true≢false (sym e))
          go (Err x) e = refl

      pub made-floats : is_err r ≡ false → (f F : ℕ) → f ≡ F → (fs : List Float) → FloatsListed (told r) course f fs → fs ≡ floats_as (told r) lent F
      made-floats e f F p fs l = go r e l
        where
          go : (r : Result ℕ Refusal) → is_err r ≡ false → FloatsListed (told r) course f fs → fs ≡ floats_as (told r) lent F
          go (Ok n) e l = l ∙ ap (λ (c : Course). floats_as (given n) c f) course_is ∙ ap (floats_as (given n) lent) p
          go (Err x) e l = absurd (true≢false e)

      pub made-numbers : is_err r ≡ false → (u U : ℕ) → u ≡ U → (us : List ℕ) → NumbersListed (told r) course links u us → us ≡ numbers_as (told r) lent links U
      made-numbers e u U p us l = go r e l
        where
          go : (r : Result ℕ Refusal) → is_err r ≡ false → NumbersListed (told r) course links u us → us ≡ numbers_as (told r) lent links U
          go (Ok n) e l = l ∙ ap (λ (c : Course). numbers_as (given n) c links u) course_is ∙ ap (numbers_as (given n) lent links) p
          go (Err x) e l = absurd (true≢false e)

-- ---- how many events an accepted list has at most

pub count_most : (c : Course) (samples : List ℕ) (places : ℕ) → made_count (answer_of c samples places) ≤ 1131072
unfolding answer_of first_of
count_most c samples places = go (bad_counts c) refl
  where
    -- behind the counts
    rest : (n : ℕ) → n ≤ 1131072 → (four seven eleven twelve : Bool) → made_count (answered (first_of (rows_to11 false four seven eleven ++ row 12 twelve ∷ [])) n) ≤ 1131072
    rest n h true seven eleven twelve = omega arith
    rest n h false true eleven twelve = omega arith
    rest n h false false true twelve = omega arith
    rest n h false false false true = omega arith
    rest n h false false false false = h

    go : (t : Bool) → bad_counts c ≡ t
        → made_count
        (answered (first_of (rows_to11 t (bad_floats c samples) (falling c) (row11 c) ++ row 12 (ltb places (length (points_passed c))) ∷ [])) (length (points_passed c)))
        ≤ 1131072
    go true e = omega arith
    go false e =
        let k = within_counts c e in
        rest (length (points_passed c)) (omega (arith, passed_most c, k.0, k.1)) (bad_floats c samples) (falling c) (row11 c) (ltb places (length (points_passed c)))

-- ---- the answer as a number and a count

-- how many events there are at most
pub made_most : {l : LentLeg} {lent left : EventList} {r : Answer ℕ} → EventsMade l lent left r → made_count r ≤ 1131072
made_most {l} {lent} m = subst (λ (x : Answer ℕ). made_count x ≤ 1131072) (sym m.answer) (count_most (course_in l) l.samples (places_in lent))
