-- Which number a book gets, by which rows hold.
use mathlib.Core.Path.{◌≡◌, refl, sym, ap, ◌∙◌, subst}
use mathlib.Core.Bool.{Bool, true, false, not, ◌||◌, cond, or_assoc, or-false}
use mathlib.Core.List.{List, ◌∷◌}
use Prim.Native.Nat.{ℕ, ◌+◌, ◌*◌, ◌%◌, ◌≤◌}
use native.Mathlib.Nat.{le_refl}
use native.Mathlib.Omega.{arith}
use lib.Dec.{eqb}
use lib.ListN.{length}
use Rattle.laws.specs.Answer.{Answer, refused, given}
use Rattle.laws.specs.Below.{some_below}
use Rattle.laws.specs.Refusals.{Row, row, first_of}
use Rattle.laws.proofs.Truth.{or_left, or_right, none_left}
use Rattle.laws.proofs.Refusals.{none_holds}
use Rattle.book_format.specs.Format.{links, destinations, legs}
use Rattle.book_format.specs.Rows.{measured_of, row1, row2, row3, row4, row5, row6, row7, some_bad_place, some_origin_repeats, some_bad_leg, some_leg_repeats, leg_falls, leg_begins}
use Rattle.book_format.specs.Chains.{Readable, all_linked}
use Rattle.space.specs.Space.{zeros}
use Rattle.book_rows.specs.Elements.{rows4to7, first_number, single_number}
use Rattle.book_legs.specs.Legs.{Started, SameButStarts, samples_fail}
use Rattle.book_legs.proofs.Chains.{chained, linked_rest}
use Rattle.book_legs.proofs.Linking.{room_of}
use Rattle.std.proofs.Common.{Result, Ok, Err}
use Rattle.refusals.specs.declared.Refusal.{Refusal}
use Rattle.refusals.specs.declared.Refusal.TheVariants.{CutOff, LeftOver, OutOfBounds, BadValue, BadIndex, BadOrigin}
use Rattle.refusals.specs.declared.Refusal.TheVariants.{BadLeg, NoPath, NoWayOn, MissingLeg, BadEvent, NoPlace, BadEnd}
use Rattle.refusals.specs.declared.Refusal.TheVariants.{BadLinks, NotTimed, AllZero}
use Rattle.refusals.specs.Refusals.{refusal_number}
use Rattle.book_options.specs.Options.{row8, kept_origins, link_options, OptionsIn}
use Rattle.book_reader.specs.Reader.{rows_from4, rows_from6, rows_from7, read_number, Ready}
use Rattle.book_reader.specs.Stages.{RowsPassed, ChainedOnly, legs_answer, LeftToRead, RepeatsPassed}
use Rattle.book_reader.proofs.Rooms.{counted_of}

-- ---- rows 1 to 3

pub number_1 : (b : List ℕ) (p y : ℕ) → row1 b ≡ true → 1 ≡ read_number b p y
unfolding read_number first_of
number_1 b p y e = rw e

pub number_2 : (b : List ℕ) (p y : ℕ) → row1 b ≡ false → row2 b ≡ true → 2 ≡ read_number b p y
unfolding read_number first_of
number_2 b p y d e = rw (d, e)

pub number_measured : (b : List ℕ) (p y n : ℕ) → refused n ≡ measured_of b → n ≡ read_number b p y
unfolding measured_of
number_measured b p y n e = go (row1 b) (row2 b) refl refl e
  where
    go : (s t : Bool) → row1 b ≡ s → row2 b ≡ t → refused n ≡ cond {A = Answer (List ℕ)} s (refused 1) (cond t (refused 2) (given b)) → n ≡ read_number b p y
    go true t f g h = let z : n ≡ 1 = cc in z ∙ number_1 b p y f
    go false true f g h = let z : n ≡ 2 = cc in z ∙ number_2 b p y f g
    go false false f g h = cc

module _ (b : List ℕ) (p y : ℕ) (f₁ : row1 b ≡ false) (f₂ : row2 b ≡ false) where
  pub number_3 : row3 b p y ≡ true → 3 ≡ read_number b p y
  unfolding read_number first_of
  number_3 e = rw (f₁, f₂, e)

  from_4 : row3 b p y ≡ false → read_number b p y ≡ first_of (rows_from4 b)
  unfolding read_number first_of
  from_4 e = rw (f₁, f₂, e)

  pub from_6 : row3 b p y ≡ false → row4 b ≡ false → row5 b ≡ false → read_number b p y ≡ first_of (rows_from6 b)
  unfolding rows_from4 first_of
  from_6 e f g = from_4 e ∙ rw (f, g)

-- ---- the refusals of the rows

pub leg_alone : (r : Refusal) → refusal_number r ≡ 7 → r ≡ BadLeg
leg_alone CutOff e = absurd (omega arith)
leg_alone LeftOver e = absurd (omega arith)
leg_alone OutOfBounds e = absurd (omega arith)
leg_alone BadValue e = absurd (omega arith)
leg_alone BadIndex e = absurd (omega arith)
leg_alone BadOrigin e = absurd (omega arith)
leg_alone BadLeg e = refl
leg_alone NoPath e = absurd (omega arith)
leg_alone NoWayOn e = absurd (omega arith)
leg_alone MissingLeg e = absurd (omega arith)
leg_alone BadEvent e = absurd (omega arith)
leg_alone NoPlace e = absurd (omega arith)
leg_alone BadEnd e = absurd (omega arith)
leg_alone BadLinks e = absurd (omega arith)
leg_alone NotTimed e = absurd (omega arith)
leg_alone AllZero e = absurd (omega arith)

-- ---- rows 4 to 7 as far as single rows tell

four_none : (a b c d : Bool) → first_number a b c d ≡ 0 → (a ≡ false) × (b ≡ false) × (c ≡ false) × (d ≡ false)
four_none a b c d e = let h = none_holds (rows4to7 a b c d) refl e in (h.0, h.1.0, h.1.1.0, h.1.1.1.0)

four_last : (a b c d : Bool) → first_number a b c d ≡ 7 → (a ≡ false) × (b ≡ false) × (c ≡ false) × (d ≡ true)
unfolding first_of
four_last true b c d e = absurd (omega arith)
four_last false true c d e = absurd (omega arith)
four_last false false true d e = absurd (omega arith)
four_last false false false true e = (refl, refl, refl, refl)
four_last false false false false e = absurd (omega arith)

four_early : (a b c d x : Bool) (rows : List Row) → (first_number a b c d ≡ 0 → ⊥) → (first_number a b c d ≡ 7 → ⊥)
    → first_number a b c d ≡ first_of (row 4 a ∷ row 5 b ∷ row 6 (c || x) ∷ rows)
unfolding first_of
four_early true b c d x rows n s = refl
four_early false true c d x rows n s = refl
four_early false false true d x rows n s = refl
four_early false false false true x rows n s = absurd (s refl)
four_early false false false false x rows n s = absurd (n refl)

-- a single leg's refusal, by whether one is bad
abbrev told_by : Bool → Result (Unit {0}) Refusal
told_by t = cond t (Err BadLeg) (Ok tt)

pub legs_refused : (b : List ℕ) (r : Result (Unit {0}) Refusal) (e : Refusal) → r ≡ legs_answer b → r ≡ Err e → (some_bad_leg b ≡ true) × (e ≡ BadLeg)
legs_refused b r e d was = go (some_bad_leg b) (sym was ∙ d)
  where
    go : (t : Bool) → ◌≡◌ {A = Result (Unit {0}) Refusal} (Err e) (told_by t) → (t ≡ true) × (e ≡ BadLeg)
    go true h = (refl, cc)
    go false h = (cc, cc)

pub legs_passed : (b : List ℕ) (r : Result (Unit {0}) Refusal) (u : Unit {0}) → r ≡ legs_answer b → r ≡ Ok u → some_bad_leg b ≡ false
legs_passed b r u d was = go (some_bad_leg b) (sym was ∙ d)
  where
    go : (t : Bool) → ◌≡◌ {A = Result (Unit {0}) Refusal} (Ok u) (told_by t) → t ≡ false
    go true h = cc
    go false h = refl

module _ (b : List ℕ) (p y n : ℕ) (f₁ : row1 b ≡ false) (f₂ : row2 b ≡ false) (e : row3 b p y ≡ false) (d : n ≡ single_number b) where
  pub number_early : (n ≡ 0 → ⊥) → (n ≡ 7 → ⊥) → n ≡ read_number b p y
  unfolding single_number row6 rows_from4
  number_early none seven =
      d
      ∙ four_early (row4 b) (row5 b) (some_bad_place b) (some_bad_leg b) (some_origin_repeats b) (rows_from7 b) (λ k. none (d ∙ k)) (λ k. seven (d ∙ k))
      ∙ sym (from_4 b p y f₁ f₂ e)

  pub left_early : n ≡ 0 → LeftToRead b p y (Ok tt)
  unfolding single_number
  left_early k =
      let f = four_none (row4 b) (row5 b) (some_bad_place b) (some_bad_leg b) (sym d ∙ k) in
      record { passed = record { row1 = f₁; row2 = f₂; counted = counted_of b p y e; row4 = f.0; row5 = f.1; places = f.2 }; row3 = e; single = sym (ap told_by f.3) }

  pub left_late : n ≡ 7 → LeftToRead b p y (Err BadLeg)
  unfolding single_number
  left_late k =
      let f = four_last (row4 b) (row5 b) (some_bad_place b) (some_bad_leg b) (sym d ∙ k) in
      record { passed = record { row1 = f₁; row2 = f₂; counted = counted_of b p y e; row4 = f.0; row5 = f.1; places = f.2 }; row3 = e; single = sym (ap told_by f.3) }

pub readable_of : {b : List ℕ} → RowsPassed b → some_bad_leg b ≡ false → Readable b
readable_of p e = record { counted = p.counted; floats = p.row4; indices = p.row5; single = e }

-- ---- rows 6 and 7, by which of their parts holds

-- row 6 where no single origin gives it
pub row6_repeats : (b : List ℕ) (t : Bool) → some_bad_place b ≡ false → t ≡ some_origin_repeats b → row6 b ≡ t
unfolding row6
row6_repeats b t e d = ap (λ (x : Bool). x || some_origin_repeats b) e ∙ sym d

-- row 7: a single leg, a repeat, or the samples
row7_is : (b : List ℕ) → row7 b ≡ (some_bad_leg b || some_leg_repeats b || samples_fail b)
unfolding row7
row7_is b = or_assoc (some_bad_leg b || some_leg_repeats b) (some_below (legs b) (leg_falls b)) (some_below (legs b) (λ i. not (leg_begins b i)))

pub row7_single : (b : List ℕ) → some_bad_leg b ≡ true → row7 b ≡ true
row7_single b e = row7_is b ∙ or_left (some_bad_leg b || some_leg_repeats b) (samples_fail b) (or_left (some_bad_leg b) (some_leg_repeats b) e)

single_none : (b : List ℕ) → row7 b ≡ false → some_bad_leg b ≡ false
single_none b e = none_left (some_bad_leg b) (some_leg_repeats b) (none_left (some_bad_leg b || some_leg_repeats b) (samples_fail b) (sym (row7_is b) ∙ e))

pub row7_early : (b : List ℕ) (f : Bool) → f ≡ samples_fail b → f ≡ true → true ≡ row7 b
row7_early b f d e = sym (row7_is b ∙ or_right (some_bad_leg b || some_leg_repeats b) (samples_fail b) (sym d ∙ e))

pub row7_only : (b : List ℕ) (f r : Bool) → some_bad_leg b ≡ false → f ≡ samples_fail b → f ≡ false → r ≡ some_leg_repeats b → r ≡ row7 b
row7_only b f r s d e g =
    g ∙ sym (row7_is b ∙ ap (λ (x : Bool). x || some_leg_repeats b || samples_fail b) s ∙ ap (λ (x : Bool). some_leg_repeats b || x) (sym d ∙ e) ∙ or-false (some_leg_repeats b))

-- ---- the number from row 6 on

module _ (b : List ℕ) where
  pub from_6_first : row6 b ≡ true → 6 ≡ first_of (rows_from6 b)
  unfolding rows_from6 first_of
  from_6_first e = rw e

  pub from_6_second : row6 b ≡ false → row7 b ≡ true → 7 ≡ first_of (rows_from6 b)
  unfolding rows_from6 first_of
  from_6_second d e = rw (d, e)

  pub from_6_third : row6 b ≡ false → row7 b ≡ false → row8 b ≡ true → 8 ≡ first_of (rows_from6 b)
  unfolding rows_from6 first_of
  from_6_third d e f = rw (d, e, f)

  pub from_6_none : row6 b ≡ false → row7 b ≡ false → row8 b ≡ false → 0 ≡ first_of (rows_from6 b)
  unfolding rows_from6 first_of
  from_6_none d e f = rw (d, e, f)

-- ---- the chains

-- the finished cells are chained, and the others as they were
pub cells_chained : {b : List ℕ} (w cells : List ℕ) → Readable b → (legs b + 1) * 8 ≤ length w → w ≡ zeros (length w) → cells ≡ all_linked b w → ChainedOnly b cells
cells_chained {b} w cells r h z e =
    let o = room_of r (length w) h in
    subst (ChainedOnly b) (sym (e ∙ ap (all_linked b) z)) (record { chained = chained b (length w) o; rest = linked_rest b (length w) o (legs b) (le_refl (legs b)) })

-- ---- the options' answer

pub no_path : (b : List ℕ) (r : Refusal) → link_options b ≡ Err r → (row8 b ≡ true) × (r ≡ NoPath)
unfolding link_options
no_path b r e = go (row8 b) refl e
  where
    go : (t : Bool) → row8 b ≡ t → cond {A = Result ℕ Refusal} t (Err NoPath) (Ok (length (kept_origins b))) ≡ Err r → (row8 b ≡ true) × (r ≡ NoPath)
    go true d h = (d, cc)
    go false d h = (cc, cc)

pub some_path : (b : List ℕ) (n : ℕ) → link_options b ≡ Ok n → (row8 b ≡ false) × (n ≡ length (kept_origins b))
unfolding link_options
some_path b n e = go (row8 b) refl e
  where
    go : (t : Bool) → row8 b ≡ t → cond {A = Result ℕ Refusal} t (Err NoPath) (Ok (length (kept_origins b))) ≡ Ok n → (row8 b ≡ false) × (n ≡ length (kept_origins b))
    go true d h = (cc, cc)
    go false d h = (d, let z : length (kept_origins b) ≡ n = cc in sym z)

-- the options' marks, once the starting legs are named between them
still_marked : {b m m' : List ℕ} → SameButStarts b m m' → OptionsIn b m → OptionsIn b m'
still_marked {b} {m} {m'} o d = record {
  set = λ l h. ap (λ (x : ℕ). eqb (x % 2) 1) (o.below l h) ∙ d.set l h;
  kept = λ k h. o.behind (2 * links b + destinations b + k) (omega arith) ∙ d.kept k h;
}

pub ready_of : {b : List ℕ} {n : ℕ} {cells z m marks : List ℕ} → RowsPassed b → RepeatsPassed b cells z → row8 b ≡ false → OptionsIn b m
    → Started b marks × SameButStarts b m marks → n ≡ length (kept_origins b) → Ready b n cells marks
ready_of {b} p q g m t k = record {
  readable = readable_of p (single_none b q.row7);
  row6 = q.row6;
  row7 = q.row7;
  row8 = g;
  chained = q.chained.chained;
  rest = q.chained.rest;
  marked = still_marked t.1 m;
  starts = t.0;
  kept = k;
}
