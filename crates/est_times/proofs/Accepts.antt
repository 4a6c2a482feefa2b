-- What a book leaves whose reading is accepted: none of rows 1 to 8 holds, and the lent work space is enough for growth and for the passes.
use mathlib.Core.Path.{◌≡◌, refl, sym, ap, ◌∙◌, subst}
use mathlib.Core.Bool.{Bool, true, false, not, ◌||◌, cond}
use mathlib.Core.List.{List, [], ◌∷◌}
use Rattle.laws.specs.Refusals.{Row, first_of}
use Rattle.std.proofs.Common.{lit≤}
use Prim.Native.Nat.{ℕ, ◌+◌, ◌*◌, ◌≤◌}
use native.Mathlib.Omega.{arith}
use borrow.Author.Tests.{not-false}
use lib.ListN.{length}
use Rattle.net_node.specs.Table.{float_width, number_width}
use Rattle.net_node.specs.Left.{places_of}
use Rattle.laws.specs.Below.{some_below}
use Rattle.laws.proofs.Refusals.{none_holds}
use Rattle.laws.proofs.Below.{none_left, none_right}
use Rattle.floats.specs.Floats.{book_float}
use Rattle.space.specs.Space.{units_of, bytes_of}
use Rattle.book_format.specs.Format.{links, origins, destinations, legs, samples, link_length, join_bits, departure_bits, length_bits}
use Rattle.book_format.specs.Rows.{row1, row2, row3, row4, row5, row7, work_bytes, bad_origin_value, bad_sample, bad_leg, leg_repeats, leg_falls, leg_begins}
use Rattle.book_format.proofs.Theorems.{length_by_counts}
use Rattle.book_options.specs.Options.{row8, search_room}
use Rattle.std.specs.Prelude.{Result, Ok, Err}
use Rattle.laws.specs.Answer.{number_of}
use Rattle.refusals.specs.declared.Refusal.{Refusal}
use Rattle.refusals.specs.Refusals.{refusal_number, told}
use Rattle.book_reader.specs.declared.Accepted.{Accepted}
use Rattle.book_reader.specs.Reader.{rows_from4, read_rows, read_number, Ready, ReadInto, BookRead}
use Rattle.book_reader.proofs.Rooms.{enough}
use Rattle.arcs_growth.specs.Read.{Read}
use Rattle.arcs_growth.proofs.Books.{read_rows_lem}

-- ---- the rows

pub record Passes (b : List ℕ) (places bytes : ℕ) : Type 0 where
  pub one : row1 b ≡ false
  pub two : row2 b ≡ false
  pub three : row3 b places bytes ≡ false
  pub four : row4 b ≡ false
  pub five : row5 b ≡ false
  pub seven : row7 b ≡ false
  pub eight : row8 b ≡ false

pub passes_of : (b : List ℕ) (places bytes : ℕ) → read_number b places bytes ≡ 0 → Passes b places bytes
unfolding read_number
passes_of b places bytes e =
    let h = none_holds (read_rows b places bytes) refl e in
    record {
      one = h.0;
      two = h.1.0;
      three = h.1.1.0;
      four = h.1.1.1.0;
      five = h.1.1.1.1.0;
      seven = h.1.1.1.1.1.1.0;
      eight = h.1.1.1.1.1.1.1.0;
    }

-- growth can read it
pub read_of : {b : List ℕ} {places bytes : ℕ} → Passes b places bytes → Read b
unfolding row7
read_of {b} p =
    let B = some_below (legs b) (bad_leg b) in
    let R = some_below (legs b) (leg_repeats b) in
    let F = some_below (legs b) (leg_falls b) in
    read_rows_lem b p.five (none_left B R (none_left (B || R) F (none_left (B || R || F) (some_below (legs b) (λ i. not (leg_begins b i))) p.seven))) p.eight

-- its departure can be read
pub head_there : {b : List ℕ} {places bytes : ℕ} → Passes b places bytes → 16 ≤ length b
head_there {b} p = omega (arith, length_by_counts b p.one p.two)

pub departure_float : {b : List ℕ} {places bytes : ℕ} → Passes b places bytes → book_float (departure_bits b) ≡ true
unfolding row4
departure_float {b} p =
    let J = not (book_float (join_bits b)) in
    let D = not (book_float (departure_bits b)) in
    let L = not (book_float (length_bits b)) in
    let K = some_below (links b) (λ i. not (book_float (link_length b i))) in
    let O = some_below (origins b) (bad_origin_value b) in
    let h : (J || D || L || K || O) ≡ false = none_left (J || D || L || K || O) (some_below (samples b) (bad_sample b)) p.four in
    not-false (book_float (departure_bits b)) (none_right J D (none_left (J || D) L (none_left (J || D || L) K (none_left (J || D || L || K) O h))))

-- ---- the work space

-- slices of these lengths, for a table of so many places
pub record Enough (b : List ℕ) (places r c m : ℕ) : Type 0 where
  pub reals : legs b * 3 + 4 ≤ r
  pub cells : (legs b + 1 + places + links b) * 8 ≤ c
  pub marks : search_room b ≤ m
  -- for the passes
  pub queue : places * 2 ≤ r
  pub flags : places * 8 ≤ c
  pub names : places ≤ m

enough_units : (b : List ℕ) (places u r c m : ℕ) → places ≤ 65535 → u ≡ units_of r c m → work_bytes b places ≤ 64 * u → Enough b places r c m
unfolding work_bytes units_of
enough_units b places u r c m h d w =
    let x : 3 * u ≤ r = omega arith in
    let y : 8 * u ≤ c = omega arith in
    let z : 2 * u ≤ m = omega arith in
    let v : 576 + links b + origins b + destinations b + legs b + places ≤ u = omega arith in
    record { reals = omega arith; cells = omega arith; marks = omega arith; queue = omega arith; flags = omega arith; names = omega arith }

pub places_most : (f n : ℕ) → places_of f n ≤ 65535
unfolding places_of
places_most f n = omega arith

pub places_fit : (f n : ℕ) → (places_of f n * float_width ≤ f) × (places_of f n * number_width ≤ n)
unfolding places_of
places_fit f n = (omega arith, omega arith)

pub enough_of : (b : List ℕ) (f n r c m : ℕ) → Passes b (places_of f n) (bytes_of r c m) → Enough b (places_of f n) r c m
unfolding bytes_of
enough_of b f n r c m p = enough_units b (places_of f n) (units_of r c m) r c m (places_most f n) refl (enough b (places_of f n) (bytes_of r c m) p.three)

-- ---- the reader's answer, once its case is known

module _ (b : List ℕ) (places bytes : ℕ) (cells marks : List ℕ) (r : Result Accepted Refusal) {lent : List ℕ} (read : BookRead b places bytes cells lent marks r) where
  accepted_into : {a : Accepted} → r ≡ Ok a → (a.book ≡ b) × Ready b a.kept cells marks
  accepted_into e = subst (ReadInto b cells marks) e read.into

  pub accepted_book : {a : Accepted} → r ≡ Ok a → a.book ≡ b
  accepted_book e = (accepted_into e).0

  pub accepted_ready : {a : Accepted} → r ≡ Ok a → Ready a.book a.kept cells marks
  accepted_ready {a} e = subst (λ (x : List ℕ). Ready x a.kept cells marks) (sym (accepted_book e)) (accepted_into e).1

  pub accepted_zero : {a : Accepted} → r ≡ Ok a → read_number b places bytes ≡ 0
  accepted_zero e = sym read.number ∙ ap (λ (x : Result Accepted Refusal). number_of (told x)) e

  pub refused_number : {k : Refusal} → r ≡ Err k → read_number b places bytes ≡ refusal_number k
  refused_number e = sym read.number ∙ ap (λ (x : Result Accepted Refusal). number_of (told x)) e

-- the reader was told how many places there are
pub read_as : {b : List ℕ} {places more bytes : ℕ} {cells lent marks : List ℕ} {r : Result Accepted Refusal} → places ≡ more → BookRead b places bytes cells lent marks r → BookRead b more bytes cells lent marks r
read_as {b} {places} {more} {bytes} {cells} {lent} {marks} {r} e = subst (λ (k : ℕ). BookRead b k bytes cells lent marks r) e
