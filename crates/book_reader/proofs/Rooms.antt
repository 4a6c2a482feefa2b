-- What row 3 leaves: the counts, and room in the lent work space. More work space than is ever asked for counts as 64,000,000 bytes.
use mathlib.Core.Path.{◌≡◌, refl, sym, ap, ◌∙◌}
use mathlib.Core.Bool.{Bool, true, false, not, ◌||◌}
use mathlib.Core.List.{List, ◌∷◌}
use Prim.Native.Nat.{ℕ, ◌+◌, ◌*◌, ◌≤◌, ◌<◌, min}
use native.Mathlib.Omega.{arith}
use lib.Dec.{eqb, ltb}
use lib.ListN.{length, take}
use lib.Seq.{length-take-le}
use borrow.Author.Tests.{ltb-false, ltb-true, lt-ltb, le-ltb, eqb-true, not-false}
use Rattle.laws.specs.Below.{some_below, sum_below}
use Rattle.laws.specs.Refusals.{row, first_of}
use Rattle.laws.proofs.Truth.{none_left, none_right}
use Rattle.space.specs.Space.{units_of, bytes_of, zeros}
use Rattle.space.proofs.Zeros.{zeros_front}
use Rattle.book_format.specs.Format.{links, legs, samples, leg_samples}
use Rattle.book_format.specs.Rows.{bad_count, work_bytes, row1, row2, row3}
use Rattle.book_format.specs.Chains.{Counted}
use Rattle.book_format.proofs.Given.{limits}
use Rattle.book_reader.specs.Reader.{rows_from4, read_number}
use Rattle.book_options.specs.Options.{search_room}
use Rattle.book_reader.specs.Stages.{Blank}

row3_is : (b : List ℕ) (p y : ℕ) → row3 b p y ≡ (bad_count b || some_below (legs b) (λ i. eqb (leg_samples b i) 0) || not (eqb (sum_below (legs b) (leg_samples b)) (samples b)) || ltb y (work_bytes b p))
unfolding row3
row3_is b p y = refl

pub counted_of : (b : List ℕ) (p y : ℕ) → row3 b p y ≡ false → Counted b
counted_of b p y e =
    let A = bad_count b in
    let B = some_below (legs b) (λ i. eqb (leg_samples b i) 0) in
    let C = not (eqb (sum_below (legs b) (leg_samples b)) (samples b)) in
    let h = none_left (A || B || C) (ltb y (work_bytes b p)) (sym (row3_is b p y) ∙ e) in
    let g = none_left (A || B) C h in
    record {
      counts = none_left A B g;
      some = none_right A B g;
      sums = eqb-true (sum_below (legs b) (leg_samples b)) (samples b) (not-false (eqb (sum_below (legs b) (leg_samples b)) (samples b)) (none_right (A || B) C h));
    }

pub enough : (b : List ℕ) (p y : ℕ) → row3 b p y ≡ false → work_bytes b p ≤ y
enough b p y e =
    ltb-false y (work_bytes b p)
    (none_right (bad_count b || some_below (legs b) (λ i. eqb (leg_samples b i) 0) || not (eqb (sum_below (legs b) (leg_samples b)) (samples b))) (ltb y (work_bytes b p)) (sym (row3_is b p y) ∙ e))

-- the lent slices have room for the chains and for the search's part of the marks
module _ (b : List ℕ) (p u reals y : ℕ) (cells marks : List ℕ) (f : y ≡ min (64 * u) 64000000) (e : row3 b p y ≡ false) (d : u ≡ units_of reals (length cells) (length marks)) where
  chains_fit : (legs b + 1) * 8 ≤ length cells
  unfolding work_bytes units_of
  chains_fit = let w = enough b p y e in let c : 8 * u ≤ length cells = omega arith in omega arith

  pub part_fits : search_room b ≤ length marks
  unfolding work_bytes units_of
  part_fits = let w = enough b p y e in let m : 2 * u ≤ length marks = omega arith in omega arith

  -- that part, of slices that are zero
  pub blank_of : cells ≡ zeros (length cells) → marks ≡ zeros (length marks) → (room : ℕ) → room ≡ search_room b → Blank b cells (take room marks) (search_room b)
  blank_of g h room r = record { cells_room = chains_fit; marks_room = omega (arith, length-take-le room marks (omega (arith, part_fits)), r); cells_zero = g; marks_zero = zeros_front room h }

-- there is a link
pub some_link : (b : List ℕ) (p y : ℕ) → row3 b p y ≡ false → 0 < links b
some_link b p y e = (limits b (counted_of b p y e).counts).links_some

-- ---- capped bytes

asked_most : (b : List ℕ) (p : ℕ) → bad_count b ≡ false → work_bytes b p ≤ 64000000
unfolding work_bytes
asked_most b p e = omega (arith, limits b e)

same_test : (y w : ℕ) → w ≤ 64000000 → ltb (min y 64000000) w ≡ ltb y w
same_test y w h = go (ltb y w) refl
  where
    go : (t : Bool) → ltb y w ≡ t → ltb (min y 64000000) w ≡ t
    go true e = let l = ltb-true y w e in lt-ltb (min y 64000000) w (omega arith)
    go false e = let l = ltb-false y w e in le-ltb (min y 64000000) w (omega arith)

row3_capped : (b : List ℕ) (p y : ℕ) → row3 b p (min y 64000000) ≡ row3 b p y
row3_capped b p y = row3_is b p (min y 64000000) ∙ go (bad_count b) refl ∙ sym (row3_is b p y)
  where
    B : Bool
    B = some_below (legs b) (λ i. eqb (leg_samples b i) 0)

    C : Bool
    C = not (eqb (sum_below (legs b) (leg_samples b)) (samples b))

    go : (t : Bool) → bad_count b ≡ t → (bad_count b || B || C || ltb (min y 64000000) (work_bytes b p)) ≡ (bad_count b || B || C || ltb y (work_bytes b p))
    go true e = ap (λ (x : Bool). x || B || C || ltb (min y 64000000) (work_bytes b p)) e ∙ sym (ap (λ (x : Bool). x || B || C || ltb y (work_bytes b p)) e)
    go false e = ap (λ (x : Bool). bad_count b || B || C || x) (same_test y (work_bytes b p) (asked_most b p e))

pub number_capped : (b : List ℕ) (p u reals cells marks y : ℕ) → u ≡ units_of reals cells marks → y ≡ min (64 * u) 64000000 → read_number b p y ≡ read_number b p (bytes_of reals cells marks)
unfolding read_number bytes_of
number_capped b p u reals cells marks y d e =
    ap (λ (x : Bool). first_of (row 1 (row1 b) ∷ row 2 (row2 b) ∷ row 3 x ∷ rows_from4 b))
    (ap (row3 b p) e ∙ row3_capped b p (64 * u) ∙ ap (λ (n : ℕ). row3 b p (64 * n)) d)

-- the same by other names of the lengths
pub number_moved : (b : List ℕ) (p x y z x' y' z' : ℕ) → x ≡ x' → y ≡ y' → z ≡ z' → read_number b p (bytes_of x y z) ≡ read_number b p (bytes_of x' y' z')
number_moved b p x y z x' y' z' d e f = ap (read_number b p) (ap (λ (n : ℕ). bytes_of n y z) d ∙ ap (λ (n : ℕ). bytes_of x' n z) e ∙ ap (bytes_of x' y') f)
