-- What a single row of a section says of rows 4 to 7: the lowest number that it gives, and the lowest over all rows of
-- all sections. A number of 0 is none.
use Rattle.std.specs.Prelude.{Bool, false, not, ◌||◌, cond, List, [], ◌∷◌, ℕ, zero, suc, ◌-◌, min, ltb}
use Rattle.laws.specs.Refusals.{Row, row, first_of}
use Rattle.floats.specs.Floats.{book_float}
use Rattle.book_format.specs.Format.{links, origins, destinations, samples, join_bits, departure_bits, length_bits}
use Rattle.book_format.specs.Format.{link_length, origin_link, destination_link}
use Rattle.book_format.specs.Rows.{no_such_link, link_zero, bad_link, bad_origin_value, bad_origin_place, bad_leg_index}
use Rattle.book_format.specs.Rows.{bad_leg, bad_sample}
use Rattle.book_format.specs.Rows.{row4, row5, some_bad_place, some_bad_leg}

-- the lower of two numbers
unfoldable pub lower : ℕ → ℕ → ℕ
lower zero n = n
lower (suc m) zero = suc m
lower (suc m) (suc n) = suc (min m n)

-- the lowest of the numbers that f gives below n
unfoldable pub lowest_below : ℕ → (ℕ → ℕ) → ℕ
unfolding lower
lowest_below zero f = 0
lowest_below (suc n) f = lower (lowest_below n f) (f n)

-- ---- the number of one row: tests for 4, 5, 6 and 7

abbrev pub rows4to7 : Bool → Bool → Bool → Bool → List Row
rows4to7 four five six seven = row 4 four ∷ row 5 five ∷ row 6 six ∷ row 7 seven ∷ []

-- the number of the first of four tests that holds
abbrev pub first_number : Bool → Bool → Bool → Bool → ℕ
first_number four five six seven = first_of (rows4to7 four five six seven)

-- the floats at the head, and link 0
unfoldable pub head_number : List ℕ → ℕ
head_number b =
    first_number
    (not (book_float (join_bits b)) || not (book_float (departure_bits b)) || not (book_float (length_bits b)))
    (not (link_zero b)) false false

unfoldable pub link_number : List ℕ → ℕ → ℕ
link_number b i = first_number (not (book_float (link_length b i))) (bad_link b i) false false

unfoldable pub origin_number : List ℕ → ℕ → ℕ
origin_number b i = first_number (bad_origin_value b i) (no_such_link b (origin_link b i)) (bad_origin_place b i) false

unfoldable pub destination_number : List ℕ → ℕ → ℕ
destination_number b i = first_number false (no_such_link b (destination_link b i)) false false

unfoldable pub leg_number : List ℕ → ℕ → ℕ
leg_number b i = first_number false (bad_leg_index b i) false (bad_leg b i)

unfoldable pub sample_number : List ℕ → ℕ → ℕ
sample_number b k = first_number (bad_sample b k) false false false

-- ---- all rows in one count: the samples, of which there are most, come first, and the legs last

-- f below m, and from m on g, counted anew
unfoldable pub splice : ℕ → (ℕ → ℕ) → (ℕ → ℕ) → ℕ → ℕ
splice m f g k = cond (ltb k m) (f k) (g (k - m))

unfoldable pub row_number : List ℕ → ℕ → ℕ
unfolding splice
row_number b =
    splice (samples b) (sample_number b)
    (splice (links b) (link_number b)
    (splice (origins b) (origin_number b)
    (splice (destinations b) (destination_number b) (leg_number b))))

-- ---- the whole book, as far as single rows tell: rows 4 and 5, and 6 and 7 without their repeats and samples

unfoldable pub single_number : List ℕ → ℕ
single_number b = first_number (row4 b) (row5 b) (some_bad_place b) (some_bad_leg b)
