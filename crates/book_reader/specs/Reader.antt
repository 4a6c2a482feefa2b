-- The number of a book by rows 1 to 8, and what a book that passes them leaves in the work space.
use Rattle.std.specs.Prelude.{◌≡◌, false, List, [], ◌∷◌, ℕ, ◌+◌, ◌*◌, ◌≤◌, length, get_or, drop, Result, Ok, Err}
use Rattle.laws.specs.Answer.{number_of}
use Rattle.laws.specs.Refusals.{Row, row, first_of}
use Rattle.refusals.specs.declared.Refusal.{Refusal}
use Rattle.refusals.specs.declared.Refusal.TheVariants.{CutOff, LeftOver, NoPath}
use Rattle.refusals.specs.Refusals.{refusal_number, told}
use Rattle.space.specs.Lent.{Work, bytes_in, Cleared}
use Rattle.book_format.specs.Format.{legs}
use Rattle.book_format.specs.Rows.{row1, row2, row3, row4, row5, row6, row7}
use Rattle.book_format.specs.Chains.{Readable, Chained}
use Rattle.book_legs.specs.Legs.{Started}
use Rattle.book_options.specs.Options.{row8, kept_origins, search_room, OptionsIn}
use Rattle.book_reader.specs.declared.Accepted.{Accepted}

-- ---- "Of 1 to 8 the lowest wins": the rows in their order, cut where the reader's stages begin

unfoldable pub rows_from7 : List ℕ → List Row
rows_from7 b = row 7 (row7 b) ∷ row (refusal_number NoPath) (row8 b) ∷ []

unfoldable pub rows_from6 : List ℕ → List Row
unfolding rows_from7
rows_from6 b = row 6 (row6 b) ∷ rows_from7 b

unfoldable pub rows_from4 : List ℕ → List Row
unfolding rows_from6
rows_from4 b = row 4 (row4 b) ∷ row 5 (row5 b) ∷ rows_from6 b

-- all of them, for a table of so many places and so many bytes of work space
unfoldable pub read_rows : List ℕ → ℕ → ℕ → List Row
unfolding rows_from4
read_rows b places bytes =
    row (refusal_number CutOff) (row1 b)
    ∷ row (refusal_number LeftOver) (row2 b)
    ∷ row 3 (row3 b places bytes)
    ∷ rows_from4 b

-- the number that is given; 0 where none holds
unfoldable pub read_number : List ℕ → ℕ → ℕ → ℕ
unfolding read_rows
read_number b places bytes = first_of (read_rows b places bytes)

-- ---- what is promised

-- a book that was read: its legs chained in the cells and zero behind them, and in the marks
-- the set of the options search, the starting legs by their links, and the n origins kept
pub record Ready (b : List ℕ) (n : ℕ) (cells marks : List ℕ) : Type 0 where
  pub readable : Readable b
  pub row6 : row6 b ≡ false
  pub row7 : row7 b ≡ false
  pub row8 : row8 b ≡ false
  pub chained : Chained b cells
  pub rest : (q : ℕ) → (legs b + 1) * 8 ≤ q → get_or cells q 0 ≡ 0
  pub marked : OptionsIn b marks
  pub starts : Started b marks
  pub kept : n ≡ length (kept_origins b)

-- what an answer says of the cells and marks: the book that was accepted is the one that was read, and ready
abbrev pub ReadInto : List ℕ → List ℕ → List ℕ → Result Accepted Refusal → Type 0
ReadInto b cells marks (Ok a) = (a.book ≡ b) × Ready b a.kept cells marks
ReadInto b cells marks (Err r) = Unit

-- A book read into cells and marks, for a table of so many places and so many bytes of work space. Of the marks the
-- reader uses the part that the options search asks for, and no more: behind it they are as they were lent.
pub record BookRead (b : List ℕ) (places bytes : ℕ) (cells lent marks : List ℕ)
    (r : Result Accepted Refusal) : Type 0 where
  pub number : number_of (told r) ≡ read_number b places bytes
  pub into : ReadInto b cells marks r
  pub rest : drop (search_room b) marks ≡ drop (search_room b) lent

-- a book checked, for a table of so many places: its number, and "work space is zero either way"
pub record Checked (b : List ℕ) (places : ℕ) (lent left : Work) (r : Result (Unit {0}) Refusal) : Type 0 where
  pub number : number_of (told r) ≡ read_number b places (bytes_in lent)
  pub space : Cleared lent left
