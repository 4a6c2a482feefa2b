-- What the stages of the reader ask for and leave. Only the contracts of private functions use these words.
use Rattle.std.specs.Prelude.{◌≡◌, false, cond, List, ℕ, ◌+◌, ◌*◌, ◌≤◌, length, get_or, Result, Ok, Err}
use Rattle.laws.specs.Answer.{number_of}
use Rattle.laws.specs.Refusals.{first_of}
use Rattle.space.specs.Space.{zeros}
use Rattle.refusals.specs.declared.Refusal.{Refusal}
use Rattle.refusals.specs.declared.Refusal.TheVariants.{BadLeg}
use Rattle.refusals.specs.Refusals.{refusal_number, told}
use Rattle.book_format.specs.Format.{legs}
use Rattle.book_format.specs.Rows.{row1, row2, row3, row4, row5, row6, row7, some_bad_place, some_bad_leg}
use Rattle.book_format.specs.Chains.{Counted, Chained}
use Rattle.book_reader.specs.declared.Accepted.{Accepted}
use Rattle.book_reader.specs.declared.Tested.{Tested}
use Rattle.book_reader.specs.Reader.{read_number, rows_from6, ReadInto}

-- rows 1, 2, 4 and 5 don't hold, nor row 3 but for the work space, nor row 6 of a single origin
pub record RowsPassed (b : List ℕ) : Type 0 where
  pub row1 : row1 b ≡ false
  pub row2 : row2 b ≡ false
  pub counted : Counted b
  pub row4 : row4 b ≡ false
  pub row5 : row5 b ≡ false
  pub places : some_bad_place b ≡ false

-- ---- the work space

-- cells for the legs, and just so many marks; all zero
pub record Blank (b cells marks : List ℕ) (asked : ℕ) : Type 0 where
  pub cells_room : (legs b + 1) * 8 ≤ length cells
  pub marks_room : length marks ≡ asked
  pub cells_zero : cells ≡ zeros (length cells)
  pub marks_zero : marks ≡ zeros (length marks)

-- the legs are chained in the cells, and the cells behind them still zero
pub record ChainedOnly (b cells : List ℕ) : Type 0 where
  pub chained : Chained b cells
  pub rest : (q : ℕ) → (legs b + 1) * 8 ≤ q → get_or cells q 0 ≡ 0

-- ---- the stages

-- what a single leg is refused for: row 7, as far as it looks at no other
abbrev pub legs_answer : List ℕ → Result (Unit {0}) Refusal
legs_answer b = cond (some_bad_leg b) (Err BadLeg) (Ok tt)

-- rows 1 to 5, and row 6 of a single origin, are passed; `legs` says what a single leg is refused for
pub record LeftToRead (b : List ℕ) (places bytes : ℕ) (legs : Result (Unit {0}) Refusal) : Type 0 where
  pub passed : RowsPassed b
  pub row3 : row3 b places bytes ≡ false
  pub single : legs ≡ legs_answer b

-- the first stage: a refusal, or what is left to read of the book
abbrev pub TestedAs : List ℕ → ℕ → ℕ → Result Tested Refusal → Type 0
TestedAs b places bytes (Err r) = refusal_number r ≡ read_number b places bytes
TestedAs b places bytes (Ok t) = (t.book ≡ b) × LeftToRead b places bytes t.legs

-- rows 6 and 7 are passed, the legs chained, and the marks zero again
pub record RepeatsPassed (b cells marks : List ℕ) : Type 0 where
  pub row6 : row6 b ≡ false
  pub row7 : row7 b ≡ false
  pub chained : ChainedOnly b cells
  pub marks_zero : marks ≡ zeros (length marks)

-- rows 6 and 7: a refusal, or the book, of which both are passed
abbrev pub RepeatsTested : List ℕ → List ℕ → List ℕ → Result (List ℕ) Refusal → Type 0
RepeatsTested b cells marks (Err r) = refusal_number r ≡ first_of (rows_from6 b)
RepeatsTested b cells marks (Ok c) = (c ≡ b) × RepeatsPassed b cells marks

-- rows 6 to 8
pub record RestRead (b cells marks : List ℕ) (r : Result Accepted Refusal) : Type 0 where
  pub number : number_of (told r) ≡ first_of (rows_from6 b)
  pub into : ReadInto b cells marks r
