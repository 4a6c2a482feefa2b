-- What is read and printed for one book of the stream, and for all.
use Rattle.std.specs.Prelude.{◌≡◌, ◌⊎◌, ℕ, zero, suc, ◌≤◌, ◌<◌, List, [], ◌∷◌, ◌++◌, codes, length, Option}
use Rattle.std.specs.Fmt.{decimal}
use Rattle.std.specs.Io.KnownBytes.{Appends, Consumes, IsAtEnd}
use Rattle.fields.specs.Fields.{u32_at}
use Rattle.sheets.specs.Sheets.{SheetPrinted}

-- A book of so many bytes, or of fewer where the input ends, is taken from the input, and its text is printed.
pub record BookAnswered (size : ℕ) (before now held holds : Option (List ℕ)) : Type 0 where
  pub book : List ℕ
  pub read : Consumes before now book
  pub most : length book ≤ size
  pub fewer : length book < size → IsAtEnd now
  pub printed : SheetPrinted book held holds

-- Four bytes, the size of a book, are taken from the input, and its answer is printed behind a line of its number.
pub record NextAnswered (k : ℕ) (before now held holds : Option (List ℕ)) : Type 0 where
  pub head : List ℕ
  pub left : Option (List ℕ)
  pub between : Option (List ℕ)
  pub four : length head ≡ 4
  pub read : Consumes before left head
  pub heading : Appends held between (codes "== " ++ decimal k ++ 10 ∷ [])
  pub book : BookAnswered (u32_at head 0) left now between holds

-- Nothing is read and nothing is printed.
pub record Untouched (before now held holds : Option (List ℕ)) : Type 0 where
  pub unread : now ≡ before
  pub unprinted : holds ≡ held

-- The input ends before the four bytes of a size: nothing is printed.
pub record CutOff (before now held holds : Option (List ℕ)) : Type 0 where
  pub head : List ℕ
  pub few : length head < 4
  pub read : Consumes before now head
  pub end : IsAtEnd now
  pub unprinted : holds ≡ held

-- Four bytes give a size that no book may have: the line of its number is printed, and the book is left unread.
pub record TooLong (k : ℕ) (before now held holds : Option (List ℕ)) : Type 0 where
  pub head : List ℕ
  pub four : length head ≡ 4
  pub long : 65536 < u32_at head 0
  pub read : Consumes before now head
  pub heading : Appends held holds (codes "== " ++ decimal k ++ 10 ∷ [])

-- Where no book is answered.
abbrev pub NoneAnswered : ℕ → Option (List ℕ) → Option (List ℕ) → Option (List ℕ) → Option (List ℕ) → Type 0
NoneAnswered k before now held holds = CutOff before now held holds ⊎ TooLong k before now held holds

-- The first n books are answered one behind the other, with numbers from 0.
unfoldable pub BooksAnswered : ℕ → Option (List ℕ) → Option (List ℕ) → Option (List ℕ) → Option (List ℕ) → Type 0
BooksAnswered zero before now held holds = Untouched before now held holds
BooksAnswered (suc n) before now held holds =
    (left : Option (List ℕ)) × ((between : Option (List ℕ)) × (BooksAnswered n before left held between
    × NextAnswered n left now between holds))

-- The whole stream: all its books are answered, up to a million; at most one behind them is cut off or too long.
pub record StreamAnswered (before now held holds : Option (List ℕ)) : Type 0 where
  pub books : ℕ
  pub left : Option (List ℕ)
  pub between : Option (List ℕ)
  pub answered : BooksAnswered books before left held between
  pub behind : NoneAnswered books left now between holds ⊎ ((books ≡ 1000000) × Untouched left now between holds)
