-- A book's listing in a lent slice: its sheet's, or `refused N`.
use Rattle.std.specs.Prelude.{◌≡◌, List, ◌++◌, ℕ, ◌-◌, ◌*◌, length, Result}
use Rattle.std.proofs.Math.Option.{Option, some}
use Rattle.std.specs.declared.option.Option.{Option as Known}
use Rattle.std.specs.Io.KnownBytes.{Appends}
use Rattle.space.specs.Space.{zeros}
use Rattle.net_node.specs.Table.{float_width, number_width, Table}
use Rattle.net_node.specs.Left.{floats_left, numbers_left}
use Rattle.net_node.specs.Lent.{Slices, Sizes}
use Rattle.report.specs.declared.Report.{Report}
use Rattle.refusals.specs.declared.Refusal.{Refusal}
use Rattle.refusals.specs.Refusals.{told}
use Rattle.laws.specs.Answer.{Answer, refused, given}
use Rattle.est_times.specs.Sheet.{job, answered, sheet_of, SheetMade}
use Rattle.listing.specs.declared.ListingError.{ListingError}
use Rattle.listing.specs.Listing.{refused_text, sheet_in, TextListed}

-- the text of an answer and the table that it left
abbrev pub text_of : Answer Report → Table → Option (List ℕ)
text_of (given r) t = sheet_in r t
text_of (refused k) t = some (refused_text k)

-- the table that a book's job leaves, of slices of these sizes
abbrev pub table_left : List ℕ → Sizes → Table
table_left b z = record {
  floats = floats_left (sheet_of (job b z)) z.floats;
  numbers = numbers_left (sheet_of (job b z)) z.numbers;
}

-- the text of a book
abbrev pub book_text : List ℕ → Sizes → Option (List ℕ)
book_text b z = text_of (answered (job b z)) (table_left b z)

-- what the program `sheet` lends: "192 nodes; 65,536 bytes of work space"
abbrev pub program_sizes : Sizes
program_sizes = record { floats = 192 * float_width; numbers = 192 * number_width; bytes = 65536 }

-- The promise of a function from a book to its listing: the sheet is made in what is lent, and its text is listed.
pub record BookListed (b : List ℕ) (lent left : Slices) (out listing : List ℕ) (r : Result ℕ ListingError)
    : Type 0 where
  pub sheet : Result Report Refusal
  pub made : SheetMade b lent left sheet
  pub written : TextListed (text_of (told sheet) left.table) out listing r

-- What the program `sheet` prints, in an array of 65,536 bytes, which has room for it whatever the book is: there is a
-- text, the first n bytes are the text, and zeros stand behind it.
pub record SheetText (b array : List ℕ) (n : ℕ) : Type 0 where
  pub text : List ℕ
  pub is : book_text b program_sizes ≡ some text
  pub size : n ≡ length text
  pub bytes : array ≡ text ++ zeros (65536 - n)

-- What is printed for a book: its text, behind the bytes that a writer held.
pub record SheetPrinted (b : List ℕ) (held holds : Known (List ℕ)) : Type 0 where
  pub text : List ℕ
  pub is : book_text b program_sizes ≡ some text
  pub bytes : Appends held holds text
