-- What the functions for other languages promise. Each is thin: there is an answer of the crate's own entry, which
-- meets that entry's promise over all that is lent, and the number, the counts and the report are those of this answer.
use Rattle.std.specs.Prelude.{◌≡◌, List, ℕ, Float, Result}
use Rattle.std.proofs.Math.Option.{Option}
use Rattle.report.specs.Numbers.{numbers_of}
use Rattle.net_node.specs.Lent.{Slices}
use Rattle.laws.specs.Answer.{Answer, refused, given, number_of}
use Rattle.space.specs.Lent.{Work, bytes_in, Cleared}
use Rattle.book_reader.specs.Reader.{read_number}
use Rattle.event_maker.specs.Maker.{LentLeg, EventList, EventsMade}
use Rattle.pass_table.specs.TableEntry.{TimesUpdated}
use Rattle.refusals.specs.Refusals.{told}
use Rattle.grow_for_tests.specs.Grown.{NetworkGrown}
use Rattle.report.specs.declared.Report.{Report}
use Rattle.refusals.specs.declared.Refusal.{Refusal}
use Rattle.est_times.specs.Sheet.{SheetMade, sheet_number, reported}
use Rattle.listing.specs.declared.ListingError.{ListingError}
use Rattle.listing.specs.Listing.{TextListed, listed_number, listed_length}

-- how many an answer has, none for a refusal
abbrev pub count_told : Answer ℕ → ℕ
count_told (given n) = n
count_told (refused k) = 0

-- the number that a book gets by rows 1 to 8, 0 where none holds; "work space is zero either way"
pub record BookChecked (b : List ℕ) (places : ℕ) (lent left : Work) (r : ℕ) : Type 0 where
  pub number : r ≡ read_number b places (bytes_in lent)
  pub space : Cleared lent left

pub record EventsGiven (l : LentLeg) (lent left : EventList) (count r : ℕ) : Type 0 where
  pub made : Answer ℕ
  pub listed : EventsMade l lent left made
  pub number : r ≡ number_of made
  pub counted : count ≡ count_told made

pub record TimesGiven (lent left : Slices) (departure : Float) (nodes r : ℕ) : Type 0 where
  pub timed : Result ℕ Refusal
  pub updated : TimesUpdated lent left departure timed
  pub number : r ≡ number_of (told timed)
  pub counted : nodes ≡ count_told (told timed)

pub record NetworkGiven (b : List ℕ) (lent left : Slices) (report : List ℕ) (r : ℕ) : Type 0 where
  pub grown : Result Report Refusal
  pub made : NetworkGrown b lent left grown
  pub number : r ≡ sheet_number grown
  pub reports : report ≡ numbers_of (reported grown)

pub record SheetGiven (b : List ℕ) (lent left : Slices) (report : List ℕ) (r : ℕ) : Type 0 where
  pub sheet : Result Report Refusal
  pub made : SheetMade b lent left sheet
  pub number : r ≡ sheet_number sheet
  pub reports : report ≡ numbers_of (reported sheet)

pub record ListingGiven (text : Option (List ℕ)) (lent left : List ℕ) (size r : ℕ) : Type 0 where
  pub listed : Result ℕ ListingError
  pub written : TextListed text lent left listed
  pub number : r ≡ listed_number listed
  pub sized : size ≡ listed_length listed
