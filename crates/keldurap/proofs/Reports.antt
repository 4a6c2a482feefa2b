-- A listing by a report that was read, and the counts of an answer.
use mathlib.Core.Path.{◌≡◌, refl, subst}
use mathlib.Core.List.{List}
use Prim.Native.Nat.{ℕ}
use Rattle.std.specs.Prelude.{Result, Ok, Err, MatchResult}
use Rattle.std.specs.Result.{result_unwrap_or}
use Rattle.refusals.specs.declared.Refusal.{Refusal}
use Rattle.refusals.specs.Refusals.{told}
use Rattle.report.specs.declared.Report.{Report}
use Rattle.net_node.specs.Table.{Table}
use Rattle.event_maker.specs.Maker.{made_count}
use Rattle.listing.specs.declared.ListingError.{ListingError}
use Rattle.listing.specs.Listing.{sheet_in, TextListed, error_number, listed_number, listed_length}
use Rattle.keldurap.specs.Entries.{count_told}

pub as_read : {report lent : Report} (t : Table) {out listing : List ℕ} {r : Result ℕ ListingError} → report ≡ lent → TextListed (sheet_in report t) out listing r → TextListed (sheet_in lent t) out listing r
as_read t {out} {listing} {r} e = subst (λ (x : Report). TextListed (sheet_in x t) out listing r) e

-- ---- how many an answer has

pub count_is : (r : Result ℕ Refusal) → result_unwrap_or r 0 ≡ count_told (told r)
count_is (Ok n) = refl
count_is (Err e) = refl

pub made_as : (r : Result ℕ Refusal) → made_count (told r) ≡ count_told (told r)
made_as (Ok n) = refl
made_as (Err e) = refl

-- the number of a listing's answer
pub number_is : (r : Result ℕ ListingError) {n : ℕ} {P : ℕ → Type 0} {Q : ListingError → Type 0} → MatchResult r P Q
    → ((k : ℕ) → P k → n ≡ 0) → ((e : ListingError) → Q e → n ≡ error_number e) → n ≡ listed_number r
number_is (Ok k) h listed failed = listed k h
number_is (Err e) h listed failed = failed e h

pub length_is : (r : Result ℕ ListingError) → result_unwrap_or r 0 ≡ listed_length r
length_is (Ok n) = refl
length_is (Err e) = refl
