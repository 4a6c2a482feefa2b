-- A book's listing is that of the case that its sheet is.
use mathlib.Core.Path.{◌≡◌, sym, ap, ◌∙◌, subst}
use mathlib.Core.List.{List}
use mathlib.Core.Option.{some}
use Prim.Native.Nat.{ℕ}
use Rattle.space.specs.Space.{bytes_of}
use Rattle.report.specs.declared.Report.{Report}
use Rattle.net_node.specs.Lent.{Slices, Sizes, sizes_of}
use Rattle.std.specs.Prelude.{Result, Ok, Err}
use Rattle.laws.specs.Answer.{Answer}
use Rattle.refusals.specs.declared.Refusal.{Refusal}
use Rattle.refusals.specs.Refusals.{refusal_number, told}
use Rattle.est_times.specs.Sheet.{job, answered, SheetMade}
use Rattle.listing.specs.declared.ListingError.{ListingError}
use Rattle.listing.specs.Listing.{refused_text, sheet_in, TextListed}
use Rattle.sheets.specs.Sheets.{text_of, table_left, book_text, program_sizes, BookListed}

module _ {b : List ℕ} {lent left : Slices} {out listing : List ℕ} {r : Result ℕ ListingError} {sheet : Result Report Refusal} (made : SheetMade b lent left sheet) where
  pub made_listed : {report : Report} → sheet ≡ Ok report → TextListed (sheet_in report left.table) out listing r → BookListed b lent left out listing r
  made_listed e l = record { sheet = sheet; made = made; written = subst (λ (s : Result Report Refusal). TextListed (text_of (told s) left.table) out listing r) (sym e) l }

  pub refused_listed : {k : Refusal} → sheet ≡ Err k → TextListed (some (refused_text (refusal_number k))) out listing r → BookListed b lent left out listing r
  refused_listed e l = record { sheet = sheet; made = made; written = subst (λ (s : Result Report Refusal). TextListed (text_of (told s) left.table) out listing r) (sym e) l }

-- ---- a book's text, by the sizes alone

module _ {b : List ℕ} {lent left : Slices} {out listing : List ℕ} {r : Result ℕ ListingError} (l : BookListed b lent left out listing r) where
  left_is : left.table ≡ table_left b (sizes_of lent)
  left_is = λ i. record { floats = l.made.floats i; numbers = l.made.numbers i }

  pub text_is : text_of (told l.sheet) left.table ≡ book_text b (sizes_of lent)
  text_is = ap (λ (s : Answer Report). text_of s left.table) l.made.answer ∙ ap (text_of (answered (job b (sizes_of lent)))) left_is

-- slices of the program's sizes
pub program_sizes_lem : (f n w c m : ℕ) → f ≡ program_sizes.floats → n ≡ program_sizes.numbers → w ≡ 3072 → c ≡ 8192 → m ≡ 2048 → ◌≡◌ {A = Sizes} (record { floats = f; numbers = n; bytes = bytes_of w c m }) program_sizes
unfolding bytes_of
program_sizes_lem f n w c m p q s t u = λ i. record { floats = p i; numbers = q i; bytes = bytes_of (s i) (t i) (u i) }
