-- A book's text on the program's sizes: there is one, since a sheet has no more nodes than the table has places, and it
-- has at most 145 + 192 * 202 bytes, so 65,536 are enough.
use mathlib.Core.Path.{◌≡◌, refl, sym, ap, ◌∙◌, subst}
use mathlib.Core.Bool.{Bool, true}
use mathlib.Core.List.{List, ◌++◌}
use mathlib.Core.Option.{Option, some}
use Prim.Native.Nat.{ℕ, ◌-◌, ◌≤◌}
use native.Mathlib.Omega.{arith}
use borrow.Author.Tests.{le-leb}
use lib.Dec.{leb}
use lib.ListN.{length}
use Rattle.std.specs.Prelude.{Result, Ok}
use Rattle.std.specs.Result.{result_unwrap_or}
use Rattle.laws.specs.Answer.{Answer, refused, given}
use Rattle.report.specs.declared.Report.{Report}
use Rattle.space.specs.Space.{zeros}
use Rattle.net_node.specs.Table.{Table, at}
use Rattle.net_node.specs.Left.{nodes_in, places_of}
use Rattle.net_node.specs.Lent.{Slices, Sizes, sizes_of, places_in}
use Rattle.refusals.specs.Refusals.{told}
use Rattle.est_times.specs.Sheet.{Finished, job, report_of, answered}
use Rattle.est_times.proofs.Networks.{sound}
use Rattle.est_times.proofs.Finished.{job_finished}
use Rattle.listing.specs.declared.ListingError.{ListingError}
use Rattle.listing.specs.Listing.{sheet_text, refused_text, sheet_in, fitted, bytes_as, listed_length, TextListed}
use Rattle.listing.proofs.Lengths.{sheet_most, refused_most}
use Rattle.sheets.specs.Sheets.{text_of, book_text, program_sizes, BookListed, SheetText}
use Rattle.sheets.proofs.Lists.{text_is}

-- there is a text, and 65,536 bytes hold it
pub record Fitting (text : Option (List ℕ)) : Type 0 where
  pub bytes : List ℕ
  pub is : text ≡ some bytes
  pub fits : length bytes ≤ 65536

-- an accepted book's nodes have places
nodes_inside : (b : List ℕ) (z : Sizes) (r : Report) → given r ≡ answered (job b z) → r.nodes ≤ places_in z
nodes_inside b z r = go (job b z) refl
  where
    go : (j : Answer Finished) → job b z ≡ j → given r ≡ answered j → r.nodes ≤ places_in z
    go (refused k) d e = absurd (cc)
    go (given f) d e = let q : r ≡ report_of f.grown = cc in let n = ap (λ (x : Report). x.nodes) q in let i = (sound b z f.grown (job_finished b z f d).network_given).whole.inside in omega arith

-- no more than the table has, of which both slices are as long as before
places_filled : (f n : ℕ) (t : Table) → length t.floats ≡ f → length t.numbers ≡ n → places_of f n ≤ nodes_in t
unfolding places_of nodes_in
places_filled f n t p q = omega (arith, p, q)

sheet_fits : (r : Report) (t : Table) → r.nodes ≤ nodes_in t → r.nodes ≤ 192 → Fitting (sheet_in r t)
unfolding sheet_in
sheet_fits r t h l = record {
  bytes = sheet_text r (at t);
  is = rw (le-leb r.nodes (nodes_in t) h) refl;
  fits = omega (arith, sheet_most r (at t), l);
}

text_fits : (b : List ℕ) (z : Sizes) (s : Answer Report) (t : Table) → s ≡ answered (job b z) → places_in z ≤ nodes_in t → places_in z ≤ 192 → Fitting (text_of s t)
text_fits b z (given r) t e h l = let i = nodes_inside b z r e in sheet_fits r t (omega arith) (omega arith)
text_fits b z (refused k) t e h l = record { bytes = refused_text k; is = refl; fits = omega (arith, refused_most k) }

program_places : places_in program_sizes ≡ 192
unfolding places_of
program_places = refl

-- ---- listed into an array of 65,536 bytes, on tables of the program's sizes

module _ {b : List ℕ} {lent left : Slices} {out array : List ℕ} {r : Result ℕ ListingError} (l : BookListed b lent left out array r) (sizes : sizes_of lent ≡ program_sizes) (floats : length left.table.floats ≡ program_sizes.floats)
    (numbers : length left.table.numbers ≡ program_sizes.numbers) (room : length out ≡ 65536) where
  fitting : Fitting (text_of (told l.sheet) left.table)
  fitting =
      let p = program_places in
      let h = places_filled program_sizes.floats program_sizes.numbers left.table floats numbers in
      text_fits b program_sizes (told l.sheet) left.table (l.made.answer ∙ ap (λ (z : Sizes). answered (job b z)) sizes) h (omega arith)

  text_listed : TextListed (some fitting.bytes) out array r
  text_listed = subst (λ (x : Option (List ℕ)). TextListed x out array r) fitting.is l.written

  enough : leb (length fitting.bytes) (length out) ≡ true
  enough = le-leb (length fitting.bytes) (length out) (let h = fitting.fits in omega (arith, room))

  answer_is : r ≡ Ok (length fitting.bytes)
  answer_is = text_listed.answer ∙ ap (λ (t : Bool). fitted t fitting.bytes) enough

  array_is : array ≡ fitting.bytes ++ zeros (65536 - length fitting.bytes)
  array_is = text_listed.bytes ∙ ap (λ (t : Bool). bytes_as t fitting.bytes (length out)) enough ∙ ap (λ (n : ℕ). fitting.bytes ++ zeros (n - length fitting.bytes)) room

  pub whole_text : (n : ℕ) → r ≡ Ok n → SheetText b array n
  whole_text n e =
      let s : n ≡ length fitting.bytes = ap listed_length (sym e ∙ answer_is) in
      record {
        text = fitting.bytes;
        is = ap (book_text b) (sym sizes) ∙ sym (text_is l) ∙ fitting.is;
        size = s;
        bytes = array_is ∙ ap (λ (k : ℕ). fitting.bytes ++ zeros (65536 - k)) (sym s);
      }

  -- there always is one
  pub text_told : {n : ℕ} → n ≡ result_unwrap_or r 0 → SheetText b array n
  text_told {n} e = subst (SheetText b array) (ap (λ (x : Result ℕ ListingError). result_unwrap_or x 0) (sym answer_is) ∙ sym e) (whole_text (length fitting.bytes) answer_is)
