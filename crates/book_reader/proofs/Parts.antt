-- The search's part of the marks, back among all of them: what it holds, and what stands behind it.
use mathlib.Core.Path.{◌≡◌, sym, ap, ◌∙◌}
use mathlib.Core.List.{List, ◌++◌}
use Prim.Native.Nat.{ℕ, ◌+◌, ◌*◌, ◌%◌, ◌<◌}
use native.Mathlib.Omega.{arith}
use lib.Dec.{eqb}
use lib.ListN.{length, get_or, drop, get_or-append}
use lib.Seq.{drop-append_seam}
use Rattle.book_format.specs.Format.{links, destinations}
use Rattle.book_options.specs.Options.{search_room}
use Rattle.book_options.proofs.Kept.{kept_most}
use Rattle.std.proofs.Common.{Result, Ok, Err}
use Rattle.refusals.specs.declared.Refusal.{Refusal}
use Rattle.book_reader.specs.declared.Accepted.{Accepted}
use Rattle.book_reader.specs.Reader.{Ready, ReadInto}

module _ (b cells part rest : List ℕ) (e : length part ≡ search_room b) where
  stands : (i : ℕ) → i < search_room b → get_or (part ++ rest) i 0 ≡ get_or part i 0
  stands i h = get_or-append part rest 0 i (omega (arith, e))

  ready_among : {n : ℕ} → Ready b n cells part → Ready b n cells (part ++ rest)
  ready_among r = record {
    readable = r.readable;
    row6 = r.row6;
    row7 = r.row7;
    row8 = r.row8;
    chained = r.chained;
    rest = r.rest;
    marked = record {
      set = λ l h. ap (λ (x : ℕ). eqb (x % 2) 1) (stands l (omega arith)) ∙ r.marked.set l h;
      kept = λ k h. stands (2 * links b + destinations b + k) (omega (arith, kept_most b)) ∙ r.marked.kept k h;
    };
    starts = record { starts = λ l h. stands (links b + l) (omega arith) ∙ r.starts.starts l h };
    kept = r.kept;
  }

  pub read_among : (r : Result Accepted Refusal) → ReadInto b cells part r → ReadInto b cells (part ++ rest) r
  read_among (Ok a) h = (h.0, ready_among h.1)
  read_among (Err r) h = h

-- what stood behind a part still stands there
pub behind_part : (b lent part : List ℕ) (room : ℕ) → length part ≡ search_room b → room ≡ search_room b → drop (search_room b) (part ++ drop room lent) ≡ drop (search_room b) lent
behind_part b lent part room e r = ap (λ (n : ℕ). drop n (part ++ drop room lent)) (sym e) ∙ drop-append_seam part (drop room lent) ∙ ap (λ (n : ℕ). drop n lent) r
