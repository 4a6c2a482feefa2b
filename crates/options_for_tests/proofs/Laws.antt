-- The number of a part by its length, and the whole answer from what its steps leave.
use mathlib.Core.Path.{◌≡◌, refl, sym, ap, ◌∙◌, subst}
use mathlib.Core.Bool.{Bool, false, cond}
use mathlib.Core.List.{List}
use Prim.Native.Nat.{ℕ, zero, suc}
use borrow.Author.Tests.{eq-eqb, ne_eqb}
use lib.ListN.{length}
use Rattle.space.specs.Space.{zeros}
use Rattle.space.specs.Lent.{Work, bytes_in, Cleared}
use Rattle.space.proofs.Zeros.{zeros_length}
use Rattle.book_options.specs.Options.{row8, link_options, kept_origins, search_room, OptionsIn}
use Rattle.std.proofs.Common.{Result, Ok, Err}
use Rattle.std.specs.Result.{result_unwrap_or}
use Rattle.laws.specs.Answer.{number_of}
use Rattle.refusals.specs.declared.Refusal.{Refusal}
use Rattle.refusals.specs.Refusals.{refusal_number, told}
use Rattle.refusals.proofs.Numbers.{refusal_some}
use Rattle.book_reader.specs.declared.Accepted.{Accepted}
use Rattle.book_reader.specs.Reader.{read_number}
use Rattle.options_for_tests.specs.Searched.{part_number, read_first, search_number, OptionsSearched}
use Rattle.options_for_tests.specs.Steps.{SearchedIn, SearchedAfter}

pub part_right : (b : List ℕ) (n : ℕ) → n ≡ search_room b → part_number b n ≡ 0
part_right b n e = ap (λ (t : Bool). cond t 0 3) (eq-eqb n (search_room b) e)

pub part_wrong : (b : List ℕ) (n : ℕ) → (n ≡ search_room b → ⊥) → part_number b n ≡ 3
part_wrong b n e = ap (λ (t : Bool). cond t 0 3) (ne_eqb n (search_room b) e)

-- a refusal of the reader goes first
pub refused_first : (r : Refusal) (part : ℕ) → refusal_number r ≡ read_first (refusal_number r) part
refused_first r part = go (refusal_number r) (refusal_some r)
  where
    go : (n : ℕ) → (n ≡ 0 → ⊥) → n ≡ read_first n part
    go zero h = absurd (h refl)
    go (suc n) h = refl

-- a book that row 8 lets through has its options
pub options_found : (b : List ℕ) (r : Result ℕ Refusal) → row8 b ≡ false → r ≡ link_options b → r ≡ Ok (length (kept_origins b))
unfolding link_options
options_found b r h e = rw (e, h)

-- the search after a reading of number n
module _ {b given part : List ℕ} {reading : Result Accepted Refusal} {found : Result ℕ Refusal} {n : ℕ} (read : number_of (told reading) ≡ n) where
  pub read_refused : {r : Refusal} → reading ≡ Err r → found ≡ Err r → part ≡ given → SearchedAfter b n given part found
  read_refused {r} e f p =
      let m : refusal_number r ≡ n = sym (ap (λ (x : Result Accepted Refusal). number_of (told x)) e) ∙ read in
      rw f (record { number = subst (λ (x : ℕ). refusal_number r ≡ read_first x (part_number b (length given))) m (refused_first r (part_number b (length given))); into = p })

  pub read_accepted : {a : Accepted} → reading ≡ Ok a → a.book ≡ b → number_of (told found) ≡ part_number a.book (length given) → SearchedIn a.book given part found → SearchedAfter b n given part found
  read_accepted {a} e d h i =
      let m : 0 ≡ n = sym (ap (λ (x : Result Accepted Refusal). number_of (told x)) e) ∙ read in
      record {
        number = h ∙ ap (λ (x : List ℕ). part_number x (length given)) d ∙ ap (λ (x : ℕ). read_first x (part_number b (length given))) m;
        into = subst (λ (x : List ℕ). SearchedIn x given part found) d i;
      }

module _ (b given part : List ℕ) where
  some_kept : (found : Result ℕ Refusal) (kept : ℕ) → SearchedIn b given part found → kept ≡ result_unwrap_or found 0 → number_of (told found) ≡ 0
      → (kept ≡ length (kept_origins b)) × OptionsIn b part
  some_kept (Ok n) kept h k e = (k ∙ h.0, h.1)
  some_kept (Err r) kept h k e = absurd (refusal_some r e)

  none_kept : (found : Result ℕ Refusal) (kept : ℕ) → SearchedIn b given part found → kept ≡ result_unwrap_or found 0 → (number_of (told found) ≡ 0 → ⊥)
      → (kept ≡ 0) × (part ≡ given)
  none_kept (Ok n) kept h k e = absurd (e refl)
  none_kept (Err r) kept h k e = (k, h)

-- The reading is that of the lent work space; the part was made zero before the search.
module _ {b : List ℕ} {places : ℕ} {lent left : Work} {given blank part : List ℕ} {found : Result ℕ Refusal} {kept r : ℕ} where
  pub searched_whole : blank ≡ zeros (length given) → SearchedAfter b (read_number b places (bytes_in lent)) blank part found → kept ≡ result_unwrap_or found 0 → r ≡ number_of (told found) → Cleared lent left
      → OptionsSearched b places lent left given part kept r
  unfolding search_number
  searched_whole z after k n w = record {
    number = n ∙ after.number ∙ ap (λ (x : ℕ). read_first (read_number b places (bytes_in lent)) (part_number b x)) (ap length z ∙ zeros_length (length given));
    many = λ e. (some_kept b blank part found kept after.into k (sym n ∙ e)).0;
    found = λ e. (some_kept b blank part found kept after.into k (sym n ∙ e)).1;
    none = λ e. (none_kept b blank part found kept after.into k (λ o. e (n ∙ o))).0;
    zero = λ e. (none_kept b blank part found kept after.into k (λ o. e (n ∙ o))).1 ∙ z;
    work = w;
  }
