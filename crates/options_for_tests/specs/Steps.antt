-- What the steps of the entry leave. Only the contracts of private functions use these words.
use Rattle.std.specs.Prelude.{◌≡◌, List, ℕ, length, Result, Ok, Err}
use Rattle.laws.specs.Answer.{number_of}
use Rattle.refusals.specs.declared.Refusal.{Refusal}
use Rattle.refusals.specs.Refusals.{told}
use Rattle.book_options.specs.Options.{kept_origins, OptionsIn}
use Rattle.options_for_tests.specs.Searched.{part_number, read_first}

-- what an answer says of the part: the options, or what was there
abbrev pub SearchedIn : List ℕ → List ℕ → List ℕ → Result ℕ Refusal → Type 0
SearchedIn b given part (Ok n) = (n ≡ length (kept_origins b)) × OptionsIn b part
SearchedIn b given part (Err r) = part ≡ given

-- the search in a part, after a reading of that number
pub record SearchedAfter (b : List ℕ) (reading : ℕ) (given part : List ℕ) (r : Result ℕ Refusal) : Type 0 where
  pub number : number_of (told r) ≡ read_first reading (part_number b (length given))
  pub into : SearchedIn b given part r
