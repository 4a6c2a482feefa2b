-- Refusals in their order. Document 01: "Of 1 to 8 the lowest wins"; document 02 puts 20 between 6 and 7, and 18
-- between 7 and 8. The order is that of the list alone, and numbers in it need not rise.
use Rattle.std.specs.Prelude.{Bool, cond, List, [], ◌∷◌, ℕ}

-- a row of the table of refusals: its number, and whether it holds
pub record Row : Type 0 where
  pub number : ℕ
  pub holds : Bool

abbrev pub row : ℕ → Bool → Row
row n b = record { number = n; holds = b }

-- the number of the first that holds, and 0 where none does
unfoldable pub first_of : List Row → ℕ
first_of [] = 0
first_of (r ∷ rows) = cond r.holds r.number (first_of rows)
