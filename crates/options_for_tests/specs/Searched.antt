-- The options search by itself, in a part of the work space that is lent for it alone, as an entry for tests.
use Rattle.std.specs.Prelude.{◌≡◌, cond, List, ℕ, zero, suc, eqb, length}
use Rattle.space.specs.Space.{zeros}
use Rattle.space.specs.Lent.{Work, bytes_in, Cleared}
use Rattle.book_options.specs.Options.{kept_origins, search_room, OptionsIn}
use Rattle.book_reader.specs.Reader.{read_number}

-- the number of a part of so many numbers: 3 unless it is just as long as the search asks for
abbrev pub part_number : List ℕ → ℕ → ℕ
part_number b room = cond (eqb room (search_room b)) 0 3

-- the reader's number, and the part's where the reader has none
abbrev pub read_first : ℕ → ℕ → ℕ
read_first zero part = part
read_first (suc n) part = suc n

unfoldable pub search_number : List ℕ → ℕ → ℕ → ℕ → ℕ
search_number b places bytes room = read_first (read_number b places bytes) (part_number b room)

-- A book searched: the number and how many origins are kept; the part of the work space that was lent to the search,
-- and the work space of the reader, which is zero either way.
pub record OptionsSearched (b : List ℕ) (places : ℕ) (lent left : Work) (given part : List ℕ) (kept r : ℕ) : Type 0
  where
    pub number : r ≡ search_number b places (bytes_in lent) (length given)
    pub many : r ≡ 0 → kept ≡ length (kept_origins b)
    pub found : r ≡ 0 → OptionsIn b part
    pub none : (r ≡ 0 → ⊥) → kept ≡ 0
    pub zero : (r ≡ 0 → ⊥) → part ≡ zeros (length given)
    pub work : Cleared lent left
