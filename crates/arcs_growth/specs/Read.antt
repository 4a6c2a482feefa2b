-- What the reader has made sure of a book, as far as growth asks: a part of rows 5, 7 and 8.
use Rattle.std.specs.Prelude.{◌≡◌, List, [], ◌∷◌, ℕ, ◌<◌, ◌≤◌}
use Rattle.book_format.specs.Format.{legs, link_next, link_next_alt, leg_link, leg_parent}
use Rattle.book_options.specs.Options.{kept_origins}

-- there is one
abbrev pub SomeKept : List ℕ → Type 0
SomeKept [] = ⊥
SomeKept (idx ∷ idxs) = Unit

-- what growth asks of a book
pub record Read (b : List ℕ) : Type 0 where
  -- row 8: "no origin kept"
  pub kept : SomeKept (kept_origins b)
  -- row 7: "parent not below own number", which is the row's number and one more
  pub parents : (i : ℕ) → i < legs b → leg_parent b i ≤ i
  -- row 5: "next = next alternative, nonzero", of the links that legs have
  pub forks : (i : ℕ) → i < legs b → link_next b (leg_link b i) ≡ link_next_alt b (leg_link b i)
      → link_next b (leg_link b i) ≡ 0
