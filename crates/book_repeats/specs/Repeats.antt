-- What one parent's walk answers and leaves.
use Rattle.std.specs.Prelude.{Bool, ◌&&◌, List, ℕ, ◌≤◌, eqb, get_or}
use Rattle.book_format.specs.Format.{leg_parent}
use Rattle.book_format.specs.Rows.{leg_repeats}

-- every mark is at most n
pub record Under (marks : List ℕ) (n : ℕ) : Type 0 where
  pub at : (l : ℕ) → get_or marks l 0 ≤ n

-- the leg in row i is a child of p, and a child of p above it has its link
unfoldable pub child_repeats : List ℕ → ℕ → ℕ → Bool
child_repeats b p i = eqb (leg_parent b i) p && leg_repeats b i
