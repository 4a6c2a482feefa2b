-- What an entry is lent, read at its two moments: the work space's three slices as one record, at entry and at exit.
-- Contracts of entries are said over these records, by name.
use Rattle.std.specs.Prelude.{◌≡◌, List, ℕ, length, Float}
use Rattle.std.specs.Borrow.{Bor, MutBor}
use denote.Triple.Both.{Both}
use Rattle.space.specs.Space.{bytes_of, zeros, zero_floats}

-- a slice that is lent to be written, at a function's entry and at its exit
abbrev pub Lent : Type 0 → Type 0
Lent A = Both (MutBor A) (MutBor A)

-- the same of one that is lent to be read
abbrev pub Seen : Type 0 → Type 0
Seen A = Both (Bor A) (Bor A)

-- The work space: 3 f64 (reals), 8 u32 (cells) and 2 u32 (marks) to a unit. In code an entry takes the three slices one
-- by one, as C and Rust lend them.
pub record Work : Type 0 where
  pub reals : List Float
  pub cells : List ℕ
  pub marks : List ℕ

abbrev pub work_at_entry : Lent (List Float) → Lent (List ℕ) → Lent (List ℕ) → Work
work_at_entry reals cells marks = record {
  reals = reals.entry.now;
  cells = cells.entry.now;
  marks = marks.entry.now;
}

abbrev pub work_at_exit : Lent (List Float) → Lent (List ℕ) → Lent (List ℕ) → Work
work_at_exit reals cells marks = record {
  reals = reals.exit.now;
  cells = cells.exit.now;
  marks = marks.exit.now;
}

-- its whole units in bytes: what row 3 counts
abbrev pub bytes_in : Work → ℕ
bytes_in w = bytes_of (length w.reals) (length w.cells) (length w.marks)

-- "Work space is zero either way": each slice, as long as it was lent
pub record Cleared (lent left : Work) : Type 0 where
  pub reals : left.reals ≡ zero_floats (length lent.reals)
  pub cells : left.cells ≡ zeros (length lent.cells)
  pub marks : left.marks ≡ zeros (length lent.marks)
