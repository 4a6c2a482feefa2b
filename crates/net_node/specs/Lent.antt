-- A lent table, read at a function's two moments: its two slices as one record, alone and beside the work space.
-- Contracts of entries are said over these records, by name.
use Rattle.std.specs.Prelude.{List, ℕ, length, Float}
use Rattle.space.specs.Lent.{Lent, Seen, Work, work_at_entry, work_at_exit, bytes_in}
use Rattle.net_node.specs.declared.EstTime.{EstTime}
use Rattle.net_node.specs.Table.{Table, node_at}
use Rattle.net_node.specs.Left.{places_of}

-- the table's two slices
abbrev pub table_at_entry : Lent (List Float) → Lent (List ℕ) → Table
table_at_entry floats numbers = record { floats = floats.entry.now; numbers = numbers.entry.now }

abbrev pub table_at_exit : Lent (List Float) → Lent (List ℕ) → Table
table_at_exit floats numbers = record { floats = floats.exit.now; numbers = numbers.exit.now }

-- both where they are only read
abbrev pub table_seen : Seen (List Float) → Seen (List ℕ) → Table
table_seen floats numbers = record { floats = floats.entry.now; numbers = numbers.entry.now }

-- the network of both, as a function from index to node
abbrev pub nodes_at_entry : Seen (List Float) → Seen (List ℕ) → ℕ → EstTime
nodes_at_entry floats numbers = node_at floats.entry.now numbers.entry.now

-- a table and the work space: all that the entries are lent to write to
pub record Slices : Type 0 where
  pub table : Table
  pub work : Work

abbrev pub lent_at_entry : Lent (List Float) → Lent (List ℕ) → Lent (List Float) → Lent (List ℕ) → Lent (List ℕ)
    → Slices
lent_at_entry floats numbers reals cells marks = record {
  table = table_at_entry floats numbers;
  work = work_at_entry reals cells marks;
}

abbrev pub lent_at_exit : Lent (List Float) → Lent (List ℕ) → Lent (List Float) → Lent (List ℕ) → Lent (List ℕ) → Slices
lent_at_exit floats numbers reals cells marks = record {
  table = table_at_exit floats numbers;
  work = work_at_exit reals cells marks;
}

-- What an answer may depend on of the slices is how long they are, never what they held: so many floats and numbers, so
-- many bytes of work space.
pub record Sizes : Type 0 where
  pub floats : ℕ
  pub numbers : ℕ
  pub bytes : ℕ

abbrev pub sizes_of : Slices → Sizes
sizes_of lent = record {
  floats = length lent.table.floats;
  numbers = length lent.table.numbers;
  bytes = bytes_in lent.work;
}

-- the places of a table of these sizes
abbrev pub places_in : Sizes → ℕ
places_in z = places_of z.floats z.numbers
