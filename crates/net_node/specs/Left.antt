-- How many nodes a lent table has places for, and what an entry leaves in it. Document 01: "Accepted: nodes in the lent
-- table (4 f64 and 6 u32 each, as many places as both slices fill, all else zero)"; "Refused: the number; every lent
-- table and the report are zero."
use Rattle.std.specs.Prelude.{List, ◌++◌, ℕ, ◌+◌, ◌-◌, ◌*◌, ◌/◌, min, length, take, get_or, Float}
use Rattle.laws.specs.Answer.{Answer, refused, given}
use Rattle.space.specs.Space.{zeros, zero_floats}
use Rattle.net_node.specs.Table.{float_width, number_width, Table}

-- the nodes of a table: the first so many
pub record Network : Type 0 where
  pub table : Table
  pub nodes : ℕ

-- "as many places as both slices fill", of so many floats and numbers
abbrev pub filled : ℕ → ℕ → ℕ
filled floats numbers = min (floats / float_width) (numbers / number_width)

-- .. and "at most 65,535"
unfoldable pub places_of : ℕ → ℕ → ℕ
places_of floats numbers = min (filled floats numbers) 65535

-- as many nodes as both slices fill
unfoldable pub nodes_in : Table → ℕ
nodes_in t = filled (length t.floats) (length t.numbers)

-- the number of a node's kind, as it stands in the table: a node's record has no kind for a number above 2
unfoldable pub kind_at : List ℕ → ℕ → ℕ
kind_at us i = get_or us (i * number_width + 5) 0

-- ---- both slices afterwards

-- the first n nodes of a table stay, and so many floats or numbers in all are filled up with zeros
abbrev pub floats_kept : ℕ → List Float → ℕ → List Float
floats_kept n fs size = take (n * float_width) fs ++ zero_floats (size - n * float_width)

abbrev pub numbers_kept : ℕ → List ℕ → ℕ → List ℕ
numbers_kept n us size = take (n * number_width) us ++ zeros (size - n * number_width)

-- what an answer leaves in slices of so many floats and numbers: a network and zeros behind it, or zeros alone
abbrev pub floats_left : Answer Network → ℕ → List Float
floats_left (refused k) size = zero_floats size
floats_left (given x) size = floats_kept x.nodes x.table.floats size

abbrev pub numbers_left : Answer Network → ℕ → List ℕ
numbers_left (refused k) size = zeros size
numbers_left (given x) size = numbers_kept x.nodes x.table.numbers size
