-- A book read and grown, rows 1 to 13, on a table that was zero: the network, or the number of a refusal.
use Rattle.std.specs.Prelude.{List, ℕ}
use Rattle.laws.specs.Answer.{Answer, unless}
use Rattle.space.specs.Space.{zeros, zero_floats}
use Rattle.book_reader.specs.Reader.{read_number}
use Rattle.net_node.specs.Table.{Table}
use Rattle.net_node.specs.Lent.{Sizes, places_in}
use Rattle.grow_rules.specs.Growth.{Grown, grow}

-- a table that is zero
unfoldable pub zero_table : Sizes → Table
zero_table z = record { floats = zero_floats z.floats; numbers = zeros z.numbers }

-- "Of 1 to 8 the lowest wins; after that the first met."
unfoldable pub network : List ℕ → Sizes → Answer Grown
network b z = unless (read_number b (places_in z) z.bytes) (grow b (places_in z) (zero_table z))
