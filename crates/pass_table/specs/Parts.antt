-- Words of the table entry's parts. Only the contracts of private functions use them.
use Rattle.std.specs.Prelude.{[], ◌∷◌, ℕ, Float}
use Rattle.net_node.specs.Table.{Table}
use Rattle.laws.specs.Below.{some_below}
use Rattle.laws.specs.Refusals.{row, first_of}
use Rattle.pass_table.specs.TableEntry.{table_row5, table_rows, bad_node}

-- rows 4 and 5, as far as the nodes tell
unfoldable pub nodes_number : Table → ℕ → ℕ
nodes_number t n = first_of (row 4 (some_below n (bad_node t)) ∷ row 5 (table_row5 t n) ∷ [])

-- rows 3 to 5
unfoldable pub first_number : Table → ℕ → Float → ℕ → ℕ
unfolding table_rows
first_number t n departure bytes = first_of (table_rows t n departure bytes)
