-- The table entry, document 01: "The passes also accept a lent node table of 3 to 65,535 nodes and a departure (row 4,
-- either sign); each node's time is checked, then read as untimed. It gives 3, 4, 5, 14, 15 or 16. Its report: nodes
-- alone."
use Rattle.std.specs.Prelude.{◌≡◌, Bool, not, ◌||◌, List, [], ◌∷◌, ℕ, ◌+◌, ◌*◌, min, ltb, leb, length, Float, Result}
use Rattle.laws.specs.Answer.{Answer, given, and_then, unless}
use Rattle.refusals.specs.Refusals.{told}
use Rattle.refusals.specs.declared.Refusal.{Refusal}
use Rattle.net_node.specs.Table.{Table, at}
use Rattle.net_node.specs.Left.{Network, nodes_in, kind_at, floats_left, numbers_left}
use Rattle.net_node.specs.Lent.{Slices}
use Rattle.laws.specs.Below.{some_below}
use Rattle.laws.specs.Refusals.{Row, row, first_of}
use Rattle.floats.specs.Floats.{table_float}
use Rattle.space.specs.Lent.{bytes_in, Cleared}
use Rattle.net_node.specs.declared.EstTime.{EstTime}
use Rattle.pass_rules.specs.Passes.{passes}

-- Row 3: "table handed to the passes outside 3 to 65,535 nodes; work space below 36,864 + 64 times (.. table places up
-- to 65,535) bytes"
unfoldable pub table_row3 : ℕ → ℕ → Bool
table_row3 n bytes = ltb n 3 || ltb 65535 n || ltb bytes (36864 + 64 * min n 65535)

-- Row 4: "float not finite or above 1,000,000,000 in size .. (a table takes either sign); .. kind unknown"
unfoldable pub bad_floats : EstTime → Bool
bad_floats x =
    not (table_float x.time_sched)
    || not (table_float x.time_to_next)
    || not (table_float x.dist_to_next)
    || not (table_float x.speed)

unfoldable pub bad_node : Table → ℕ → Bool
unfolding bad_floats
bad_node t i = bad_floats (at t i) || ltb 2 (kind_at t.numbers i)

unfoldable pub table_row4 : Table → ℕ → Float → Bool
unfolding bad_node
table_row4 t n departure = not (table_float departure) || some_below n (bad_node t)

-- Row 5: "index (not a table's event link) names nothing"
unfoldable pub stray_node : ℕ → EstTime → Bool
stray_node n x = leb n x.idx_next || leb n x.idx_next_alt || leb n x.idx_prev || leb n x.idx_prev_alt

unfoldable pub table_row5 : Table → ℕ → Bool
unfolding stray_node
table_row5 t n = some_below n (λ i. stray_node n (at t i))

-- "Of 1 to 8 the lowest wins; after that the first met": rows 3, 4 and 5 in their order
unfoldable pub table_rows : Table → ℕ → Float → ℕ → List Row
unfolding table_row3 table_row4 table_row5
table_rows t n departure bytes =
    row 3 (table_row3 n bytes) ∷ row 4 (table_row4 t n departure) ∷ row 5 (table_row5 t n) ∷ []

unfoldable pub table_times : Table → Float → ℕ → Answer Table
unfolding table_rows
table_times t departure bytes =
    let n = nodes_in t in
    unless (first_of (table_rows t n departure bytes)) (passes t n departure)

-- ---- what the entry promises

-- all nodes of a table
abbrev pub wholly : ℕ → Table → Answer Network
wholly n t = given (record { table = t; nodes = n })

-- what becomes of the table that is lent
unfoldable pub times_of : Slices → Float → Answer Network
unfolding table_times
times_of lent departure = and_then (table_times lent.table departure (bytes_in lent.work))
    (wholly (nodes_in lent.table))

-- how many nodes an answer has
abbrev pub nodes_told : Answer Network → Answer ℕ
nodes_told answer = and_then answer (λ (x : Network). given x.nodes)

-- "Accepted: nodes in the lent table (.. as many places as both slices fill, all else zero)"; "Refused: the number;
-- every lent table .. zero"; "Work space is zero either way."
pub record TimesUpdated (lent left : Slices) (departure : Float) (r : Result ℕ Refusal) : Type 0 where
  pub answer : told r ≡ nodes_told (times_of lent departure)
  pub floats : left.table.floats ≡ floats_left (times_of lent departure) (length lent.table.floats)
  pub numbers : left.table.numbers ≡ numbers_left (times_of lent departure) (length lent.table.numbers)
  pub work : Cleared lent.work left.work
