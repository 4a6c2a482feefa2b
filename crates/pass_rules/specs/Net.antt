-- What both passes work on: the table's nodes, of which some fields are set, and for each node whether it is timed
-- (forward) or passed (backward): "Untimed is a state of its own."
use Rattle.std.specs.Prelude.{Bool, true, false, ◌||◌, List, ℕ, eqb}
use Rattle.laws.specs.Answer.{Answer, refused}
use Rattle.net_node.specs.Table.{Table}
use Rattle.pass_queue.specs.declared.Entry.{Entry}

-- Row 15: "a pass's assertion fails, over n Fakes in a relink walk"
abbrev pub failed : {A : Type 0} → Answer A
failed = refused 15

abbrev pub asserting : {A : Type 0} → Bool → Answer A → Answer A
asserting true a = a
asserting false a = failed

-- The table, which nodes are done (timed or passed), and the queue.
pub record Pass : Type 0 where
  pub table : Table
  pub done : ℕ → Bool
  pub queue : List Entry

unfoldable pub also_done : (ℕ → Bool) → ℕ → ℕ → Bool
also_done done i k = eqb k i || done k
