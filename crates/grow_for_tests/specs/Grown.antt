-- The network of a book before its times are known, as an entry for tests: rows 1 to 13. The network is `network` of
-- est_times' specs/Network.antt.
use Rattle.std.specs.Prelude.{◌≡◌, List, ℕ, length, Result}
use Rattle.laws.specs.Answer.{Answer, refused, given}
use Rattle.report.specs.declared.Report.{Report}
use Rattle.refusals.specs.declared.Refusal.{Refusal}
use Rattle.refusals.specs.Refusals.{told}
use Rattle.space.specs.Lent.{Cleared}
use Rattle.net_node.specs.Left.{Network, floats_left, numbers_left}
use Rattle.net_node.specs.Lent.{Slices, sizes_of}
use Rattle.grow_rules.specs.Growth.{Grown}
use Rattle.est_times.specs.Network.{network}
use Rattle.est_times.specs.Sheet.{report_of}

-- the report, or the refusal
abbrev pub counted : Answer Grown → Answer Report
counted (refused k) = refused k
counted (given g) = given (report_of g)

-- the nodes that stay in the table
abbrev pub nodes_grown : Answer Grown → Answer Network
nodes_grown (refused k) = refused k
nodes_grown (given g) = given (record { table = g.table; nodes = g.nodes })

-- For a book, what was lent at entry and what stands there at exit.
pub record NetworkGrown (b : List ℕ) (lent left : Slices) (r : Result Report Refusal) : Type 0 where
  pub answer : told r ≡ counted (network b (sizes_of lent))
  pub floats : left.table.floats ≡ floats_left (nodes_grown (network b (sizes_of lent))) (length lent.table.floats)
  pub numbers : left.table.numbers ≡ numbers_left (nodes_grown (network b (sizes_of lent)))
      (length lent.table.numbers)
  pub work : Cleared lent.work left.work
