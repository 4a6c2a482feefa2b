-- The whole job, `make_est_times`: a book is read, its network grown, checked and timed. Put together from the
-- definitions of the crates below, with no new algorithm.
use Rattle.std.specs.Prelude.{◌≡◌, List, ℕ, length, Result, Ok, Err}
use Rattle.laws.specs.Answer.{Answer, refused, given, and_then, number_of}
use Rattle.report.specs.declared.Report.{Report}
use Rattle.report.specs.Numbers.{no_report}
use Rattle.space.specs.Lent.{Cleared}
use Rattle.net_node.specs.Table.{Table}
use Rattle.net_node.specs.Left.{Network, floats_left, numbers_left}
use Rattle.net_node.specs.Lent.{Slices, Sizes, sizes_of}
use Rattle.grow_rules.specs.Growth.{Grown, departure}
use Rattle.pass_rules.specs.Passes.{passes}
use Rattle.refusals.specs.declared.Refusal.{Refusal}
use Rattle.refusals.specs.Refusals.{refusal_number, told}
use Rattle.est_times.specs.Network.{network}
use Rattle.est_times.specs.Demand.{Demand}

-- a book's network as it was grown, and its table as it was timed
pub record Finished : Type 0 where
  pub grown : Grown
  pub timed : Table

abbrev pub finished_as : Grown → Table → Finished
finished_as g t = record { grown = g; timed = t }

abbrev pub timed_from : List ℕ → Grown → Answer Finished
timed_from b g = and_then (passes g.table g.nodes (departure b)) (λ (t : Table). given (finished_as g t))

-- rows 1 to 13, then 14 to 16
unfoldable pub job : List ℕ → Sizes → Answer Finished
job b z = and_then (network b z) (timed_from b)

-- "a report of nodes, added (origins' nodes included), splits, joined, finished"
abbrev pub report_of : Grown → Report
report_of g = record {
  nodes = g.nodes;
  added = g.added;
  splits = g.splits;
  joined = g.joined;
  finished = g.finished;
}

-- the report, or the refusal
abbrev pub answered : Answer Finished → Answer Report
answered (refused k) = refused k
answered (given f) = given (report_of f.grown)

-- the nodes that stay in the table
abbrev pub sheet_of : Answer Finished → Answer Network
sheet_of (refused k) = refused k
sheet_of (given f) = given (record { table = f.timed; nodes = f.grown.nodes })

-- document 01's number for each answer, and its report, which is zero on a refusal
abbrev pub sheet_number : Result Report Refusal → ℕ
sheet_number r = number_of (told r)

abbrev pub reported : Result Report Refusal → Report
reported (Ok r) = r
reported (Err k) = no_report

-- ---- the promise of `make_est_times`

-- document 01 under "Arcs", of every accepted book
abbrev pub DemandOf : List ℕ → Table → Result Report Refusal → Type 0
DemandOf b t (Ok r) = Demand b t r
DemandOf b t (Err k) = Unit

-- a refusal has a number: 0 is answered with a sheet alone
abbrev pub HasNumber : Result Report Refusal → Type 0
HasNumber (Ok r) = Unit
HasNumber (Err k) = refusal_number k ≡ 0 → ⊥

-- For a book, what was lent at entry and what stands there at exit: the answer, both slices of the table, the work
-- space, and demand 3, whatever table and work space held.
pub record SheetMade (b : List ℕ) (lent left : Slices) (r : Result Report Refusal) : Type 0 where
  pub answer : told r ≡ answered (job b (sizes_of lent))
  pub numbered : HasNumber r
  pub floats : left.table.floats ≡ floats_left (sheet_of (job b (sizes_of lent))) (length lent.table.floats)
  pub numbers : left.table.numbers ≡ numbers_left (sheet_of (job b (sizes_of lent))) (length lent.table.numbers)
  pub work : Cleared lent.work left.work
  pub demand : DemandOf b left.table r
