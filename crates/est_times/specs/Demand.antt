-- What document 01 says of every accepted book under "Arcs": the sheet in the lent table has lost, doubled, added and
-- re-timed no arc of those that the growth rule notes.
use Rattle.std.specs.Prelude.{◌≡◌, List, ℕ, ◌+◌, length}
use Rattle.laws.specs.Answer.{given}
use Rattle.net_node.specs.Table.{Room, Table, at}
use Rattle.grow_rules.specs.Run.{Arc, EndedRun}
use Rattle.grow_rules.specs.Growth.{Grown, grow}
use Rattle.report.specs.declared.Report.{Report}
use Rattle.arcs_growth.specs.Arcs.{arcs_read, SameArcs}
use Rattle.arcs_growth.specs.Runs.{AllTaken}
use Rattle.arcs_growth.specs.Noted.{AllOfRuns, AllEnds}

-- "The growth rule is a definition over the book alone: the growth above on a table of its own, beside it a list":
-- these arcs are its list, and these runs those that it has taken, on whichever table of its own it is grown; and on
-- some it is.
pub record Noted (b : List ℕ) (arcs : List Arc) (runs : List EndedRun) : Type 0 where
  pub places : ℕ
  pub table : Table
  pub room : Room table.floats table.numbers places
  pub grown : Grown
  pub grows : grow b places table ≡ given grown
  pub is : grown.noted ≡ arcs
  pub runs_are : grown.runs ≡ runs
  pub alone : (others : ℕ) (other : Table) (g : Grown) → Room other.floats other.numbers others
      → grow b others other ≡ given g → (g.noted ≡ arcs) × (g.runs ≡ runs)

-- Of a report and the lent table's nodes alone: what is read off the sheet.
pub record Demand (b : List ℕ) (t : Table) (r : Report) : Type 0 where
  pub noted : List Arc
  pub runs : List EndedRun
  pub rule : Noted b noted runs
  -- the two lists hold the same arcs, each as often, both ends and every bit of time and distance
  pub arcs : SameArcs noted (arcs_read (at t) r.nodes)
  -- as many arcs on either side
  pub as_many : length (arcs_read (at t) r.nodes) ≡ length noted
  -- each arc leads between the start, event nodes of the sheet and the end
  pub ends : AllEnds (at t) r.nodes noted
  -- each run takes legs that the driver takes, and has a node of the sheet for each of its events up to where it ended
  pub taken : AllTaken b (at t) r.nodes runs
  -- each arc leads out with zeros, from the last event of a run that finishes; from the start to an origin's Arrive,
  -- the first event of a run; or from one event of a run to the very next of that run with its own differences
  pub of_runs : AllOfRuns b (at t) runs noted
  -- as many arcs as additions, joins and finishes
  pub counted : length noted ≡ r.added + r.joined + r.finished
  -- the start and each split begin a way, each join and each finish end one
  pub balanced : 1 + r.splits ≡ r.joined + r.finished
  -- each run ends by a join or a finish
  pub ended : length runs ≡ r.joined + r.finished
