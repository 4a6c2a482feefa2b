-- What is said of every book that growth and both passes accept: the finished sheet has lost, doubled, added and re-timed
-- no arc. Proved in Finished.
use mathlib.Core.Path.{◌≡◌}
use mathlib.Core.List.{List}
use Prim.Native.Nat.{ℕ, ◌+◌, ◌≤◌}
use lib.ListN.{length}
use Rattle.net_node.specs.Table.{Table, at}
use Rattle.grow_rules.specs.Growth.{Grown}
use Rattle.arcs_growth.specs.Arcs.{arcs_read, SameArcs}
use Rattle.arcs_growth.specs.Runs.{AllTaken}
use Rattle.arcs_growth.specs.Noted.{AllOfRuns, AllEnds}
use Rattle.arcs_growth.specs.Shape.{Shape}

pub record SheetWell (b : List ℕ) (places : ℕ) (g : Grown) (u : Table) : Type 0 where
  -- the same as often each, both ends and every bit of time and distance
  pub arcs : SameArcs g.noted (arcs_read (at u) g.nodes)
  -- arcs = added + joined + finished
  pub counted : length g.noted ≡ g.added + g.joined + g.finished
  -- 1 + splits = joined + finished
  pub balanced : 1 + g.splits ≡ g.joined + g.finished
  -- as many arcs as are read off
  pub as_many : length (arcs_read (at u) g.nodes) ≡ length g.noted
  -- each arc leads out with zeros, from the start to an origin's Arrive, or from one event of a run to the very next with the run's own differences
  pub of_runs : AllOfRuns b (at u) g.runs g.noted
  -- between the start, the end and event nodes
  pub ends : AllEnds (at u) g.nodes g.noted
  -- the runs are those that the driver takes, each node has its run's event, and each run ends by a join or a finish
  pub taken : AllTaken b (at u) g.nodes g.runs
  pub ended : length g.runs ≡ g.joined + g.finished
  pub inside : g.nodes ≤ places
  pub shape : Shape (at u) g.nodes
