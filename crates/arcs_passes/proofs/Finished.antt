-- Demand 3 over the definitions, whole: for every book that was read and every table, if growth and both passes accept it
-- then the finished sheet has lost, doubled, added and re-timed no arc, as `SheetWell` says it.
use mathlib.Core.Path.{◌≡◌, sym, ap, ◌∙◌}
use mathlib.Core.Bool.{false}
use mathlib.Core.List.{List, [], ◌∷◌}
use mathlib.Core.Logic.{inl, inr}
use Prim.Native.Nat.{ℕ, ◌≤◌, ◌<◌}
use native.Mathlib.Omega.{arith}
use lib.ListN.{length}
use lib.Ieee.{Float}
use Rattle.net_node.proofs.Tables.{RoomIn}
use Rattle.net_node.specs.Table.{Table, at}
use Rattle.laws.specs.Answer.{given}
use Rattle.laws.specs.Below.{some_below}
use Rattle.book_format.specs.Format.{legs}
use Rattle.book_format.specs.Rows.{row5, bad_leg}
use Rattle.book_options.specs.Options.{row8}
use Rattle.net_node.specs.declared.EstTime.{EstTime}
use Rattle.grow_rules.specs.Run.{Arc, EndedRun}
use Rattle.grow_rules.specs.Growth.{Grown, grow}
use Rattle.pass_rules.specs.Passes.{passes}
use Rattle.arcs_growth.specs.Arcs.{arcs_read, times_in, SameArcs}
use Rattle.arcs_growth.specs.Runs.{AllTaken}
use Rattle.arcs_growth.specs.Noted.{OfRun, AllOfRuns, AllEnds}
use Rattle.arcs_growth.specs.Read.{Read}
use Rattle.arcs_growth.proofs.Books.{read_rows_lem}
use Rattle.arcs_growth.proofs.Theorems.{GrownWell, well}
use Rattle.arcs_growth.proofs.NewNodes.{EventsKept}
use Rattle.arcs_growth.proofs.Visits.{starts_more, ends_more, taken_more}
use Rattle.arcs_passes.proofs.Lent.{arcs_agree}
use Rattle.arcs_passes.proofs.PassesKeep.{passes_keep, passes_arcs, passes_many, passes_events}
use Rattle.arcs_passes.proofs.Sheet.{SheetWell}

-- what is said of arcs and runs stays so where the nodes keep their events
module _ (b : List ℕ) (n : ℕ) (node node' : ℕ → EstTime) (some : 0 < n) (k : EventsKept n node node') where
  same_size : n ≤ n
  same_size = omega arith

  pub all_of_runs : (runs : List EndedRun) (arcs : List Arc) → AllEnds node n arcs → AllOfRuns b node runs arcs → AllOfRuns b node' runs arcs
  all_of_runs runs [] d h = tt
  all_of_runs runs (arc ∷ arcs) d h = (still h.0, all_of_runs runs arcs d.1 h.1)
    where
      still : OfRun b node runs arc → OfRun b node' runs arc
      still (inl o) = inl o
      still (inr (inl o)) = inr (inl (starts_more b node node' same_size k some runs arc d.0 o))
      still (inr (inr o)) = inr (inr o)

  pub all_ends : (arcs : List Arc) → AllEnds node n arcs → AllEnds node' n arcs
  all_ends [] d = tt
  all_ends (arc ∷ arcs) d = (ends_more b node node' same_size k arc d.0, all_ends arcs d.1)

  pub all_taken : (runs : List EndedRun) → AllTaken b node n runs → AllTaken b node' n runs
  all_taken = taken_more b node node' same_size k

module _ (b : List ℕ) (places : ℕ) (t : Table) (g : Grown) (read : Read b) (room : RoomIn t places) (grown : grow b places t ≡ given g) (departure : Float) (u : Table) (timed : passes g.table g.nodes departure ≡ given u) where
  grows : GrownWell b places g
  grows = well b places t g read room grown

  some : 0 < g.nodes
  some = omega (arith, grows.shape.some)

  kept : EventsKept g.nodes (at g.table) (at u)
  kept = passes_events g.table g.nodes places grows.inside grows.room grows.shape departure u timed

  pub sheet_well : SheetWell b places g u
  sheet_well = record {
    arcs = λ a. grows.arcs a ∙ passes_arcs g.table g.nodes places grows.inside grows.room grows.shape departure u timed a;
    counted = grows.counted;
    balanced = grows.balanced;
    as_many = passes_many g.table g.nodes places grows.inside grows.room grows.shape departure u timed ∙ grows.as_many;
    of_runs = all_of_runs b g.nodes (at g.table) (at u) some kept g.runs g.noted grows.ends grows.of_runs;
    ends = all_ends b g.nodes (at g.table) (at u) some kept g.noted grows.ends;
    taken = all_taken b g.nodes (at g.table) (at u) some kept g.runs grows.taken;
    ended = grows.ended;
    inside = grows.inside;
    shape = (passes_keep g.table g.nodes places grows.inside grows.room grows.shape departure u timed).shape;
  }

-- the same of a book that rows 5, 7 and 8 let through
pub sheet_rows : (b : List ℕ) (places : ℕ) (t : Table) (g : Grown) → row5 b ≡ false → some_below (legs b) (bad_leg b) ≡ false → row8 b ≡ false → RoomIn t places → grow b places t ≡ given g
    → (departure : Float) (u : Table) → passes g.table g.nodes departure ≡ given u → SheetWell b places g u
sheet_rows b places t g five seven eight room grown departure u timed = sheet_well b places t g (read_rows_lem b five seven eight) room grown departure u timed

-- What a table's nodes say that agree with the finished sheet's in the first nodes: the lent table, in which all else is zero.
module _ (b : List ℕ) (places : ℕ) (g : Grown) (u : Table) (node : ℕ → EstTime) (w : SheetWell b places g u) (ag : (i : ℕ) → i < g.nodes → node i ≡ at u i) where
  some_lent : 0 < g.nodes
  some_lent = omega (arith, w.shape.some)

  kept_lent : EventsKept g.nodes (at u) node
  kept_lent = record { event = λ i h. ap (λ (x : EstTime). x.link_event) (ag i h); speed = λ i h. ap (λ (x : EstTime). x.speed) (ag i h) }

  pub lent_arcs : SameArcs g.noted (arcs_read node g.nodes)
  lent_arcs a = w.arcs a ∙ ap (times_in a) (sym (arcs_agree (at u) node g.nodes ag w.shape))

  pub lent_many : length (arcs_read node g.nodes) ≡ length g.noted
  lent_many = ap length (arcs_agree (at u) node g.nodes ag w.shape) ∙ w.as_many

  pub lent_of_runs : AllOfRuns b node g.runs g.noted
  lent_of_runs = all_of_runs b g.nodes (at u) node some_lent kept_lent g.runs g.noted w.ends w.of_runs

  pub lent_ends : AllEnds node g.nodes g.noted
  lent_ends = all_ends b g.nodes (at u) node some_lent kept_lent g.noted w.ends

  pub lent_taken : AllTaken b node g.nodes g.runs
  lent_taken = all_taken b g.nodes (at u) node some_lent kept_lent g.runs w.taken
