-- Demand 3 for growth: of every book that the reader lets through and every lent table, the grown network has the
-- shape, the arcs read off it are the noted ones, the two sums hold,
-- and every noted arc is what document 01 says.
use mathlib.Core.Path.{◌≡◌, refl, sym, subst}
use mathlib.Core.Bool.{Bool, true, false}
use mathlib.Core.List.{List, [], ◌∷◌}
use Prim.Native.Nat.{ℕ, ◌+◌, ◌<◌, ◌≤◌}
use native.Mathlib.Omega.{arith}
use borrow.Author.Tests.{ltb-true}
use lib.ListN.{length}
use lib.Dec.{ltb}
use Rattle.net_node.proofs.Tables.{RoomIn}
use Rattle.laws.proofs.Answers.{Holds, holds_then, holds_given}
use Rattle.laws.specs.Answer.{given, and_then}
use Rattle.book_format.specs.Format.{legs}
use Rattle.book_options.specs.Options.{kept_origins}
use Rattle.net_node.specs.declared.EstTime.{EstTime}
use Rattle.net_node.specs.Table.{Room, Indexed, Table, at}
use Rattle.grow_rules.specs.Run.{Arc, EndedRun, Net, member_of}
use Rattle.grow_rules.specs.Growth.{Growth, first_nodes, grow_origins, drive, end_fakes, last_node, Grown, start_as}
use Rattle.grow_rules.specs.Growth.{grown_with, grow}
use Rattle.net_node.specs.Left.{Network}
use Rattle.arcs_growth.specs.Arcs.{arcs_read, SameArcs}
use Rattle.arcs_growth.specs.Shape.{Shape}
use Rattle.arcs_growth.specs.Runs.{AllTaken}
use Rattle.arcs_growth.specs.Noted.{AllOfRuns, AllEnds}
use Rattle.arcs_growth.specs.Read.{Read}
use Rattle.laws.proofs.Members.{All}
use Rattle.arcs_growth.proofs.Labels.{base_role}
use Rattle.arcs_growth.proofs.AtEvents.{Notes, Driven}
use Rattle.arcs_growth.proofs.Driving.{drives}
use Rattle.arcs_growth.proofs.Origins.{Ready, origins_ready}
use Rattle.arcs_growth.proofs.Ends.{Linked, Ending, Ended, ends_keep}
use Rattle.arcs_growth.proofs.Wholes.{Finished, last_keeps}
use Rattle.arcs_growth.proofs.Sheets.{whole_shape}
use Rattle.arcs_growth.proofs.Readings.{read_same, read_many, length_bases}

-- what growth gives
pub record GrownWell (b : List ℕ) (places : ℕ) (g : Grown) : Type 0 where
  pub room : RoomIn g.table places
  pub inside : g.nodes ≤ places
  pub shape : Shape (at g.table) g.nodes
  pub arcs : SameArcs g.noted (arcs_read (at g.table) g.nodes)
  pub counted : length g.noted ≡ g.added + g.joined + g.finished
  pub balanced : 1 + g.splits ≡ g.joined + g.finished
  -- as many as are read off
  pub as_many : length (arcs_read (at g.table) g.nodes) ≡ length g.noted
  pub of_runs : AllOfRuns b (at g.table) g.runs g.noted
  pub ends : AllEnds (at g.table) g.nodes g.noted
  -- each run is one that the driver takes, and ends by a join or a finish
  pub taken : AllTaken b (at g.table) g.nodes g.runs
  pub ended : length g.runs ≡ g.joined + g.finished
  -- of these nodes each index names one of them
  pub linked : Linked (at g.table) g.nodes g.nodes

-- the ends begin where the driver stops
driven_ending : {b : List ℕ} {places : ℕ} (net : Net) → Driven b places net []
    → Ending b places net.runs net.noted (1 + net.added + net.splits) net.ends 0
    (record { table = net.table; nodes = net.nodes })
driven_ending net d = record {
  labels = d.labels;
  room = d.grows.body.room;
  graph = d.grows.body.graph;
  ended = d.grows.body.ended;
  distinct = d.grows.distinct;
  closed = λ i h p z. go i h p z (member_of net.ends i) refl;
  notes = d.notes;
  taken = d.taken;
  before = λ q. absurd (omega arith);
  linked = record {
    next = λ i h. let l = w.next i h in omega arith;
    next_alt = w.next_alt;
    prev = w.prev;
    prev_alt = w.prev_alt;
  };
}
  where
    w : Indexed (at net.table) net.nodes
    w = d.grows.body.indexed

    go : (i : ℕ) → i < net.nodes → base_role (d.labels.role i) ≡ true → (at net.table i).idx_next ≡ 0 → (c : Bool)
        → member_of net.ends i ≡ c → c ≡ true
    go i h p z true e = refl
    go i h p z false e = absurd (d.waits.owned i h p z e)

all_of_runs : (b : List ℕ) (node : ℕ → EstTime) (n : ℕ) (runs : List EndedRun) (arcs : List Arc)
    → All (Notes b node n [] runs) arcs → AllOfRuns b node runs arcs
all_of_runs b node n runs [] h = tt
all_of_runs b node n runs (arc ∷ arcs) h = (h.0.1, all_of_runs b node n runs arcs h.1)

all_ends : (b : List ℕ) (node : ℕ → EstTime) (n : ℕ) (runs : List EndedRun) (arcs : List Arc)
    → All (Notes b node n [] runs) arcs → AllEnds node n arcs
all_ends b node n runs [] h = tt
all_ends b node n runs (arc ∷ arcs) h = (h.0.0, all_ends b node n runs arcs h.1)

finished_well : {b : List ℕ} {places : ℕ} (net : Net) → Driven b places net [] → (t : Network)
    → Finished b places net.runs net.noted (1 + net.added + net.splits) t → GrownWell b places (grown_with net t)
unfolding grown_with
finished_well {b} {places} net d t f =
    let c = d.grows.count in
    let l = length_bases f.whole in
    record {
      room = f.room;
      inside = f.inside;
      shape = subst (Shape (at t.table)) (sym f.nodes) (whole_shape f.whole);
      arcs = subst (λ (n : ℕ). SameArcs net.noted (arcs_read (at t.table) n)) (sym f.nodes) (read_same f.whole);
      counted = c;
      balanced = omega arith;
      as_many = subst (λ (n : ℕ). length (arcs_read (at t.table) n) ≡ length net.noted) (sym f.nodes)
          (read_many f.whole);
      of_runs = all_of_runs b (at t.table) t.nodes net.runs net.noted f.notes;
      ends = all_ends b (at t.table) t.nodes net.runs net.noted f.notes;
      taken = f.taken;
      ended = d.grows.ended;
      linked = f.linked;
    }

pub growth_well : (b : List ℕ) (places : ℕ) (t : Table) → Read b → Room t.floats t.numbers places
    → Holds (GrownWell b places) (grow b places t)
unfolding grow
growth_well b places t r room =
    holds_then (λ (s : Growth). (s ≡ record { net = first_nodes b t; saved = [] }) × (1 < places)) (GrownWell b places)
    (start_as (ltb 1 places) (first_nodes b t))
    (λ (s : Growth). and_then (grow_origins b places (kept_origins b) s)
    (λ (g : Growth). and_then (drive (legs b) b places g.net g.saved)
    (λ (net : Net). and_then (end_fakes places net.ends 0 (record { table = net.table; nodes = net.nodes }))
    (λ (u : Network). and_then (last_node places u) (λ (v : Network). given (grown_with net v))))))
    (start (ltb 1 places) refl)
    (λ s h. holds_then (Ready b places) (GrownWell b places) (grow_origins b places (kept_origins b) s)
    (λ (g : Growth). and_then (drive (legs b) b places g.net g.saved)
    (λ (net : Net). and_then (end_fakes places net.ends 0 (record { table = net.table; nodes = net.nodes }))
    (λ (u : Network). and_then (last_node places u) (λ (v : Network). given (grown_with net v)))))
    (subst (λ (q : Growth). Holds (Ready b places) (grow_origins b places (kept_origins b) q)) (sym h.0)
    (origins_ready r places t room h.1))
    (λ g d. holds_then (λ (net : Net). Driven b places net []) (GrownWell b places)
    (drive (legs b) b places g.net g.saved)
    (λ (net : Net). and_then (end_fakes places net.ends 0 (record { table = net.table; nodes = net.nodes }))
    (λ (u : Network). and_then (last_node places u) (λ (v : Network). given (grown_with net v))))
    (drives r (legs b) g.net g.saved d.driven d.legs_in d.light)
    (λ net e. holds_then (Ended b places net.runs net.noted (1 + net.added + net.splits)) (GrownWell b places)
    (end_fakes places net.ends 0 (record { table = net.table; nodes = net.nodes }))
    (λ (u : Network). and_then (last_node places u) (λ (v : Network). given (grown_with net v)))
    (ends_keep net.ends 0 (record { table = net.table; nodes = net.nodes }) (driven_ending net e))
    (λ u f. holds_then (Finished b places net.runs net.noted (1 + net.added + net.splits)) (GrownWell b places)
    (last_node places u) (λ (v : Network). given (grown_with net v)) (last_keeps f.alt u f.ending)
    (λ v w. finished_well net e v w)))))
  where
    start : (c : Bool) → ltb 1 places ≡ c → Holds
        (λ (s : Growth). (s ≡ record { net = first_nodes b t; saved = [] }) × (1 < places))
        (start_as c (first_nodes b t))
    start true e = (refl, ltb-true 1 places e)
    start false e = tt

-- ---- of a growth that is given

module _ (b : List ℕ) (places : ℕ) (t : Table) (g : Grown) (read : Read b) (room : Room t.floats t.numbers places)
    (grown : grow b places t ≡ given g) where
  pub well : GrownWell b places g
  well = holds_given (GrownWell b places) (grow b places t) g (growth_well b places t read room) grown

  pub grown_shape : Shape (at g.table) g.nodes
  grown_shape = well.shape

  -- the arcs read off before the passes are the noted list, as often each, with every bit of time and distance
  pub grown_arcs : SameArcs g.noted (arcs_read (at g.table) g.nodes)
  grown_arcs = well.arcs

  pub grown_counted : length g.noted ≡ g.added + g.joined + g.finished
  grown_counted = well.counted

  pub grown_balanced : 1 + g.splits ≡ g.joined + g.finished
  grown_balanced = well.balanced

  -- an arc leads out with zeros, from the start to an origin's Arrive, or between two neighbouring events of a run,
  -- with the run's own differences
  pub grown_of_runs : AllOfRuns b (at g.table) g.runs g.noted
  grown_of_runs = well.of_runs
