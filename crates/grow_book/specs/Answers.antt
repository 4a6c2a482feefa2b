-- What the code of growth answers. Growth is `grow` of grow_rules' specs/Growth.antt.
use Rattle.std.specs.Prelude.{◌≡◌, List, [], ◌∷◌, ℕ, ◌<◌, Float, Option, Some, None, Result, Ok, Err}
use Rattle.laws.specs.Answer.{Answer, refused, given, and_then}
use Rattle.book_format.specs.Format.{legs}
use Rattle.grow_rules.specs.Run.{Net, Run}
use Rattle.grow_rules.specs.Growth.{first_nodes, grow_origins, take_leg, drive, end_fakes, last_node, grown_with}
use Rattle.grow_rules.specs.Growth.{Growth}
use Rattle.net_node.specs.Left.{Network}
use Rattle.book_options.specs.Options.{kept_origins}
use Rattle.net_event_map.specs.declared.Layout.{Layout}
use Rattle.grow_rules.specs.Growth.{Grown}
use Rattle.grow_events.specs.declared.Counts.{Counts}
use Rattle.grow_events.specs.Held.{NetIn}
use Rattle.grow_state.specs.declared.Plan.{Plan}
use Rattle.grow_state.specs.declared.State.{State}
use Rattle.grow_state.specs.declared.Rest.{Rest}
use Rattle.grow_state.specs.declared.Front.{Front}
use Rattle.refusals.specs.declared.Refusal.{Refusal}
use Rattle.refusals.specs.Refusals.{refusal_number}
use Rattle.report.specs.declared.Report.{Report}
use Rattle.net_node.specs.Table.{Room, Table}
use Rattle.grow_state.specs.Held.{Lists, lists, DriveIn, TurnedAs, SameDrive, idle, with_front}
use Rattle.arcs_growth.specs.Read.{Read}
use Rattle.net_join_paths.specs.declared.EstJoinPath.{EstJoinPath}
use Rattle.grow_origins.specs.Origins.{OriginsIn, start_state}

-- ---- all runs

-- one turn of `drive`
abbrev pub next_turn : List ℕ → ℕ → Net → List Run → Answer Growth
next_turn b places net [] = given (record { net = net; saved = [] })
next_turn b places net (run ∷ saved) = take_leg b places net run saved

-- the run that takes its leg next is at the front of the same network and runs; or no run is left
abbrev pub NextRun : Plan → List Float → List ℕ → List EstJoinPath → List EstJoinPath → State → Option (Rest × Front)
    → Type 0
NextRun p reals cells joins joins' g None =
    (b : List ℕ) (fs : List Float) (us path : List ℕ) (net : Net) (runs : List Run)
    → DriveIn b p (lists fs us reals cells joins) path g net runs → runs ≡ []
NextRun p reals cells joins joins' g (Some r) = SameDrive p reals cells joins joins' g (with_front r.0 r.1)

-- the network that the driver leaves
pub record DrivenAs (answer : Answer Net) (p : Plan) (fs : List Float) (us cells : List ℕ) (c : Counts) : Type 0 where
  pub net : Net
  pub is : answer ≡ given net
  pub holds : NetIn p.w cells fs us cells c net

-- what the code answers: the counts then, or a refusal
abbrev pub DriveAs : Answer Net → Plan → List Float → List ℕ → List ℕ → Result Counts Refusal → Type 0
DriveAs answer p fs us cells (Ok c) = DrivenAs answer p fs us cells c
DriveAs answer p fs us cells (Err r) = answer ≡ refused (refusal_number r)

-- nodes 0 and 1 and no run, of a book that was read
pub record AtStart (b : List ℕ) (p : Plan) (s : Lists) : Type 0 where
  pub read : Read b
  pub table : Table
  pub room : Room table.floats table.numbers p.w.places
  pub more : 1 < p.w.places
  pub origins : OriginsIn b p s (kept_origins b) start_state (first_nodes b table) []

-- the runs of its kept origins wait
pub record FromOrigins (b : List ℕ) (p : Plan) (s : Lists) (g : Rest) : Type 0 where
  pub read : Read b
  pub table : Table
  pub room : Room table.floats table.numbers p.w.places
  pub more : 1 < p.w.places
  pub growth : Growth
  pub grown :
      grow_origins b p.w.places (kept_origins b) (record { net = first_nodes b table; saved = [] }) ≡ given growth
  pub path : List ℕ
  pub holds : DriveIn b p s path (idle g) growth.net growth.saved

-- ---- growth

-- the end Fakes and the last node, as `grow` has them
unfoldable pub closing : ℕ → Net → Answer Grown
unfolding end_fakes last_node grown_with
closing places net =
    and_then (end_fakes places net.ends 0 (record { table = net.table; nodes = net.nodes }))
    (λ (u : Network). and_then (last_node places u) (λ (v : Network). given (grown_with net v)))

-- what follows the first nodes
unfoldable pub grown_from : List ℕ → ℕ → Net → Answer Grown
unfolding closing grow_origins drive
grown_from b places net =
    and_then (grow_origins b places (kept_origins b) (record { net = net; saved = [] }))
    (λ (g : Growth). and_then (drive (legs b) b places g.net g.saved) (closing places))

-- a network that all runs have left is in the slices
pub record Closing (w : Layout) (fs : List Float) (us cells : List ℕ) (c : Counts) (net : Net) : Type 0 where
  pub start : List ℕ
  pub holds : NetIn w start fs us cells c net

-- some network is
pub record SomeClosing (w : Layout) (fs : List Float) (us cells : List ℕ) (c : Counts) : Type 0 where
  pub net : Net
  pub closes : Closing w fs us cells c net

-- the report's counts and the table's lists of an answer
pub record WholeAs (answer : Answer Grown) (fs : List Float) (us : List ℕ)
    (nodes added splits joined finished : ℕ) : Type 0 where
  pub network : Grown
  pub is : answer ≡ given network
  pub floats : network.table.floats ≡ fs
  pub numbers : network.table.numbers ≡ us
  pub nodes_are : network.nodes ≡ nodes
  pub added_are : network.added ≡ added
  pub splits_are : network.splits ≡ splits
  pub joined_are : network.joined ≡ joined
  pub finished_are : network.finished ≡ finished

-- what the code answers: the report, or a refusal
abbrev pub GrownAs : Answer Grown → List Float → List ℕ → Result Report Refusal → Type 0
GrownAs answer fs us (Ok c) = WholeAs answer fs us c.nodes c.added c.splits c.joined c.finished
GrownAs answer fs us (Err r) = answer ≡ refused (refusal_number r)

-- ---- what the parts answer, of every network and runs that the slices hold

-- the run at the front, or the one that was saved last, takes its leg
abbrev pub TakesNext : List ℕ → Plan → State → Lists → Lists → Result State Refusal → Type 0
TakesNext b p g s s' r =
    (path : List ℕ) (net : Net) (runs : List Run)
    → DriveIn b p s path g net runs
    → TurnedAs (next_turn b p.w.places net runs) b p s' r

-- all runs take their legs
abbrev pub Drives : List ℕ → Plan → Rest → Lists → Lists → Result Counts Refusal → Type 0
Drives b p g s s' r =
    (path : List ℕ) (net : Net) (runs : List Run)
    → DriveIn b p s path (idle g) net runs
    → DriveAs (drive (legs b) b p.w.places net runs) p s'.floats s'.numbers s'.cells r

-- the end Fakes and the last node are put behind a network
abbrev pub Closes : Layout → Counts → Table → List ℕ → Table → Result Report Refusal → Type 0
Closes w c t cells t' r =
    (net : Net) → Closing w t.floats t.numbers cells c net
    → GrownAs (closing w.places net) t'.floats t'.numbers r

-- a network of nodes 0 and 1 grows
abbrev pub GrowsFirst : List ℕ → Plan → Lists → Table → Result Report Refusal → Type 0
GrowsFirst b p s t' r =
    (net : Net)
    → OriginsIn b p s (kept_origins b) start_state net []
    → GrownAs (grown_from b p.w.places net) t'.floats t'.numbers r
