-- How the lent slices hold the network under growth and the run that moves. Contracts use these words; the definitions
-- of growth are grow_rules' specs/. A node's unit of cells has the map's two (net_event_map's specs), and in cell 2
-- what `ends` keeps of a node at which a run has finished.
use Rattle.std.specs.Prelude.{◌≡◌, ◌≢◌, Bool, true, false, List, ℕ, ◌+◌, ◌*◌, ◌≤◌, ◌<◌, length, get_or, Float, Result}
use Rattle.std.specs.Prelude.{Ok, Err}
use Rattle.laws.specs.Answer.{Answer, refused, given}
use Rattle.net_node.specs.Table.{node_at, Room, Indexed, Table}
use Rattle.net_insertion.specs.Insertion.{flagged}
use Rattle.net_join_paths.specs.Entries.{Valid}
use Rattle.net_join_paths.specs.declared.EstJoinPath.{EstJoinPath}
use Rattle.arrayvec.specs.ArrayVec.{ArrayVec}
use Rattle.net_event_map.specs.declared.Layout.{Layout}
use Rattle.net_event_map.specs.EventMap.{CellsApart, Mapped}
use Rattle.grow_path.specs.Path.{point_link, events_at}
use Rattle.grow_path.specs.Kept.{PathIn}
use Rattle.grow_ends.specs.Ends.{EndsIn, Below}
use Rattle.grow_rules.specs.Run.{Net, Run, After, member_of, insert_event, goes_on, run_event, run_events, count_if}
use Rattle.grow_rules.specs.Run.{Outcome, Ended as Left, On as Goes}
use Rattle.event_walk.specs.Walk.{bad_leg_number}
use Rattle.space.specs.Lent.{Lent}
use Rattle.net_node.specs.declared.TimedEvent.{TimedEvent}
use Rattle.event_walk.specs.declared.Movement.{Movement}
use Rattle.event_walk.specs.Course.{course_of}
use Rattle.event_walk.specs.Walk.{points_passed, some_bad}
use Rattle.grow_events.specs.declared.Counts.{Counts}
use Rattle.grow_events.specs.declared.Mover.{Mover}
use Rattle.grow_events.specs.declared.RunOutcome.{RunOutcome}
use Rattle.grow_events.specs.declared.RunOutcome.TheVariants.{On, Ended}
use Rattle.refusals.specs.declared.Refusal.{Refusal}
use Rattle.refusals.specs.declared.Refusal.TheVariants.{BadEvent}
use Rattle.refusals.specs.Refusals.{refusal_number}

-- where a node's mark of an end stands
abbrev pub ends_at : Layout → ℕ
ends_at w = w.nodes_at + 2

-- the counts with one event node more, and a split's Fake
abbrev pub counts_added : Counts → ℕ → Bool → Counts
counts_added c node split = record {
  nodes = node + 1;
  added = c.added + 1;
  splits = count_if split c.splits;
  joined = c.joined;
  last_end = c.last_end;
}

-- the counts with a join's Fake more
abbrev pub counts_joined : Counts → Counts
counts_joined c = record {
  nodes = c.nodes + 1;
  added = c.added;
  splits = c.splits;
  joined = c.joined + 1;
  last_end = c.last_end;
}

-- The network: table, counts, the map of events and the ends. Of the cells before the links' units only the first three
-- of each node's have changed since `start`.
pub record NetIn (w : Layout) (start : List ℕ) (fs : List Float) (us cells : List ℕ) (c : Counts)
    (net : Net) : Type 0 where
  pub table : net.table ≡ record { floats = fs; numbers = us }
  pub nodes : net.nodes ≡ c.nodes
  pub added : net.added ≡ c.added
  pub splits : net.splits ≡ c.splits
  pub joined : net.joined ≡ c.joined
  pub sum : c.nodes ≡ 2 + c.added + c.splits + c.joined
  pub room : Room fs us w.places
  pub within : c.nodes ≤ w.places
  pub indexed : Indexed (node_at fs us) c.nodes
  pub apart : CellsApart cells w
  pub mapped : Mapped cells w (node_at fs us) c.nodes
  pub ends : EndsIn cells (ends_at w) c.last_end net.ends
  pub ends_below : Below c.nodes net.ends
  pub ended : (i : ℕ) → i < w.places → flagged cells (ends_at w) i ≡ member_of net.ends i
  pub elsewhere : (q : ℕ) → q < w.links_at → ((i k : ℕ) → i < w.places → k < 3 → q ≢ w.nodes_at + i * 8 + k)
      → get_or cells q 0 ≡ get_or start q 0

-- the run that moves, on its way through a leg of a network of n nodes
pub record RunIn (n j : ℕ) (list : List EstJoinPath) (m : Mover) (run : Run) : Type 0 where
  pub place : run.place ≡ m.place
  pub leg : run.leg ≡ j
  pub has_split : run.has_split ≡ m.has_split
  pub joins : run.joins ≡ list
  pub few : length list ≤ 1024
  pub valid : Valid list n
  pub stands : m.place.idx_prev < n

-- some network is there
pub record Growing (w : Layout) (fs : List Float) (us cells : List ℕ) (c : Counts) : Type 0 where
  pub start : List ℕ
  pub net : Net
  pub holds : NetIn w start fs us cells c net

-- some network and run are
pub record Moving (w : Layout) (fs : List Float) (us cells : List ℕ) (joins : List EstJoinPath) (c : Counts)
    (m : Mover) : Type 0 where
  pub start : List ℕ
  pub leg : ℕ
  pub net : Net
  pub run : Run
  pub holds : NetIn w start fs us cells c net
  pub runs : RunIn c.nodes leg joins m run

-- The path of some leg is there too: as many points as the walk looks at, whose links are the book's, in cells before
-- the nodes' units.
pub record Along (b : List ℕ) (reals : List Float) (cells : List ℕ) (w : Layout) (many : ℕ)
    (path : List ℕ) : Type 0 where
  pub kept : PathIn b reals cells path
  pub points : many ≡ length path + 1
  pub named : (k : ℕ) → k < length path → point_link b path k < w.links
  pub before : length path * 8 ≤ w.nodes_at

-- some path is
pub record SomePath (b : List ℕ) (reals : List Float) (cells : List ℕ) (w : Layout) (points : ℕ) : Type 0 where
  pub path : List ℕ
  pub along : Along b reals cells w points path

-- what the code answers to an event, or to all of a leg
pub record GoesAs (answer : Answer Outcome) (w : Layout) (start : List ℕ) (leg : ℕ) (fs : List Float)
    (us cells : List ℕ) (joins : List EstJoinPath) (c : Counts) (m : Mover) : Type 0 where
  pub after : After
  pub is : answer ≡ given (Goes after)
  pub net : NetIn w start fs us cells c after.net
  pub run : RunIn c.nodes leg joins m after.run

-- the run ended by a join, in this network
pub record LeftAs (answer : Answer Outcome) (w : Layout) (start : List ℕ) (fs : List Float) (us cells : List ℕ)
    (c : Counts) : Type 0 where
  pub after : Net
  pub is : answer ≡ given (Left after)
  pub net : NetIn w start fs us cells c after

-- the run goes on, has ended, or a refusal
abbrev pub OutcomeAs : Answer Outcome → Layout → List ℕ → ℕ → List Float → List ℕ → List ℕ → List EstJoinPath
    → Result RunOutcome Refusal → Type 0
OutcomeAs answer w start leg fs us cells joins (Ok (On c m)) = GoesAs answer w start leg fs us cells joins c m
OutcomeAs answer w start leg fs us cells joins (Ok (Ended c)) = LeftAs answer w start fs us cells c
OutcomeAs answer w start leg fs us cells joins (Err r) = answer ≡ refused (refusal_number r)

-- an insertion never ends a run
abbrev pub InsertedAs : Answer After → Layout → List ℕ → ℕ → List Float → List ℕ → List ℕ → List EstJoinPath
    → Result (Counts × Mover) Refusal → Type 0
InsertedAs answer w start leg fs us cells joins (Ok r) =
    GoesAs (goes_on answer) w start leg fs us cells joins r.0 r.1
InsertedAs answer w start leg fs us cells joins (Err r) = answer ≡ refused (refusal_number r)

-- ---- row 11 of a leg, asked as its events come

-- a leg's answer, by whether one of its events is bad: row 11 is asked of all of them before any is inserted
abbrev pub unless_bad : Bool → Answer Outcome → Answer Outcome
unless_bad true answer = refused bad_leg_number
unless_bad false answer = answer

-- what the code answers where a run stops before its leg's end, by whether an event is bad that is left
abbrev pub stopped_as : Bool → Result RunOutcome Refusal → Result RunOutcome Refusal
stopped_as true r = Err BadEvent
stopped_as false r = r

-- ---- the answer to an event, and to all of a leg, of every network and run that the slices hold

-- what the lent slices of a network and of the run that moves hold at one moment
pub record NetLists : Type 0 where
  pub floats : List Float
  pub numbers : List ℕ
  pub cells : List ℕ
  pub joins : List EstJoinPath

-- what they hold at a function's entry
abbrev pub net_at_entry : Lent (List Float) → Lent (List ℕ) → Lent (List ℕ) → Lent (ArrayVec EstJoinPath) → NetLists
net_at_entry floats numbers cells joins = record {
  floats = floats.entry.now;
  numbers = numbers.entry.now;
  cells = cells.entry.now;
  joins = joins.entry.now.items;
}

-- and at its exit
abbrev pub net_at_exit : Lent (List Float) → Lent (List ℕ) → Lent (List ℕ) → Lent (ArrayVec EstJoinPath) → NetLists
net_at_exit floats numbers cells joins = record {
  floats = floats.exit.now;
  numbers = numbers.exit.now;
  cells = cells.exit.now;
  joins = joins.exit.now.items;
}

-- an event is inserted at the run's place
abbrev pub InsertsEvent : Layout → Float → Counts → Mover → TimedEvent → Table → List ℕ → Table → List ℕ
    → Result (Counts × Mover) Refusal → Type 0
InsertsEvent w join c m e t cells t' cells' r =
    (start : List ℕ) (joins : List EstJoinPath) (leg : ℕ) (net : Net) (run : Run)
    → NetIn w start t.floats t.numbers cells c net → RunIn c.nodes leg joins m run
    → InsertedAs (insert_event w.places join net run e) w start leg t'.floats t'.numbers cells' joins r

-- "Only a run that has added since its pop joins."
abbrev pub RunsEvent : Layout → Float → Counts → Mover → TimedEvent → NetLists → NetLists → Result RunOutcome Refusal
    → Type 0
RunsEvent w join c m e s s' r =
    (start : List ℕ) (leg : ℕ) (net : Net) (run : Run)
    → NetIn w start s.floats s.numbers s.cells c net → RunIn c.nodes leg s.joins m run
    → OutcomeAs (run_event w.places join net run e) w start leg s'.floats s'.numbers s'.cells s'.joins r

-- all events of a leg, whose points are passed along a path
abbrev pub RunsLeg : List ℕ → List Float → Movement → Layout → Float → Counts → Mover → NetLists → NetLists
    → Result RunOutcome Refusal → Type 0
RunsLeg b reals v w join c m s s' r =
    (start path : List ℕ) (leg : ℕ) (net : Net) (run : Run)
    → NetIn w start s.floats s.numbers s.cells c net → RunIn c.nodes leg s.joins m run
    → Along b reals s.cells w v.points path
    → OutcomeAs (unless_bad (some_bad (points_passed (course_of b reals v))) (run_events w.places join
    (events_at b path (points_passed (course_of b reals v))) (record { net = net; run = run })))
    w start leg s'.floats s'.numbers s'.cells s'.joins r

-- no node is lost
abbrev pub NotFewer : Counts → Result RunOutcome Refusal → Type 0
NotFewer c (Ok (On more m)) = c.nodes ≤ more.nodes
NotFewer c (Ok (Ended more)) = c.nodes ≤ more.nodes
NotFewer c (Err r) = Unit
