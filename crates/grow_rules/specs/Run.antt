-- One event of a run: joins, then insertion, with what the growth rule notes. Document 01 under "Arcs": "The growth
-- rule is a definition over the book alone: the growth above on a table of its own, beside it a list, empty at first."
use Rattle.std.specs.Prelude.{Bool, true, false, ◌||◌, List, [], ◌∷◌, ◌++◌, ℕ, suc, eqb, Float, Result, Ok, Err}
use Rattle.std.specs.Float.{binary64}
use Rattle.std.specs.Float.Ieee.{sub, of_bits}
use Rattle.net_node.specs.Table.{Table, at}
use Rattle.laws.specs.Answer.{Answer, refused, given, and_then}
use Rattle.net_node.specs.declared.TimedEvent.{TimedEvent}
use Rattle.net_insertion.specs.declared.Place.{Place}
use Rattle.net_insertion.specs.declared.Insertion.{Insertion}
use Rattle.net_insertion.specs.declared.Insertion.TheVariants.{Added, Moved}
use Rattle.net_insertion.specs.Insertion.{inserted, inserted_table}
use Rattle.refusals.specs.declared.Refusal.{Refusal}
use Rattle.refusals.specs.Refusals.{refusal_number}
use Rattle.net_join_paths.specs.declared.EstJoinPath.{EstJoinPath}
use Rattle.net_joins.specs.Joins.{JoinStep, JoinsTo, GoesOn, Beyond, step_number, join_step, joined_table}

-- An arc: from the start or an event's node to an event's node, 0 being the end, with its time and distance.
pub record Arc : Type 0 where
  pub from : ℕ
  pub to : ℕ
  pub time : Float
  pub distance : Float

-- A run that has ended, by a join or by a finish: the leg in which it did, and the nodes of its events up to there, in
-- their order: "Its place is the node it last added or moved to", and for a join the target at last.
pub record EndedRun : Type 0 where
  pub leg : ℕ
  pub nodes : List ℕ

-- The network under growth: its table and how many nodes it has, the finished runs' events (the latest first), the
-- report's counts, the arcs noted and the runs that have ended (both the latest first).
pub record Net : Type 0 where
  pub table : Table
  pub nodes : ℕ
  pub ends : List ℕ
  pub added : ℕ
  pub splits : ℕ
  pub joined : ℕ
  pub noted : List Arc
  pub runs : List EndedRun

-- A run: "Its place is the node it last added or moved to", with its own event's time and offset there; its leg;
-- whether it "has added since its pop"; its list of join entries; and the nodes of its events so far, in their order,
-- which nothing reads but what is said of arcs.
pub record Run : Type 0 where
  pub place : Place
  pub leg : ℕ
  pub has_split : Bool
  pub joins : List EstJoinPath
  pub nodes : List ℕ

-- "both with the time and offset of the run's own event minus those of its event before, never a node's"
unfoldable pub arc_to : Place → ℕ → TimedEvent → Arc
arc_to p i e = record {
  from = p.idx_prev;
  to = i;
  time = sub binary64 e.time p.time_to_next;
  distance = sub binary64 e.offset p.dist_to_next;
}

-- "A finish notes (place, end) with zeros."
unfoldable pub arc_to_end : Place → Arc
arc_to_end p = record { from = p.idx_prev; to = 0; time = of_bits binary64 0; distance = of_bits binary64 0 }

-- whether a number is in a list
abbrev pub member_of : List ℕ → ℕ → Bool
member_of [] i = false
member_of (x ∷ xs) i = eqb x i || member_of xs i

-- ---- insertion

-- one more, if so
abbrev pub count_if : Bool → ℕ → ℕ
count_if true n = suc n
count_if false n = n

-- the network after an addition: the new place is its last node
unfoldable pub added_to : Net → Table → Place → Bool → Arc → Net
added_to net t q split arc = record {
  table = t;
  nodes = suc q.idx_prev;
  ends = net.ends;
  added = suc net.added;
  splits = count_if split net.splits;
  joined = net.joined;
  noted = arc ∷ net.noted;
  runs = net.runs;
}

-- a node more behind those of a run's events
abbrev pub nodes_to : Run → ℕ → List ℕ
nodes_to run i = run.nodes ++ (i ∷ [])

-- the run at its new place, and whether it has added since its pop
unfoldable pub moved_to : Run → Place → Bool → Run
moved_to run q added = record {
  place = q;
  leg = run.leg;
  has_split = added;
  joins = run.joins;
  nodes = nodes_to run q.idx_prev;
}

-- what became of the network and of a run at an event
pub record After : Type 0 where
  pub net : Net
  pub run : Run

-- "Any other addition notes (place, added node)": and so does an origin's Arrive, whose place is the start at the
-- departure. "A move, a Fake .. note nothing."
abbrev pub inserted_run : Net → Run → TimedEvent → Table → Result Insertion Refusal → Answer After
inserted_run net run e t (Err r) = refused (refusal_number r)
inserted_run net run e t (Ok (Moved q)) = given (record { net = net; run = moved_to run q run.has_split })
inserted_run net run e t (Ok (Added q split)) =
    given (record { net = added_to net t q split (arc_to run.place q.idx_prev e); run = moved_to run q true })

-- an event inserted at a run's place
unfoldable pub insert_event : ℕ → Float → Net → Run → TimedEvent → Answer After
unfolding added_to moved_to arc_to
insert_event places join net run e =
    inserted_run net run e (inserted_table net.table net.nodes join run.place e)
    (inserted net.table net.nodes places (member_of net.ends) join run.place e)

-- ---- joins

-- "a join (place, target)". The run ends there, on the target.
unfoldable pub joined_to : Net → Run → TimedEvent → ℕ → Net
unfolding arc_to
joined_to net run e target = record {
  table = joined_table net.table net.nodes target e;
  nodes = suc net.nodes;
  ends = net.ends;
  added = net.added;
  splits = net.splits;
  joined = suc net.joined;
  noted = arc_to run.place target e ∷ net.noted;
  runs = record { leg = run.leg; nodes = nodes_to run target } ∷ net.runs;
}

-- what an event makes of a run: it has ended by a join, or goes on
pub data Outcome : Type 0 where
  Ended : Net → Outcome
  On : After → Outcome

-- an insertion never ends a run
abbrev pub goes_on : Answer After → Answer Outcome
goes_on (refused n) = refused n
goes_on (given a) = given (On a)

-- a run with another list of join entries
unfoldable pub with_joins : Run → List EstJoinPath → Run
with_joins run es = record {
  place = run.place;
  leg = run.leg;
  has_split = run.has_split;
  joins = es;
  nodes = run.nodes;
}

-- by what becomes of the run's joins: row 12, the join, or insertion with the list then
abbrev pub joined_as : ℕ → Float → Net → Run → TimedEvent → JoinStep → Answer Outcome
joined_as places join net run e Beyond = refused (step_number Beyond)
joined_as places join net run e (JoinsTo target) = given (Ended (joined_to net run e target))
joined_as places join net run e (GoesOn es) = goes_on (insert_event places join net (with_joins run es) e)

-- "Only a run that has added since its pop joins."
abbrev pub event_as : Bool → ℕ → Float → Net → Run → TimedEvent → Answer Outcome
event_as true places join net run e =
    joined_as places join net run e (join_step (at net.table) net.nodes places join e run.joins)
event_as false places join net run e = goes_on (insert_event places join net run e)

-- one event of a run
unfoldable pub run_event : ℕ → Float → Net → Run → TimedEvent → Answer Outcome
unfolding insert_event joined_to with_joins
run_event places join net run e = event_as run.has_split places join net run e

-- a run that has ended takes no more events
abbrev pub next_event : (After → Answer Outcome) → Outcome → Answer Outcome
next_event f (Ended net) = given (Ended net)
next_event f (On a) = f a

-- the events of a leg, one after the other
unfoldable pub run_events : ℕ → Float → List TimedEvent → After → Answer Outcome
unfolding run_event
run_events places join [] a = given (On a)
run_events places join (e ∷ es) a =
    and_then (run_event places join a.net a.run e) (next_event (run_events places join es))
