-- `make_est_times` up to the checks, document 01 under "Driver and ends": "last saved run first, all of a leg's events
-- before its insertions. The leg is found or the book is refused with 10; it is sought where the source extends the
-- path: an origin's after its Clear is added, an alternative's before the run goes on. A run finishes in the leg whose
-- link is a destination, never in its first leg. End Fakes are pushed for the ends in reverse."
use Rattle.std.specs.Prelude.{Bool, true, false, not, ◌&&◌, ◌||◌, List, [], ◌∷◌, ℕ, zero, suc, ◌+◌, ◌-◌, eqb, ltb}
use Rattle.std.specs.Prelude.{length, Float, Option, Some, None}
use Rattle.std.specs.Float.{binary64}
use Rattle.std.specs.Float.Ieee.{add, of_bits}
use Rattle.laws.specs.Answer.{Answer, refused, given, and_then}
use Rattle.laws.specs.Below.{some_below}
use Rattle.book_format.specs.Format.{legs, destinations, link_next, link_next_alt, origin_link, destination_link}
use Rattle.book_format.specs.Format.{leg_parent}
use Rattle.book_format.specs.Format.{join_bits, departure_bits, length_bits, float_of}
use Rattle.book_legs.specs.Legs.{search_of, leg_search, search_number}
use Rattle.book_options.specs.Options.{in_set, kept_origins}
use Rattle.event_walk.specs.Walk.{row11, bad_leg_number}
use Rattle.net_node.specs.declared.EstType.{EstType}
use Rattle.net_node.specs.declared.EstType.TheVariants.{Arrive, Clear}
use Rattle.net_node.specs.declared.EstTime.{EstTime}
use Rattle.net_node.specs.declared.TimedEvent.{TimedEvent}
use Rattle.net_node.specs.Table.{blank, Table, put, at, with_arc, with_next, with_prev, with_prev_alt}
use Rattle.grow_path.specs.Path.{link_of, leg_course, leg_events}
use Rattle.net_node.specs.Left.{Network}
use Rattle.grow_rules.specs.Run.{Arc, EndedRun, Net, Run, After, Outcome, Ended, On, arc_to_end, member_of}
use Rattle.grow_rules.specs.Run.{insert_event}
use Rattle.grow_rules.specs.Run.{run_events}

-- the book's J
abbrev pub join_gap : List ℕ → Float
join_gap b = float_of (join_bits b)

-- the departure
abbrev pub departure : List ℕ → Float
departure b = float_of (departure_bits b)

-- A network and the runs that wait, the last saved first.
pub record Growth : Type 0 where
  pub net : Net
  pub saved : List Run

-- ---- nodes 0 and 1

-- a node made of the blank one: its next, its previous and previous alternative, and a held time
unfoldable pub fake_node : ℕ → ℕ → ℕ → Float → EstTime
unfolding blank
fake_node next prev prev_alt time =
    with_prev_alt (with_prev (with_next (with_arc blank time blank.dist_to_next) next) prev) prev_alt

-- node 0 leads to node 1, the start, which holds the departure
unfoldable pub first_nodes : List ℕ → Table → Net
unfolding fake_node
first_nodes b t = record {
  table = put (put t 0 (fake_node 1 0 0 (of_bits binary64 0))) 1 (fake_node 0 0 0 (departure b));
  nodes = 2;
  ends = [];
  added = 0;
  splits = 0;
  joined = 0;
  noted = [];
  runs = [];
}

-- ---- origins

-- an event of an origin, at the departure and at rest
unfoldable pub origin_event : List ℕ → ℕ → EstType → Float → TimedEvent
origin_event b link kind offset = record {
  time = departure b;
  offset = offset;
  speed = of_bits binary64 0;
  link_event = record { link_idx = link; est_type = kind };
}

-- "its origin's Arrive and Clear": the Arrive, at offset 0
abbrev pub origin_arrive : List ℕ → ℕ → TimedEvent
origin_arrive b link = origin_event b link Arrive (of_bits binary64 0)

-- the Clear, at the train's length
abbrev pub origin_clear : List ℕ → ℕ → TimedEvent
origin_clear b link = origin_event b link Clear (add binary64 (of_bits binary64 0) (float_of (length_bits b)))

-- a run at the start
unfoldable pub origin_run : List ℕ → Run
origin_run b = record {
  place = record { time_to_next = departure b; dist_to_next = of_bits binary64 0; idx_prev = 1 };
  leg = 0;
  has_split = false;
  joins = [];
  nodes = [];
}

-- a run with another leg, and whether it has added
abbrev pub on_leg : Run → ℕ → Bool → Run
on_leg run j added = record {
  place = run.place;
  leg = j;
  has_split = added;
  joins = run.joins;
  nodes = run.nodes;
}

-- a run that takes the leg that a search has found: it has not added since. A search that finds none gives its number.
abbrev pub takes_found : Run → Option ℕ → Answer Run
takes_found run None = refused (search_number None)
takes_found run (Some j) = given (on_leg run j false)

-- the same by the leg's number, 0 being none
abbrev pub takes : Run → ℕ → Answer Run
takes run j = takes_found run (search_of j)

-- "The leg is found or the book is refused with 10": the leg with this parent and link
unfoldable pub seek_leg : List ℕ → Run → ℕ → ℕ → Answer Run
unfolding leg_search
seek_leg b run parent link = takes_found run (leg_search b parent link)

-- "a saved run keeps its place": a run more that waits, beside the network then
abbrev pub saves : Growth → Net → Run → Growth
saves g net run = record { net = net; saved = run ∷ g.saved }

-- one origin: its two events from the start on, then its leg, "sought where the source extends the path"
unfoldable pub grow_origin : List ℕ → ℕ → ℕ → Growth → Answer Growth
unfolding origin_event origin_run seek_leg
grow_origin b places link g =
    and_then (insert_event places (join_gap b) g.net (origin_run b) (origin_arrive b link))
    (λ (a : After). and_then (insert_event places (join_gap b) a.net a.run (origin_clear b link))
    (λ (c : After). and_then (seek_leg b c.run 0 link) (λ (run : Run). given (saves g c.net run))))

-- the kept origins, by their rows, one after the other
unfoldable pub grow_origins : List ℕ → ℕ → List ℕ → Growth → Answer Growth
unfolding grow_origin
grow_origins b places [] g = given g
grow_origins b places (idx ∷ idxs) g = and_then (grow_origin b places (origin_link b idx) g)
    (grow_origins b places idxs)

-- ---- a run's finish

-- "finish not on the last node, or on one with a next or already an end"
unfoldable pub bad_finish : Net → Run → Bool
bad_finish net run =
    let last = net.nodes - 1 in
    not (eqb run.place.idx_prev last)
    || not (eqb (at net.table last).idx_next 0)
    || member_of net.ends last

-- the run's place is an end, and "A finish notes (place, end) with zeros." The run ends there.
unfoldable pub finished_at : Net → Run → Net
finished_at net run = record {
  table = net.table;
  nodes = net.nodes;
  ends = run.place.idx_prev ∷ net.ends;
  added = net.added;
  splits = net.splits;
  joined = net.joined;
  noted = arc_to_end run.place ∷ net.noted;
  runs = record { leg = run.leg; nodes = run.nodes } ∷ net.runs;
}

-- by whether the finish is bad: row 13
abbrev pub finish_as : Bool → Net → Run → List Run → Answer Growth
finish_as true net run saved = refused 13
finish_as false net run saved = given (record { net = finished_at net run; saved = saved })

-- ---- a run's way on

-- the entries of all waiting runs
unfoldable pub waiting : List Run → ℕ
waiting [] = 0
waiting (run ∷ runs) = length run.joins + waiting runs

-- the run goes on over a link, with the flag that it had before: it is the next to be taken up
unfoldable pub on_over : List ℕ → Net → Run → ℕ → List Run → Answer Growth
unfolding seek_leg
on_over b net run link saved =
    and_then (seek_leg b run run.leg link)
    (λ (r : Run). given (record { net = net; saved = on_leg r r.leg run.has_split ∷ saved }))

-- Row 12: "entries of all waiting runs beyond the table's places"
abbrev pub fits_in : Bool → List Run → Answer (List Run)
fits_in true saved = refused 12
fits_in false saved = given saved

-- an alternative's run is saved: it has not added since its pop
unfoldable pub save_over : List ℕ → ℕ → Run → ℕ → List Run → Answer (List Run)
unfolding seek_leg waiting
save_over b places run link saved =
    and_then (seek_leg b run run.leg link) (λ (r : Run). fits_in (ltb places (waiting (r ∷ saved))) (r ∷ saved))

-- by whether next and its alternative are in the set. Row 9: "next is 0, or neither next is in the set"
abbrev pub on_as : Bool → Bool → Bool → List ℕ → ℕ → Net → Run → ℕ → ℕ → List Run → Answer Growth
on_as true m a b places net run next alt saved = refused 9
on_as false false false b places net run next alt saved = refused 9
on_as false true false b places net run next alt saved = on_over b net run next saved
on_as false false true b places net run next alt saved = on_over b net run alt saved
on_as false true true b places net run next alt saved =
    and_then (save_over b places run alt saved) (on_over b net run next)

-- a run's way on, behind the link of its leg
unfoldable pub go_on : List ℕ → ℕ → Net → Run → List Run → Answer Growth
unfolding on_over save_over
go_on b places net run saved =
    let next = link_next b (link_of b run.leg) in
    let alt = link_next_alt b (link_of b run.leg) in
    on_as (eqb next 0) (in_set b next) (in_set b alt) b places net run next alt saved

-- ---- one leg

-- a link that is a destination's
unfoldable pub is_destination : List ℕ → ℕ → Bool
is_destination b link = some_below (destinations b) (λ i. eqb (destination_link b i) link)

-- "A run finishes in the leg whose link is a destination, never in its first leg."
unfoldable pub finishes : List ℕ → ℕ → Bool
unfolding is_destination
finishes b j = is_destination b (link_of b j) && ltb 0 (leg_parent b (j - 1))

-- by whether the run finishes in this leg
abbrev pub leg_end_as : Bool → List ℕ → ℕ → After → List Run → Answer Growth
leg_end_as true b places a saved = finish_as (bad_finish a.net a.run) a.net a.run saved
leg_end_as false b places a saved = go_on b places a.net a.run saved

-- what follows a leg's events: nothing for a run that ended by a join
abbrev pub leg_done : List ℕ → ℕ → List Run → Outcome → Answer Growth
leg_done b places saved (Ended net) = given (record { net = net; saved = saved })
leg_done b places saved (On a) = leg_end_as (finishes b a.run.leg) b places a saved

-- by whether row 11 holds of the leg
abbrev pub leg_as : Bool → List ℕ → ℕ → Net → Run → List Run → Answer Growth
leg_as true b places net run saved = refused bad_leg_number
leg_as false b places net run saved =
    and_then (run_events places (join_gap b) (leg_events b run.leg) (record { net = net; run = run }))
    (leg_done b places saved)

-- one leg of the first run of the list: "all of a leg's events before its insertions"
unfoldable pub take_leg : List ℕ → ℕ → Net → Run → List Run → Answer Growth
unfolding finishes go_on
take_leg b places net run saved = leg_as (row11 (leg_course b run.leg)) b places net run saved

-- ---- all runs

-- The loop, a leg to a turn, until no run waits. A leg is taken at most once, so as many turns as there are legs are
-- enough: 0, which is no row's number, stands for turns that ran out, and no book that was read gets it (`drives` and
-- `grow_numbered` in crates/arcs_growth/proofs).
unfoldable pub drive : ℕ → List ℕ → ℕ → Net → List Run → Answer Net
unfolding take_leg
drive zero b places net [] = given net
drive zero b places net (run ∷ saved) = refused 0
drive (suc k) b places net [] = given net
drive (suc k) b places net (run ∷ saved) =
    and_then (take_leg b places net run saved) (λ (g : Growth). drive k b places g.net g.saved)

-- ---- the ends

-- a finished run's event leads to its end Fake, with zeros
unfoldable pub leads_to_end : EstTime → ℕ → EstTime
leads_to_end n next = with_next (with_arc n (of_bits binary64 0) (of_bits binary64 0)) next

-- Row 12: "node beyond the table"
abbrev pub no_room : Answer Network
no_room = refused 12

-- by whether there is a place for one more node
abbrev pub room_for : Bool → Network → Answer Network
room_for true t = given t
room_for false t = no_room

-- "End Fakes are pushed for the ends in reverse": the latest first, each the previous alternative of the one after it
unfoldable pub end_fakes : ℕ → List ℕ → ℕ → Network → Answer Network
unfolding leads_to_end fake_node
end_fakes places [] alt t = given t
end_fakes places (i ∷ is) alt t =
    let k = t.nodes in
    let t1 = put t.table k (fake_node (suc k) i alt (of_bits binary64 0)) in
    let t2 = put t1 i (leads_to_end (at t1 i) k) in
    and_then (room_for (ltb k places) (record { table = t2; nodes = suc k })) (end_fakes places is k)

-- the last node, the end
unfoldable pub last_node : ℕ → Network → Answer Network
unfolding fake_node
last_node places t =
    room_for (ltb t.nodes places)
    (record {
      table = put t.table t.nodes (fake_node 0 (t.nodes - 1) 0 (of_bits binary64 0));
      nodes = suc t.nodes;
    })

-- ---- growth

-- what growth gives: the network with its ends, the counts of the report, the arcs noted, and the runs as they ended
pub record Grown : Type 0 where
  pub table : Table
  pub nodes : ℕ
  pub added : ℕ
  pub splits : ℕ
  pub joined : ℕ
  pub finished : ℕ
  pub noted : List Arc
  pub runs : List EndedRun

-- Row 12: by whether there are places for nodes 0 and 1
abbrev pub start_as : Bool → Net → Answer Growth
start_as true net = given (record { net = net; saved = [] })
start_as false net = refused 12

-- the network with its ends, its counts and its lists
unfoldable pub grown_with : Net → Network → Grown
grown_with net t = record {
  table = t.table;
  nodes = t.nodes;
  added = net.added;
  splits = net.splits;
  joined = net.joined;
  finished = length net.ends;
  noted = net.noted;
  runs = net.runs;
}

-- growth of a book on a table of so many places, from the table as it is lent
unfoldable pub grow : List ℕ → ℕ → Table → Answer Grown
unfolding first_nodes grow_origins drive end_fakes last_node grown_with
grow b places t =
    and_then (start_as (ltb 1 places) (first_nodes b t))
    (λ (s : Growth). and_then (grow_origins b places (kept_origins b) s)
    (λ (g : Growth). and_then (drive (legs b) b places g.net g.saved)
    (λ (net : Net). and_then (end_fakes places net.ends 0 (record { table = net.table; nodes = net.nodes }))
    (λ (u : Network). and_then (last_node places u) (λ (v : Network). given (grown_with net v))))))
