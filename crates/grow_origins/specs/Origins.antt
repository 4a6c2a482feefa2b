-- What inserting the kept origins answers. The rules are `grow_origin` and `grow_origins` of grow_rules'
-- specs/Growth.antt.
use Rattle.std.specs.Prelude.{◌≡◌, ◌≢◌, Bool, false, List, [], ◌∷◌, ℕ, ◌-◌, ◌<◌, Float, Result, Ok, Err}
use Rattle.std.specs.Float.{binary64}
use Rattle.std.specs.Float.Ieee.{of_bits}
use Rattle.net_node.specs.Table.{Table}
use Rattle.laws.specs.Answer.{Answer, refused, given, and_then}
use Rattle.book_format.specs.Format.{leg_parent, leg_link, origin_link}
use Rattle.net_node.specs.declared.EstTime.{EstTime}
use Rattle.net_node.specs.declared.TimedEvent.{TimedEvent}
use Rattle.net_insertion.specs.declared.Place.{Place}
use Rattle.net_insertion.specs.Insertion.{inserted, inserted_table}
use Rattle.grow_rules.specs.Run.{Net, Run, After, insert_event}
use Rattle.grow_rules.specs.Growth.{join_gap, origin_event, origin_run, seek_leg, Growth, origin_clear, grow_origin}
use Rattle.grow_rules.specs.Growth.{origin_arrive}
use Rattle.grow_rules.specs.Growth.{grow_origins}
use Rattle.grow_events.specs.declared.Counts.{Counts}
use Rattle.grow_state.specs.declared.Plan.{Plan}
use Rattle.grow_state.specs.declared.Rest.{Rest}
use Rattle.refusals.specs.declared.Refusal.{Refusal}
use Rattle.refusals.specs.Refusals.{refusal_number}
use Rattle.grow_state.specs.Held.{DriveIn, PlanIn, Lists, lists, idle}
use Rattle.book_options.specs.Options.{kept_origins}
use Rattle.net_node.specs.declared.EstType.{EstType}
use Rattle.grow_waiting.specs.Steps.{Stacks}
use Rattle.grow_events.specs.declared.Mover.{Mover}
use Rattle.grow_events.specs.Held.{NetIn, InsertedAs}
use Rattle.net_join_paths.specs.declared.EstJoinPath.{EstJoinPath}

-- nodes 0 and 1, and no run
unfoldable pub start_state : Rest
start_state = record {
  counts = record { nodes = 2; added = 0; splits = 0; joined = 0; last_end = 0 };
  top = 0;
  used = 0;
}

-- an origin's Arrive and Clear, inserted at the start
unfoldable pub origin_answer : List ℕ → ℕ → ℕ → Net → Answer After
unfolding origin_event origin_run
origin_answer b places link net =
    and_then (insert_event places (join_gap b) net (origin_run b) (origin_arrive b link))
    (λ (a : After). insert_event places (join_gap b) a.net a.run (origin_clear b link))

-- a place on a node, with a held time and offset
abbrev pub place_on : Float → Float → ℕ → Place
place_on time offset i = record { time_to_next = time; dist_to_next = offset; idx_prev = i }

-- An event over this link is inserted from node `last` as from the start.
pub record LeadsFrom (t : Table) (n last link : ℕ) : Type 0 where
  pub within : last < n
  pub answer : (places : ℕ) (ended : ℕ → Bool) (join time offset : Float) (e : TimedEvent)
      → e.link_event.link_idx ≡ link
      → inserted t n places ended join (place_on time offset last) e ≡ inserted t n places ended join
      (place_on time offset 1) e
  pub table : (join time offset : Float) (e : TimedEvent) → e.link_event.link_idx ≡ link
      → inserted_table t n join (place_on time offset last) e ≡ inserted_table t n join (place_on time offset 1) e

-- nodes 0 and 1, and none behind the start
pub record OnlyStart (node : ℕ → EstTime) (n : ℕ) : Type 0 where
  pub two : n ≡ 2
  pub no_next : (node 1).idx_next ≡ 0
  pub no_alt : (node 1).idx_next_alt ≡ 0

-- a link that is none of these origins', given by their rows
abbrev pub OtherLinks : List ℕ → ℕ → List ℕ → Type 0
OtherLinks b l [] = Unit
OtherLinks b l (idx ∷ idxs) = (l ≢ origin_link b idx) × OtherLinks b l idxs

-- each run that waits takes a leg of parent 0, over another link than these origins'
abbrev pub AllFirst : List ℕ → List ℕ → List Run → Type 0
AllFirst b idxs [] = Unit
AllFirst b idxs (r ∷ rs) =
    (leg_parent b (r.leg - 1) ≡ 0) × (OtherLinks b (leg_link b (r.leg - 1)) idxs × AllFirst b idxs rs)

-- no run that waits takes a leg over this link
abbrev pub NotOver : List ℕ → ℕ → List Run → Type 0
NotOver b l [] = Unit
NotOver b l (r ∷ rs) = (leg_link b (r.leg - 1) ≢ l) × NotOver b l rs

-- Between two origins: what growth keeps between two legs, with no run at the front and no path; these origins are
-- still to come.
pub record OriginsIn (b : List ℕ) (p : Plan) (s : Lists) (idxs : List ℕ) (g : Rest) (net : Net)
    (runs : List Run) : Type 0 where
  pub holds : DriveIn b p s [] (idle g) net runs
  pub firsts : AllFirst b idxs runs

-- some network and runs are, before an origin and others behind it
pub record SomeOrigin (b : List ℕ) (p : Plan) (s : Lists) (idx : ℕ) (g : Rest) : Type 0 where
  pub idxs : List ℕ
  pub net : Net
  pub runs : List Run
  pub origins : OriginsIn b p s (idx ∷ idxs) g net runs

-- some network and runs are, before these origins
pub record SomeOrigins (b : List ℕ) (p : Plan) (s : Lists) (idxs : List ℕ) (g : Rest) : Type 0 where
  pub net : Net
  pub runs : List Run
  pub origins : OriginsIn b p s idxs g net runs

-- an answer's network and runs, where these origins are still to come
pub record OriginsGiven (answer : Answer Growth) (b : List ℕ) (p : Plan) (s : Lists) (idxs : List ℕ)
    (g : Rest) : Type 0 where
  pub growth : Growth
  pub is : answer ≡ given growth
  pub origins : OriginsIn b p s idxs g growth.net growth.saved

-- what the code answers: the state then, or a refusal
abbrev pub OriginsAs : Answer Growth → List ℕ → Plan → Lists → List ℕ → Result Rest Refusal → Type 0
OriginsAs answer b p s idxs (Ok g) = OriginsGiven answer b p s idxs g
OriginsAs answer b p s idxs (Err r) = answer ≡ refused (refusal_number r)

-- an origin's run, which is saved: "The leg is found or the book is refused with 10"
unfoldable pub saved_origin : List ℕ → ℕ → Net → Run → List Run → Answer Growth
unfolding seek_leg
saved_origin b link net run runs =
    and_then (seek_leg b run 0 link) (λ (r : Run). given (record { net = net; saved = r ∷ runs }))

-- an origin's events are in the network, and its run is at a place; it is yet to be saved
pub record OriginInserted (b : List ℕ) (p : Plan) (s : Lists) (idxs : List ℕ) (g : Rest) (place : Place)
    (link : ℕ) (net : Net) (run : Run) (runs : List Run) : Type 0 where
  pub origins : OriginsIn b p s idxs g net runs
  pub stands : run.place ≡ place
  pub within : place.idx_prev < g.counts.nodes
  pub no_joins : run.joins ≡ []
  pub others : NotOver b link runs
  pub apart : OtherLinks b link idxs

-- some are
pub record SomeOriginInserted (b : List ℕ) (p : Plan) (reals : List Float) (cells : List ℕ)
    (joins : List EstJoinPath) (g : Rest) (place : Place) (link : ℕ) : Type 0 where
  pub fs : List Float
  pub us : List ℕ
  pub idxs : List ℕ
  pub net : Net
  pub run : Run
  pub runs : List Run
  pub inserted_origin : OriginInserted b p (lists fs us reals cells joins) idxs g place link net run runs

-- ---- the parts

-- an origin's event, at the departure and at rest
abbrev pub event_at_rest : Float → ℕ → EstType → Float → TimedEvent
event_at_rest departure link kind offset = record {
  time = departure;
  offset = offset;
  speed = of_bits binary64 0;
  link_event = record { link_idx = link; est_type = kind };
}

-- a run at node i, at offset 0
abbrev pub mover_at : Float → ℕ → Mover
mover_at time i = record { place = place_on time (of_bits binary64 0) i; has_split = false }

-- ---- what they answer, of every network and runs that the slices hold

-- an origin's events are inserted
abbrev pub InsertsOrigin : Plan → Counts → ℕ → Table → List ℕ → Table → List ℕ
    → Result (Counts × Mover) Refusal → Type 0
InsertsOrigin p c link t cells t' cells' r =
    (b : List ℕ) (reals : ℕ) (start : List ℕ) (net : Net)
    → PlanIn b p reals → NetIn p.w start t.floats t.numbers cells c net
    → InsertedAs (origin_answer b p.w.places link net) p.w start 0 t'.floats t'.numbers cells' [] r

-- its run is saved
abbrev pub SavesOrigin : List ℕ → Plan → Rest → Place → ℕ → Stacks → Stacks → List EstJoinPath → Result Rest Refusal
    → Type 0
SavesOrigin b p g place link s s' joins r =
    (fs : List Float) (us idxs : List ℕ) (net : Net) (run : Run) (runs : List Run)
    → OriginInserted b p (lists fs us s.reals s.cells joins) idxs g place link net run runs
    → OriginsAs (saved_origin b link net run runs) b p (lists fs us s'.reals s'.cells joins) idxs r

-- a row of origins is grown, before those behind it
abbrev pub GrowsOrigin : List ℕ → Plan → Rest → ℕ → Lists → Lists → Result Rest Refusal → Type 0
GrowsOrigin b p g idx s s' r =
    (idxs : List ℕ) (net : Net) (runs : List Run)
    → OriginsIn b p s (idx ∷ idxs) g net runs
    → OtherLinks b (origin_link b idx) idxs
    → OriginsAs (grow_origin b p.w.places (origin_link b idx) (record { net = net; saved = runs }))
    b p s' idxs r

-- all of them are
abbrev pub GrowsOrigins : List ℕ → Plan → Rest → Lists → Lists → Result Rest Refusal → Type 0
GrowsOrigins b p g s s' r =
    (net : Net) (runs : List Run)
    → OriginsIn b p s (kept_origins b) g net runs
    → OriginsAs (grow_origins b p.w.places (kept_origins b) (record { net = net; saved = runs }))
    b p s' [] r
