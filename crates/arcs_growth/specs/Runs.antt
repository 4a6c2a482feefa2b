-- The runs of a book, their nodes, and what an arc between events is, document 01 under "Arcs": "A run is an origin and
-- the legs that the driver takes for it, from one with parent 0, each the parent of the next. Its events are its
-- origin's Arrive and Clear, then its legs' events in order. Its place is the node it last added or moved to".
-- Which runs there are growth notes itself where they end (`EndedRun`, grow_rules' specs/Run.antt).
use Rattle.std.specs.Prelude.{◌≡◌, ◌⊎◌, true, false, List, [], ◌∷◌, ◌++◌, ℕ, suc, ◌<◌}
use Rattle.std.specs.Float.{binary64}
use Rattle.std.specs.Float.Ieee.{sub, lt}
use Rattle.floats.specs.Floats.{gap}
use Rattle.book_format.specs.Format.{legs, origin_link, link_next, link_next_alt}
use Rattle.book_format.specs.Chains.{leg_below}
use Rattle.book_options.specs.Options.{in_set, kept_origins}
use Rattle.net_node.specs.declared.EstTime.{EstTime}
use Rattle.net_node.specs.declared.TimedEvent.{TimedEvent}
use Rattle.grow_path.specs.Path.{path_of, link_of, leg_events}
use Rattle.grow_rules.specs.Run.{Arc, EndedRun, member_of}
use Rattle.grow_rules.specs.Growth.{join_gap, finishes, origin_arrive, origin_clear}

-- ---- the legs

-- the legs that the driver takes: a kept origin's, which has parent 0, and from a leg in which no run finishes those
-- over its link's next and next alternative, if these are in the options' set
pub data Taken (b : List ℕ) : ℕ → Type 0 where
  first : (idx j : ℕ) → member_of (kept_origins b) idx ≡ true → leg_below b (legs b) 0 (origin_link b idx) ≡ suc j
      → Taken b (suc j)
  later : (i j link : ℕ) → Taken b i → finishes b i ≡ false
      → (link ≡ link_next b (link_of b i)) ⊎ (link ≡ link_next_alt b (link_of b i)) → in_set b link ≡ true
      → leg_below b (legs b) i link ≡ suc j → Taken b (suc j)

-- ---- the events

-- the events of legs, one leg after the other
unfoldable pub events_of_legs : List ℕ → List ℕ → List TimedEvent
events_of_legs b [] = []
events_of_legs b (j ∷ js) = leg_events b j ++ events_of_legs b js

-- "its origin's Arrive and Clear": the origin's link is that of the first leg
abbrev pub origin_events : List ℕ → List ℕ → List TimedEvent
origin_events b [] = []
origin_events b (j ∷ js) = origin_arrive b (link_of b j) ∷ origin_clear b (link_of b j) ∷ []

-- the events of the run that has taken the legs up to leg j
unfoldable pub run_events_to : List ℕ → ℕ → List TimedEvent
unfolding events_of_legs
run_events_to b j = origin_events b (path_of b j) ++ events_of_legs b (path_of b j)

-- ---- the nodes

-- A node of an event, among the first n: it has the event's link and kind, and the event's own speed, where the run
-- added it, or one closer than J, where the run moved there or joined. (The source takes the difference of the two
-- speeds one way where it moves, the other way where it joins.)
pub record HasEvent (b : List ℕ) (node : ℕ → EstTime) (n : ℕ) (e : TimedEvent) (i : ℕ) : Type 0 where
  pub inside : i < n
  pub event : (node i).link_event ≡ e.link_event
  pub speed : ((node i).speed ≡ e.speed)
      ⊎ ((lt (gap e.speed (node i).speed) (join_gap b) ≡ true)
      ⊎ (lt (gap (node i).speed e.speed) (join_gap b) ≡ true))

-- nodes of a run's events, one for each, from the first up to where the run ended
abbrev pub Visits : List ℕ → (ℕ → EstTime) → ℕ → List TimedEvent → List ℕ → Type 0
Visits b node n es [] = Unit
Visits b node n [] (i ∷ is) = ⊥
Visits b node n (e ∷ es) (i ∷ is) = HasEvent b node n e i × Visits b node n es is

-- a run of the growth: the driver takes its leg, and so those before it, and its nodes are those of its events
pub record RunTaken (b : List ℕ) (node : ℕ → EstTime) (n : ℕ) (run : EndedRun) : Type 0 where
  pub taken : Taken b run.leg
  pub visits : Visits b node n (run_events_to b run.leg) run.nodes

-- all runs of a list are
abbrev pub AllTaken : List ℕ → (ℕ → EstTime) → ℕ → List EndedRun → Type 0
AllTaken b node n [] = Unit
AllTaken b node n (run ∷ runs) = RunTaken b node n run × AllTaken b node n runs

-- some run of a list is such
abbrev pub SomeRun : (EndedRun → Type 0) → List EndedRun → Type 0
SomeRun P [] = ⊥
SomeRun P (run ∷ runs) = P run ⊎ SomeRun P runs

-- the node of a run's first event
abbrev pub FirstAt : List ℕ → ℕ → Type 0
FirstAt [] k = ⊥
FirstAt (i ∷ is) k = i ≡ k

-- the node of a run's last event: each of its events has a node, and this is the last
abbrev pub LastAt : List TimedEvent → List ℕ → ℕ → Type 0
LastAt [] is k = ⊥
LastAt (x ∷ []) [] k = ⊥
LastAt (x ∷ []) (i ∷ []) k = i ≡ k
LastAt (x ∷ []) (i ∷ j ∷ is) k = ⊥
LastAt (x ∷ y ∷ es) [] k = ⊥
LastAt (x ∷ y ∷ es) (i ∷ is) k = LastAt (y ∷ es) is k

-- ---- an arc between two events

-- from node i of event x to node k of event y: "with the time and offset of the run's own event minus those of its
-- event before, never a node's"
pub record BetweenEvents (x y : TimedEvent) (i k : ℕ) (arc : Arc) : Type 0 where
  pub from : arc.from ≡ i
  pub to : arc.to ≡ k
  pub time : arc.time ≡ sub binary64 y.time x.time
  pub distance : arc.distance ≡ sub binary64 y.offset x.offset

-- from the node of one of a run's events to the node of the very next
abbrev pub LeadsOn : List TimedEvent → List ℕ → Arc → Type 0
LeadsOn [] is arc = ⊥
LeadsOn (x ∷ []) is arc = ⊥
LeadsOn (x ∷ y ∷ es) [] arc = ⊥
LeadsOn (x ∷ y ∷ es) (i ∷ []) arc = ⊥
LeadsOn (x ∷ y ∷ es) (i ∷ k ∷ is) arc = BetweenEvents x y i k arc ⊎ LeadsOn (y ∷ es) (k ∷ is) arc
