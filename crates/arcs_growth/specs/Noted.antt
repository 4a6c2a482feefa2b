-- What every noted arc is, document 01 under "Arcs": a finish's, "(place, end) with zeros"; an origin's Arrive's,
-- "(start, its node) with its time minus the book's departure and distance 0"; or an arc between two neighbouring
-- events of a run. The runs are those that growth notes where they end.
use Rattle.std.specs.Prelude.{◌≡◌, ◌⊎◌, true, false, List, [], ◌∷◌, ℕ, ◌<◌}
use Rattle.std.specs.Float.{binary64}
use Rattle.std.specs.Float.Ieee.{sub, of_bits}
use Rattle.book_format.specs.Format.{origin_link}
use Rattle.book_options.specs.Options.{kept_origins}
use Rattle.net_node.specs.declared.EstType.TheVariants.{Arrive}
use Rattle.net_node.specs.declared.EstTime.{EstTime}
use Rattle.net_node.specs.Table.{is_fake}
use Rattle.grow_rules.specs.Run.{Arc, EndedRun, member_of}
use Rattle.grow_rules.specs.Growth.{departure, finishes}
use Rattle.arcs_growth.specs.Runs.{run_events_to, SomeRun, FirstAt, LastAt, LeadsOn}

-- "A finish notes (place, end) with zeros": it leaves the node of a run's last event, where the run "finishes in the
-- leg whose link is a destination, never in its first leg"
pub record LeadsOut (b : List ℕ) (runs : List EndedRun) (arc : Arc) : Type 0 where
  pub run : SomeRun (λ (r : EndedRun). (finishes b r.leg ≡ true)
      × LastAt (run_events_to b r.leg) r.nodes arc.from) runs
  pub to : arc.to ≡ 0
  pub time : arc.time ≡ of_bits binary64 0
  pub distance : arc.distance ≡ of_bits binary64 0

-- "An origin's Arrive notes (start, its node)": the node of a run's first event, which is a kept origin's Arrive
pub record Starts (b : List ℕ) (node : ℕ → EstTime) (runs : List EndedRun) (arc : Arc) : Type 0 where
  pub idx : ℕ
  pub kept : member_of (kept_origins b) idx ≡ true
  pub run : SomeRun (λ (r : EndedRun). FirstAt r.nodes arc.to) runs
  pub from : arc.from ≡ 1
  pub to_event : (node arc.to).link_event ≡ record { link_idx = origin_link b idx; est_type = Arrive }
  pub time : arc.time ≡ sub binary64 (departure b) (departure b)
  pub distance : arc.distance ≡ sub binary64 (of_bits binary64 0) (of_bits binary64 0)

-- from the node of one event of a run to the node of the very next, with the run's own differences
abbrev pub Follows : List ℕ → List EndedRun → Arc → Type 0
Follows b runs arc = SomeRun (λ (r : EndedRun). LeadsOn (run_events_to b r.leg) r.nodes arc) runs

-- one of the three
abbrev pub OfRun : List ℕ → (ℕ → EstTime) → List EndedRun → Arc → Type 0
OfRun b node runs arc = LeadsOut b runs arc ⊎ (Starts b node runs arc ⊎ Follows b runs arc)

-- each arc of a list is
abbrev pub AllOfRuns : List ℕ → (ℕ → EstTime) → List EndedRun → List Arc → Type 0
AllOfRuns b node runs [] = Unit
AllOfRuns b node runs (arc ∷ arcs) = OfRun b node runs arc × AllOfRuns b node runs arcs

-- ---- the ends of arcs

-- "event nodes (Arrive or Clear), by number", among the first n
pub record EventAt (node : ℕ → EstTime) (n i : ℕ) : Type 0 where
  pub inside : i < n
  pub real : is_fake (node i) ≡ false

-- "Node 1 is the start, the last node the end; other arc ends are event nodes": 0 stands for the end
pub record ArcEnds (node : ℕ → EstTime) (n : ℕ) (arc : Arc) : Type 0 where
  pub from : (arc.from ≡ 1) ⊎ EventAt node n arc.from
  pub to : (arc.to ≡ 0) ⊎ EventAt node n arc.to

-- of each arc of a list
abbrev pub AllEnds : (ℕ → EstTime) → ℕ → List Arc → Type 0
AllEnds node n [] = Unit
AllEnds node n (arc ∷ arcs) = ArcEnds node n arc × AllEnds node n arcs
