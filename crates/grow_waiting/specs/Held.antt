-- The runs that wait, as the work space keeps them: a stack through the legs that they take next. Document 01: "last
-- saved run first"; "a saved run keeps its place". A waiting run stands at its leg j: its node, how many legs its path
-- has before j, how many join entries it has and the leg of the run below it in cells 4 to 7 of unit j, the time and
-- offset of its own last event in two reals. The entries of all waiting runs are one stack in cells 3 and 4 of the
-- nodes' units, the last saved run's on top.
use Rattle.std.specs.Prelude.{◌≡◌, ◌≢◌, List, [], ◌∷◌, ℕ, suc, ◌+◌, ◌-◌, ◌*◌, ◌≤◌, ◌<◌, length, get_or, Float}
use Rattle.std.specs.Float.{nan}
use Rattle.net_insertion.specs.declared.Place.{Place}
use Rattle.net_join_paths.specs.declared.EstJoinPath.{EstJoinPath}
use Rattle.grow_waiting.specs.declared.rooms.Rooms.{Rooms}
use Rattle.grow_waiting.specs.declared.Popped.{Popped}

-- a run that waits: its place, the leg that it takes next, how many legs it has taken, and its join entries
pub record Waiting : Type 0 where
  pub place : Place
  pub leg : ℕ
  pub depth : ℕ
  pub joins : List EstJoinPath

-- entries in the nodes' units from k on
abbrev pub EntriesFrom : List ℕ → Rooms → ℕ → List EstJoinPath → Type 0
EntriesFrom cells w k [] = Unit
EntriesFrom cells w k (x ∷ xs) =
    (get_or cells (w.nodes_at + k * 8 + 3) 0 ≡ x.link_idx_match)
    × ((get_or cells (w.nodes_at + k * 8 + 4) 0 ≡ x.est_idx_next) × EntriesFrom cells w (suc k) xs)

-- one run, saved on top of `used` entries
pub record RunKept (cells : List ℕ) (reals : List Float) (w : Rooms) (below used : ℕ) (run : Waiting) : Type 0 where
  pub real : 0 < run.leg
  pub inside : run.leg ≤ w.legs
  pub place : get_or cells (run.leg * 8 + 4) 0 ≡ run.place.idx_prev
  pub depth : get_or cells (run.leg * 8 + 5) 0 ≡ run.depth
  pub count : get_or cells (run.leg * 8 + 6) 0 ≡ length run.joins
  pub next : get_or cells (run.leg * 8 + 7) 0 ≡ below
  pub time : get_or reals (w.pairs_at + run.leg * 2) nan ≡ run.place.time_to_next
  pub offset : get_or reals (w.pairs_at + run.leg * 2 + 1) nan ≡ run.place.dist_to_next
  pub entries : EntriesFrom cells w used run.joins
  pub fits : used + length run.joins ≤ w.places

-- no run of a list takes this leg
abbrev pub Untaken : ℕ → List Waiting → Type 0
Untaken j [] = Unit
Untaken j (run ∷ runs) = ((j ≡ run.leg → ⊥)) × Untaken j runs

-- the leg of the top run, 0 if there is none
abbrev pub top_of : List Waiting → ℕ
top_of [] = 0
top_of (run ∷ runs) = run.leg

-- all runs, the last saved first: the leg of the top one (0: none), and how many entries there are in all
abbrev pub SavedIn : List ℕ → List Float → Rooms → ℕ → ℕ → List Waiting → Type 0
SavedIn cells reals w top used [] = (top ≡ 0) × (used ≡ 0)
SavedIn cells reals w top used (run ∷ runs) =
    (top ≡ run.leg) × ((length run.joins ≤ used)
    × (Untaken run.leg runs × (RunKept cells reals w (top_of runs) (used - length run.joins) run
    × SavedIn cells reals w (top_of runs) (used - length run.joins) runs)))

-- a run as it is saved
abbrev pub waiting_of : Place → ℕ → ℕ → List EstJoinPath → Waiting
waiting_of place leg depth joins = record { place = place; leg = leg; depth = depth; joins = joins }

-- What saving leaves as it was: each cell outside cells 4 to 7 of the legs' units and cells 3 and 4 of the nodes'
-- units, and each real outside the pairs.
pub record SavedElsewhere (c c' : List ℕ) (r r' : List Float) (w : Rooms) : Type 0 where
  pub cells : (q : ℕ) → ((j k : ℕ) → j ≤ w.legs → 4 ≤ k → k < 8 → q ≢ j * 8 + k)
      → ((i k : ℕ) → i < w.places → 3 ≤ k → k < 5 → q ≢ w.nodes_at + i * 8 + k) → get_or c' q 0 ≡ get_or c q 0
  pub reals : (q : ℕ) → ((j k : ℕ) → j ≤ w.legs → k < 2 → q ≢ w.pairs_at + j * 2 + k) → get_or r' q nan ≡ get_or r q nan

-- some run waits, with at most 1,024 entries
pub record SomeWaits (cells : List ℕ) (reals : List Float) (w : Rooms) (top used : ℕ) : Type 0 where
  pub run : Waiting
  pub runs : List Waiting
  pub saved : SavedIn cells reals w top used (run ∷ runs)
  pub few : length run.joins ≤ 1024

-- what is taken up again of a run, with its entries in a list
pub record PoppedAs (run : Waiting) (runs : List Waiting) (joins : List EstJoinPath) (r : Popped) : Type 0 where
  pub place : r.place ≡ run.place
  pub leg : r.leg ≡ run.leg
  pub depth : r.depth ≡ run.depth
  pub entries : joins ≡ run.joins
  pub below : r.below ≡ top_of runs
