-- Words of the contracts: the nodes that a list names, marked in the cells, and the chain of an event's nodes there.
use Rattle.std.specs.Prelude.{◌≡◌, List, [], ◌∷◌, ℕ, ◌+◌, ◌*◌, ◌≤◌, ◌<◌, get_or, set, Result}
use Rattle.net_node.specs.declared.EstTime.{EstTime}
use Rattle.net_event_map.specs.declared.Layout.{Layout}
use Rattle.net_event_map.specs.EventMap.{bit, Mapped, first_at}
use Rattle.net_join_paths.specs.declared.EstJoinPath.{EstJoinPath}
use Rattle.space.specs.Lent.{Lent}
use Rattle.net_node.specs.declared.LinkEvent.{LinkEvent}
use Prim.{Unit}
use Rattle.arrayvec.specs.ArrayVec.{ArrayVec}
use Rattle.refusals.specs.declared.Refusal.{Refusal}
use Rattle.net_join_paths.specs.Entries.{ListBecomes}
use Rattle.net_joins.specs.declared.Step.{Step}
use Rattle.net_joins.specs.Joins.{names, appended_all, appended, step_with, StepAs}

-- the mark of each entry's node, its second cell, set to v; the nodes' cells begin at `base`
unfoldable pub marks : ℕ → ℕ → List EstJoinPath → List ℕ → List ℕ
marks base v [] cells = cells
marks base v (x ∷ xs) cells = marks base v xs (set cells (base + x.est_idx_next * 8 + 1) v)

-- the marks of all places tell which a list names
pub record NamesMarked (cells : List ℕ) (w : Layout) (es : List EstJoinPath) : Type 0 where
  pub is : (i : ℕ) → i < w.places → get_or cells (w.nodes_at + i * 8 + 1) 0 ≡ bit (names es i)

-- The cells lead from i along these nodes, which rise, to 0.
pub record ChainLink (places i next : ℕ) : Type 0 where
  pub some : 0 < i
  pub placed : i < places
  pub rises : 0 < next → i < next

-- from i along these nodes to 0
abbrev pub Chain : List ℕ → Layout → ℕ → List ℕ → Type 0
Chain cells w i [] = i ≡ 0
Chain cells w i (j ∷ is) =
    (i ≡ j) × (ChainLink w.places j (get_or cells (w.nodes_at + j * 8) 0)
    × Chain cells w (get_or cells (w.nodes_at + j * 8) 0) is)

-- they lead from i to an end
pub record Ending (cells : List ℕ) (w : Layout) (i : ℕ) : Type 0 where
  pub nodes : List ℕ
  pub chain : Chain cells w i nodes

-- they are the map of some network
pub record MapWalkable (cells : List ℕ) (w : Layout) : Type 0 where
  pub node : ℕ → EstTime
  pub n : ℕ
  pub inside : n ≤ w.places
  pub mapped : Mapped cells w node n

-- ---- what the parts answer, of every network whose map the cells are

-- a link's nodes along a chain of the cells are appended to a list, unless it names them
abbrev pub AppendsChain : List ℕ → Layout → ℕ → Lent (ArrayVec EstJoinPath) → Result Unit Refusal → Type 0
AppendsChain cells w l list r =
    (is : List ℕ) → Chain cells w (get_or cells (first_at w l) 0) is
    → ListBecomes (λ es. appended_all es l is es) list r

-- the nodes of an event are
abbrev pub AppendsNodes : List ℕ → Layout → LinkEvent → Lent (ArrayVec EstJoinPath) → Result Unit Refusal → Type 0
AppendsNodes cells w e list r =
    (node : ℕ → EstTime) (n : ℕ) → n ≤ w.places → Mapped cells w node n
    → ListBecomes (appended node n e) list r

-- the run goes on with a list to which they are appended
abbrev pub GoesOnWith : List ℕ → Layout → LinkEvent → List EstJoinPath → List EstJoinPath → Result Step Refusal → Type 0
GoesOnWith cells w e es list r =
    (node : ℕ → EstTime) (n : ℕ) → n ≤ w.places → Mapped cells w node n
    → StepAs (step_with (appended node n e es)) list r

-- the cells are the map that they were
abbrev pub MapKept : List ℕ → List ℕ → Layout → Type 0
MapKept cells cells' w = (node : ℕ → EstTime) (n : ℕ) → Mapped cells w node n → cells' ≡ cells
