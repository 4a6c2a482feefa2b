-- The nodes of an event: the source's `link_event_map`, an `IntMap` from an event to a set of nodes, of which document
-- 01 says that it becomes a search. The definition looks at every node; the work space keeps, for each link, its first
-- and last Arrive and whether it has a Clear, and for each Arrive the next of the same link.
use Rattle.std.specs.Prelude.{◌≡◌, ◌≢◌, Bool, true, false, cond, List, [], ◌∷◌, ℕ, zero, suc, ◌+◌, ◌-◌, ◌*◌, ◌≤◌, ◌<◌}
use Rattle.std.specs.Prelude.{length, get_or}
use Rattle.laws.specs.Below.{some_below}
use Rattle.net_node.specs.declared.EstType.{EstType}
use Rattle.net_node.specs.declared.EstType.TheVariants.{Arrive, Clear, Fake}
use Rattle.net_node.specs.declared.LinkEvent.{LinkEvent}
use Rattle.net_node.specs.declared.EstTime.{EstTime}
use Rattle.net_node.specs.Table.{same_event}
use Rattle.net_event_map.specs.declared.Layout.{Layout}

-- whether one of the first n nodes has the event
unfoldable pub seen_in : (ℕ → EstTime) → ℕ → LinkEvent → Bool
seen_in node n e = some_below n (λ i. same_event (node i).link_event e)

-- the nodes of an event among the k from i on, rising
unfoldable pub nodes_from : (ℕ → EstTime) → LinkEvent → ℕ → ℕ → List ℕ
nodes_from node e i zero = []
nodes_from node e i (suc k) =
    let later = nodes_from node e (suc i) k in
    cond (same_event (node i).link_event e) (i ∷ later) later

-- all of the first n
unfoldable pub event_nodes : (ℕ → EstTime) → LinkEvent → ℕ → List ℕ
unfolding nodes_from
event_nodes node e n = nodes_from node e 0 n

-- the first of a list of nodes: 0 is none, since node 0 is no event
abbrev pub head_of : List ℕ → ℕ
head_of [] = 0
head_of (i ∷ is) = i

-- the last of them
unfoldable pub last_of : List ℕ → ℕ
last_of [] = 0
last_of (i ∷ []) = i
last_of (i ∷ j ∷ is) = last_of (j ∷ is)

-- the Arrive of a link
unfoldable pub arrive_at : ℕ → LinkEvent
arrive_at l = record { link_idx = l; est_type = Arrive }

-- the Clear of a link
unfoldable pub clear_at : ℕ → LinkEvent
clear_at l = record { link_idx = l; est_type = Clear }

-- a mark: 1 for true
abbrev pub bit : Bool → ℕ
bit true = 1
bit false = 0

-- Stands in contracts beside each `cells`: the slice is lent to the map, the notes and growth in turn, so a struct with
-- a `&mut` to it would be taken apart at each of these calls. What only reads takes the same two, since its callers
-- hold the slice to write it.
-- The cells have room: 8 for each of the links, from `links_at` on, and 8 for each place of the table, from `nodes_at`
-- on; the two don't overlap.
pub record CellsApart (cells : List ℕ) (w : Layout) : Type 0 where
  pub links_inside : w.links_at + w.links * 8 ≤ length cells
  pub nodes_inside : w.nodes_at + w.places * 8 ≤ length cells
  pub apart : w.nodes_at + w.places * 8 ≤ w.links_at

-- What the cells say of the first n nodes. A node's second cell marks the nodes that a list names, or names one in a
-- log, and its last three say what join entries give that are followed there at one event; these four are 0 between
-- calls.
pub record Mapped (cells : List ℕ) (w : Layout) (node : ℕ → EstTime) (n : ℕ) : Type 0 where
  pub first : (l : ℕ) → l < w.links → get_or cells (w.links_at + l * 8) 0 ≡ head_of (event_nodes node (arrive_at l) n)
  pub last : (l : ℕ) → l < w.links → get_or cells (w.links_at + l * 8 + 1) 0
      ≡ last_of (event_nodes node (arrive_at l) n)
  pub cleared : (l : ℕ) → l < w.links → get_or cells (w.links_at + l * 8 + 2) 0 ≡ bit (seen_in node n (clear_at l))
  pub next : (l i : ℕ) → l < w.links → i < n → same_event (node i).link_event (arrive_at l) ≡ true
      → get_or cells (w.nodes_at + i * 8) 0 ≡ head_of (nodes_from node (arrive_at l) (suc i) (n - suc i))
  pub fresh : (i : ℕ) → n ≤ i → i < w.places → get_or cells (w.nodes_at + i * 8) 0 ≡ 0
  pub unmarked : (i : ℕ) → i < w.places → get_or cells (w.nodes_at + i * 8 + 1) 0 ≡ 0
  pub ungiven : (i k : ℕ) → i < w.places → 5 ≤ k → k < 8 → get_or cells (w.nodes_at + i * 8 + k) 0 ≡ 0
  pub zeroth : (e : LinkEvent) → same_event (node 0).link_event e ≡ true → e.est_type ≡ Fake

-- Where the first node of a link's Arrive is named.
-- Stands in contracts beside `l < w.links`, and `next_at` beside `i < w.places`: link and node are others at each call,
-- so no value keeps the bound.
abbrev pub first_at : Layout → ℕ → ℕ
first_at w l = w.links_at + l * 8

-- where the next one behind node i is named
abbrev pub next_at : Layout → ℕ → ℕ
next_at w i = w.nodes_at + i * 8

-- node i, which is new and has an event, is in the map then
abbrev pub MapsNode : List ℕ → List ℕ → Layout → ℕ → LinkEvent → Type 0
MapsNode cells cells' w i e =
    (node : ℕ → EstTime) → (node i).link_event ≡ e → Mapped cells w node i → Mapped cells' w node (i + 1)

-- each new node that has an event is
abbrev pub MapsEach : List ℕ → List ℕ → Layout → LinkEvent → Type 0
MapsEach cells cells' w e =
    (node : ℕ → EstTime) (i : ℕ) → i < w.places → (node i).link_event ≡ e
    → Mapped cells w node i → Mapped cells' w node (i + 1)

-- What inserting leaves as it was: each cell that is none of the map's own.
pub record MapOnly (c c' : List ℕ) (w : Layout) : Type 0 where
  pub stays : (q : ℕ) → ((l k : ℕ) → l < w.links → k < 3 → q ≢ w.links_at + l * 8 + k)
      → ((i : ℕ) → i < w.places → q ≢ w.nodes_at + i * 8) → get_or c' q 0 ≡ get_or c q 0

-- an event of a link of the book, Arrive or Clear
abbrev pub RealKind : EstType → Type 0
RealKind Arrive = Unit
RealKind Clear = Unit
RealKind Fake = ⊥

-- The event of a link that is one of so many.
-- Stands in contracts of what looks for an event: which layout its links are held against, only the call says.
abbrev pub Real : LinkEvent → ℕ → Type 0
Real e links = RealKind e.est_type × (e.link_idx < links)
