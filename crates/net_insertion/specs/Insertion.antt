-- `insert_est_time`, document 01 under "Insertion": "A run's place is a node. No next: add the event. Next of equal
-- event and speed gap strictly below J: move there. Else follow the next alternative, or add a Fake (a split) and add
-- behind it." The network is a function from index to node where it is only read, and the table's two lists where it
-- changes.
use Rattle.std.specs.Prelude.{◌≡◌, Bool, true, false, ◌&&◌, List, ℕ, zero, suc, ◌+◌, ◌*◌, eqb, ltb, get_or, Float}
use Rattle.std.specs.Prelude.{Result, Ok, Err}
use Rattle.std.specs.Float.{binary64}
use Rattle.std.specs.Float.Ieee.{sub, lt}
use Rattle.floats.specs.Floats.{gap}
use Rattle.net_node.specs.declared.EstTime.{EstTime}
use Rattle.net_node.specs.declared.TimedEvent.{TimedEvent}
use Rattle.net_node.specs.Table.{Table, put, at, same_event, blank, with_arc, with_speed, with_next, with_next_alt}
use Rattle.net_node.specs.Table.{with_prev}
use Rattle.net_node.specs.Table.{with_event}
use Rattle.net_insertion.specs.declared.Place.{Place}
use Rattle.net_insertion.specs.declared.Seek.{Seek}
use Rattle.net_insertion.specs.declared.Seek.TheVariants.{Open, Match, Split}
use Rattle.net_insertion.specs.declared.Insertion.{Insertion}
use Rattle.net_insertion.specs.declared.Insertion.TheVariants.{Added, Moved}
use Rattle.refusals.specs.declared.Refusal.{Refusal}
use Rattle.refusals.specs.declared.Refusal.TheVariants.{NoPlace, BadEnd}

-- ---- where the event goes

-- "Next of equal event and speed gap strictly below J"
unfoldable pub matches : Float → TimedEvent → EstTime → Bool
matches join e n = same_event n.link_event e.link_event && lt (gap e.speed n.speed) join

-- what is found at a node, by whether it has no next, whether the next matches, whether it has no alternative, and what
-- its alternatives give
abbrev pub found : Bool → Bool → Bool → ℕ → ℕ → Seek → Seek
found true match none i next later = Open i
found false true none i next later = Match next
found false false true i next later = Split i
found false false false i next later = later

-- From node i along the alternatives, for so many of them: a node without a next, a next that matches, or the last
-- alternative. Alternatives name later nodes, so as many turns as there are nodes are enough.
unfoldable pub seek : ℕ → (ℕ → EstTime) → Float → TimedEvent → ℕ → Seek
unfolding matches
seek zero node join e i = Split i
seek (suc k) node join e i =
    let later = seek k node join e (node i).idx_next_alt in
    found (eqb (node i).idx_next 0) (matches join e (node (node i).idx_next)) (eqb (node i).idx_next_alt 0) i
    (node i).idx_next later

-- ---- nodes written

-- a node to which the next is set: its held time and offset become those up to the event that follows
unfoldable pub linked_to : EstTime → ℕ → TimedEvent → EstTime
linked_to n next e =
    with_next (with_arc n (sub binary64 e.time n.time_to_next) (sub binary64 e.offset n.dist_to_next))
    next

-- the event's own node, which holds its time and offset until a next is set
unfoldable pub event_node : TimedEvent → ℕ → EstTime
unfolding blank
event_node e prev =
    with_prev (with_event (with_speed (with_arc blank e.time e.offset) e.speed) e.link_event) prev

-- a split's Fake behind node prev: it holds the run's own time and offset
unfoldable pub split_fake : Place → ℕ → EstTime
unfolding blank
split_fake p prev = with_prev (with_arc blank p.time_to_next p.dist_to_next) prev

-- ---- the table afterwards

-- the table of two lists
abbrev pub table_of : List Float → List ℕ → Table
table_of fs us = record { floats = fs; numbers = us }

-- the event added as node k behind node i
unfoldable pub add_behind : Table → ℕ → ℕ → TimedEvent → Table
unfolding put at
add_behind t i k e = put (put t i (linked_to (at t i) k e)) k (event_node e i)

-- a split Fake as node k, the next alternative of node i
unfoldable pub split_at : Table → ℕ → ℕ → Place → Table
unfolding put at
split_at t i k p = put (put t i (with_next_alt (at t i) k)) k (split_fake p i)

-- ---- insertion

-- the place behind an event: a node, with the run's own time and offset there
unfoldable pub place_at : ℕ → TimedEvent → Place
place_at i e = record { time_to_next = e.time; dist_to_next = e.offset; idx_prev = i }

-- by whether there is room and whether the node is a finished run's
abbrev pub added_as : Bool → Bool → Insertion → Result Insertion Refusal
added_as false ended added = Err NoPlace
added_as true true added = Err BadEnd
added_as true false added = Ok added

-- What is answered by what was found, with n nodes in so many places. Row 12: no place for the node, or for a split's
-- Fake and the node. Row 13: "addition behind a finished run's event". A Fake is no run's event, so nothing is added
-- behind a finished run's by a split.
abbrev pub inserted_as : Seek → ℕ → ℕ → (ℕ → Bool) → TimedEvent → Result Insertion Refusal
inserted_as (Match i) n places ended e = Ok (Moved (place_at i e))
inserted_as (Open i) n places ended e = added_as (ltb n places) (ended i) (Added (place_at n e) false)
inserted_as (Split i) n places ended e = added_as (ltb (n + 1) places) false (Added (place_at (n + 1) e) true)

-- the table then
abbrev pub table_as : Seek → Table → ℕ → Place → TimedEvent → Table
table_as (Match i) t n p e = t
table_as (Open i) t n p e = add_behind t i n e
table_as (Split i) t n p e = add_behind (split_at t i n p) n (n + 1) e

-- what the search finds for a run's place in a table of n nodes
unfoldable pub sought_in : Table → ℕ → Float → Place → TimedEvent → Seek
unfolding at seek
sought_in t n join p e = seek n (at t) join e p.idx_prev

-- `insert_est_time`: the answer
unfoldable pub inserted : Table → ℕ → ℕ → (ℕ → Bool) → Float → Place → TimedEvent → Result Insertion Refusal
unfolding sought_in
inserted t n places ended join p e = inserted_as (sought_in t n join p e) n places ended e

-- the table where it is not a refusal
unfoldable pub inserted_table : Table → ℕ → Float → Place → TimedEvent → Table
unfolding sought_in
inserted_table t n join p e = table_as (sought_in t n join p e) t n p e

-- what an answer says of the table's lists, which were t before: a refusal leaves them as they were
abbrev pub InsertedInto : Table → ℕ → Float → Place → TimedEvent → List Float → List ℕ → Result Insertion Refusal
    → Type 0
InsertedInto t n join p e floats numbers (Err r) = (floats ≡ t.floats) × (numbers ≡ t.numbers)
InsertedInto t n join p e floats numbers (Ok i) =
    (floats ≡ (inserted_table t n join p e).floats) × (numbers ≡ (inserted_table t n join p e).numbers)

-- Stands in contracts beside `ends_at + n * 8 ≤ length cells + 7`, as the lent form of document 01 has it: it knows
-- neither a `Layout` nor how many places there are.
-- Which nodes end a finished run, as the work space has it: a cell for each node, 8 apart
unfoldable pub flagged : List ℕ → ℕ → ℕ → Bool
flagged cells base i = ltb 0 (get_or cells (base + i * 8) 0)
