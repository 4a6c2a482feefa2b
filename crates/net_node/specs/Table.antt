-- A node table in two lent slices, document 01: "Each node is read and written as one record of four floats (time, time
-- to next, distance to next, speed), four indices, and its event, which holds the link and the kind: Arrive 0, Clear 1,
-- Fake 2." This crate alone knows the layout: which column of a node's floats or numbers a field stands in, and how
-- many there are. Everything above it goes by `at`, `put`, the `with..` and `set..` below and their laws (proofs/), and
-- names the widths where it counts slices.
use Rattle.std.specs.Prelude.{Bool, true, false, ◌&&◌, List, [], ◌∷◌, ◌++◌, ℕ, zero, suc, ◌+◌, ◌*◌, ◌≤◌, ◌<◌, eqb}
use Rattle.std.specs.Prelude.{length, get_or, set, Float}
use Rattle.std.specs.Float.{nan, binary64}
use Rattle.std.specs.Float.Ieee.{of_bits}
use Rattle.net_node.specs.declared.EstType.{EstType}
use Rattle.net_node.specs.declared.EstType.TheVariants.{Arrive, Clear, Fake}
use Rattle.net_node.specs.declared.LinkEvent.{LinkEvent}
use Rattle.net_node.specs.declared.EstTime.{EstTime}

-- ---- the widths of a node: "4 f64 and 6 u32 each"

-- Stands in contracts as `i * float_width + float_width ≤ length floats`, and alike of numbers: one node of slices that
-- are lent for this call and longer than the network is written, so no value that outlives the call can keep it. Where
-- only a network is read whose indices name nodes, `Nodes` keeps it; a lent table's indices may name anything.
abbrev pub float_width : ℕ
float_width = 4

abbrev pub number_width : ℕ
number_width = 6

-- ---- kinds and events

-- "Arrive 0, Clear 1, Fake 2"; a table with another number is refused with 4 before it is read
abbrev pub kind_number : EstType → ℕ
kind_number Arrive = 0
kind_number Clear = 1
kind_number Fake = 2

abbrev pub kind_of : ℕ → EstType
kind_of zero = Arrive
kind_of (suc zero) = Clear
kind_of (suc (suc n)) = Fake

-- whether a kind is a Fake's, and a node
abbrev pub fake_kind : EstType → Bool
fake_kind Arrive = false
fake_kind Clear = false
fake_kind Fake = true

abbrev pub is_fake : EstTime → Bool
is_fake x = fake_kind x.link_event.est_type

-- "Events are equal when link and kind are."
unfoldable pub same_kind : EstType → EstType → Bool
same_kind a b = eqb (kind_number a) (kind_number b)

unfoldable pub same_event : LinkEvent → LinkEvent → Bool
unfolding same_kind
same_event a b = eqb a.link_idx b.link_idx && same_kind a.est_type b.est_type

-- ---- a node in the two slices

-- the node of index i
unfoldable pub node_at : List Float → List ℕ → ℕ → EstTime
node_at fs us i = record {
  time_sched = get_or fs (i * float_width) nan;
  time_to_next = get_or fs (i * float_width + 1) nan;
  dist_to_next = get_or fs (i * float_width + 2) nan;
  speed = get_or fs (i * float_width + 3) nan;
  idx_next = get_or us (i * number_width) 0;
  idx_next_alt = get_or us (i * number_width + 1) 0;
  idx_prev = get_or us (i * number_width + 2) 0;
  idx_prev_alt = get_or us (i * number_width + 3) 0;
  link_event = record {
    link_idx = get_or us (i * number_width + 4) 0;
    est_type = kind_of (get_or us (i * number_width + 5) 0);
  };
}

-- both slices after a node was written at i
unfoldable pub put_floats : List Float → ℕ → EstTime → List Float
put_floats fs i n =
    let f = i * float_width in
    set (set (set (set fs f n.time_sched) (f + 1) n.time_to_next) (f + 2) n.dist_to_next) (f + 3)
    n.speed

unfoldable pub put_numbers : List ℕ → ℕ → EstTime → List ℕ
put_numbers us i n =
    let u = i * number_width in
    let links = set (set us u n.idx_next) (u + 1) n.idx_next_alt in
    let both = set (set links (u + 2) n.idx_prev) (u + 3) n.idx_prev_alt in
    set (set both (u + 4) n.link_event.link_idx) (u + 5) (kind_number n.link_event.est_type)

-- a table: its two lists, a node of it, and the table after a node was written
pub record Table : Type 0 where
  pub floats : List Float
  pub numbers : List ℕ

unfoldable pub put : Table → ℕ → EstTime → Table
put t i n = record { floats = put_floats t.floats i n; numbers = put_numbers t.numbers i n }

unfoldable pub at : Table → ℕ → EstTime
at t i = node_at t.floats t.numbers i

-- a node's columns, in their order, and the table of a list of nodes
abbrev pub floats_of : EstTime → List Float
floats_of n = n.time_sched ∷ n.time_to_next ∷ n.dist_to_next ∷ n.speed ∷ []

abbrev pub numbers_of : EstTime → List ℕ
numbers_of n =
    n.idx_next
    ∷ n.idx_next_alt
    ∷ n.idx_prev
    ∷ n.idx_prev_alt
    ∷ n.link_event.link_idx
    ∷ kind_number n.link_event.est_type
    ∷ []

abbrev pub table_of : List EstTime → Table
table_of [] = record { floats = []; numbers = [] }
table_of (n ∷ ns) = record {
  floats = floats_of n ++ (table_of ns).floats;
  numbers = numbers_of n ++ (table_of ns).numbers;
}

-- "The blank node and the no-link event are named constants of their records": the source's defaults, with a time of 0,
-- since untimed is a state of its own
unfoldable pub no_link_event : LinkEvent
no_link_event = record { link_idx = 0; est_type = Fake }

unfoldable pub blank : EstTime
unfolding no_link_event
blank = record {
  time_sched = of_bits binary64 0;
  time_to_next = of_bits binary64 0;
  dist_to_next = of_bits binary64 0;
  speed = of_bits binary64 0;
  idx_next = 0;
  idx_next_alt = 0;
  idx_prev = 0;
  idx_prev_alt = 0;
  link_event = no_link_event;
}

-- ---- a node with a field changed: all else stays

abbrev pub with_time : EstTime → Float → EstTime
with_time n time = record n { time_sched = time }

-- time and distance to next
abbrev pub with_arc : EstTime → Float → Float → EstTime
with_arc n time distance = record n { time_to_next = time; dist_to_next = distance }

abbrev pub with_speed : EstTime → Float → EstTime
with_speed n speed = record n { speed = speed }

abbrev pub with_next : EstTime → ℕ → EstTime
with_next n next = record n { idx_next = next }

abbrev pub with_next_alt : EstTime → ℕ → EstTime
with_next_alt n alt = record n { idx_next_alt = alt }

abbrev pub with_prev : EstTime → ℕ → EstTime
with_prev n prev = record n { idx_prev = prev }

abbrev pub with_prev_alt : EstTime → ℕ → EstTime
with_prev_alt n alt = record n { idx_prev_alt = alt }

abbrev pub with_event : EstTime → LinkEvent → EstTime
with_event n event = record n { link_event = event }

-- ---- one field of a node set in the table, and all else of both slices left as it is

unfoldable pub set_time : Table → ℕ → Float → Table
set_time t i time = record { floats = set t.floats (i * float_width) time; numbers = t.numbers }

-- time and distance to next
unfoldable pub set_arc : Table → ℕ → Float → Float → Table
set_arc t i time distance = record {
  floats = set (set t.floats (i * float_width + 1) time) (i * float_width + 2) distance;
  numbers = t.numbers;
}

unfoldable pub set_next : Table → ℕ → ℕ → Table
set_next t i next = record { floats = t.floats; numbers = set t.numbers (i * number_width) next }

unfoldable pub set_prev : Table → ℕ → ℕ → Table
set_prev t i prev = record { floats = t.floats; numbers = set t.numbers (i * number_width + 2) prev }

-- ---- what a network keeps

-- The slices have room for so many nodes.
-- Stands in contracts, as `Indexed` does, of what writes a table: a struct with the two `&mut` slices would be taken
-- apart wherever the table is read as `Nodes` in between. `Nodes` keeps both where a network is only read; alone it
-- stands where a table is read whose indices may name anything, or where document 01 lends the slices (`closest_of`).
pub record Room (fs : List Float) (us : List ℕ) (places : ℕ) : Type 0 where
  pub floats : places * float_width ≤ length fs
  pub numbers : places * number_width ≤ length us
  pub most : places ≤ 65535

-- Of the first n nodes each index names one of them, and an alternative names a later one, 0 being none.
pub record Indexed (node : ℕ → EstTime) (n : ℕ) : Type 0 where
  pub next : (i : ℕ) → i < n → (node i).idx_next < n
  pub next_alt : (i : ℕ) → i < n → (node i).idx_next_alt < n
  pub prev : (i : ℕ) → i < n → (node i).idx_prev < n
  pub prev_alt : (i : ℕ) → i < n → (node i).idx_prev_alt < n
  pub next_alt_rises : (i : ℕ) → i < n → 0 < (node i).idx_next_alt → i < (node i).idx_next_alt
  pub prev_alt_rises : (i : ℕ) → i < n → 0 < (node i).idx_prev_alt → i < (node i).idx_prev_alt
