-- Words of the contracts: what is noted of a node while one event is looked at, in the last three of its cells, and the
-- log of the nodes of which something is noted, in the second cells of the places: that of place 0 has the number of
-- names, those behind it have the names.
use Rattle.std.specs.Prelude.{◌≡◌, ◌≢◌, Bool, true, false, ◌||◌, List, ℕ, zero, suc, ◌+◌, ◌-◌, ◌*◌, ◌/◌, ◌%◌, ◌≤◌, ◌<◌}
use Rattle.std.specs.Prelude.{leb, get_or, Option, None, Some}
use Rattle.net_event_map.specs.declared.Layout.{Layout}
use Rattle.net_notes.specs.declared.Column.{Column}
use Rattle.net_notes.specs.declared.Column.TheVariants.{Matched, Strands, Nexts}
use Rattle.net_notes.specs.declared.Span.{Span}

-- the column of a node's cells that has a name of the log
abbrev pub name_column : ℕ
name_column = 1

-- the column of what entries of the node give that match already, as a span of the new list
abbrev pub matched_column : ℕ
matched_column = 5

-- the column of what strands from the node give, as a span of the new list
abbrev pub strands_column : ℕ
strands_column = 6

-- the column of how many nexts these strands read
abbrev pub nexts_column : ℕ
nexts_column = 7

-- the number of a column
abbrev pub column_number : Column → ℕ
column_number Matched = matched_column
column_number Strands = strands_column
column_number Nexts = nexts_column

-- one of the last three columns
abbrev pub NoteColumn : ℕ → Type 0
NoteColumn c = (5 ≤ c) × (c < 8)

-- node i's cell in a column
abbrev pub cell_at : Layout → ℕ → ℕ → ℕ
cell_at w i column = w.nodes_at + i * 8 + column

-- what stands there
abbrev pub note_in : List ℕ → Layout → ℕ → ℕ → ℕ
note_in cells w i column = get_or cells (cell_at w i column) 0

-- A span of the new list as a number that is not 0: both of its ends are below 2,048.
abbrev pub span_number : ℕ → ℕ → ℕ
span_number begin end = begin * 2048 + end + 1

-- where the span of such a number begins
abbrev pub span_begin : ℕ → ℕ
span_begin span = (span - 1) / 2048

-- where it ends
abbrev pub span_end : ℕ → ℕ
span_end span = (span - 1) % 2048

-- the span of a number, none for 0
abbrev pub span_in : ℕ → Option Span
span_in zero = None
span_in (suc c) = Some (record { begin = span_begin (suc c); end = span_end (suc c) })

-- a cell that is not 0 has the number of a span of which something holds
abbrev pub Says : (ℕ → ℕ → Type 0) → ℕ → Type 0
Says Holds cell = cell ≢ 0 → Holds (span_begin cell) (span_end cell)

-- how many names the log has
abbrev pub logged : List ℕ → Layout → ℕ
logged cells w = note_in cells w 0 name_column

-- the name at k, of which the first is at 1
abbrev pub logged_at : List ℕ → Layout → ℕ → ℕ
logged_at cells w k = note_in cells w k name_column

-- a log that fits its places and names some of them
pub record LogIn (cells : List ℕ) (w : Layout) : Type 0 where
  pub fits : logged cells w < w.places
  pub names : (k : ℕ) → 1 ≤ k → k ≤ logged cells w → logged_at cells w k < w.places

-- Since an event began, no cell was changed but the log's own and the last three of each node that it names.
pub record Touched (w : Layout) (cells₀ cells : List ℕ) : Type 0 where
  pub log : LogIn cells w
  pub elsewhere : (q : ℕ) → ((k : ℕ) → k ≤ logged cells w → q ≢ cell_at w k name_column)
      → ((k c : ℕ) → 1 ≤ k → k ≤ logged cells w → NoteColumn c → q ≢ cell_at w (logged_at cells w k) c)
      → get_or cells q 0 ≡ get_or cells₀ q 0

-- a log that takes no more names: it has one in each place behind the first, or 65,535 of them
abbrev pub log_full : List ℕ → Layout → Bool
log_full cells w = leb 65535 (logged cells w) || leb w.places (logged cells w + 1)

-- node i's own cells then: as they were if the log is full, and else three numbers
abbrev pub NotedAs : Bool → Layout → (i matched strands nexts : ℕ) → (cells cells' : List ℕ) → Type 0
NotedAs true w i matched strands nexts cells cells' = (c : ℕ) → NoteColumn c
    → note_in cells' w i c ≡ note_in cells w i c
NotedAs false w i matched strands nexts cells cells' =
    (note_in cells' w i matched_column ≡ matched) × ((note_in cells' w i strands_column ≡ strands)
    × (note_in cells' w i nexts_column ≡ nexts))

-- Three numbers are noted of node i, unless the log is full; nothing is noted of others, and the log covers it.
pub record Notes (w : Layout) (i matched strands nexts : ℕ) (cells cells' : List ℕ) : Type 0 where
  pub own : NotedAs (log_full cells w) w i matched strands nexts cells cells'
  pub others : (j c : ℕ) → j ≢ i → NoteColumn c → note_in cells' w j c ≡ note_in cells w j c
  pub touched : (cells₀ : List ℕ) → Touched w cells₀ cells → Touched w cells₀ cells'

-- nothing is noted and nothing is logged
pub record Ungiven (cells : List ℕ) (w : Layout) : Type 0 where
  pub cell : (i c : ℕ) → i < w.places → NoteColumn c → note_in cells w i c ≡ 0
  pub name : (i : ℕ) → i < w.places → note_in cells w i name_column ≡ 0
