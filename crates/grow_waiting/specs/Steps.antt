-- What the functions of this crate answer.
use Rattle.std.specs.Prelude.{◌≡◌, ◌≢◌, List, ◌∷◌, ℕ, ◌+◌, ◌*◌, ◌≤◌, ◌<◌, length, get_or, Float}
use Rattle.net_join_paths.specs.declared.EstJoinPath.{EstJoinPath}
use Rattle.space.specs.Lent.{Lent, Seen}
use Rattle.grow_waiting.specs.declared.Popped.{Popped}
use Rattle.grow_waiting.specs.declared.rooms.Rooms.{Rooms}
use Rattle.grow_waiting.specs.Held.{EntriesFrom, Waiting, Untaken, SavedIn, PoppedAs}

-- entries put on the stack from `used` on; every other cell is as it was
pub record EntriesPushed (c c' : List ℕ) (w : Rooms) (used : ℕ) (xs : List EstJoinPath) : Type 0 where
  pub there : EntriesFrom c' w used xs
  pub elsewhere : (q : ℕ) → ((i k : ℕ) → used ≤ i → i < used + length xs → 3 ≤ k → k < 5 → q ≢ w.nodes_at + i * 8
      + k) → get_or c' q 0 ≡ get_or c q 0

-- the `count` entries from k on of that stack, copied into a list
abbrev pub EntriesCopied : List ℕ → Rooms → ℕ → ℕ → List EstJoinPath → Type 0
EntriesCopied cells w k count list = (xs : List EstJoinPath) → EntriesFrom cells w k xs → length xs ≡ count → list ≡ xs

-- the cells and the reals, of which the runs that wait are a part
pub record Stacks : Type 0 where
  pub cells : List ℕ
  pub reals : List Float

-- both at a function's entry
abbrev pub stacks_at_entry : Lent (List ℕ) → Lent (List Float) → Stacks
stacks_at_entry cells reals = record { cells = cells.entry.now; reals = reals.entry.now }

-- both where they are only read
abbrev pub stacks_seen : Seen (List ℕ) → Seen (List Float) → Stacks
stacks_seen cells reals = record { cells = cells.entry.now; reals = reals.entry.now }

-- and at its exit
abbrev pub stacks_at_exit : Lent (List ℕ) → Lent (List Float) → Stacks
stacks_at_exit cells reals = record { cells = cells.exit.now; reals = reals.exit.now }

-- "last saved run first": a run, whose leg no other is to take, waits on top of those
-- that waited before
abbrev pub SavesOnTop : Rooms → ℕ → ℕ → Waiting → Stacks → Stacks → Type 0
SavesOnTop w top used run s s' =
    (runs : List Waiting) → SavedIn s.cells s.reals w top used runs → Untaken run.leg runs
    → SavedIn s'.cells s'.reals w run.leg (used + length run.joins) (run ∷ runs)

-- the run on top is taken up again
abbrev pub TakesUp : Rooms → ℕ → ℕ → Stacks → List EstJoinPath → Popped → Type 0
TakesUp w top used s joins r =
    (run : Waiting) (runs : List Waiting) → SavedIn s.cells s.reals w top used (run ∷ runs)
    → PoppedAs run runs joins r
