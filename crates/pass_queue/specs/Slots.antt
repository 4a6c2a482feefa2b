-- What the parts of the heap promise each other: a slot written, and the better of the slots below one.
use Rattle.std.specs.Prelude.{◌≡◌, Bool, false, List, ℕ, ◌+◌, ◌*◌, ◌≤◌, ◌<◌, set, Float}
use Rattle.pass_queue.specs.Queue.{before, slot}
use Rattle.pass_queue.specs.declared.Entry.{Entry}

-- both slices after an entry was written into slot i
unfoldable pub put_times : List Float → ℕ → Entry → List Float
put_times ts i e = set (set ts (i * 2) e.time) (i * 2 + 1) e.sub

unfoldable pub put_nodes : List ℕ → ℕ → Entry → List ℕ
put_nodes ns i e = set ns i e.node

-- Slot r stands below slot i, and of the slots below it none is taken before it.
pub record BestChild (backward : Bool) (ts : List Float) (ns : List ℕ) (n i r : ℕ) : Type 0 where
  pub within : r < n
  pub least : i * 2 < r
  pub most : r ≤ i * 2 + 2
  pub first : (k : ℕ) → k < n → i * 2 < k → k ≤ i * 2 + 2 → before backward (slot ts ns k) (slot ts ns r) ≡ false
