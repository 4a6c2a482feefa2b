-- Laws of lists of numbers: what stands in a list after a store.
use mathlib.Core.Path.{◌≡◌, ap, ◌∙◌}
use mathlib.Core.List.{List}
use Prim.Native.Nat.{ℕ, ◌<◌}
use lib.ListN.{length, get_or, set}
use lib.Seq.{get_or-set_same, get_or-set_other}

pub stored_at : (m : List ℕ) (i j v : ℕ) → j ≡ i → i < length m → get_or (set m i v) j 0 ≡ v
stored_at m i j v e h = ap (λ (k : ℕ). get_or (set m i v) k 0) e ∙ get_or-set_same m i v 0 h

pub kept_at : (m : List ℕ) (i j v : ℕ) → (j ≡ i → ⊥) → get_or (set m i v) j 0 ≡ get_or m j 0
kept_at m i j v h = get_or-set_other m i j v 0 h
