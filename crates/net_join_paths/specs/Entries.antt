-- Lists of join entries, document 01 under "Joins": "An entry is (match link m, node e)." A list has at most 1,024.
use Rattle.std.specs.Prelude.{◌≡◌, Bool, true, false, List, [], ◌∷◌, ◌++◌, ℕ, zero, suc, ◌<◌, ltb, length, Result, Ok}
use Rattle.std.specs.Prelude.{Err}
use Rattle.std.proofs.Math.Option.{Option, none, some}
use Prim.{Unit}
use Rattle.arrayvec.specs.ArrayVec.{ArrayVec}
use Rattle.refusals.specs.declared.Refusal.{Refusal}
use Rattle.refusals.specs.declared.Refusal.TheVariants.{NoPlace}
use Rattle.space.specs.Lent.{Lent}
use Rattle.net_join_paths.specs.declared.EstJoinPath.{EstJoinPath}

-- (match link m, node e)
unfoldable pub entry : ℕ → ℕ → EstJoinPath
entry m e = record { link_idx_match = m; est_idx_next = e }

-- the node of the entry at k of a list
abbrev pub node_of : List EstJoinPath → ℕ → ℕ
node_of [] k = 0
node_of (x ∷ xs) zero = x.est_idx_next
node_of (x ∷ xs) (suc k) = node_of xs k

-- Row 12: "join entry beyond 1,024 in a list"
abbrev pub pushed_as : Bool → List EstJoinPath → EstJoinPath → Option (List EstJoinPath)
pushed_as true es x = some (es ++ (x ∷ []))
pushed_as false es x = none

-- an entry behind a list, if it has room
unfoldable pub push : List EstJoinPath → EstJoinPath → Option (List EstJoinPath)
push es x = pushed_as (ltb (length es) 1024) es x

-- an entry behind a list, if it is to be put there
abbrev pub pushed_if : Bool → List EstJoinPath → EstJoinPath → Option (List EstJoinPath)
pushed_if true es x = push es x
pushed_if false es x = some es

-- an answer, and what is made of it; none is refusal 12
abbrev pub and_then : Option (List EstJoinPath) → (List EstJoinPath → Option (List EstJoinPath))
    → Option (List EstJoinPath)
and_then none f = none
and_then (some es) f = f es

-- an answer of the code, with the list that it leaves, is that of a rule
abbrev pub EntriesAs : Option (List EstJoinPath) → List EstJoinPath → Result Unit Refusal → Type 0
EntriesAs answer list (Ok done) = answer ≡ some list
EntriesAs answer list (Err r) = (answer ≡ none) × (r ≡ NoPlace)

-- what a rule makes of a lent list is left there
abbrev pub ListBecomes : (List EstJoinPath → Option (List EstJoinPath)) → Lent (ArrayVec EstJoinPath)
    → Result Unit Refusal → Type 0
ListBecomes rule list r = EntriesAs (rule list.entry.now.items) list.exit.now.items r

-- each entry names one of the first n nodes
pub record Valid (es : List EstJoinPath) (n : ℕ) : Type 0 where
  pub node : (k : ℕ) → k < length es → node_of es k < n
