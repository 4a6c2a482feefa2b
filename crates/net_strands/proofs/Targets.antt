-- What an entry that is followed gives depends on its node and on whether it matches already alone: a list of nodes, or
-- refusal 12 for the length of its walk. The entries are these nodes with the new match link.
use mathlib.Core.Path.{◌≡◌, refl, sym, ◌∙◌}
use mathlib.Core.Bool.{Bool, true, false, ◌||◌}
use mathlib.Core.List.{List, [], ◌∷◌}
use mathlib.Core.Option.{Option, none, some}
use Prim.Native.Nat.{ℕ, zero, suc}
use lib.Dec.{eqb}
use Rattle.net_node.specs.declared.LinkEvent.{LinkEvent}
use Rattle.net_node.specs.declared.EstTime.{EstTime}
use Rattle.net_node.specs.Table.{same_event}
use Rattle.net_join_paths.specs.declared.EstJoinPath.{EstJoinPath}
use Rattle.net_join_paths.specs.Entries.{entry, push, pushed_if, and_then}
use Rattle.net_join_paths.specs.Spans.{pushed_all}
use Rattle.net_join_paths.proofs.Entries.{then_same, then_none}
use Rattle.net_stack.specs.Stack.{is_arrive, alternative_stacked}
use Rattle.net_strands.specs.Space.{onward, alternatives, Strand, popped, popped_after, turn_as, turn, strands_on}
use Rattle.net_strands.specs.Space.{strands}
use Rattle.net_strands.specs.Walks.{with_nodes, popped_to, walked_as, walked}

-- an entry for each node, where there are any
abbrev pub pushed_each : ℕ → Option (List ℕ) → List EstJoinPath → Option (List EstJoinPath)
pushed_each m none es = none
pushed_each m (some is) es = pushed_all m is es

-- ---- alternatives

abbrev pub cons_if : Bool → ℕ → List ℕ → List ℕ
cons_if true i is = i ∷ is
cons_if false i is = is

abbrev pub unless_last : Bool → List ℕ → List ℕ
unless_last true is = []
unless_last false is = is

-- the nodes that a node and its alternatives give, for so many of them
unfoldable pub nexts_of : ℕ → (ℕ → EstTime) → LinkEvent → ℕ → List ℕ
nexts_of zero node e i = []
nexts_of (suc k) node e i =
    cons_if (same_event (node (node i).idx_next).link_event e) (node i).idx_next
    (unless_last (eqb (node i).idx_next_alt 0) (nexts_of k node e (node i).idx_next_alt))

module _ (node : ℕ → EstTime) (e : LinkEvent) (m : ℕ) where
  pub pushed_nexts : (k i : ℕ) (es : List EstJoinPath)
      → alternatives k node e m i es ≡ pushed_all m (nexts_of k node e i) es
  unfolding alternatives pushed_all nexts_of
  pushed_nexts zero i es = refl
  pushed_nexts (suc k) i es =
      go (same_event (node (node i).idx_next).link_event e) (eqb (node i).idx_next_alt 0)
      (pushed_nexts k (node i).idx_next_alt)
    where
      later : (z : Bool) → ((es : List EstJoinPath)
          → alternatives k node e m (node i).idx_next_alt es
          ≡ pushed_all m (nexts_of k node e (node i).idx_next_alt) es) → (es : List EstJoinPath)
          → onward z (alternatives k node e m (node i).idx_next_alt) es
          ≡ pushed_all m (unless_last z (nexts_of k node e (node i).idx_next_alt)) es
      later true ih es = refl
      later false ih es = ih es

      go : (b z : Bool) → ((es : List EstJoinPath)
          → alternatives k node e m (node i).idx_next_alt es
          ≡ pushed_all m (nexts_of k node e (node i).idx_next_alt) es)
          → and_then (pushed_if b es (entry m (node i).idx_next))
          (onward z (alternatives k node e m (node i).idx_next_alt))
          ≡ pushed_all m (cons_if b (node i).idx_next (unless_last z (nexts_of k node e (node i).idx_next_alt))) es
      go true z ih = then_same (push es (entry m (node i).idx_next)) _ _ (later z ih)
      go false z ih = later z ih es

-- ---- strands

module _ (node : ℕ → EstTime) (e : LinkEvent) (m : ℕ) where
  with_node : (i : ℕ) (q : Option (List ℕ)) (es : List EstJoinPath)
      → pushed_each m (with_nodes (i ∷ []) q) es ≡ and_then (push es (entry m i)) (pushed_each m q)
  unfolding pushed_all
  with_node i none es = then_none (push es (entry m i))
  with_node i (some is) es = refl

  pub pushed_walk : (k : ℕ) (s : Strand) → strands k node e m s
      ≡ pushed_each m (walked k node e s.here s.stack) s.entries
  unfolding strands turn walked pushed_all
  pushed_walk zero s = refl
  pushed_walk (suc k) s =
      let next = (node s.here).idx_next in
      go (same_event (node next).link_event e) (is_arrive (node next).link_event.est_type || eqb (node next).idx_next 0)
      (alternative_stacked (node s.here).idx_next_alt s.stack) (pushed_walk k)
    where
      on_popped : ((s : Strand) → strands k node e m s ≡ pushed_each m (walked k node e s.here s.stack) s.entries)
          → (stack : List ℕ) (es : List EstJoinPath)
          → strands_on (popped stack es) (strands k node e m) ≡ pushed_each m (popped_to stack (walked k node e)) es
      on_popped ih [] es = refl
      on_popped ih (i ∷ stack) es = ih (record { here = i; stack = stack; entries = es })

      after : ((s : Strand) → strands k node e m s ≡ pushed_each m (walked k node e s.here s.stack) s.entries)
          → (stack : List ℕ) (a : Option (List EstJoinPath))
          → strands_on (popped_after stack a) (strands k node e m)
          ≡ and_then a (pushed_each m (popped_to stack (walked k node e)))
      after ih stack none = refl
      after ih stack (some es) = on_popped ih stack es

      go : (b c : Bool) (stack : List ℕ) → ((s : Strand)
          → strands k node e m s ≡ pushed_each m (walked k node e s.here s.stack) s.entries)
          → strands_on (turn_as b c m (node s.here).idx_next stack s.entries) (strands k node e m)
          ≡ pushed_each m (walked_as b c (node s.here).idx_next stack (walked k node e)) s.entries
      go true c stack ih =
          after ih stack (push s.entries (entry m (node s.here).idx_next))
          ∙ sym (with_node (node s.here).idx_next (popped_to stack (walked k node e)) s.entries)
      go false true stack ih = on_popped ih stack s.entries
      go false false stack ih = ih (record { here = (node s.here).idx_next; stack = stack; entries = s.entries })
