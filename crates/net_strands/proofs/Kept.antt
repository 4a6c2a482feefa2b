-- What a caller may know of a new list: each of its entries names a node of the network, and there are at most 1,024.
use mathlib.Core.Path.{◌≡◌, subst}
use mathlib.Core.Bool.{Bool, true, false, ◌||◌}
use mathlib.Core.List.{List, [], ◌∷◌}
use mathlib.Core.Option.{Option, none, some}
use Prim.{Unit, tt}
use Prim.Native.Nat.{ℕ, zero, suc, ◌<◌}
use native.Mathlib.Nat.{not-suc-le-zero}
use native.Mathlib.Omega.{arith}
use lib.Dec.{eqb}
use Rattle.net_node.specs.declared.LinkEvent.{LinkEvent}
use Rattle.net_node.specs.declared.EstTime.{EstTime}
use Rattle.net_node.specs.Table.{same_event, Indexed}
use Rattle.net_join_paths.specs.declared.EstJoinPath.{EstJoinPath}
use Rattle.net_join_paths.specs.Entries.{entry, push, pushed_if, Valid}
use Rattle.net_join_paths.proofs.Kept.{Sound, Kept, kept_then, kept_push, kept_pushed_if}
use Rattle.net_stack.specs.Stack.{is_arrive, alternative_stacked}
use Rattle.net_strands.specs.Space.{onward, alternatives, Strand, strand_from, Turn, Whole, Over, More, popped}
use Rattle.net_strands.specs.Space.{popped_after, turn_as, turn, strands_on, strands, followed, extended_as, extended}
use Rattle.net_strands.specs.Space.{extended_all}

-- each of a stack's nodes is one of the first n
abbrev Named : ℕ → List ℕ → Type 0
Named n [] = Unit
Named n (i ∷ is) = (i < n) × Named n is

named_stacked : (n alt : ℕ) (stack : List ℕ) → alt < n → Named n stack → Named n (alternative_stacked alt stack)
named_stacked n zero stack h l = l
named_stacked n (suc alt) stack h l = (h, l)

-- ---- the walks

module _ {node : ℕ → EstTime} {n : ℕ} (w : Indexed node n) (e : LinkEvent) (m : ℕ) where
  kept_alternatives : (k i : ℕ) (es : List EstJoinPath) → i < n → Sound n es → Kept n (alternatives k node e m i es)
  unfolding alternatives entry
  kept_alternatives zero i es h v = v
  kept_alternatives (suc k) i es h v =
      kept_then n (pushed_if (same_event (node (node i).idx_next).link_event e) es (entry m (node i).idx_next))
      (onward (eqb (node i).idx_next_alt 0) (alternatives k node e m (node i).idx_next_alt))
      (kept_pushed_if n es (entry m (node i).idx_next) v (w.next i h)
      (same_event (node (node i).idx_next).link_event e))
      (λ es v. go (eqb (node i).idx_next_alt 0) (kept_alternatives k (node i).idx_next_alt) es v)
    where
      go : (b : Bool) → ((es : List EstJoinPath) → (node i).idx_next_alt < n → Sound n es
          → Kept n (alternatives k node e m (node i).idx_next_alt es)) → (es : List EstJoinPath) → Sound n es
          → Kept n (onward b (alternatives k node e m (node i).idx_next_alt) es)
      go true ih es v = v
      go false ih es v = ih es (w.next_alt i h) v

  -- a strand whose nodes are the network's
  record SoundStrand (s : Strand) : Type 0 where
    here : s.here < n
    stack : Named n s.stack
    entries : Sound n s.entries

  abbrev KeptTurn : Turn → Type 0
  KeptTurn (Whole es) = Sound n es
  KeptTurn Over = Unit
  KeptTurn (More s) = SoundStrand s

  kept_popped : (stack : List ℕ) (es : List EstJoinPath) → Named n stack → Sound n es → KeptTurn (popped stack es)
  kept_popped [] es l v = v
  kept_popped (i ∷ stack) es l v = record { here = l.0; stack = l.1; entries = v }

  kept_popped_after : (stack : List ℕ) (a : Option (List EstJoinPath)) → Named n stack → Kept n a
      → KeptTurn (popped_after stack a)
  kept_popped_after stack none l v = tt
  kept_popped_after stack (some es) l v = kept_popped stack es l v

  kept_turn_as : (b c : Bool) (next : ℕ) (stack : List ℕ) (es : List EstJoinPath) → next < n → Named n stack
      → Sound n es → KeptTurn (turn_as b c m next stack es)
  unfolding entry
  kept_turn_as true c next stack es h l v =
      kept_popped_after stack (push es (entry m next)) l (kept_push n es (entry m next) v h)
  kept_turn_as false true next stack es h l v = kept_popped stack es l v
  kept_turn_as false false next stack es h l v = record { here = h; stack = l; entries = v }

  kept_turn : (s : Strand) → SoundStrand s → KeptTurn (turn node e m s)
  unfolding turn
  kept_turn s v =
      let next = (node s.here).idx_next in
      kept_turn_as (same_event (node next).link_event e)
      (is_arrive (node next).link_event.est_type || eqb (node next).idx_next 0) next
      (alternative_stacked (node s.here).idx_next_alt s.stack) s.entries (w.next s.here v.here)
      (named_stacked n (node s.here).idx_next_alt s.stack (w.next_alt s.here v.here) v.stack) v.entries

  kept_go_on : (t : Turn) (f : Strand → Option (List EstJoinPath)) → KeptTurn t
      → ((s : Strand) → SoundStrand s → Kept n (f s)) → Kept n (strands_on t f)
  kept_go_on (Whole es) f v g = v
  kept_go_on Over f v g = tt
  kept_go_on (More s) f v g = g s v

  kept_strands : (k : ℕ) (s : Strand) → SoundStrand s → Kept n (strands k node e m s)
  unfolding strands
  kept_strands zero s v = tt
  kept_strands (suc k) s v = kept_go_on (turn node e m s) (strands k node e m) (kept_turn s v) (kept_strands k)

  kept_followed : (old i : ℕ) (es : List EstJoinPath) → i < n → Sound n es → Kept n (followed old node n e m i es)
  unfolding strand_from
  kept_followed zero i es h v = kept_alternatives n i es h v
  kept_followed (suc old) i es h v = kept_strands 4096 (strand_from i es) (record { here = h; stack = tt; entries = v })

-- ---- the old list

module _ {node : ℕ → EstTime} {n : ℕ} (w : Indexed node n) (e : LinkEvent) (seen : Bool) where
  kept_extended : (x : EstJoinPath) (es : List EstJoinPath) → x.est_idx_next < n → Sound n es
      → Kept n (extended node n e seen x es)
  unfolding extended
  kept_extended x es h v =
      go (eqb (node x.est_idx_next).idx_next 0) (is_arrive e.est_type)
      (eqb x.link_idx_match 0 || eqb x.link_idx_match e.link_idx) seen
    where
      go : (a b c d : Bool) → Kept n (extended_as a b c d node n e x es)
      go true b c d = v
      go false false false d = kept_push n es x v h
      go false true c false = v
      go false false true false = v
      go false true c true = kept_followed w e x.link_idx_match x.link_idx_match x.est_idx_next es h v
      go false false true true = kept_followed w e 0 x.link_idx_match x.est_idx_next es h v

  kept_all : (xs es : List EstJoinPath) → Valid xs n → Sound n es → Kept n (extended_all node n e seen xs es)
  unfolding extended_all
  kept_all [] es l v = v
  kept_all (x ∷ xs) es l v =
      kept_then n (extended node n e seen x es) (extended_all node n e seen xs)
      (kept_extended x es (l.node 0 (omega arith)) v)
      (λ es v. kept_all xs es (record { node = λ k h. l.node (suc k) (omega arith) }) v)

  -- ---- for callers

  pub space_kept : (old : List EstJoinPath) → Valid old n → Kept n (extended_all node n e seen old [])
  space_kept old l =
      kept_all old [] l (record { valid = record { node = λ k h. absurd (not-suc-le-zero h) }; few = omega arith })

  -- by the contract of `update_join_paths_space`
  pub space_sound : (old es : List EstJoinPath) → Valid old n → extended_all node n e seen old [] ≡ some es → Sound n es
  space_sound old es l h = subst (Kept n) h (space_kept old l)
