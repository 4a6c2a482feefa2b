-- Two networks that agree in their first n nodes: whatever growth reads of them is the same.
use mathlib.Core.Path.{◌≡◌, refl, ap, ◌∙◌}
use mathlib.Core.Bool.{Bool, true, false, ◌&&◌, ◌||◌, cond}
use mathlib.Core.List.{List, [], ◌∷◌}
use mathlib.Core.Option.{Option, none, some}
use Prim.Native.Nat.{ℕ, zero, suc, ◌+◌, ◌<◌, ◌≤◌}
use native.Mathlib.Omega.{arith}
use lib.Dec.{eqb}
use lib.Ieee.{Float, lt}
use Rattle.floats.specs.Floats.{gap}
use Rattle.laws.proofs.Below.{some_same}
use Rattle.net_node.specs.declared.LinkEvent.{LinkEvent}
use Rattle.net_node.specs.declared.EstTime.{EstTime}
use Rattle.net_node.specs.declared.TimedEvent.{TimedEvent}
use Rattle.net_node.specs.Table.{same_event, Indexed}
use Rattle.net_insertion.specs.Insertion.{matches, found, seek}
use Rattle.net_event_map.specs.EventMap.{seen_in, nodes_from, event_nodes}
use Rattle.net_join_paths.specs.declared.EstJoinPath.{EstJoinPath}
use Rattle.net_join_paths.specs.Entries.{entry, and_then, pushed_if}
use Rattle.net_stack.specs.Stack.{is_arrive, alternative_stacked}
use Rattle.net_strands.specs.Space.{onward, alternatives, Strand, strand_from, Turn, Whole, Over, More, turn_as, turn}
use Rattle.net_strands.specs.Space.{strands_on, strands, followed, extended_as, extended, extended_all}
use Rattle.net_joins.specs.declared.SpeedJoin.{SpeedJoin}
use Rattle.net_joins.specs.Joins.{closer, closer_as, closest_of, chain_end_as, chain_end, appended_all, appended}
use Rattle.net_joins.specs.Joins.{rebuilt}
use Rattle.arcs_growth.proofs.Invariant.{Listed}
use Rattle.arcs_growth.proofs.Entries.{Right, RightTurn, turn_right, Given, GoodAll, extended_good}

-- the first n nodes are the same
abbrev pub Agree : ℕ → (ℕ → EstTime) → (ℕ → EstTime) → Type 0
Agree n node other = (i : ℕ) → i < n → other i ≡ node i

module _ (node other : ℕ → EstTime) (n : ℕ) (ag : Agree n node other) (w : Indexed node n) where
  -- ---- insertion's search

  pub seek_same : (k : ℕ) (limit : Float) (e : TimedEvent) (i : ℕ) → i < n
      → seek k other limit e i ≡ seek k node limit e i
  unfolding seek
  seek_same zero limit e i h = refl
  seek_same (suc k) limit e i h =
      ap (λ (x : EstTime). found (eqb x.idx_next 0) (matches limit e (other x.idx_next))
      (eqb x.idx_next_alt 0) i x.idx_next (seek k other limit e x.idx_next_alt)) (ag i h)
      ∙ ap (λ (x : EstTime). found (eqb (node i).idx_next 0) (matches limit e x) (eqb (node i).idx_next_alt 0) i
      (node i).idx_next (seek k other limit e (node i).idx_next_alt)) (ag (node i).idx_next (w.next i h))
      ∙ ap (λ s. found (eqb (node i).idx_next 0) (matches limit e (node (node i).idx_next))
      (eqb (node i).idx_next_alt 0) i (node i).idx_next s) (seek_same k limit e (node i).idx_next_alt (w.next_alt i h))

  -- ---- the chain of previous alternatives

  pub chain_same : (k i : ℕ) → i < n → chain_end k other i ≡ chain_end k node i
  unfolding chain_end
  chain_same zero i h = refl
  chain_same (suc k) i h = ap (λ (x : EstTime). chain_end_as x.idx_prev_alt i (chain_end k other)) (ag i h)
      ∙ go (node i).idx_prev_alt (w.prev_alt i h) (chain_same k)
    where
      go : (a : ℕ) → a < n → ((j : ℕ) → j < n → chain_end k other j ≡ chain_end k node j)
          → chain_end_as a i (chain_end k other) ≡ chain_end_as a i (chain_end k node)
      go zero l ih = refl
      go (suc a) l ih = ih (suc a) l

  -- ---- the nodes of an event

  seen_same : (e : LinkEvent) → seen_in other n e ≡ seen_in node n e
  unfolding seen_in
  seen_same e = some_same n (λ i. same_event (other i).link_event e) (λ i. same_event (node i).link_event e)
      (λ i h. ap (λ (x : EstTime). same_event x.link_event e) (ag i h))

  from_same : (e : LinkEvent) (k i : ℕ) → i + k ≤ n → nodes_from other e i k ≡ nodes_from node e i k
  unfolding nodes_from
  from_same e zero i h = refl
  from_same e (suc k) i h =
      ap (λ (x : EstTime). cond (same_event x.link_event e) (i ∷ nodes_from other e (suc i) k)
      (nodes_from other e (suc i) k)) (ag i (omega arith))
      ∙ ap (λ (xs : List ℕ). cond (same_event (node i).link_event e) (i ∷ xs) xs) (from_same e k (suc i) (omega arith))

  pub appended_same : (e : LinkEvent) (es : List EstJoinPath) → appended other n e es ≡ appended node n e es
  unfolding appended event_nodes
  appended_same e es = ap (λ (xs : List ℕ). cond (is_arrive e.est_type) (appended_all es e.link_idx xs es) (some es))
      (from_same e n 0 (omega arith))

  -- ---- the closest

  pub closest_same : (speed : Float) (c : SpeedJoin) (es : List EstJoinPath) → Listed n es
      → closest_of other speed c es ≡ closest_of node speed c es
  unfolding closest_of closer
  closest_same speed c [] l = refl
  closest_same speed c (x ∷ es) l =
      ap (λ (y : EstTime). closest_of other speed (closer_as
      (eqb x.link_idx_match 0 && lt (gap y.speed speed) c.speed_diff_join) c (gap y.speed speed) x.est_idx_next) es)
      (ag x.est_idx_next l.0)
      ∙ closest_same speed (closer node speed c x) es l.1

  -- ---- the list rebuilt

  module _ (e : LinkEvent) where
    alternatives_same : (k m i : ℕ) (es : List EstJoinPath) → i < n
        → alternatives k other e m i es ≡ alternatives k node e m i es
    unfolding alternatives
    alternatives_same zero m i es h = refl
    alternatives_same (suc k) m i es h =
        ap (λ (x : EstTime). and_then (pushed_if (same_event (other x.idx_next).link_event e) es (entry m x.idx_next))
        (onward (eqb x.idx_next_alt 0) (alternatives k other e m x.idx_next_alt))) (ag i h)
        ∙ ap (λ (x : EstTime). and_then (pushed_if (same_event x.link_event e) es (entry m (node i).idx_next))
        (onward (eqb (node i).idx_next_alt 0) (alternatives k other e m (node i).idx_next_alt)))
        (ag (node i).idx_next (w.next i h))
        ∙ go (pushed_if (same_event (node (node i).idx_next).link_event e) es (entry m (node i).idx_next))
        (eqb (node i).idx_next_alt 0) (λ fs. alternatives_same k m (node i).idx_next_alt fs (w.next_alt i h))
      where
        on : (b : Bool) (fs : List EstJoinPath) → ((gs : List EstJoinPath)
            → alternatives k other e m (node i).idx_next_alt gs ≡ alternatives k node e m (node i).idx_next_alt gs)
            → onward b (alternatives k other e m (node i).idx_next_alt) fs ≡ onward b
            (alternatives k node e m (node i).idx_next_alt) fs
        on true fs ih = refl
        on false fs ih = ih fs

        go : (x : Option (List EstJoinPath)) (b : Bool)
            → ((gs : List EstJoinPath) → alternatives k other e m (node i).idx_next_alt gs ≡ alternatives k node e m
            (node i).idx_next_alt gs)
            → and_then x (onward b (alternatives k other e m (node i).idx_next_alt)) ≡ and_then x
            (onward b (alternatives k node e m (node i).idx_next_alt))
        go none b ih = refl
        go (some fs) b ih = on b fs ih

    turn_same : (m : ℕ) (s : Strand) → s.here < n → turn other e m s ≡ turn node e m s
    unfolding turn
    turn_same m s h =
        ap (λ (x : EstTime). turn_as (same_event (other x.idx_next).link_event e)
        (is_arrive (other x.idx_next).link_event.est_type || eqb (other x.idx_next).idx_next 0) m x.idx_next
        (alternative_stacked x.idx_next_alt s.stack) s.entries) (ag s.here h)
        ∙ ap (λ (x : EstTime). turn_as (same_event x.link_event e)
        (is_arrive x.link_event.est_type || eqb x.idx_next 0) m (node s.here).idx_next
        (alternative_stacked (node s.here).idx_next_alt s.stack) s.entries)
        (ag (node s.here).idx_next (w.next s.here h))

    strands_same : (k m : ℕ) (s : Strand) → Right node n e w s → strands k other e m s ≡ strands k node e m s
    unfolding strands
    strands_same zero m s r = refl
    strands_same (suc k) m s r = ap (λ (t : Turn). strands_on t (strands k other e m)) (turn_same m s r.here)
        ∙ go (turn node e m s) (turn_right node n e w m s r) (strands_same k m)
      where
        go : (t : Turn) → RightTurn node n e w t → ((u : Strand) → Right node n e w u
            → strands k other e m u ≡ strands k node e m u)
            → strands_on t (strands k other e m) ≡ strands_on t (strands k node e m)
        go (Whole es) d ih = refl
        go Over d ih = refl
        go (More u) d ih = ih u d

    followed_same : (old m i : ℕ) (es : List EstJoinPath) → i < n → GoodAll node n e es
        → followed old other n e m i es ≡ followed old node n e m i es
    unfolding strand_from
    followed_same zero m i es h g = alternatives_same n m i es h
    followed_same (suc old) m i es h g = strands_same 4096 m (strand_from i es)
        (record { here = h; stack = tt; entries = g })

    extended_same : (seen : Bool) (x : EstJoinPath) (es : List EstJoinPath) → x.est_idx_next < n → GoodAll node n e es
        → extended other n e seen x es ≡ extended node n e seen x es
    unfolding extended
    extended_same seen x es h g =
        ap (λ (y : EstTime). extended_as (eqb y.idx_next 0) (is_arrive e.est_type)
        (eqb x.link_idx_match 0 || eqb x.link_idx_match e.link_idx) seen other n e x es) (ag x.est_idx_next h)
        ∙ go (eqb (node x.est_idx_next).idx_next 0) (is_arrive e.est_type)
        (eqb x.link_idx_match 0 || eqb x.link_idx_match e.link_idx) seen
      where
        go : (a b c d : Bool) → extended_as a b c d other n e x es ≡ extended_as a b c d node n e x es
        go true b c d = refl
        go false false false d = refl
        go false true c false = refl
        go false false true false = refl
        go false true c true = followed_same x.link_idx_match x.link_idx_match x.est_idx_next es h g
        go false false true true = followed_same x.link_idx_match 0 x.est_idx_next es h g

    all_same : (seen : Bool) (old es : List EstJoinPath) → Listed n old → GoodAll node n e es
        → extended_all other n e seen old es ≡ extended_all node n e seen old es
    unfolding extended_all
    all_same seen [] es l g = refl
    all_same seen (x ∷ old) es l g =
        ap (λ (y : Option (List EstJoinPath)). and_then y (extended_all other n e seen old))
        (extended_same seen x es l.0 g)
        ∙ go (extended node n e seen x es) (extended_good node n e w seen x es l.0 g)
        (λ fs f. all_same seen old fs l.1 f)
      where
        go : (y : Option (List EstJoinPath)) → Given (GoodAll node n e) y
            → ((fs : List EstJoinPath) → GoodAll node n e fs
            → extended_all other n e seen old fs ≡ extended_all node n e seen old fs)
            → and_then y (extended_all other n e seen old) ≡ and_then y (extended_all node n e seen old)
        go none h ih = refl
        go (some fs) h ih = ih fs h

    pub rebuilt_same : (old : List EstJoinPath) → Listed n old → rebuilt other n e old ≡ rebuilt node n e old
    unfolding rebuilt
    rebuilt_same old l = ap (λ (t : Bool). extended_all other n e t old []) (seen_same e)
        ∙ all_same (seen_in node n e) old [] l tt
