-- The join step: every entry of its lists names a node, and a node that a run joins has the event.
use mathlib.Core.Path.{◌≡◌, refl, sym, ap, ◌∙◌}
use mathlib.Core.Logic.{◌⊎◌, inl, inr}
use mathlib.Core.Bool.{Bool, true, false, ◌&&◌, ◌||◌, cond}
use mathlib.Core.List.{List, [], ◌∷◌, ◌++◌}
use mathlib.Core.Option.{Option, none, some}
use Prim.Native.Nat.{ℕ, zero, suc, ◌+◌, ◌<◌, ◌≤◌}
use native.Mathlib.Omega.{arith}
use borrow.Author.Tests.{eqb-true, eq-eqb, ltb-true}
use lib.ListN.{length}
use lib.Dec.{eqb, ltb}
use lib.Ieee.{Float, lt}
use Rattle.laws.proofs.Truth.{not_both}
use Rattle.floats.specs.Floats.{gap}
use Rattle.floats.proofs.Order.{lt_asym}
use Rattle.laws.proofs.Below.{none_left}
use Rattle.net_node.specs.declared.LinkEvent.{LinkEvent}
use Rattle.net_node.specs.declared.EstTime.{EstTime}
use Rattle.net_node.specs.declared.TimedEvent.{TimedEvent}
use Rattle.net_node.specs.Table.{same_event, Indexed}
use Rattle.net_event_map.specs.EventMap.{seen_in, nodes_from, event_nodes}
use Rattle.net_join_paths.specs.declared.EstJoinPath.{EstJoinPath}
use Rattle.net_join_paths.specs.Entries.{entry, push, pushed_as, and_then, pushed_if}
use Rattle.net_stack.specs.Stack.{is_arrive, alternative_stacked}
use Rattle.net_strands.specs.Space.{onward, alternatives, Strand, strand_from, Turn, Whole, Over, More, popped}
use Rattle.net_strands.specs.Space.{popped_after, turn_as, turn, strands_on, strands, followed, extended_as, extended}
use Rattle.net_strands.specs.Space.{extended_all}
use Rattle.net_joins.specs.declared.SpeedJoin.{SpeedJoin}
use Rattle.net_joins.specs.Joins.{closer_as, closer, closest_of, closest, names, appended_if, appended_all, appended}
use Rattle.net_joins.specs.Joins.{rebuilt, JoinStep, JoinsTo, GoesOn, Beyond, step_with, chosen_as, chosen, join_step}
use Rattle.laws.proofs.Members.{All, all_so}
use Rattle.arcs_growth.proofs.Invariant.{Listed}

abbrev pub Given : (List EstJoinPath → Type 0) → Option (List EstJoinPath) → Type 0
Given P none = Unit
Given P (some es) = P es

pub given_then : (P Q : List EstJoinPath → Type 0) (x : Option (List EstJoinPath)) (f : List EstJoinPath
    → Option (List EstJoinPath)) → Given P x → ((es : List EstJoinPath) → P es → Given Q (f es))
    → Given Q (and_then x f)
given_then P Q none f h k = tt
given_then P Q (some es) f h k = k es h

all_append : {A : Type 0} (P : A → Type 0) (xs : List A) (x : A) → All P xs → P x → All P (xs ++ (x ∷ []))
all_append P [] x h p = (p, tt)
all_append P (y ∷ xs) x h p = (h.0, all_append P xs x h.1 p)

pushed : (P : EstJoinPath → Type 0) (es : List EstJoinPath) (x : EstJoinPath) → All P es → P x
    → Given (All P) (push es x)
unfolding push
pushed P es x h p = go (ltb (length es) 1024)
  where
    go : (b : Bool) → Given (All P) (pushed_as b es x)
    go true = all_append P es x h p
    go false = tt

module _ (node : ℕ → EstTime) (n : ℕ) (e : LinkEvent) where
  -- it names a node, and with match link 0 one that has the event
  abbrev pub Good : EstJoinPath → Type 0
  Good x = (x.est_idx_next < n) × (x.link_idx_match ≡ 0 → same_event (node x.est_idx_next).link_event e ≡ true)

  abbrev pub GoodAll : List EstJoinPath → Type 0
  GoodAll es = All Good es

  has_event : (m i : ℕ) → i < n → same_event (node i).link_event e ≡ true → Good (entry m i)
  unfolding entry
  has_event m i h q = (h, λ (z : m ≡ 0). q)

  module _ (w : Indexed node n) where
    alternatives_good : (k m i : ℕ) (es : List EstJoinPath) → i < n → GoodAll es
        → Given GoodAll (alternatives k node e m i es)
    unfolding alternatives
    alternatives_good zero m i es h g = g
    alternatives_good (suc k) m i es h g =
        given_then GoodAll GoodAll (pushed_if (same_event (node (node i).idx_next).link_event e) es
        (entry m (node i).idx_next))
        (onward (eqb (node i).idx_next_alt 0) (alternatives k node e m (node i).idx_next_alt))
        (one (same_event (node (node i).idx_next).link_event e) refl)
        (λ fs f. on (eqb (node i).idx_next_alt 0) fs f
        (alternatives_good k m (node i).idx_next_alt fs (w.next_alt i h) f))
      where
        one : (b : Bool) → same_event (node (node i).idx_next).link_event e ≡ b
            → Given GoodAll (pushed_if b es (entry m (node i).idx_next))
        one true q = pushed Good es (entry m (node i).idx_next) g (has_event m (node i).idx_next (w.next i h) q)
        one false q = g

        on : (b : Bool) (fs : List EstJoinPath) → GoodAll fs
            → Given GoodAll (alternatives k node e m (node i).idx_next_alt fs)
            → Given GoodAll (onward b (alternatives k node e m (node i).idx_next_alt) fs)
        on true fs f d = f
        on false fs f d = d

    -- a strand stands on a node, and has alternative_stacked nodes
    pub record Right (s : Strand) : Type 0 where
      pub here : s.here < n
      pub stack : All (λ (i : ℕ). i < n) s.stack
      pub entries : GoodAll s.entries

    abbrev pub RightTurn : Turn → Type 0
    RightTurn (Whole es) = GoodAll es
    RightTurn Over = Unit
    RightTurn (More s) = Right s

    popped_right : (stack : List ℕ) (es : List EstJoinPath) → All (λ (i : ℕ). i < n) stack → GoodAll es
        → RightTurn (popped stack es)
    popped_right [] es h g = g
    popped_right (i ∷ stack) es h g = record { here = h.0; stack = h.1; entries = g }

    popped_after_lem : (stack : List ℕ) (x : Option (List EstJoinPath)) → All (λ (i : ℕ). i < n) stack → Given GoodAll x
        → RightTurn (popped_after stack x)
    popped_after_lem stack none h g = tt
    popped_after_lem stack (some es) h g = popped_right stack es h g

    stacked_right : (a : ℕ) (stack : List ℕ) → a < n → All (λ (i : ℕ). i < n) stack
        → All (λ (i : ℕ). i < n) (alternative_stacked a stack)
    stacked_right zero stack h g = g
    stacked_right (suc a) stack h g = (h, g)

    pub turn_right : (m : ℕ) (s : Strand) → Right s → RightTurn (turn node e m s)
    unfolding turn
    turn_right m s r =
        go (same_event (node (node s.here).idx_next).link_event e)
        (is_arrive (node (node s.here).idx_next).link_event.est_type || eqb (node (node s.here).idx_next).idx_next 0)
        refl
        (stacked_right (node s.here).idx_next_alt s.stack (w.next_alt s.here r.here) r.stack)
      where
        go : (a b : Bool) → same_event (node (node s.here).idx_next).link_event e ≡ a
            → All (λ (i : ℕ). i < n) (alternative_stacked (node s.here).idx_next_alt s.stack)
            → RightTurn (turn_as a b m (node s.here).idx_next
            (alternative_stacked (node s.here).idx_next_alt s.stack) s.entries)
        go true b q h = popped_after_lem (alternative_stacked (node s.here).idx_next_alt s.stack)
            (push s.entries (entry m (node s.here).idx_next)) h
            (pushed Good s.entries (entry m (node s.here).idx_next) r.entries
            (has_event m (node s.here).idx_next (w.next s.here r.here) q))
        go false true q h = popped_right (alternative_stacked (node s.here).idx_next_alt s.stack) s.entries h r.entries
        go false false q h = record { here = w.next s.here r.here; stack = h; entries = r.entries }

    strands_good : (k m : ℕ) (s : Strand) → Right s → Given GoodAll (strands k node e m s)
    unfolding strands
    strands_good zero m s r = tt
    strands_good (suc k) m s r = go (turn node e m s) (turn_right m s r) (strands_good k m)
      where
        go : (t : Turn) → RightTurn t → ((u : Strand) → Right u → Given GoodAll (strands k node e m u))
            → Given GoodAll (strands_on t (strands k node e m))
        go (Whole es) d ih = d
        go Over d ih = tt
        go (More u) d ih = ih u d

    followed_good : (old m i : ℕ) (es : List EstJoinPath) → i < n → GoodAll es
        → Given GoodAll (followed old node n e m i es)
    unfolding strand_from
    followed_good zero m i es h g = alternatives_good n m i es h g
    followed_good (suc old) m i es h g = strands_good 4096 m (strand_from i es)
        (record { here = h; stack = tt; entries = g })

    pub extended_good : (seen : Bool) (x : EstJoinPath) (es : List EstJoinPath) → x.est_idx_next < n → GoodAll es
        → Given GoodAll (extended node n e seen x es)
    unfolding extended
    extended_good seen x es h g = go (eqb (node x.est_idx_next).idx_next 0) (is_arrive e.est_type)
        (eqb x.link_idx_match 0 || eqb x.link_idx_match e.link_idx) seen refl
      where
        go : (a b c d : Bool) → (eqb x.link_idx_match 0 || eqb x.link_idx_match e.link_idx) ≡ c
            → Given GoodAll (extended_as a b c d node n e x es)
        go true b c d q = g
        go false false false d q =
            pushed Good es x g (
              h,
              λ (z : x.link_idx_match ≡ 0). not_both (eq-eqb x.link_idx_match 0 z)
                  (none_left (eqb x.link_idx_match 0) (eqb x.link_idx_match e.link_idx) q),
            )
        go false true c false q = g
        go false false true false q = g
        go false true c true q = followed_good x.link_idx_match x.link_idx_match x.est_idx_next es h g
        go false false true true q = followed_good x.link_idx_match 0 x.est_idx_next es h g

    extended_all_lem : (seen : Bool) (old es : List EstJoinPath) → Listed n old → GoodAll es
        → Given GoodAll (extended_all node n e seen old es)
    unfolding extended_all
    extended_all_lem seen [] es l g = g
    extended_all_lem seen (x ∷ old) es l g =
        given_then GoodAll GoodAll (extended node n e seen x es) (extended_all node n e seen old)
        (extended_good seen x es l.0 g) (λ fs f. extended_all_lem seen old fs l.1 f)

    pub rebuilt_good : (old : List EstJoinPath) → Listed n old → Given GoodAll (rebuilt node n e old)
    unfolding rebuilt
    rebuilt_good old l = extended_all_lem (seen_in node n e) old [] l tt

  -- ---- the closest

  -- the best so far is the one that the source begins with, or has the event
  abbrev Best : Float → Float → SpeedJoin → Type 0
  Best limit speed c = (c.speed_diff_join ≡ limit)
      ⊎ ((c.est_idx_join < n) × ((same_event (node c.est_idx_join).link_event e ≡ true)
      × (c.speed_diff_join ≡ gap (node c.est_idx_join).speed speed)))

  closest_of_lem : (limit speed : Float) (c : SpeedJoin) (es : List EstJoinPath) → Best limit speed c → GoodAll es
      → Best limit speed (closest_of node speed c es)
  unfolding closest_of closer
  closest_of_lem limit speed c [] b g = b
  closest_of_lem limit speed c (x ∷ es) b g =
      closest_of_lem limit speed (closer node speed c x) es
      (go (eqb x.link_idx_match 0) (lt (gap (node x.est_idx_next).speed speed) c.speed_diff_join) refl) g.1
    where
      go : (p q : Bool) → eqb x.link_idx_match 0 ≡ p
          → Best limit speed (closer_as (p && q) c (gap (node x.est_idx_next).speed speed) x.est_idx_next)
      go true true r = inr (g.0.0, (g.0.1 (eqb-true x.link_idx_match 0 r), refl))
      go true false r = b
      go false q r = b

  -- ---- what is appended

  pub nodes_from_lem : (k i : ℕ) → i + k ≤ n → All (λ (j : ℕ). j < n) (nodes_from node e i k)
  unfolding nodes_from
  nodes_from_lem zero i h = tt
  nodes_from_lem (suc k) i h = go (same_event (node i).link_event e) (nodes_from_lem k (suc i) (omega arith))
    where
      go : (b : Bool) → All (λ (j : ℕ). j < n) (nodes_from node e (suc i) k)
          → All (λ (j : ℕ). j < n) (cond b (i ∷ nodes_from node e (suc i) k) (nodes_from node e (suc i) k))
      go true d = (omega arith, d)
      go false d = d

  appended_all_lem : (old : List EstJoinPath) (m : ℕ) (is : List ℕ) (es : List EstJoinPath) → All (λ (j : ℕ). j < n) is
      → Listed n es → Given (Listed n) (appended_all old m is es)
  unfolding appended_all entry
  appended_all_lem old m [] es h l = l
  appended_all_lem old m (i ∷ is) es h l =
      given_then (Listed n) (Listed n) (appended_if (names old i) m i es) (appended_all old m is) (go (names old i))
      (λ fs f. appended_all_lem old m is fs h.1 f)
    where
      named : (entry m i).est_idx_next < n
      named = h.0

      go : (b : Bool) → Given (Listed n) (appended_if b m i es)
      go true = l
      go false = pushed (λ (x : EstJoinPath). x.est_idx_next < n) es (entry m i) l named

  appended_listed : (es : List EstJoinPath) → Listed n es → Given (Listed n) (appended node n e es)
  unfolding appended event_nodes
  appended_listed es l = go (is_arrive e.est_type)
    where
      go : (b : Bool) → Given (Listed n) (cond b (appended_all es e.link_idx (event_nodes node e n) es) (some es))
      go true = appended_all_lem es e.link_idx (nodes_from node e 0 n) es (nodes_from_lem n 0 (omega arith)) l
      go false = l

-- ---- the three together

-- the target has the event and a speed near enough, and there is room; or the list names nodes
abbrev pub Stepped : (ℕ → EstTime) → ℕ → ℕ → Float → TimedEvent → JoinStep → Type 0
Stepped node n places limit e (JoinsTo target) =
    (target < n) × ((same_event (node target).link_event e.link_event ≡ true)
    × ((n < places) × (lt (gap (node target).speed e.speed) limit ≡ true)))
Stepped node n places limit e (GoesOn es) = Listed n es
Stepped node n places limit e Beyond = Unit

pub step_right : (node : ℕ → EstTime) (n places : ℕ) (limit : Float) (e : TimedEvent) (old : List EstJoinPath)
    → Indexed node n → Listed n old → Stepped node n places limit e (join_step node n places limit e old)
unfolding join_step closest
step_right node n places limit e old w l = go (rebuilt node n e.link_event old)
    (rebuilt_good node n e.link_event w old l)
  where
    good : (x : EstJoinPath) → Good node n e.link_event x → x.est_idx_next < n
    good x g = g.0

    list : (x : Option (List EstJoinPath)) → Given (Listed n) x → Stepped node n places limit e (step_with x)
    list none h = tt
    list (some es) h = h

    choose : (es : List EstJoinPath) → GoodAll node n e.link_event es → (c : SpeedJoin)
        → Best node n e.link_event limit e.speed c → (a b : Bool) → lt c.speed_diff_join limit ≡ a → ltb n places ≡ b
        → Stepped node n places limit e (chosen_as a b c.est_idx_join (appended node n e.link_event es))
    choose es g c (inl q) true b r s =
        let z : lt limit limit ≡ true = ap (λ (x : Float). lt x limit) (sym q) ∙ r in
        not_both z (lt_asym limit limit z)
    choose es g c (inr q) true true r s = (
      q.0,
      (
        q.1.0,
        (ltb-true n places s, ap (λ (x : Float). lt x limit) (sym q.1.1) ∙ r),
      ),
    )
    choose es g c (inr q) true false r s = tt
    choose es g c d false b r s = list (appended node n e.link_event es)
        (appended_listed node n e.link_event es (all_so (Good node n e.link_event)
        (λ (x : EstJoinPath). x.est_idx_next < n) good es g))

    go : (x : Option (List EstJoinPath)) → Given (GoodAll node n e.link_event) x
        → Stepped node n places limit e (chosen node n places limit e x)
    go none h = tt
    go (some es) h =
        choose es h (closest_of node e.speed (record { speed_diff_join = limit; est_idx_join = 0 }) es)
        (closest_of_lem node n e.link_event limit e.speed (record { speed_diff_join = limit; est_idx_join = 0 }) es
        (inl refl) h)
        (lt (closest_of node e.speed (record { speed_diff_join = limit; est_idx_join = 0 }) es).speed_diff_join limit)
        (ltb n places) refl refl
