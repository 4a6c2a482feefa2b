-- What a caller may know of a step: what it joins or goes on with, which nodes a join writes and which it leaves alone,
-- that the network stays indexed, and that the cells still say what it has.
use mathlib.Core.Path.{◌≡◌, refl, sym, ap, ◌∙◌, subst}
use mathlib.Core.Logic.{◌⊎◌, inl, inr, ◌≢◌}
use mathlib.Core.Bool.{Bool, true, false, cond}
use mathlib.Core.List.{List, [], ◌∷◌}
use mathlib.Core.Option.{Option, none, some}
use Prim.{Unit, tt}
use Prim.Native.Nat.{ℕ, suc, ◌+◌, ◌-◌, ◌<◌}
use native.Mathlib.Omega.{arith}
use borrow.Author.Tests.{ltb-true}
use lib.Dec.{ltb}
use lib.Ieee.{Float, lt}
use lib.ListN.{length, get_or}
use Rattle.laws.proofs.Truth.{equal_or_not}
use Rattle.net_node.proofs.Tables.{RoomIn, put_room, put_same, put_other, Fits, fits_at, fits_indexed}
use Rattle.net_node.specs.declared.EstType.TheVariants.{Fake}
use Rattle.net_node.specs.declared.LinkEvent.{LinkEvent}
use Rattle.net_node.specs.declared.EstTime.{EstTime}
use Rattle.net_node.specs.declared.TimedEvent.{TimedEvent}
use Rattle.net_node.specs.Table.{Indexed, Table, put, at, with_prev_alt}
use Rattle.net_insertion.specs.Insertion.{linked_to}
use Rattle.net_event_map.specs.declared.Layout.{Layout}
use Rattle.net_event_map.specs.EventMap.{seen_in, event_nodes, Mapped}
use Rattle.net_event_map.proofs.Kept.{mapped_fake, mapped_same, event_nodes_lem}
use Rattle.net_join_paths.specs.declared.EstJoinPath.{EstJoinPath}
use Rattle.net_join_paths.specs.Entries.{entry, Valid}
use Rattle.net_join_paths.proofs.Kept.{Sound, Kept, kept_then, kept_push}
use Rattle.net_stack.specs.Stack.{is_arrive}
use Rattle.net_strands.proofs.Kept.{space_kept}
use Rattle.std.specs.Prelude.{Ok}
use Rattle.net_joins.specs.declared.Step.TheVariants.{Joined, Waits}
use Rattle.net_joins.specs.Joins.{closest, chain_end, join_fake, join_at, joined_table, names, appended_if}
use Rattle.net_joins.specs.Joins.{appended_all, appended, rebuilt, JoinStep, JoinsTo, GoesOn, Beyond, step_with}
use Rattle.net_joins.specs.Joins.{joins_if, chosen_as, chosen, join_step, StepAs, SteppedInto}
use Rattle.net_joins.proofs.Choosing.{closest_within}
use Rattle.net_joins.proofs.Chains.{Last, chain_ends}

-- ---- what a step gives

module _ (n : ℕ) (old : List EstJoinPath) (m : ℕ) where
  kept_if : (b : Bool) (i : ℕ) (es : List EstJoinPath) → i < n → Sound n es → Kept n (appended_if b m i es)
  unfolding entry
  kept_if true i es h v = v
  kept_if false i es h v = kept_push n es (entry m i) v h

  kept_appended_all : (is : List ℕ) (es : List EstJoinPath) → ((k : ℕ) → k < length is → get_or is k 0 < n) → Sound n es
      → Kept n (appended_all old m is es)
  unfolding appended_all
  kept_appended_all [] es h v = v
  kept_appended_all (i ∷ is) es h v =
      kept_then n (appended_if (names old i) m i es) (appended_all old m is)
      (kept_if (names old i) i es (h 0 (omega arith)) v)
      (λ es v. kept_appended_all is es (λ k l. h (suc k) (omega arith)) v)

pub kept_appended : (node : ℕ → EstTime) (n : ℕ) (e : LinkEvent) (es : List EstJoinPath) → Sound n es
    → Kept n (appended node n e es)
unfolding appended
kept_appended node n e es v = go (is_arrive e.est_type)
  where
    go : (b : Bool) → Kept n (cond b (appended_all es e.link_idx (event_nodes node e n) es) (some es))
    go true = kept_appended_all n es e.link_idx (event_nodes node e n) es (λ k h. (event_nodes_lem node e n k h).0) v
    go false = v

-- the node that is joined, with a place for the Fake; or the list that the run goes on with
pub record Target (n places target : ℕ) : Type 0 where
  pub within : target < n
  pub place : n < places

abbrev pub KeptStep : ℕ → ℕ → JoinStep → Type 0
KeptStep n places (JoinsTo target) = Target n places target
KeptStep n places (GoesOn es) = Sound n es
KeptStep n places Beyond = Unit

module _ {node : ℕ → EstTime} {n : ℕ} (w : Indexed node n) (places : ℕ) (join : Float) (e : TimedEvent) where
  kept_goes : (o : Option (List EstJoinPath)) → Kept n o → KeptStep n places (step_with o)
  kept_goes none v = tt
  kept_goes (some es) v = v

  kept_joins : (target : ℕ) → target < n → (b : Bool) → ltb n places ≡ b → KeptStep n places (joins_if b target)
  kept_joins target h true p = record { within = h; place = ltb-true n places p }
  kept_joins target h false p = tt

  kept_chosen : (o : Option (List EstJoinPath)) → Kept n o → KeptStep n places (chosen node n places join e o)
  kept_chosen none v = tt
  kept_chosen (some es) v = go (lt (closest node join e.speed es).speed_diff_join join) refl
    where
      go : (b : Bool) → lt (closest node join e.speed es).speed_diff_join join ≡ b
          → KeptStep n places (chosen_as b (ltb n places) (closest node join e.speed es).est_idx_join
          (appended node n e.link_event es))
      go true h =
          kept_joins (closest node join e.speed es).est_idx_join (closest_within node join e.speed n es v.valid h)
          (ltb n places) refl
      go false h = kept_goes (appended node n e.link_event es) (kept_appended node n e.link_event es v)

  module _ (old : List EstJoinPath) (l : Valid old n) where
    pub step_kept : KeptStep n places (join_step node n places join e old)
    unfolding join_step rebuilt
    step_kept =
        kept_chosen (rebuilt node n e.link_event old) (space_kept w e.link_event (seen_in node n e.link_event) old l)

    -- by the step's equation
    pub goes_sound : (es : List EstJoinPath) → join_step node n places join e old ≡ GoesOn es → Sound n es
    goes_sound es h = subst (KeptStep n places) h step_kept

    pub joins_target : (target : ℕ) → join_step node n places join e old ≡ JoinsTo target → Target n places target
    joins_target target h = subst (KeptStep n places) h step_kept

    -- by the contract of `join_step`
    pub waits_sound : (list : List EstJoinPath) → StepAs (join_step node n places join e old) list (Ok Waits)
        → Sound n list
    waits_sound list h = goes_sound list h

    pub joined_target : (list : List EstJoinPath) (target : ℕ)
        → StepAs (join_step node n places join e old) list (Ok (Joined target)) → Target n places target
    joined_target list target h = joins_target target h

-- ---- the table after a join

-- the table that the lists hold then
pub stepped_table : (t : Table) (n target : ℕ) (e : TimedEvent) (fs : List Float) (us : List ℕ)
    → SteppedInto t n e fs us (Ok (Joined target))
    → ◌≡◌ {A = Table} (record { floats = fs; numbers = us }) (joined_table t n target e)
stepped_table t n target e fs us h = λ k. record { floats = h.0 k; numbers = h.1 k }

module _ (t : Table) (n end : ℕ) (e : TimedEvent) where
  abbrev first : Table
  first = put t end (with_prev_alt (at t end) n)

  abbrev second : Table
  second = put first n (join_fake end (n - 1))

  abbrev third : Table
  third = put second (n - 1) (linked_to (at second (n - 1)) n e)

  third_is : join_at t n end e ≡ third
  unfolding join_at
  third_is = refl

-- a node written that fits leaves all fitting
fits_put : (t : Table) (i : ℕ) (x : EstTime) (places m j : ℕ) → RoomIn t places → i < places → Fits x i m
    → (j ≢ i → Fits (at t j) j m) → Fits (at (put t i x) j) j m
fits_put t i x places m j r h f g = go (equal_or_not j i)
  where
    go : (j ≡ i) ⊎ (j ≡ i → ⊥) → Fits (at (put t i x) j) j m
    go (inl d) =
        subst (λ (k : ℕ). Fits (at (put t i x) k) k m) (sym d)
        (subst (λ (z : EstTime). Fits z i m) (sym (put_same t i x places r h)) f)
    go (inr d) = subst (λ (z : EstTime). Fits z j m) (sym (put_other t i x j d)) (g d)

-- a number that a node has is kept by a write that keeps it
kept_put : {A : Type 0} (f : EstTime → A) (t : Table) (i : ℕ) (x : EstTime) (places j : ℕ) → RoomIn t places
    → i < places → f x ≡ f (at t i) → f (at (put t i x) j) ≡ f (at t j)
kept_put f t i x places j r h e = go (equal_or_not j i)
  where
    go : (j ≡ i) ⊎ (j ≡ i → ⊥) → f (at (put t i x) j) ≡ f (at t j)
    go (inl d) = ap (λ (k : ℕ). f (at (put t i x) k)) d ∙ ap f (put_same t i x places r h) ∙ e
        ∙ ap (λ (k : ℕ). f (at t k)) (sym d)
    go (inr d) = ap f (put_other t i x j d)

module _ (t : Table) (n target places : ℕ) (e : TimedEvent) (r : RoomIn t places) (w : Indexed (at t) n)
    (b : target < n) (g : n < places) where
  -- the end of the target's chain
  abbrev pub chain_last : ℕ
  chain_last = chain_end n (at t) target

  pub last_is : Last (at t) n (chain_end n (at t) target)
  last_is = chain_ends w target b

  abbrev one : Table
  one = first t n chain_last e

  abbrev two : Table
  two = second t n chain_last e

  table_is : joined_table t n target e ≡ third t n chain_last e
  unfolding joined_table
  table_is = third_is t n chain_last e

  one_room : RoomIn one places
  one_room = put_room t chain_last (with_prev_alt (at t chain_last) n) places r

  two_room : RoomIn two places
  two_room = put_room one n (join_fake chain_last (n - 1)) places one_room

  pub joined_room : RoomIn (joined_table t n target e) places
  joined_room =
      subst (λ (s : Table). RoomIn s places) (sym table_is)
      (put_room two (n - 1) (linked_to (at two (n - 1)) n e) places two_room)

  -- ---- its nodes

  pub joined_fake : at (joined_table t n target e) n ≡ join_fake (chain_end n (at t) target) (n - 1)
  joined_fake =
      ap (λ (s : Table). at s n) table_is
      ∙ put_other two (n - 1) (linked_to (at two (n - 1)) n e) n (λ (o : n ≡ n - 1). omega arith)
      ∙ put_same one n (join_fake chain_last (n - 1)) places one_room g

  pub joined_fake_event : (at (joined_table t n target e) n).link_event.est_type ≡ Fake
  unfolding join_fake
  joined_fake_event = ap (λ (x : EstTime). x.link_event.est_type) joined_fake

  pub joined_other : (j : ℕ) → j ≢ chain_end n (at t) target → j ≢ n - 1 → j ≢ n
      → at (joined_table t n target e) j ≡ at t j
  joined_other j h l f =
      ap (λ (s : Table). at s j) table_is
      ∙ put_other two (n - 1) (linked_to (at two (n - 1)) n e) j l
      ∙ put_other one n (join_fake chain_last (n - 1)) j f
      ∙ put_other t chain_last (with_prev_alt (at t chain_last) n) j h

  -- the end of the chain, where it isn't the last node
  pub joined_end : chain_end n (at t) target ≢ n - 1
      → at (joined_table t n target e) (chain_end n (at t) target) ≡ with_prev_alt (at t (chain_end n (at t) target)) n
  joined_end h =
      ap (λ (s : Table). at s chain_last) table_is
      ∙ put_other two (n - 1) (linked_to (at two (n - 1)) n e) chain_last h
      ∙ put_other one n (join_fake chain_last (n - 1)) chain_last
      (λ (o : chain_last ≡ n). omega (arith, last_is.within))
      ∙ put_same t chain_last (with_prev_alt (at t chain_last) n) places r (omega (arith, last_is.within))

  last_from : at (joined_table t n target e) (n - 1) ≡ linked_to (at one (n - 1)) n e
  last_from =
      ap (λ (s : Table). at s (n - 1)) table_is
      ∙ put_same two (n - 1) (linked_to (at two (n - 1)) n e) places two_room (omega arith)
      ∙ ap (λ (x : EstTime). linked_to x n e) (put_other one n (join_fake chain_last (n - 1)) (n - 1)
      (λ (o : n - 1 ≡ n). omega arith))

  -- the last node: where it is the end of the chain it has the Fake as its previous alternative too
  pub joined_last : chain_end n (at t) target ≢ n - 1
      → at (joined_table t n target e) (n - 1) ≡ linked_to (at t (n - 1)) n e
  joined_last h =
      last_from ∙ ap (λ (x : EstTime). linked_to x n e)
      (put_other t chain_last (with_prev_alt (at t chain_last) n) (n - 1) (λ (o : n - 1 ≡ chain_last). h (sym o)))

  pub joined_both : chain_end n (at t) target ≡ n - 1
      → at (joined_table t n target e) (n - 1) ≡ linked_to (with_prev_alt (at t (n - 1)) n) n e
  joined_both h =
      last_from
      ∙ ap (λ (x : EstTime). linked_to x n e) (ap (at one) (sym h)
      ∙ put_same t chain_last (with_prev_alt (at t chain_last) n) places r (omega (arith, last_is.within))
      ∙ ap (λ (i : ℕ). with_prev_alt (at t i) n) h)

  -- what a join leaves to each of the n nodes
  below : {A : Type 0} (f : EstTime → A) → ((x : EstTime) (k : ℕ) → f (with_prev_alt x k) ≡ f x)
      → ((x : EstTime) (k : ℕ) → f (linked_to x k e) ≡ f x) → (j : ℕ) → j < n
      → f (at (joined_table t n target e) j) ≡ f (at t j)
  below f p q j h =
      ap (λ (s : Table). f (at s j)) table_is
      ∙ kept_put f two (n - 1) (linked_to (at two (n - 1)) n e) places j two_room (omega arith) (q (at two (n - 1)) n)
      ∙ ap f (put_other one n (join_fake chain_last (n - 1)) j (λ (o : j ≡ n). omega arith))
      ∙ kept_put f t chain_last (with_prev_alt (at t chain_last) n) places j r (omega (arith, last_is.within))
      (p (at t chain_last) n)

  pub joined_events : (j : ℕ) → j < n → (at (joined_table t n target e) j).link_event ≡ (at t j).link_event
  unfolding linked_to
  joined_events = below (λ x. x.link_event) (λ x k. refl) (λ x k. refl)

  pub joined_speeds : (j : ℕ) → j < n → (at (joined_table t n target e) j).speed ≡ (at t j).speed
  unfolding linked_to
  joined_speeds = below (λ x. x.speed) (λ x k. refl) (λ x k. refl)

  -- ---- what it keeps

  one_fits : (j : ℕ) → j < n → Fits (at one j) j (n + 1)
  one_fits j h =
      let f = fits_at w chain_last (n + 1) last_is.within (omega arith) in
      fits_put t chain_last (with_prev_alt (at t chain_last) n) places (n + 1) j r (omega (arith, last_is.within))
      (record {
        next = f.next;
        next_alt = f.next_alt;
        prev = f.prev;
        prev_alt = omega arith;
        next_alt_rises = f.next_alt_rises;
        prev_alt_rises = λ o. last_is.within;
      })
      (λ d. fits_at w j (n + 1) h (omega arith))

  two_fits : (j : ℕ) → j < n + 1 → Fits (at two j) j (n + 1)
  unfolding join_fake
  two_fits j h =
      fits_put one n (join_fake chain_last (n - 1)) places (n + 1) j one_room g
      (record {
        next = omega (arith, last_is.within);
        next_alt = omega arith;
        prev = omega arith;
        prev_alt = omega arith;
        next_alt_rises = λ o. omega arith;
        prev_alt_rises = λ o. omega arith;
      })
      (λ (d : j ≢ n). one_fits j (less d))
    where
      less : (j ≡ n → ⊥) → j < n
      less d = omega arith

  pub joined_indexed : Indexed (at (joined_table t n target e)) (n + 1)
  unfolding linked_to
  joined_indexed =
      let f = two_fits (n - 1) (omega arith) in
      subst (λ (s : Table). Indexed (at s) (n + 1)) (sym table_is) (fits_indexed (λ j h.
      fits_put two (n - 1) (linked_to (at two (n - 1)) n e) places (n + 1) j two_room (omega arith)
      (record {
        next = omega arith;
        next_alt = f.next_alt;
        prev = f.prev;
        prev_alt = f.prev_alt;
        next_alt_rises = f.next_alt_rises;
        prev_alt_rises = f.prev_alt_rises;
      })
      (λ d. two_fits j h)))

  -- the cells say what the table has then
  pub joined_mapped : (c : List ℕ) (l : Layout) → n < l.places → Mapped c l (at t) n
      → Mapped c l (at (joined_table t n target e)) (n + 1)
  joined_mapped c l h v =
      mapped_fake (mapped_same (at t) (at (joined_table t n target e)) c l n (omega arith) joined_events v) h
      joined_fake_event
