-- What a caller may know of an insertion: where the place found lies, which nodes are written and which are left alone,
-- and that the network stays indexed.
use mathlib.Core.Path.{◌≡◌, refl, sym, ap, ◌∙◌, subst}
use mathlib.Core.Logic.{◌≢◌}
use mathlib.Core.Bool.{Bool, true, false}
use mathlib.Core.List.{List}
use Prim.Native.Nat.{ℕ, ◌+◌, ◌≤◌, ◌<◌}
use native.Mathlib.Omega.{arith}
use borrow.Author.Tests.{ltb-true}
use lib.Dec.{ltb}
use lib.Ieee.{Float}
use Rattle.net_node.proofs.Tables.{RoomIn}
use Rattle.net_node.specs.declared.EstTime.{EstTime}
use Rattle.net_node.specs.declared.TimedEvent.{TimedEvent}
use Rattle.net_node.specs.Table.{node_at, Indexed, Table, at, with_next_alt}
use Rattle.net_insertion.specs.declared.Place.{Place}
use Rattle.net_insertion.specs.declared.Seek.{Seek}
use Rattle.net_insertion.specs.declared.Seek.TheVariants.{Open, Match, Split}
use Rattle.std.specs.Prelude.{Result, Ok, Err}
use Rattle.refusals.specs.declared.Refusal.{Refusal}
use Rattle.net_insertion.specs.declared.Insertion.{Insertion}
use Rattle.net_insertion.specs.declared.Insertion.TheVariants.{Added, Moved}
use Rattle.net_insertion.specs.Insertion.{matches, linked_to, event_node, split_fake, add_behind, split_at, place_at}
use Rattle.net_insertion.specs.Insertion.{added_as, inserted_as, table_as, sought_in, inserted, inserted_table}
use Rattle.net_insertion.specs.Insertion.{InsertedInto}
use Rattle.net_insertion.proofs.Seeking.{Found, sought_found}
use Rattle.net_insertion.proofs.Puts.{add_found, add_new, add_indexed, add_other, add_room, split_found, split_new}
use Rattle.net_insertion.proofs.Puts.{split_indexed, split_other, split_room}

-- a table's nodes, as contracts name them
pub at_is : (t : Table) → at t ≡ node_at t.floats t.numbers
unfolding at
at_is t = refl

-- the place found is a node
pub place_found : (t : Table) (n : ℕ) (join : Float) (p : Place) (e : TimedEvent) → Indexed (at t) n → p.idx_prev < n
    → Found (at t) n join e (sought_in t n join p e)
unfolding sought_in
place_found t n join p e w h = sought_found (at t) n join e p.idx_prev (sought_in t n join p e) refl w h

-- two tests for a finished run's event that agree on the nodes give one answer
pub inserted_same : (t : Table) (n places : ℕ) (f g : ℕ → Bool) (join : Float) (p : Place) (e : TimedEvent)
    → Indexed (at t) n → p.idx_prev < n → ((i : ℕ) → i < n → f i ≡ g i)
    → inserted t n places f join p e ≡ inserted t n places g join p e
unfolding inserted
inserted_same t n places f g join p e w h s = go (sought_in t n join p e) (place_found t n join p e w h)
  where
    go : (x : Seek) → Found (at t) n join e x → inserted_as x n places f e ≡ inserted_as x n places g e
    go (Match i) l = refl
    go (Open i) l = ap (λ (b : Bool). added_as (ltb n places) b (Added (place_at n e) false)) (s i l.0)
    go (Split i) l = refl

-- ---- the table after each way to insert

-- m nodes in so many places, indexed; the place is the last node
pub record Grown (t : Table) (m places : ℕ) (q : Place) : Type 0 where
  pub indexed : Indexed (at t) m
  pub last : q.idx_prev + 1 ≡ m
  pub room : m ≤ places

-- how many nodes an addition adds, by whether it splits
abbrev pub more : Bool → ℕ
more false = 1
more true = 2

module _ (t : Table) (n places : ℕ) (ended : ℕ → Bool) (join : Float) (p : Place) (e : TimedEvent) where
  -- the run moved to a node that is there
  pub record MovedTo (after : Table) (q : Place) : Type 0 where
    pub sought : sought_in t n join p e ≡ Match q.idx_prev
    pub place : q ≡ place_at q.idx_prev e
    pub within : q.idx_prev < n
    pub some : 0 < q.idx_prev
    pub same : matches join e (at t q.idx_prev) ≡ true
    pub table : after ≡ t

  -- the event was added behind a node without a next
  pub record AddedBehind (after : Table) (q : Place) : Type 0 where
    pub node : ℕ
    pub sought : sought_in t n join p e ≡ Open node
    pub place : q ≡ place_at n e
    pub within : node < n
    pub no_next : (at t node).idx_next ≡ 0
    pub no_end : ended node ≡ false
    pub found : at after node ≡ linked_to (at t node) n e
    pub added : at after n ≡ event_node e node
    pub others : (j : ℕ) → j ≢ node → j ≢ n → at after j ≡ at t j
    pub grown : Grown after (n + 1) places q

  -- the event was added behind a Fake, which is a node's new alternative
  pub record AddedBySplit (after : Table) (q : Place) : Type 0 where
    pub node : ℕ
    pub sought : sought_in t n join p e ≡ Split node
    pub place : q ≡ place_at (n + 1) e
    pub within : node < n
    pub next : 0 < (at t node).idx_next
    pub no_alt : (at t node).idx_next_alt ≡ 0
    pub found : at after node ≡ with_next_alt (at t node) n
    pub fake : at after n ≡ linked_to (split_fake p node) (n + 1) e
    pub added : at after (n + 1) ≡ event_node e n
    pub others : (j : ℕ) → j ≢ node → j ≢ n → j ≢ n + 1 → at after j ≡ at t j
    pub grown : Grown after (n + 2) places q

  abbrev pub Kept : Table → Result Insertion Refusal → Type 0
  Kept after (Ok (Moved q)) = MovedTo after q
  Kept after (Ok (Added q false)) = AddedBehind after q
  Kept after (Ok (Added q true)) = AddedBySplit after q
  Kept after (Err r) = Unit

  pub added_grown : (after : Table) (q : Place) (split : Bool) → Kept after (Ok (Added q split))
      → Grown after (n + more split) places q
  added_grown after q false k = k.grown
  added_grown after q true k = k.grown

  pub inserted_room : RoomIn t places → RoomIn (inserted_table t n join p e) places
  unfolding inserted_table
  inserted_room r = go (sought_in t n join p e)
    where
      go : (s : Seek) → RoomIn (table_as s t n p e) places
      go (Match i) = r
      go (Open i) = add_room t i n e places r
      go (Split i) = add_room (split_at t i n p) n (n + 1) e places (split_room t i n p places r)

  module _ (r : RoomIn t places) (w : Indexed (at t) n) (h : p.idx_prev < n) where
    moved : (i : ℕ) → sought_in t n join p e ≡ Match i → Found (at t) n join e (Match i) → MovedTo t (place_at i e)
    unfolding place_at
    moved i s f = record { sought = s; place = refl; within = f.0; some = f.1.0; same = f.1.1; table = refl }

    opened : (i : ℕ) → sought_in t n join p e ≡ Open i → Found (at t) n join e (Open i) → n < places → ended i ≡ false
        → AddedBehind (add_behind t i n e) (place_at n e)
    unfolding place_at
    opened i s f g d = record {
      node = i;
      sought = s;
      place = refl;
      within = f.0;
      no_next = f.1;
      no_end = d;
      found = add_found t i n places r w f.0 g e;
      added = add_new t i n places r w f.0 g e;
      others = add_other t i n e;
      grown = record { indexed = add_indexed t i n places r w f.0 g e; last = refl; room = omega arith };
    }

    divided : (i : ℕ) → sought_in t n join p e ≡ Split i → Found (at t) n join e (Split i) → n + 1 < places
        → AddedBySplit (add_behind (split_at t i n p) n (n + 1) e) (place_at (n + 1) e)
    unfolding place_at
    divided i s f g =
        let half : Table = split_at t i n p in
        let l : n < places = omega arith in
        let k : n < n + 1 = omega arith in
        let v : RoomIn half places = split_room t i n p places r in
        let x : Indexed (at half) (n + 1) = split_indexed t i n places r w f.0 l p in
        record {
          node = i;
          sought = s;
          place = refl;
          within = f.0;
          next = f.1.0;
          no_alt = f.1.1;
          found =
              add_other half n (n + 1) e i (λ (o : i ≡ n). omega (arith, f.0)) (λ (o : i ≡ n + 1). omega (arith, f.0))
              ∙ split_found t i n places r w f.0 l p;
          fake = add_found half n (n + 1) places v x k g e
              ∙ ap (λ (z : EstTime). linked_to z (n + 1) e) (split_new t i n places r w f.0 l p);
          added = add_new half n (n + 1) places v x k g e;
          others = λ j a b c. add_other half n (n + 1) e j b c ∙ split_other t i n p j a b;
          grown = record {
            indexed =
                subst (Indexed (at (add_behind half n (n + 1) e))) (omega arith)
                (add_indexed half n (n + 1) places v x k g e);
            last = omega arith;
            room = omega arith;
          };
        }

    -- what holds after an insertion, by its answer
    pub inserted_kept : Kept (inserted_table t n join p e) (inserted t n places ended join p e)
    unfolding inserted_table inserted
    inserted_kept = go (sought_in t n join p e) refl (place_found t n join p e w h)
      where
        behind : (i : ℕ) → sought_in t n join p e ≡ Open i → Found (at t) n join e (Open i) → (a b : Bool)
            → ltb n places ≡ a → ended i ≡ b → Kept (add_behind t i n e) (added_as a b (Added (place_at n e) false))
        behind i s f false b c d = tt
        behind i s f true true c d = tt
        behind i s f true false c d = opened i s f (ltb-true n places c) d

        split : (i : ℕ) → sought_in t n join p e ≡ Split i → Found (at t) n join e (Split i) → (a : Bool)
            → ltb (n + 1) places ≡ a
            → Kept (add_behind (split_at t i n p) n (n + 1) e) (added_as a false (Added (place_at (n + 1) e) true))
        split i s f false c = tt
        split i s f true c = divided i s f (ltb-true (n + 1) places c)

        go : (s : Seek) → sought_in t n join p e ≡ s → Found (at t) n join e s
            → Kept (table_as s t n p e) (inserted_as s n places ended e)
        go (Match i) s f = moved i s f
        go (Open i) s f = behind i s f (ltb n places) (ended i) refl refl
        go (Split i) s f = split i s f (ltb (n + 1) places) refl

    pub kept_as : (a : Result Insertion Refusal) → inserted t n places ended join p e ≡ a
        → Kept (inserted_table t n join p e) a
    kept_as a f = subst (Kept (inserted_table t n join p e)) f inserted_kept

    pub grown_as : (q : Place) (split : Bool) → inserted t n places ended join p e ≡ Ok (Added q split)
        → Grown (inserted_table t n join p e) (n + more split) places q
    grown_as q split f = added_grown (inserted_table t n join p e) q split (kept_as (Ok (Added q split)) f)

    -- the same from what the function promises
    pub call_kept : (fs : List Float) (us : List ℕ) (a : Result Insertion Refusal)
        → a ≡ inserted t n places ended join p e → InsertedInto t n join p e fs us a
        → Kept (record { floats = fs; numbers = us }) a
    call_kept fs us a f = go a (kept_as a (sym f))
      where
        same : (fs ≡ (inserted_table t n join p e).floats) × (us ≡ (inserted_table t n join p e).numbers)
            → ◌≡◌ {A = Table} (inserted_table t n join p e) (record { floats = fs; numbers = us })
        same l = λ k. record { floats = sym l.0 k; numbers = sym l.1 k }

        go : (a : Result Insertion Refusal) → Kept (inserted_table t n join p e) a → InsertedInto t n join p e fs us a
            → Kept (record { floats = fs; numbers = us }) a
        go (Ok (Moved q)) v l = subst (λ (x : Table). Kept x (Ok (Moved q))) (same l) v
        go (Ok (Added q false)) v l = subst (λ (x : Table). Kept x (Ok (Added q false))) (same l) v
        go (Ok (Added q true)) v l = subst (λ (x : Table). Kept x (Ok (Added q true))) (same l) v
        go (Err r) v l = tt
