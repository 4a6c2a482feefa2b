-- The start's last alternative: an event over a link of an origin to come goes from there to where it goes from the
-- start, since no alternative before it leads to such a link.
use mathlib.Core.Path.{◌≡◌, refl, sym, ap, ◌∙◌, subst}
use mathlib.Core.Logic.{◌⊎◌, inl, inr, ◌≢◌}
use mathlib.Core.Bool.{Bool, true, false}
use mathlib.Core.List.{List, ◌∷◌}
use Prim.Native.Nat.{ℕ, suc, ◌+◌, ◌-◌, ◌≤◌, ◌<◌}
use native.Mathlib.Omega.{arith}
use borrow.Author.Tests.{eq-eqb, ne_eqb}
use lib.Dec.{eqb, ltb}
use lib.Ieee.{Float}
use Rattle.laws.proofs.Truth.{equal_or_not}
use Rattle.book_format.specs.Format.{origin_link}
use Rattle.net_node.specs.declared.EstTime.{EstTime}
use Rattle.net_node.specs.declared.TimedEvent.{TimedEvent}
use Rattle.net_node.specs.declared.LinkEvent.{LinkEvent}
use Rattle.net_node.specs.Table.{Indexed, same_event, Table, at, with_next_alt}
use Rattle.net_insertion.specs.declared.Place.{Place}
use Rattle.net_insertion.specs.declared.Insertion.TheVariants.{Added}
use Rattle.net_insertion.specs.Insertion.{matches, found, seek, linked_to, split_fake, add_behind, split_at, place_at}
use Rattle.net_insertion.specs.Insertion.{added_as, inserted_as, table_as, sought_in, inserted, inserted_table}
use Rattle.net_insertion.proofs.Seeking.{seek_turn}
use Rattle.grow_origins.specs.Origins.{OtherLinks, place_on, LeadsFrom, OnlyStart}

-- ---- a turn of the search

-- events over different links do not match
not_matched : (join : Float) (e : TimedEvent) (n : EstTime) → n.link_event.link_idx ≢ e.link_event.link_idx
    → matches join e n ≡ false
unfolding matches same_event
not_matched join e n h = rw (ne_eqb n.link_event.link_idx e.link_event.link_idx h)

some_next : {m : ℕ} → 0 < m → m ≡ 0 → ⊥
some_next h e = omega arith

module _ (node : ℕ → EstTime) (join : Float) (e : TimedEvent) (i : ℕ) where
  -- node i leads to another link
  pub record Past : Type 0 where
    pub next : 0 < (node i).idx_next
    pub other : (node (node i).idx_next).link_event.link_idx ≢ e.link_event.link_idx

  -- a turn at a node without a next
  open_turn : (k : ℕ) → (node i).idx_next ≡ 0 → seek (suc k) node join e i ≡ found true true true i 0
      (seek k node join e i)
  open_turn k h = seek_turn k node join e i true _ _ (eq-eqb (node i).idx_next 0 h) refl refl

  -- a turn at a node that leads to another link
  past_turn : Past → (k : ℕ) (b : Bool) → eqb (node i).idx_next_alt 0 ≡ b
      → seek (suc k) node join e i ≡ found false false b i (node i).idx_next (seek k node join e (node i).idx_next_alt)
  past_turn h k b f = seek_turn k node join e i false false b (ne_eqb (node i).idx_next 0 (some_next h.next))
      (not_matched join e (node (node i).idx_next) h.other) f

  -- where the search stops one turn is enough
  pub open_stops : (node i).idx_next ≡ 0 → (k : ℕ) → seek (suc k) node join e i ≡ seek 1 node join e i
  open_stops h k = open_turn k h ∙ sym (open_turn 0 h)

  past_stops : Past → (node i).idx_next_alt ≡ 0 → (k : ℕ) → seek (suc k) node join e i ≡ seek 1 node join e i
  past_stops h z k = let f = eq-eqb (node i).idx_next_alt 0 z in past_turn h k true f ∙ sym (past_turn h 0 true f)

-- ---- what one turn inserts

module _ (t : Table) (n : ℕ) (join : Float) (p : Place) (e : TimedEvent) (i : ℕ)
    (stops : seek n (at t) join e p.idx_prev ≡ seek 1 (at t) join e i) where
  pub open_answer : (places : ℕ) (ended : ℕ → Bool) → (at t i).idx_next ≡ 0
      → inserted t n places ended join p e ≡ added_as (ltb n places) (ended i) (Added (place_at n e) false)
  unfolding inserted sought_in
  open_answer places ended h = ap (λ s. inserted_as s n places ended e) (stops ∙ open_turn (at t) join e i 0 h)

  pub open_table : (at t i).idx_next ≡ 0 → inserted_table t n join p e ≡ add_behind t i n e
  unfolding inserted_table sought_in
  open_table h = ap (λ s. table_as s t n p e) (stops ∙ open_turn (at t) join e i 0 h)

  pub past_answer : (places : ℕ) (ended : ℕ → Bool) → Past (at t) join e i → (at t i).idx_next_alt ≡ 0
      → inserted t n places ended join p e ≡ added_as (ltb (n + 1) places) false (Added (place_at (n + 1) e) true)
  unfolding inserted sought_in
  past_answer places ended h z = ap (λ s. inserted_as s n places ended e)
      (stops ∙ past_turn (at t) join e i h 0 true (eq-eqb (at t i).idx_next_alt 0 z))

  pub past_table : Past (at t) join e i → (at t i).idx_next_alt ≡ 0
      → inserted_table t n join p e ≡ add_behind (split_at t i n p) n (n + 1) e
  unfolding inserted_table sought_in
  past_table h z = ap (λ s. table_as s t n p e)
      (stops ∙ past_turn (at t) join e i h 0 true (eq-eqb (at t i).idx_next_alt 0 z))

-- a split's Fake does not name the place
fake_same : (t : Table) (i n : ℕ) (time offset : Float) (a b : ℕ)
    → split_at t i n (place_on time offset a) ≡ split_at t i n (place_on time offset b)
unfolding split_at split_fake
fake_same t i n time offset a b = refl

-- ---- the last alternative

-- a link of one of these origins: a link elsewhere is another
abbrev pub Comes : List ℕ → List ℕ → ℕ → Type 0
Comes b idxs l = (m : ℕ) → OtherLinks b m idxs → m ≢ l

pub comes_first : (b : List ℕ) (idx : ℕ) (idxs : List ℕ) (l : ℕ) → l ≡ origin_link b idx → Comes b (idx ∷ idxs) l
comes_first b idx idxs l e m o = λ (q : m ≡ l). o.0 (q ∙ e)

comes_later : (b : List ℕ) (idx : ℕ) (idxs : List ℕ) (l : ℕ) → Comes b idxs l → Comes b (idx ∷ idxs) l
comes_later b idx idxs l f m o = f m o.1

-- nodes that differ from a table's at most in one, and in no event
pub record Like (t : Table) (n last : ℕ) (node : ℕ → EstTime) : Type 0 where
  pub others : (i : ℕ) → i < n → i ≢ last → node i ≡ at t i
  pub events : (i : ℕ) → i < n → (node i).link_event ≡ (at t i).link_event

-- the start itself, before the first origin
pub record Alone (t : Table) (n last : ℕ) : Type 0 where
  pub two : n ≡ 2
  pub start : last ≡ 1
  pub no_next : (at t last).idx_next ≡ 0

-- then it leads to a link elsewhere
pub record Leading (b idxs : List ℕ) (t : Table) (n last : ℕ) : Type 0 where
  pub more : 2 < n
  pub next : 0 < (at t last).idx_next
  pub other : OtherLinks b (at t (at t last).idx_next).link_event.link_idx idxs

-- Node `last` is the start's last alternative, these origins being still to come: for each of their events the search
-- passes all alternatives before it.
pub record AtLast (b idxs : List ℕ) (t : Table) (n last : ℕ) : Type 0 where
  pub within : last < n
  pub no_alt : (at t last).idx_next_alt ≡ 0
  pub leads : Alone t n last ⊎ Leading b idxs t n last
  pub passed : ℕ
  pub fewer : passed < n
  pub skips : (node : ℕ → EstTime) → Like t n last node → (join : Float) (e : TimedEvent)
      → Comes b idxs e.link_event.link_idx → (k : ℕ) → seek (passed + k) node join e 1 ≡ seek k node join e last

pub at_start : (b idxs : List ℕ) (t : Table) (n : ℕ) → OnlyStart (at t) n → AtLast b idxs t n 1
at_start b idxs t n s = record {
  within = omega (arith, s.two);
  no_alt = s.no_alt;
  leads = inl (record { two = s.two; start = refl; no_next = s.no_next });
  passed = 0;
  fewer = omega (arith, s.two);
  skips = λ node like join e f k. ap (λ (m : ℕ). seek m node join e 1) (omega arith);
}

-- ---- what is found from there

module _ (b idxs : List ℕ) (t : Table) (n last : ℕ) (v : AtLast b idxs t n last) (join : Float) (e : TimedEvent)
    (comes : Comes b idxs e.link_event.link_idx) where
  pub last_past : Leading b idxs t n last → Past (at t) join e last
  last_past a = record { next = a.next; other = comes (at t (at t last).idx_next).link_event.link_idx a.other }

  last_stops : (k : ℕ) → seek (suc k) (at t) join e last ≡ seek 1 (at t) join e last
  last_stops = go v.leads
    where
      go : Alone t n last ⊎ Leading b idxs t n last → (k : ℕ)
          → seek (suc k) (at t) join e last ≡ seek 1 (at t) join e last
      go (inl a) = open_stops (at t) join e last a.no_next
      go (inr a) = past_stops (at t) join e last (last_past a) v.no_alt

  pub first_finds : seek n (at t) join e 1 ≡ seek 1 (at t) join e last
  first_finds =
      let k : n ≡ v.passed + suc (n - v.passed - 1) = omega (arith, v.fewer) in
      ap (λ (m : ℕ). seek m (at t) join e 1) k ∙ v.skips (at t)
      (record { others = λ i h d. refl; events = λ i h. refl }) join e comes (suc (n - v.passed - 1))
      ∙ last_stops (n - v.passed - 1)

  last_finds : seek n (at t) join e last ≡ seek 1 (at t) join e last
  last_finds = let k : n ≡ suc (n - 1) = omega (arith, v.within) in
      ap (λ (m : ℕ). seek m (at t) join e last) k ∙ last_stops (n - 1)

  last_answer : (places : ℕ) (ended : ℕ → Bool) (time offset : Float)
      → inserted t n places ended join (place_on time offset last) e ≡ inserted t n places ended join
      (place_on time offset 1) e
  unfolding inserted sought_in
  last_answer places ended time offset = ap (λ s. inserted_as s n places ended e) (last_finds ∙ sym first_finds)

  last_table : (time offset : Float) → inserted_table t n join (place_on time offset last) e ≡ inserted_table t n join
      (place_on time offset 1) e
  last_table time offset = go v.leads
    where
      go : Alone t n last ⊎ Leading b idxs t n last
          → inserted_table t n join (place_on time offset last) e ≡ inserted_table t n join (place_on time offset 1) e
      go (inl a) = open_table t n join (place_on time offset last) e last last_finds a.no_next
          ∙ sym (open_table t n join (place_on time offset 1) e last first_finds a.no_next)
      go (inr a) =
          past_table t n join (place_on time offset last) e last last_finds (last_past a) v.no_alt
          ∙ ap (λ (u : Table). add_behind u n (n + 1) e) (fake_same t last n time offset last 1)
          ∙ sym (past_table t n join (place_on time offset 1) e last first_finds (last_past a) v.no_alt)

pub leads_from : (b idxs : List ℕ) (t : Table) (n last link : ℕ) → AtLast b idxs t n last → Comes b idxs link
    → LeadsFrom t n last link
leads_from b idxs t n last link v f = record {
  within = v.within;
  answer = λ places ended join time offset e d.
      last_answer b idxs t n last v join e (subst (Comes b idxs) (sym d) f) places ended time offset;
  table = λ join time offset e d. last_table b idxs t n last v join e (subst (Comes b idxs) (sym d) f) time offset;
}

-- ---- after an origin

module _ (b : List ℕ) (idx : ℕ) (idxs : List ℕ) (t : Table) (n last : ℕ) (v : AtLast b (idx ∷ idxs) t n last)
    (u : Table) (e : TimedEvent) (apart : OtherLinks b e.link_event.link_idx idxs)
    (others : (i : ℕ) → i < n → i ≢ last → at u i ≡ at t i) where
  -- what is like the table then is like the table before
  like_before : (m last' : ℕ) (node : ℕ → EstTime) → n ≤ m → ((i : ℕ) → i < n → i ≢ last → i ≢ last')
      → (at u last).link_event ≡ (at t last).link_event → Like u m last' node → Like t n last node
  like_before m last' node h d same like = record {
    others = λ i l o. like.others i (omega arith) (d i l o) ∙ others i l o;
    events = λ i l. like.events i (omega arith) ∙ event i l (equal_or_not i last);
  }
    where
      event : (i : ℕ) → i < n → (i ≡ last) ⊎ (i ≡ last → ⊥) → (at u i).link_event ≡ (at t i).link_event
      event i l (inl o) = ap (λ (j : ℕ). (at u j).link_event) o ∙ same ∙ ap (λ (j : ℕ). (at t j).link_event) (sym o)
      event i l (inr o) = ap (λ (x : EstTime). x.link_event) (others i l o)

  -- the Arrive is behind the start itself
  module _ (m : ℕ) (grows : n < m) (led : at u last ≡ linked_to (at t last) n e)
      (event : (at u n).link_event ≡ e.link_event) where
    behind_next : (at u last).idx_next ≡ n
    unfolding linked_to
    behind_next = ap (λ (x : EstTime). x.idx_next) led

    behind_alt : (at u last).idx_next_alt ≡ 0
    unfolding linked_to
    behind_alt = ap (λ (x : EstTime). x.idx_next_alt) led ∙ v.no_alt

    behind_event : (at u last).link_event ≡ (at t last).link_event
    unfolding linked_to
    behind_event = ap (λ (x : EstTime). x.link_event) led

    pub last_behind : 2 ≤ n → AtLast b idxs u m last
    last_behind two = record {
      within = omega (arith, v.within);
      no_alt = behind_alt;
      leads = inr (record {
        more = omega arith;
        next = omega (arith, behind_next);
        other = subst (λ (l : ℕ). OtherLinks b l idxs)
            (sym (ap (λ (j : ℕ). (at u j).link_event.link_idx) behind_next ∙ ap (λ (x : LinkEvent). x.link_idx) event))
            apart;
      });
      passed = v.passed;
      fewer = omega (arith, v.fewer);
      skips = λ node like join f c k. v.skips node (like_before m last node (omega arith)
          (λ i l o. o) behind_event like) join f (comes_later b idx idxs f.link_event.link_idx c) k;
    }

  -- it is behind a Fake, the alternative that follows
  module _ (m : ℕ) (grows : n + 1 < m) (p : Place) (leading : Leading b (idx ∷ idxs) t n last)
      (indexed : Indexed (at t) n) (led : at u last ≡ with_next_alt (at t last) n)
      (fake : at u n ≡ linked_to (split_fake p last) (n + 1) e) (event : (at u (n + 1)).link_event ≡ e.link_event) where
    fake_next : (at u n).idx_next ≡ n + 1
    unfolding linked_to
    fake_next = ap (λ (x : EstTime). x.idx_next) fake

    fake_alt : (at u n).idx_next_alt ≡ 0
    unfolding linked_to split_fake
    fake_alt = ap (λ (x : EstTime). x.idx_next_alt) fake

    split_event : (at u last).link_event ≡ (at t last).link_event
    split_event = ap (λ (x : EstTime). x.link_event) led

    -- one alternative more is passed
    module _ (node : ℕ → EstTime) (like : Like u m n node) (join : Float) (f : TimedEvent)
        (c : Comes b idxs f.link_event.link_idx) where
      there : node last ≡ with_next_alt (at t last) n
      there = like.others last (omega (arith, v.within)) (λ (o : last ≡ n). omega (arith, v.within)) ∙ led

      there_next : (node last).idx_next ≡ (at t last).idx_next
      there_next = ap (λ (x : EstTime). x.idx_next) there

      there_alt : (node last).idx_next_alt ≡ n
      there_alt = ap (λ (x : EstTime). x.idx_next_alt) there

      before : Like t n last node
      before = like_before m n node (omega arith) (λ i l o (q : i ≡ n). omega arith) split_event like

      there_other : (node (node last).idx_next).link_event.link_idx ≢ f.link_event.link_idx
      there_other =
          let x : (node (node last).idx_next).link_event ≡ (at t (at t last).idx_next).link_event =
          ap (λ (j : ℕ). (node j).link_event) there_next
          ∙ before.events (at t last).idx_next (indexed.next last v.within) in
          λ (q : (node (node last).idx_next).link_event.link_idx ≡ f.link_event.link_idx). comes_later b idx idxs
          f.link_event.link_idx c (at t (at t last).idx_next).link_event.link_idx leading.other
          (sym (ap (λ (y : LinkEvent). y.link_idx) x) ∙ q)

      past : (k : ℕ) → seek (suc v.passed + k) node join f 1 ≡ seek k node join f n
      past k =
          let s : suc v.passed + k ≡ v.passed + suc k = omega arith in
          ap (λ (j : ℕ). seek j node join f 1) s
          ∙ v.skips node before join f (comes_later b idx idxs f.link_event.link_idx c) (suc k)
          ∙ past_turn node join f last (record { next = omega (arith, leading.next, there_next); other = there_other })
          k false (ne_eqb (node last).idx_next_alt 0 (λ (o : (node last).idx_next_alt ≡ 0). omega
          (arith, there_alt, leading.more)))
          ∙ ap (λ (j : ℕ). seek k node join f j) there_alt

    pub last_split : AtLast b idxs u m n
    last_split = record {
      within = omega arith;
      no_alt = fake_alt;
      leads = inr (record {
        more = omega (arith, leading.more);
        next = omega (arith, fake_next);
        other = subst (λ (l : ℕ). OtherLinks b l idxs)
            (sym (ap (λ (j : ℕ). (at u j).link_event.link_idx) fake_next ∙ ap (λ (x : LinkEvent). x.link_idx) event))
            apart;
      });
      passed = suc v.passed;
      fewer = omega (arith, v.fewer);
      skips = past;
    }
