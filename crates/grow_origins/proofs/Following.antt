-- The start's last alternative after an origin, by what insertion wrote: the Arrive is behind the start itself, or
-- behind a Fake, which is the last alternative then; the Clear is behind the Arrive.
use mathlib.Core.Path.{◌≡◌, refl, sym, ap, ◌∙◌, subst}
use mathlib.Core.Logic.{◌⊎◌, inl, inr, ◌≢◌}
use mathlib.Core.Bool.{Bool, true, false}
use mathlib.Core.List.{List, ◌∷◌}
use Prim.{Unit, tt}
use Prim.Native.Nat.{ℕ, suc, ◌+◌, ◌-◌, ◌<◌}
use native.Mathlib.Omega.{arith}
use borrow.Author.Tests.{ltb-true}
use lib.Dec.{ltb}
use lib.Ieee.{Float}
use Rattle.net_node.proofs.Tables.{RoomIn}
use Rattle.laws.specs.Answer.{Answer, refused, given, and_then}
use Rattle.book_format.specs.Format.{origin_link}
use Rattle.net_node.specs.declared.EstTime.{EstTime}
use Rattle.net_node.specs.declared.TimedEvent.{TimedEvent}
use Rattle.net_node.specs.Table.{Indexed, Table, at, with_next_alt}
use Rattle.net_insertion.specs.declared.Place.{Place}
use Rattle.std.specs.Prelude.{Result}
use Rattle.refusals.specs.declared.Refusal.{Refusal}
use Rattle.net_insertion.specs.declared.Insertion.{Insertion}
use Rattle.net_insertion.specs.declared.Insertion.TheVariants.{Added}
use Rattle.net_insertion.specs.Insertion.{seek, linked_to, event_node, split_fake, add_behind, split_at, place_at}
use Rattle.net_insertion.specs.Insertion.{added_as, inserted, inserted_table}
use Rattle.net_insertion.proofs.Puts.{add_found, add_new, add_indexed, add_other, add_room, split_found, split_new}
use Rattle.net_insertion.proofs.Puts.{split_indexed, split_other, split_room}
use Rattle.grow_rules.specs.Run.{Net, Run, After, added_to, moved_to, member_of, inserted_run, insert_event}
use Rattle.grow_rules.specs.Growth.{Growth, join_gap, origin_event, origin_run, seek_leg, grow_origin, origin_clear}
use Rattle.grow_rules.specs.Growth.{origin_arrive}
use Rattle.grow_origins.specs.Origins.{OtherLinks}
use Rattle.grow_origins.proofs.Starting.{AtLast, Alone, Leading, Comes, comes_first, first_finds, last_past, open_stops}
use Rattle.grow_origins.proofs.Starting.{open_answer, open_table, past_answer, past_table, last_behind, last_split}
use Rattle.grow_origins.proofs.OriginEvents.{Filled, arrived, clears}

-- ---- an addition's answer

-- the network and the run then
record Gave (t : Table) (q : Place) (a : After) : Type 0 where
  table : a.net.table ≡ t
  nodes : a.net.nodes ≡ suc q.idx_prev
  place : a.run.place ≡ q

abbrev after_in : After → Answer After → After
after_in d (given x) = x
after_in d (refused n) = d

gave_as : (net : Net) (run : Run) (e : TimedEvent) (t : Table) (x y : Bool) (q : Place) (split : Bool) (a : After)
    → inserted_run net run e t (added_as x y (Added q split)) ≡ given a → (x ≡ true) × Gave t q a
unfolding added_to moved_to
gave_as net run e t false y q split a h = absurd (subst Filled (sym h) tt)
gave_as net run e t true true q split a h = absurd (subst Filled (sym h) tt)
gave_as net run e t true false q split a h = let s = ap (after_in a) (sym h) in (
  refl,
  record {
    table = ap (λ (z : After). z.net.table) s;
    nodes = ap (λ (z : After). z.net.nodes) s;
    place = ap (λ (z : After). z.run.place) s;
  },
)

event_gave : (places : ℕ) (join : Float) (net : Net) (run : Run) (e : TimedEvent) (x y : Bool) (q : Place)
    (split : Bool) (a : After)
    → inserted net.table net.nodes places (member_of net.ends) join run.place e ≡ added_as x y (Added q split)
    → insert_event places join net run e ≡ given a
    → (x ≡ true) × Gave (inserted_table net.table net.nodes join run.place e) q a
unfolding insert_event
event_gave places join net run e x y q split a i h =
    gave_as net run e (inserted_table net.table net.nodes join run.place e) x y q split a
    (sym (ap (λ (z : Result Insertion Refusal). inserted_run net run e
    (inserted_table net.table net.nodes join run.place e) z) i) ∙ h)

-- ---- an event behind a node

record Behind (t : Table) (n places i : ℕ) (e : TimedEvent) (u : Table) : Type 0 where
  found : at u i ≡ linked_to (at t i) n e
  new : at u n ≡ event_node e i
  others : (j : ℕ) → j ≢ i → j ≢ n → at u j ≡ at t j
  indexed : Indexed (at u) (n + 1)
  room : RoomIn u places

-- an event behind a Fake, which is node i's alternative
record BehindFake (t : Table) (n places i : ℕ) (p : Place) (e : TimedEvent) (u : Table) : Type 0 where
  found : at u i ≡ with_next_alt (at t i) n
  fake : at u n ≡ linked_to (split_fake p i) (n + 1) e
  new : at u (n + 1) ≡ event_node e n
  others : (j : ℕ) → j ≢ i → j ≢ n → j ≢ n + 1 → at u j ≡ at t j
  indexed : Indexed (at u) (n + 1 + 1)
  room : RoomIn u places

module _ (t : Table) (n places i : ℕ) (room : RoomIn t places) (indexed : Indexed (at t) n) (within : i < n)
    (e : TimedEvent) (u : Table) where
  behind_is : n < places → u ≡ add_behind t i n e → Behind t n places i e u
  behind_is g s = subst (Behind t n places i e) (sym s) (record {
    found = add_found t i n places room indexed within g e;
    new = add_new t i n places room indexed within g e;
    others = add_other t i n e;
    indexed = add_indexed t i n places room indexed within g e;
    room = add_room t i n e places room;
  })

  fake_is : (p : Place) → n + 1 < places → u ≡ add_behind (split_at t i n p) n (n + 1) e → BehindFake t n places i p e u
  fake_is p g s =
      let half : Table = split_at t i n p in
      let l : n < places = omega arith in
      let k : n < n + 1 = omega arith in
      let v : RoomIn half places = split_room t i n p places room in
      let w : Indexed (at half) (n + 1) = split_indexed t i n places room indexed within l p in
      subst (BehindFake t n places i p e) (sym s) (record {
        found = add_other half n (n + 1) e i (λ (o : i ≡ n). omega (arith, within))
            (λ (o : i ≡ n + 1). omega (arith, within)) ∙ split_found t i n places room indexed within l p;
        fake = add_found half n (n + 1) places v w k g e
            ∙ ap (λ (z : EstTime). linked_to z (n + 1) e) (split_new t i n places room indexed within l p);
        new = add_new half n (n + 1) places v w k g e;
        others = λ j a b c. add_other half n (n + 1) e j b c ∙ split_other t i n p j a b;
        indexed = add_indexed half n (n + 1) places v w k g e;
        room = add_room half n (n + 1) e places v;
      })

-- the Clear is behind node i, which has no next
module _ (places : ℕ) (join : Float) (net : Net) (run : Run) (e : TimedEvent) (a : After)
    (h : insert_event places join net run e ≡ given a) (n i : ℕ) (many : net.nodes ≡ n)
    (stands : run.place.idx_prev ≡ i) (within : i < n)
    (room : RoomIn net.table places) (indexed : Indexed (at net.table) n)
    (no_next : (at net.table i).idx_next ≡ 0) where
  record Cleared : Type 0 where
    nodes : a.net.nodes ≡ n + 1
    behind : Behind net.table n places i e a.net.table

  cleared : Cleared
  unfolding place_at
  cleared =
      let k : net.nodes ≡ suc (net.nodes - 1) = omega (arith, many) in
      let s : seek net.nodes (at net.table) join e run.place.idx_prev ≡ seek 1 (at net.table) join e i =
      ap (λ (j : ℕ). seek net.nodes (at net.table) join e j) stands
      ∙ ap (λ (m : ℕ). seek m (at net.table) join e i) k
      ∙ open_stops (at net.table) join e i no_next (net.nodes - 1) in
      let g = event_gave places join net run e (ltb net.nodes places) (member_of net.ends i)
      (place_at net.nodes e) false a (open_answer net.table net.nodes join run.place e i s places
      (member_of net.ends) no_next) h in
      let f : net.nodes < places = ltb-true net.nodes places g.0 in
      record {
        nodes = omega (arith, g.1.nodes, many);
        behind = behind_is net.table n places i room indexed within e a.net.table (omega (arith, f, many))
            (g.1.table ∙ open_table net.table net.nodes join run.place e i s no_next
            ∙ ap (λ (m : ℕ). add_behind net.table i m e) many);
      }

-- ---- both events of an origin

new_open : (e : TimedEvent) (i : ℕ) → (event_node e i).idx_next ≡ 0
unfolding event_node
new_open e i = refl

led_event : (x : EstTime) (n : ℕ) (e : TimedEvent) → (linked_to x n e).link_event ≡ x.link_event
unfolding linked_to
led_event x n e = refl

new_event : (e : TimedEvent) (i : ℕ) → (event_node e i).link_event ≡ e.link_event
unfolding event_node
new_event e i = refl

module _ (b : List ℕ) (places idx : ℕ) (idxs : List ℕ) (net : Net) (last link : ℕ)
    (v : AtLast b (idx ∷ idxs) net.table net.nodes last) (room : RoomIn net.table places)
    (indexed : Indexed (at net.table) net.nodes)
    (named : link ≡ origin_link b idx) (apart : OtherLinks b link idxs) (mid : After)
    (first : arrived b places link net ≡ given mid) (a : After) (second : clears b places link net mid ≡ given a) where
  abbrev arrive : TimedEvent
  arrive = origin_arrive b link

  abbrev clear : TimedEvent
  clear = origin_clear b link

  link_is : arrive.link_event.link_idx ≡ link
  unfolding origin_event
  link_is = refl

  elsewhere : OtherLinks b arrive.link_event.link_idx idxs
  elsewhere = subst (λ (l : ℕ). OtherLinks b l idxs) (sym link_is) apart

  comes : Comes b (idx ∷ idxs) arrive.link_event.link_idx
  comes = comes_first b idx idxs arrive.link_event.link_idx (link_is ∙ named)

  finds : seek net.nodes (at net.table) (join_gap b) arrive (origin_run b).place.idx_prev ≡ seek 1 (at net.table)
      (join_gap b) arrive last
  unfolding origin_run
  finds = first_finds b (idx ∷ idxs) net.table net.nodes last v (join_gap b) arrive comes

  -- the Arrive's node k is there and has no next: the Clear is behind it
  module _ (n k : ℕ) (many : mid.net.nodes ≡ n) (stands : mid.run.place.idx_prev ≡ k) (within : k < n) (prev : ℕ)
      (is : at mid.net.table k ≡ event_node arrive prev) (room' : RoomIn mid.net.table places)
      (woven' : Indexed (at mid.net.table) n) where
    then_cleared : Cleared places (join_gap b) mid.net mid.run clear a second n k many stands within room' woven'
        (ap (λ (x : EstTime). x.idx_next) is ∙ new_open arrive prev)
    then_cleared = cleared places (join_gap b) mid.net mid.run clear a second n k many stands within room' woven'
        (ap (λ (x : EstTime). x.idx_next) is ∙ new_open arrive prev)

    arrive_kept : (at a.net.table k).link_event ≡ arrive.link_event
    arrive_kept =
        ap (λ (x : EstTime). x.link_event) then_cleared.behind.found ∙ led_event (at mid.net.table k) n clear
        ∙ ap (λ (x : EstTime). x.link_event) is ∙ new_event arrive prev

  -- the first origin
  behind_start : Alone net.table net.nodes last → AtLast b idxs a.net.table a.net.nodes last
  unfolding place_at
  behind_start x =
      let n : ℕ = net.nodes in
      let g = event_gave places (join_gap b) net (origin_run b) arrive (ltb n places) (member_of net.ends last)
      (place_at n arrive) false mid (open_answer net.table n (join_gap b)
      (origin_run b).place arrive last finds places (member_of net.ends) x.no_next) first in
      let f : n < places = ltb-true n places g.0 in
      let d : Behind net.table n places last arrive mid.net.table =
      behind_is net.table n places last room indexed v.within arrive mid.net.table f
      (g.1.table ∙ open_table net.table n (join_gap b) (origin_run b).place arrive last finds x.no_next) in
      let many : mid.net.nodes ≡ n + 1 = omega (arith, g.1.nodes) in
      let stands : mid.run.place.idx_prev ≡ n = ap (λ (q : Place). q.idx_prev) g.1.place in
      let within : n < n + 1 = omega arith in
      let c = then_cleared (n + 1) n many stands within last d.new d.room d.indexed in
      let kept : (j : ℕ) → j < n → at a.net.table j ≡ at mid.net.table j =
      λ j l. c.behind.others j (λ (o : j ≡ n). omega arith) (λ (o : j ≡ n + 1). omega arith) in
      last_behind b idx idxs net.table n last v a.net.table arrive elsewhere
      (λ i l o. kept i l ∙ d.others i o (λ (q : i ≡ n). omega arith)) a.net.nodes (omega (arith, c.nodes))
      (kept last v.within ∙ d.found)
      (arrive_kept (n + 1) n many stands within last d.new d.room d.indexed) (omega (arith, x.two))

  -- a later one
  behind_split : Leading b (idx ∷ idxs) net.table net.nodes last → AtLast b idxs a.net.table a.net.nodes net.nodes
  unfolding place_at
  behind_split x =
      let n : ℕ = net.nodes in
      let p : Place = (origin_run b).place in
      let y = last_past b (idx ∷ idxs) net.table n last v (join_gap b) arrive comes x in
      let g = event_gave places (join_gap b) net (origin_run b) arrive (ltb (n + 1) places) false
      (place_at (n + 1) arrive) true mid (past_answer net.table n (join_gap b) p arrive last finds places
      (member_of net.ends) y v.no_alt) first in
      let f : n + 1 < places = ltb-true (n + 1) places g.0 in
      let d : BehindFake net.table n places last p arrive mid.net.table =
      fake_is net.table n places last room indexed v.within arrive mid.net.table p f
      (g.1.table ∙ past_table net.table n (join_gap b) p arrive last finds y v.no_alt) in
      let many : mid.net.nodes ≡ n + 1 + 1 = omega (arith, g.1.nodes) in
      let stands : mid.run.place.idx_prev ≡ n + 1 = ap (λ (q : Place). q.idx_prev) g.1.place in
      let within : n + 1 < n + 1 + 1 = omega arith in
      let c = then_cleared (n + 1 + 1) (n + 1) many stands within n d.new d.room d.indexed in
      let kept : (j : ℕ) → j < n + 1 → at a.net.table j ≡ at mid.net.table j =
      λ j l. c.behind.others j (λ (o : j ≡ n + 1). omega arith) (λ (o : j ≡ n + 1 + 1). omega arith) in
      last_split b idx idxs net.table n last v a.net.table arrive elsewhere
      (λ i l o. kept i (omega arith) ∙ d.others i o (λ (q : i ≡ n). omega arith) (λ (q : i ≡ n + 1). omega arith))
      a.net.nodes (omega (arith, c.nodes)) p x indexed
      (kept last (omega (arith, v.within)) ∙ d.found) (kept n (omega arith) ∙ d.fake)
      (arrive_kept (n + 1 + 1) (n + 1) many stands within n d.new d.room d.indexed)

  last_follows : (next : ℕ) → (net.nodes ≡ 2 → next ≡ 1) → (net.nodes ≢ 2 → next ≡ net.nodes)
      → AtLast b idxs a.net.table a.net.nodes next
  last_follows next one more = go v.leads
    where
      go : Alone net.table net.nodes last ⊎ Leading b (idx ∷ idxs) net.table net.nodes last
          → AtLast b idxs a.net.table a.net.nodes next
      go (inl x) = subst (AtLast b idxs a.net.table a.net.nodes) (x.start ∙ sym (one x.two)) (behind_start x)
      go (inr x) = subst (AtLast b idxs a.net.table a.net.nodes)
          (sym (more (λ (o : net.nodes ≡ 2). omega (arith, x.more)))) (behind_split x)

-- ---- an origin that was inserted

-- what it was inserted by
record OriginBy (x : Answer After) (f : After → Answer After) (growth : Growth) : Type 0 where
  mid : After
  first : x ≡ given mid
  after : After
  second : f mid ≡ given after
  net : growth.net ≡ after.net

abbrev Grew : Answer Growth → Type 0
Grew (given x) = Unit
Grew (refused n) = ⊥

abbrev net_in : Net → Answer Growth → Net
net_in d (given x) = x.net
net_in d (refused n) = d

origin_by : (x : Answer After) (f : After → Answer After) (legs : After → Answer Run) (runs : List Run)
    (growth : Growth)
    → and_then x (λ (y : After). and_then (f y) (λ (c : After). and_then (legs c)
    (λ (r : Run). given (record { net = c.net; saved = r ∷ runs })))) ≡ given growth → OriginBy x f growth
origin_by (refused k) f legs runs growth h = absurd (subst Grew (sym h) tt)
origin_by (given y) f legs runs growth h = go (f y) refl h
  where
    leg : (c : After) (l : Answer Run) → and_then l
        (λ (r : Run). given (record { net = c.net; saved = r ∷ runs })) ≡ given growth → growth.net ≡ c.net
    leg c (refused k) q = absurd (subst Grew (sym q) tt)
    leg c (given r) q = ap (net_in c.net) (sym q)

    go : (z : Answer After) → f y ≡ z → and_then z
        (λ (c : After). and_then (legs c) (λ (r : Run). given (record { net = c.net; saved = r ∷ runs }))) ≡ given
        growth → OriginBy (given y) f growth
    go (refused k) e q = absurd (subst Grew (sym q) tt)
    go (given c) e q = record { mid = y; first = refl; after = c; second = e; net = leg c (legs c) q }

pub last_origin : (b : List ℕ) (places idx : ℕ) (idxs : List ℕ) (net : Net) (runs : List Run) (last : ℕ)
    (growth : Growth) → AtLast b (idx ∷ idxs) net.table net.nodes last → RoomIn net.table places
    → Indexed (at net.table) net.nodes
    → OtherLinks b (origin_link b idx) idxs → grow_origin b places (origin_link b idx)
    (record { net = net; saved = runs }) ≡ given growth → (next : ℕ) → (net.nodes ≡ 2 → next ≡ 1)
    → (net.nodes ≢ 2 → next ≡ net.nodes) → AtLast b idxs growth.net.table growth.net.nodes next
unfolding grow_origin
last_origin b places idx idxs net runs last growth v room indexed apart h next one more =
    let link : ℕ = origin_link b idx in
    let p = origin_by (arrived b places link net) (clears b places link net)
    (λ (c : After). seek_leg b c.run 0 link) runs growth h in
    subst (λ (x : Net). AtLast b idxs x.table x.nodes next) (sym p.net)
    (last_follows b places idx idxs net last link v room indexed refl apart p.mid p.first p.after p.second next one
    more)
