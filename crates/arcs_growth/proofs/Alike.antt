-- Two tables that agree in the nodes so far: an insertion or a join makes the same of both, where neither is refused.
-- Row 12's tests, which look at the places, only refuse.
use mathlib.Core.Path.{◌≡◌, refl, sym, ap, subst}
use mathlib.Core.Logic.{inl}
use mathlib.Core.Bool.{Bool, true, false}
use Prim.Native.Nat.{ℕ, suc, ◌+◌, ◌-◌, ◌<◌}
use native.Mathlib.Numerals.{add-one}
use native.Mathlib.Omega.{arith}
use borrow.Author.Tests.{ltb-true}
use lib.Dec.{ltb}
use lib.Ieee.{Float}
use Rattle.net_node.proofs.Tables.{RoomIn, put_room}
use Rattle.net_node.specs.Table.{Table, put, at, with_next_alt, with_prev_alt}
use Rattle.laws.proofs.Answers.{Both, both_refused}
use Rattle.net_node.specs.declared.EstTime.{EstTime}
use Rattle.net_node.specs.declared.TimedEvent.{TimedEvent}
use Rattle.net_insertion.specs.declared.Place.{Place}
use Rattle.net_insertion.specs.declared.Insertion.TheVariants.{Added}
use Rattle.net_insertion.specs.Insertion as Insertion
use Rattle.net_insertion.specs.Insertion.{linked_to, event_node, split_fake, add_behind, split_at, place_at, added_as}
use Rattle.net_insertion.specs.Insertion.{table_as, seek, found, sought_in, inserted, inserted_table}
use Rattle.net_insertion.proofs.Seeking.{seek_turn}
use Rattle.net_insertion.proofs.Puts.{add_room, split_room}
use Rattle.net_joins.specs.Joins.{join_fake, join_at}
use Rattle.grow_rules.specs.Run.{Net, Run, After, added_to, moved_to, member_of, inserted_run, insert_event}
use Rattle.arcs_growth.proofs.Labels.{Labels}
use Rattle.arcs_growth.proofs.Seeks.{search_reaches}
use Rattle.arcs_growth.proofs.Bodies.{self_base}
use Rattle.arcs_growth.proofs.Invariant.{Grows, Stands}
use Rattle.arcs_growth.proofs.Agreeing.{Agree, seek_same}
use Rattle.arcs_growth.proofs.Writes.{put_agree, put_more}

-- the same network in another table
abbrev pub with_table : Net → Table → Net
with_table net t = record {
  table = t;
  nodes = net.nodes;
  ends = net.ends;
  added = net.added;
  splits = net.splits;
  joined = net.joined;
  noted = net.noted;
  runs = net.runs;
}

pub record Alike (others : ℕ) (net other : Net) : Type 0 where
  pub table : Table
  pub is : other ≡ with_table net table
  pub agree : Agree net.nodes (at net.table) (at table)
  pub room : RoomIn table others

abbrev pub AlikeAfter : ℕ → After → After → Type 0
AlikeAfter others a c = Alike others a.net c.net × (c.run ≡ a.run)

-- ---- what insertion and joins write

module _ (t u : Table) (places others n : ℕ) (r : RoomIn t places) (q : RoomIn u others) (ag : Agree n (at t) (at u))
    (g : n < places) (h : n < others) where
  add_agree : (i : ℕ) (e : TimedEvent) → i < n → Agree (suc n) (at (add_behind t i n e)) (at (add_behind u i n e))
  unfolding add_behind
  add_agree i e l =
      put_more (put t i (linked_to (at t i) n e)) (put u i (linked_to (at u i) n e)) places others
      (put_room t i (linked_to (at t i) n e) places r) (put_room u i (linked_to (at u i) n e) others q) n
      (event_node e i) (event_node e i)
      (put_agree t u places others r q n i (linked_to (at t i) n e) (linked_to (at u i) n e) ag (omega arith)
      (omega arith) (ap (λ (x : EstTime). linked_to x n e) (ag i l))) g h refl

  split_agree : (i : ℕ) (p : Place) → i < n → Agree (suc n) (at (split_at t i n p)) (at (split_at u i n p))
  unfolding split_at
  split_agree i p l =
      put_more (put t i (with_next_alt (at t i) n)) (put u i (with_next_alt (at u i) n)) places others
      (put_room t i (with_next_alt (at t i) n) places r) (put_room u i (with_next_alt (at u i) n) others q) n
      (split_fake p i) (split_fake p i)
      (put_agree t u places others r q n i (with_next_alt (at t i) n) (with_next_alt (at u i) n) ag (omega arith)
      (omega arith) (ap (λ (x : EstTime). with_next_alt x n) (ag i l))) g h refl

  pub join_agree : (c : ℕ) (e : TimedEvent) → c < n
      → RoomIn (join_at u n c e) others × Agree (suc n) (at (join_at t n c e)) (at (join_at u n c e))
  unfolding join_at
  join_agree c e l =
      let x : EstTime = with_prev_alt (at t c) n in
      let y : EstTime = with_prev_alt (at u c) n in
      let t1 : Table = put t c x in
      let u1 : Table = put u c y in
      let r1 : RoomIn t1 places = put_room t c x places r in
      let q1 : RoomIn u1 others = put_room u c y others q in
      let a1 : Agree n (at t1) (at u1) = put_agree t u places others r q n c x y ag (omega arith) (omega arith)
      (ap (λ (z : EstTime). with_prev_alt z n) (ag c l)) in
      let f : EstTime = join_fake c (n - 1) in
      let t2 : Table = put t1 n f in
      let u2 : Table = put u1 n f in
      let r2 : RoomIn t2 places = put_room t1 n f places r1 in
      let q2 : RoomIn u2 others = put_room u1 n f others q1 in
      let a2 : Agree (suc n) (at t2) (at u2) = put_more t1 u1 places others r1 q1 n f f a1 g h refl in
      let v : EstTime = linked_to (at t2 (n - 1)) n e in
      let w : EstTime = linked_to (at u2 (n - 1)) n e in (
        put_room u2 (n - 1) w others q2,
        put_agree t2 u2 places others r2 q2 (suc n) (n - 1) v w a2 (omega arith)
            (omega arith) (ap (λ (z : EstTime). linked_to z n e) (a2 (n - 1) (omega arith))),
      )

-- ---- insertion

module _ {L : Labels} {places : ℕ} {net : Net} (others : ℕ) (g : Grows L places net) (run : Run) (s : Stands L net run)
    (u : Table) (ag : Agree net.nodes (at net.table) (at u)) (room : RoomIn u others) (limit : Float)
    (e : TimedEvent) where
  abbrev t : Table
  t = net.table

  abbrev n : ℕ
  n = net.nodes

  abbrev ends : ℕ → Bool
  ends = member_of net.ends

  behind : (i : ℕ) → i < n → (a b c : Bool) → ltb n places ≡ a → ltb n others ≡ b
      → Both (AlikeAfter others) (inserted_run net run e (add_behind t i n e)
      (added_as a c (Added (place_at n e) false))) (inserted_run (with_table net u) run e (add_behind u i n e)
      (added_as b c (Added (place_at n e) false)))
  unfolding added_to moved_to place_at
  behind i h false b c p q = tt
  behind i h true false c p q = both_refused (AlikeAfter others)
      (inserted_run net run e (add_behind t i n e) (added_as true c (Added (place_at n e) false))) 12
  behind i h true true true p q = tt
  behind i h true true false p q = (
    record {
      table = add_behind u i n e;
      is = refl;
      agree = add_agree t u places others n g.body.room room ag (ltb-true n places p) (ltb-true n others q) i e h;
      room = add_room u i n e others room;
    },
    refl,
  )

  divided : (i : ℕ) → i < n → (a b : Bool) → ltb (n + 1) places ≡ a → ltb (n + 1) others ≡ b
      → Both (AlikeAfter others) (inserted_run net run e (add_behind (split_at t i n run.place) n (n + 1) e)
      (added_as a false (Added (place_at (n + 1) e) true)))
      (inserted_run (with_table net u) run e (add_behind (split_at u i n run.place) n (n + 1) e)
      (added_as b false (Added (place_at (n + 1) e) true)))
  unfolding added_to moved_to place_at
  divided i h false b p q = tt
  divided i h true false p q = both_refused (AlikeAfter others)
      (inserted_run net run e (add_behind (split_at t i n run.place) n (n + 1) e)
      (added_as true false (Added (place_at (n + 1) e) true))) 12
  divided i h true true p q =
      let k = ltb-true (n + 1) places p in
      let l = ltb-true (n + 1) others q in
      let r : RoomIn (split_at t i n run.place) places = split_room t i n run.place places g.body.room in
      let w : RoomIn (split_at u i n run.place) others = split_room u i n run.place others room in
      let m : Agree (suc n) (at (split_at t i n run.place)) (at (split_at u i n run.place)) =
      split_agree t u places others n g.body.room room ag (omega arith) (omega arith) i run.place h in (
        record {
          table = add_behind (split_at u i n run.place) n (n + 1) e;
          is = refl;
          agree = add_agree (split_at t i n run.place) (split_at u i n run.place) places others (n + 1) r w
              (subst (λ (j : ℕ). Agree j (at (split_at t i n run.place)) (at (split_at u i n run.place)))
              (sym (add-one n)) m) k l n e (omega arith);
          room = add_room (split_at u i n run.place) n (n + 1) e others w;
        },
        refl,
      )

  pub insert_alike : Both (AlikeAfter others) (insert_event places limit net run e)
      (insert_event others limit (with_table net u) run e)
  unfolding insert_event inserted inserted_table sought_in
  insert_alike =
      subst (λ s. Both (AlikeAfter others) (inserted_run net run e (table_as (seek n (at t) limit e p) t n run.place e)
      (Insertion.inserted_as (seek n (at t) limit e p) n places ends e))
      (inserted_run (with_table net u) run e (table_as s u n run.place e) (Insertion.inserted_as s n others ends e)))
      (sym (seek_same (at t) (at u) n ag g.body.indexed n limit e p s.within))
      (search_reaches (λ (k i : ℕ). seek k (at t) limit e i) found
      (λ s. Both (AlikeAfter others) (inserted_run net run e (table_as s t n run.place e)
      (Insertion.inserted_as s n places ends e)) (inserted_run (with_table net u) run e (table_as s u n run.place e)
      (Insertion.inserted_as s n others ends e)))
      g.body.graph.laid limit e p
      (λ k i. seek_turn k (at t) limit e i)
      (λ i b c later r q. behind i r.within (ltb n places) (ltb n others) (ends i) refl refl)
      (λ i c later r q f m. (record { table = u; is = refl; agree = ag; room = room }, refl))
      (λ i later r f q. divided i r.within (ltb (n + 1) places) (ltb (n + 1) others) refl refl)
      (λ i later q. q)
      n p (omega arith) (record {
        within = s.within;
        base = self_base (L.role p) s.self;
        owner = refl;
        which = inl refl;
      }))
    where
      p : ℕ
      p = run.place.idx_prev
