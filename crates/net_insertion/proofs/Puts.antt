-- Nodes written into a table: what is read at their places and at others, that the room stays, and that additions leave
-- it indexed.
use mathlib.Core.Path.{◌≡◌, ap, ◌∙◌}
use mathlib.Core.Logic.{◌≢◌}
use mathlib.Core.List.{List}
use Prim.Native.Nat.{ℕ, ◌+◌, ◌<◌}
use native.Mathlib.Omega.{arith}
use lib.Ieee.{Float}
use Rattle.net_node.specs.declared.EstTime.{EstTime}
use Rattle.net_node.specs.declared.TimedEvent.{TimedEvent}
use Rattle.net_node.specs.Table.{node_at, put_floats, put_numbers, Indexed, Table, put, at, with_next_alt}
use Rattle.net_node.proofs.Tables.{RoomIn, both, both_room, both_first, both_second, both_other, fits_at, both_indexed}
use Rattle.net_insertion.specs.declared.Place.{Place}
use Rattle.net_insertion.specs.Insertion.{linked_to, event_node, split_fake, add_behind, split_at}

-- ---- an event added, and a split's Fake

module _ (t : Table) (i n places : ℕ) (r : RoomIn t places) (w : Indexed (at t) n) (h : i < n) (g : n < places) where
  module _ (e : TimedEvent) where
    pub add_found : at (add_behind t i n e) i ≡ linked_to (at t i) n e
    unfolding add_behind
    add_found = both_first t i n (linked_to (at t i) n e) (event_node e i) places r h (omega arith)

    pub add_new : at (add_behind t i n e) n ≡ event_node e i
    unfolding add_behind
    add_new = both_second t i n (linked_to (at t i) n e) (event_node e i) places r g

    pub add_indexed : Indexed (at (add_behind t i n e)) (n + 1)
    unfolding add_behind linked_to event_node
    add_indexed =
        let f = fits_at w i (n + 1) h (omega arith) in
        both_indexed t i n (linked_to (at t i) n e) (event_node e i) places r w h g
        (record {
          next = omega arith;
          next_alt = f.next_alt;
          prev = f.prev;
          prev_alt = f.prev_alt;
          next_alt_rises = f.next_alt_rises;
          prev_alt_rises = f.prev_alt_rises;
        })
        (record {
          next = omega arith;
          next_alt = omega arith;
          prev = omega arith;
          prev_alt = omega arith;
          next_alt_rises = λ o. omega arith;
          prev_alt_rises = λ o. omega arith;
        })

  module _ (p : Place) where
    pub split_found : at (split_at t i n p) i ≡ with_next_alt (at t i) n
    unfolding split_at
    split_found = both_first t i n (with_next_alt (at t i) n) (split_fake p i) places r h (omega arith)

    pub split_new : at (split_at t i n p) n ≡ split_fake p i
    unfolding split_at
    split_new = both_second t i n (with_next_alt (at t i) n) (split_fake p i) places r g

    pub split_indexed : Indexed (at (split_at t i n p)) (n + 1)
    unfolding split_at split_fake
    split_indexed =
        let f = fits_at w i (n + 1) h (omega arith) in
        both_indexed t i n (with_next_alt (at t i) n) (split_fake p i) places r w h g
        (record {
          next = f.next;
          next_alt = omega arith;
          prev = f.prev;
          prev_alt = f.prev_alt;
          next_alt_rises = λ o. h;
          prev_alt_rises = f.prev_alt_rises;
        })
        (record {
          next = omega arith;
          next_alt = omega arith;
          prev = omega arith;
          prev_alt = omega arith;
          next_alt_rises = λ o. omega arith;
          prev_alt_rises = λ o. omega arith;
        })

module _ (t : Table) (i n : ℕ) where
  pub add_other : (e : TimedEvent) (j : ℕ) → j ≢ i → j ≢ n → at (add_behind t i n e) j ≡ at t j
  unfolding add_behind
  add_other e = both_other t i n (linked_to (at t i) n e) (event_node e i)

  pub add_room : (e : TimedEvent) (places : ℕ) → RoomIn t places → RoomIn (add_behind t i n e) places
  unfolding add_behind
  add_room e = both_room t i n (linked_to (at t i) n e) (event_node e i)

  pub split_other : (p : Place) (j : ℕ) → j ≢ i → j ≢ n → at (split_at t i n p) j ≡ at t j
  unfolding split_at
  split_other p = both_other t i n (with_next_alt (at t i) n) (split_fake p i)

  pub split_room : (p : Place) (places : ℕ) → RoomIn t places → RoomIn (split_at t i n p) places
  unfolding split_at
  split_room p = both_room t i n (with_next_alt (at t i) n) (split_fake p i)

-- ---- both written one after the other

module _ (t : Table) (i k : ℕ) (fs gs : List Float) (us vs : List ℕ) (u v : EstTime) where
  pub record Stored : Type 0 where
    pub floats : fs ≡ put_floats t.floats i u
    pub numbers : us ≡ put_numbers t.numbers i u
    pub floats_then : gs ≡ put_floats fs k v
    pub numbers_then : vs ≡ put_numbers us k v

  abbrev Holds : Table → Type 0
  Holds s = (gs ≡ s.floats) × (vs ≡ s.numbers)

  both_stored : (x y : EstTime) → u ≡ x → v ≡ y → Stored → Holds (both t i k x y)
  unfolding put
  both_stored x y a b s = (
    s.floats_then ∙ ap (put_floats fs k) b ∙ ap (λ (l : List Float). put_floats l k y)
        (s.floats ∙ ap (put_floats t.floats i) a),
    s.numbers_then ∙ ap (put_numbers us k) b
        ∙ ap (λ (l : List ℕ). put_numbers l k y) (s.numbers ∙ ap (put_numbers t.numbers i) a),
  )

  pub add_stored : (e : TimedEvent) (x : EstTime) → x ≡ node_at t.floats t.numbers i → u ≡ linked_to x k e
      → v ≡ event_node e i → Stored → Holds (add_behind t i k e)
  unfolding add_behind at
  add_stored e x l a b =
      both_stored (linked_to (at t i) k e) (event_node e i) (a ∙ ap (λ (z : EstTime). linked_to z k e) l) b

  pub split_stored : (p : Place) (x : EstTime) → x ≡ node_at t.floats t.numbers i → u ≡ with_next_alt x k
      → v ≡ split_fake p i → Stored → Holds (split_at t i k p)
  unfolding split_at at
  split_stored p x l a b =
      both_stored (with_next_alt (at t i) k) (split_fake p i) (a ∙ ap (λ (z : EstTime). with_next_alt z k) l) b
