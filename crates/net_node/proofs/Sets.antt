-- One field of a node set: that node has it, and is otherwise as before; other nodes stay, and so does the room.
use mathlib.Core.Path.{◌≡◌, refl, sym, ap, ◌∙◌}
use mathlib.Core.Logic.{◌≢◌}
use mathlib.Core.List.{List}
use Prim.Native.Nat.{ℕ, ◌+◌, ◌*◌, ◌<◌}
use native.Mathlib.Omega.{arith}
use lib.ListN.{get_or, set, length-set}
use lib.Seq.{get_or-set_same, get_or-set_other}
use lib.Ieee.{Float, nan}
use Rattle.net_node.specs.declared.EstTime.{EstTime}
use Rattle.net_node.specs.Table.{float_width, number_width, node_at, kind_of, Table, at, with_time, with_arc, with_next}
use Rattle.net_node.specs.Table.{with_prev, set_time, set_arc, set_next, set_prev}
use Rattle.net_node.proofs.Columns.{columns_agree}
use Rattle.net_node.proofs.Tables.{RoomIn}

-- what stands elsewhere, under any name of its index
kept : {A : Type 0} (d : A) (l : List A) (s p q : ℕ) (x : A) → p ≢ s → p ≡ q → get_or (set l s x) p d ≡ get_or l q d
kept d l s p q x h e = get_or-set_other l s p x d h ∙ ap (λ (z : ℕ). get_or l z d) e

-- a table in which one node has changed
pub record Changed (t s : Table) (places i : ℕ) (x : EstTime) : Type 0 where
  pub room : RoomIn s places
  pub here : at s i ≡ x
  pub other : (j : ℕ) → j ≢ i → at s j ≡ at t j

module _ (t : Table) (places : ℕ) (r : RoomIn t places) (i : ℕ) (l : i < places) where
  abbrev fs : List Float
  fs = t.floats

  abbrev us : List ℕ
  us = t.numbers

  pub time_set : (time : Float) → Changed t (set_time t i time) places i (with_time (at t i) time)
  unfolding set_time at node_at
  time_set time = record {
    room = record {
      floats = omega (arith, r.floats, length-set fs (i * float_width) time);
      numbers = r.numbers;
      most = r.most;
    };
    here = λ p. record {
      time_sched = get_or-set_same fs (i * float_width) time nan (omega (arith, r.floats)) p;
      time_to_next =
          kept nan fs (i * float_width) (i * float_width + 1) (i * float_width + 1) time
          (λ (e : i * float_width + 1 ≡ i * float_width). omega arith) refl p;
      dist_to_next =
          kept nan fs (i * float_width) (i * float_width + 2) (i * float_width + 2) time
          (λ (e : i * float_width + 2 ≡ i * float_width). omega arith) refl p;
      speed =
          kept nan fs (i * float_width) (i * float_width + 3) (i * float_width + 3) time
          (λ (e : i * float_width + 3 ≡ i * float_width). omega arith) refl p;
      idx_next = get_or us (i * number_width) 0;
      idx_next_alt = get_or us (i * number_width + 1) 0;
      idx_prev = get_or us (i * number_width + 2) 0;
      idx_prev_alt = get_or us (i * number_width + 3) 0;
      link_event = record {
        link_idx = get_or us (i * number_width + 4) 0;
        est_type = kind_of (get_or us (i * number_width + 5) 0);
      };
    };
    other = λ j h. columns_agree (set fs (i * float_width) time) fs us us j j
        (λ k p q b a c. kept nan fs (i * float_width) p q time (λ (e : p ≡ i * float_width). h (omega arith))
        (a ∙ sym c))
        (λ k p q b a c. ap (λ (z : ℕ). get_or us z 0) (a ∙ sym c));
  }

  pub next_set : (next : ℕ) → Changed t (set_next t i next) places i (with_next (at t i) next)
  unfolding set_next at node_at
  next_set next = record {
    room = record {
      floats = r.floats;
      numbers = omega (arith, r.numbers, length-set us (i * number_width) next);
      most = r.most;
    };
    here = λ p. record {
      time_sched = get_or fs (i * float_width) nan;
      time_to_next = get_or fs (i * float_width + 1) nan;
      dist_to_next = get_or fs (i * float_width + 2) nan;
      speed = get_or fs (i * float_width + 3) nan;
      idx_next = get_or-set_same us (i * number_width) next 0 (omega (arith, r.numbers)) p;
      idx_next_alt =
          kept 0 us (i * number_width) (i * number_width + 1) (i * number_width + 1) next
          (λ (e : i * number_width + 1 ≡ i * number_width). omega arith) refl p;
      idx_prev =
          kept 0 us (i * number_width) (i * number_width + 2) (i * number_width + 2) next
          (λ (e : i * number_width + 2 ≡ i * number_width). omega arith) refl p;
      idx_prev_alt =
          kept 0 us (i * number_width) (i * number_width + 3) (i * number_width + 3) next
          (λ (e : i * number_width + 3 ≡ i * number_width). omega arith) refl p;
      link_event = record {
        link_idx =
            kept 0 us (i * number_width) (i * number_width + 4) (i * number_width + 4) next
            (λ (e : i * number_width + 4 ≡ i * number_width). omega arith) refl p;
        est_type =
            kind_of (kept 0 us (i * number_width) (i * number_width + 5) (i * number_width + 5) next
            (λ (e : i * number_width + 5 ≡ i * number_width). omega arith) refl p);
      };
    };
    other = λ j h. columns_agree fs fs (set us (i * number_width) next) us j j
        (λ k p q b a c. ap (λ (z : ℕ). get_or fs z nan) (a ∙ sym c))
        (λ k p q b a c. kept 0 us (i * number_width) p q next (λ (e : p ≡ i * number_width). h (omega arith))
        (a ∙ sym c));
  }

  pub prev_set : (prev : ℕ) → Changed t (set_prev t i prev) places i (with_prev (at t i) prev)
  unfolding set_prev at node_at
  prev_set prev = record {
    room = record {
      floats = r.floats;
      numbers = omega (arith, r.numbers, length-set us (i * number_width + 2) prev);
      most = r.most;
    };
    here = λ p. record {
      time_sched = get_or fs (i * float_width) nan;
      time_to_next = get_or fs (i * float_width + 1) nan;
      dist_to_next = get_or fs (i * float_width + 2) nan;
      speed = get_or fs (i * float_width + 3) nan;
      idx_next =
          kept 0 us (i * number_width + 2) (i * number_width) (i * number_width) prev
          (λ (e : i * number_width ≡ i * number_width + 2). omega arith) refl p;
      idx_next_alt =
          kept 0 us (i * number_width + 2) (i * number_width + 1) (i * number_width + 1) prev
          (λ (e : i * number_width + 1 ≡ i * number_width + 2). omega arith) refl p;
      idx_prev = get_or-set_same us (i * number_width + 2) prev 0 (omega (arith, r.numbers)) p;
      idx_prev_alt =
          kept 0 us (i * number_width + 2) (i * number_width + 3) (i * number_width + 3) prev
          (λ (e : i * number_width + 3 ≡ i * number_width + 2). omega arith) refl p;
      link_event = record {
        link_idx =
            kept 0 us (i * number_width + 2) (i * number_width + 4) (i * number_width + 4) prev
            (λ (e : i * number_width + 4 ≡ i * number_width + 2). omega arith) refl p;
        est_type =
            kind_of (kept 0 us (i * number_width + 2) (i * number_width + 5) (i * number_width + 5) prev
            (λ (e : i * number_width + 5 ≡ i * number_width + 2). omega arith) refl p);
      };
    };
    other = λ j h. columns_agree fs fs (set us (i * number_width + 2) prev) us j j
        (λ k p q b a c. ap (λ (z : ℕ). get_or fs z nan) (a ∙ sym c))
        (λ k p q b a c. kept 0 us (i * number_width + 2) p q prev (λ (e : p ≡ i * number_width + 2). h (omega arith))
        (a ∙ sym c));
  }

  pub arc_set : (time distance : Float) → Changed t (set_arc t i time distance) places i
      (with_arc (at t i) time distance)
  unfolding set_arc at node_at
  arc_set time distance = record {
    room = record {
      floats =
          omega (
            arith,
            r.floats,
            length-set fs (i * float_width + 1) time,
            length-set
                (set fs (i * float_width + 1) time) (i * float_width + 2) distance,
          );
      numbers = r.numbers;
      most = r.most;
    };
    here = λ p. record {
      time_sched =
          (kept nan (set fs (i * float_width + 1) time) (i * float_width + 2) (i * float_width) (i * float_width)
          distance (λ (e : i * float_width ≡ i * float_width + 2). omega arith) refl
          ∙ kept nan fs (i * float_width + 1) (i * float_width) (i * float_width) time
          (λ (e : i * float_width ≡ i * float_width + 1). omega arith) refl) p;
      time_to_next =
          (kept nan (set fs (i * float_width + 1) time) (i * float_width + 2) (i * float_width + 1)
          (i * float_width + 1) distance (λ (e : i * float_width + 1 ≡ i * float_width + 2). omega arith) refl
          ∙ get_or-set_same fs (i * float_width + 1) time nan (omega (arith, r.floats))) p;
      dist_to_next =
          get_or-set_same (set fs (i * float_width + 1) time) (i * float_width + 2) distance nan
          (omega (arith, r.floats, length-set fs (i * float_width + 1) time)) p;
      speed =
          (kept nan (set fs (i * float_width + 1) time) (i * float_width + 2) (i * float_width + 3)
          (i * float_width + 3) distance (λ (e : i * float_width + 3 ≡ i * float_width + 2). omega arith) refl
          ∙ kept nan fs (i * float_width + 1) (i * float_width + 3) (i * float_width + 3) time
          (λ (e : i * float_width + 3 ≡ i * float_width + 1). omega arith) refl) p;
      idx_next = get_or us (i * number_width) 0;
      idx_next_alt = get_or us (i * number_width + 1) 0;
      idx_prev = get_or us (i * number_width + 2) 0;
      idx_prev_alt = get_or us (i * number_width + 3) 0;
      link_event = record {
        link_idx = get_or us (i * number_width + 4) 0;
        est_type = kind_of (get_or us (i * number_width + 5) 0);
      };
    };
    other = λ j h. columns_agree (set (set fs (i * float_width + 1) time) (i * float_width + 2) distance) fs us us j j
        (λ k p q b a c. kept nan (set fs (i * float_width + 1) time) (i * float_width + 2) p p distance
        (λ (e : p ≡ i * float_width + 2). h (omega arith)) refl
        ∙ kept nan fs (i * float_width + 1) p q time (λ (e : p ≡ i * float_width + 1). h (omega arith)) (a ∙ sym c))
        (λ k p q b a c. ap (λ (z : ℕ). get_or us z 0) (a ∙ sym c));
  }
