-- Nodes 0 and 1: the invariant at the beginning, with a run at the start.
use mathlib.Core.Path.{◌≡◌, refl, ap, ◌∙◌}
use mathlib.Core.Logic.{◌⊎◌, inl}
use mathlib.Core.Bool.{Bool, true, false}
use mathlib.Core.List.{List, [], ◌∷◌}
use Prim.Native.Nat.{ℕ, zero, suc, ◌<◌}
use native.Mathlib.Omega.{arith}
use lib.Ieee.{binary64, of_bits}
use Rattle.laws.proofs.Truth.{not_both}
use Rattle.net_node.proofs.Tables.{RoomIn, put_room, put_same, put_other}
use Rattle.net_node.specs.declared.EstTime.{EstTime}
use Rattle.net_node.specs.Table.{Indexed, blank, no_link_event, Table, put, at, is_fake}
use Rattle.laws.specs.Below.{sum_below}
use Rattle.grow_rules.specs.Run.{Arc}
use Rattle.grow_rules.specs.Growth.{departure, fake_node, first_nodes, origin_run}
use Rattle.arcs_growth.proofs.Sums.{total}
use Rattle.arcs_growth.proofs.Labels.{Role, nought, start, event, split, join, stop, base_role, lands, Labels}
use Rattle.arcs_growth.proofs.Laid.{Each, Laid}
use Rattle.arcs_growth.proofs.NewNodes.{apart}
use Rattle.arcs_growth.proofs.Weights.{weigh, weigh_none, weigh_empty}
use Rattle.arcs_growth.proofs.Invariant.{Grows, Waits}

abbrev pub first_role : ℕ → Role
first_role zero = nought
first_role (suc zero) = start
first_role (suc (suc i)) = nought

abbrev pub first_labels : Labels
first_labels = record { role = first_role; owner = λ i. i; goal = λ i. 0; depth = λ i. 0 }

abbrev is_start : Role → Bool
is_start nought = false
is_start start = true
is_start event = false
is_start split = false
is_start join = false
is_start stop = false

abbrev is_nought : Role → Bool
is_nought nought = true
is_nought start = false
is_nought event = false
is_nought split = false
is_nought join = false
is_nought stop = false

-- of the first two
both : (P : ℕ → Type 0) → P 0 → P 1 → (i : ℕ) → i < 2 → P i
both P x y zero h = x
both P x y (suc zero) h = y
both P x y (suc (suc i)) h = absurd (omega arith)

module _ (b : List ℕ) (t : Table) (places : ℕ) (room : RoomIn t places) (more : 1 < places) where
  abbrev zeroth : EstTime
  zeroth = fake_node 1 0 0 (of_bits binary64 0)

  abbrev first : EstTime
  first = fake_node 0 0 0 (departure b)

  abbrev after : Table
  after = put (put t 0 zeroth) 1 first

  at_zero : at after 0 ≡ zeroth
  at_zero = put_other (put t 0 zeroth) 1 first 0 (λ (q : 0 ≡ 1). omega arith)
      ∙ put_same t 0 zeroth places room (omega arith)

  at_one : at after 1 ≡ first
  at_one = put_same (put t 0 zeroth) 1 first places (put_room t 0 zeroth places room) more

  first_indexed : Indexed (at after) 2
  unfolding fake_node
  first_indexed = record {
    next = both (λ (i : ℕ). (at after i).idx_next < 2) (omega (arith, ap (λ (x : EstTime). x.idx_next) at_zero))
        (omega (arith, ap (λ (x : EstTime). x.idx_next) at_one));
    next_alt = both (λ (i : ℕ). (at after i).idx_next_alt < 2)
        (omega (arith, ap (λ (x : EstTime). x.idx_next_alt) at_zero))
        (omega (arith, ap (λ (x : EstTime). x.idx_next_alt) at_one));
    prev = both (λ (i : ℕ). (at after i).idx_prev < 2) (omega (arith, ap (λ (x : EstTime). x.idx_prev) at_zero))
        (omega (arith, ap (λ (x : EstTime). x.idx_prev) at_one));
    prev_alt = both (λ (i : ℕ). (at after i).idx_prev_alt < 2)
        (omega (arith, ap (λ (x : EstTime). x.idx_prev_alt) at_zero))
        (omega (arith, ap (λ (x : EstTime). x.idx_prev_alt) at_one));
    next_alt_rises = both (λ (i : ℕ). 0 < (at after i).idx_next_alt → i < (at after i).idx_next_alt)
        (λ h. absurd (omega (arith, ap (λ (x : EstTime). x.idx_next_alt) at_zero)))
        (λ h. absurd (omega (arith, ap (λ (x : EstTime). x.idx_next_alt) at_one)));
    prev_alt_rises = both (λ (i : ℕ). 0 < (at after i).idx_prev_alt → i < (at after i).idx_prev_alt)
        (λ h. absurd (omega (arith, ap (λ (x : EstTime). x.idx_prev_alt) at_zero)))
        (λ h. absurd (omega (arith, ap (λ (x : EstTime). x.idx_prev_alt) at_one)));
  }

  no_alt_zero : (a : ℕ) → (at after 0).idx_next_alt ≡ a → 0 < a → ⊥
  unfolding fake_node
  no_alt_zero a e h = let q = ap (λ (x : EstTime). x.idx_next_alt) at_zero in omega arith

  no_alt_one : (a : ℕ) → (at after 1).idx_next_alt ≡ a → 0 < a → ⊥
  unfolding fake_node
  no_alt_one a e h = let q = ap (λ (x : EstTime). x.idx_next_alt) at_one in omega arith

  unchained_zero : (a : ℕ) → (at after 0).idx_prev_alt ≡ a → 0 < a → ⊥
  unfolding fake_node
  unchained_zero a e h = let q = ap (λ (x : EstTime). x.idx_prev_alt) at_zero in omega arith

  unchained_one : (a : ℕ) → (at after 1).idx_prev_alt ≡ a → 0 < a → ⊥
  unfolding fake_node
  unchained_one a e h = let q = ap (λ (x : EstTime). x.idx_prev_alt) at_one in omega arith

  one_empty : (at after 1).idx_next ≡ 0
  unfolding fake_node
  one_empty = ap (λ (x : EstTime). x.idx_next) at_one

  first_laid : Laid first_labels (at after) 2
  unfolding fake_node blank no_link_event
  first_laid = record {
    two = omega arith;
    zeroth = refl;
    first = refl;
    start_prev = ap (λ (x : EstTime). x.idx_prev) at_one;
    later = λ i p h. absurd (omega arith);
    each = both (Each first_labels (at after) 2)
        (record {
          kind = ap (λ (x : EstTime). is_fake x) at_zero;
          alt = λ a e h. absurd (no_alt_zero a e h);
          splits = λ p e q. apart is_nought {m = nought} refl q refl refl;
          own = λ q. refl;
          owned = λ q. omega arith;
          next = λ r e h q. not_both q refl;
          prev = λ c e q. not_both q refl;
          events = λ q. apart is_nought {m = nought} refl q refl refl;
          joins = λ r e q. apart is_nought {m = nought} refl q refl refl;
          stops = λ q. apart is_nought {m = nought} refl q refl refl;
          prev_alt = λ a e h. absurd (unchained_zero a e h);
        })
        (record {
          kind = ap (λ (x : EstTime). is_fake x) at_one;
          alt = λ a e h. absurd (no_alt_one a e h);
          splits = λ p e q. apart is_start {m = start} refl q refl refl;
          own = λ q. refl;
          owned = λ q. omega arith;
          next = λ r e h q. absurd (closed r e h);
          prev = λ c e q. not_both q refl;
          events = λ q. apart is_start {m = start} refl q refl refl;
          joins = λ r e q. apart is_start {m = start} refl q refl refl;
          stops = λ q. apart is_start {m = start} refl q refl refl;
          prev_alt = λ a e h. absurd (unchained_one a e h);
        });
  }
    where
      closed : (r : ℕ) → (at after 1).idx_next ≡ r → 0 < r → ⊥
      closed r e h = let q = one_empty in omega arith

  first_noted : (w : Arc → ℕ) → total w [] ≡ sum_below 2 (weigh first_labels (at after) [] w)
  unfolding total sum_below
  first_noted w =
      let a = weigh_none first_labels (at after) [] w 0 refl in
      let c = weigh_empty first_labels (at after) [] w 1 refl one_empty refl in
      omega arith

  pub first_grows : Grows first_labels places (first_nodes b t)
  unfolding first_nodes sum_below
  first_grows = record {
    body = record {
      room = put_room (put t 0 zeroth) 1 first places (put_room t 0 zeroth places room);
      indexed = first_indexed;
      graph = record { laid = first_laid; bases = refl; noted = first_noted };
      no_stops = both (λ (i : ℕ). first_role i ≡ stop → ⊥) (λ q. apart is_nought {m = nought} refl q refl refl)
          (λ q. apart is_start {m = start} refl q refl refl);
      chains = λ i a h e p q. both (λ (j : ℕ). lands (first_role j) ≡ true
          → (lands (first_role a) ≡ true) × (◌≡◌ {A = ℕ} 0 0)) (λ z. not_both z refl) (λ z. not_both z refl) i h q;
      ended = λ i o. not_both o refl;
      bottom = refl;
    };
    within = more;
    count = refl;
    ended = refl;
    distinct = tt;
  }

  pub first_waits : Waits first_labels (first_nodes b t) (origin_run b ∷ [])
  unfolding first_nodes origin_run fake_node blank
  first_waits = record {
    owned = both (λ (i : ℕ). base_role (first_role i) ≡ true → (at after i).idx_next ≡ 0 → false ≡ false
        → (i ≡ 1) ⊎ (((0 ≡ 2) × ⊥))) (λ q z o. not_both q refl) (λ q z o. inl refl);
    stand = (
      record {
        within = omega arith;
        self = refl;
        holds = λ z o. (ap (λ (x : EstTime). x.time_to_next) at_one, ap (λ (x : EstTime). x.dist_to_next) at_one);
        listed = tt;
      },
      tt,
    );
    last = ((λ w. not_both w refl), tt);
  }
