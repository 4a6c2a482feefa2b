-- The grown network with its last node: what is laid before it stays, and every base has a next.
use mathlib.Core.Path.{◌≡◌, refl, sym, ap, ◌∙◌}
use mathlib.Core.Logic.{◌⊎◌, inl, inr}
use mathlib.Core.Bool.{Bool, true, false}
use mathlib.Core.List.{List, []}
use Prim.Native.Nat.{ℕ, suc, ◌-◌, ◌<◌, ◌≤◌}
use native.Mathlib.Omega.{arith}
use borrow.Author.Tests.{ltb-true}
use lib.Dec.{ltb}
use lib.Ieee.{binary64, of_bits}
use Rattle.laws.proofs.Below.{below}
use Rattle.laws.proofs.Truth.{not_both, equal_or_not}
use Rattle.net_node.proofs.Tables.{RoomIn, put_room, put_same, put_other}
use Rattle.laws.proofs.Answers.{Holds}
use Rattle.laws.specs.Below.{sum_below}
use Rattle.net_node.specs.declared.EstTime.{EstTime}
use Rattle.net_node.specs.Table.{blank, no_link_event, Table, put, at, is_fake}
use Rattle.grow_rules.specs.Run.{Arc, EndedRun}
use Rattle.grow_rules.specs.Growth.{fake_node, room_for, last_node}
use Rattle.net_node.specs.Left.{Network}
use Rattle.laws.proofs.Members.{All}
use Rattle.arcs_growth.proofs.Sums.{sum_same, total}
use Rattle.arcs_growth.proofs.Labels.{base_role, Labels, Extends}
use Rattle.arcs_growth.proofs.Laid.{Each, Laid}
use Rattle.arcs_growth.proofs.Weights.{weigh, weigh_same}
use Rattle.arcs_growth.proofs.Graphs.{base_count, next_within}
use Rattle.arcs_growth.specs.Runs.{AllTaken}
use Rattle.arcs_growth.proofs.NewNodes.{EventsKept}
use Rattle.arcs_growth.proofs.Visits.{taken_more}
use Rattle.arcs_growth.proofs.AtEvents.{Notes, notes_more}
use Rattle.arcs_growth.proofs.Ends.{Linked, Ending}

-- what is laid in n nodes is laid wherever these are the same
pub laid_same : {L : Labels} {node after : ℕ → EstTime} {n : ℕ} → Laid L node n → ((i : ℕ) → i < n → after i ≡ node i)
    → Laid L after n
laid_same {L} {node} {after} {n} v f = record {
  two = v.two;
  zeroth = v.zeroth;
  first = v.first;
  start_prev = ap (λ (x : EstTime). x.idx_prev) (f 1 v.two) ∙ v.start_prev;
  later = v.later;
  each = each;
}
  where
    each : (i : ℕ) → i < n → Each L after n i
    each i h =
        let o = v.each i h in
        record {
          kind = ap (λ (x : EstTime). is_fake x) (f i h) ∙ o.kind;
          alt = λ a e p. let q = o.alt a (sym (ap (λ (x : EstTime). x.idx_next_alt) (f i h)) ∙ e) p in
              record {
                rises = q.rises;
                inside = q.inside;
                base = q.base;
                fake = q.fake;
                back = ap (λ (x : EstTime). x.idx_prev) (f a q.inside) ∙ q.back;
              };
          splits = λ p e m. let q = o.splits p (sym (ap (λ (x : EstTime). x.idx_prev) (f i h)) ∙ e) m in
              record {
                earlier = q.earlier;
                alt = ap (λ (x : EstTime). x.idx_next_alt) (f p (omega (arith, q.earlier)))
                    ∙ q.alt;
                base = q.base;
                owner = q.owner;
              };
          own = o.own;
          owned = o.owned;
          next = λ r e p m. let q = o.next r (sym (ap (λ (x : EstTime). x.idx_next) (f i h)) ∙ e) p m in
              record {
                inside = q.inside;
                receiver = q.receiver;
                back = ap (λ (x : EstTime). x.idx_prev) (f r q.inside) ∙ q.back;
              };
          prev = λ c e m. let q = o.prev c (sym (ap (λ (x : EstTime). x.idx_prev) (f i h)) ∙ e) m in
              record {
                inside = q.inside;
                base = q.base;
                forth = ap (λ (x : EstTime). x.idx_next) (f c q.inside)
                    ∙ q.forth;
              };
          events = λ m. let q = o.events m in record {
            goal = q.goal;
            depth = λ c e. q.depth c (sym (ap (λ (x : EstTime). x.idx_prev) (f i h)) ∙ e);
          };
          joins = λ r e m. o.joins r (sym (ap (λ (x : EstTime). x.idx_next) (f i h)) ∙ e) m;
          stops = λ m. let q = o.stops m in record {
            goal = q.goal;
            next = ap (λ (x : EstTime). x.idx_next) (f i h) ∙ q.next;
            later = q.later;
          };
          prev_alt = λ a e p. o.prev_alt a (sym (ap (λ (x : EstTime). x.idx_prev_alt) (f i h)) ∙ e) p;
        }

-- n nodes, and the last as node n
pub record Whole (L : Labels) (node : ℕ → EstTime) (n : ℕ) (arcs : List Arc) (k : ℕ) : Type 0 where
  pub laid : Laid L node n
  pub bases : sum_below n (base_count L) ≡ k
  pub noted : (w : Arc → ℕ) → total w arcs ≡ sum_below n (weigh L node [] w)
  pub closed : (i : ℕ) → i < n → base_role (L.role i) ≡ true → 0 < (node i).idx_next
  pub last_kind : is_fake (node n) ≡ true
  pub last_alt : (node n).idx_next_alt ≡ 0
  pub last_prev : (node n).idx_prev ≡ n - 1
  pub last_prev_alt : (node n).idx_prev_alt ≡ 0

pub record Finished (b : List ℕ) (places : ℕ) (runs : List EndedRun) (arcs : List Arc) (k : ℕ)
    (t : Network) : Type 0 where
  pub room : RoomIn t.table places
  pub inside : t.nodes ≤ places
  pub labels : Labels
  pub before : ℕ
  pub nodes : t.nodes ≡ suc before
  pub whole : Whole labels (at t.table) before arcs k
  pub notes : All (Notes b (at t.table) t.nodes [] runs) arcs
  pub taken : AllTaken b (at t.table) t.nodes runs
  pub linked : Linked (at t.table) t.nodes t.nodes

pub last_keeps : {b : List ℕ} {places : ℕ} {runs : List EndedRun} {arcs : List Arc} {k : ℕ} (alt : ℕ) (t : Network)
    → Ending b places runs arcs k [] alt t → Holds (Finished b places runs arcs k) (last_node places t)
unfolding last_node fake_node blank no_link_event
last_keeps {b} {places} {runs} {arcs} {k} alt t d = go (ltb t.nodes places) refl
  where
    n : ℕ
    n = t.nodes

    last : EstTime
    last = fake_node 0 (t.nodes - 1) 0 (of_bits binary64 0)

    after : Table
    after = put t.table t.nodes last

    same : (i : ℕ) → i < n → at after i ≡ at t.table i
    same i h = put_other t.table n last i (λ (q : i ≡ n). omega arith)

    kept : EventsKept n (at t.table) (at after)
    kept = record {
      event = λ i h. ap (λ (y : EstTime). y.link_event) (same i h);
      speed = λ i h. ap (λ (y : EstTime). y.speed) (same i h);
    }

    x : Extends d.labels d.labels n
    x = record { role = λ i h. refl; owner = λ i h. refl; goal = λ i h. refl; depth = λ i h. refl }

    closed : (i : ℕ) → i < n → base_role (d.labels.role i) ≡ true
        → ((at after i).idx_next ≡ 0) ⊎ ((at after i).idx_next ≡ 0 → ⊥) → 0 < (at after i).idx_next
    closed i h p (inl z) = not_both (d.closed i h p (sym (ap (λ (y : EstTime). y.idx_next) (same i h)) ∙ z)) refl
    closed i h p (inr z) = omega arith

    go : (r : Bool) → ltb t.nodes places ≡ r → Holds (Finished b places runs arcs k)
        (room_for r (record {
          table = put t.table t.nodes (fake_node 0 (t.nodes - 1) 0 (of_bits binary64 0));
          nodes = suc t.nodes;
        }))
    go false e = tt
    go true e = record {
      room = put_room t.table t.nodes last places d.room;
      inside = let l = ltb-true t.nodes places e in omega arith;
      labels = d.labels;
      before = n;
      nodes = refl;
      whole = record {
        laid = laid_same d.graph.laid same;
        bases = d.graph.bases;
        noted = λ w. d.graph.noted w ∙ sym (sum_same n (weigh d.labels (at t.table) [] w)
            (weigh d.labels (at after) [] w)
            (λ i h. weigh_same (at t.table) (at after) x [] [] w i h (ap (λ (y : EstTime). y.idx_next) (same i h))
            (ap (λ (y : EstTime). y.time_to_next) (same i h)) (ap (λ (y : EstTime). y.dist_to_next) (same i h))
            (next_within d.graph.laid i h) refl));
        closed = λ i h p. closed i h p (equal_or_not (at after i).idx_next 0);
        last_kind = ap (λ (y : EstTime). is_fake y) there;
        last_alt = ap (λ (y : EstTime). y.idx_next_alt) there;
        last_prev = ap (λ (y : EstTime). y.idx_prev) there;
        last_prev_alt = ap (λ (y : EstTime). y.idx_prev_alt) there;
      };
      notes = notes_more b (at t.table) (at after) (omega (arith, d.graph.laid.two))
          (omega arith) kept [] runs arcs d.notes;
      taken = taken_more b (at t.table) (at after) (omega arith) kept runs d.taken;
      linked = record {
        next = λ i h. next i (below i n h);
        next_alt = λ i h. next_alt i (below i n h);
        prev = λ i h. prev i (below i n h);
        prev_alt = λ i h. prev_alt i (below i n h);
      };
    }
      where
        there : at after n ≡ last
        there = put_same t.table n last places d.room (ltb-true n places e)

        two : 1 < n
        two = d.graph.laid.two

        next : (i : ℕ) → (i < n) ⊎ (i ≡ n) → (at after i).idx_next < suc n
        next i (inl h) = let c = ap (λ (y : EstTime). y.idx_next) (same i h) in let l = d.linked.next i h in omega arith
        next i (inr q) = let c : (at after i).idx_next ≡ 0 =
            ap (λ (m : ℕ). (at after m).idx_next) q ∙ ap (λ (y : EstTime). y.idx_next) there in omega arith

        next_alt : (i : ℕ) → (i < n) ⊎ (i ≡ n) → (at after i).idx_next_alt < suc n
        next_alt i (inl h) = let c = ap (λ (y : EstTime). y.idx_next_alt) (same i h) in let l = d.linked.next_alt i h in
            omega arith
        next_alt i (inr q) = let c : (at after i).idx_next_alt ≡ 0 =
            ap (λ (m : ℕ). (at after m).idx_next_alt) q ∙ ap (λ (y : EstTime). y.idx_next_alt) there in omega arith

        prev : (i : ℕ) → (i < n) ⊎ (i ≡ n) → (at after i).idx_prev < suc n
        prev i (inl h) = let c = ap (λ (y : EstTime). y.idx_prev) (same i h) in let l = d.linked.prev i h in omega arith
        prev i (inr q) = let c : (at after i).idx_prev ≡ n - 1 =
            ap (λ (m : ℕ). (at after m).idx_prev) q ∙ ap (λ (y : EstTime). y.idx_prev) there in omega arith

        prev_alt : (i : ℕ) → (i < n) ⊎ (i ≡ n) → (at after i).idx_prev_alt < suc n
        prev_alt i (inl h) = let c = ap (λ (y : EstTime). y.idx_prev_alt) (same i h) in let l = d.linked.prev_alt i h in
            omega arith
        prev_alt i (inr q) = let c : (at after i).idx_prev_alt ≡ 0 =
            ap (λ (m : ℕ). (at after m).idx_prev_alt) q ∙ ap (λ (y : EstTime). y.idx_prev_alt) there in omega arith
