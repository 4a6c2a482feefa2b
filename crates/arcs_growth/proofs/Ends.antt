-- The end Fakes: each finished run's event leads to one, with zeros, as its noted arc says.
use mathlib.Core.Path.{◌≡◌, refl, sym, ap, ◌∙◌, subst}
use mathlib.Core.Logic.{◌⊎◌, inl, inr}
use mathlib.Core.Bool.{Bool, true, false, ◌||◌}
use mathlib.Core.List.{List, [], ◌∷◌}
use Prim.Native.Nat.{ℕ, suc, ◌<◌}
use native.Mathlib.Omega.{arith}
use borrow.Author.Tests.{eq-eqb, ne_eqb, ltb-true}
use lib.Dec.{eqb, ltb}
use lib.Ieee.{binary64, of_bits}
use Rattle.laws.proofs.Truth.{not_both, equal_or_not}
use Rattle.net_node.proofs.Tables.{RoomIn, put_room, put_same, put_other}
use Rattle.laws.proofs.Answers.{Holds, holds_then}
use Rattle.laws.proofs.Below.{or_right, below}
use Rattle.net_node.specs.declared.EstTime.{EstTime}
use Rattle.net_node.specs.Table.{blank, no_link_event, Table, put, at, is_fake}
use Rattle.grow_rules.specs.Run.{Arc, EndedRun, member_of}
use Rattle.grow_rules.specs.Growth.{fake_node, leads_to_end, room_for, end_fakes}
use Rattle.net_node.specs.Left.{Network}
use Rattle.laws.proofs.Members.{All}
use Rattle.arcs_growth.proofs.Labels.{stop, base_role, receives, itself, Labels, Extends, labelled, labelled_old}
use Rattle.arcs_growth.proofs.Labels.{new_role, new_goal}
use Rattle.arcs_growth.proofs.NewNodes.{Attached}
use Rattle.arcs_growth.proofs.Weights.{arc_there, arc_out}
use Rattle.arcs_growth.proofs.Graphs.{Graph, Timed, stop_graph}
use Rattle.arcs_growth.proofs.Bodies.{EndAt, self_base}
use Rattle.arcs_growth.proofs.Invariant.{Distinct}
use Rattle.arcs_growth.specs.Runs.{AllTaken}
use Rattle.arcs_growth.proofs.Visits.{taken_more}
use Rattle.arcs_growth.proofs.AtEvents.{Notes, notes_more}

-- every index of the first n nodes names one of them, a next one of the first m
pub record Linked (node : ℕ → EstTime) (n m : ℕ) : Type 0 where
  pub next : (i : ℕ) → i < n → (node i).idx_next < m
  pub next_alt : (i : ℕ) → i < n → (node i).idx_next_alt < n
  pub prev : (i : ℕ) → i < n → (node i).idx_prev < n
  pub prev_alt : (i : ℕ) → i < n → (node i).idx_prev_alt < n

-- the network with these ends left; the last end Fake's next is the node to come
pub record Ending (b : List ℕ) (places : ℕ) (runs : List EndedRun) (arcs : List Arc) (k : ℕ) (is : List ℕ) (alt : ℕ)
    (t : Network) : Type 0 where
  pub labels : Labels
  pub room : RoomIn t.table places
  pub graph : Graph labels (at t.table) t.nodes is arcs k
  pub ended : (i : ℕ) → member_of is i ≡ true → EndAt labels (at t.table) t.nodes i
  pub distinct : Distinct is
  pub closed : (i : ℕ) → i < t.nodes → base_role (labels.role i) ≡ true → (at t.table i).idx_next ≡ 0
      → member_of is i ≡ true
  pub notes : All (Notes b (at t.table) t.nodes [] runs) arcs
  pub taken : AllTaken b (at t.table) t.nodes runs
  pub before : 0 < alt → (alt < t.nodes) × (receives (labels.role alt) ≡ true)
  pub linked : Linked (at t.table) t.nodes (suc t.nodes)

-- the table with one end Fake more
abbrev end_table : ℕ → ℕ → Network → Table
end_table i alt t =
    put (put t.table t.nodes (fake_node (suc t.nodes) i alt (of_bits binary64 0))) i
    (leads_to_end (at (put t.table t.nodes (fake_node (suc t.nodes) i alt (of_bits binary64 0))) i) t.nodes)

module _ {b : List ℕ} {places : ℕ} {runs : List EndedRun} {arcs : List Arc} {k : ℕ} (i : ℕ) (is : List ℕ) (alt : ℕ)
    (t : Network) (d : Ending b places runs arcs k (i ∷ is) alt t) (more : t.nodes < places) where
  abbrev n : ℕ
  n = t.nodes

  abbrev node : ℕ → EstTime
  node = at t.table

  abbrev fake : EstTime
  fake = fake_node (suc n) i alt (of_bits binary64 0)

  abbrev one : Table
  one = put t.table n fake

  abbrev two : Table
  two = put one i (leads_to_end (at one i) n)

  abbrev L : Labels
  L = d.labels

  abbrev M : Labels
  M = labelled L n stop 0 0 0

  x : Extends L M n
  x = labelled_old L n stop 0 0 0

  head : member_of (i ∷ is) i ≡ true
  head = ap (λ (q : Bool). q || member_of is i) (eq-eqb i i refl)

  end : EndAt L node n i
  end = d.ended i head

  inside : i < n
  inside = end.within

  one_room : RoomIn one places
  one_room = put_room t.table n fake places d.room

  at_new : at two n ≡ fake
  at_new = put_other one i (leads_to_end (at one i) n) n (λ (q : n ≡ i). omega (arith, inside))
      ∙ put_same t.table n fake places d.room more

  at_end : at two i ≡ leads_to_end (node i) n
  at_end = put_same one i (leads_to_end (at one i) n) places one_room (omega (arith, inside))
      ∙ ap (λ (z : EstTime). leads_to_end z n) (put_other t.table n fake i (λ (q : i ≡ n). omega (arith, inside)))

  at_other : (j : ℕ) → j < n → (j ≡ i → ⊥) → at two j ≡ node j
  at_other j h q = put_other one i (leads_to_end (at one i) n) j q
      ∙ put_other t.table n fake j (λ (e : j ≡ n). omega arith)

  column : {A : Type 0} (f : EstTime → A) → f (leads_to_end (node i) n) ≡ f (node i) → (j : ℕ) → j < n
      → f (at two j) ≡ f (node j)
  column f s j h = go (equal_or_not j i)
    where
      go : (j ≡ i) ⊎ (j ≡ i → ⊥) → f (at two j) ≡ f (node j)
      go (inl q) = ap (λ (m : ℕ). f (at two m)) q ∙ ap f at_end ∙ s ∙ ap (λ (m : ℕ). f (node m)) (sym q)
      go (inr q) = ap f (at_other j h q)

  alt_stays : (leads_to_end (node i) n).idx_prev_alt ≡ (node i).idx_prev_alt
  unfolding leads_to_end
  alt_stays = refl

  attached : Attached node (at two) n i
  unfolding leads_to_end fake_node
  attached = record {
    within = inside;
    here = ap (λ (z : EstTime). z.idx_next) at_end;
    other = λ j h q. ap (λ (z : EstTime). z.idx_next) (at_other j h q);
    alt = column (λ (z : EstTime). z.idx_next_alt) refl;
    prev = column (λ (z : EstTime). z.idx_prev) refl;
    kept = record {
      event = column (λ (z : EstTime). z.link_event) refl;
      speed = column (λ (z : EstTime). z.speed) refl;
    };
    prev_alt = λ j h. inl (column (λ (z : EstTime). z.idx_prev_alt) refl j h);
    new_alt = ap (λ (z : EstTime). z.idx_next_alt) at_new;
    new_prev = ap (λ (z : EstTime). z.idx_prev) at_new;
  }

  timed : Timed node (at two) n i
  timed = record {
    time = λ j h q. ap (λ (z : EstTime). z.time_to_next) (at_other j h q);
    distance = λ j h q. ap (λ (z : EstTime). z.dist_to_next) (at_other j h q);
  }

  arc_is : arc_out L i ≡ arc_there M (at two) i
  unfolding arc_out arc_there leads_to_end
  arc_is = λ z. record {
    from = sym (x.owner i inside) z;
    to = sym (ap M.goal attached.here ∙ new_goal L n stop 0 0 0) z;
    time = sym (ap (λ (y : EstTime). y.time_to_next) at_end) z;
    distance = sym (ap (λ (y : EstTime). y.dist_to_next) at_end) z;
  }

  rest : (j : ℕ) → (j ≡ i → ⊥) → member_of is j ≡ member_of (i ∷ is) j
  rest j q = sym (ap (λ (z : Bool). z || member_of is j) (ne_eqb i j (λ (e : i ≡ j). q (sym e))))

  new_fake : (is_fake (at two n) ≡ true) × ((at two n).idx_next ≡ suc n)
  unfolding fake_node blank no_link_event
  new_fake = (ap (λ (z : EstTime). is_fake z) at_new, ap (λ (z : EstTime). z.idx_next) at_new)

  -- each end Fake is the previous alternative of the one after it
  chained : (a : ℕ) → (at two n).idx_prev_alt ≡ a → 0 < a → (a < n) × (receives (L.role a) ≡ true)
  unfolding fake_node
  chained a q r =
      let e : alt ≡ a = sym (ap (λ (z : EstTime). z.idx_prev_alt) at_new) ∙ q in
      subst (λ (j : ℕ). (j < n) × (receives (L.role j) ≡ true)) e (d.before (omega arith))

  -- the end Fake's own indices, and those of the nodes before
  more_linked : Linked (at two) (suc n) (suc (suc n))
  unfolding fake_node
  more_linked = record {
    next = λ j h. next j (below j n h) (equal_or_not j i);
    next_alt = λ j h. next_alt j (below j n h);
    prev = λ j h. prev j (below j n h);
    prev_alt = λ j h. prev_alt j (below j n h) (equal_or_not alt 0);
  }
    where
      next : (j : ℕ) → (j < n) ⊎ (j ≡ n) → (j ≡ i) ⊎ (j ≡ i → ⊥) → (at two j).idx_next < suc (suc n)
      next j (inr e) q = let c : (at two j).idx_next ≡ suc n = ap (λ (m : ℕ). (at two m).idx_next) e ∙ new_fake.1 in
          omega arith
      next j (inl h) (inl q) = let c : (at two j).idx_next ≡ n =
          ap (λ (m : ℕ). (at two m).idx_next) q ∙ attached.here in omega arith
      next j (inl h) (inr q) = let c = attached.other j h q in let l = d.linked.next j h in omega arith

      next_alt : (j : ℕ) → (j < n) ⊎ (j ≡ n) → (at two j).idx_next_alt < suc n
      next_alt j (inr e) = let c : (at two j).idx_next_alt ≡ 0 =
          ap (λ (m : ℕ). (at two m).idx_next_alt) e ∙ attached.new_alt in omega arith
      next_alt j (inl h) = let c = attached.alt j h in let l = d.linked.next_alt j h in omega arith

      prev : (j : ℕ) → (j < n) ⊎ (j ≡ n) → (at two j).idx_prev < suc n
      prev j (inr e) = let c : (at two j).idx_prev ≡ i = ap (λ (m : ℕ). (at two m).idx_prev) e ∙ attached.new_prev in
          let l = inside in omega arith
      prev j (inl h) = let c = attached.prev j h in let l = d.linked.prev j h in omega arith

      named : (at two n).idx_prev_alt ≡ alt
      named = ap (λ (z : EstTime). z.idx_prev_alt) at_new

      prev_alt : (j : ℕ) → (j < n) ⊎ (j ≡ n) → (alt ≡ 0) ⊎ (alt ≡ 0 → ⊥) → (at two j).idx_prev_alt < suc n
      prev_alt j (inr e) (inl z) = let c : (at two j).idx_prev_alt ≡ alt =
          ap (λ (m : ℕ). (at two m).idx_prev_alt) e ∙ named in omega arith
      prev_alt j (inr e) (inr z) = let c : (at two j).idx_prev_alt ≡ alt =
          ap (λ (m : ℕ). (at two m).idx_prev_alt) e ∙ named in let l : alt < n = (d.before (omega arith)).0 in
          omega arith
      prev_alt j (inl h) z = let c : (at two j).idx_prev_alt ≡ (node j).idx_prev_alt =
          column (λ (y : EstTime). y.idx_prev_alt) alt_stays j h in let l = d.linked.prev_alt j h in omega arith

  end_keeps : Ending b places runs arcs k is n (record { table = two; nodes = suc n })
  end_keeps = record {
    labels = M;
    room = put_room one i (leads_to_end (at one i) n) places one_room;
    graph = subst (Graph M (at two) (suc n) is arcs) (omega arith)
        (stop_graph d.graph attached timed (self_base (L.role i) end.self) end.empty
        (λ a q r. chained a q r) is head rest new_fake.0 new_fake.1 arc_is);
    ended = λ j m. ended j m (equal_or_not j i);
    distinct = d.distinct.1;
    closed = λ j h p z. closed j p z (below j n h) (equal_or_not j i);
    notes = notes_more b node (at two) (omega (arith, inside)) (omega arith) attached.kept [] runs arcs d.notes;
    taken = taken_more b node (at two) (omega arith) attached.kept runs d.taken;
    before = λ p. (omega arith, ap receives (new_role L n stop 0 0 0));
    linked = more_linked;
  }
    where
      ended : (j : ℕ) → member_of is j ≡ true → (j ≡ i) ⊎ (j ≡ i → ⊥) → EndAt M (at two) (suc n) j
      ended j m (inl q) = not_both m (ap (member_of is) q ∙ d.distinct.0)
      ended j m (inr q) =
          let o = d.ended j (or_right (eqb i j) (member_of is j) m) in
          let w = o.within in
          record {
            within = omega arith;
            empty = attached.other j o.within q ∙ o.empty;
            self = ap itself (x.role j o.within) ∙ o.self;
          }

      closed : (j : ℕ) → base_role (M.role j) ≡ true → (at two j).idx_next ≡ 0 → (j < n) ⊎ (j ≡ n)
          → (j ≡ i) ⊎ (j ≡ i → ⊥) → member_of is j ≡ true
      closed j p z (inr e) q = not_both p (ap base_role (ap M.role e ∙ new_role L n stop 0 0 0))
      closed j p z (inl h) (inl q) = let c : (at two j).idx_next ≡ n =
          ap (λ (m : ℕ). (at two m).idx_next) q ∙ attached.here in let w = d.graph.laid.two in absurd (omega arith)
      closed j p z (inl h) (inr q) = rest j q ∙ d.closed j h (ap base_role (sym (x.role j h)) ∙ p)
          (sym (attached.other j h q) ∙ z)

-- no end is left
pub record Ended (b : List ℕ) (places : ℕ) (runs : List EndedRun) (arcs : List Arc) (k : ℕ) (t : Network) : Type 0 where
  pub alt : ℕ
  pub ending : Ending b places runs arcs k [] alt t

pub ends_keep : {b : List ℕ} {places : ℕ} {runs : List EndedRun} {arcs : List Arc} {k : ℕ} (is : List ℕ) (alt : ℕ)
    (t : Network) → Ending b places runs arcs k is alt t
    → Holds (Ended b places runs arcs k) (end_fakes places is alt t)
unfolding end_fakes
ends_keep [] alt t d = record { alt = alt; ending = d }
ends_keep {b} {places} {runs} {arcs} {k} (i ∷ is) alt t d =
    holds_then (Ending b places runs arcs k is t.nodes) (Ended b places runs arcs k)
    (room_for (ltb t.nodes places) (record { table = end_table i alt t; nodes = suc t.nodes }))
    (end_fakes places is t.nodes) (go (ltb t.nodes places) refl) (λ u e. ends_keep is t.nodes u e)
  where
    go : (r : Bool) → ltb t.nodes places ≡ r → Holds (Ending b places runs arcs k is t.nodes)
        (room_for r (record { table = end_table i alt t; nodes = suc t.nodes }))
    go true e = end_keeps i is alt t d (ltb-true t.nodes places e)
    go false e = tt
