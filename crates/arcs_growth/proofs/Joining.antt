-- A join keeps the invariant: the last node, the run's own open place, leads to a new Fake at the end of the target's
-- chain, and the run is over.
use mathlib.Core.Path.{◌≡◌, refl, sym, ap, ◌∙◌, subst}
use mathlib.Core.Logic.{◌⊎◌, inl, inr}
use mathlib.Core.Bool.{true, false}
use mathlib.Core.List.{List, [], ◌∷◌}
use Prim.Native.Nat.{ℕ, zero, suc, ◌+◌, ◌-◌, ◌<◌, ◌≤◌}
use native.Mathlib.Omega.{arith}
use lib.Ieee.{binary64, sub}
use Rattle.laws.proofs.Below.{below}
use Rattle.laws.proofs.Truth.{not_both, equal_or_not}
use Rattle.net_node.proofs.Tables.{RoomIn, put_room, put_same, put_other}
use Rattle.net_node.specs.declared.LinkEvent.{LinkEvent}
use Rattle.net_node.specs.declared.EstTime.{EstTime}
use Rattle.net_node.specs.declared.TimedEvent.{TimedEvent}
use Rattle.net_node.specs.Table.{Indexed, blank, no_link_event, Table, put, at, is_fake, fake_kind, with_prev_alt}
use Rattle.net_insertion.specs.Insertion.{linked_to}
use Rattle.net_joins.specs.Joins.{chain_end_as, chain_end, join_fake, join_at, joined_table}
use Rattle.grow_rules.specs.Run.{Net, Run, arc_to, member_of, joined_to}
use Rattle.laws.proofs.Members.{All, all_so}
use Rattle.arcs_growth.proofs.Labels.{event, join, stop, base_role, lands, itself, Labels, Extends, labelled}
use Rattle.arcs_growth.proofs.Labels.{labelled_old, new_role, new_goal}
use Rattle.arcs_growth.proofs.Laid.{Laid}
use Rattle.arcs_growth.proofs.NewNodes.{EventsKept, Attached, apart}
use Rattle.arcs_growth.proofs.Weights.{arc_there}
use Rattle.arcs_growth.proofs.Graphs.{Graph, Timed, join_graph}
use Rattle.arcs_growth.proofs.Bodies.{Chains, EndAt, self_base}
use Rattle.arcs_growth.proofs.Invariant.{Grows, Stands, Owned, Tip, Last, Waits, Later, stands_more, owned_popped}
use Rattle.arcs_growth.proofs.Insertions.{real_event}
use Rattle.arcs_growth.proofs.Writes.{put_column}

-- ---- the end of a chain of previous alternatives

pub record ChainEnd (L : Labels) (node : ℕ → EstTime) (n i c : ℕ) : Type 0 where
  pub within : c < n
  pub lands : lands (L.role c) ≡ true
  pub goal : L.goal c ≡ L.goal i
  pub empty : (node c).idx_prev_alt ≡ 0

chain_end_lem : {L : Labels} {node : ℕ → EstTime} {n : ℕ} → Indexed node n → Chains L node n → (k i : ℕ) → i < n
    → n ≤ k + i → lands (L.role i) ≡ true → ChainEnd L node n i (chain_end k node i)
unfolding chain_end
chain_end_lem w f zero i h l r = absurd (omega arith)
chain_end_lem {L} {node} {n} w f (suc k) i h l r = go (node i).idx_prev_alt refl (chain_end_lem w f k)
  where
    go : (a : ℕ) → (node i).idx_prev_alt ≡ a → ((j : ℕ) → j < n → n ≤ k + j → lands (L.role j) ≡ true
        → ChainEnd L node n j (chain_end k node j)) → ChainEnd L node n i (chain_end_as a i (chain_end k node))
    go zero e ih = record { within = h; lands = r; goal = refl; empty = e }
    go (suc a) e ih =
        let c = f i (suc a) h e (omega arith) r in
        let p : suc a < n = subst (λ (m : ℕ). m < n) e (w.prev_alt i h) in
        let q : i < suc a = subst (λ (m : ℕ). i < m) e
        (w.prev_alt_rises i h (subst (λ (m : ℕ). 0 < m) (sym e) (omega arith))) in
        let d = ih (suc a) p (omega arith) c.0 in
        record { within = d.within; lands = d.lands; goal = d.goal ∙ c.1; empty = d.empty }

-- ---- the table

module _ (t : Table) (n places c : ℕ) (e : TimedEvent) (room : RoomIn t places) (some : 0 < n) (more : n < places)
    (h : c < n) where
  abbrev last : ℕ
  last = n - 1

  abbrev one : Table
  one = put t c (with_prev_alt (at t c) n)

  abbrev two : Table
  two = put one n (join_fake c last)

  abbrev three : Table
  three = put two last (linked_to (at two last) n e)

  one_room : RoomIn one places
  one_room = put_room t c (with_prev_alt (at t c) n) places room

  two_room : RoomIn two places
  two_room = put_room one n (join_fake c last) places one_room

  three_room : RoomIn three places
  three_room = put_room two last (linked_to (at two last) n e) places two_room

  three_new : at three n ≡ join_fake c last
  three_new = put_other two last (linked_to (at two last) n e) n (λ (q : n ≡ last). omega arith)
      ∙ put_same one n (join_fake c last) places one_room more

  three_last : at three last ≡ linked_to (at one last) n e
  three_last =
      put_same two last (linked_to (at two last) n e) places two_room (omega arith)
      ∙ ap (λ (x : EstTime). linked_to x n e) (put_other one n (join_fake c last) last (λ (q : last ≡ n). omega arith))

  three_other : (j : ℕ) → j < n → (j ≡ last → ⊥) → at three j ≡ at one j
  three_other j l d = put_other two last (linked_to (at two last) n e) j d
      ∙ put_other one n (join_fake c last) j (λ (q : j ≡ n). omega arith)

  -- a column that both leave alone
  three_column : {A : Type 0} (f : EstTime → A) → f (linked_to (at one last) n e) ≡ f (at one last)
      → f (with_prev_alt (at t c) n) ≡ f (at t c) → (j : ℕ) → j < n → f (at three j) ≡ f (at t j)
  three_column f p q j l = go (equal_or_not j last)
      ∙ put_column f t c (with_prev_alt (at t c) n) places room (omega arith) q j
    where
      go : (j ≡ last) ⊎ (j ≡ last → ⊥) → f (at three j) ≡ f (at one j)
      go (inl r) = ap (λ (k : ℕ). f (at three k)) r ∙ ap f three_last ∙ p ∙ ap (λ (k : ℕ). f (at one k)) (sym r)
      go (inr d) = ap f (three_other j l d)

  -- a column that only the link to a next changes
  next_column : {A : Type 0} (f : EstTime → A) → f (with_prev_alt (at t c) n) ≡ f (at t c) → (j : ℕ) → j < n
      → (j ≡ last → ⊥) → f (at three j) ≡ f (at t j)
  next_column f q j l d = ap f (three_other j l d)
      ∙ put_column f t c (with_prev_alt (at t c) n) places room (omega arith) q j

  prev_alt_here : (at three c).idx_prev_alt ≡ n
  unfolding linked_to
  prev_alt_here = go (equal_or_not c last) ∙ ap (λ (x : EstTime). x.idx_prev_alt)
      (put_same t c (with_prev_alt (at t c) n) places room (omega arith))
    where
      go : (c ≡ last) ⊎ (c ≡ last → ⊥) → (at three c).idx_prev_alt ≡ (at one c).idx_prev_alt
      go (inl r) = ap (λ (k : ℕ). (at three k).idx_prev_alt) r ∙ ap (λ (x : EstTime). x.idx_prev_alt) three_last
          ∙ ap (λ (k : ℕ). (at one k).idx_prev_alt) (sym r)
      go (inr d) = ap (λ (x : EstTime). x.idx_prev_alt) (three_other c h d)

  prev_alt_other : (j : ℕ) → j < n → (j ≡ c → ⊥) → (at three j).idx_prev_alt ≡ (at t j).idx_prev_alt
  unfolding linked_to
  prev_alt_other j l d = go (equal_or_not j last)
      ∙ ap (λ (x : EstTime). x.idx_prev_alt) (put_other t c (with_prev_alt (at t c) n) j d)
    where
      go : (j ≡ last) ⊎ (j ≡ last → ⊥) → (at three j).idx_prev_alt ≡ (at one j).idx_prev_alt
      go (inl r) = ap (λ (k : ℕ). (at three k).idx_prev_alt) r ∙ ap (λ (x : EstTime). x.idx_prev_alt) three_last
          ∙ ap (λ (k : ℕ). (at one k).idx_prev_alt) (sym r)
      go (inr o) = ap (λ (x : EstTime). x.idx_prev_alt) (three_other j l o)

  join_attached : Attached (at t) (at three) n last
  unfolding linked_to join_fake
  join_attached = record {
    within = omega arith;
    here = ap (λ (x : EstTime). x.idx_next) three_last;
    other = next_column (λ (x : EstTime). x.idx_next) refl;
    alt = three_column (λ (x : EstTime). x.idx_next_alt) refl refl;
    prev = three_column (λ (x : EstTime). x.idx_prev) refl refl;
    kept = record {
      event = three_column (λ (x : EstTime). x.link_event) refl refl;
      speed = three_column (λ (x : EstTime). x.speed) refl refl;
    };
    prev_alt = λ j l. chained j l (equal_or_not j c);
    new_alt = ap (λ (x : EstTime). x.idx_next_alt) three_new;
    new_prev = ap (λ (x : EstTime). x.idx_prev) three_new;
  }
    where
      chained : (j : ℕ) → j < n → (j ≡ c) ⊎ (j ≡ c → ⊥)
          → ((at three j).idx_prev_alt ≡ (at t j).idx_prev_alt) ⊎ ((at three j).idx_prev_alt ≡ n)
      chained j l (inl q) = inr (ap (λ (k : ℕ). (at three k).idx_prev_alt) q ∙ prev_alt_here)
      chained j l (inr d) = inl (prev_alt_other j l d)

  join_timed : Timed (at t) (at three) n last
  join_timed = record {
    time = next_column (λ (x : EstTime). x.time_to_next) refl;
    distance = next_column (λ (x : EstTime). x.dist_to_next) refl;
  }

  join_last : ((at three last).time_to_next ≡ sub binary64 e.time (at t last).time_to_next)
      × ((at three last).dist_to_next ≡ sub binary64 e.offset (at t last).dist_to_next)
  unfolding linked_to
  join_last = (
    ap (λ (x : EstTime). x.time_to_next) three_last
        ∙ ap (sub binary64 e.time) (put_column (λ (x : EstTime). x.time_to_next) t c
        (with_prev_alt (at t c) n) places room (omega arith) refl last),
    ap (λ (x : EstTime). x.dist_to_next) three_last
        ∙ ap (sub binary64 e.offset) (put_column (λ (x : EstTime). x.dist_to_next) t c
        (with_prev_alt (at t c) n) places room (omega arith) refl last),
  )

  join_new : (is_fake (at three n) ≡ true) × (((at three n).idx_next ≡ c) × ((at three n).idx_prev_alt ≡ 0))
  unfolding join_fake blank no_link_event
  join_new = (
    ap (λ (x : EstTime). is_fake x) three_new,
    (ap (λ (x : EstTime). x.idx_next) three_new, ap (λ (x : EstTime). x.idx_prev_alt) three_new),
  )

  join_indexed : Indexed (at t) n → Indexed (at three) (suc n)
  join_indexed w = record {
    next = λ i l. next i (below i n l);
    next_alt = λ i l. alt i (below i n l);
    prev = λ i l. prev i (below i n l);
    prev_alt = λ i l. prev_alt i (below i n l);
    next_alt_rises = λ i l p. alt_rises i p (below i n l);
    prev_alt_rises = λ i l p. prev_alt_rises i p (below i n l);
  }
    where
      a : Attached (at t) (at three) n last
      a = join_attached

      next : (i : ℕ) → (i < n) ⊎ (i ≡ n) → (at three i).idx_next < suc n
      next i (inl l) = go (equal_or_not i last)
        where
          go : (i ≡ last) ⊎ (i ≡ last → ⊥) → (at three i).idx_next < suc n
          go (inl q) = let z : (at three i).idx_next ≡ n = ap (λ (k : ℕ). (at three k).idx_next) q ∙ a.here in
              omega arith
          go (inr d) = let z = a.other i l d in let y = w.next i l in omega arith
      next i (inr q) = let z : (at three i).idx_next ≡ c = ap (λ (k : ℕ). (at three k).idx_next) q ∙ join_new.1.0 in
          omega arith

      alt : (i : ℕ) → (i < n) ⊎ (i ≡ n) → (at three i).idx_next_alt < suc n
      alt i (inl l) = let z = a.alt i l in let y = w.next_alt i l in omega arith
      alt i (inr q) = let z : (at three i).idx_next_alt ≡ 0 = ap (λ (k : ℕ). (at three k).idx_next_alt) q ∙ a.new_alt in
          omega arith

      prev : (i : ℕ) → (i < n) ⊎ (i ≡ n) → (at three i).idx_prev < suc n
      prev i (inl l) = let z = a.prev i l in let y = w.prev i l in omega arith
      prev i (inr q) = let z : (at three i).idx_prev ≡ last = ap (λ (k : ℕ). (at three k).idx_prev) q ∙ a.new_prev in
          omega arith

      prev_alt : (i : ℕ) → (i < n) ⊎ (i ≡ n) → (at three i).idx_prev_alt < suc n
      prev_alt i (inl l) = go (equal_or_not i c)
        where
          go : (i ≡ c) ⊎ (i ≡ c → ⊥) → (at three i).idx_prev_alt < suc n
          go (inl q) = let z : (at three i).idx_prev_alt ≡ n =
              ap (λ (k : ℕ). (at three k).idx_prev_alt) q ∙ prev_alt_here in omega arith
          go (inr d) = let z = prev_alt_other i l d in let y = w.prev_alt i l in omega arith
      prev_alt i (inr q) = let z : (at three i).idx_prev_alt ≡ 0 =
          ap (λ (k : ℕ). (at three k).idx_prev_alt) q ∙ join_new.1.1 in omega arith

      alt_rises : (i : ℕ) → 0 < (at three i).idx_next_alt → (i < n) ⊎ (i ≡ n) → i < (at three i).idx_next_alt
      alt_rises i p (inl l) = subst (λ (k : ℕ). i < k) (sym (a.alt i l))
          (w.next_alt_rises i l (subst (λ (k : ℕ). 0 < k) (a.alt i l) p))
      alt_rises i p (inr q) = let z : (at three i).idx_next_alt ≡ 0 =
          ap (λ (k : ℕ). (at three k).idx_next_alt) q ∙ a.new_alt in absurd (omega arith)

      prev_alt_rises : (i : ℕ) → 0 < (at three i).idx_prev_alt → (i < n) ⊎ (i ≡ n) → i < (at three i).idx_prev_alt
      prev_alt_rises i p (inl l) = go (equal_or_not i c)
        where
          go : (i ≡ c) ⊎ (i ≡ c → ⊥) → i < (at three i).idx_prev_alt
          go (inl q) = let z : (at three i).idx_prev_alt ≡ n =
              ap (λ (k : ℕ). (at three k).idx_prev_alt) q ∙ prev_alt_here in omega arith
          go (inr d) = subst (λ (k : ℕ). i < k) (sym (prev_alt_other i l d))
              (w.prev_alt_rises i l (subst (λ (k : ℕ). 0 < k) (prev_alt_other i l d) p))
      prev_alt_rises i p (inr q) = let z : (at three i).idx_prev_alt ≡ 0 =
          ap (λ (k : ℕ). (at three k).idx_prev_alt) q ∙ join_new.1.1 in absurd (omega arith)

-- ---- the invariant

pub record Joins (L : Labels) (places : ℕ) (net : Net) (saved : List Run) (more : Net) : Type 0 where
  pub labels : Labels
  pub later : Later L labels net more
  pub grows : Grows labels places more
  pub waits : Waits labels more saved
  pub kept : EventsKept net.nodes (at net.table) (at more.table)

pub owned_with : {L M : Labels} {n i : ℕ} → Extends L M n → i < n → (runs : List Run) → Owned L i runs → Owned M i runs
owned_with x h [] o = o
owned_with x h (r ∷ runs) (inl q) = inl q
owned_with {i = i} x h (r ∷ runs) (inr q) = inr (x.depth i h ∙ q.0, q.1)

pub last_popped : (net : Net) (saved : List Run) → All (λ (s : Run). s.has_split ≡ false) saved → Last net saved
last_popped net [] h = tt
last_popped net (s ∷ saved) h = (λ w. not_both w h.0, h.1)

module _ {L : Labels} {places : ℕ} {net : Net} {run : Run} {saved : List Run} (g : Grows L places net)
    (u : Waits L net (run ∷ saved)) (tip : Tip net run) (e : TimedEvent) (target : ℕ)
    (inside : target < net.nodes) (same : (at net.table target).link_event ≡ e.link_event)
    (real : fake_kind e.link_event.est_type ≡ false) (room : net.nodes < places) where
  abbrev t : Table
  t = net.table

  abbrev n : ℕ
  n = net.nodes

  abbrev p : ℕ
  p = run.place.idx_prev

  v : Laid L (at t) n
  v = g.body.graph.laid

  s : Stands L net run
  s = u.stand.0

  role_is : L.role target ≡ event
  role_is = real_event (L.role target) (sym (v.each target inside).kind
      ∙ ap (λ (x : LinkEvent). fake_kind x.est_type) same ∙ real)

  abbrev c : ℕ
  c = chain_end n (at t) target

  chain : ChainEnd L (at t) n target c
  chain = chain_end_lem g.body.indexed g.body.chains n target inside (omega arith) (ap lands role_is)

  some_nodes : 0 < n
  some_nodes = omega (arith, v.two)

  abbrev after : Table
  after = three t n places c e g.body.room some_nodes room chain.within

  last_is : n - 1 ≡ p
  last_is = let q = tip.last in omega arith

  abbrev M : Labels
  M = labelled L n join 0 (L.goal c) 0

  x : Extends L M n
  x = labelled_old L n join 0 (L.goal c) 0

  m : M.role n ≡ join
  m = new_role L n join 0 (L.goal c) 0

  attached : Attached (at t) (at after) n (n - 1)
  attached = join_attached t n places c e g.body.room some_nodes room chain.within

  timed : Timed (at t) (at after) n (n - 1)
  timed = join_timed t n places c e g.body.room some_nodes room chain.within

  last_base : base_role (L.role (n - 1)) ≡ true
  last_base = ap (λ (k : ℕ). base_role (L.role k)) last_is ∙ self_base (L.role p) s.self

  last_empty : (at t (n - 1)).idx_next ≡ 0
  last_empty = ap (λ (k : ℕ). (at t k).idx_next) last_is ∙ tip.empty

  last_out : member_of net.ends (n - 1) ≡ false
  last_out = ap (member_of net.ends) last_is ∙ tip.no_end

  held : ((at t (n - 1)).time_to_next ≡ run.place.time_to_next) × ((at t (n - 1)).dist_to_next ≡ run.place.dist_to_next)
  held = subst (λ (k : ℕ). ((at t k).time_to_next ≡ run.place.time_to_next)
      × ((at t k).dist_to_next ≡ run.place.dist_to_next)) (sym last_is) (s.holds tip.empty tip.no_end)

  arc_is : arc_to run.place target e ≡ arc_there M (at after) (n - 1)
  unfolding arc_to arc_there
  arc_is = λ z. record {
    from = (sym (x.owner (n - 1) (omega arith) ∙ ap L.owner last_is ∙ (v.each p s.within).own s.self)) z;
    to = (sym (ap M.goal attached.here ∙ new_goal L n join 0 (L.goal c) 0 ∙ chain.goal
        ∙ ((v.each target inside).events role_is).goal)) z;
    time = (ap (sub binary64 e.time) (sym held.0)
        ∙ sym (join_last t n places c e g.body.room some_nodes room chain.within).0) z;
    distance = (ap (sub binary64 e.offset) (sym held.1)
        ∙ sym (join_last t n places c e g.body.room some_nodes room chain.within).1) z;
  }

  stops : (j : ℕ) → M.role j ≡ stop → (j < n) ⊎ (j ≡ n) → ⊥
  stops j q (inl l) = g.body.no_stops j l (sym (x.role j l) ∙ q)
  stops j q (inr y) = apart lands (ap M.role y ∙ m) q refl refl

  chains : (j a : ℕ) → (at after j).idx_prev_alt ≡ a → 0 < a → lands (M.role j) ≡ true → (j < n) ⊎ (j ≡ n)
      → (lands (M.role a) ≡ true) × (M.goal a ≡ M.goal j)
  chains j a q r y (inl l) = go (equal_or_not j c)
    where
      go : (j ≡ c) ⊎ (j ≡ c → ⊥) → (lands (M.role a) ≡ true) × (M.goal a ≡ M.goal j)
      go (inl z) =
          let d : a ≡ n = sym q ∙ ap (λ (k : ℕ). (at after k).idx_prev_alt) z
          ∙ prev_alt_here t n places c e g.body.room some_nodes room chain.within in (
            ap (λ (k : ℕ). lands (M.role k)) d ∙ ap lands m,
            ap M.goal d ∙ new_goal L n join 0 (L.goal c) 0
                ∙ sym (x.goal c chain.within) ∙ ap M.goal (sym z),
          )
      go (inr z) =
          let o : (at t j).idx_prev_alt ≡ a = sym (prev_alt_other t n places c e g.body.room some_nodes room
          chain.within j l z) ∙ q in
          let w : a < n = subst (λ (k : ℕ). k < n) o (g.body.indexed.prev_alt j l) in
          let d = g.body.chains j a l o r (ap lands (sym (x.role j l)) ∙ y) in
          (ap lands (x.role a w) ∙ d.0, x.goal a w ∙ d.1 ∙ sym (x.goal j l))
  chains j a q r y (inr z) =
      let d : (at after n).idx_prev_alt ≡ a = ap (λ (k : ℕ). (at after k).idx_prev_alt) (sym z) ∙ q in
      let f = (join_new t n places c e g.body.room some_nodes room chain.within).1.1 in
      absurd (omega arith)

  ending : (j : ℕ) → member_of net.ends j ≡ true → EndAt L (at t) n j → EndAt M (at after) (suc n) j
  ending j o f =
      let w = f.within in
      record {
        within = omega arith;
        empty = attached.other j f.within
            (λ (q : j ≡ n - 1). not_both o (ap (member_of net.ends) q ∙ last_out)) ∙ f.empty;
        self =
            ap itself (x.role j f.within) ∙ f.self;
      }

  -- the last node has a next now
  closed : (j : ℕ) → j ≡ n - 1 → (at after j).idx_next ≡ 0 → ⊥
  closed j q f = let z : (at after j).idx_next ≡ n = ap (λ (k : ℕ). (at after k).idx_next) q ∙ attached.here in
      omega (arith, some_nodes)

  still : (j : ℕ) → j < n → (at after j).idx_next ≡ 0 → (j ≡ n - 1) ⊎ (j ≡ n - 1 → ⊥)
      → ((at t j).idx_next ≡ 0) × (((at after j).time_to_next ≡ (at t j).time_to_next)
      × ((at after j).dist_to_next ≡ (at t j).dist_to_next))
  still j l f (inl q) = absurd (closed j q f)
  still j l f (inr q) = (sym (attached.other j l q) ∙ f, (timed.time j l q, timed.distance j l q))

  pub join_keeps : Joins L places net saved (joined_to net run e target)
  unfolding joined_to joined_table join_at
  join_keeps = record {
    labels = M;
    later = later;
    grows = record {
      body = record {
        room = three_room t n places c e g.body.room some_nodes room chain.within;
        indexed = join_indexed t n places c e g.body.room some_nodes room chain.within g.body.indexed;
        graph = subst (Graph M (at after) (suc n) net.ends (arc_to run.place target e ∷ net.noted)) (omega arith)
            (join_graph g.body.graph attached timed last_base last_empty
            (λ a q r. absurd (unchained a q r)) g.body.no_stops last_out c chain.within chain.lands fresh.0 fresh.1.0
            (arc_to run.place target e) arc_is);
        no_stops = λ j l q. stops j q (below j n l);
        chains = λ j a l q r y. chains j a q r y (below j n l);
        ended = λ j o. ending j o (g.body.ended j o);
        bottom = x.depth 1 v.two ∙ g.body.bottom;
      };
      within = omega arith;
      count = let k = g.count in omega arith;
      ended = let k = g.ended in omega arith;
      distinct = g.distinct;
    };
    waits = record {
      owned = λ j l b z o. owned j b z o (below j n l);
      stand = all_so (Stands L net) (Stands M more) (stands_more later) saved u.stand.1;
      last = last_popped more saved u.last.1;
    };
    kept = attached.kept;
  }
    where
      more : Net
      more = joined_to net run e target

      fresh : (is_fake (at after n) ≡ true) × (((at after n).idx_next ≡ c) × ((at after n).idx_prev_alt ≡ 0))
      fresh = join_new t n places c e g.body.room some_nodes room chain.within

      unchained : (a : ℕ) → (at after n).idx_prev_alt ≡ a → 0 < a → ⊥
      unchained a q r = let z = fresh.1.1 in omega arith

      later : Later L M net more
      later = record {
        labels = x;
        nodes = omega arith;
        ends = λ j q. q;
        still = λ j l f. still j l f (equal_or_not j (n - 1));
      }

      owned : (j : ℕ) → base_role (M.role j) ≡ true → (at after j).idx_next ≡ 0 → member_of net.ends j ≡ false
          → (j < n) ⊎ (j ≡ n) → Owned M j saved
      owned j b z o (inl l) =
          owned_with x l saved
          (owned_popped L run saved (u.owned j l (ap base_role (sym (x.role j l)) ∙ b)
          (still j l z (equal_or_not j (n - 1))).0 o) (λ (q : j ≡ p). closed j (q ∙ sym last_is) z))
      owned j b z o (inr y) = not_both b (ap base_role (ap M.role y ∙ m))
