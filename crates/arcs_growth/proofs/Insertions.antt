-- An insertion keeps the invariant: the run moves, or the event is added behind its place, or behind a new split's Fake
-- of its place.
use mathlib.Core.Path.{◌≡◌, refl, sym, ap, ◌∙◌, subst}
use mathlib.Core.Logic.{◌⊎◌, inl, inr}
use mathlib.Core.Bool.{Bool, true, false}
use mathlib.Core.List.{List, ◌∷◌}
use Prim.Native.Nat.{ℕ, suc, ◌+◌, ◌<◌}
use native.Mathlib.Numerals.{add-one}
use native.Mathlib.Omega.{arith}
use lib.Dec.{eqb}
use borrow.Author.Tests.{eqb-true}
use lib.Ieee.{Float, binary64, sub, lt}
use Rattle.laws.proofs.Below.{below}
use Rattle.laws.proofs.Truth.{not_both, and_left, and_right, equal_or_not}
use Rattle.laws.proofs.Answers.{Holds}
use Rattle.floats.specs.Floats.{gap}
use Rattle.net_node.specs.declared.LinkEvent.{LinkEvent}
use Rattle.net_node.specs.declared.EstTime.{EstTime}
use Rattle.net_node.specs.declared.TimedEvent.{TimedEvent}
use Rattle.net_node.specs.Table.{same_event, same_kind, kind_number, kind_of, Table, at, fake_kind, with_next_alt}
use Rattle.net_node.proofs.Columns.{kind_back}
use Rattle.net_insertion.specs.declared.Place.{Place}
use Rattle.std.specs.Prelude.{Result, Ok, Err}
use Rattle.net_insertion.specs.declared.Insertion.{Insertion}
use Rattle.net_insertion.specs.declared.Insertion.TheVariants.{Added, Moved}
use Rattle.refusals.specs.declared.Refusal.{Refusal}
use Rattle.net_insertion.specs.Insertion.{matches, place_at, add_behind, split_at, inserted, inserted_table}
use Rattle.grow_rules.specs.Run.{Net, Run, After, arc_to, added_to, nodes_to, moved_to, member_of, inserted_run}
use Rattle.grow_rules.specs.Run.{insert_event}
use Rattle.laws.proofs.Members.{some_all}
use Rattle.arcs_growth.proofs.Labels.{Role, nought, start, event, split, join, stop, fake_role, base_role, itself}
use Rattle.arcs_growth.proofs.Labels.{Labels, Extends, labelled, labelled_old, new_role, new_owner, new_depth}
use Rattle.arcs_growth.proofs.Laid.{EventOf, NextOf, Laid}
use Rattle.arcs_growth.proofs.NewNodes.{EventsKept, Attached}
use Rattle.arcs_growth.proofs.Graphs.{Timed}
use Rattle.arcs_growth.proofs.Seeks.{Reached, Came, insertion_came}
use Rattle.arcs_growth.proofs.Bodies.{Body, self_base, new_end, event_body, split_body, add_attached, add_timed}
use Rattle.arcs_growth.proofs.Bodies.{add_event, add_speed, add_empty, add_held, split_column, split_empty, split_held}
use Rattle.arcs_growth.proofs.Invariant.{Grows, Stands, Owned, Tip, Waits, Later, listed_more, waits_added}

-- ---- events that are equal

pub same_event_lem : (a b : LinkEvent) → same_event a b ≡ true → a ≡ b
unfolding same_event same_kind
same_event_lem a b e =
    let l : a.link_idx ≡ b.link_idx = eqb-true a.link_idx b.link_idx
    (and_left (eqb a.link_idx b.link_idx) (same_kind a.est_type b.est_type) e) in
    let k : kind_number a.est_type ≡ kind_number b.est_type =
    eqb-true (kind_number a.est_type) (kind_number b.est_type)
    (and_right (eqb a.link_idx b.link_idx) (same_kind a.est_type b.est_type) e) in
    let m : a.est_type ≡ b.est_type = sym (kind_back a.est_type) ∙ ap kind_of k ∙ kind_back b.est_type in
    λ i. record { link_idx = l i; est_type = m i }

pub match_event : (limit : Float) (e : TimedEvent) (x : EstTime) → matches limit e x ≡ true
    → x.link_event ≡ e.link_event
unfolding matches
match_event limit e x h = same_event_lem x.link_event e.link_event
    (and_left (same_event x.link_event e.link_event) (lt (gap e.speed x.speed) limit) h)

pub match_near : (limit : Float) (e : TimedEvent) (x : EstTime) → matches limit e x ≡ true
    → lt (gap e.speed x.speed) limit ≡ true
unfolding matches
match_near limit e x h = and_right (same_event x.link_event e.link_event) (lt (gap e.speed x.speed) limit) h

pub real_event : (r : Role) → fake_role r ≡ false → r ≡ event
real_event nought e = not_both refl e
real_event start e = not_both refl e
real_event event e = refl
real_event split e = not_both refl e
real_event join e = not_both refl e
real_event stop e = not_both refl e

-- ---- what holds after it

pub record Inserts (L : Labels) (places : ℕ) (net : Net) (run : Run) (saved : List Run) (limit : Float) (e : TimedEvent)
    (a : After) : Type 0 where
  pub labels : Labels
  pub later : Later L labels net a.net
  pub grows : Grows labels places a.net
  pub waits : Waits labels a.net (a.run ∷ saved)
  pub closes : 0 < (at a.net.table run.place.idx_prev).idx_next
  pub kept : EventsKept net.nodes (at net.table) (at a.net.table)
  pub here : (at a.net.table a.run.place.idx_prev).link_event ≡ e.link_event
  pub near : ((at a.net.table a.run.place.idx_prev).speed ≡ e.speed)
      ⊎ (lt (gap e.speed (at a.net.table a.run.place.idx_prev).speed) limit ≡ true)
  pub nodes : a.run.nodes ≡ nodes_to run a.run.place.idx_prev
  pub runs : a.net.runs ≡ net.runs
  pub time : a.run.place.time_to_next ≡ e.time
  pub distance : a.run.place.dist_to_next ≡ e.offset
  pub leg : a.run.leg ≡ run.leg
  pub deeper : labels.depth a.run.place.idx_prev ≡ suc (L.depth run.place.idx_prev)
  pub noted : (a.net.noted ≡ net.noted) ⊎ (a.net.noted ≡ arc_to run.place a.run.place.idx_prev e ∷ net.noted)

-- a next that matches is not open, or ends a run, or holds the event's own numbers
abbrev pub Safe : Labels → Net → ℕ → Float → TimedEvent → Type 0
Safe L net p limit e = (from : ℕ) → Reached L (at net.table) net.nodes p from → 0 < (at net.table from).idx_next
    → matches limit e (at net.table (at net.table from).idx_next) ≡ true
    → (at net.table (at net.table from).idx_next).idx_next ≡ 0 → member_of net.ends (at net.table from).idx_next ≡ false
    → ((at net.table (at net.table from).idx_next).time_to_next ≡ e.time)
    × ((at net.table (at net.table from).idx_next).dist_to_next ≡ e.offset)

module _ {L : Labels} {places : ℕ} {net : Net} {run : Run} {saved : List Run} (g : Grows L places net)
    (u : Waits L net (run ∷ saved)) (limit : Float) (e : TimedEvent)
    (real : fake_kind e.link_event.est_type ≡ false) where
  abbrev t : Table
  t = net.table

  abbrev n : ℕ
  n = net.nodes

  abbrev p : ℕ
  p = run.place.idx_prev

  abbrev ends : ℕ → Bool
  ends = member_of net.ends

  s : Stands L net run
  s = u.stand.0

  v : Laid L (at t) n
  v = g.body.graph.laid

  p_base : base_role (L.role p) ≡ true
  p_base = self_base (L.role p) s.self

  p_own : L.owner p ≡ p
  p_own = (v.each p s.within).own s.self

  -- a split's Fake is never open between insertions
  split_closed : (i : ℕ) → i < n → L.role i ≡ split → (at t i).idx_next ≡ 0 → ends i ≡ false → ⊥
  split_closed i h r z o = go (u.owned i h (ap base_role r) z o)
    where
      not_self : (k : ℕ) → i ≡ k → itself (L.role k) ≡ true → ⊥
      not_self k q m = not_both m (ap (λ (j : ℕ). itself (L.role j)) (sym q) ∙ ap itself r)

      go : Owned L i (run ∷ saved) → ⊥
      go (inl q) = not_self p q s.self
      go (inr q) = some_all (λ (x : Run). i ≡ x.place.idx_prev) (Stands L net) ⊥ saved q.1 u.stand.1
          (λ x w y. not_self x.place.idx_prev w y.self)

  -- ---- the run moves

  moved : Safe L net p limit e → (from : ℕ) → Reached L (at t) n p from → 0 < (at t from).idx_next
      → 0 < (at t p).idx_next → matches limit e (at t (at t from).idx_next) ≡ true
      → Inserts L places net run saved limit e (record {
        net = net;
        run = moved_to run (place_at (at t from).idx_next e) run.has_split;
      })
  unfolding moved_to place_at
  moved safe from r some first same =
      let y : ℕ = (at t from).idx_next in
      let o : NextOf L (at t) n from y = (v.each from r.within).next y refl some r.base in
      let c : (at t y).link_event ≡ e.link_event = match_event limit e (at t y) same in
      let m : L.role y ≡ event = real_event (L.role y)
      (sym (v.each y o.inside).kind ∙ ap (λ (z : LinkEvent). fake_kind z.est_type) c ∙ real) in
      let f : EventOf L (at t) y = (v.each y o.inside).events m in
      record {
        labels = L;
        later = record {
          labels = record {
            role = λ i h. refl;
            owner = λ i h. refl;
            goal = λ i h. refl;
            depth = λ i h. refl;
          };
          nodes = omega arith;
          ends = λ i o. o;
          still = λ i h z. (z, (refl, refl));
        };
        grows = g;
        waits = record {
          owned = λ i h b z w. go i z (u.owned i h b z w);
          stand = (
            record {
              within = o.inside;
              self = ap itself m;
              holds = λ z w. safe from r some same z w;
              listed = s.listed;
            },
            u.stand.1,
          );
          last = (λ w. absurd (tipped (u.last.0 w)), u.last.1);
        };
        closes = first;
        kept = record { event = λ i h. refl; speed = λ i h. refl };
        here = c;
        near = inr (match_near limit e (at t y) same);
        nodes = refl;
        runs = refl;
        time = refl;
        distance = refl;
        leg = refl;
        deeper = f.depth from o.back ∙ ap (λ (k : ℕ). suc (L.depth k)) (r.owner ∙ p_own);
        noted = inl refl;
      }
    where
      tipped : Tip net run → ⊥
      tipped w = let q = w.empty in omega arith

      go : (i : ℕ) → (at t i).idx_next ≡ 0 → Owned L i (run ∷ saved)
          → Owned L i (moved_to run (place_at (at t from).idx_next e) run.has_split ∷ saved)
      go i z (inl q) = let d : (at t p).idx_next ≡ 0 = ap (λ (k : ℕ). (at t k).idx_next) (sym q) ∙ z in
          absurd (omega arith)
      go i z (inr q) = inr q

  -- ---- the event is added behind the run's place

  opened : (i : ℕ) → Reached L (at t) n p i → (at t i).idx_next ≡ 0 → ends i ≡ false → n < places
      → Inserts L places net run saved limit e (record {
        net = added_to net (add_behind t i n e) (place_at n e) false (arc_to run.place n e);
        run = moved_to run (place_at n e) true;
      })
  unfolding added_to moved_to place_at arc_to
  opened i r z o room = record {
    labels = M;
    later = later;
    grows = record {
      body = subst (Body M places (add_behind t i n e) (suc n) net.ends (arc_to run.place n e ∷ net.noted))
          (omega arith)
          (event_body g.body i h room e r.base z o real (arc_to run.place n e) (sym (r.owner ∙ p_own)) refl
          (ap (sub binary64 e.time) (sym held.0)) (ap (sub binary64 e.offset) (sym held.1)));
      within = omega arith;
      count = let c = g.count in omega arith;
      ended = g.ended;
      distinct = g.distinct;
    };
    waits = waits_added run saved u more later next which
        (record {
          within = omega arith;
          self = ap itself m;
          holds = λ a b. add_held g.body i h room e;
          listed = listed_more n (suc n) (omega arith) run.joins s.listed;
        })
        (record { last = refl; empty = add_empty g.body i h room e; no_end = new_end g.body n (omega arith) });
    closes = subst (λ (k : ℕ). 0 < k) (sym (ap (λ (k : ℕ). (at (add_behind t i n e) k).idx_next) (sym is_place)
        ∙ a.here)) (omega (arith, v.two));
    kept = a.kept;
    here = add_event g.body i h room e;
    near = inl (add_speed g.body i h room e);
    nodes = refl;
    runs = refl;
    time = refl;
    distance = refl;
    leg = refl;
    deeper = new_depth L n event n n d ∙ ap (λ (k : ℕ). suc (L.depth k)) (r.owner ∙ p_own);
    noted = inr refl;
  }
    where
      h : i < n
      h = r.within

      d : ℕ
      d = suc (L.depth (L.owner i))

      M : Labels
      M = labelled L n event n n d

      x : Extends L M n
      x = labelled_old L n event n n d

      m : M.role n ≡ event
      m = new_role L n event n n d

      a : Attached (at t) (at (add_behind t i n e)) n i
      a = add_attached g.body i h room e

      more : Net
      more = added_to net (add_behind t i n e) (place_at n e) false (arc_to run.place n e)

      next : Run
      next = moved_to run (place_at n e) true

      is_place : i ≡ p
      is_place = go r.which
        where
          go : (i ≡ p) ⊎ ((L.role i ≡ split) × (0 < (at t p).idx_next)) → i ≡ p
          go (inl q) = q
          go (inr q) = absurd (split_closed i h q.0 z o)

      held : ((at t i).time_to_next ≡ run.place.time_to_next) × ((at t i).dist_to_next ≡ run.place.dist_to_next)
      held = subst (λ (k : ℕ). ((at t k).time_to_next ≡ run.place.time_to_next)
          × ((at t k).dist_to_next ≡ run.place.dist_to_next)) (sym is_place)
          (s.holds (ap (λ (k : ℕ). (at t k).idx_next) (sym is_place) ∙ z) (ap ends (sym is_place) ∙ o))

      -- the place has a next now
      closed : (j : ℕ) → j ≡ i → (at (add_behind t i n e) j).idx_next ≡ 0 → ⊥
      closed j q f = let c : (at (add_behind t i n e) j).idx_next ≡ n =
          ap (λ (k : ℕ). (at (add_behind t i n e) k).idx_next) q ∙ a.here in let w = v.two in omega arith

      still : (j : ℕ) → j < n → (at (add_behind t i n e) j).idx_next ≡ 0 → (j ≡ i) ⊎ (j ≡ i → ⊥)
          → ((at t j).idx_next ≡ 0) × (((at (add_behind t i n e) j).time_to_next ≡ (at t j).time_to_next)
          × ((at (add_behind t i n e) j).dist_to_next ≡ (at t j).dist_to_next))
      still j l f (inl q) = absurd (closed j q f)
      still j l f (inr q) = (
        sym (a.other j l q) ∙ f,
        ((add_timed g.body i h room e).time j l q, (add_timed g.body i h room e).distance j l q),
      )

      later : Later L M net more
      later = record {
        labels = x;
        nodes = omega arith;
        ends = λ j q. q;
        still = λ j l f. still j l f (equal_or_not j i);
      }

      which : (j : ℕ) → j < suc n → base_role (M.role j) ≡ true → (at (add_behind t i n e) j).idx_next ≡ 0
          → (j ≡ n) ⊎ ((j < n) × (j ≡ p → ⊥))
      which j l b f = go (below j n l)
        where
          go : (j < n) ⊎ (j ≡ n) → (j ≡ n) ⊎ ((j < n) × (j ≡ p → ⊥))
          go (inl k) = inr (k, λ (q : j ≡ p). closed j (q ∙ sym is_place) f)
          go (inr k) = inl k

  -- ---- the event is added behind a new split's Fake

  divided : (i : ℕ) → Reached L (at t) n p i → 0 < (at t p).idx_next → (at t i).idx_next_alt ≡ 0 → n + 1 < places
      → Inserts L places net run saved limit e (record {
        net = added_to net (add_behind (split_at t i n run.place) n (n + 1) e) (place_at (n + 1) e) true
            (arc_to run.place (n + 1) e);
        run = moved_to run (place_at (n + 1) e) true;
      })
  unfolding added_to moved_to place_at arc_to
  divided i r first no_alt room = subst (λ (k : ℕ). Inserts L places net run saved limit e
      (record {
        net = added_to net (add_behind (split_at t i n run.place) n k e) (place_at k e) true
            (arc_to run.place k e);
        run = moved_to run (place_at k e) true;
      })) (sym (add-one n)) (record {
        labels = M;
        later = later;
        grows = record {
          body = subst (Body M places (add_behind half n (suc n) e) (suc (suc n)) net.ends
              (arc_to run.place (suc n) e ∷ net.noted)) (omega arith)
              (event_body mid n n_in room' e (ap base_role o) (split_empty g.body i h here run.place)
              (new_end g.body n (omega arith)) real (arc_to run.place (suc n) e)
              (sym n_owner) refl (ap (sub binary64 e.time) (sym held.0)) (ap (sub binary64 e.offset) (sym held.1)));
          within = omega arith;
          count = let c = g.count in omega arith;
          ended = g.ended;
          distinct = g.distinct;
        };
        waits = waits_added run saved u more later next which
            (record {
              within = omega arith;
              self = ap itself m;
              holds = λ c b. add_held mid n n_in room' e;
              listed = listed_more n (suc (suc n)) (omega arith) run.joins s.listed;
            })
            (record {
              last = refl;
              empty = add_empty mid n n_in room' e;
              no_end = new_end g.body (suc n) (omega arith);
            });
        closes = subst (λ (k : ℕ). 0 < k) (sym (old p s.within)) first;
        kept = record {
          event = λ j l. a.kept.event j (omega arith) ∙ split_column g.body i h here run.place
              (λ (y : EstTime). y.link_event) same_link j l;
          speed = λ j l. a.kept.speed j (omega arith) ∙ split_column g.body i h here run.place
              (λ (y : EstTime). y.speed) same_speed j l;
        };
        here = add_event mid n n_in room' e;
        near = inl (add_speed mid n n_in room' e);
        nodes = refl;
        runs = refl;
        time = refl;
        distance = refl;
        leg = refl;
        deeper = new_depth H (suc n) event (suc n) (suc n) d ∙ ap suc (ap H.depth n_owner ∙ w.depth p s.within);
        noted = inr refl;
      })
    where
      h : i < n
      h = r.within

      here : n < places
      here = omega arith

      room' : suc n < places
      room' = omega arith

      half : Table
      half = split_at t i n run.place

      H : Labels
      H = labelled L n split (L.owner i) 0 0

      w : Extends L H n
      w = labelled_old L n split (L.owner i) 0 0

      o : H.role n ≡ split
      o = new_role L n split (L.owner i) 0 0

      mid : Body H places half (suc n) net.ends net.noted (1 + net.added + net.splits + 1)
      mid = split_body g.body i h here run.place r.base no_alt

      n_in : n < suc n
      n_in = omega arith

      n_owner : H.owner n ≡ p
      n_owner = new_owner L n split (L.owner i) 0 0 ∙ r.owner ∙ p_own

      held : ((at half n).time_to_next ≡ run.place.time_to_next) × ((at half n).dist_to_next ≡ run.place.dist_to_next)
      held = split_held g.body i h here run.place

      d : ℕ
      d = suc (H.depth (H.owner n))

      M : Labels
      M = labelled H (suc n) event (suc n) (suc n) d

      y : Extends H M (suc n)
      y = labelled_old H (suc n) event (suc n) (suc n) d

      x : Extends L M n
      x = record {
        role = λ j l. y.role j (omega arith) ∙ w.role j l;
        owner = λ j l. y.owner j (omega arith) ∙ w.owner j l;
        goal = λ j l. y.goal j (omega arith) ∙ w.goal j l;
        depth = λ j l. y.depth j (omega arith) ∙ w.depth j l;
      }

      m : M.role (suc n) ≡ event
      m = new_role H (suc n) event (suc n) (suc n) d

      after : ℕ → EstTime
      after = at (add_behind half n (suc n) e)

      a : Attached (at half) (at (add_behind half n (suc n) e)) (suc n) n
      a = add_attached mid n n_in room' e

      c : Timed (at half) (at (add_behind half n (suc n) e)) (suc n) n
      c = add_timed mid n n_in room' e

      more : Net
      more = added_to net (add_behind half n (suc n) e) (place_at (suc n) e) true (arc_to run.place (suc n) e)

      next : Run
      next = moved_to run (place_at (suc n) e) true

      same_link : (with_next_alt (at t i) n).link_event ≡ (at t i).link_event
      same_link = refl

      same_speed : (with_next_alt (at t i) n).speed ≡ (at t i).speed
      same_speed = refl

      next_same : (j : ℕ) → j < n → (at half j).idx_next ≡ (at t j).idx_next
      next_same = split_column g.body i h here run.place (λ (y : EstTime). y.idx_next) refl

      time_same : (j : ℕ) → j < n → (at half j).time_to_next ≡ (at t j).time_to_next
      time_same = split_column g.body i h here run.place (λ (y : EstTime). y.time_to_next) refl

      dist_same : (j : ℕ) → j < n → (at half j).dist_to_next ≡ (at t j).dist_to_next
      dist_same = split_column g.body i h here run.place (λ (y : EstTime). y.dist_to_next) refl

      old : (j : ℕ) → j < n → (after j).idx_next ≡ (at t j).idx_next
      old j l = a.other j (omega arith) (λ (q : j ≡ n). omega arith) ∙ next_same j l

      later : Later L M net more
      later = record {
        labels = x;
        nodes = omega arith;
        ends = λ j q. q;
        still = λ j l f. (
          sym (old j l) ∙ f,
          (
            c.time j (omega arith) (λ (q : j ≡ n). omega arith) ∙ time_same j l,
            c.distance j (omega arith) (λ (q : j ≡ n). omega arith) ∙ dist_same j l,
          ),
        );
      }

      which : (j : ℕ) → j < suc (suc n) → base_role (M.role j) ≡ true → (after j).idx_next ≡ 0
          → (j ≡ suc n) ⊎ ((j < n) × (j ≡ p → ⊥))
      which j l b f = go (below j (suc n) l)
        where
          fresh : (j < n) ⊎ (j ≡ n) → (j ≡ suc n) ⊎ ((j < n) × (j ≡ p → ⊥))
          fresh (inl k) = inr (
            k,
            λ (q : j ≡ p). let z : (at t p).idx_next ≡ 0 = ap (λ (k : ℕ). (at t k).idx_next)
                (sym q) ∙ sym (old j k) ∙ f in omega arith,
          )
          fresh (inr k) = let z : (after j).idx_next ≡ suc n = ap (λ (k : ℕ). (after k).idx_next) k ∙ a.here in
              absurd (omega arith)

          go : (j < suc n) ⊎ (j ≡ suc n) → (j ≡ suc n) ⊎ ((j < n) × (j ≡ p → ⊥))
          go (inl k) = fresh (below j n k)
          go (inr k) = inl k

  -- ---- whichever it is

  pub insert_keeps : Safe L net p limit e → Holds (Inserts L places net run saved limit e)
      (insert_event places limit net run e)
  unfolding insert_event place_at
  insert_keeps safe = go (inserted_table t n limit run.place e) (inserted t n places ends limit run.place e)
      (insertion_came t n places ends limit run.place e v s.within p_base)
    where
      go : (after : Table) (a : Result Insertion Refusal) → Came L t n places ends limit run.place e after a
          → Holds (Inserts L places net run saved limit e) (inserted_run net run e after a)
      go after (Err r) c = tt
      go after (Ok (Moved q)) c =
          subst (λ (z : Place). Inserts L places net run saved limit e
          (record { net = net; run = moved_to run z run.has_split })) (sym c.place)
          (moved safe c.from c.reached c.some c.first_some c.same)
      go after (Ok (Added q false)) c =
          subst (λ (z : Place). Inserts L places net run saved limit e
          (record { net = added_to net after z false (arc_to run.place z.idx_prev e); run = moved_to run z true }))
          (sym c.place)
          (subst (λ (z : Table). Inserts L places net run saved limit e
          (record {
            net = added_to net z (place_at n e) false (arc_to run.place (place_at n e).idx_prev e);
            run = moved_to run (place_at n e) true;
          })) (sym c.table)
          (opened c.from c.reached c.empty c.no_end c.room))
      go after (Ok (Added q true)) c =
          subst (λ (z : Place). Inserts L places net run saved limit e
          (record { net = added_to net after z true (arc_to run.place z.idx_prev e); run = moved_to run z true }))
          (sym c.place)
          (subst (λ (z : Table). Inserts L places net run saved limit e
          (record {
            net = added_to net z (place_at (n + 1) e) true (arc_to run.place (place_at (n + 1) e).idx_prev e);
            run = moved_to run (place_at (n + 1) e) true;
          })) (sym c.table)
          (divided c.from c.reached c.first_some c.no_alt c.room))
