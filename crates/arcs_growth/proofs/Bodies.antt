-- A table under growth with its noted arcs and ends, and the two ways in which insertion writes into it: an event
-- behind an open base, and a split's Fake.
use mathlib.Core.Path.{◌≡◌, refl, sym, ap, ◌∙◌, subst}
use mathlib.Core.Logic.{◌⊎◌, inl, inr}
use mathlib.Core.Bool.{Bool, true, false}
use mathlib.Core.List.{List, ◌∷◌}
use Prim.Native.Nat.{ℕ, suc, ◌+◌, ◌<◌, ◌≤◌}
use native.Mathlib.Numerals.{add-one}
use native.Mathlib.Omega.{arith}
use lib.Ieee.{binary64, sub}
use Rattle.laws.proofs.Below.{below}
use Rattle.laws.proofs.Truth.{not_both, equal_or_not}
use Rattle.net_node.proofs.Tables.{RoomIn}
use Rattle.net_node.specs.declared.EstTime.{EstTime}
use Rattle.net_node.specs.declared.TimedEvent.{TimedEvent}
use Rattle.net_node.specs.Table.{Indexed, blank, no_link_event, Table, at, is_fake, fake_kind, with_next_alt}
use Rattle.net_insertion.specs.declared.Place.{Place}
use Rattle.net_insertion.specs.Insertion.{linked_to, event_node, split_fake, add_behind, split_at}
use Rattle.net_insertion.proofs.Puts.{add_found, add_new, add_indexed, add_other, add_room, split_found, split_new}
use Rattle.net_insertion.proofs.Puts.{split_indexed, split_other, split_room}
use Rattle.grow_rules.specs.Run.{Arc, member_of}
use Rattle.arcs_growth.proofs.Labels.{Role, nought, start, event, split, join, stop, base_role, lands, itself, Labels}
use Rattle.arcs_growth.proofs.Labels.{Extends, labelled, labelled_old, new_role, new_goal}
use Rattle.arcs_growth.proofs.NewNodes.{Attached, Alternated, NoStops, apart}
use Rattle.arcs_growth.proofs.Weights.{arc_there}
use Rattle.arcs_growth.proofs.Graphs.{Graph, Timed, event_graph, split_graph}

-- previous alternatives lead where their node does
abbrev pub Chains : Labels → (ℕ → EstTime) → ℕ → Type 0
Chains L node n = (i a : ℕ) → i < n → (node i).idx_prev_alt ≡ a → 0 < a → lands (L.role i) ≡ true
    → (lands (L.role a) ≡ true) × (L.goal a ≡ L.goal i)

-- a finished run's event has no next
pub record EndAt (L : Labels) (node : ℕ → EstTime) (n i : ℕ) : Type 0 where
  pub within : i < n
  pub empty : (node i).idx_next ≡ 0
  pub self : itself (L.role i) ≡ true

pub record Body (L : Labels) (places : ℕ) (t : Table) (n : ℕ) (ends : List ℕ) (arcs : List Arc) (k : ℕ) : Type 0 where
  pub room : RoomIn t places
  pub indexed : Indexed (at t) n
  pub graph : Graph L (at t) n ends arcs k
  pub no_stops : NoStops L n
  pub chains : Chains L (at t) n
  pub ended : (i : ℕ) → member_of ends i ≡ true → EndAt L (at t) n i
  pub bottom : L.depth 1 ≡ 0

pub self_base : (r : Role) → itself r ≡ true → base_role r ≡ true
self_base nought e = e
self_base start e = refl
self_base event e = refl
self_base split e = refl
self_base join e = e
self_base stop e = e

-- a node past the others is no end
pub new_end : {L : Labels} {places : ℕ} {t : Table} {n : ℕ} {ends : List ℕ} {arcs : List Arc} {k : ℕ}
    → Body L places t n ends arcs k → (i : ℕ) → n ≤ i → member_of ends i ≡ false
new_end {ends = ends} v i h = go (member_of ends i) refl
  where
    go : (b : Bool) → member_of ends i ≡ b → b ≡ false
    go true e = let w = (v.ended i e).within in absurd (omega arith)
    go false e = refl

-- ---- an event behind node i

module _ {L : Labels} {places : ℕ} {t : Table} {n : ℕ} {ends : List ℕ} {arcs : List Arc} {k : ℕ}
    (v : Body L places t n ends arcs k) (i : ℕ) (h : i < n) (g : n < places) (e : TimedEvent) where
  abbrev after : ℕ → EstTime
  after = at (add_behind t i n e)

  found : after i ≡ linked_to (at t i) n e
  found = add_found t i n places v.room v.indexed h g e

  added : after n ≡ event_node e i
  added = add_new t i n places v.room v.indexed h g e

  other : (j : ℕ) → j < n → (j ≡ i → ⊥) → after j ≡ at t j
  other j l d = add_other t i n e j d (λ (q : j ≡ n). omega arith)

  -- a column that the link to a next leaves alone
  column : {A : Type 0} (f : EstTime → A) → f (linked_to (at t i) n e) ≡ f (at t i) → (j : ℕ) → j < n
      → f (after j) ≡ f (at t j)
  column f s j l = go (equal_or_not j i)
    where
      go : (j ≡ i) ⊎ (j ≡ i → ⊥) → f (after j) ≡ f (at t j)
      go (inl q) = ap (λ (m : ℕ). f (after m)) q ∙ ap f found ∙ s ∙ ap (λ (m : ℕ). f (at t m)) (sym q)
      go (inr d) = ap f (other j l d)

  pub add_attached : Attached (at t) (at (add_behind t i n e)) n i
  unfolding linked_to event_node
  add_attached = record {
    within = h;
    here = ap (λ (x : EstTime). x.idx_next) found;
    other = λ j l d. ap (λ (x : EstTime). x.idx_next) (other j l d);
    alt = column (λ (x : EstTime). x.idx_next_alt) refl;
    prev = column (λ (x : EstTime). x.idx_prev) refl;
    kept = record {
      event = column (λ (x : EstTime). x.link_event) refl;
      speed = column (λ (x : EstTime). x.speed) refl;
    };
    prev_alt = λ j l. inl (column (λ (x : EstTime). x.idx_prev_alt) refl j l);
    new_alt = ap (λ (x : EstTime). x.idx_next_alt) added;
    new_prev = ap (λ (x : EstTime). x.idx_prev) added;
  }

  pub add_timed : Timed (at t) (at (add_behind t i n e)) n i
  add_timed = record {
    time = λ j l d. ap (λ (x : EstTime). x.time_to_next) (other j l d);
    distance = λ j l d. ap (λ (x : EstTime). x.dist_to_next) (other j l d);
  }

  pub add_event : (at (add_behind t i n e) n).link_event ≡ e.link_event
  unfolding event_node
  add_event = ap (λ (x : EstTime). x.link_event) added

  pub add_speed : (at (add_behind t i n e) n).speed ≡ e.speed
  unfolding event_node
  add_speed = ap (λ (x : EstTime). x.speed) added

  pub add_empty : (at (add_behind t i n e) n).idx_next ≡ 0
  unfolding event_node
  add_empty = ap (λ (x : EstTime). x.idx_next) added

  pub add_held : ((at (add_behind t i n e) n).time_to_next ≡ e.time)
      × ((at (add_behind t i n e) n).dist_to_next ≡ e.offset)
  unfolding event_node
  add_held = (ap (λ (x : EstTime). x.time_to_next) added, ap (λ (x : EstTime). x.dist_to_next) added)

  pub event_body : base_role (L.role i) ≡ true → (at t i).idx_next ≡ 0 → member_of ends i ≡ false
      → fake_kind e.link_event.est_type ≡ false
      → (arc : Arc) → arc.from ≡ L.owner i → arc.to ≡ n → arc.time ≡ sub binary64 e.time (at t i).time_to_next
      → arc.distance ≡ sub binary64 e.offset (at t i).dist_to_next
      → Body (labelled L n event n n (suc (L.depth (L.owner i)))) places (add_behind t i n e) (suc n) ends (arc ∷ arcs)
      (k + 1)
  unfolding linked_to event_node arc_there
  event_body base empty out real arc from to time distance = record {
    room = add_room t i n e places v.room;
    indexed = subst (Indexed after) (add-one n) (add_indexed t i n places v.room v.indexed h g e);
    graph = event_graph v.graph add_attached add_timed base empty (λ c q r. absurd (fresh c q r)) v.no_stops out
        (new_end v n (omega arith)) (ap (λ (x : EstTime). is_fake x) added ∙ real) add_empty arc same;
    no_stops = λ j l q. stops j q (below j n l);
    chains = λ j a l p q r. chain j a p q r (below j n l);
    ended = λ j m. ending j m (v.ended j m) (equal_or_not j i);
    bottom = x.depth 1 v.graph.laid.two ∙ v.bottom;
  }
    where
      d : ℕ
      d = suc (L.depth (L.owner i))

      M : Labels
      M = labelled L n event n n d

      x : Extends L M n
      x = labelled_old L n event n n d

      same : arc ≡ arc_there M after i
      same = λ z. record {
        from = (from ∙ sym (x.owner i h)) z;
        to = (to ∙ sym (ap M.goal (ap (λ (x : EstTime). x.idx_next) found) ∙ new_goal L n event n n d)) z;
        time = (time ∙ sym (ap (λ (x : EstTime). x.time_to_next) found)) z;
        distance = (distance ∙ sym (ap (λ (x : EstTime). x.dist_to_next) found)) z;
      }

      fresh : (c : ℕ) → (after n).idx_prev_alt ≡ c → 0 < c → ⊥
      fresh c q r = let z : (after n).idx_prev_alt ≡ 0 = ap (λ (x : EstTime). x.idx_prev_alt) added in omega arith

      stops : (j : ℕ) → M.role j ≡ stop → (j < n) ⊎ (j ≡ n) → ⊥
      stops j q (inl l) = v.no_stops j l (sym (x.role j l) ∙ q)
      stops j q (inr s) = apart base_role (ap M.role s ∙ new_role L n event n n d) q refl refl

      chain : (j a : ℕ) → (after j).idx_prev_alt ≡ a → 0 < a → lands (M.role j) ≡ true → (j < n) ⊎ (j ≡ n)
          → (lands (M.role a) ≡ true) × (M.goal a ≡ M.goal j)
      chain j a p q r (inl l) =
          let o : (at t j).idx_prev_alt ≡ a = sym (column (λ (x : EstTime). x.idx_prev_alt) refl j l) ∙ p in
          let w : a < n = subst (λ (m : ℕ). m < n) o (v.indexed.prev_alt j l) in
          let c = v.chains j a l o q (ap lands (sym (x.role j l)) ∙ r) in
          (ap lands (x.role a w) ∙ c.0, x.goal a w ∙ c.1 ∙ sym (x.goal j l))
      chain j a p q r (inr s) =
          let z : (after n).idx_prev_alt ≡ 0 = ap (λ (x : EstTime). x.idx_prev_alt) added in
          let y : (after n).idx_prev_alt ≡ a = ap (λ (m : ℕ). (after m).idx_prev_alt) (sym s) ∙ p in
          absurd (omega arith)

      ending : (j : ℕ) → member_of ends j ≡ true → EndAt L (at t) n j → (j ≡ i) ⊎ (j ≡ i → ⊥) → EndAt M after (suc n) j
      ending j m f (inl q) = not_both m (ap (member_of ends) q ∙ out)
      ending j m f (inr q) = let w = f.within in record {
        within = omega arith;
        empty = ap (λ (x : EstTime). x.idx_next) (other j f.within q) ∙ f.empty;
        self =
            ap itself (x.role j f.within) ∙ f.self;
      }

-- ---- a split's Fake as the alternative of node i

module _ {L : Labels} {places : ℕ} {t : Table} {n : ℕ} {ends : List ℕ} {arcs : List Arc} {k : ℕ}
    (v : Body L places t n ends arcs k) (i : ℕ) (h : i < n) (g : n < places) (p : Place) where
  abbrev half : ℕ → EstTime
  half = at (split_at t i n p)

  divided : half i ≡ with_next_alt (at t i) n
  divided = split_found t i n places v.room v.indexed h g p

  fake : half n ≡ split_fake p i
  fake = split_new t i n places v.room v.indexed h g p

  beside : (j : ℕ) → j < n → (j ≡ i → ⊥) → half j ≡ at t j
  beside j l d = split_other t i n p j d (λ (q : j ≡ n). omega arith)

  pub split_column : {A : Type 0} (f : EstTime → A) → f (with_next_alt (at t i) n) ≡ f (at t i) → (j : ℕ) → j < n
      → f (at (split_at t i n p) j) ≡ f (at t j)
  split_column f s j l = go (equal_or_not j i)
    where
      go : (j ≡ i) ⊎ (j ≡ i → ⊥) → f (half j) ≡ f (at t j)
      go (inl q) = ap (λ (m : ℕ). f (half m)) q ∙ ap f divided ∙ s ∙ ap (λ (m : ℕ). f (at t m)) (sym q)
      go (inr d) = ap f (beside j l d)

  pub split_empty : (at (split_at t i n p) n).idx_next ≡ 0
  unfolding split_fake
  split_empty = ap (λ (x : EstTime). x.idx_next) fake

  pub split_held : ((at (split_at t i n p) n).time_to_next ≡ p.time_to_next)
      × ((at (split_at t i n p) n).dist_to_next ≡ p.dist_to_next)
  unfolding split_fake
  split_held = (ap (λ (x : EstTime). x.time_to_next) fake, ap (λ (x : EstTime). x.dist_to_next) fake)

  pub split_body : base_role (L.role i) ≡ true → (at t i).idx_next_alt ≡ 0
      → Body (labelled L n split (L.owner i) 0 0) places (split_at t i n p) (suc n) ends arcs (k + 1)
  unfolding split_fake blank no_link_event
  split_body base empty = record {
    room = split_room t i n p places v.room;
    indexed = subst (Indexed half) (add-one n) (split_indexed t i n places v.room v.indexed h g p);
    graph = split_graph v.graph alternated (split_column (λ (x : EstTime). x.time_to_next) refl)
        (split_column (λ (x : EstTime). x.dist_to_next) refl) base empty v.no_stops
        (ap (λ (x : EstTime). is_fake x) fake) (new_end v n (omega arith));
    no_stops = λ j l q. stops j q (below j n l);
    chains = λ j a l q r s. chain j a q r s (below j n l);
    ended = λ j m. ending j (v.ended j m);
    bottom = x.depth 1 v.graph.laid.two ∙ v.bottom;
  }
    where
      M : Labels
      M = labelled L n split (L.owner i) 0 0

      x : Extends L M n
      x = labelled_old L n split (L.owner i) 0 0

      alternated : Alternated (at t) half n i
      alternated = record {
        within = h;
        next = split_column (λ (x : EstTime). x.idx_next) refl;
        here = ap (λ (x : EstTime). x.idx_next_alt) divided;
        other = λ j l d. ap (λ (x : EstTime). x.idx_next_alt) (beside j l d);
        prev = split_column (λ (x : EstTime). x.idx_prev) refl;
        happens = split_column (λ (x : EstTime). x.link_event) refl;
        prev_alt = split_column (λ (x : EstTime). x.idx_prev_alt) refl;
        new_prev_alt = ap (λ (x : EstTime). x.idx_prev_alt) fake;
        new_next = ap (λ (x : EstTime). x.idx_next) fake;
        new_alt = ap (λ (x : EstTime). x.idx_next_alt) fake;
        new_prev = ap (λ (x : EstTime). x.idx_prev) fake;
      }

      stops : (j : ℕ) → M.role j ≡ stop → (j < n) ⊎ (j ≡ n) → ⊥
      stops j q (inl l) = v.no_stops j l (sym (x.role j l) ∙ q)
      stops j q (inr s) = apart base_role (ap M.role s ∙ new_role L n split (L.owner i) 0 0) q refl refl

      chain : (j a : ℕ) → (half j).idx_prev_alt ≡ a → 0 < a → lands (M.role j) ≡ true → (j < n) ⊎ (j ≡ n)
          → (lands (M.role a) ≡ true) × (M.goal a ≡ M.goal j)
      chain j a q r s (inl l) =
          let o : (at t j).idx_prev_alt ≡ a = sym (split_column (λ (x : EstTime). x.idx_prev_alt) refl j l) ∙ q in
          let w : a < n = subst (λ (m : ℕ). m < n) o (v.indexed.prev_alt j l) in
          let c = v.chains j a l o r (ap lands (sym (x.role j l)) ∙ s) in
          (ap lands (x.role a w) ∙ c.0, x.goal a w ∙ c.1 ∙ sym (x.goal j l))
      chain j a q r s (inr y) = not_both s (ap lands (ap M.role y ∙ new_role L n split (L.owner i) 0 0))

      ending : (j : ℕ) → EndAt L (at t) n j → EndAt M half (suc n) j
      ending j f = let w = f.within in record {
        within = omega arith;
        empty = split_column (λ (x : EstTime). x.idx_next) refl j f.within ∙ f.empty;
        self =
            ap itself (x.role j f.within) ∙ f.self;
      }
