-- What a caller may know of the cells: what leaves them saying the same, what they say at the start and after a Fake,
-- and a walk along a chain.
use mathlib.Core.Path.{◌≡◌, refl, sym, ap, ◌∙◌, subst}
use mathlib.Core.Logic.{◌⊎◌, inl, inr, ◌≢◌}
use mathlib.Core.Bool.{true, cond}
use mathlib.Core.List.{List, [], ◌∷◌}
use Prim.Native.Nat.{ℕ, zero, suc, ◌+◌, ◌-◌, ◌*◌, ◌≤◌, ◌<◌}
use native.Mathlib.Omega.{arith}
use lib.ListN.{length, get_or, set}
use lib.Seq.{get_or-set_other}
use Rattle.laws.specs.Below.{some_below}
use Rattle.laws.proofs.Below.{some_same}
use Rattle.net_node.specs.declared.EstType.TheVariants.{Fake}
use Rattle.net_node.specs.declared.LinkEvent.{LinkEvent}
use Rattle.net_node.specs.declared.EstTime.{EstTime}
use Rattle.net_node.specs.Table.{same_event}
use Rattle.net_event_map.specs.declared.Layout.{Layout}
use Rattle.net_event_map.specs.EventMap.{seen_in, nodes_from, event_nodes, head_of, last_of, arrive_at, clear_at, bit}
use Rattle.net_event_map.specs.EventMap.{CellsApart, Mapped}
use Rattle.net_event_map.proofs.Lists.{fake_none, fake_only, has, Inside, Walked, last_inside, walked_none}
use Rattle.net_event_map.proofs.Lists.{walked_on_lem, nodes_inside}
use Rattle.net_event_map.proofs.Chains.{arrive_real, clear_real, seen_passed, no_zeroth, mapped_quiet}

-- ---- a list of as many cells

pub apart_same : {c d : List ℕ} {w : Layout} → length d ≡ length c → CellsApart c w → CellsApart d w
apart_same {c} {d} {w} e p = record {
  links_inside = subst (λ (n : ℕ). w.links_at + w.links * 8 ≤ n) (sym e) p.links_inside;
  nodes_inside = subst (λ (n : ℕ). w.nodes_at + w.places * 8 ≤ n) (sym e) p.nodes_inside;
  apart = p.apart;
}

-- ---- a Fake more

module _ {c : List ℕ} {w : Layout} {node : ℕ → EstTime} {n : ℕ} where
  pub mapped_fake : Mapped c w node n → n < w.places → (node n).link_event.est_type ≡ Fake → Mapped c w node (n + 1)
  mapped_fake v h f =
      mapped_quiet v c (omega arith)
      (record { first = λ l g. refl; last = λ l g. refl; next = λ i g. refl; mark = λ i k g a b. refl })
      (λ l. fake_none (node n).link_event (arrive_at l) f (arrive_real l))
      (λ l g. v.cleared l g
      ∙ ap bit (sym (seen_passed node (clear_at l) n (fake_none (node n).link_event (clear_at l) f (clear_real l)))))

-- ---- nodes with the same events

module _ (node node' : ℕ → EstTime) where
  nodes_same : (e : LinkEvent) (a k : ℕ) → ((i : ℕ) → i < a + k → (node' i).link_event ≡ (node i).link_event)
      → nodes_from node e a k ≡ nodes_from node' e a k
  unfolding nodes_from
  nodes_same e a zero s = refl
  nodes_same e a (suc k) s =
      ap (λ (x : LinkEvent). cond (same_event x e) (a ∷ nodes_from node e (suc a) k) (nodes_from node e (suc a) k))
      (sym (s a (omega arith)))
      ∙ ap (λ (q : List ℕ). cond (has node' e a) (a ∷ q) q) (nodes_same e (suc a) k (λ i h. s i (omega arith)))

  seen_same : (e : LinkEvent) (n : ℕ) → ((i : ℕ) → i < n → (node' i).link_event ≡ (node i).link_event)
      → seen_in node n e ≡ seen_in node' n e
  unfolding seen_in
  seen_same e n s = some_same n (has node e) (has node' e) (λ i h. ap (λ (x : LinkEvent). same_event x e) (sym (s i h)))

  pub mapped_same : (c : List ℕ) (w : Layout) (n : ℕ) → 0 < n
      → ((i : ℕ) → i < n → (node' i).link_event ≡ (node i).link_event) → Mapped c w node n → Mapped c w node' n
  unfolding event_nodes
  mapped_same c w n p s v = record {
    first = λ l h. v.first l h ∙ ap head_of (nodes_same (arrive_at l) 0 n (λ i g. s i (omega arith)));
    last = λ l h. v.last l h ∙ ap last_of (nodes_same (arrive_at l) 0 n (λ i g. s i (omega arith)));
    cleared = λ l h. v.cleared l h ∙ ap bit (seen_same (clear_at l) n s);
    next = λ l i h g t.
        v.next l i h g (ap (λ (x : LinkEvent). same_event x (arrive_at l)) (sym (s i g)) ∙ t)
        ∙ ap head_of (nodes_same (arrive_at l) (suc i) (n - suc i) (λ j f. s j (omega arith)));
    fresh = v.fresh;
    unmarked = v.unmarked;
    ungiven = v.ungiven;
    zeroth = λ e t. v.zeroth e (ap (λ (x : LinkEvent). same_event x e) (sym (s 0 p)) ∙ t);
  }

-- ---- at the start

module _ (c : List ℕ) (w : Layout) (node : ℕ → EstTime) where
  -- two Fakes and cells of zero
  pub mapped_start : ((q : ℕ) → w.links_at ≤ q → q < w.links_at + w.links * 8 → get_or c q 0 ≡ 0)
      → ((q : ℕ) → w.nodes_at ≤ q → q < w.nodes_at + w.places * 8 → get_or c q 0 ≡ 0)
      → (node 0).link_event.est_type ≡ Fake → (node 1).link_event.est_type ≡ Fake → 1 < w.places → Mapped c w node 2
  unfolding event_nodes nodes_from seen_in some_below last_of
  mapped_start ls ns f g p = mapped_fake (mapped_fake none (omega arith) f) p g
    where
      none : Mapped c w node 0
      none = record {
        first = λ l h. ls (w.links_at + l * 8) (omega arith) (omega arith);
        last = λ l h. ls (w.links_at + l * 8 + 1) (omega arith) (omega arith);
        cleared = λ l h. ls (w.links_at + l * 8 + 2) (omega arith) (omega arith);
        next = λ l i h k t. omega arith;
        fresh = λ i h k. ns (w.nodes_at + i * 8) (omega arith) (omega arith);
        unmarked = λ i h. ns (w.nodes_at + i * 8 + 1) (omega arith) (omega arith);
        ungiven = λ i k h a b. ns (w.nodes_at + i * 8 + k) (omega arith) (omega arith);
        zeroth = λ e t. fake_only (node 0).link_event e f t;
      }

-- ---- a store elsewhere

-- the columns of a node's unit that the map has: the first two and the last three
abbrev MapColumn : ℕ → Type 0
MapColumn k = (k < 2) ⊎ ((5 ≤ k) × (k < 8))

module _ {c : List ℕ} {w : Layout} {node : ℕ → EstTime} {n : ℕ} (v : Mapped c w node n) (p : CellsApart c w)
    (x : ℕ) where
  -- in none of the map's cells
  stays : (q : ℕ) → ((l k : ℕ) → l < w.links → k < 3 → w.links_at + l * 8 + k ≢ q)
      → ((i k : ℕ) → i < w.places → MapColumn k → w.nodes_at + i * 8 + k ≢ q) → n ≤ w.places
      → Mapped (set c q x) w node n
  stays q a b m = record {
    first =
        λ l h. get_or-set_other c q (w.links_at + l * 8) x 0
        (λ (d : w.links_at + l * 8 ≡ q). a l 0 h (omega arith) (omega arith)) ∙ v.first l h;
    last = λ l h. get_or-set_other c q (w.links_at + l * 8 + 1) x 0 (a l 1 h (omega arith)) ∙ v.last l h;
    cleared = λ l h. get_or-set_other c q (w.links_at + l * 8 + 2) x 0 (a l 2 h (omega arith)) ∙ v.cleared l h;
    next =
        λ l i h g t. get_or-set_other c q (w.nodes_at + i * 8) x 0
        (λ (d : w.nodes_at + i * 8 ≡ q). b i 0 (omega arith) (inl (omega arith)) (omega arith)) ∙ v.next l i h g t;
    fresh =
        λ i h g. get_or-set_other c q (w.nodes_at + i * 8) x 0
        (λ (d : w.nodes_at + i * 8 ≡ q). b i 0 g (inl (omega arith)) (omega arith)) ∙ v.fresh i h g;
    unmarked = λ i h. get_or-set_other c q (w.nodes_at + i * 8 + 1) x 0 (b i 1 h (inl (omega arith))) ∙ v.unmarked i h;
    ungiven = λ i k h f g. get_or-set_other c q (w.nodes_at + i * 8 + k) x 0 (b i k h (inr (f, g)))
        ∙ v.ungiven i k h f g;
    zeroth = v.zeroth;
  }

  -- in another column of a node
  pub mapped_else : (i k : ℕ) → i < w.places → 2 ≤ k → k < 5 → n ≤ w.places
      → Mapped (set c (w.nodes_at + i * 8 + k) x) w node n
  mapped_else i k h a b m = stays (w.nodes_at + i * 8 + k) (λ l j f g d. omega (arith, p.apart)) other m
    where
      other : (j t : ℕ) → j < w.places → MapColumn t → w.nodes_at + j * 8 + t ≢ w.nodes_at + i * 8 + k
      other j t f (inl g) d = omega arith
      other j t f (inr g) d = omega (arith, g.0, g.1)

  -- before the nodes' cells
  pub mapped_before : (q : ℕ) → q < w.nodes_at → n ≤ w.places → Mapped (set c q x) w node n
  mapped_before q h m = stays q (λ l j f g d. omega (arith, p.apart)) (λ j t f g d. omega arith) m

-- ---- a walk along a chain

-- from node 0 on
pub all_are : (node : ℕ → EstTime) (e : LinkEvent) (n : ℕ) → event_nodes node e n ≡ nodes_from node e 0 n
unfolding event_nodes
all_are node e n = refl

-- nonzero: a node of the event, and what is behind it
pub walked : (node : ℕ → EstTime) (l a k j : ℕ) → head_of (nodes_from node (arrive_at l) a k) ≡ j → 0 < j
    → Walked node (arrive_at l) a k j
walked node l = walked_on_lem node (arrive_at l)

module _ {c : List ℕ} {w : Layout} {node : ℕ → EstTime} {n : ℕ} (v : Mapped c w node n) where
  -- zero: none
  pub walked_end : (l a k : ℕ) → head_of (nodes_from node (arrive_at l) a k) ≡ 0
      → nodes_from node (arrive_at l) a k ≡ []
  walked_end l = walked_none node (arrive_at l) (no_zeroth v (arrive_at l) (arrive_real l))

  -- the last node of a link is a place, as `insert` asks
  pub last_placed : (l : ℕ) → l < w.links → n ≤ w.places → 0 < w.places → get_or c (w.links_at + l * 8 + 1) 0 < w.places
  unfolding event_nodes last_of
  last_placed l h m p = go (last_inside node (arrive_at l) 0 n)
    where
      go : (nodes_from node (arrive_at l) 0 n ≡ []) ⊎ Inside node (arrive_at l) 0 n
          (last_of (nodes_from node (arrive_at l) 0 n)) → get_or c (w.links_at + l * 8 + 1) 0 < w.places
      go (inl z) = subst (λ (x : ℕ). x < w.places) (sym (v.last l h ∙ ap last_of z)) p
      go (inr u) = omega (arith, v.last l h, u.below)

-- each node of an event has it, and is one of those looked at
pub event_nodes_lem : (node : ℕ → EstTime) (e : LinkEvent) (n k : ℕ) → k < length (event_nodes node e n)
    → (get_or (event_nodes node e n) k 0 < n) × (has node e (get_or (event_nodes node e n) k 0) ≡ true)
unfolding event_nodes
event_nodes_lem node e n k h = let i = nodes_inside node e 0 n k h in (omega (arith, i.below), i.has_it)
