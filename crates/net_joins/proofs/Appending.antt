-- The walk along an event's nodes: the cells of a map are a chain of them, and what the loop keeps.
use mathlib.Core.Path.{◌≡◌, refl, sym, ap, ◌∙◌, subst}
use mathlib.Core.Logic.{◌⊎◌, inl, inr}
use mathlib.Core.Bool.{Bool, true, false, not}
use mathlib.Core.List.{List, [], ◌∷◌}
use mathlib.Core.Option.{Option, none, some}
use Prim.Native.Nat.{ℕ, zero, suc, ◌+◌, ◌-◌, ◌*◌, ◌≤◌, ◌<◌}
use native.Mathlib.Omega.{arith}
use borrow.Author.Tests.{eq-eqb, ne_eqb}
use lib.Dec.{eqb}
use lib.ListN.{length, get_or, take}
use Rattle.laws.proofs.Truth.{equal_or_not}
use Rattle.net_node.specs.declared.EstTime.{EstTime}
use Rattle.net_event_map.specs.declared.Layout.{Layout}
use Rattle.net_event_map.specs.EventMap.{nodes_from, event_nodes, head_of, arrive_at, bit, Mapped}
use Rattle.net_event_map.proofs.Kept.{all_are, walked, walked_end}
use Rattle.net_join_paths.specs.declared.EstJoinPath.{EstJoinPath}
use Rattle.net_join_paths.specs.Entries.{and_then}
use Rattle.net_joins.specs.Joins.{names, appended_if, appended_all}
use Rattle.net_joins.specs.Marks.{NamesMarked, ChainLink, Chain, Ending}
use Rattle.net_joins.proofs.Lists.{appended_stays, take_same}

-- ---- chains

module _ (c : List ℕ) (w : Layout) where
  -- the cell of node i
  abbrev after : ℕ → ℕ
  after i = get_or c (w.nodes_at + i * 8) 0

  pub record Opened (i : ℕ) (nodes : List ℕ) : Type 0 where
    pub later : List ℕ
    pub is : nodes ≡ i ∷ later
    pub link : ChainLink w.places i (get_or c (w.nodes_at + i * 8) 0)
    pub chain : Chain c w (get_or c (w.nodes_at + i * 8) 0) later

  -- from a node a chain goes on
  pub chain_open : (i : ℕ) (nodes : List ℕ) → Chain c w i nodes → (i ≡ 0 → ⊥) → Opened i nodes
  chain_open i [] h g = absurd (g h)
  chain_open i (j ∷ is) h g = record {
    later = is;
    is = ap (λ (k : ℕ). k ∷ is) (sym h.0);
    link = subst (λ (k : ℕ). ChainLink w.places k (after k)) (sym h.0) h.1.0;
    chain = subst (λ (k : ℕ). Chain c w (after k) is) (sym h.0) h.1.1;
  }

  -- and at 0 it ends
  pub chain_done : (i : ℕ) (nodes : List ℕ) → Chain c w i nodes → i ≡ 0 → nodes ≡ []
  chain_done i [] h g = refl
  chain_done i (j ∷ is) h g = absurd (omega (arith, h.0, h.1.0.some))

  -- there is one chain
  pub chain_one : (i : ℕ) (is js : List ℕ) → Chain c w i is → Chain c w i js → is ≡ js
  chain_one i [] js h g = sym (chain_done i js g h)
  chain_one i (j ∷ is) js h g =
      let p : i ≡ 0 → ⊥ = λ (e : i ≡ 0). omega (arith, h.0, h.1.0.some) in
      let o = chain_open i js g p in
      ap (λ (k : ℕ). k ∷ is) (sym h.0) ∙ ap (λ (q : List ℕ). i ∷ q)
      (chain_one (after i) is o.later (subst (λ (k : ℕ). Chain c w (after k) is) (sym h.0) h.1.1) o.chain) ∙ sym o.is

-- cells that agree with a map's where its Arrives are kept are a chain of them
module _ {c : List ℕ} {w : Layout} {node : ℕ → EstTime} {n : ℕ} (v : Mapped c w node n) (m : n ≤ w.places) (l : ℕ)
    (b : l < w.links) (d : List ℕ) (s : (i : ℕ)
    → get_or d (w.nodes_at + i * 8) 0 ≡ get_or c (w.nodes_at + i * 8) 0) where
  abbrev from : ℕ → ℕ → List ℕ
  from a k = nodes_from node (arrive_at l) a k

  chain_from : (fuel a k i : ℕ) → a + k ≡ n → k ≤ fuel → head_of (from a k) ≡ i → Chain d w i (from a k)
  chain_from zero a k i e f h = go (equal_or_not i 0)
    where
      go : (i ≡ 0) ⊎ (i ≡ 0 → ⊥) → Chain d w i (from a k)
      go (inl z) = subst (Chain d w i) (sym (walked_end v l a k (h ∙ z))) z
      go (inr z) = let u = (walked node l a k i h (omega arith)).inside in absurd (omega (arith, u.from, u.below))
  chain_from (suc fuel) a k i e f h = go (equal_or_not i 0) (chain_from fuel)
    where
      go : (i ≡ 0) ⊎ (i ≡ 0 → ⊥) → ((a k i : ℕ) → a + k ≡ n → k ≤ fuel → head_of (from a k) ≡ i
          → Chain d w i (from a k)) → Chain d w i (from a k)
      go (inl z) ih = subst (Chain d w i) (sym (walked_end v l a k (h ∙ z))) z
      go (inr z) ih =
          let u = walked node l a k i h (omega arith) in
          let q : ℕ = a + k - suc i in
          let o : i < n = omega (arith, u.inside.below) in
          let x : n - suc i ≡ q = omega arith in
          let t : get_or d (w.nodes_at + i * 8) 0 ≡ head_of (from (suc i) q) = s i ∙ v.next l i b o u.inside.has_it
          ∙ ap (λ (j : ℕ). head_of (from (suc i) j)) x in
          subst (Chain d w i) (sym u.is) (
            refl,
            (
              record {
                some = omega arith;
                placed = omega arith;
                rises = λ p. (walked node l (suc i) q (get_or d (w.nodes_at + i * 8) 0) (sym t) p).inside.from;
              },
              ih (suc i) q (get_or d (w.nodes_at + i * 8) 0) (omega (arith, u.inside.from))
                  (omega (arith, u.inside.from, u.inside.below)) (sym t),
            ),
          )

  pub map_chain : get_or d (w.links_at + l * 8) 0 ≡ get_or c (w.links_at + l * 8) 0
      → Chain d w (get_or d (w.links_at + l * 8) 0) (event_nodes node (arrive_at l) n)
  map_chain f =
      let h : head_of (from 0 n) ≡ get_or d (w.links_at + l * 8) 0 = ap head_of (sym (all_are node (arrive_at l) n))
      ∙ sym (f ∙ v.first l b) in
      subst (Chain d w (get_or d (w.links_at + l * 8) 0)) (sym (all_are node (arrive_at l) n))
      (chain_from n 0 n (get_or d (w.links_at + l * 8) 0) (omega arith) (omega arith) h)

-- ---- the loop

-- Before node i the nodes of the chain gave the list so far, and the entries that were there stay.
pub record Appending (cells : List ℕ) (w : Layout) (l : ℕ) (list₀ list : List EstJoinPath) (i : ℕ) : Type 0 where
  pub all : List ℕ
  pub rest : List ℕ
  pub from : Chain cells w (get_or cells (w.links_at + l * 8) 0) all
  pub chain : Chain cells w i rest
  pub answer : appended_all list₀ l all list₀ ≡ appended_all list₀ l rest list
  pub kept : take (length list₀) list ≡ list₀

-- turns that are left: an end needs none
abbrev pub turns : ℕ → ℕ → ℕ
turns places zero = 0
turns places (suc i) = places - suc i

pub appending_start : (cells : List ℕ) (w : Layout) (l : ℕ) (list : List EstJoinPath) (i : ℕ)
    → Ending cells w (get_or cells (w.links_at + l * 8) 0) → i ≡ get_or cells (w.links_at + l * 8) 0
    → Appending cells w l list list i
appending_start cells w l list i e f = record {
  all = e.nodes;
  rest = e.nodes;
  from = e.chain;
  chain = subst (λ (k : ℕ). Chain cells w k e.nodes) (sym f) e.chain;
  answer = refl;
  kept = take_same list;
}

pub mark_none : (x : ℕ) → x ≡ 0 → not (eqb x 0) ≡ false
mark_none x h = ap not (eq-eqb x 0 h)

pub mark_some : (x : ℕ) → (x ≡ 0 → ⊥) → not (eqb x 0) ≡ true
mark_some x h = ap not (ne_eqb x 0 h)

flag_bit : (t : Bool) → not (eqb (bit t) 0) ≡ t
flag_bit true = refl
flag_bit false = refl

module _ {cells : List ℕ} {w : Layout} {l : ℕ} {list₀ list : List EstJoinPath} {i : ℕ}
    (v : Appending cells w l list₀ list i) where
  abbrev goal : List ℕ → Option (List EstJoinPath)
  goal is = appended_all list₀ l is list₀

  pub appending_whole : i ≡ 0 → (is : List ℕ) → Chain cells w (get_or cells (w.links_at + l * 8) 0) is
      → goal is ≡ some list
  unfolding appended_all
  appending_whole h is c =
      ap goal (chain_one cells w (get_or cells (w.links_at + l * 8) 0) is v.all c v.from)
      ∙ v.answer
      ∙ ap (λ (q : List ℕ). appended_all list₀ l q list) (chain_done cells w i v.rest v.chain h)

  module _ (h : i ≡ 0 → ⊥) where
    pub link_here : ChainLink w.places i (get_or cells (w.nodes_at + i * 8) 0)
    link_here = (chain_open cells w i v.rest v.chain h).link

    pub turns_less : (next : ℕ) → next ≡ get_or cells (w.nodes_at + i * 8) 0 → turns w.places next < turns w.places i
    turns_less next e = go next i e link_here
      where
        go : (next i : ℕ) → next ≡ get_or cells (w.nodes_at + i * 8) 0
            → ChainLink w.places i (get_or cells (w.nodes_at + i * 8) 0) → turns w.places next < turns w.places i
        go next zero e k = absurd (omega (arith, k.some))
        go zero (suc i) e k = omega (arith, k.placed)
        go (suc next) (suc i) e k =
            let r : suc i < suc next = subst (λ (x : ℕ). 0 < x → suc i < x) (sym e) k.rises (omega arith) in
            omega (arith, k.placed)

    module _ (m : NamesMarked cells w list₀) where
      abbrev pub named : Bool
      named = not (eqb (get_or cells (w.nodes_at + i * 8 + 1) 0) 0)

      abbrev pub put : Option (List EstJoinPath)
      put = appended_if named l i list

      abbrev later : List ℕ
      later = (chain_open cells w i v.rest v.chain h).later

      named_is : named ≡ names list₀ i
      named_is = ap (λ (x : ℕ). not (eqb x 0)) (m.is i link_here.placed) ∙ flag_bit (names list₀ i)

      turn : goal v.all ≡ and_then put (appended_all list₀ l later)
      unfolding appended_all
      turn =
          v.answer
          ∙ ap (λ (q : List ℕ). appended_all list₀ l q list) (chain_open cells w i v.rest v.chain h).is
          ∙ ap (λ (b : Bool). and_then (appended_if b l i list) (appended_all list₀ l later)) (sym named_is)

      pub appending_over : put ≡ none → (is : List ℕ) → Chain cells w (get_or cells (w.links_at + l * 8) 0) is
          → goal is ≡ none
      appending_over o is c =
          ap goal (chain_one cells w (get_or cells (w.links_at + l * 8) 0) is v.all c v.from)
          ∙ turn
          ∙ ap (λ (a : Option (List EstJoinPath)). and_then a (appended_all list₀ l later)) o

      pub appending_on : (list' : List EstJoinPath) → put ≡ some list' → (next : ℕ)
          → next ≡ get_or cells (w.nodes_at + i * 8) 0 → Appending cells w l list₀ list' next
      appending_on list' o next e = record {
        all = v.all;
        rest = later;
        from = v.from;
        chain = subst (λ (x : ℕ). Chain cells w x later) (sym e) (chain_open cells w i v.rest v.chain h).chain;
        answer = turn ∙ ap (λ (a : Option (List EstJoinPath)). and_then a (appended_all list₀ l later)) o;
        kept = appended_stays named l i list₀ list list' v.kept o;
      }
