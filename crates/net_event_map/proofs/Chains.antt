-- What the cells say after a node more: one without an Arrive, or one that is put behind the last of its link.
use mathlib.Core.Path.{◌≡◌, refl, sym, ap, ◌∙◌, subst}
use mathlib.Core.Logic.{◌⊎◌, inl, inr, ◌≢◌}
use mathlib.Core.Bool.{Bool, true, false, not, ◌||◌}
use mathlib.Core.List.{List, [], ◌∷◌, ◌++◌}
use Prim.Native.Nat.{ℕ, suc, ◌+◌, ◌-◌, ◌*◌, ◌≤◌, ◌<◌}
use native.Mathlib.Omega.{arith}
use lib.Dec.{eqb}
use lib.ListN.{length, get_or, set, length-set}
use lib.Seq.{get_or-set_same, get_or-set_other}
use borrow.Author.Tests.{ne_eqb}
use Rattle.laws.proofs.Truth.{true_or_false, not_both, equal_or_not}
use Rattle.laws.specs.Below.{some_below}
use Rattle.laws.proofs.Below.{some_more, or_right, some_at, none_all}
use Rattle.net_node.specs.declared.EstType.{EstType}
use Rattle.net_node.specs.declared.EstType.TheVariants.{Arrive, Clear, Fake}
use Rattle.net_node.specs.declared.LinkEvent.{LinkEvent}
use Rattle.net_node.specs.declared.EstTime.{EstTime}
use Rattle.net_node.specs.Table.{same_event}
use Rattle.net_event_map.specs.declared.Layout.{Layout}
use Rattle.net_event_map.specs.EventMap.{seen_in, nodes_from, event_nodes, head_of, last_of, arrive_at, clear_at, bit}
use Rattle.net_event_map.specs.EventMap.{CellsApart, Mapped, MapOnly, RealKind}
use Rattle.net_event_map.proofs.Lists.{same_arrive, arrive_same, arrive_other, arrive_no_clear, clear_same, clear_other}
use Rattle.net_event_map.proofs.Lists.{clear_no_arrive, head_first, head_kept, last_own, has, Inside, Walked}
use Rattle.net_event_map.proofs.Lists.{nodes_added, nodes_passed, walk, last_inside, behind_last, behind_other}
use Rattle.net_event_map.proofs.Lists.{walked_none, some_first, nodes_none}

-- ---- an event's kind

pub arrive_is : (e : LinkEvent) → e.est_type ≡ Arrive → e ≡ arrive_at e.link_idx
unfolding arrive_at
arrive_is e h = λ t. record { link_idx = e.link_idx; est_type = h t }

pub clear_is : (e : LinkEvent) → e.est_type ≡ Clear → e ≡ clear_at e.link_idx
unfolding clear_at
clear_is e h = λ t. record { link_idx = e.link_idx; est_type = h t }

pub arrive_real : (l : ℕ) → RealKind (arrive_at l).est_type
unfolding arrive_at
arrive_real l = tt

pub clear_real : (l : ℕ) → RealKind (clear_at l).est_type
unfolding clear_at
clear_real l = tt

-- a Fake isn't one
fake_real : {A : Type 0} (k : EstType) → k ≡ Fake → RealKind k → A
fake_real k e r = absurd (subst RealKind e r)

-- ---- all nodes of an event, and whether there is one

module _ (node : ℕ → EstTime) (e : LinkEvent) where
  pub all_added : (n : ℕ) → has node e n ≡ true → event_nodes node e (n + 1) ≡ event_nodes node e n ++ (n ∷ [])
  unfolding event_nodes
  all_added n h = nodes_added node e 0 n n (n + 1) (omega arith) refl h

  pub all_passed : (n : ℕ) → has node e n ≡ false → event_nodes node e (n + 1) ≡ event_nodes node e n
  unfolding event_nodes
  all_passed n h = nodes_passed node e 0 n n (n + 1) (omega arith) refl h

  -- behind node i
  pub rest_added : (i n : ℕ) → i < n → has node e n ≡ true
      → nodes_from node e (suc i) (n + 1 - suc i) ≡ nodes_from node e (suc i) (n - suc i) ++ (n ∷ [])
  rest_added i n h t = nodes_added node e (suc i) (n - suc i) n (n + 1 - suc i) (omega arith) (omega arith) t

  pub rest_passed : (i n : ℕ) → i < n → has node e n ≡ false
      → nodes_from node e (suc i) (n + 1 - suc i) ≡ nodes_from node e (suc i) (n - suc i)
  rest_passed i n h t = nodes_passed node e (suc i) (n - suc i) n (n + 1 - suc i) (omega arith) (omega arith) t

  pub rest_end : (n : ℕ) → head_of (nodes_from node e (suc n) (n + 1 - suc n)) ≡ 0
  unfolding nodes_from
  rest_end n = let z : n + 1 - suc n ≡ 0 = omega arith in ap (λ (k : ℕ). head_of (nodes_from node e (suc n) k)) z

  pub seen_added : (n : ℕ) → has node e n ≡ true → seen_in node (n + 1) e ≡ true
  unfolding seen_in
  seen_added n h = some_more n (has node e) ∙ or_right (some_below n (has node e)) (has node e n) h

  pub seen_passed : (n : ℕ) → has node e n ≡ false → seen_in node (n + 1) e ≡ seen_in node n e
  unfolding seen_in
  seen_passed n h = some_more n (has node e) ∙ ap (λ (t : Bool). some_below n (has node e) || t) h
      ∙ or_none (some_below n (has node e))
    where
      or_none : (t : Bool) → (t || false) ≡ t
      or_none true = refl
      or_none false = refl

  -- there is one where the first of all isn't 0
  pub seen_first : has node e 0 ≡ false → (n : ℕ) → not (eqb (head_of (event_nodes node e n)) 0) ≡ seen_in node n e
  unfolding event_nodes seen_in
  seen_first z n = go (walk node e 0 n)
    where
      go : (nodes_from node e 0 n ≡ []) ⊎ Walked node e 0 n (head_of (nodes_from node e 0 n))
          → not (eqb (head_of (nodes_from node e 0 n)) 0) ≡ some_below n (has node e)
      go (inl s) = ap (λ (q : List ℕ). not (eqb (head_of q) 0)) s
          ∙ sym (none_all n (has node e) (λ i h. lacks i h (true_or_false (has node e i))))
        where
          lacks : (i : ℕ) → i < n → (has node e i ≡ true) ⊎ (has node e i ≡ false) → has node e i ≡ false
          lacks i h (inl t) =
              absurd (nodes_none node e 0 n i s (record { from = omega arith; below = omega arith; has_it = t }))
          lacks i h (inr f) = f
      go (inr v) =
          let j = head_of (nodes_from node e 0 n) in
          let p : 0 < j = some_first node e z 0 n j v.inside in
          ap not (ne_eqb j 0 (λ (d : j ≡ 0). omega arith))
          ∙ sym (some_at n (has node e) j (omega (arith, v.inside.below)) v.inside.has_it)

-- ---- two stores, and what stands elsewhere or at one of them

module _ (c : List ℕ) (i j x y p : ℕ) where
  two_other : p ≢ i → p ≢ j → get_or (set (set c i x) j y) p 0 ≡ get_or c p 0
  two_other a b = get_or-set_other (set c i x) j p y 0 b ∙ get_or-set_other c i p x 0 a

  two_first : i < length c → p ≡ i → p ≢ j → get_or (set (set c i x) j y) p 0 ≡ x
  two_first l e b = get_or-set_other (set c i x) j p y 0 b ∙ ap (λ (n : ℕ). get_or (set c i x) n 0) e
      ∙ get_or-set_same c i x 0 l

  two_second : j < length c → p ≡ j → get_or (set (set c i x) j y) p 0 ≡ y
  two_second l e = ap (λ (n : ℕ). get_or (set (set c i x) j y) n 0) e
      ∙ get_or-set_same (set c i x) j y 0 (subst (λ (n : ℕ). j < n) (sym (length-set c i x)) l)

-- ---- cells that agree where the Arrives are kept

pub record Agree (c d : List ℕ) (w : Layout) : Type 0 where
  pub first : (l : ℕ) → l < w.links → get_or d (w.links_at + l * 8) 0 ≡ get_or c (w.links_at + l * 8) 0
  pub last : (l : ℕ) → l < w.links → get_or d (w.links_at + l * 8 + 1) 0 ≡ get_or c (w.links_at + l * 8 + 1) 0
  pub next : (i : ℕ) → i < w.places → get_or d (w.nodes_at + i * 8) 0 ≡ get_or c (w.nodes_at + i * 8) 0
  pub mark : (i k : ℕ) → i < w.places → 0 < k → k < 8
      → get_or d (w.nodes_at + i * 8 + k) 0 ≡ get_or c (w.nodes_at + i * 8 + k) 0

module _ {c : List ℕ} {w : Layout} {node : ℕ → EstTime} {n : ℕ} (v : Mapped c w node n) where
  -- node 0 is no event
  pub no_zeroth : (e : LinkEvent) → RealKind e.est_type → has node e 0 ≡ false
  no_zeroth e r = go (true_or_false (has node e 0))
    where
      go : (has node e 0 ≡ true) ⊎ (has node e 0 ≡ false) → has node e 0 ≡ false
      go (inl t) = fake_real e.est_type (v.zeroth e t) r
      go (inr f) = f

  -- a node that is no Arrive
  pub mapped_quiet : (d : List ℕ) → n ≤ w.places → Agree c d w → ((l : ℕ) → has node (arrive_at l) n ≡ false)
      → ((l : ℕ) → l < w.links → get_or d (w.links_at + l * 8 + 2) 0 ≡ bit (seen_in node (n + 1) (clear_at l)))
      → Mapped d w node (n + 1)
  mapped_quiet d m a q s = record {
    first = λ l h. a.first l h ∙ v.first l h ∙ ap head_of (sym (all_passed node (arrive_at l) n (q l)));
    last = λ l h. a.last l h ∙ v.last l h ∙ ap last_of (sym (all_passed node (arrive_at l) n (q l)));
    cleared = s;
    next = λ l i h g t. go l i h g t (equal_or_not i n);
    fresh = λ i h g. a.next i g ∙ v.fresh i (omega arith) g;
    unmarked = λ i h. a.mark i 1 h (omega arith) (omega arith) ∙ v.unmarked i h;
    ungiven = λ i k h f g. a.mark i k h (omega arith) g ∙ v.ungiven i k h f g;
    zeroth = v.zeroth;
  }
    where
      go : (l i : ℕ) → l < w.links → i < n + 1 → has node (arrive_at l) i ≡ true → (i ≡ n) ⊎ (i ≡ n → ⊥)
          → get_or d (w.nodes_at + i * 8) 0 ≡ head_of (nodes_from node (arrive_at l) (suc i) (n + 1 - suc i))
      go l i h g t (inl e) = not_both (subst (λ (k : ℕ). has node (arrive_at l) k ≡ true) e t) (q l)
      go l i h g t (inr e) =
          let b : i < n = omega arith in
          a.next i (omega arith) ∙ v.next l i h b t ∙ ap head_of (sym (rest_passed node (arrive_at l) i n b (q l)))

  -- what `contains` reads
  pub arrive_seen : (e : LinkEvent) → e.est_type ≡ Arrive → e.link_idx < w.links
      → not (eqb (get_or c (w.links_at + e.link_idx * 8) 0) 0) ≡ seen_in node n e
  arrive_seen e k h =
      let a = arrive_at e.link_idx in
      ap (λ (x : ℕ). not (eqb x 0)) (v.first e.link_idx h) ∙ seen_first node a (no_zeroth a (arrive_real e.link_idx)) n
      ∙ ap (seen_in node n) (sym (arrive_is e k))

  pub clear_seen : (e : LinkEvent) → e.est_type ≡ Clear → e.link_idx < w.links
      → not (eqb (get_or c (w.links_at + e.link_idx * 8 + 2) 0) 0) ≡ seen_in node n e
  clear_seen e k h = ap (λ (x : ℕ). not (eqb x 0)) (v.cleared e.link_idx h)
      ∙ flagged (seen_in node n (clear_at e.link_idx)) ∙ ap (seen_in node n) (sym (clear_is e k))
    where
      flagged : (t : Bool) → not (eqb (bit t) 0) ≡ t
      flagged true = refl
      flagged false = refl

-- ---- a Clear

module _ {c : List ℕ} {w : Layout} {node : ℕ → EstTime} {i : ℕ} (l : ℕ) (p : CellsApart c w) (b : l < w.links)
    (m : i < w.places) (e : (node i).link_event ≡ clear_at l) (v : Mapped c w node i) where
  abbrev flag : ℕ
  flag = w.links_at + l * 8 + 2

  pub cleared_one : Mapped (set c (w.links_at + l * 8 + 2) 1) w node (i + 1)
  cleared_one = mapped_quiet v (set c flag 1) (omega arith) (record {
    first = λ k h. get_or-set_other c flag (w.links_at + k * 8) 1 0 (λ (d : w.links_at + k * 8 ≡ flag). omega arith);
    last =
        λ k h. get_or-set_other c flag (w.links_at + k * 8 + 1) 1 0
        (λ (d : w.links_at + k * 8 + 1 ≡ flag). omega arith);
    next =
        λ j h. get_or-set_other c flag (w.nodes_at + j * 8) 1 0
        (λ (d : w.nodes_at + j * 8 ≡ flag). omega (arith, p.apart));
    mark =
        λ j k h f g. get_or-set_other c flag (w.nodes_at + j * 8 + k) 1 0
        (λ (d : w.nodes_at + j * 8 + k ≡ flag). omega (arith, p.apart));
  }) (λ k. ap (λ (x : LinkEvent). same_event x (arrive_at k)) e ∙ clear_no_arrive l k)
      (λ k h. go k h (equal_or_not k l))
    where
      go : (k : ℕ) → k < w.links → (k ≡ l) ⊎ (k ≡ l → ⊥)
          → get_or (set c flag 1) (w.links_at + k * 8 + 2) 0 ≡ bit (seen_in node (i + 1) (clear_at k))
      go k h (inl d) =
          ap (λ (x : ℕ). get_or (set c flag 1) (w.links_at + x * 8 + 2) 0) d
          ∙ get_or-set_same c flag 1 0 (omega (arith, p.links_inside))
          ∙ ap bit
          (sym
          (seen_added node (clear_at k) i (ap (λ (x : LinkEvent). same_event x (clear_at k)) e
          ∙ ap (λ (x : ℕ). same_event (clear_at l) (clear_at x)) d ∙ clear_same l)))
      go k h (inr d) =
          get_or-set_other c flag (w.links_at + k * 8 + 2) 1 0 (λ (f : w.links_at + k * 8 + 2 ≡ flag). d (omega arith))
          ∙ v.cleared k h
          ∙ ap bit
          (sym
          (seen_passed node (clear_at k) i (ap (λ (x : LinkEvent). same_event x (clear_at k)) e ∙ clear_other l k d)))

-- ---- an Arrive

-- The cell that names the new node is none of those that stay.
record Open (w : Layout) (node : ℕ → EstTime) (i l to : ℕ) : Type 0 where
  link_else : (k : ℕ) → k < w.links → (k ≡ l → ⊥) → w.links_at + k * 8 ≢ to
  last_else : (k : ℕ) → k < w.links → w.links_at + k * 8 + 1 ≢ to
  clear_else : (k : ℕ) → k < w.links → w.links_at + k * 8 + 2 ≢ to
  node_else : (j : ℕ) → j < w.places → (j < i → has node (arrive_at l) j ≡ true → ⊥) → w.nodes_at + j * 8 ≢ to
  mark_else : (j k : ℕ) → j < w.places → 0 < k → k < 8 → w.nodes_at + j * 8 + k ≢ to

module _ {c : List ℕ} {w : Layout} {node : ℕ → EstTime} {i : ℕ} (l to : ℕ) (p : CellsApart c w) (b : l < w.links)
    (m : i < w.places) (e : (node i).link_event ≡ arrive_at l) (v : Mapped c w node i) where
  abbrev at : ℕ
  at = w.links_at + l * 8

  abbrev d : List ℕ
  d = set (set c to i) (at + 1) i

  own : (k : ℕ) → k ≡ l → has node (arrive_at k) i ≡ true
  own k h = ap (λ (x : LinkEvent). same_event x (arrive_at k)) e
      ∙ ap (λ (x : ℕ). same_event (arrive_at l) (arrive_at x)) h ∙ arrive_same l

  other : (k : ℕ) → (k ≡ l → ⊥) → has node (arrive_at k) i ≡ false
  other k h = ap (λ (x : LinkEvent). same_event x (arrive_at k)) e ∙ arrive_other l k h

  no_clear : (k : ℕ) → has node (clear_at k) i ≡ false
  no_clear k = ap (λ (x : LinkEvent). same_event x (clear_at k)) e ∙ arrive_no_clear l k

  arrived : Open w node i l to → get_or d at 0 ≡ head_of (event_nodes node (arrive_at l) i ++ (i ∷ []))
      → ((j : ℕ) → j < i → has node (arrive_at l) j ≡ true
      → get_or d (w.nodes_at + j * 8) 0 ≡ head_of (nodes_from node (arrive_at l) (suc j) (i - suc j) ++ (i ∷ [])))
      → Mapped d w node (i + 1)
  arrived o f g = record {
    first = λ k h. first k h (equal_or_not k l);
    last = λ k h. last k h (equal_or_not k l);
    cleared = λ k h.
        two_other c to (at + 1) i i (w.links_at + k * 8 + 2) (o.clear_else k h)
        (λ (q : w.links_at + k * 8 + 2 ≡ at + 1). omega arith)
        ∙ v.cleared k h
        ∙ ap bit (sym (seen_passed node (clear_at k) i (no_clear k)));
    next = λ k j h q t. next k j h q t (equal_or_not j i) (equal_or_not k l);
    fresh = λ j h q. node_stays j q (λ (x : j < i) y. omega arith) ∙ v.fresh j (omega arith) q;
    unmarked = λ j h. mark_stays j 1 h (omega arith) (omega arith) ∙ v.unmarked j h;
    ungiven = λ j k h f g. mark_stays j k h (omega arith) g ∙ v.ungiven j k h f g;
    zeroth = v.zeroth;
  }
    where
      mark_stays : (j k : ℕ) → j < w.places → 0 < k → k < 8
          → get_or d (w.nodes_at + j * 8 + k) 0 ≡ get_or c (w.nodes_at + j * 8 + k) 0
      mark_stays j k h f g =
          two_other c to (at + 1) i i (w.nodes_at + j * 8 + k) (o.mark_else j k h f g)
          (λ (q : w.nodes_at + j * 8 + k ≡ at + 1). omega (arith, p.apart))

      node_stays : (j : ℕ) → j < w.places → (j < i → has node (arrive_at l) j ≡ true → ⊥)
          → get_or d (w.nodes_at + j * 8) 0 ≡ get_or c (w.nodes_at + j * 8) 0
      node_stays j h q =
          two_other c to (at + 1) i i (w.nodes_at + j * 8) (o.node_else j h q)
          (λ (x : w.nodes_at + j * 8 ≡ at + 1). omega (arith, p.apart))

      first : (k : ℕ) → k < w.links → (k ≡ l) ⊎ (k ≡ l → ⊥)
          → get_or d (w.links_at + k * 8) 0 ≡ head_of (event_nodes node (arrive_at k) (i + 1))
      first k h (inl q) =
          ap (λ (x : ℕ). get_or d (w.links_at + x * 8) 0) q
          ∙ f
          ∙ ap (λ (x : ℕ). head_of (event_nodes node (arrive_at x) i ++ (i ∷ []))) (sym q)
          ∙ ap head_of (sym (all_added node (arrive_at k) i (own k q)))
      first k h (inr q) =
          two_other c to (at + 1) i i (w.links_at + k * 8) (o.link_else k h q)
          (λ (x : w.links_at + k * 8 ≡ at + 1). omega arith)
          ∙ v.first k h
          ∙ ap head_of (sym (all_passed node (arrive_at k) i (other k q)))

      last : (k : ℕ) → k < w.links → (k ≡ l) ⊎ (k ≡ l → ⊥)
          → get_or d (w.links_at + k * 8 + 1) 0 ≡ last_of (event_nodes node (arrive_at k) (i + 1))
      last k h (inl q) =
          two_second c to (at + 1) i i (w.links_at + k * 8 + 1) (omega (arith, p.links_inside)) (omega arith)
          ∙ sym (ap last_of (all_added node (arrive_at k) i (own k q)) ∙ last_own (event_nodes node (arrive_at k) i) i)
      last k h (inr q) =
          two_other c to (at + 1) i i (w.links_at + k * 8 + 1) (o.last_else k h)
          (λ (x : w.links_at + k * 8 + 1 ≡ at + 1). q (omega arith))
          ∙ v.last k h
          ∙ ap last_of (sym (all_passed node (arrive_at k) i (other k q)))

      next : (k j : ℕ) → k < w.links → j < i + 1 → has node (arrive_at k) j ≡ true → (j ≡ i) ⊎ (j ≡ i → ⊥)
          → (k ≡ l) ⊎ (k ≡ l → ⊥)
          → get_or d (w.nodes_at + j * 8) 0 ≡ head_of (nodes_from node (arrive_at k) (suc j) (i + 1 - suc j))
      next k j h q t (inl z) s =
          node_stays j (omega arith) (λ (x : j < i) y. omega arith)
          ∙ v.fresh j (omega arith) (omega arith)
          ∙ sym (ap (λ (x : ℕ). head_of (nodes_from node (arrive_at k) (suc x) (i + 1 - suc x))) z
          ∙ rest_end node (arrive_at k) i)
      next k j h q t (inr z) (inl s) =
          let a : j < i = omega arith in
          g j a (subst (λ (x : ℕ). has node (arrive_at x) j ≡ true) s t)
          ∙ ap (λ (x : ℕ). head_of (nodes_from node (arrive_at x) (suc j) (i - suc j) ++ (i ∷ []))) (sym s)
          ∙ ap head_of (sym (rest_added node (arrive_at k) j i a (own k s)))
      next k j h q t (inr z) (inr s) =
          let a : j < i = omega arith in
          node_stays j (omega arith) (λ (x : j < i) (y : has node (arrive_at l) j ≡ true). s
          (same_arrive (node j).link_event k l t y))
          ∙ v.next k j h a t
          ∙ ap head_of (sym (rest_passed node (arrive_at k) j i a (other k s)))

  -- the link's first
  pub arrived_first : get_or c (w.links_at + l * 8) 0 ≡ 0 → to ≡ w.links_at + l * 8
      → Mapped (set (set c to i) (w.links_at + l * 8 + 1) i) w node (i + 1)
  unfolding event_nodes
  arrived_first z s =
      let none : nodes_from node (arrive_at l) 0 i ≡ [] =
      walked_none node (arrive_at l) (no_zeroth v (arrive_at l) (arrive_real l)) 0 i (sym (v.first l b) ∙ z) in
      arrived (record {
        link_else = λ k h q x. q (omega arith);
        last_else = λ k h x. omega arith;
        clear_else = λ k h x. omega arith;
        node_else = λ j h q x. omega (arith, p.apart);
        mark_else = λ j k h f g x. omega (arith, p.apart);
      })
      (two_first c to (at + 1) i i at (omega (arith, p.links_inside)) (sym s) (λ (q : at ≡ at + 1). omega arith)
      ∙ sym (head_first (nodes_from node (arrive_at l) 0 i) i none))
      (λ j h t. absurd (nodes_none node (arrive_at l) 0 i j none
      (record { from = omega arith; below = omega arith; has_it = t })))

  -- behind its last
  pub arrived_behind : 0 < get_or c (w.links_at + l * 8) 0 → to ≡ w.nodes_at + get_or c (w.links_at + l * 8 + 1) 0 * 8
      → Mapped (set (set c to i) (w.links_at + l * 8 + 1) i) w node (i + 1)
  unfolding event_nodes
  arrived_behind z s = go (last_inside node (arrive_at l) 0 i)
    where
      xs : List ℕ
      xs = nodes_from node (arrive_at l) 0 i

      some : 0 < head_of xs
      some = subst (λ (x : ℕ). 0 < x) (v.first l b) z

      chain : (j : ℕ) → j < i → has node (arrive_at l) j ≡ true → (j ≡ last_of xs) ⊎ (j ≡ last_of xs → ⊥)
          → to ≡ w.nodes_at + last_of xs * 8
          → get_or d (w.nodes_at + j * 8) 0 ≡ head_of (nodes_from node (arrive_at l) (suc j) (i - suc j) ++ (i ∷ []))
      chain j h t (inl q) r =
          let n : Inside node (arrive_at l) 0 i j = record { from = omega arith; below = omega arith; has_it = t } in
          let y : 0 + i - suc j ≡ i - suc j = omega arith in
          two_first c to (at + 1) i i (w.nodes_at + j * 8) (omega (arith, p.nodes_inside)) (omega arith)
          (λ (x : w.nodes_at + j * 8 ≡ at + 1). omega (arith, p.apart))
          ∙ sym (head_first (nodes_from node (arrive_at l) (suc j) (i - suc j)) i
          (ap (nodes_from node (arrive_at l) (suc j)) (sym y) ∙ behind_last node (arrive_at l) 0 i j n (sym q)))
      chain j h t (inr q) r =
          let n : Inside node (arrive_at l) 0 i j = record { from = omega arith; below = omega arith; has_it = t } in
          let y : 0 + i - suc j ≡ i - suc j = omega arith in
          two_other c to (at + 1) i i (w.nodes_at + j * 8) (λ (x : w.nodes_at + j * 8 ≡ to). q (omega arith))
          (λ (x : w.nodes_at + j * 8 ≡ at + 1). omega (arith, p.apart))
          ∙ v.next l j b h t
          ∙ sym (head_kept (nodes_from node (arrive_at l) (suc j) (i - suc j)) i
          (subst (λ (k : ℕ). 0 < head_of (nodes_from node (arrive_at l) (suc j) k)) y
          (behind_other node (arrive_at l) 0 i j n q)))

      go : (xs ≡ []) ⊎ Inside node (arrive_at l) 0 i (last_of xs) → Mapped d w node (i + 1)
      go (inl n) = let f : head_of xs ≡ 0 = ap head_of n in absurd (omega (arith, some))
      go (inr u) =
          let q = last_of xs in
          let r : to ≡ w.nodes_at + q * 8 = s ∙ ap (λ (x : ℕ). w.nodes_at + x * 8) (v.last l b) in
          let y : q < i = omega (arith, u.below) in
          arrived (record {
            link_else = λ k h g x. omega (arith, p.apart);
            last_else = λ k h x. omega (arith, p.apart);
            clear_else = λ k h x. omega (arith, p.apart);
            node_else = λ j h g x. let f : j ≡ q = omega arith in
                g (omega arith) (subst (λ (k : ℕ). has node (arrive_at l) k ≡ true) (sym f) u.has_it);
            mark_else = λ j k h f g x. omega arith;
          })
          (two_other c to (at + 1) i i at (λ (x : at ≡ to). omega (arith, p.apart)) (λ (x : at ≡ at + 1). omega arith)
          ∙ v.first l b ∙ sym (head_kept xs i some))
          (λ j h t. chain j h t (equal_or_not j q) r)

  -- in the cell that is open
  pub arrived_open : (get_or c (w.links_at + l * 8) 0 ≡ 0 → to ≡ w.links_at + l * 8)
      → (0 < get_or c (w.links_at + l * 8) 0 → to ≡ w.nodes_at + get_or c (w.links_at + l * 8 + 1) 0 * 8)
      → Mapped (set (set c to i) (w.links_at + l * 8 + 1) i) w node (i + 1)
  arrived_open f g = go (equal_or_not (get_or c at 0) 0)
    where
      go : (get_or c at 0 ≡ 0) ⊎ (get_or c at 0 ≡ 0 → ⊥) → Mapped d w node (i + 1)
      go (inl z) = arrived_first z (f z)
      go (inr z) = let h : 0 < get_or c at 0 = omega arith in arrived_behind h (g h)

-- ---- the other cells

module _ {c : List ℕ} {w : Layout} (l : ℕ) (b : l < w.links) where
  pub cleared_only : MapOnly c (set c (w.links_at + l * 8 + 2) 1) w
  cleared_only = record { stays = λ q a n. get_or-set_other c (w.links_at + l * 8 + 2) q 1 0 (a l 2 b (omega arith)) }

  pub arrived_only : (to i : ℕ) → get_or c (w.links_at + l * 8 + 1) 0 < w.places
      → (get_or c (w.links_at + l * 8) 0 ≡ 0 → to ≡ w.links_at + l * 8)
      → (0 < get_or c (w.links_at + l * 8) 0 → to ≡ w.nodes_at + get_or c (w.links_at + l * 8 + 1) 0 * 8)
      → MapOnly c (set (set c to i) (w.links_at + l * 8 + 1) i) w
  arrived_only to i m f g = record {
    stays =
        λ q a n. two_other c to (w.links_at + l * 8 + 1) i i q
        (go q a n (equal_or_not (get_or c (w.links_at + l * 8) 0) 0)) (a l 1 b (omega arith));
  }
    where
      go : (q : ℕ) → ((l k : ℕ) → l < w.links → k < 3 → q ≢ w.links_at + l * 8 + k)
          → ((i : ℕ) → i < w.places → q ≢ w.nodes_at + i * 8)
          → (get_or c (w.links_at + l * 8) 0 ≡ 0) ⊎ (get_or c (w.links_at + l * 8) 0 ≡ 0 → ⊥) → q ≢ to
      go q a n (inl z) e = a l 0 b (omega arith) (omega (arith, f z))
      go q a n (inr z) e = let h : 0 < get_or c (w.links_at + l * 8) 0 = omega arith in
          n (get_or c (w.links_at + l * 8 + 1) 0) m (e ∙ g h)
