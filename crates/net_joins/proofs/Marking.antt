-- Marks in the cells: what stands at each cell after they are set, that they tell which nodes a list names, and that
-- they can be taken back.
use mathlib.Core.Path.{◌≡◌, refl, sym, ap, ◌∙◌, subst}
use mathlib.Core.Logic.{◌⊎◌, inl, inr}
use mathlib.Core.Bool.{Bool, true, false, ◌||◌}
use mathlib.Core.List.{List, [], ◌∷◌}
use Prim.Native.Nat.{ℕ, suc, ◌+◌, ◌*◌, ◌≤◌, ◌<◌}
use native.Mathlib.Numerals.{add-one}
use native.Mathlib.Omega.{arith}
use borrow.Author.Tests.{eqb-true, eqb-false, eq-eqb, ne_eqb}
use lib.Dec.{eqb}
use lib.ListN.{length, get_or, set, drop, length-set}
use Rattle.std.proofs.Common.{drop-cons, drop_of_length-le}
use lib.Seq.{get_or-set_same, get_or-set_other, ext_get_or}
use Rattle.laws.proofs.Truth.{or_is, none_left, none_right, not_both, true_or_false}
use Rattle.net_event_map.specs.declared.Layout.{Layout}
use Rattle.net_event_map.specs.EventMap.{bit, CellsApart}
use Rattle.net_join_paths.specs.declared.EstJoinPath.{EstJoinPath}
use Rattle.net_join_paths.specs.Entries.{node_of, Valid}
use Rattle.net_join_paths.proofs.Entries.{valid_at}
use Rattle.net_joins.specs.Joins.{names}
use Rattle.net_joins.specs.Marks.{marks, NamesMarked}

-- the mark of an entry's node: its second cell
abbrev pub cell : ℕ → EstJoinPath → ℕ
cell base x = base + x.est_idx_next * 8 + 1

-- ---- the loop

module _ (base v : ℕ) where
  -- no cell more or less
  pub length_marks : (xs : List EstJoinPath) (c : List ℕ) → length (marks base v xs c) ≡ length c
  unfolding marks
  length_marks [] c = refl
  length_marks (x ∷ xs) c = length_marks xs (set c (cell base x) v) ∙ length-set c (cell base x) v

-- the marks of the entries from k on are still to be set
pub record Marking (base mark : ℕ) (list : List EstJoinPath) (cells₀ cells : List ℕ) (k : ℕ) : Type 0 where
  pub is : marks base mark list cells₀ ≡ marks base mark (drop k list) cells
  pub many : length cells ≡ length cells₀

module _ {base mark : ℕ} {list : List EstJoinPath} {cells₀ cells : List ℕ} {k : ℕ}
    (v : Marking base mark list cells₀ cells k) where
  -- of one less
  pub marking_on : k < length list → (d x : EstJoinPath) → x ≡ get_or list k d
      → Marking base mark list cells₀ (set cells (cell base x) mark) (k + 1)
  unfolding marks
  marking_on h d x l = record {
    is = let a : drop k list ≡ x ∷ drop (k + 1) list = drop-cons list k d h
        ∙ ap (λ (y : EstJoinPath). y ∷ drop (suc k) list) (sym l) ∙ ap (λ (j : ℕ). x ∷ drop j list) (sym (add-one k)) in
        v.is ∙ ap (λ (xs : List EstJoinPath). marks base mark xs cells) a;
    many = length-set cells (cell base x) mark ∙ v.many;
  }

  -- of none
  pub marking_whole : length list ≤ k → cells ≡ marks base mark list cells₀
  unfolding marks
  marking_whole h = sym (v.is ∙ ap (λ (xs : List EstJoinPath). marks base mark xs cells) (drop_of_length-le list h))

-- ---- which cells are set

module _ (base : ℕ) where
  -- whether cell p is the mark of a node that the list names
  unfoldable hits : List EstJoinPath → ℕ → Bool
  hits [] p = false
  hits (x ∷ xs) p = eqb (cell base x) p || hits xs p

  -- a cell that is not stays
  marks_miss : (v : ℕ) (es : List EstJoinPath) (c : List ℕ) (p : ℕ) → hits es p ≡ false
      → get_or (marks base v es c) p 0 ≡ get_or c p 0
  unfolding marks hits
  marks_miss v [] c p h = refl
  marks_miss v (x ∷ xs) c p h =
      let d : cell base x ≡ p → ⊥ = eqb-false (cell base x) p (none_left (eqb (cell base x) p) (hits xs p) h) in
      marks_miss v xs (set c (cell base x) v) p (none_right (eqb (cell base x) p) (hits xs p) h)
      ∙ get_or-set_other c (cell base x) p v 0 (λ (e : p ≡ cell base x). d (sym e))

  -- a cell that is gets the value
  marks_hit : (v : ℕ) (es : List EstJoinPath) (c : List ℕ) (p : ℕ) → p < length c → hits es p ≡ true
      → get_or (marks base v es c) p 0 ≡ v
  unfolding marks hits
  marks_hit v [] c p l h = not_both h refl
  marks_hit v (x ∷ xs) c p l h =
      go (true_or_false (hits xs p)) (or_is (eqb (cell base x) p) (hits xs p) h)
      (marks_hit v xs (set c (cell base x) v) p (subst (λ (m : ℕ). p < m) (sym (length-set c (cell base x) v)) l))
    where
      go : (hits xs p ≡ true) ⊎ (hits xs p ≡ false) → (eqb (cell base x) p ≡ true) ⊎ (hits xs p ≡ true)
          → (hits xs p ≡ true → get_or (marks base v xs (set c (cell base x) v)) p 0 ≡ v)
          → get_or (marks base v xs (set c (cell base x) v)) p 0 ≡ v
      go (inl t) o ih = ih t
      go (inr f) (inl t) ih =
          let e : cell base x ≡ p = eqb-true (cell base x) p t in
          marks_miss v xs (set c (cell base x) v) p f ∙ ap (λ (k : ℕ). get_or (set c (cell base x) v) k 0) (sym e)
          ∙ get_or-set_same c (cell base x) v 0 (subst (λ (k : ℕ). k < length c) (sym e) l)
      go (inr f) (inr t) ih = not_both t f

  -- a cell that is set is the mark of a place
  record Placed (places p : ℕ) : Type 0 where
    node : ℕ
    within : node < places
    is : p ≡ base + node * 8 + 1

  hits_placed : (es : List EstJoinPath) (places p : ℕ) → ((k : ℕ) → k < length es → node_of es k < places)
      → hits es p ≡ true → Placed places p
  unfolding hits
  hits_placed [] places p v h = not_both h refl
  hits_placed (x ∷ xs) places p v h =
      go (or_is (eqb (cell base x) p) (hits xs p) h) (hits_placed xs places p (λ k l. v (suc k) (omega arith)))
    where
      go : (eqb (cell base x) p ≡ true) ⊎ (hits xs p ≡ true) → (hits xs p ≡ true → Placed places p) → Placed places p
      go (inl t) ih = record {
        node = x.est_idx_next;
        within = v 0 (omega arith);
        is = sym (eqb-true (cell base x) p t);
      }
      go (inr t) ih = ih t

  -- of a node's mark: whether the list names it
  hits_node : (es : List EstJoinPath) (i : ℕ) → hits es (base + i * 8 + 1) ≡ names es i
  unfolding hits names
  hits_node [] i = refl
  hits_node (x ∷ xs) i =
      ap (λ (b : Bool). b || hits xs (base + i * 8 + 1)) (same x.est_idx_next (true_or_false (eqb x.est_idx_next i)))
      ∙ ap (λ (b : Bool). eqb x.est_idx_next i || b) (hits_node xs i)
    where
      same : (j : ℕ) → (eqb j i ≡ true) ⊎ (eqb j i ≡ false) → eqb (base + j * 8 + 1) (base + i * 8 + 1) ≡ eqb j i
      same j (inl t) = eq-eqb (base + j * 8 + 1) (base + i * 8 + 1) (ap (λ (k : ℕ). base + k * 8 + 1) (eqb-true j i t))
          ∙ sym t
      same j (inr f) =
          let d : j ≡ i → ⊥ = eqb-false j i f in
          ne_eqb (base + j * 8 + 1) (base + i * 8 + 1) (λ (e : base + j * 8 + 1 ≡ base + i * 8 + 1). d (omega arith))
          ∙ sym f

-- ---- for cells without marks

module _ {c : List ℕ} {w : Layout} {es : List EstJoinPath} (p : CellsApart c w) (v : Valid es w.places) where
  -- a cell that is no place's mark stays
  stays : (m q : ℕ) → ((i : ℕ) → i < w.places → q ≡ w.nodes_at + i * 8 + 1 → ⊥)
      → get_or (marks w.nodes_at m es c) q 0 ≡ get_or c q 0
  stays m q h = marks_miss w.nodes_at m es c q (go (true_or_false (hits w.nodes_at es q)))
    where
      go : (hits w.nodes_at es q ≡ true) ⊎ (hits w.nodes_at es q ≡ false) → hits w.nodes_at es q ≡ false
      go (inl t) = let o = hits_placed w.nodes_at es w.places q v.node t in absurd (h o.node o.within o.is)
      go (inr f) = f

  -- a node's first cell does
  pub next_stays : (m i : ℕ) → get_or (marks w.nodes_at m es c) (w.nodes_at + i * 8) 0 ≡ get_or c (w.nodes_at + i * 8) 0
  next_stays m i = stays m (w.nodes_at + i * 8) (λ j h e. omega arith)

  -- and a link's
  pub first_stays : (m l : ℕ) → get_or (marks w.nodes_at m es c) (w.links_at + l * 8) 0
      ≡ get_or c (w.links_at + l * 8) 0
  first_stays m l = stays m (w.links_at + l * 8) (λ j h e. omega (arith, p.apart))

  module _ (u : (i : ℕ) → i < w.places → get_or c (w.nodes_at + i * 8 + 1) 0 ≡ 0) where
    -- the marks tell which nodes the list names
    pub marked_all : NamesMarked (marks w.nodes_at 1 es c) w es
    marked_all = record { is = λ i h. go i h (true_or_false (names es i)) }
      where
        go : (i : ℕ) → i < w.places → (names es i ≡ true) ⊎ (names es i ≡ false)
            → get_or (marks w.nodes_at 1 es c) (w.nodes_at + i * 8 + 1) 0 ≡ bit (names es i)
        go i h (inl t) =
            marks_hit w.nodes_at 1 es c (w.nodes_at + i * 8 + 1) (omega (arith, p.nodes_inside))
            (hits_node w.nodes_at es i ∙ t) ∙ ap bit (sym t)
        go i h (inr f) = marks_miss w.nodes_at 1 es c (w.nodes_at + i * 8 + 1) (hits_node w.nodes_at es i ∙ f) ∙ u i h
            ∙ ap bit (sym f)

    -- set and taken back
    pub marks_back : marks w.nodes_at 0 es (marks w.nodes_at 1 es c) ≡ c
    marks_back =
        ext_get_or 0 (marks w.nodes_at 0 es d) c (length_marks w.nodes_at 0 es d ∙ length_marks w.nodes_at 1 es c)
        (λ q h. go q (subst (λ (m : ℕ). q < m) (length_marks w.nodes_at 0 es d) h)
        (true_or_false (hits w.nodes_at es q)))
      where
        d : List ℕ
        d = marks w.nodes_at 1 es c

        go : (q : ℕ) → q < length d → (hits w.nodes_at es q ≡ true) ⊎ (hits w.nodes_at es q ≡ false)
            → get_or (marks w.nodes_at 0 es d) q 0 ≡ get_or c q 0
        go q h (inl t) =
            let o = hits_placed w.nodes_at es w.places q v.node t in
            marks_hit w.nodes_at 0 es d q h t ∙ sym (ap (λ (k : ℕ). get_or c k 0) o.is ∙ u o.node o.within)
        go q h (inr f) = marks_miss w.nodes_at 0 es d q f ∙ marks_miss w.nodes_at 1 es c q f

-- what the loop writes, and where it ends
pub ruleset marking_laws = (valid_at, marking_whole)
