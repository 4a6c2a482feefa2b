-- Nodes behind a list and in spans of it: which entries a push of nodes makes, what stays of spans while the list
-- grows, and the copy of a span.
use mathlib.Core.Path.{◌≡◌, refl, sym, ap, ◌∙◌, subst}
use mathlib.Core.Bool.{Bool, true, false}
use mathlib.Core.List.{List, [], ◌∷◌, ◌++◌}
use mathlib.Core.Option.{Option, none, some}
use Prim.{Unit, tt}
use Prim.Native.Nat.{ℕ, zero, suc, ◌+◌, ◌-◌, ◌≤◌, ◌<◌}
use native.Mathlib.Nat.{not-suc-le-zero}
use native.Mathlib.Numerals.{add-one}
use native.Mathlib.Omega.{arith}
use lib.Dec.{ltb}
use lib.ListN.{length, get_or, length-append}
use Rattle.net_join_paths.specs.declared.EstJoinPath.{EstJoinPath}
use Rattle.net_join_paths.specs.Entries.{entry, node_of, pushed_as, push, and_then}
use Rattle.net_join_paths.specs.Spans.{pushed_all, nodes_in}
use Rattle.net_join_paths.proofs.Entries.{node_front, node_last}

-- ---- a list with nodes behind it

-- r is the list es, and behind it entries of these nodes
pub record Appended (es : List EstJoinPath) (is : List ℕ) (r : List EstJoinPath) : Type 0 where
  pub many : length r ≡ length es + length is
  pub front : (k : ℕ) → k < length es → node_of r k ≡ node_of es k
  pub behind : (k : ℕ) → k < length is → node_of r (length es + k) ≡ get_or is k 0

abbrev AppendedIf : List EstJoinPath → List ℕ → Option (List EstJoinPath) → Type 0
AppendedIf es is none = Unit
AppendedIf es is (some r) = Appended es is r

module _ (m : ℕ) where
  -- one node more
  appended_more : (es : List EstJoinPath) (i : ℕ) (is : List ℕ) (a : Option (List EstJoinPath))
      → AppendedIf (es ++ (entry m i ∷ [])) is a → AppendedIf es (i ∷ is) a
  unfolding entry
  appended_more es i is none v = tt
  appended_more es i is (some r) v =
      let l : length (es ++ (entry m i ∷ [])) ≡ length es + 1 = length-append es (entry m i ∷ []) in record {
        many = omega (arith, v.many);
        front = λ k h. v.front k (omega arith) ∙ node_front es (entry m i ∷ []) k h;
        behind = λ k h. go l k h;
      }
    where
      go : length (es ++ (entry m i ∷ [])) ≡ length es + 1 → (k : ℕ) → k < suc (length is)
          → node_of r (length es + k) ≡ get_or (i ∷ is) k 0
      go l zero h =
          let e : length es + 0 ≡ length es = omega arith in
          v.front (length es + 0) (omega arith) ∙ node_last es (entry m i) (length es + 0) e
      go l (suc k) h =
          let e : length es + suc k ≡ length (es ++ (entry m i ∷ [])) + k = omega arith in
          ap (node_of r) e ∙ v.behind k (omega arith)

  appended_all_lem : (is : List ℕ) (es : List EstJoinPath) → AppendedIf es is (pushed_all m is es)
  unfolding pushed_all push
  appended_all_lem [] es = record {
    many = omega arith;
    front = λ k h. refl;
    behind = λ k h. absurd (not-suc-le-zero h);
  }
  appended_all_lem (i ∷ is) es = go (ltb (length es) 1024) (appended_all_lem is)
    where
      go : (b : Bool) → ((es : List EstJoinPath) → AppendedIf es is (pushed_all m is es))
          → AppendedIf es (i ∷ is) (and_then (pushed_as b es (entry m i)) (pushed_all m is))
      go true ih = appended_more es i is (pushed_all m is (es ++ (entry m i ∷ []))) (ih (es ++ (entry m i ∷ [])))
      go false ih = tt

  pub all_appended : (is : List ℕ) (es r : List EstJoinPath) → pushed_all m is es ≡ some r → Appended es is r
  all_appended is es r h = subst (AppendedIf es is) h (appended_all_lem is es)

-- a single entry
pub one_appended : (x : EstJoinPath) (es r : List EstJoinPath) → push es x ≡ some r
    → Appended es (x.est_idx_next ∷ []) r
unfolding pushed_all entry
one_appended x es r h =
    all_appended x.link_idx_match (x.est_idx_next ∷ []) es r (ap (λ (a : Option (List EstJoinPath)). and_then a some) h)

-- ---- the nodes of a list

-- a list names the same nodes in another, which may have more
pub record SameNodes (list list' : List EstJoinPath) : Type 0 where
  pub node : (k : ℕ) → k < length list → node_of list' k ≡ node_of list k
  pub grows : length list ≤ length list'

pub same_nodes : (list : List EstJoinPath) → SameNodes list list
same_nodes list = record { node = λ k h. refl; grows = omega arith }

pub same_then : {list list' list'' : List EstJoinPath} → SameNodes list list' → SameNodes list' list''
    → SameNodes list list''
same_then s t = record {
  node = λ k h. t.node k (omega (arith, s.grows)) ∙ s.node k h;
  grows = omega (arith, s.grows, t.grows);
}

-- these nodes, one after the other
nodes_are : (list : List EstJoinPath) (is : List ℕ) (from : ℕ)
    → ((k : ℕ) → k < length is → node_of list (from + k) ≡ get_or is k 0) → nodes_in list from (length is) ≡ is
unfolding nodes_in
nodes_are list [] from h = refl
nodes_are list (i ∷ is) from h =
    let e : from ≡ from + 0 = omega arith in
    let f : node_of list from ≡ i = ap (node_of list) e ∙ h 0 (omega arith) in
    let g : nodes_in list (suc from) (length is) ≡ is =
    nodes_are list is (suc from) (λ k l. let d : suc from + k ≡ from + suc k = omega arith in ap (node_of list) d
    ∙ h (suc k) (omega arith)) in
    ap (λ (j : ℕ). j ∷ nodes_in list (suc from) (length is)) f ∙ ap (λ (js : List ℕ). i ∷ js) g

module _ {list list' : List EstJoinPath} {is : List ℕ} (a : Appended list is list') where
  pub nodes_stay : SameNodes list list'
  nodes_stay = record { node = a.front; grows = omega (arith, a.many) }

  -- what is behind are these nodes
  pub nodes_behind : nodes_in list' (length list) (length list' - length list) ≡ is
  nodes_behind =
      let e : length list' - length list ≡ length is = omega (arith, a.many) in
      ap (nodes_in list' (length list)) e ∙ nodes_are list' is (length list) a.behind

-- the nodes of a span inside
pub nodes_kept : {list list' : List EstJoinPath} → SameNodes list list' → (k from : ℕ) → from + k ≤ length list
    → nodes_in list from k ≡ nodes_in list' from k
unfolding nodes_in
nodes_kept s zero from h = refl
nodes_kept {list} {list'} s (suc k) from h =
    ap (λ (j : ℕ). j ∷ nodes_in list (suc from) k) (sym (s.node from (omega arith)))
    ∙ ap (λ (js : List ℕ). node_of list' from ∷ js) (nodes_kept s k (suc from) (omega arith))

-- two spans, one behind the other
pub nodes_split : (list : List EstJoinPath) (from j k : ℕ)
    → nodes_in list from (j + k) ≡ nodes_in list from j ++ nodes_in list (from + j) k
unfolding nodes_in
nodes_split list from zero k =
    let a : 0 + k ≡ k = omega arith in
    let b : from ≡ from + 0 = omega arith in
    ap (nodes_in list from) a ∙ ap (λ (i : ℕ). nodes_in list i k) b
nodes_split list from (suc j) k =
    let a : suc j + k ≡ suc (j + k) = omega arith in
    let b : suc from + j ≡ from + suc j = omega arith in
    ap (nodes_in list from) a
    ∙ ap (λ (is : List ℕ). node_of list from ∷ is) (nodes_split list (suc from) j k)
    ∙ ap (λ (i : ℕ). (node_of list from ∷ nodes_in list (suc from) j) ++ nodes_in list i k) b

-- ---- the copy, node by node

-- the nodes from `begin` to k have been pushed
pub record Copying (m : ℕ) (list₀ : List EstJoinPath) (begin end : ℕ) (list : List EstJoinPath) (k : ℕ) : Type 0 where
  pub answer : pushed_all m (nodes_in list₀ begin (end - begin)) list₀ ≡ pushed_all m (nodes_in list₀ k (end - k)) list
  pub same : SameNodes list₀ list

pub copying_start : (m : ℕ) (list : List EstJoinPath) (begin end : ℕ) → Copying m list begin end list begin
copying_start m list begin end = record { answer = refl; same = same_nodes list }

module _ {m : ℕ} {list₀ : List EstJoinPath} {begin end : ℕ} {list : List EstJoinPath} {k : ℕ}
    (v : Copying m list₀ begin end list k) where
  pub copying_whole : end ≤ k → pushed_all m (nodes_in list₀ begin (end - begin)) list₀ ≡ some list
  unfolding nodes_in pushed_all
  copying_whole h =
      let e : end - k ≡ 0 = omega arith in
      v.answer ∙ ap (λ (j : ℕ). pushed_all m (nodes_in list₀ k j) list) e

  -- where the entry x of the node at k was pushed
  module _ (h : k < end) (i : end ≤ length list₀) (x : EstJoinPath) (l : x ≡ entry m (node_of list k)) where
    turn : pushed_all m (nodes_in list₀ begin (end - begin)) list₀
        ≡ and_then (push list x) (pushed_all m (nodes_in list₀ (suc k) (end - suc k)))
    unfolding nodes_in pushed_all
    turn =
        let e : end - k ≡ suc (end - suc k) = omega arith in
        v.answer
        ∙ ap (λ (j : ℕ). pushed_all m (nodes_in list₀ k j) list) e
        ∙ ap (λ (j : ℕ). and_then (push list (entry m j)) (pushed_all m (nodes_in list₀ (suc k) (end - suc k))))
        (sym (v.same.node k (omega arith)))
        ∙ ap (λ (y : EstJoinPath). and_then (push list y) (pushed_all m (nodes_in list₀ (suc k) (end - suc k)))) (sym l)

    pub copying_over : push list x ≡ none → pushed_all m (nodes_in list₀ begin (end - begin)) list₀ ≡ none
    copying_over o =
        turn ∙ ap (λ (a : Option (List EstJoinPath)). and_then a (pushed_all m (nodes_in list₀ (suc k) (end - suc k))))
        o

    pub copying_on : (list' : List EstJoinPath) → push list x ≡ some list' → Copying m list₀ begin end list' (k + 1)
    copying_on list' o = record {
      answer = turn
          ∙ ap (λ (a : Option (List EstJoinPath)). and_then a (pushed_all m (nodes_in list₀ (suc k) (end - suc k)))) o
          ∙ ap (λ (j : ℕ). pushed_all m (nodes_in list₀ j (end - j)) list') (sym (add-one k));
      same = same_then v.same (nodes_stay (one_appended x list list' o));
    }

-- ---- nodes that were pushed behind a list

-- two lists of nodes, one behind the other
pub pushed_append : (m : ℕ) (is js : List ℕ) (es : List EstJoinPath)
    → pushed_all m (is ++ js) es ≡ and_then (pushed_all m is es) (pushed_all m js)
unfolding pushed_all
pushed_append m [] js es = refl
pushed_append m (i ∷ is) js es = go (push es (entry m i)) (pushed_append m is js)
  where
    go : (a : Option (List EstJoinPath)) → ((fs : List EstJoinPath)
        → pushed_all m (is ++ js) fs ≡ and_then (pushed_all m is fs) (pushed_all m js))
        → and_then a (pushed_all m (is ++ js)) ≡ and_then (and_then a (pushed_all m is)) (pushed_all m js)
    go none ih = refl
    go (some fs) ih = ih fs

-- The nodes of the entries behind a list, put behind it as it was, are the entries as they are.
pub record Pushed (m : ℕ) (list₀ list : List EstJoinPath) : Type 0 where
  pub answer : pushed_all m (nodes_in list (length list₀) (length list - length list₀)) list₀ ≡ some list
  pub same : SameNodes list₀ list

pub pushed_start : (m : ℕ) (list : List EstJoinPath) → Pushed m list list
unfolding pushed_all nodes_in
pushed_start m list = let z : length list - length list ≡ 0 = omega arith in record {
  answer = ap (λ (d : ℕ). pushed_all m (nodes_in list (length list) d) list) z;
  same = same_nodes list;
}

-- nodes that were pushed
pub pushed_more : (m : ℕ) (is : List ℕ) (list list' : List EstJoinPath) → pushed_all m is list ≡ some list'
    → (nodes_in list' (length list) (length list' - length list) ≡ is) × Pushed m list list'
pushed_more m is list list' h =
    let a = all_appended m is list list' h in
    let b = nodes_behind a in
    (b, record { answer = ap (λ (js : List ℕ). pushed_all m js list) b ∙ h; same = nodes_stay a })

-- and more behind them
pub pushed_then : {m : ℕ} {list₀ list₁ list : List EstJoinPath} → Pushed m list₀ list₁ → Pushed m list₁ list
    → Pushed m list₀ list
pushed_then {m} {list₀} {list₁} {list} v w = record {
  answer =
      let a : length list₁ - length list₀ + (length list - length list₁) ≡ length list - length list₀ =
      omega (arith, v.same.grows, w.same.grows) in
      let b : length list₀ + (length list₁ - length list₀) ≡ length list₁ = omega (arith, v.same.grows) in
      let js : List ℕ = nodes_in list (length list₀) (length list₁ - length list₀) in
      let ks : List ℕ = nodes_in list (length list₀ + (length list₁ - length list₀)) (length list - length list₁) in
      ap (λ (d : ℕ). pushed_all m (nodes_in list (length list₀) d) list₀) (sym a)
      ∙ ap (λ (is : List ℕ). pushed_all m is list₀)
      (nodes_split list (length list₀) (length list₁ - length list₀) (length list - length list₁))
      ∙ pushed_append m js ks list₀
      ∙ ap (λ (is : List ℕ). and_then (pushed_all m is list₀) (pushed_all m ks))
      (sym (nodes_kept w.same (length list₁ - length list₀) (length list₀) (omega (arith, v.same.grows))))
      ∙ ap (λ (o : Option (List EstJoinPath)). and_then o (pushed_all m ks)) v.answer
      ∙ ap (λ (i : ℕ). pushed_all m (nodes_in list i (length list - length list₁)) list₁) b
      ∙ w.answer;
  same = same_then v.same w.same;
}
