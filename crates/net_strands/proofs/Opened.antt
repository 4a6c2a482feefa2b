-- The stack of a strand walk: alternatives, and nodes that are to be closed. What a walk has done since it came to each
-- of them, and how all of that moves on when nexts are read.
use mathlib.Core.Path.{◌≡◌, refl, sym, ap, ◌∙◌}
use mathlib.Core.Bool.{Bool, true, false}
use mathlib.Core.List.{List, [], ◌∷◌, ◌++◌}
use mathlib.Core.Option.{Option, none, some}
use Prim.Native.Nat.{ℕ, zero, suc, ◌+◌, ◌-◌, ◌≤◌, ◌<◌}
use native.Mathlib.Omega.{arith}
use lib.ListN.{length}
use Rattle.net_node.specs.declared.LinkEvent.{LinkEvent}
use Rattle.net_node.specs.declared.EstTime.{EstTime}
use Rattle.net_join_paths.specs.declared.EstJoinPath.{EstJoinPath}
use Rattle.net_join_paths.specs.Entries.{and_then}
use Rattle.net_join_paths.specs.Spans.{pushed_all, nodes_in}
use Rattle.net_join_paths.proofs.Spans.{SameNodes, nodes_kept, nodes_split, pushed_append, Pushed}
use Rattle.net_stack.specs.Stack.{alternative_stacked}
use Rattle.net_stack.specs.Openings.{opening_of, opened_if}
use Rattle.net_strands.specs.Space.{strand_from, strands}
use Rattle.net_strands.specs.Walks.{with_nodes, walked, spend}
use Rattle.net_strands.proofs.Targets.{pushed_each, pushed_walk}
use Rattle.net_strands.proofs.Spending.{nodes_empty, spend_same, spend_then, spend_enough}

-- ---- the stack

-- an alternative; or a node, and how many entries the new list had and how many nexts were left when the walk came
-- there
pub data Item : Type 0 where
  Alternative : ℕ → Item
  Open : ℕ → ℕ → ℕ → Item

-- the numbers on the stack
abbrev pub numbers_of : List Item → List ℕ
numbers_of [] = []
numbers_of (Alternative i ∷ xs) = i ∷ numbers_of xs
numbers_of (Open i begin opened ∷ xs) = opening_of begin opened ∷ i ∷ numbers_of xs

-- its alternatives alone, above others
abbrev pub stack_of : List Item → List ℕ → List ℕ
stack_of [] s = s
stack_of (Alternative i ∷ xs) s = i ∷ stack_of xs s
stack_of (Open i begin opened ∷ xs) s = stack_of xs s

-- a node that is opened, and an alternative, above items
abbrev pub opened_on : Bool → ℕ → ℕ → ℕ → List Item → List Item
opened_on true i begin opened xs = Open i begin opened ∷ xs
opened_on false i begin opened xs = xs

abbrev pub stacked_on : ℕ → List Item → List Item
stacked_on zero xs = xs
stacked_on (suc i) xs = Alternative (suc i) ∷ xs

pub opened_numbers : (b : Bool) (i begin opened : ℕ) (xs : List Item)
    → opened_if b (opening_of begin opened) i (numbers_of xs) ≡ numbers_of (opened_on b i begin opened xs)
opened_numbers true i begin opened xs = refl
opened_numbers false i begin opened xs = refl

pub stacked_numbers : (alt : ℕ) (xs : List Item)
    → alternative_stacked alt (numbers_of xs) ≡ numbers_of (stacked_on alt xs)
stacked_numbers zero xs = refl
stacked_numbers (suc alt) xs = refl

-- how a walk goes on: by the nexts that it may read, and what is stacked
abbrev pub Rest : Type 0
Rest = ℕ → List ℕ → Option (List ℕ)

-- q nexts are read, which give the nodes js, and these are put behind the list
pub record Reads (list : List EstJoinPath) (left : ℕ) (list' : List EstJoinPath) (left' q : ℕ) (js : List ℕ) : Type
    0 where
  pub same : SameNodes list list'
  pub behind : nodes_in list' (length list) (length list' - length list) ≡ js
  pub reads : left ≡ left' + q

module _ (node : ℕ → EstTime) (nodes : ℕ) (e : LinkEvent) where
  -- Since the walk came to node i, with so many entries and nexts, it has read some and given the nodes of the entries
  -- behind; it goes on as `rest` says.
  pub record Closes (list : List EstJoinPath) (left i begin opened : ℕ) (rest : Rest) : Type 0 where
    pub named : i < nodes
    pub inside : begin ≤ length list
    pub spent : left ≤ opened
    pub least : 1 ≤ opened
    pub most : opened ≤ 4096
    pub gives : (k : ℕ) (s : List ℕ) → walked k node e i s
        ≡ spend (opened - left) (nodes_in list begin (length list - begin)) (λ j. rest j s) k

  -- where the walk comes to a node
  pub closes_begun : (list : List EstJoinPath) (left i : ℕ) → i < nodes → 1 ≤ left → left ≤ 4096
      → Closes list left i (length list) left (λ k s. walked k node e i s)
  unfolding spend nodes_in
  closes_begun list left i h a b = record {
    named = h;
    inside = omega arith;
    spent = omega arith;
    least = a;
    most = b;
    gives = λ k s.
        let z : 0 ≡ left - left = omega arith in
        let y : 0 ≡ length list - length list = omega arith in
        nodes_empty (walked k node e i s)
        ∙ ap (λ (r : ℕ). spend r [] (λ j. walked j node e i s) k) z
        ∙ ap (λ (d : ℕ). spend (left - left) (nodes_in list (length list) d) (λ j. walked j node e i s) k) y;
  }

  -- nexts are read
  module _ {list list' : List EstJoinPath} {left left' q : ℕ} {js : List ℕ} (r : Reads list left list' left' q js) where
    closes_on : {i begin opened : ℕ} {rest rest' : Rest}
        → ((k : ℕ) (s : List ℕ) → rest k s ≡ spend q js (λ j. rest' j s) k) → Closes list left i begin opened rest
        → Closes list' left' i begin opened rest'
    closes_on {i} {begin} {opened} {rest} {rest'} h v = record {
      named = v.named;
      inside = omega (arith, v.inside, r.same.grows);
      spent = omega (arith, v.spent, r.reads);
      least = v.least;
      most = v.most;
      gives = λ k s.
          let d : opened - left + q ≡ opened - left' = omega (arith, v.spent, r.reads) in
          v.gives k s
          ∙ spend_same (opened - left) (nodes_in list begin (length list - begin)) (λ j. rest j s)
          (spend q js (λ j. rest' j s)) (λ j. h j s) k
          ∙ spend_then (opened - left) q (nodes_in list begin (length list - begin)) js (λ j. rest' j s) k
          ∙ ap (λ (d : ℕ). spend d (nodes_in list begin (length list - begin) ++ js) (λ j. rest' j s) k) d
          ∙ ap (λ (is : List ℕ). spend (opened - left') is (λ j. rest' j s) k) more;
    }
      where
        more : nodes_in list begin (length list - begin) ++ js ≡ nodes_in list' begin (length list' - begin)
        more =
            let a : begin + (length list - begin) ≡ length list = omega (arith, v.inside) in
            let b : length list - begin + (length list' - length list) ≡ length list' - begin =
            omega (arith, v.inside, r.same.grows) in
            ap (λ (is : List ℕ). is ++ js) (nodes_kept r.same (length list - begin) begin (omega (arith, v.inside)))
            ∙ ap (λ (is : List ℕ). nodes_in list' begin (length list - begin) ++ is) (sym r.behind)
            ∙ ap (λ (i : ℕ). nodes_in list' begin (length list - begin) ++ nodes_in list' i
            (length list' - length list)) (sym a)
            ∙ sym (nodes_split list' begin (length list - begin) (length list' - length list))
            ∙ ap (nodes_in list' begin) b

  module _ (start n : ℕ) where
    -- The same of each node to be closed, and of the start; an alternative below is what comes after that.
    abbrev pub Opened : (list : List EstJoinPath) (left : ℕ) → List Item → Rest → Type 0
    Opened list left [] rest = Closes list left start n 4096 rest
    Opened list left (Alternative i ∷ xs) rest = (i < nodes) × Opened list left xs (λ k s. rest k (i ∷ s))
    Opened list left (Open i begin opened ∷ xs) rest = Closes list left i begin opened rest × Opened list left xs rest

    pub opened_on_lem : {list list' : List EstJoinPath} {left left' q : ℕ} {js : List ℕ}
        → Reads list left list' left' q js → (xs : List Item) (rest rest' : Rest)
        → ((k : ℕ) (s : List ℕ) → rest k s ≡ spend q js (λ j. rest' j s) k) → Opened list left xs rest
        → Opened list' left' xs rest'
    opened_on_lem r [] rest rest' h v = closes_on r h v
    opened_on_lem r (Alternative i ∷ xs) rest rest' h v =
        (v.0, opened_on_lem r xs (λ k s. rest k (i ∷ s)) (λ k s. rest' k (i ∷ s)) (λ k s. h k (i ∷ s)) v.1)
    opened_on_lem r (Open i begin opened ∷ xs) rest rest' h v = (closes_on r h v.0, opened_on_lem r xs rest rest' h v.1)

    -- what the start gives goes on through all alternatives
    opened_start : (list : List EstJoinPath) (left : ℕ) (xs : List Item) (rest : Rest) → Opened list left xs rest
        → Closes list left start n 4096 (λ k s. rest k (stack_of xs s))
    opened_start list left [] rest v = v
    opened_start list left (Alternative i ∷ xs) rest v = opened_start list left xs (λ k s. rest k (i ∷ s)) v.1
    opened_start list left (Open i begin opened ∷ xs) rest v = opened_start list left xs rest v.1

    -- a node is opened where the walk stands
    pub opened_more : (b : Bool) (list : List EstJoinPath) (left i : ℕ) (xs : List Item) → i < nodes → 1 ≤ left
        → left ≤ 4096 → Opened list left xs (λ k s. walked k node e i s)
        → Opened list left (opened_on b i (length list) left xs) (λ k s. walked k node e i s)
    opened_more true list left i xs h a c v = (closes_begun list left i h a c, v)
    opened_more false list left i xs h a c v = v

    -- its alternative is stacked
    pub opened_stacked : (alt : ℕ) (list : List EstJoinPath) (left : ℕ) (xs : List Item) (rest : Rest) → alt < nodes
        → Opened list left xs (λ k s. rest k (alternative_stacked alt s)) → Opened list left (stacked_on alt xs) rest
    opened_stacked zero list left xs rest h v = v
    opened_stacked (suc alt) list left xs rest h v = (h, v)

-- ---- what the walk's entries are

-- nodes that don't fit, however the walk goes on
pub each_over : (m : ℕ) (es : List EstJoinPath) (js : List ℕ) → pushed_all m js es ≡ none
    → (q : ℕ) (x : ℕ → Option (List ℕ)) (k : ℕ) → pushed_each m (spend q js x k) es ≡ none
unfolding spend
each_over m es js h zero x k = go (x k)
  where
    go : (t : Option (List ℕ)) → pushed_each m (with_nodes js t) es ≡ none
    go none = refl
    go (some ks) = pushed_append m js ks es ∙ ap (λ (a : Option (List EstJoinPath)). and_then a (pushed_all m ks)) h
each_over m es js h (suc q) x zero = refl
each_over m es js h (suc q) x (suc k) = each_over m es js h q x k

-- nodes that fit, and what comes behind them
each_after : (m : ℕ) (es fs : List EstJoinPath) (is : List ℕ) → pushed_all m is es ≡ some fs → (t : Option (List ℕ))
    → pushed_each m (with_nodes is t) es ≡ pushed_each m t fs
each_after m es fs is h none = refl
each_after m es fs is h (some js) = pushed_append m is js es
    ∙ ap (λ (a : Option (List EstJoinPath)). and_then a (pushed_all m js)) h

-- The answer of the whole walk is that of the rest, behind what is pushed.
pub answer_is : (node : ℕ → EstTime) (nodes : ℕ) (e : LinkEvent) (m start : ℕ) (list₀ list : List EstJoinPath)
    (left : ℕ) (xs : List Item) (rest : Rest) → Opened node nodes e start (length list₀) list left xs rest
    → Pushed m list₀ list
    → strands 4096 node e m (strand_from start list₀) ≡ pushed_each m (rest left (stack_of xs [])) list
unfolding strand_from
answer_is node nodes e m start list₀ list left xs rest v p =
    let n : ℕ = length list₀ in
    let c = opened_start node nodes e start n list left xs rest v in
    let d : 4096 - (4096 - left) ≡ left = omega (arith, c.spent) in
    pushed_walk node e m 4096 (strand_from start list₀)
    ∙ ap (λ (t : Option (List ℕ)). pushed_each m t list₀)
    (c.gives 4096 [] ∙ spend_enough (4096 - left) (nodes_in list n (length list - n)) (λ j. rest j (stack_of xs []))
    4096 (omega arith))
    ∙ each_after m list₀ list (nodes_in list n (length list - n)) p.answer
    (rest (4096 - (4096 - left)) (stack_of xs []))
    ∙ ap (λ (k : ℕ). pushed_each m (rest k (stack_of xs [])) list) d
