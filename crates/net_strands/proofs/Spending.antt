-- A walk that has read some nexts and goes on: how two such parts make one, what is left of it for few and for enough
-- nexts, and a turn of the walk as such a part.
use mathlib.Core.Path.{◌≡◌, refl, sym, ap, ◌∙◌}
use mathlib.Core.Bool.{Bool, true, false}
use mathlib.Core.List.{List, [], ◌∷◌, ◌++◌, append_assoc}
use mathlib.Core.Option.{Option, none, some}
use Prim.Native.Nat.{ℕ, zero, suc, ◌+◌, ◌-◌, ◌≤◌, ◌<◌}
use native.Mathlib.Nat.{not-suc-le-zero}
use native.Mathlib.Omega.{arith}
use Rattle.net_node.specs.declared.LinkEvent.{LinkEvent}
use Rattle.net_node.specs.declared.EstTime.{EstTime}
use Rattle.net_node.specs.Table.{same_event}
use Rattle.net_stack.specs.Stack.{alternative_stacked}
use Rattle.net_stack.specs.Openings.{ends_strand}
use Rattle.net_strands.specs.Walks.{with_nodes, popped_to, walked_as, walked, spend}

nodes_nodes : (is js : List ℕ) (x : Option (List ℕ)) → with_nodes is (with_nodes js x) ≡ with_nodes (is ++ js) x
nodes_nodes is js none = refl
nodes_nodes is js (some ks) = ap some (sym (append_assoc is js ks))

-- no nodes change nothing
pub nodes_empty : (x : Option (List ℕ)) → x ≡ with_nodes [] x
nodes_empty none = refl
nodes_empty (some is) = refl

-- the same rest
pub spend_same : (r : ℕ) (is : List ℕ) (x y : ℕ → Option (List ℕ)) → ((k : ℕ) → x k ≡ y k) → (k : ℕ)
    → spend r is x k ≡ spend r is y k
unfolding spend
spend_same zero is x y h k = ap (with_nodes is) (h k)
spend_same (suc r) is x y h zero = refl
spend_same (suc r) is x y h (suc k) = spend_same r is x y h k

-- nodes before a part
nodes_spent : (is js : List ℕ) (q : ℕ) (x : ℕ → Option (List ℕ)) (k : ℕ)
    → with_nodes is (spend q js x k) ≡ spend q (is ++ js) x k
unfolding spend
nodes_spent is js zero x k = nodes_nodes is js (x k)
nodes_spent is js (suc q) x zero = refl
nodes_spent is js (suc q) x (suc k) = nodes_spent is js q x k

-- two parts are one
pub spend_then : (r q : ℕ) (is js : List ℕ) (x : ℕ → Option (List ℕ)) (k : ℕ)
    → spend r is (spend q js x) k ≡ spend (r + q) (is ++ js) x k
unfolding spend
spend_then zero q is js x k = nodes_spent is js q x k
    ∙ (let e : q ≡ 0 + q = omega arith in ap (λ (n : ℕ). spend n (is ++ js) x k) e)
spend_then (suc r) q is js x zero = let e : suc (r + q) ≡ suc r + q = omega arith in
    ap (λ (n : ℕ). spend n (is ++ js) x 0) e
spend_then (suc r) q is js x (suc k) = spend_then r q is js x k
    ∙ (let e : suc (r + q) ≡ suc r + q = omega arith in ap (λ (n : ℕ). spend n (is ++ js) x (suc k)) e)

-- too few nexts
pub spend_short : (r : ℕ) (is : List ℕ) (x : ℕ → Option (List ℕ)) (k : ℕ) → k < r → spend r is x k ≡ none
unfolding spend
spend_short zero is x k h = absurd (not-suc-le-zero h)
spend_short (suc r) is x zero h = refl
spend_short (suc r) is x (suc k) h = spend_short r is x k (omega arith)

-- enough of them
pub spend_enough : (r : ℕ) (is : List ℕ) (x : ℕ → Option (List ℕ)) (k : ℕ) → r ≤ k
    → spend r is x k ≡ with_nodes is (x (k - r))
unfolding spend
spend_enough zero is x k h = let e : k ≡ k - 0 = omega arith in ap (λ (n : ℕ). with_nodes is (x n)) e
spend_enough (suc r) is x zero h = absurd (not-suc-le-zero h)
spend_enough (suc r) is x (suc k) h = spend_enough r is x k (omega arith)
    ∙ (let e : k - r ≡ suc k - suc r = omega arith in ap (λ (n : ℕ). with_nodes is (x n)) e)

-- ---- a turn of the walk

module _ (node : ℕ → EstTime) (e : LinkEvent) (here : ℕ) where
  -- by what the next is
  walk_turn : (b c : Bool) → same_event (node (node here).idx_next).link_event e ≡ b
      → ends_strand (node (node here).idx_next) ≡ c
      → (k : ℕ) (stack : List ℕ) → walked (suc k) node e here stack
      ≡ walked_as b c (node here).idx_next (alternative_stacked (node here).idx_next_alt stack) (walked k node e)
  unfolding walked ends_strand
  walk_turn b c p q k stack = rw (p, q)

  pub walk_none : (stack : List ℕ) → walked 0 node e here stack ≡ none
  unfolding walked
  walk_none stack = refl

  -- the next has the event: one next is read, which is a node that the walk gives
  pub walk_met : same_event (node (node here).idx_next).link_event e ≡ true
      → (k : ℕ) (stack : List ℕ) → walked k node e here stack
      ≡ spend 1 ((node here).idx_next ∷ []) (λ j. popped_to (alternative_stacked (node here).idx_next_alt stack)
      (walked j node e)) k
  unfolding spend
  walk_met p zero stack = walk_none stack
  walk_met p (suc k) stack = walk_turn true _ p refl k stack

  -- it hasn't, and ends the strand
  pub walk_ends : same_event (node (node here).idx_next).link_event e ≡ false
      → ends_strand (node (node here).idx_next) ≡ true
      → (k : ℕ) (stack : List ℕ) → walked k node e here stack
      ≡ spend 1 [] (λ j. popped_to (alternative_stacked (node here).idx_next_alt stack) (walked j node e)) k
  unfolding spend
  walk_ends p q zero stack = walk_none stack
  walk_ends p q (suc k) stack = walk_turn false true p q k stack
      ∙ nodes_empty (popped_to (alternative_stacked (node here).idx_next_alt stack) (walked k node e))

  -- neither: the walk goes on there
  pub walk_on : same_event (node (node here).idx_next).link_event e ≡ false
      → ends_strand (node (node here).idx_next) ≡ false
      → (k : ℕ) (stack : List ℕ) → walked k node e here stack
      ≡ spend 1 [] (λ j. walked j node e (node here).idx_next (alternative_stacked (node here).idx_next_alt stack)) k
  unfolding spend
  walk_on p q zero stack = walk_none stack
  walk_on p q (suc k) stack = walk_turn false false p q k stack
      ∙ nodes_empty (walked k node e (node here).idx_next (alternative_stacked (node here).idx_next_alt stack))
