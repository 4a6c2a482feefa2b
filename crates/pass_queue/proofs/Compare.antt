-- The comparisons, one law for each way through them that names numbers: by bits, and the better of the slots below one.
use mathlib.Core.Path.{◌≡◌, refl, sym, ap, ◌∙◌}
use mathlib.Core.Bool.{Bool, true, false}
use mathlib.Core.List.{List}
use Prim.Native.Nat.{ℕ, ◌+◌, ◌*◌, ◌≤◌, ◌<◌}
use native.Mathlib.Omega.{arith}
use mathlib.Core.Logic.{◌⊎◌, inl, inr, ◌≢◌}
use borrow.Author.Tests.{ltb-true, ltb-false, eqb-true, eqb-false}
use lib.Dec.{ltb, eqb}
use lib.Dec.{T}
use mathlib.Core.Path.{subst}
use lib.Ieee.{Float, binary64, to_bits, lt, eq}
use Rattle.std.specs.Prelude.{Some, None, cond, unwrap_or}
use Rattle.std.specs.declared.cmp.Ordering.{Ordering}
use Rattle.std.specs.declared.cmp.Ordering.TheVariants.{Less, Equal, Greater}
use Rattle.std.specs.Ordering.{MatchOrdering, float_partial_cmp, nat_cmp, is_lt, ordering_then}
use Rattle.std.proofs.lemmas.Float.{eq-not_lt, eq_flip}
use Rattle.pass_queue.specs.declared.Entry.{Entry}
use Rattle.pass_queue.specs.Queue.{then_by, order_by, by_bits, before_forward, before_backward, before, slot}
use Rattle.pass_queue.specs.Slots.{BestChild}
use Rattle.pass_queue.proofs.Orders.{not_self, before_laws}

-- ---- by a first key

order_by_lem : (s e t : Bool) → (e ≡ true → t ≡ true → ⊥) → unwrap_or (cond s (Some Less) (cond e (Some Equal) (cond t (Some Greater) None))) Equal ≡ order_by s t
order_by_lem true e t f = refl
order_by_lem false true true f = absurd (f refl refl)
order_by_lem false true false f = refl
order_by_lem false false true f = refl
order_by_lem false false false f = refl

pub order_is : (x y : Float) → unwrap_or (float_partial_cmp x y) Equal ≡ order_by (lt x y) (lt y x)
order_is x y = order_by_lem (lt x y) (eq x y) (lt y x) (λ (e : eq x y ≡ true) (h : lt y x ≡ true). eq-not_lt y x (eq_flip x y (subst T (sym e) tt)) (subst T (sym h) tt))

pub nat_order_is : (m n : ℕ) → nat_cmp m n ≡ order_by (ltb m n) (ltb n m)
nat_order_is m n = go (ltb m n) refl (eqb m n) refl (ltb n m) refl
  where
    go : (s : Bool) → ltb m n ≡ s → (e : Bool) → eqb m n ≡ e → (t : Bool) → ltb n m ≡ t → cond s Less (cond e Equal Greater) ≡ order_by s t
    go true p e q t r = refl
    go false p true q true r = let l = ltb-true n m r in let d = eqb-true m n q in absurd (omega arith)
    go false p true q false r = refl
    go false p false q true r = refl
    go false p false q false r = let k = ltb-false m n p in let l = ltb-false n m r in let d : m ≢ n = eqb-false m n q in absurd (omega arith)

then_is : (s t : Bool) (r : Ordering) → is_lt (ordering_then (order_by s t) r) ≡ then_by s t (is_lt r)
then_is true t r = refl
then_is false true r = refl
then_is false false r = refl

then_assoc : (o p r : Ordering) → ordering_then (ordering_then o p) r ≡ ordering_then o (ordering_then p r)
then_assoc Less p r = refl
then_assoc Equal p r = refl
then_assoc Greater p r = refl

-- one order, and another where it decides nothing
pub with_is : (o p r : Ordering) {P : Type 0} → MatchOrdering o (r ≡ Less) P (r ≡ Greater) → (P → r ≡ p) → r ≡ ordering_then o p
with_is Less p r h f = h
with_is Equal p r h f = f h
with_is Greater p r h f = h

lt_of : (z : Bool) → is_lt (order_by z true) ≡ z
lt_of true = refl
lt_of false = refl

-- .. of which it is known whether it is less
pub last_is : (o r : Ordering) (z : Bool) {P : Type 0} → MatchOrdering o (r ≡ Less) P (r ≡ Greater) → (P → is_lt r ≡ z) → (q : Ordering) × ((r ≡ ordering_then o q) × (is_lt q ≡ z))
last_is Less r z h f = (order_by z true, (h, lt_of z))
last_is Equal r z h f = (r, (refl, f h))
last_is Greater r z h f = (order_by z true, (h, lt_of z))

then_key : (s t : Bool) (o p : Ordering) → o ≡ order_by s t → is_lt (ordering_then o p) ≡ then_by s t (is_lt p)
then_key s t o p e = ap (λ (q : Ordering). is_lt (ordering_then q p)) e ∙ then_is s t p

-- ---- entries

module _ (a b : Entry) where
  pub bits_is : (m n k l : ℕ) (o p r : Ordering) → m ≡ to_bits binary64 a.time → n ≡ to_bits binary64 b.time → k ≡ to_bits binary64 a.sub → l ≡ to_bits binary64 b.sub
      → o ≡ nat_cmp m n → p ≡ nat_cmp k l → r ≡ ordering_then o p → is_lt r ≡ by_bits a b
  unfolding by_bits
  bits_is m n k l o p r c d e f g h i = rw (← c, ← d, ← e, ← f) (ap is_lt i ∙ then_key (ltb m n) (ltb n m) o p (g ∙ nat_order_is m n) ∙ ap (then_by (ltb m n) (ltb n m)) (last k l p h))
    where
      last : (k l : ℕ) (p : Ordering) → p ≡ nat_cmp k l → is_lt p ≡ ltb k l
      last k l p h = ap is_lt (h ∙ nat_order_is k l) ∙ go (ltb k l) (ltb l k)
        where
          go : (s t : Bool) → is_lt (order_by s t) ≡ s
          go true t = refl
          go false true = refl
          go false false = refl

  -- by node, and then by bits
  node_then : (x y : Entry) (o p : Ordering) → o ≡ nat_cmp x.node y.node → is_lt p ≡ by_bits a b → is_lt (ordering_then o p) ≡ then_by (ltb x.node y.node) (ltb y.node x.node) (by_bits a b)
  node_then x y o p e k = then_key (ltb x.node y.node) (ltb y.node x.node) o p (e ∙ nat_order_is x.node y.node) ∙ ap (then_by (ltb x.node y.node) (ltb y.node x.node)) k

  pub forward_is : (o p q l r : Ordering) → o ≡ order_by (lt a.time b.time) (lt b.time a.time) → p ≡ nat_cmp a.node b.node → l ≡ ordering_then o p → is_lt q ≡ by_bits a b → r ≡ ordering_then l q → is_lt r ≡ before false a b
  unfolding before before_forward
  forward_is o p q l r e f g k h =
      ap is_lt (h ∙ ap (λ (x : Ordering). ordering_then x q) g ∙ then_assoc o p q) ∙ then_key (lt a.time b.time) (lt b.time a.time) o (ordering_then p q) e
      ∙ ap (then_by (lt a.time b.time) (lt b.time a.time)) (node_then a b p q f k)

  pub backward_is : (o s p q l m r : Ordering) → o ≡ order_by (lt b.time a.time) (lt a.time b.time) → s ≡ order_by (lt b.sub a.sub) (lt a.sub b.sub) → l ≡ ordering_then o s → p ≡ nat_cmp b.node a.node → m ≡ ordering_then l p
      → is_lt q ≡ by_bits a b → r ≡ ordering_then m q → is_lt r ≡ before true a b
  unfolding before before_backward
  backward_is o s p q l m r e d g f i k h =
      ap is_lt (h ∙ ap (λ (x : Ordering). ordering_then x q) (i ∙ ap (λ (x : Ordering). ordering_then x p) g) ∙ then_assoc (ordering_then o s) p q ∙ then_assoc o s (ordering_then p q))
      ∙ then_key (lt b.time a.time) (lt a.time b.time) o (ordering_then s (ordering_then p q)) e
      ∙ ap (then_by (lt b.time a.time) (lt a.time b.time))
      (then_key (lt b.sub a.sub) (lt a.sub b.sub) s (ordering_then p q) d ∙ ap (then_by (lt b.sub a.sub) (lt a.sub b.sub)) (node_then b a p q f k))

-- ---- the better of the slots below slot i

module _ (backward : Bool) (ts : List Float) (ns : List ℕ) (n i : ℕ) (h : i * 2 + 1 < n) where
  itself : (j k : ℕ) → k ≡ j → before backward (slot ts ns k) (slot ts ns j) ≡ false
  itself j k e = ap (λ (m : ℕ). before backward (slot ts ns m) (slot ts ns j)) e ∙ not_self (before_laws backward) (slot ts ns j)

  one_of : (k : ℕ) → i * 2 < k → k ≤ i * 2 + 2 → (k ≡ i * 2 + 1) ⊎ (k ≡ i * 2 + 1 + 1)
  one_of k a b = go (eqb k (i * 2 + 1)) refl
    where
      go : (t : Bool) → eqb k (i * 2 + 1) ≡ t → (k ≡ i * 2 + 1) ⊎ (k ≡ i * 2 + 1 + 1)
      go true e = inl (eqb-true k (i * 2 + 1) e)
      go false e = let d : k ≢ i * 2 + 1 = eqb-false k (i * 2 + 1) e in inr (omega arith)

  pub child_only : i * 2 + 1 + 1 ≡ n → BestChild backward ts ns n i (i * 2 + 1)
  child_only e = record { within = h; least = omega arith; most = omega arith; first = λ k l a b. itself (i * 2 + 1) k (omega arith) }

  module _ (d : i * 2 + 1 + 1 ≢ n) (x y : Entry) (left : x ≡ slot ts ns (i * 2 + 1)) (right : y ≡ slot ts ns (i * 2 + 1 + 1)) where
    -- from what the code compared to the slots
    seen : (t : Bool) → before backward y x ≡ t → before backward (slot ts ns (i * 2 + 1 + 1)) (slot ts ns (i * 2 + 1)) ≡ t
    seen t e = ap (λ (z : Entry). before backward z (slot ts ns (i * 2 + 1))) (sym right) ∙ ap (before backward y) (sym left) ∙ e

    pub child_right : before backward y x ≡ true → BestChild backward ts ns n i (i * 2 + 1 + 1)
    child_right e = record { within = omega arith; least = omega arith; most = omega arith; first = λ k l a b. go k (one_of k a b) }
      where
        go : (k : ℕ) → (k ≡ i * 2 + 1) ⊎ (k ≡ i * 2 + 1 + 1) → before backward (slot ts ns k) (slot ts ns (i * 2 + 1 + 1)) ≡ false
        go k (inl q) =
            ap (λ (m : ℕ). before backward (slot ts ns m) (slot ts ns (i * 2 + 1 + 1))) q
            ∙ (before_laws backward).asym (slot ts ns (i * 2 + 1 + 1)) (slot ts ns (i * 2 + 1)) (seen true e)
        go k (inr q) = itself (i * 2 + 1 + 1) k q

    pub child_left : before backward y x ≡ false → BestChild backward ts ns n i (i * 2 + 1)
    child_left e = record { within = h; least = omega arith; most = omega arith; first = λ k l a b. go k (one_of k a b) }
      where
        go : (k : ℕ) → (k ≡ i * 2 + 1) ⊎ (k ≡ i * 2 + 1 + 1) → before backward (slot ts ns k) (slot ts ns (i * 2 + 1)) ≡ false
        go k (inl q) = itself (i * 2 + 1) k q
        go k (inr q) = ap (λ (m : ℕ). before backward (slot ts ns m) (slot ts ns (i * 2 + 1))) q ∙ seen false e
