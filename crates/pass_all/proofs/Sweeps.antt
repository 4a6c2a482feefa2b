-- The loops of rows 15 and 16: no node so far has what is sought.
use mathlib.Core.Path.{◌≡◌, refl, sym, ap, ◌∙◌}
use mathlib.Core.Bool.{Bool, true, false, not, ◌||◌}
use mathlib.Core.List.{List}
use Prim.Native.Nat.{ℕ, ◌+◌, ◌≤◌, ◌<◌}
use native.Mathlib.Omega.{arith}
use lib.Dec.{ltb}
use lib.ListN.{get_or}
use lib.Ieee.{binary64, eq, ne, of_bits}
use Rattle.laws.specs.Below.{some_below}
use Rattle.laws.proofs.Below.{some_at, some_more, none_more}
use Rattle.net_node.specs.declared.EstTime.{EstTime}
use Rattle.net_node.specs.Table.{node_at, Table, at}
use Rattle.pass_rules.specs.Walks.{done_in}
use Rattle.pass_rules.specs.Passes.{some_left, all_zero}

pub record NoneYet (p : ℕ → Bool) (n i : ℕ) : Type 0 where
  pub within : i ≤ n
  pub none : some_below i p ≡ false

module _ (p : ℕ → Bool) (n : ℕ) where
  none_start : NoneYet p n 0
  unfolding some_below
  none_start = record { within = omega arith; none = refl }

  none_on : (i : ℕ) → NoneYet p n i → i < n → p i ≡ false → NoneYet p n (i + 1)
  none_on i v h e = record { within = omega arith; none = none_more i p v.none e }

  none_end : (i : ℕ) → NoneYet p n i → n ≤ i → some_below n p ≡ false
  none_end i v h = let d : i ≡ n = omega (arith, v.within) in ap (λ (k : ℕ). some_below k p) (sym d) ∙ v.none

-- ---- row 15: a node that is not done

unfoldable pub not_done : List ℕ → ℕ → Bool
not_done flags i = not (done_in flags i)

module _ (flags : List ℕ) where
  pub left_start : false ≡ some_below 0 (not_done flags)
  unfolding some_below
  left_start = refl

  pub left_on : (i : ℕ) (left : Bool) → left ≡ some_below i (not_done flags) → (left || not (ltb 0 (get_or flags i 0))) ≡ some_below (i + 1) (not_done flags)
  unfolding not_done done_in
  left_on i left e = ap (λ (t : Bool). t || not (ltb 0 (get_or flags i 0))) e ∙ sym (some_more i (not_done flags))

  pub left_end : (n i : ℕ) (left : Bool) → i ≤ n → n ≤ i → left ≡ some_below i (not_done flags) → left ≡ some_left (done_in flags) n
  unfolding some_left not_done
  left_end n i left h m e = let d : i ≡ n = omega (arith, h, m) in e ∙ ap (λ (k : ℕ). some_below k (not_done flags)) d

-- ---- row 16: a time that is not 0 or -0

unfoldable pub not_zero : Table → ℕ → Bool
not_zero t i = not (eq (at t i).time_sched (of_bits binary64 0))

module _ (t : Table) (n : ℕ) where
  zero_is : all_zero t n ≡ not (some_below n (not_zero t))
  unfolding all_zero not_zero
  zero_is = refl

  pub zero_start : NoneYet (not_zero t) n 0
  zero_start = none_start (not_zero t) n

  module _ (i : ℕ) (v : NoneYet (not_zero t) n i) where
    zero_here : (x : EstTime) (b : Bool) → x ≡ node_at t.floats t.numbers i → ne x.time_sched (of_bits binary64 0) ≡ b → not_zero t i ≡ b
    unfolding not_zero at ne
    zero_here x b e d = ap (λ (y : EstTime). not (eq y.time_sched (of_bits binary64 0))) (sym e) ∙ d

    pub zero_hit : i < n → (x : EstTime) → x ≡ node_at t.floats t.numbers i → ne x.time_sched (of_bits binary64 0) ≡ true → false ≡ all_zero t n
    zero_hit h x e d = sym (zero_is ∙ ap not (some_at n (not_zero t) i h (zero_here x true e d)))

    pub zero_on : i < n → (x : EstTime) → x ≡ node_at t.floats t.numbers i → ne x.time_sched (of_bits binary64 0) ≡ false → NoneYet (not_zero t) n (i + 1)
    zero_on h x e d = none_on (not_zero t) n i v h (zero_here x false e d)

    pub zero_end : n ≤ i → true ≡ all_zero t n
    zero_end h = sym (zero_is ∙ ap not (none_end (not_zero t) n i v h))
