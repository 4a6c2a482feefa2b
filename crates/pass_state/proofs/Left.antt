-- How many nodes are left, and the flags of the nodes that are done.
use mathlib.Core.Path.{◌≡◌, refl, sym, ap, ◌∙◌}
use mathlib.Core.Logic.{◌≢◌, ⊎_elim}
use mathlib.Core.Bool.{Bool, true, false, not, ◌||◌}
use mathlib.Core.List.{List}
use Prim.Native.Nat.{ℕ, zero, suc, ◌+◌, ◌≤◌, ◌<◌}
use native.Mathlib.Nat.{not-suc-le-zero}
use native.Mathlib.Omega.{arith}
use borrow.Author.Tests.{eq-eqb, ne_eqb}
use lib.Dec.{eqb, ltb}
use lib.ListN.{length, set}
use lib.Seq.{get_or-set_same, get_or-set_other}
use Rattle.laws.proofs.Truth.{equal_or_not}
use Rattle.pass_queue.specs.Queue.{one}
use Rattle.pass_rules.specs.Net.{also_done}
use Rattle.pass_rules.specs.Walks.{done_in}
use Rattle.pass_state.specs.Held.{left}

-- ---- one more node done

module _ (done : ℕ → Bool) (i : ℕ) where
  pub done_same : also_done done i i ≡ true
  unfolding also_done
  done_same = rw (eq-eqb i i refl)

  pub done_other : (k : ℕ) → k ≢ i → also_done done i k ≡ done k
  unfolding also_done
  done_other k h = rw (ne_eqb k i h)

one_at_most : (b : Bool) → one (not b) ≤ 1
one_at_most true = omega arith
one_at_most false = omega arith

one_or : (a b : Bool) → one (not (a || b)) ≤ one (not b)
one_or true b = omega arith
one_or false b = omega arith

pub left_most : (done : ℕ → Bool) (n : ℕ) → left done n ≤ n
unfolding left
left_most done zero = omega arith
left_most done (suc n) = omega (arith, left_most done n, one_at_most (done n))

module _ (done : ℕ → Bool) (i : ℕ) where
  -- a node beyond the first n
  left_beyond : (n : ℕ) → n ≤ i → left (also_done done i) n ≡ left done n
  unfolding left
  left_beyond zero h = refl
  left_beyond (suc n) h =
      let ih : left (also_done done i) n ≡ left done n = left_beyond n (omega arith) in
      let e : one (not (also_done done i n)) ≡ one (not (done n)) = ap (λ (b : Bool). one (not b)) (done_other done i n (λ (o : n ≡ i). omega arith)) in
      omega arith

  -- one fewer is left where an undone node gets done
  pub left_falls : (n : ℕ) → i < n → done i ≡ false → left (also_done done i) n + 1 ≡ left done n
  unfolding left
  left_falls zero h e = absurd (not-suc-le-zero h)
  left_falls (suc n) h e = ⊎_elim here (λ (o : n ≢ i). there o (left_falls n (below o) e)) (equal_or_not n i)
    where
      below : n ≢ i → i < n
      below o = omega arith

      here : n ≡ i → one (not (also_done done i n)) + left (also_done done i) n + 1 ≡ one (not (done n)) + left done n
      here o =
          let a : one (not (also_done done i n)) ≡ 0 = ap (λ (b : Bool). one (not b)) (ap (also_done done i) o ∙ done_same done i) in
          let b : one (not (done n)) ≡ 1 = ap (λ (b : Bool). one (not b)) (ap done o ∙ e) in
          omega (arith, left_beyond n (omega arith))

      there : n ≢ i → left (also_done done i) n + 1 ≡ left done n → one (not (also_done done i n)) + left (also_done done i) n + 1 ≡ one (not (done n)) + left done n
      there o ih = let a : one (not (also_done done i n)) ≡ one (not (done n)) = ap (λ (b : Bool). one (not b)) (done_other done i n o) in omega arith

  -- and never more
  pub left_kept : (n : ℕ) → left (also_done done i) n ≤ left done n
  unfolding left also_done
  left_kept zero = omega arith
  left_kept (suc n) = omega (arith, left_kept n, one_or (eqb n i) (done n))

-- ---- the flags

module _ (flags : List ℕ) (i : ℕ) (h : i < length flags) where
  flag_set : (k : ℕ) → done_in (set flags i 1) k ≡ also_done (done_in flags) i k
  unfolding done_in
  flag_set k = ⊎_elim here there (equal_or_not k i)
    where
      here : k ≡ i → done_in (set flags i 1) k ≡ also_done (done_in flags) i k
      here o =
          ap (done_in (set flags i 1)) o ∙ ap (ltb 0) (get_or-set_same flags i 1 0 h) ∙ sym (ap (also_done (done_in flags) i) o ∙ done_same (done_in flags) i)

      there : k ≢ i → done_in (set flags i 1) k ≡ also_done (done_in flags) i k
      there o = ap (ltb 0) (get_or-set_other flags i k 1 0 (λ (q : k ≡ i). o q)) ∙ sym (done_other (done_in flags) i k o)

  pub flags_set : done_in (set flags i 1) ≡ also_done (done_in flags) i
  flags_set = λ t k. flag_set k t
