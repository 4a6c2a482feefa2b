-- How the backward pass starts.
use mathlib.Core.Path.{◌≡◌, refl, sym, ap, ◌∙◌}
use mathlib.Core.Bool.{Bool, true, false, ◌||◌}
use mathlib.Core.List.{List, [], ◌∷◌}
use Prim.Native.Nat.{ℕ, ◌+◌, ◌-◌, ◌≤◌}
use native.Mathlib.Omega.{arith}
use lib.Dec.{eqb}
use lib.ListN.{length, set}
use lib.Ieee.{Float, binary64, of_bits, is_nan}
use Rattle.std.specs.Prelude.{Some, None}
use Rattle.pass_queue.specs.declared.Entry.{Entry}
use Rattle.pass_rules.specs.Net.{Pass, also_done}
use Rattle.pass_rules.specs.Walks.{table_of, done_in}
use Rattle.pass_rules.specs.Backward.{turns, last_two, backward}
use Rattle.pass_state.specs.Held.{slices, PassIn, EnqueuedAs, Unbegun}
use Rattle.pass_state.proofs.Left.{done_other}
use Rattle.pass_state.proofs.Kept.{flagged_at, in_start, queued_in, in_flag_new}

abbrev pub last_of : ℕ → Entry
last_of n = record { time = of_bits binary64 0; sub = of_bits binary64 0; node = n - 2 }

-- zeros are numbers
numbers : (is_nan (of_bits binary64 0) || is_nan (of_bits binary64 0)) ≡ false
unfolding is_nan of_bits
numbers = refl

-- nodes n - 2 and n - 1 are done
last_two_lem : (done : ℕ → Bool) (n : ℕ) → ((i : ℕ) → done i ≡ false) → also_done (also_done done (n - 2)) (n - 1) ≡ last_two n
unfolding also_done last_two
last_two_lem done n e = λ t k. go (eqb k (n - 1)) (eqb k (n - 2)) (done k) (e k) t
  where
    go : (a b c : Bool) → c ≡ false → (a || (b || c)) ≡ (a || b)
    go true b c h = refl
    go false true c h = refl
    go false false c h = h

module _ (fs : List Float) (us flags : List ℕ) (n : ℕ) where
  -- both floats of the entry are numbers
  pub start_queued : {ts ts' : List Float} {ns ns' : List ℕ} {A : Type 0} → EnqueuedAs true ts ns ts' ns' 0 (last_of n) None → A
  start_queued q =
      let z : true ≡ false = sym q.told ∙ numbers in
      let o : ◌≡◌ {A = ℕ} 0 1 = cc in
      absurd (omega arith)

  -- the pass at its start
  abbrev pub started : Pass
  started = flagged_at (flagged_at (record { table = table_of fs us; done = done_in flags; queue = last_of n ∷ [] }) (n - 2)) (n - 1)

  module _ {ts : List Float} {ns : List ℕ} (u : Unbegun (slices fs us flags ts ns) n) where
    pub start_is : backward (table_of fs us) n ≡ turns n n started.table started.done started.queue
    unfolding backward
    start_is = ap (λ (d : ℕ → Bool). turns n n (table_of fs us) d (last_of n ∷ [])) (sym (last_two_lem (done_in flags) n u.unset))

    pub start_in : {ts' : List Float} {ns' : List ℕ} {count : ℕ} → EnqueuedAs true ts ns ts' ns' 0 (last_of n) (Some count)
        → length ts ≡ length ts' → length ns ≡ length ns'
        → PassIn flags true n (slices fs us (set (set flags (n - 2) 1) (n - 1) 1) ts' ns') count (n - 1) started
    start_in {ts'} {ns'} {count} q lt ln =
        let three : 3 ≤ n = u.three in
        let v0 = in_start true n (slices fs us flags ts ns) u in
        let v1 = queued_in v0 (last_of n) (omega arith) q lt ln (n + 1) (omega arith) in
        let v2 = in_flag_new v1 (n - 2) (omega arith) (set flags (n - 2) 1) refl (u.unset (n - 2)) n (omega arith) in
        let un : also_done (done_in flags) (n - 2) (n - 1) ≡ false = done_other (done_in flags) (n - 2) (n - 1) (λ (o : n - 1 ≡ n - 2). omega arith) ∙ u.unset (n - 1) in
        in_flag_new v2 (n - 1) (omega arith) (set (set flags (n - 2) 1) (n - 1) 1) refl un (n - 1) (omega arith)
