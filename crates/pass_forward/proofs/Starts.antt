-- How the forward pass starts.
use mathlib.Core.Path.{◌≡◌, sym, ap, ◌∙◌}
use mathlib.Core.Bool.{Bool, true, false, not}
use mathlib.Core.List.{List, [], ◌∷◌}
use Prim.Native.Nat.{ℕ, zero, suc, ◌+◌, ◌-◌, ◌≤◌}
use native.Mathlib.Omega.{arith}
use lib.ListN.{length, set}
use lib.Ieee.{Float, binary64, of_bits, is_nan}
use Rattle.std.specs.Prelude.{Some, None}
use Rattle.net_node.specs.Table.{set_time}
use Rattle.pass_queue.specs.declared.Entry.{Entry}
use Rattle.laws.specs.Answer.{refused}
use Rattle.pass_rules.specs.Net.{asserting, Pass, also_done}
use Rattle.pass_rules.specs.Walks.{table_of, done_in}
use Rattle.pass_rules.specs.Forward.{turns, first_two, forward}
use Rattle.pass_state.specs.Held.{slices, PassIn, EnqueuedAs, Unbegun}
use Rattle.pass_state.proofs.Left.{done_same, done_other}
use Rattle.pass_state.proofs.Kept.{done_at_of, in_start, queued_in, in_done_new}
use Rattle.pass_state.proofs.Both.{zero_number}

abbrev pub first_of : Float → Entry
first_of departure = record { time = departure; sub = of_bits binary64 0; node = 1 }

-- nodes 0 and 1 are done
first_two_lem : (done : ℕ → Bool) → ((i : ℕ) → done i ≡ false) → also_done (also_done done 0) 1 ≡ first_two
first_two_lem done e = λ t k. go k t
  where
    go : (k : ℕ) → also_done (also_done done 0) 1 k ≡ first_two k
    go zero = done_other (also_done done 0) 1 0 (λ (o : ◌≡◌ {A = ℕ} 0 1). omega arith) ∙ done_same done 0
    go (suc zero) = done_same (also_done done 0) 1
    go (suc (suc k)) = done_other (also_done done 0) 1 (suc (suc k)) (λ (o : suc (suc k) ≡ 1). omega arith) ∙ done_other done 0 (suc (suc k)) (λ (o : suc (suc k) ≡ 0). omega arith) ∙ e (suc (suc k))

module _ (fs : List Float) (us flags : List ℕ) (n : ℕ) (departure : Float) where
  -- the departure is no number
  pub start_fails : {ts ts' : List Float} {ns ns' : List ℕ} → EnqueuedAs false ts ns ts' ns' 0 (first_of departure) None → forward (table_of fs us) n departure ≡ refused 15
  unfolding forward
  start_fails q =
      let t : is_nan departure ≡ true = sym (zero_number departure) ∙ q.told in
      ap (λ (b : Bool). asserting (not b) (turns n n (set_time (set_time (table_of fs us) 0 departure) 1 departure) first_two (first_of departure ∷ []))) t

  -- the pass at its start
  abbrev pub started : Pass
  started = done_at_of (done_at_of (record { table = table_of fs us; done = done_in flags; queue = first_of departure ∷ [] }) 0 departure) 1 departure

  module _ {ts ts' : List Float} {ns ns' : List ℕ} {count : ℕ} (q : EnqueuedAs false ts ns ts' ns' 0 (first_of departure) (Some count)) (u : Unbegun (slices fs us flags ts ns) n) where
    pub start_is : forward (table_of fs us) n departure ≡ turns n n started.table started.done started.queue
    unfolding forward
    start_is =
        let t : is_nan departure ≡ false = sym (zero_number departure) ∙ q.told.0 in
        ap (λ (b : Bool). asserting (not b) (turns n n (set_time (set_time (table_of fs us) 0 departure) 1 departure) first_two (first_of departure ∷ []))) t
        ∙ ap (λ (d : ℕ → Bool). turns n n (set_time (set_time (table_of fs us) 0 departure) 1 departure) d (first_of departure ∷ [])) (sym (first_two_lem (done_in flags) u.unset))

    pub start_in : length ts ≡ length ts' → length ns ≡ length ns'
        → {f1 : List Float} {u1 c1 : List ℕ} → (f1 ≡ (set_time (table_of fs us) 0 departure).floats) × ((u1 ≡ (set_time (table_of fs us) 0 departure).numbers) × (c1 ≡ set flags 0 1))
        → {f2 : List Float} {u2 c2 : List ℕ} → (f2 ≡ (set_time (table_of f1 u1) 1 departure).floats) × ((u2 ≡ (set_time (table_of f1 u1) 1 departure).numbers) × (c2 ≡ set c1 1 1))
        → PassIn flags false n (slices f2 u2 c2 ts' ns') count (n - 1) started
    start_in lt ln {f1} {u1} {c1} a {f2} {u2} {c2} b =
        let three : 3 ≤ n = u.three in
        let v0 = in_start false n (slices fs us flags ts ns) u in
        let v1 = queued_in v0 (first_of departure) (omega arith) q lt ln (n + 1) (omega arith) in
        let v2 = in_done_new v1 0 (omega arith) departure f1 u1 c1 a (u.unset 0) n (omega arith) in
        let un : also_done (done_in flags) 0 1 ≡ false = done_other (done_in flags) 0 1 (λ (o : ◌≡◌ {A = ℕ} 1 0). omega arith) ∙ u.unset 1 in
        in_done_new v2 1 (omega arith) departure f2 u2 c2 b un (n - 1) (omega arith)
