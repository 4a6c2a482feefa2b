-- A step of a strand, of either pass, by what the alternative's entry gives and whether the node that the walk looks at is done.
use mathlib.Core.Path.{◌≡◌, sym, ap, ◌∙◌, subst}
use mathlib.Core.Bool.{Bool, true, false, not}
use mathlib.Core.List.{List}
use Prim.Native.Nat.{ℕ, ◌+◌, ◌-◌, ◌<◌}
use native.Mathlib.Omega.{arith}
use lib.ListN.{length, set}
use lib.Ieee.{Float, is_nan}
use mathlib.Core.Bool.{◌||◌}
use Rattle.std.specs.Prelude.{Option, Some, None}
use Rattle.net_node.specs.declared.EstTime.{EstTime}
use Rattle.net_node.specs.Table.{node_at, Table, at, set_time, with_time}
use Rattle.net_node.proofs.Sets.{time_set}
use Rattle.pass_queue.specs.declared.Entry.{Entry}
use Rattle.laws.specs.Answer.{Answer, refused, given, and_then}
use Rattle.pass_rules.specs.Net.{asserting, Pass}
use Rattle.pass_rules.specs.Backward.{queued}
use Rattle.pass_rules.specs.Walks.{done_in}
use Rattle.pass_state.specs.Held.{PassSlices, slices, table_in, left, PassIn, Gives, PassAs, StandsAs, EnqueuedAs}
use Rattle.pass_state.proofs.Left.{left_kept, left_falls}
use Rattle.pass_state.proofs.Links.{Names, names_in}
use Rattle.pass_state.proofs.Kept.{done_at_of, node_in, done_in_lem, linked_in, in_done, in_done_new, enqueued_in, stays, pass_after}

-- over n nodes: which neighbour is followed, what becomes of a node's alternative, and the time of the node that is looked at
pub record Stepper (n : ℕ) : Type 1 where
  pub A : Type 0
  pub form : ℕ → ℕ → Pass → A
  pub link : EstTime → ℕ
  pub inside : {x : EstTime} → Names x n → link x < n
  pub timed : (x : EstTime) (t : Float) → link (with_time x t) ≡ link x
  pub alternated : Pass → ℕ → Answer Pass
  pub time : Table → ℕ → ℕ → Float
  pub step : A → Answer A
  pub is : (p : Pass) (curr next : ℕ)
      → step (form curr next p)
      ≡ and_then (alternated p curr) (λ (q : Pass). asserting (not (q.done next))
      (given (form next (link (at (set_time q.table next (time q.table curr next)) next)) (done_at_of q next (time q.table curr next)))))

module _ {n : ℕ} (w : Stepper n) (curr next : ℕ) where
  abbrev reached_by : Pass → Float → Answer w.A
  reached_by q t = given (w.form next (w.link (at (set_time q.table next t) next)) (done_at_of q next t))

  abbrev stepped_by : Pass → Answer w.A
  stepped_by q = asserting (not (q.done next)) (reached_by q (w.time q.table curr next))

step_after : {n : ℕ} (w : Stepper n) (p : Pass) (curr next : ℕ) (a : Answer Pass) → w.alternated p curr ≡ a → w.step (w.form curr next p) ≡ and_then a (stepped_by w curr next)
step_after w p curr next a e = w.is p curr next ∙ ap (λ (z : Answer Pass). and_then z (stepped_by w curr next)) e

module _ {n : ℕ} (w : Stepper n) {begun : List ℕ} {backward : Bool} (p : Pass) (curr next : ℕ) {after : PassSlices} where
  -- the alternative can't be queued
  pub step_unqueued : PassAs begun (w.alternated p curr) backward n after (n - 1) (left p.done n + 1) None → StandsAs begun (w.step (w.form curr next p)) w.form backward n after (n - 2) (left p.done n) None
  step_unqueued g = record { told = step_after w p curr next (refused 15) g.told }

  module _ {count : ℕ} (g : PassAs begun (w.alternated p curr) backward n after (n - 1) (left p.done n + 1) (Some count)) (d : Bool) (f : d ≡ done_in after.flags next) where
    abbrev queued_as : Gives begun (w.alternated p curr) (λ q. q) backward n after count (n - 1) (left p.done n + 1)
    queued_as = g.told

    step_by : (c : Bool) → d ≡ c → w.step (w.form curr next p) ≡ asserting (not c) (reached_by w curr next queued_as.pass (w.time queued_as.pass.table curr next))
    step_by c t =
        let q = queued_as.pass in
        step_after w p curr next (given q) queued_as.is ∙ ap (λ (z : Bool). asserting (not z) (reached_by w curr next q (w.time q.table curr next))) (done_in_lem queued_as.holds next d f ∙ t)

    -- the node is done
    pub step_over : d ≡ true → StandsAs begun (w.step (w.form curr next p)) w.form backward n after (n - 2) (left p.done n) None
    step_over t = record { told = step_by true t }

    -- it gets done
    pub step_on_lem : d ≡ false → next < n → (t : Float) → t ≡ w.time (table_in after) curr next → {fs : List Float} {us flags : List ℕ}
        → (fs ≡ (set_time (table_in after) next t).floats) × ((us ≡ (set_time (table_in after) next t).numbers) × (flags ≡ set after.flags next 1)) → (y : EstTime) → y ≡ node_at after.floats after.numbers next → (j : ℕ) → j ≡ w.link y
        → StandsAs begun (w.step (w.form curr next p)) w.form backward n (slices fs us flags after.times after.nodes) (n - 2) (left p.done n) (Some (record { curr = next; ahead = j; count = count }))
    step_on_lem c k t s {fs} {us} {flags} o y m j i =
        let v = queued_as.holds in
        let q = queued_as.pass in
        let un : q.done next ≡ false = done_in_lem v next d f ∙ c in
        let x : PassIn begun backward n (slices fs us flags after.times after.nodes) count (n - 2) (done_at_of q next t) = in_done_new v next k t fs us flags o un (n - 2) (omega arith) in
        let e : w.time q.table curr next ≡ t = ap (λ (z : Table). w.time z curr next) v.table ∙ sym s in
        let l : w.link (at (set_time q.table next t) next) ≡ j = ap w.link (time_set q.table n (linked_in v).room next k t).here ∙ w.timed (at q.table next) t ∙ ap w.link (sym (node_in v next y m)) ∙ sym i in
        let a : reached_by w curr next q t ≡ given (w.form next j (done_at_of q next t)) = ap (λ (k : ℕ). given (w.form next k (done_at_of q next t))) l in
        record {
          told = (
            record { pass = done_at_of q next t; is = step_by false c ∙ ap (reached_by w curr next q) e ∙ a; holds = x; fewer = omega (arith, queued_as.fewer, left_falls q.done next n k un) },
            (k, subst (λ (h : ℕ). h < n) (sym i) (w.inside (names_in after.floats after.numbers v.linked.inside next k y m))),
          );
        }

-- ---- a node's alternative

module _ {backward : Bool} {n : ℕ} {held : PassSlices} {count : ℕ} {begun : List ℕ} {p : Pass} (v : PassIn begun backward n held count (n - 2) p) (a : Answer Pass) where
  -- there is none
  pub alternate_none : a ≡ given p → PassAs begun a backward n held (n - 1) (left p.done n + 1) (Some count)
  alternate_none e = pass_after (left p.done n + 1) e (omega arith) (stays v (n - 1) (omega arith) (left p.done n + 1) (omega arith))

  -- it gets done and is queued
  pub alternate_some : (k : ℕ) → 0 < k → k < n → (t : Float) (e : Entry) → e.node ≡ k → a ≡ queued (is_nan e.time || is_nan e.sub) (done_at_of p k t) e → {gs : List Float} {vs flags : List ℕ}
      → (gs ≡ (set_time (table_in held) k t).floats) × ((vs ≡ (set_time (table_in held) k t).numbers) × (flags ≡ set held.flags k 1)) → {ts' : List Float} {ns' : List ℕ} {r : Option ℕ}
      → EnqueuedAs backward held.times held.nodes ts' ns' count e r → length held.times ≡ length ts' → length held.nodes ≡ length ns' → PassAs begun a backward n (slices gs vs flags ts' ns') (n - 1) (left p.done n + 1) r
  alternate_some k z h t e j i {gs} {vs} {flags} d q lt ln =
      pass_after (left p.done n + 1) i (omega arith) (enqueued_in (in_done v k h t gs vs flags d) e (omega arith) q lt ln (n - 1) (omega arith) (left p.done n + 1) (omega (arith, left_kept p.done k n)))
