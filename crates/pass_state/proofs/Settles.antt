-- What becomes of the node that a strand ends on, in either pass.
use mathlib.Core.Path.{◌≡◌, refl, sym, ap, ◌∙◌}
use mathlib.Core.Logic.{◌≢◌}
use mathlib.Core.Bool.{Bool, true, false, not, ◌&&◌, ◌||◌}
use mathlib.Core.List.{List}
use Prim.Native.Nat.{ℕ, ◌+◌, ◌-◌, ◌≤◌, ◌<◌}
use native.Mathlib.Omega.{arith}
use borrow.Author.Tests.{eq-eqb, ne_eqb}
use lib.Dec.{eqb}
use lib.ListN.{length}
use lib.Ieee.{Float, is_nan}
use Rattle.std.specs.Prelude.{Option, Some, None}
use Rattle.net_node.specs.declared.EstTime.{EstTime}
use Rattle.net_node.specs.Table.{node_at, at, is_fake}
use Rattle.pass_queue.specs.declared.Entry.{Entry}
use Rattle.laws.specs.Answer.{Answer, given}
use Rattle.pass_rules.specs.Net.{asserting, Pass}
use Rattle.pass_rules.specs.Backward.{queued}
use Rattle.pass_rules.specs.Walks.{done_in}
use Rattle.pass_state.specs.Held.{PassSlices, slices, left, PassIn, PassAs, EnqueuedAs}
use Rattle.pass_state.proofs.Links.{Names, names_in}
use Rattle.pass_state.proofs.Kept.{node_in, done_in_lem, in_more, enqueued_in, stays, pass_after}

-- over n nodes: which neighbour is followed and which is its alternative, what is done at the end, and the entry that is added
pub record Settler (n : ℕ) : Type 1 where
  pub A : Type 0
  pub form : ℕ → ℕ → Pass → A
  pub link : EstTime → ℕ
  pub alt : EstTime → ℕ
  pub inside : {x : EstTime} → Names x n → link x < n
  pub ended : Pass → ℕ → ℕ → Pass
  pub entry : Pass → ℕ → ℕ → Entry
  pub named : (p : Pass) (curr next : ℕ) → (entry p curr next).node ≡ curr
  pub settle : A → Answer Pass
  pub joins : (p : Pass) (curr next : ℕ) → p.done next ≡ true → settle (form curr next p) ≡ asserting (is_fake (at p.table curr)) (asserting (eqb curr (alt (at p.table next))) (given p))
  pub ends : (p : Pass) (curr next : ℕ) → p.done next ≡ false → eqb (link (at p.table next)) 0 ≡ true → settle (form curr next p) ≡ given (ended p curr next)
  pub adds : (p : Pass) (curr next : ℕ) → p.done next ≡ false → eqb (link (at p.table next)) 0 ≡ false
      → settle (form curr next p) ≡ asserting (not (is_fake (at p.table curr))) (queued (is_nan (entry p curr next).time || is_nan (entry p curr next).sub) p (entry p curr next))

both_asserted : {A : Type 0} (a b : Bool) (x : Answer A) → asserting a (asserting b x) ≡ asserting (a && b) x
both_asserted true b x = refl
both_asserted false b x = refl

module _ {n : ℕ} (w : Settler n) {backward : Bool} {held : PassSlices} {count : ℕ} {begun : List ℕ} {p : Pass} (v : PassIn begun backward n held count (n - 2) p)
    (curr next : ℕ) (x y : EstTime) (l : x ≡ node_at held.floats held.numbers curr) (m : y ≡ node_at held.floats held.numbers next) (fake : Bool) (f : fake ≡ is_fake x) (d : Bool) (e : d ≡ done_in held.flags next) where
  fake_is : is_fake (at p.table curr) ≡ fake
  fake_is = ap is_fake (sym (node_in v curr x l)) ∙ sym f

  -- the node that is looked at is done
  joined_is : (k : ℕ) → k ≡ w.alt y → d ≡ true → w.settle (w.form curr next p) ≡ asserting (fake && eqb curr k) (given p)
  joined_is k a t =
      w.joins p curr next (done_in_lem v next d e ∙ t)
      ∙ ap (λ (z : Bool). asserting z (asserting (eqb curr (w.alt (at p.table next))) (given p))) fake_is
      ∙ ap (λ (z : EstTime). asserting fake (asserting (eqb curr (w.alt z)) (given p))) (sym (node_in v next y m))
      ∙ both_asserted fake (eqb curr (w.alt y)) (given p)
      ∙ ap (λ (i : ℕ). asserting (fake && eqb curr i) (given p)) (sym a)

  pub settle_joined : (k : ℕ) → k ≡ w.alt y → d ≡ true → (fake && eqb curr k) ≡ true → PassAs begun (w.settle (w.form curr next p)) backward n held (n - 1) (left p.done n + 1) (Some count)
  settle_joined k a t b = pass_after (left p.done n + 1) (joined_is k a t ∙ ap (λ (z : Bool). asserting z (given p)) b) (omega arith) (stays v (n - 1) (omega arith) (left p.done n + 1) (omega arith))

  pub settle_fails : (k : ℕ) → k ≡ w.alt y → d ≡ true → (fake && eqb curr k) ≡ false → PassAs begun (w.settle (w.form curr next p)) backward n held (n - 1) (left p.done n + 1) None
  settle_fails k a t b = record { told = joined_is k a t ∙ ap (λ (z : Bool). asserting z (given p)) b }

  -- it is not
  module _ (j : ℕ) (s : j ≡ w.link y) (t : d ≡ false) where
    link_is : (b : Bool) → eqb j 0 ≡ b → eqb (w.link (at p.table next)) 0 ≡ b
    link_is b z = ap (λ (c : EstTime). eqb (w.link c) 0) (sym (node_in v next y m)) ∙ ap (λ (i : ℕ). eqb i 0) (sym s) ∙ z

    -- and is the end
    pub settle_end : j ≡ 0 → {gs : List Float} {vs flags : List ℕ} → PassIn begun backward n (slices gs vs flags held.times held.nodes) count (n - 2) (w.ended p curr next) → left (w.ended p curr next).done n ≤ left p.done n
        → PassAs begun (w.settle (w.form curr next p)) backward n (slices gs vs flags held.times held.nodes) (n - 1) (left p.done n + 1) (Some count)
    settle_end z u k = record {
      told = record { pass = w.ended p curr next; is = w.ends p curr next (done_in_lem v next d e ∙ t) (link_is true (eq-eqb j 0 z)); holds = in_more u (n - 1) (omega arith); fewer = omega arith };
    }

    -- or is not
    module _ (z : j ≢ 0) where
      abbrev added : Answer Pass
      added = queued (is_nan (w.entry p curr next).time || is_nan (w.entry p curr next).sub) p (w.entry p curr next)

      added_is : (b : Bool) → fake ≡ b → w.settle (w.form curr next p) ≡ asserting (not b) added
      added_is b c = w.adds p curr next (done_in_lem v next d e ∙ t) (link_is false (ne_eqb j 0 z)) ∙ ap (λ (a : Bool). asserting (not a) added) (fake_is ∙ c)

      pub settle_fake : fake ≡ true → PassAs begun (w.settle (w.form curr next p)) backward n held (n - 1) (left p.done n + 1) None
      settle_fake b = record { told = added_is true b }

      pub settle_queued : fake ≡ false → curr < n → next < n → {ts' : List Float} {ns' : List ℕ} {r : Option ℕ} → EnqueuedAs backward held.times held.nodes ts' ns' count (w.entry p curr next) r → length held.times ≡ length ts' → length held.nodes ≡ length ns'
          → PassAs begun (w.settle (w.form curr next p)) backward n (slices held.floats held.numbers held.flags ts' ns') (n - 1) (left p.done n + 1) r
      settle_queued b h k q lt ln =
          let some : w.link y < n = w.inside (names_in held.floats held.numbers v.linked.inside next k y m) in
          let two : 1 < n = omega (arith, z, s) in
          let named : (w.entry p curr next).node < n = omega (arith, w.named p curr next) in
          pass_after (left p.done n + 1) (added_is false b) (omega arith) (enqueued_in v (w.entry p curr next) named q lt ln (n - 1) (omega arith) (left p.done n + 1) (omega arith))
