-- Both passes keep the shape of a network and its arcs, each as often as it is there. The backward pass begins on a receiver because of row 14: the last node's prev leads to it.
use mathlib.Core.Path.{◌≡◌, refl, sym, ap, ◌∙◌, subst}
use mathlib.Core.Logic.{◌⊎◌, inl, inr, ◌≢◌, ⊎_elim}
use mathlib.Core.Bool.{Bool, true, false, not, ◌&&◌}
use Prim.Native.Nat.{ℕ, ◌-◌, ◌≤◌, ◌<◌}
use native.Mathlib.Omega.{arith}
use borrow.Author.Tests.{eqb-true, not-false}
use lib.Dec.{eqb}
use lib.Ieee.{Float}
use lib.ListN.{length}
use Rattle.laws.proofs.Truth.{true_or_false, equal_or_not, and_left, and_right, or_is}
use Rattle.net_node.proofs.Tables.{RoomIn}
use Rattle.net_node.specs.Table.{Table, at}
use Rattle.laws.proofs.Below.{none_at}
use Rattle.net_node.specs.declared.EstTime.{EstTime}
use Rattle.pass_rules.specs.Checks.{prev_holds, next_holds, fake_holds, prev_leads, next_leads, not_both_alternates, node_holds, row14}
use Rattle.laws.specs.Answer.{Answer, refused, given, and_then}
use Rattle.laws.proofs.Answers.{Holds, holds_given}
use Rattle.pass_rules.specs.Net.{Pass}
use Rattle.pass_rules.specs.Forward.{forward}
use Rattle.pass_rules.specs.Backward.{backward}
use Rattle.pass_rules.specs.Passes.{some_left, all_zero, checked_as, after_backward, after_forward, passes}
use Rattle.arcs_growth.specs.Arcs.{is_base, is_alternative, arcs_read, SameArcs, times_in}
use Rattle.arcs_growth.specs.Shape.{is_receiver, Shape}
use Rattle.arcs_growth.proofs.NewNodes.{EventsKept}
use Rattle.arcs_passes.proofs.Roles.{base_start, base_alternative, is_receiver_lem, end_receives_not}
use Rattle.arcs_passes.proofs.Frames.{event_same, speed_same, receiver_same, many_same}
use Rattle.arcs_passes.proofs.ForwardRelinks.{Forth}
use Rattle.arcs_passes.proofs.ForwardKeeps.{forward_keeps, forward_arcs}
use Rattle.arcs_passes.proofs.BackwardRelinks.{Kept}
use Rattle.arcs_passes.proofs.BackwardKeeps.{backward_keeps}

-- ---- node n − 2 is a receiver

module _ (node : ℕ → EstTime) (n : ℕ) (s : Shape node n) where
  prev_leads_lem : (i : ℕ) → node_holds node n i ≡ true → prev_leads node n i ≡ true
  unfolding node_holds
  prev_leads_lem i e =
      and_right (prev_holds node n i && next_holds node n i && fake_holds node n i) (prev_leads node n i)
      (and_left (prev_holds node n i && next_holds node n i && fake_holds node n i && prev_leads node n i) (next_leads node n i)
      (and_left (prev_holds node n i && next_holds node n i && fake_holds node n i && prev_leads node n i && next_leads node n i) (not_both_alternates node n i) e))

  -- the node before the last leads to it
  end_led : row14 node n ≡ false → (node (n - 2)).idx_next ≡ n - 1
  unfolding row14 prev_leads
  end_led e =
      let some = s.some in
      let leads = prev_leads_lem (n - 1) (not-false (node_holds node n (n - 1)) (none_at n (λ i. not (node_holds node n i)) (n - 1) (omega arith) e)) in
      subst (λ (x : ℕ). (node x).idx_next ≡ n - 1) s.end_prev (go (or_is (eqb (node (node (n - 1)).idx_prev).idx_next (n - 1)) (eqb (node (node (n - 1)).idx_prev).idx_next_alt (n - 1)) leads))
    where
      go : (eqb (node (node (n - 1)).idx_prev).idx_next (n - 1) ≡ true) ⊎ (eqb (node (node (n - 1)).idx_prev).idx_next_alt (n - 1) ≡ true) → (node (node (n - 1)).idx_prev).idx_next ≡ n - 1
      go (inl a) = eqb-true (node (node (n - 1)).idx_prev).idx_next (n - 1) a
      go (inr a) =
          let some = s.some in
          let prev = s.end_prev in
          let is = eqb-true (node (node (n - 1)).idx_prev).idx_next_alt (n - 1) a in
          let inside = s.alt_inside (node (n - 1)).idx_prev (omega arith) (omega arith) in
          omega arith

  pub second_last_receives : row14 node n ≡ false → is_receiver node n (n - 2) ≡ true
  second_last_receives e =
      let some = s.some in
      is_receiver_lem node n (n - 2) (beyond (equal_or_not (n - 2) 1)) (omega arith)
      (⊎_elim (λ (a : is_alternative node n (n - 2) ≡ true). absurd (unbased (n - 2) (base_alternative node n (n - 2) a) refl)) (λ (a : is_alternative node n (n - 2) ≡ false). a) (true_or_false (is_alternative node n (n - 2))))
    where
      unbased : (i : ℕ) → is_base node n i ≡ true → i ≡ n - 2 → ⊥
      unbased i b o =
          let some = s.some in
          let inside : i < n = omega arith in
          end_receives_not node n (node i).idx_next (s.base_next i inside b).0 (ap (λ (x : ℕ). (node x).idx_next) o ∙ end_led e)

      beyond : (n - 2 ≡ 1) ⊎ (n - 2 ≢ 1) → 1 < n - 2
      beyond (inl o) = absurd (unbased 1 (base_start node n) (sym o))
      beyond (inr o) = let some = s.some in omega arith

-- ---- both passes

checked_holds : (P : Table → Type 0) (b : Bool) (k : ℕ) (x : Answer Table) → (b ≡ false → Holds P x) → Holds P (checked_as b k x)
checked_holds P true k x h = tt
checked_holds P false k x h = h refl

module _ (t : Table) (n places : ℕ) (l : n ≤ places) (r : RoomIn t places) (s : Shape (at t) n) where
  pub backward_arcs : (p : Pass) → row14 (at t) n ≡ false → backward t n ≡ given p → SameArcs (arcs_read (at t) n) (arcs_read (at p.table) n)
  backward_arcs p e q = (backward_keeps t n places l r s p (second_last_receives (at t) n s e) q).arcs

  after_backward_lem : (p : Pass) → Forth (at t) n places p.table → arcs_read (at p.table) n ≡ arcs_read (at t) n → row14 (at t) n ≡ false → (x : Answer Pass) → backward p.table n ≡ x
      → Holds (Kept (at t) n places) (and_then x (after_backward n))
  after_backward_lem p f a e (refused m) q = tt
  after_backward_lem p f a e (given b) q =
      checked_holds (Kept (at t) n places) (some_left b.done n) 15 (checked_as (all_zero b.table n) 16 (given b.table))
      (λ o. checked_holds (Kept (at t) n places) (all_zero b.table n) 16 (given b.table) (λ z. kept))
    where
      back : Kept (at p.table) n places b.table
      back = backward_keeps p.table n places l f.room f.shape b (receiver_same (at t) (at p.table) f.frames n (n - 2) ∙ second_last_receives (at t) n s e) q

      kept : Kept (at t) n places b.table
      kept = record { room = back.room; shape = back.shape; frames = λ x. back.frames x ∙ f.frames x; arcs = λ c. ap (times_in c) (sym a) ∙ back.arcs c }

  after_forward_lem : (departure : Float) → row14 (at t) n ≡ false → (x : Answer Pass) → forward t n departure ≡ x → Holds (Kept (at t) n places) (and_then x (after_forward n))
  after_forward_lem departure e (refused m) q = tt
  after_forward_lem departure e (given p) q =
      checked_holds (Kept (at t) n places) (some_left p.done n) 15 (and_then (backward p.table n) (after_backward n))
      (λ o. after_backward_lem p (forward_keeps t n places l r s departure p q) (forward_arcs t n places l r s departure p q) e (backward p.table n) refl)

  -- both passes keep room, the shape, every event and alternative, and the arcs
  pub passes_keep : (departure : Float) (u : Table) → passes t n departure ≡ given u → Kept (at t) n places u
  unfolding passes
  passes_keep departure u e =
      holds_given (Kept (at t) n places) (passes t n departure) u
      (checked_holds (Kept (at t) n places) (row14 (at t) n) 14 (and_then (forward t n departure) (after_forward n)) (λ o. after_forward_lem departure o (forward t n departure) refl)) e

  pub passes_arcs : (departure : Float) (u : Table) → passes t n departure ≡ given u → SameArcs (arcs_read (at t) n) (arcs_read (at u) n)
  passes_arcs departure u e = (passes_keep departure u e).arcs

  -- as many arcs are read off
  pub passes_many : (departure : Float) (u : Table) → passes t n departure ≡ given u → length (arcs_read (at u) n) ≡ length (arcs_read (at t) n)
  passes_many departure u e = many_same (at t) (at u) (passes_keep departure u e).frames n

  pub passes_events : (departure : Float) (u : Table) → passes t n departure ≡ given u → EventsKept n (at t) (at u)
  passes_events departure u e =
      let f = (passes_keep departure u e).frames in
      record { event = λ i h. event_same (at t) (at u) f i; speed = λ i h. speed_same (at t) (at u) f i }
