-- The backward pass keeps the shape, frames and the arcs, each as often as it is there. Of the queue only this is needed: every entry's node is a receiver.
use mathlib.Core.Path.{◌≡◌, refl, sym, ◌∙◌, subst}
use mathlib.Core.Logic.{◌⊎◌, inl, inr, ⊎_elim}
use mathlib.Core.Bool.{Bool, true, false, not, ◌||◌}
use mathlib.Core.List.{List, [], ◌∷◌}
use Prim.Native.Nat.{ℕ, zero, suc, ◌-◌, ◌≤◌, ◌<◌}
use native.Mathlib.Omega.{arith}
use borrow.Author.Tests.{not-true}
use lib.Dec.{eqb}
use lib.Ieee.{Float, binary64, sub, of_bits, is_nan}
use Rattle.laws.proofs.Truth.{not_both}
use Rattle.net_node.proofs.Tables.{RoomIn}
use Rattle.net_node.specs.Table.{Table, at, is_fake}
use Rattle.laws.proofs.Below.{none_right}
use Rattle.net_node.specs.declared.EstTime.{EstTime}
use Rattle.pass_queue.specs.declared.Entry.{Entry}
use Rattle.pass_queue.specs.Queue.{best, others}
use Rattle.laws.specs.Answer.{given, and_then}
use Rattle.laws.proofs.Answers.{Holds, holds_then, holds_given}
use Rattle.pass_rules.specs.Net.{asserting, Pass}
use Rattle.pass_rules.specs.Backward.{queued, enqueue, passed, At, relink_walk, relinked, alternated_by, step_on, step, stops_at, stop_if, strand, added_if, settled_by, settle, turn, turns, last_two, backward}
use Rattle.arcs_growth.specs.Arcs.{is_base}
use Rattle.arcs_growth.specs.Shape.{is_receiver, Shape}
use Rattle.arcs_passes.proofs.Roles.{receiver_inside}
use Rattle.arcs_passes.proofs.Frames.{base_same, receiver_same}
use Rattle.arcs_passes.proofs.Ways.{upward, event_receives}
use Rattle.arcs_passes.proofs.Answers.{holds_if, Every, best_holds, others_hold}
use Rattle.arcs_passes.proofs.BackwardRelinks.{Akin, walk_holds, Kept, kept_itself, kept_timed, kept_split}

module _ (node : ℕ → EstTime) (n places : ℕ) (l : n ≤ places) where
  abbrev Base : ℕ → Type 0
  Base i = (is_base node n i ≡ true) × (i < n)

  abbrev Receives : ℕ → Type 0
  Receives i = is_receiver node n i ≡ true

  record Good (p : Pass) : Type 0 where
    kept : Kept node n places p.table
    queue : Every Receives p.queue

  -- ---- roles are those of the network before the pass

  base_here : (t : Table) → Kept node n places t → (i : ℕ) → is_base node n i ≡ true → is_base (at t) n i ≡ true
  base_here t f i e = base_same node (at t) f.frames n i ∙ e

  base_there : (t : Table) → Kept node n places t → (i : ℕ) → is_base (at t) n i ≡ true → is_base node n i ≡ true
  base_there t f i e = sym (base_same node (at t) f.frames n i) ∙ e

  receives_here : (t : Table) → Kept node n places t → (i : ℕ) → is_receiver node n i ≡ true → is_receiver (at t) n i ≡ true
  receives_here t f i e = receiver_same node (at t) f.frames n i ∙ e

  receives_there : (t : Table) → Kept node n places t → (i : ℕ) → is_receiver (at t) n i ≡ true → is_receiver node n i ≡ true
  receives_there t f i e = sym (receiver_same node (at t) f.frames n i) ∙ e

  upward_there : (t : Table) → Kept node n places t → (i : ℕ) → Base i → Base (at t i).idx_prev ⊎ ((at t i).idx_prev ≡ 0)
  upward_there t f i b = go (upward (at t) n f.shape i b.1 (base_here t f i b.0))
    where
      go : ((is_base (at t) n (at t i).idx_prev ≡ true) × ((at t i).idx_prev < n)) ⊎ ((at t i).idx_prev ≡ 0) → Base (at t i).idx_prev ⊎ ((at t i).idx_prev ≡ 0)
      go (inl e) = inl (base_there t f (at t i).idx_prev e.0, e.1)
      go (inr e) = inr e

  event_there : (t : Table) → Kept node n places t → (i : ℕ) → i < n → is_fake (at t i) ≡ false → is_receiver node n i ≡ true
  event_there t f i h e = receives_there t f i (event_receives (at t) n f.shape i h (e))

  -- ---- entries and times

  passed_holds : (p : Pass) → Good p → (i : ℕ) (x : Float) → i < n → Good (passed p i x)
  unfolding passed
  passed_holds p g i x h = record { kept = kept_timed node n places p.table g.kept i x l h; queue = g.queue }

  enqueue_holds : (p : Pass) → Good p → (time less : Float) (i : ℕ) → Receives i → Holds Good (enqueue p time less i)
  unfolding enqueue
  enqueue_holds p g time less i r = go (is_nan time || is_nan less)
    where
      go : (c : Bool) → Holds Good (queued c p (record { time = time; sub = less; node = i }))
      go true = tt
      go false = record { kept = g.kept; queue = (r, g.queue) }

  -- ---- a step of a strand

  -- before it: the walk looks at a base
  record Standing (a : At) : Type 0 where
    good : Good a.pass
    inside : a.curr < n
    base : Base a.prev

  -- after it: it stands on a base, and looks at a base or node 0
  record Stepped (a : At) : Type 0 where
    good : Good a.pass
    stands : Base a.curr
    ahead : Base a.prev ⊎ (a.prev ≡ 0)

  alternated_holds : (p : Pass) → Good p → (curr : ℕ) → curr < n → (j : ℕ) → (at p.table curr).idx_prev_alt ≡ j → Holds Good (alternated_by j p curr)
  alternated_holds p g curr h zero e = g
  alternated_holds p g curr h (suc j) e =
      let some : 0 < (at p.table curr).idx_prev_alt = omega arith in
      let r : is_receiver node n (suc j) ≡ true = receives_there p.table g.kept (suc j) (subst (λ (x : ℕ). is_receiver (at p.table) n x ≡ true) e (g.kept.shape.prev_alt curr h some)) in
      let time = (at p.table curr).time_sched in
      enqueue_holds (passed p (suc j) time) (passed_holds p g (suc j) time (receiver_inside node n (suc j) r)) time (sub binary64 (at p.table (suc j)).time_sched time) (suc j) r

  on_holds : (a : At) → Base a.prev → (p : Pass) → Good p → Holds Stepped (step_on a p)
  unfolding step_on
  on_holds a b p g =
      let x = sub binary64 (at p.table a.prev).time_sched a.less in
      let q = passed p a.prev x in
      let good : Good (passed p a.prev x) = passed_holds p g a.prev x b.1 in
      holds_if Stepped (not (p.done a.prev)) (given (record { pass = q; curr = a.prev; prev = (at q.table a.prev).idx_prev; less = a.less }))
      (λ o. record { good = good; stands = b; ahead = upward_there q.table good.kept a.prev b })

  step_holds : (a : At) → Standing a → Holds Stepped (step a)
  unfolding step
  step_holds a s =
      holds_then Good Stepped (alternated_by (at a.pass.table a.curr).idx_prev_alt a.pass a.curr) (step_on a)
      (alternated_holds a.pass s.good a.curr s.inside (at a.pass.table a.curr).idx_prev_alt refl) (on_holds a s.base)

  -- ---- strands

  -- a walk that goes on looks at an event
  goes_on_lem : (a : At) → Stepped a → stops_at a ≡ false → Standing a
  unfolding stops_at
  goes_on_lem a s e = record { good = s.good; inside = s.stands.1; base = ⊎_elim (λ (b : Base a.prev). b) first s.ahead }
    where
      event : is_fake (at a.pass.table a.prev) ≡ false
      event = none_right (not (eqb (at a.pass.table a.prev).idx_next_alt 0)) (is_fake (at a.pass.table a.prev)) e

      first : a.prev ≡ 0 → Base a.prev
      first o = not_both s.good.kept.shape.first_fake (subst (λ (x : ℕ). is_fake (at a.pass.table x) ≡ false) o event)

  strand_holds : (k : ℕ) (a : At) → Standing a → Holds Stepped (strand k a)
  unfolding strand
  strand_holds zero a s = tt
  strand_holds (suc k) a s = holds_then Stepped Stepped (step a) (λ (b : At). stop_if (stops_at b) b (strand k)) (step_holds a s) (λ b t. go b t (stops_at b) refl (strand_holds k b))
    where
      go : (b : At) → Stepped b → (c : Bool) → stops_at b ≡ c → (Standing b → Holds Stepped (strand k b)) → Holds Stepped (stop_if c b (strand k))
      go b t true e ih = t
      go b t false e ih = ih (goes_on_lem b t e)

  -- ---- the end of a strand

  added_holds : (a : At) → Stepped a → (c : Bool) → Holds Good (added_if c (is_fake (at a.pass.table a.curr)) a)
  added_holds a s true =
      let time = (at a.pass.table a.curr).time_sched in
      let some = s.good.kept.shape.some in
      let first : 0 < n = omega arith in
      let inside : a.prev < n = ⊎_elim (λ (b : Base a.prev). b.1) (λ (e : a.prev ≡ 0). omega arith) s.ahead in
      passed_holds (passed a.pass a.prev time) (passed_holds a.pass s.good a.prev time inside) 0 time first
  added_holds a s false =
      let time = sub binary64 (at a.pass.table a.curr).time_sched (at a.pass.table a.prev).time_to_next in
      holds_if Good (not (is_fake (at a.pass.table a.curr))) (enqueue a.pass time a.less a.curr)
      (λ o. enqueue_holds a.pass s.good time a.less a.curr
      (event_there a.pass.table s.good.kept a.curr s.stands.1 (not-true (is_fake (at a.pass.table a.curr)) o)))

  settle_holds : (a : At) → Stepped a → Holds Good (settle a)
  unfolding settle
  settle_holds a s = go (a.pass.done a.prev)
    where
      go : (c : Bool) → Holds Good (settled_by c a)
      go false = added_holds a s (eqb (at a.pass.table a.prev).idx_prev 0)
      go true =
          holds_if Good (is_fake (at a.pass.table a.curr)) (asserting (eqb a.curr (at a.pass.table a.prev).idx_next_alt) (given a.pass))
          (λ o. holds_if Good (eqb a.curr (at a.pass.table a.prev).idx_next_alt) (given a.pass) (λ q. s.good))

  -- ---- the pass

  relinked_holds : (p : Pass) → Good p → (curr : ℕ) → Receives curr → (less : Float) (found : ℕ) → Akin (at p.table) n (at p.table curr).idx_prev found
      → Standing (relinked p curr (at p.table curr).idx_prev less found)
  unfolding relinked
  relinked_holds p g curr r less found a = record {
    good = record { kept = kept_split node n places p.table g.kept curr found l (receives_here p.table g.kept curr r) a; queue = g.queue };
    inside = receiver_inside node n curr r;
    base = (base_there p.table g.kept found a.base, a.inside);
  }

  turn_holds : (p : Pass) → Good p → (curr : ℕ) → Receives curr → (less : Float) → Holds Good (turn n p curr less)
  unfolding turn
  turn_holds p g curr r less =
      let prev = (at p.table curr).idx_prev in
      let q = g.kept.shape.receiver_prev curr (receives_here p.table g.kept curr r) in
      holds_if Good (p.done curr) (asserting (not (p.done prev)) (and_then (relink_walk n p prev) (λ (found : ℕ). and_then (strand n (relinked p curr prev less found)) settle)))
      (λ o. holds_if Good (not (p.done prev)) (and_then (relink_walk n p prev) (λ (found : ℕ). and_then (strand n (relinked p curr prev less found)) settle))
      (λ z. holds_then (Akin (at p.table) n prev) Good (relink_walk n p prev) (λ (found : ℕ). and_then (strand n (relinked p curr prev less found)) settle)
      (walk_holds p n g.kept.shape n prev q.0 q.1.0)
      (λ found a. holds_then Stepped Good (strand n (relinked p curr prev less found)) settle (strand_holds n (relinked p curr prev less found) (relinked_holds p g curr r less found a)) settle_holds)))

  turns_hold : (k : ℕ) (t : Table) (done : ℕ → Bool) (q : List Entry) → Kept node n places t → Every Receives q → Holds Good (turns k n t done q)
  unfolding turns
  turns_hold zero t done q f e = record { kept = f; queue = e }
  turns_hold (suc k) t done [] f e = record { kept = f; queue = tt }
  turns_hold (suc k) t done (x ∷ xs) f e =
      holds_then Good Good (turn n (record { table = t; done = done; queue = others true x xs }) (best true x xs).node (best true x xs).sub) (λ (p : Pass). turns k n p.table p.done p.queue)
      (turn_holds (record { table = t; done = done; queue = others true x xs }) (record { kept = f; queue = others_hold Receives true x xs e.0 e.1 })
      (best true x xs).node (best_holds Receives true x xs e.0 e.1) (best true x xs).sub)
      (λ p g. turns_hold k p.table p.done p.queue g.kept g.queue)

-- ---- the theorem

module _ (t : Table) (n places : ℕ) (l : n ≤ places) (r : RoomIn t places) (s : Shape (at t) n) where
  backward_holds : is_receiver (at t) n (n - 2) ≡ true → Holds (Good (at t) n places l) (backward t n)
  unfolding backward
  backward_holds e = turns_hold (at t) n places l n t (last_two n) (record { time = of_bits binary64 0; sub = of_bits binary64 0; node = n - 2 } ∷ []) (kept_itself t n places r s) (e, tt)

  -- from a receiver on, the backward pass keeps room, the shape, every frame, and the arcs
  pub backward_keeps : (p : Pass) → is_receiver (at t) n (n - 2) ≡ true → backward t n ≡ given p → Kept (at t) n places p.table
  backward_keeps p e q = (holds_given (Good (at t) n places l) (backward t n) p (backward_holds e) q).kept
