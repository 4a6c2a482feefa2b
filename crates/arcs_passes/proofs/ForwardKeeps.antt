-- The forward pass keeps the shape, frames and each base's arc. Of the queue only this is needed: every entry's node is a base.
use mathlib.Core.Path.{◌≡◌, refl, sym, ◌∙◌, subst}
use mathlib.Core.Logic.{◌⊎◌, inl, inr, ⊎_elim}
use mathlib.Core.Bool.{Bool, true, false, not}
use mathlib.Core.List.{List, [], ◌∷◌}
use Prim.Native.Nat.{ℕ, zero, suc, ◌-◌, ◌≤◌, ◌<◌}
use native.Mathlib.Omega.{arith}
use borrow.Author.Tests.{not-true}
use lib.Dec.{eqb}
use lib.Ieee.{Float, binary64, of_bits, is_nan}
use Rattle.laws.proofs.Truth.{not_both}
use Rattle.net_node.proofs.Tables.{RoomIn}
use Rattle.net_node.specs.Table.{Table, at, is_fake, set_time}
use Rattle.laws.proofs.Below.{none_right}
use Rattle.net_node.specs.declared.EstTime.{EstTime}
use Rattle.pass_queue.specs.declared.Entry.{Entry}
use Rattle.pass_queue.specs.Queue.{best, others}
use Rattle.laws.specs.Answer.{given, and_then}
use Rattle.laws.proofs.Answers.{Holds, holds_then, holds_given}
use Rattle.pass_rules.specs.Net.{asserting, Pass}
use Rattle.pass_rules.specs.Forward.{time_next, queued, enqueue, timed, At, relink_walk, relinked, alternated_by, step_on, step, stops_at, stop_if, strand, added_if, settled_by, settle, turn, turns, first_two, forward}
use Rattle.arcs_growth.specs.Arcs.{is_base, arcs_read}
use Rattle.arcs_growth.specs.Shape.{is_receiver, Shape}
use Rattle.arcs_passes.proofs.Roles.{base_start, base_event, base_alternative, alternative_named, receiver_inside}
use Rattle.arcs_passes.proofs.Frames.{fake_same, base_same, receiver_same}
use Rattle.arcs_passes.proofs.Ways.{onward}
use Rattle.arcs_passes.proofs.Arcs.{read_same}
use Rattle.arcs_passes.proofs.Answers.{holds_if, Every, best_holds, others_hold}
use Rattle.arcs_passes.proofs.ForwardRelinks.{Alike, walk_holds, Forth, forth_itself, forth_timed, forth_joined}

module _ (node : ℕ → EstTime) (n places : ℕ) (l : n ≤ places) where
  abbrev Base : ℕ → Type 0
  Base i = (is_base node n i ≡ true) × (i < n)

  record Good (p : Pass) : Type 0 where
    forth : Forth node n places p.table
    queue : Every Base p.queue

  -- ---- roles are those of the network before the pass

  base_here : (t : Table) → Forth node n places t → (i : ℕ) → is_base node n i ≡ true → is_base (at t) n i ≡ true
  base_here t f i e = base_same node (at t) f.frames n i ∙ e

  receives_here : (t : Table) → Forth node n places t → (i : ℕ) → is_receiver node n i ≡ true → is_receiver (at t) n i ≡ true
  receives_here t f i e = receiver_same node (at t) f.frames n i ∙ e

  receives_there : (t : Table) → Forth node n places t → (i : ℕ) → is_receiver (at t) n i ≡ true → is_receiver node n i ≡ true
  receives_there t f i e = sym (receiver_same node (at t) f.frames n i) ∙ e

  onward_there : (t : Table) → Forth node n places t → (i : ℕ) → is_receiver node n i ≡ true → (is_receiver node n (at t i).idx_next ≡ true) ⊎ ((at t i).idx_next ≡ n - 1)
  onward_there t f i e = ⊎_elim (λ (r : is_receiver (at t) n (at t i).idx_next ≡ true). inl (receives_there t f (at t i).idx_next r)) inr (onward (at t) n f.shape i (receives_here t f i e))

  event_there : (t : Table) → Forth node n places t → (i : ℕ) → is_fake (at t i) ≡ false → is_base node n i ≡ true
  event_there t f i e = base_event node n i (sym (fake_same node (at t) f.frames i) ∙ e)

  -- ---- entries and times

  timed_holds : (p : Pass) → Good p → (i : ℕ) (x : Float) → i < n → Good (timed p i x)
  unfolding timed
  timed_holds p g i x h = record { forth = forth_timed node n places p.table g.forth i x l h; queue = g.queue }

  enqueue_holds : (p : Pass) → Good p → (i : ℕ) → Base i → Holds Good (enqueue p i)
  unfolding enqueue
  enqueue_holds p g i b = go (is_nan (time_next p.table i))
    where
      go : (c : Bool) → Holds Good (queued c p (record { time = time_next p.table i; sub = of_bits binary64 0; node = i }))
      go true = tt
      go false = record { forth = g.forth; queue = (b, g.queue) }

  -- ---- a step of a strand

  -- before it: the walk looks at a receiver
  record Standing (a : At) : Type 0 where
    good : Good a.pass
    inside : a.curr < n
    receives : is_receiver node n a.next ≡ true

  -- after it: it stands on a receiver, and looks at a receiver or the end
  record Stepped (a : At) : Type 0 where
    good : Good a.pass
    stands : is_receiver node n a.curr ≡ true
    ahead : (is_receiver node n a.next ≡ true) ⊎ (a.next ≡ n - 1)

  alternated_holds : (p : Pass) → Good p → (curr : ℕ) → curr < n → (j : ℕ) → (at p.table curr).idx_next_alt ≡ j → Holds Good (alternated_by j p curr)
  alternated_holds p g curr h zero e = g
  alternated_holds p g curr h (suc j) e =
      let some : 0 < (at p.table curr).idx_next_alt = omega arith in
      let inside = g.forth.shape.alt_inside curr h some in
      let base : is_base node n (suc j) ≡ true =
      sym (base_same node (at p.table) g.forth.frames n (suc j))
      ∙ subst (λ (x : ℕ). is_base (at p.table) n x ≡ true) e
      (base_alternative (at p.table) n (at p.table curr).idx_next_alt (alternative_named (at p.table) n curr h some)) in
      let here : suc j < n = omega arith in
      enqueue_holds (timed p (suc j) (at p.table curr).time_sched) (timed_holds p g (suc j) (at p.table curr).time_sched here) (suc j) (base, here)

  on_holds : (a : At) → is_receiver node n a.next ≡ true → (p : Pass) → Good p → Holds Stepped (step_on a p)
  unfolding step_on
  on_holds a r p g =
      let q = timed p a.next (time_next p.table a.curr) in
      let good : Good (timed p a.next (time_next p.table a.curr)) = timed_holds p g a.next (time_next p.table a.curr) (receiver_inside node n a.next r) in
      holds_if Stepped (not (p.done a.next)) (given (record { pass = q; curr = a.next; next = (at q.table a.next).idx_next }))
      (λ o. record { good = good; stands = r; ahead = onward_there q.table good.forth a.next r })

  step_holds : (a : At) → Standing a → Holds Stepped (step a)
  unfolding step
  step_holds a s =
      holds_then Good Stepped (alternated_by (at a.pass.table a.curr).idx_next_alt a.pass a.curr) (step_on a)
      (alternated_holds a.pass s.good a.curr s.inside (at a.pass.table a.curr).idx_next_alt refl) (on_holds a s.receives)

  -- ---- strands

  -- a walk that goes on looks at an event
  goes_on_lem : (a : At) → Stepped a → stops_at a ≡ false → Standing a
  unfolding stops_at
  goes_on_lem a s e = record { good = s.good; inside = receiver_inside node n a.curr s.stands; receives = ⊎_elim (λ (r : is_receiver node n a.next ≡ true). r) last s.ahead }
    where
      event : is_fake (at a.pass.table a.next) ≡ false
      event = none_right (not (eqb (at a.pass.table a.next).idx_prev_alt 0)) (is_fake (at a.pass.table a.next)) e

      last : a.next ≡ n - 1 → is_receiver node n a.next ≡ true
      last o = not_both s.good.forth.shape.end_fake (subst (λ (x : ℕ). is_fake (at a.pass.table x) ≡ false) o event)

  strand_holds : (k : ℕ) (a : At) → Standing a → Holds Stepped (strand k a)
  unfolding strand
  strand_holds zero a s = tt
  strand_holds (suc k) a s = holds_then Stepped Stepped (step a) (λ (b : At). stop_if (stops_at b) b (strand k)) (step_holds a s) (λ b t. go b t (stops_at b) refl (strand_holds k b))
    where
      go : (b : At) → Stepped b → (c : Bool) → stops_at b ≡ c → (Standing b → Holds Stepped (strand k b)) → Holds Stepped (stop_if c b (strand k))
      go b t true e ih = t
      go b t false e ih = ih (goes_on_lem b t e)

  -- ---- the end of a strand

  added_holds : (a : At) → Stepped a → (c : Bool) → Holds Good (added_if c (is_fake (at a.pass.table a.curr)) a)
  added_holds a s true =
      let some = s.good.forth.shape.some in
      let inside : a.next < n = ⊎_elim (receiver_inside node n a.next) (λ (e : a.next ≡ n - 1). omega arith) s.ahead in
      timed_holds a.pass s.good a.next (at a.pass.table a.curr).time_sched inside
  added_holds a s false =
      holds_if Good (not (is_fake (at a.pass.table a.curr))) (enqueue a.pass a.curr)
      (λ o. enqueue_holds a.pass s.good a.curr
      (event_there a.pass.table s.good.forth a.curr (not-true (is_fake (at a.pass.table a.curr)) o), receiver_inside node n a.curr s.stands))

  settle_holds : (a : At) → Stepped a → Holds Good (settle a)
  unfolding settle
  settle_holds a s = go (a.pass.done a.next)
    where
      go : (c : Bool) → Holds Good (settled_by c a)
      go false = added_holds a s (eqb (at a.pass.table a.next).idx_next 0)
      go true =
          holds_if Good (is_fake (at a.pass.table a.curr)) (asserting (eqb a.curr (at a.pass.table a.next).idx_prev_alt) (given a.pass))
          (λ o. holds_if Good (eqb a.curr (at a.pass.table a.next).idx_prev_alt) (given a.pass) (λ q. s.good))

  -- ---- the pass

  relinked_holds : (p : Pass) → Good p → (curr : ℕ) → Base curr → (found : ℕ) → Alike (at p.table) n (at p.table curr).idx_next found → Standing (relinked p curr (at p.table curr).idx_next found)
  unfolding relinked
  relinked_holds p g curr b found a = record {
    good = record { forth = forth_joined node n places p.table g.forth curr found l (base_here p.table g.forth curr b.0) b.1 a; queue = g.queue };
    inside = b.1;
    receives = receives_there p.table g.forth found a.receives;
  }

  turn_holds : (p : Pass) → Good p → (curr : ℕ) → Base curr → Holds Good (turn n p curr)
  unfolding turn
  turn_holds p g curr b =
      let next = (at p.table curr).idx_next in
      holds_if Good (p.done curr) (asserting (not (p.done next)) (and_then (relink_walk n p n next) (λ (found : ℕ). and_then (strand n (relinked p curr next found)) settle)))
      (λ o. holds_if Good (not (p.done next)) (and_then (relink_walk n p n next) (λ (found : ℕ). and_then (strand n (relinked p curr next found)) settle))
      (λ q. holds_then (Alike (at p.table) n next) Good (relink_walk n p n next) (λ (found : ℕ). and_then (strand n (relinked p curr next found)) settle)
      (walk_holds p n g.forth.shape n next (g.forth.shape.base_next curr b.1 (base_here p.table g.forth curr b.0)).0)
      (λ found a. holds_then Stepped Good (strand n (relinked p curr next found)) settle (strand_holds n (relinked p curr next found) (relinked_holds p g curr b found a)) settle_holds)))

  turns_hold : (k : ℕ) (t : Table) (done : ℕ → Bool) (q : List Entry) → Forth node n places t → Every Base q → Holds Good (turns k n t done q)
  unfolding turns
  turns_hold zero t done q f e = record { forth = f; queue = e }
  turns_hold (suc k) t done [] f e = record { forth = f; queue = tt }
  turns_hold (suc k) t done (x ∷ xs) f e =
      holds_then Good Good (turn n (record { table = t; done = done; queue = others false x xs }) (best false x xs).node) (λ (p : Pass). turns k n p.table p.done p.queue)
      (turn_holds (record { table = t; done = done; queue = others false x xs }) (record { forth = f; queue = others_hold Base false x xs e.0 e.1 })
      (best false x xs).node (best_holds Base false x xs e.0 e.1))
      (λ p g. turns_hold k p.table p.done p.queue g.forth g.queue)

-- ---- the theorem

module _ (t : Table) (n places : ℕ) (l : n ≤ places) (r : RoomIn t places) (s : Shape (at t) n) where
  forward_holds : (departure : Float) → Holds (Good (at t) n places l) (forward t n departure)
  unfolding forward
  forward_holds departure =
      let some = s.some in
      let first : 0 < n = omega arith in
      let second : 1 < n = omega arith in
      let t1 = set_time t 0 departure in
      let f1 = forth_timed (at t) n places t (forth_itself t n places r s) 0 departure l first in
      let f2 = forth_timed (at t) n places t1 f1 1 departure l second in
      holds_if (Good (at t) n places l) (not (is_nan departure)) (turns n n (set_time t1 1 departure) first_two (record { time = departure; sub = of_bits binary64 0; node = 1 } ∷ []))
      (λ o. turns_hold (at t) n places l n (set_time t1 1 departure) first_two (record { time = departure; sub = of_bits binary64 0; node = 1 } ∷ []) f2 ((base_start (at t) n, second), tt))

  -- the forward pass keeps room, the shape, every frame, and each base's arc
  pub forward_keeps : (departure : Float) (p : Pass) → forward t n departure ≡ given p → Forth (at t) n places p.table
  forward_keeps departure p e = (holds_given (Good (at t) n places l) (forward t n departure) p (forward_holds departure) e).forth

  -- the list of arcs read off is the same
  pub forward_arcs : (departure : Float) (p : Pass) → forward t n departure ≡ given p → arcs_read (at p.table) n ≡ arcs_read (at t) n
  forward_arcs departure p e = let f = forward_keeps departure p e in read_same (at t) (at p.table) n f.frames f.arcs
