-- What a caller may know of a pass at work: what the slices tell of it, and what they hold after each way in which it goes on.
use mathlib.Core.Path.{◌≡◌, refl, sym, ap, ◌∙◌, subst}
use mathlib.Core.Bool.{Bool, false, ◌||◌}
use mathlib.Core.List.{List, [], ◌∷◌}
use Prim.Native.Nat.{ℕ, ◌+◌, ◌-◌, ◌≤◌, ◌<◌}
use native.Mathlib.Nat.{not-suc-le-zero, suc-ne-zero}
use native.Mathlib.Omega.{arith}
use lib.ListN.{length, get_or, set, length-set}
use lib.Seq.{get_or-set_other}
use lib.Ieee.{Float, is_nan}
use Rattle.std.specs.Prelude.{Option, Some, None}
use Rattle.net_node.specs.declared.EstTime.{EstTime}
use Rattle.net_node.specs.Table.{node_at, Table, at, set_time}
use Rattle.pass_queue.specs.declared.Entry.{Entry}
use Rattle.pass_queue.specs.Queue.{best, others, Each, Holds}
use Rattle.pass_queue.proofs.Kept.{each_kept, holds_none}
use Rattle.laws.specs.Answer.{Answer, given}
use Rattle.pass_rules.specs.Net.{Pass, also_done}
use Rattle.pass_rules.specs.Walks.{Linked, table_of, done_in}
use Rattle.pass_rules.specs.Backward.{queued}
use Rattle.pass_state.specs.Held.{PassSlices, slices, table_in, left, PassIn, Working, PassBy, PassAs, EnqueuedAs, Unbegun}
use Rattle.pass_state.proofs.Left.{left_most, left_kept, left_falls, flags_set}
use Rattle.pass_state.proofs.Links.{linked_time}

-- a pass with another table, with one more node done, with a node done at a time, and with another queue
abbrev pub tabled : Pass → Table → Pass
tabled p t = record { table = t; done = p.done; queue = p.queue }

abbrev pub flagged_at : Pass → ℕ → Pass
flagged_at p i = record { table = p.table; done = also_done p.done i; queue = p.queue }

abbrev pub done_at_of : Pass → ℕ → Float → Pass
done_at_of p i x = record { table = set_time p.table i x; done = also_done p.done i; queue = p.queue }

abbrev pub queueing : Pass → List Entry → Pass
queueing p es = record { table = p.table; done = p.done; queue = es }

module _ {backward : Bool} {n : ℕ} {held : PassSlices} {count most : ℕ} {begun : List ℕ} {p : Pass}
    (v : PassIn begun backward n held count most p) where
  pub works : Working backward n held count most
  works = record { pass = p; begun = begun; holds = v }

  pub in_more : (more : ℕ) → most ≤ more → PassIn begun backward n held count more p
  in_more more h = record {
    table = v.table;
    linked = v.linked;
    flags = v.flags;
    done = v.done;
    behind = v.behind;
    queue = v.queue;
    named = v.named;
    room = v.room;
    few = omega (arith, v.few);
  }

  -- ---- what the slices tell

  pub node_in : (i : ℕ) (x : EstTime) → x ≡ node_at held.floats held.numbers i → x ≡ at p.table i
  unfolding at
  node_in i x e = e ∙ ap (λ (t : Table). at t i) (sym v.table)

  pub done_in_lem : (i : ℕ) (r : Bool) → r ≡ done_in held.flags i → p.done i ≡ r
  done_in_lem i r e = ap (λ (f : ℕ → Bool). f i) v.done ∙ sym e

  pub linked_in : Linked p.table n
  linked_in = subst (λ (t : Table). Linked t n) (sym v.table) v.linked

  -- ---- the table

  pub in_table : (t : Table) (gs : List Float) (vs : List ℕ) → gs ≡ t.floats → vs ≡ t.numbers → Linked t n → PassIn begun backward n (slices gs vs held.flags held.times held.nodes) count most (tabled p t)
  unfolding at
  in_table t gs vs f u l =
      let e : t ≡ table_of gs vs = λ j. record { floats = sym f j; numbers = sym u j } in
      let l' : Linked (table_of gs vs) n = subst (λ (s : Table). Linked s n) e l in
      record {
        table = e;
        linked = l';
        flags = v.flags;
        done = v.done;
        behind = v.behind;
        queue = v.queue;
        named = v.named;
        room = v.room;
        few = v.few;
      }

  -- ---- a node done

  flagged_with : (i : ℕ) → i < n → (flags' : List ℕ) → flags' ≡ set held.flags i 1 → (less : ℕ) → count + left (also_done p.done i) n ≤ less
      → PassIn begun backward n (slices held.floats held.numbers flags' held.times held.nodes) count less (flagged_at p i)
  flagged_with i h flags' e less few =
      let within : i < length held.flags = omega (arith, v.flags) in
      record {
        table = v.table;
        linked = v.linked;
        flags = let l = ap length e ∙ length-set held.flags i 1 in omega (arith, v.flags);
        done = ap (λ (f : ℕ → Bool). also_done f i) v.done ∙ sym (flags_set held.flags i within) ∙ ap (λ (l : List ℕ). done_in l) (sym e);
        behind = λ k m. ap (λ (l : List ℕ). get_or l k 0) e ∙ get_or-set_other held.flags i k 1 0 (λ (o : k ≡ i). omega arith) ∙ v.behind k m;
        queue = v.queue;
        named = v.named;
        room = v.room;
        few = few;
      }

  in_flag : (i : ℕ) → i < n → (flags' : List ℕ) → flags' ≡ set held.flags i 1 → PassIn begun backward n (slices held.floats held.numbers flags' held.times held.nodes) count most (flagged_at p i)
  in_flag i h flags' e = flagged_with i h flags' e most (omega (arith, v.few, left_kept p.done i n))

  -- that was not done: one fewer is left
  pub in_flag_new : (i : ℕ) → i < n → (flags' : List ℕ) → flags' ≡ set held.flags i 1 → p.done i ≡ false → (less : ℕ) → most ≤ less + 1
      → PassIn begun backward n (slices held.floats held.numbers flags' held.times held.nodes) count less (flagged_at p i)
  in_flag_new i h flags' e d less l = flagged_with i h flags' e less (omega (arith, v.few, left_falls p.done i n h d))

  -- at a time
  module _ (i : ℕ) (h : i < n) (x : Float) (gs : List Float) (vs flags' : List ℕ) (e : (gs ≡ (set_time (table_in held) i x).floats) × ((vs ≡ (set_time (table_in held) i x).numbers) × (flags' ≡ set held.flags i 1))) where
    timed : PassIn begun backward n (slices gs vs held.flags held.times held.nodes) count most (tabled p (set_time p.table i x))
    timed =
        let f = e.0 ∙ ap (λ (t : Table). (set_time t i x).floats) (sym v.table) in
        let u = e.1.0 ∙ ap (λ (t : Table). (set_time t i x).numbers) (sym v.table) in
        in_table (set_time p.table i x) gs vs f u (linked_time p.table n linked_in i h x)

  -- ---- the queue

  in_queue : (e : Entry) → e.node < n → (ts' : List Float) (ns' : List ℕ) → Holds backward ts' ns' (count + 1) (e ∷ p.queue) → length held.times ≡ length ts' → length held.nodes ≡ length ns' → (more : ℕ) → most + 1 ≤ more
      → PassIn begun backward n (slices held.floats held.numbers held.flags ts' ns') (count + 1) more (queueing p (e ∷ p.queue))
  in_queue e h ts' ns' q lt ln more m = record {
    table = v.table;
    linked = v.linked;
    flags = v.flags;
    done = v.done;
    behind = v.behind;
    queue = q;
    named = (h, v.named);
    room = record { times = omega (arith, v.room.times); nodes = omega (arith, v.room.nodes) };
    few = omega (arith, v.few);
  }

  -- the list of a queue that has entries
  pub record Popped (r : Entry) (ts' : List Float) (ns' : List ℕ) (less : ℕ) : Type 0 where
    pub first : Entry
    pub rest : List Entry
    pub list : p.queue ≡ first ∷ rest
    pub taken : r ≡ best backward first rest
    pub within : r.node < n
    pub holds : PassIn begun backward n (slices held.floats held.numbers held.flags ts' ns') (count - 1) less (queueing p (others backward first rest))

  pub in_pop : 0 < count → (r : Entry) (ts' : List Float) (ns' : List ℕ)
      → ((x : Entry) (es : List Entry) → Holds backward held.times held.nodes count (x ∷ es) → (r ≡ best backward x es) × Holds backward ts' ns' (count - 1) (others backward x es))
      → length held.times ≡ length ts' → length held.nodes ≡ length ns' → (less : ℕ) → most ≤ less + 1 → Popped r ts' ns' less
  in_pop h r ts' ns' e lt ln less m = go p.queue refl
    where
      go : (es : List Entry) → p.queue ≡ es → Popped r ts' ns' less
      go [] q = let z : count ≡ 0 = v.queue.many ∙ ap length q in absurd (not-suc-le-zero (subst (λ (k : ℕ). 0 < k) z h))
      go (x ∷ xs) q =
          let t = e x xs (subst (Holds backward held.times held.nodes count) q v.queue) in
          let k = each_kept (λ e. e.node < n) backward x xs (subst (Each (λ e. e.node < n)) q v.named) in
          record {
            first = x;
            rest = xs;
            list = q;
            taken = t.0;
            within = subst (λ (y : Entry). y.node < n) (sym t.0) k.0;
            holds = record {
              table = v.table;
              linked = v.linked;
              flags = v.flags;
              done = v.done;
              behind = v.behind;
              queue = t.1;
              named = k.1;
              room = record { times = omega (arith, v.room.times); nodes = omega (arith, v.room.nodes) };
              few = omega (arith, v.few);
            };
          }

  pub none_queued : count ≡ 0 → p.queue ≡ []
  none_queued h = go p.queue (sym v.queue.many ∙ h)
    where
      go : (es : List Entry) → length es ≡ 0 → es ≡ []
      go [] e = refl
      go (x ∷ xs) e = absurd (suc-ne-zero (length xs) e)

-- a node done at a time
module _ {backward : Bool} {n : ℕ} {held : PassSlices} {count most : ℕ} {begun : List ℕ} {p : Pass}
    (v : PassIn begun backward n held count most p) (i : ℕ) (h : i < n) (x : Float) (gs : List Float) (vs flags' : List ℕ)
    (e : (gs ≡ (set_time (table_in held) i x).floats) × ((vs ≡ (set_time (table_in held) i x).numbers) × (flags' ≡ set held.flags i 1))) where
  pub in_done : PassIn begun backward n (slices gs vs flags' held.times held.nodes) count most (done_at_of p i x)
  in_done = in_flag (timed v i h x gs vs flags' e) i h flags' e.1.1

  pub in_done_new : p.done i ≡ false → (less : ℕ) → most ≤ less + 1 → PassIn begun backward n (slices gs vs flags' held.times held.nodes) count less (done_at_of p i x)
  in_done_new = in_flag_new (timed v i h x gs vs flags' e) i h flags' e.1.1

-- ---- the start: nothing is queued yet

pub in_start : (backward : Bool) (n : ℕ) (held : PassSlices) → Unbegun held n → PassIn held.flags backward n held 0 n (record { table = table_in held; done = done_in held.flags; queue = [] })
in_start backward n held u = record {
  table = refl;
  linked = u.linked;
  flags = u.flags;
  done = refl;
  behind = λ i h. refl;
  queue = holds_none backward held.times held.nodes;
  named = tt;
  room = u.room;
  few = omega (arith, left_most (done_in held.flags) n);
}

-- ---- answers

module _ {backward : Bool} {n : ℕ} {held : PassSlices} {count most : ℕ} {begun : List ℕ} {p : Pass}
    (v : PassIn begun backward n held count most p) where
  -- an entry queued
  pub queued_in : (e : Entry) → e.node < n → {ts' : List Float} {ns' : List ℕ} {k : ℕ} → EnqueuedAs backward held.times held.nodes ts' ns' count e (Some k) → length held.times ≡ length ts' → length held.nodes ≡ length ns'
      → (more : ℕ) → most + 1 ≤ more → PassIn begun backward n (slices held.floats held.numbers held.flags ts' ns') k more (queueing p (e ∷ p.queue))
  queued_in e h {ts'} {ns'} {k} q lt ln more m =
      let z : count + 1 ≡ k = sym q.told.1.0 in
      let w : Holds backward ts' ns' (count + 1) (e ∷ p.queue) = subst (λ (j : ℕ). Holds backward ts' ns' j (e ∷ p.queue)) (sym z) (q.told.1.1 p.queue v.queue) in
      subst (λ (j : ℕ). PassIn begun backward n (slices held.floats held.numbers held.flags ts' ns') j more (queueing p (e ∷ p.queue))) z (in_queue v e h ts' ns' w lt ln more m)

  pub enqueued_in : (e : Entry) → e.node < n → {ts' : List Float} {ns' : List ℕ} {r : Option ℕ} → EnqueuedAs backward held.times held.nodes ts' ns' count e r → length held.times ≡ length ts' → length held.nodes ≡ length ns'
      → (more : ℕ) → most + 1 ≤ more → (bound : ℕ) → left p.done n < bound → PassAs begun (queued (is_nan e.time || is_nan e.sub) p e) backward n (slices held.floats held.numbers held.flags ts' ns') more bound r
  enqueued_in e h {ts'} {ns'} {r} q lt ln more m bound b = record { told = go r q }
    where
      go : (r : Option ℕ) → EnqueuedAs backward held.times held.nodes ts' ns' count e r → PassBy begun (queued (is_nan e.time || is_nan e.sub) p e) backward n (slices held.floats held.numbers held.flags ts' ns') more bound r
      go (Some k) q = record { pass = queueing p (e ∷ p.queue); is = ap (λ (t : Bool). queued t p e) q.told.0; holds = queued_in e h q lt ln more m; fewer = b }
      go None q = ap (λ (t : Bool). queued t p e) q.told

  -- the pass as it is
  pub stays : (more : ℕ) → most ≤ more → (bound : ℕ) → left p.done n < bound → PassAs begun (given p) backward n held more bound (Some count)
  stays more m bound b = record { told = record { pass = p; is = refl; holds = in_more v more m; fewer = b } }

module _ {begun : List ℕ} {backward : Bool} {n : ℕ} {held : PassSlices} {most bound : ℕ} where
  -- an answer that is another
  pub pass_after : {a b : Answer Pass} {r : Option ℕ} (more : ℕ) → a ≡ b → bound ≤ more → PassAs begun b backward n held most bound r → PassAs begun a backward n held most more r
  pass_after {a} {b} {r} more e l g = record { told = go r g.told }
    where
      go : (r : Option ℕ) → PassBy begun b backward n held most bound r → PassBy begun a backward n held most more r
      go (Some k) g = record { pass = g.pass; is = e ∙ g.is; holds = g.holds; fewer = omega (arith, g.fewer) }
      go None g = e ∙ g
