-- The heap in lent slices as a function from slot to entry: a slot written, how often an entry is counted, and that the top is the best of the list.
use mathlib.Core.Path.{◌≡◌, refl, sym, ap, ◌∙◌, subst}
use mathlib.Core.Logic.{◌≢◌}
use mathlib.Core.Bool.{Bool, false}
use mathlib.Core.List.{List, ◌∷◌}
use Prim.Native.Nat.{ℕ, zero, suc, ◌+◌, ◌*◌, ◌≤◌, ◌<◌}
use native.Mathlib.Omega.{arith}
use lib.ListN.{length, get_or, set, length-set}
use lib.Seq.{get_or-set_same, get_or-set_other}
use lib.Ieee.{Float, nan}
use Rattle.pass_queue.specs.declared.Entry.{Entry}
use Rattle.pass_queue.specs.Queue.{before, Ordered, best, slot, same_entry, one, times_in, slots, Each, Holds}
use Rattle.pass_queue.specs.Slots.{put_times, put_nodes}
use Rattle.pass_queue.proofs.Orders.{before_laws, same_self}
use Rattle.pass_queue.proofs.Kept.{each_kept}
use Rattle.pass_queue.proofs.Lists.{each_at, best_in, best_only}
use Rattle.pass_queue.proofs.Holes.{total, total_at, Heap, top_first}

-- ---- a slot written

module _ (ts : List Float) (ns : List ℕ) (i : ℕ) (e : Entry) where
  pub length_put_times : length (put_times ts i e) ≡ length ts
  unfolding put_times
  length_put_times = length-set (set ts (i * 2) e.time) (i * 2 + 1) e.sub ∙ length-set ts (i * 2) e.time

  pub length_put_nodes : length (put_nodes ns i e) ≡ length ns
  unfolding put_nodes
  length_put_nodes = length-set ns i e.node

  pub put_here : i * 2 + 2 ≤ length ts → i < length ns → slot (put_times ts i e) (put_nodes ns i e) i ≡ e
  unfolding slot put_times put_nodes
  put_here h g =
      let time : get_or (set (set ts (i * 2) e.time) (i * 2 + 1) e.sub) (i * 2) nan ≡ e.time =
      get_or-set_other (set ts (i * 2) e.time) (i * 2 + 1) (i * 2) e.sub nan (λ (o : i * 2 ≡ i * 2 + 1). omega arith)
      ∙ get_or-set_same ts (i * 2) e.time nan (omega arith) in
      let sub : get_or (set (set ts (i * 2) e.time) (i * 2 + 1) e.sub) (i * 2 + 1) nan ≡ e.sub =
      get_or-set_same (set ts (i * 2) e.time) (i * 2 + 1) e.sub nan (omega (arith, length-set ts (i * 2) e.time)) in
      let node : get_or (set ns i e.node) i 0 ≡ e.node = get_or-set_same ns i e.node 0 g in
      λ t. record { time = time t; sub = sub t; node = node t }

  pub put_other : (k : ℕ) → k ≢ i → slot (put_times ts i e) (put_nodes ns i e) k ≡ slot ts ns k
  unfolding slot put_times put_nodes
  put_other k d =
      let kept : (j : ℕ) → j ≢ i * 2 → j ≢ i * 2 + 1 → get_or (set (set ts (i * 2) e.time) (i * 2 + 1) e.sub) j nan ≡ get_or ts j nan =
      λ j f g. get_or-set_other (set ts (i * 2) e.time) (i * 2 + 1) j e.sub nan g ∙ get_or-set_other ts (i * 2) j e.time nan f in
      let time : get_or (set (set ts (i * 2) e.time) (i * 2 + 1) e.sub) (k * 2) nan ≡ get_or ts (k * 2) nan =
      kept (k * 2) (λ (o : k * 2 ≡ i * 2). d (omega arith)) (λ (o : k * 2 ≡ i * 2 + 1). omega arith) in
      let sub : get_or (set (set ts (i * 2) e.time) (i * 2 + 1) e.sub) (k * 2 + 1) nan ≡ get_or ts (k * 2 + 1) nan =
      kept (k * 2 + 1) (λ (o : k * 2 + 1 ≡ i * 2). omega arith) (λ (o : k * 2 + 1 ≡ i * 2 + 1). d (omega arith)) in
      let node : get_or (set ns i e.node) k 0 ≡ get_or ns k 0 = get_or-set_other ns i k e.node 0 d in
      λ t. record { time = time t; sub = sub t; node = node t }

-- ---- the list that is held

-- 1 for an entry of the same bits
abbrev pub counted : Entry → Entry → ℕ
counted x y = one (same_entry x y)

pub slots_total : (x : Entry) (ts : List Float) (ns : List ℕ) (n : ℕ) → times_in x (slots ts ns n) ≡ total (counted x) (slot ts ns) n
unfolding times_in slots total
slots_total x ts ns zero = refl
slots_total x ts ns (suc n) = ap (λ (k : ℕ). counted x (slot ts ns n) + k) (slots_total x ts ns n)

slots_each : (P : Entry → Type 0) (ts : List Float) (ns : List ℕ) (n : ℕ) → ((k : ℕ) → k < n → P (slot ts ns k)) → Each P (slots ts ns n)
unfolding slots
slots_each P ts ns zero f = tt
slots_each P ts ns (suc n) f = (f n (omega arith), slots_each P ts ns n (λ k l. f k (omega arith)))

abbrev pub HeapOf : Bool → ℕ → (Entry → ℕ) → (ℕ → Entry) → Type 0
HeapOf backward = Heap Ordered (before backward) counted

module _ (backward : Bool) (ts : List Float) (ns : List ℕ) (n : ℕ) (es : List Entry) where
  pub held_heap : Holds backward ts ns n es → HeapOf backward n (λ x. times_in x es) (slot ts ns)
  held_heap v = record { above = v.above; ok = v.ordered; same = λ x. sym (slots_total x ts ns n) ∙ v.same x }

  pub heap_held : HeapOf backward n (λ x. times_in x es) (slot ts ns) → Each Ordered es → n ≡ length es → Holds backward ts ns n es
  heap_held v l m = record { above = v.above; ordered = v.ok; listed = l; many = m; same = λ x. slots_total x ts ns n ∙ v.same x }

-- The top of a heap is the best of the list that it holds
pub top_best : (backward : Bool) (ts : List Float) (ns : List ℕ) (n : ℕ) (x : Entry) (es : List Entry) → Holds backward ts ns n (x ∷ es) → 0 < n → slot ts ns 0 ≡ best backward x es
top_best backward ts ns n x es v h =
    let t = slot ts ns 0 in
    let b = best backward x es in
    let o = (each_kept Ordered backward x es v.listed).0 in
    let f : (k : ℕ) → k < n → before backward (slot ts ns k) t ≡ false = λ k l. top_first Ordered (before backward) counted (before_laws backward) (held_heap backward ts ns n (x ∷ es) v) (suc k) k (omega arith) l in
    let i : 0 < times_in t (x ∷ es) =
    subst (λ (k : ℕ). 0 < k) (sym (slots_total t ts ns n) ∙ v.same t) (total_at (counted t) (slot ts ns) n 0 h (ap one (same_self t))) in
    let j : 0 < times_in b (slots ts ns n) = subst (λ (k : ℕ). 0 < k) (sym (v.same b)) (best_in backward x es) in
    best_only backward x es t v.listed (v.ordered 0 h) i
    (each_at (λ y. before backward y t ≡ false) b (slots ts ns n) o (slots_each Ordered ts ns n v.ordered) (slots_each (λ y. before backward y t ≡ false) ts ns n f) j)
