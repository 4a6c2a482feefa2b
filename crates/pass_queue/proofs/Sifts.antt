-- The two sifts: what their loops keep, how they begin, and each way a turn can end.
use mathlib.Core.Path.{◌≡◌, refl, sym, ap, ◌∙◌, subst}
use mathlib.Core.Logic.{◌≢◌}
use mathlib.Core.Bool.{Bool, true, false}
use mathlib.Core.List.{List, [], ◌∷◌}
use Prim.Native.Nat.{ℕ, ◌+◌, ◌-◌, ◌*◌, ◌/◌, ◌≤◌, ◌<◌}
use native.Mathlib.Omega.{arith}
use lib.ListN.{length}
use lib.Ieee.{Float}
use Rattle.pass_queue.specs.declared.Entry.{Entry}
use Rattle.pass_queue.specs.Queue.{before, Ordered, best, others, slot, HeapRoom, times_in, Holds}
use Rattle.pass_queue.specs.Slots.{put_times, put_nodes, BestChild}
use Rattle.pass_queue.proofs.Orders.{before_laws}
use Rattle.pass_queue.proofs.Kept.{each_kept, length_others, holds_none}
use Rattle.pass_queue.proofs.Lists.{others_count}
use Rattle.pass_queue.proofs.Holes.{total, total_one, Hole, Over, Under, filled, up-hole, up-over, down-hole, down-under, over_best}
use Rattle.pass_queue.proofs.Slots.{length_put_times, length_put_nodes, put_here, put_other, counted, held_heap, heap_held, top_best}

-- a hole at i among the first n slots, for e and this list
abbrev pub HoleOf : Bool → ℕ → List Entry → Entry → List Float → List ℕ → ℕ → Type 0
HoleOf backward n es e ts ns i = Hole Ordered (before backward) counted n (λ x. times_in x es) e (slot ts ns) i

abbrev pub Rises : Bool → ℕ → List Entry → Entry → List Float → List ℕ → ℕ → Type 0
Rises backward n es e ts ns i = HoleOf backward n es e ts ns i × Over Ordered (before backward) counted n e (slot ts ns) i

abbrev pub Sinks : Bool → ℕ → List Entry → Entry → List Float → List ℕ → ℕ → Type 0
Sinks backward n es e ts ns i = HoleOf backward n es e ts ns i × Under Ordered (before backward) counted e (slot ts ns) i

-- an entry written into slot i
module _ (ts : List Float) (ns : List ℕ) (i : ℕ) (x : Entry) (inside : i * 2 + 2 ≤ length ts) (named : i < length ns) (ts' : List Float) (ns' : List ℕ) (f : ts' ≡ put_times ts i x) (g : ns' ≡ put_nodes ns i x) where
  written : slot ts' ns' i ≡ x
  written = ap (λ (l : List Float). slot l ns' i) f ∙ ap (λ (l : List ℕ). slot (put_times ts i x) l i) g ∙ put_here ts ns i x inside named

  kept : (k : ℕ) → k ≢ i → slot ts' ns' k ≡ slot ts ns k
  kept k d = ap (λ (l : List Float). slot l ns' k) f ∙ ap (λ (l : List ℕ). slot (put_times ts i x) l k) g ∙ put_other ts ns i x k d

  same_times : (n : ℕ) → length ts ≡ n → length ts' ≡ n
  same_times n e = ap length f ∙ length_put_times ts ns i x ∙ e

  same_nodes : (n : ℕ) → length ns ≡ n → length ns' ≡ n
  same_nodes n e = ap length g ∙ length_put_nodes ts ns i x ∙ e

-- ---- up

-- The hole is at slot i of n + 1. Whatever list the heap held, with e put there the slots hold that list and e, and e may stand above what is below the hole.
pub record Rising (backward : Bool) (ts₀ : List Float) (ns₀ : List ℕ) (n : ℕ) (e : Entry) (ts : List Float) (ns : List ℕ) (i : ℕ) : Type 0 where
  pub within : i ≤ n
  pub times : length ts ≡ length ts₀
  pub nodes : length ns ≡ length ns₀
  pub held : (es : List Entry) → Holds backward ts₀ ns₀ n es → Rises backward (n + 1) (e ∷ es) e ts ns i

module _ (backward : Bool) (ts₀ : List Float) (ns₀ : List ℕ) (n : ℕ) (e : Entry) where
  pub rising_start : Ordered e → Rising backward ts₀ ns₀ n e ts₀ ns₀ n
  unfolding times_in
  rising_start o = record {
    within = omega arith;
    times = refl;
    nodes = refl;
    held = λ es v. (
      record {
        within = omega arith;
        entry = o;
        ok = λ k l d. v.ordered k (omega arith);
        apart = λ p k l a b c d. v.above p k (omega arith) a b;
        across = λ p k l a b c d. absurd (omega arith);
        same = λ x. sums es v x;
      },
      λ k l a b. absurd (omega arith),
    );
  }
    where
      sums : (es : List Entry) → Holds backward ts₀ ns₀ n es → (x : Entry) → total (counted x) (slot ts₀ ns₀) (n + 1) + counted x e ≡ times_in x (e ∷ es) + counted x (slot ts₀ ns₀ n)
      sums es v x =
          let s : total (counted x) (slot ts₀ ns₀) n ≡ times_in x es = (held_heap backward ts₀ ns₀ n es v).same x in
          omega (arith, total_one (counted x) (slot ts₀ ns₀) n)

  module _ {ts : List Float} {ns : List ℕ} {i : ℕ} (v : Rising backward ts₀ ns₀ n e ts ns i) (room : HeapRoom ts₀ ns₀ (n + 1)) where
    -- e is put where the hole is
    pub rising_put : Under Ordered (before backward) counted e (slot ts ns) i → (es : List Entry) → Holds backward ts₀ ns₀ n es → Holds backward (put_times ts i e) (put_nodes ns i e) (n + 1) (e ∷ es)
    rising_put under es w =
        let r = v.held es w in
        let l : i ≤ n = v.within in
        heap_held backward (put_times ts i e) (put_nodes ns i e) (n + 1) (e ∷ es)
        (filled Ordered (before backward) counted (before_laws backward) r.0 (slot (put_times ts i e) (put_nodes ns i e)) (put_here ts ns i e (omega (arith, v.times, room.times)) (omega (arith, v.nodes, room.nodes))) (put_other ts ns i e) r.1 under)
        (r.0.entry, w.listed) (omega (arith, w.many))

    pub rising_top : i ≤ 0 → (es : List Entry) → Holds backward ts₀ ns₀ n es → Holds backward (put_times ts i e) (put_nodes ns i e) (n + 1) (e ∷ es)
    rising_top z = rising_put (λ p a b. absurd (omega arith))

    -- p is the slot above the hole, and x its entry
    module _ (some : 0 < i) (p : ℕ) (is : p ≡ (i - 1) / 2) (x : Entry) (loaded : x ≡ slot ts ns p) where
      over : p * 2 < i
      over = omega arith

      under : i ≤ p * 2 + 2
      under = omega arith

      pub rising_stop : before backward e x ≡ false → (es : List Entry) → Holds backward ts₀ ns₀ n es → Holds backward (put_times ts i e) (put_nodes ns i e) (n + 1) (e ∷ es)
      rising_stop h = rising_put (λ q a b. let s : q ≡ p = omega (arith, over, under) in ap (λ (k : ℕ). before backward e (slot ts ns k)) s ∙ ap (before backward e) (sym loaded) ∙ h)

      pub rising_on : before backward e x ≡ true → (ts' : List Float) (ns' : List ℕ) → ts' ≡ put_times ts i x → ns' ≡ put_nodes ns i x → Rising backward ts₀ ns₀ n e ts' ns' p
      rising_on h ts' ns' f g =
          let l : i ≤ n = v.within in
          let a : i * 2 + 2 ≤ length ts = omega (arith, v.times, room.times) in
          let b : i < length ns = omega (arith, v.nodes, room.nodes) in
          let c : p < n + 1 = omega (arith, over) in
          let d : p ≢ i = λ (z : p ≡ i). omega (arith, over) in
          let put : slot ts' ns' i ≡ slot ts ns p = written ts ns i x a b ts' ns' f g ∙ loaded in
          let same = kept ts ns i x a b ts' ns' f g in
          record {
            within = omega (arith, over);
            times = same_times ts ns i x a b ts' ns' f g (length ts₀) v.times;
            nodes = same_nodes ts ns i x a b ts' ns' f g (length ns₀) v.nodes;
            held = λ es w.
                let r = v.held es w in (
                  up-hole Ordered (before backward) counted (before_laws backward) r.0 (slot ts' ns') p c d put same over under,
                  up-over Ordered (before backward) counted (before_laws backward) r.0 (slot ts' ns') p c d put same over under (ap (before backward e) (sym loaded) ∙ h),
                );
          }

-- ---- down

-- The hole is at slot i of n. Whatever list the heap held, with e put there the slots hold what is left of it, and e may stand below what is above the hole.
pub record Sinking (backward : Bool) (ts₀ : List Float) (ns₀ : List ℕ) (n : ℕ) (e : Entry) (ts : List Float) (ns : List ℕ) (i : ℕ) : Type 0 where
  pub within : i < n
  pub times : length ts ≡ length ts₀
  pub nodes : length ns ≡ length ns₀
  pub held : (x : Entry) (es : List Entry) → Holds backward ts₀ ns₀ (n + 1) (x ∷ es) → Sinks backward n (others backward x es) e ts ns i

module _ (backward : Bool) (ts₀ : List Float) (ns₀ : List ℕ) (n : ℕ) (e : Entry) where
  pub sinking_start : 0 < n → e ≡ slot ts₀ ns₀ n → Sinking backward ts₀ ns₀ n e ts₀ ns₀ 0
  sinking_start o l = record {
    within = o;
    times = refl;
    nodes = refl;
    held = λ x es v. (
      record {
        within = o;
        entry = subst Ordered (sym l) (v.ordered n (omega arith));
        ok = λ k g d. v.ordered k (omega arith);
        apart = λ p k g a b c d. v.above p k (omega arith) a b;
        across = λ p k g a b c d. absurd (omega arith);
        same = λ y. sums x es v y;
      },
      λ p a b. absurd (omega arith),
    );
  }
    where
      sums : (x : Entry) (es : List Entry) → Holds backward ts₀ ns₀ (n + 1) (x ∷ es) → (y : Entry)
          → total (counted y) (slot ts₀ ns₀) n + counted y e ≡ times_in y (others backward x es) + counted y (slot ts₀ ns₀ 0)
      sums x es v y =
          let s : total (counted y) (slot ts₀ ns₀) (n + 1) ≡ times_in y (x ∷ es) = (held_heap backward ts₀ ns₀ (n + 1) (x ∷ es) v).same y in
          let t : times_in y (others backward x es) + counted y (best backward x es) ≡ times_in y (x ∷ es) = others_count y backward x es in
          let b : counted y (slot ts₀ ns₀ 0) ≡ counted y (best backward x es) = ap (counted y) (top_best backward ts₀ ns₀ (n + 1) x es v (omega arith)) in
          let c : counted y e ≡ counted y (slot ts₀ ns₀ n) = ap (counted y) l in
          omega (arith, total_one (counted y) (slot ts₀ ns₀) n)

  module _ {ts : List Float} {ns : List ℕ} {i : ℕ} (v : Sinking backward ts₀ ns₀ n e ts ns i) (room : HeapRoom ts₀ ns₀ (n + 1)) where
    abbrev Done : Type 0
    Done = (x : Entry) (es : List Entry) → Holds backward ts₀ ns₀ (n + 1) (x ∷ es) → Holds backward (put_times ts i e) (put_nodes ns i e) n (others backward x es)

    sinking_put : ((x : Entry) (es : List Entry) → Holds backward ts₀ ns₀ (n + 1) (x ∷ es) → Over Ordered (before backward) counted n e (slot ts ns) i) → Done
    sinking_put over x es w =
        let r = v.held x es w in
        let l : i < n = v.within in
        heap_held backward (put_times ts i e) (put_nodes ns i e) n (others backward x es)
        (filled Ordered (before backward) counted (before_laws backward) r.0 (slot (put_times ts i e) (put_nodes ns i e)) (put_here ts ns i e (omega (arith, v.times, room.times)) (omega (arith, v.nodes, room.nodes))) (put_other ts ns i e) (over x es w) r.1)
        (each_kept Ordered backward x es w.listed).1 (omega (arith, w.many, length_others backward x es))

    pub sinking_end : n / 2 ≤ i → Done
    sinking_end z = sinking_put (λ x es w k l a b. absurd (omega arith))

    -- the best of the slots below the hole, and its entry
    module _ (k : ℕ) (c : BestChild backward ts ns n i k) (x : Entry) (loaded : x ≡ slot ts ns k) where
      pub sinking_stop : before backward x e ≡ false → Done
      sinking_stop h = sinking_put (λ y es w. over_best Ordered (before backward) counted (before_laws backward) (v.held y es w).0 k c.within c.least (ap (λ (z : Entry). before backward z e) (sym loaded) ∙ h) c.first)

      pub sinking_on : before backward x e ≡ true → (ts' : List Float) (ns' : List ℕ) → ts' ≡ put_times ts i x → ns' ≡ put_nodes ns i x → Sinking backward ts₀ ns₀ n e ts' ns' k
      sinking_on h ts' ns' f g =
          let l : i < n = v.within in
          let a : i * 2 + 2 ≤ length ts = omega (arith, v.times, room.times) in
          let b : i < length ns = omega (arith, v.nodes, room.nodes) in
          let d : k ≢ i = λ (z : k ≡ i). omega (arith, c.least) in
          let put : slot ts' ns' i ≡ slot ts ns k = written ts ns i x a b ts' ns' f g ∙ loaded in
          let same = kept ts ns i x a b ts' ns' f g in
          record {
            within = c.within;
            times = same_times ts ns i x a b ts' ns' f g (length ts₀) v.times;
            nodes = same_nodes ts ns i x a b ts' ns' f g (length ns₀) v.nodes;
            held = λ y es w.
                let r = v.held y es w in (
                  down-hole Ordered (before backward) counted (before_laws backward) r.0 (slot ts' ns') k c.within d put same c.least c.most c.first,
                  down-under Ordered (before backward) counted (before_laws backward) r.0 (slot ts' ns') k c.within d put same c.least c.most (ap (λ (z : Entry). before backward z e) (sym loaded) ∙ h),
                );
          }

-- ---- push and pop

-- an entry put into the hole
pub stored : (backward : Bool) (ts : List Float) (ns : List ℕ) (n i : ℕ) (e : Entry) (es : List Entry) (ts' : List Float) (ns' : List ℕ)
    → Holds backward (put_times ts i e) (put_nodes ns i e) n es → ts' ≡ put_times ts i e → ns' ≡ put_nodes ns i e → Holds backward ts' ns' n es
stored backward ts ns n i e es ts' ns' v f g =
    subst (λ (l : List Float). Holds backward l ns' n es) (sym f) (subst (λ (l : List ℕ). Holds backward (put_times ts i e) l n es) (sym g) v)

module _ (backward : Bool) (ts : List Float) (ns : List ℕ) (n : ℕ) (t : Entry) (loaded : t ≡ slot ts ns 0) (some : 0 < n) where
  -- the only entry
  pub popped_only : n - 1 ≡ 0 → (x : Entry) (es : List Entry) → Holds backward ts ns n (x ∷ es) → (t ≡ best backward x es) × Holds backward ts ns (n - 1) (others backward x es)
  unfolding others
  popped_only z x [] v = (loaded ∙ top_best backward ts ns n x [] v some, subst (λ (k : ℕ). Holds backward ts ns k []) (sym z) (holds_none backward ts ns))
  popped_only z x (y ∷ ys) v = absurd (omega (arith, v.many))

  -- one of several
  pub popped : (e : Entry) (i : ℕ) (ts₁ ts₂ : List Float) (ns₁ ns₂ : List ℕ)
      → ((x : Entry) (es : List Entry) → Holds backward ts ns (n - 1 + 1) (x ∷ es) → Holds backward (put_times ts₁ i e) (put_nodes ns₁ i e) (n - 1) (others backward x es))
      → ts₂ ≡ put_times ts₁ i e → ns₂ ≡ put_nodes ns₁ i e
      → (x : Entry) (es : List Entry) → Holds backward ts ns n (x ∷ es) → (t ≡ best backward x es) × Holds backward ts₂ ns₂ (n - 1) (others backward x es)
  popped e i ts₁ ts₂ ns₁ ns₂ sunk f g x es v =
      let s : n ≡ n - 1 + 1 = omega arith in (
        loaded ∙ top_best backward ts ns n x es v some,
        stored backward ts₁ ns₁ (n - 1) i e (others backward x es) ts₂ ns₂ (sunk x es (subst (λ (k : ℕ). Holds backward ts ns k (x ∷ es)) s v)) f g,
      )
