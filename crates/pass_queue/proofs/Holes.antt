-- A heap with a hole, over any order that has two laws: how the hole moves up and down, and how it is filled. One record serves both.
use mathlib.Core.Path.{◌≡◌, refl, sym, ap, ◌∙◌, subst}
use mathlib.Core.Logic.{◌⊎◌, inl, inr, ◌≢◌}
use mathlib.Core.Bool.{Bool, true, false}
use Prim.Native.Nat.{ℕ, zero, suc, ◌+◌, ◌-◌, ◌*◌, ◌/◌, ◌≤◌, ◌<◌}
use native.Mathlib.Nat.{not-suc-le-zero}
use native.Mathlib.Numerals.{add-one}
use native.Mathlib.Omega.{arith}
use borrow.Author.Tests.{eqb-true, eqb-false}
use lib.Dec.{eqb}
use Rattle.pass_queue.proofs.Orders.{Laws, not_self}

either : (a b : ℕ) → (a ≡ b) ⊎ (a ≢ b)
either a b = go (eqb a b) refl
  where
    go : (t : Bool) → eqb a b ≡ t → (a ≡ b) ⊎ (a ≢ b)
    go true e = inl (eqb-true a b e)
    go false e = inr (eqb-false a b e)

-- ---- sums over the slots

-- of a number for each of the first n slots' entries
unfoldable pub total : {E : Type 0} → (E → ℕ) → (ℕ → E) → ℕ → ℕ
total w h zero = 0
total w h (suc n) = w (h n) + total w h n

pub total_one : {E : Type 0} (w : E → ℕ) (h : ℕ → E) (n : ℕ) → total w h (n + 1) ≡ w (h n) + total w h n
unfolding total
total_one w h n = ap (total w h) (add-one n)

module _ {E : Type 0} (w : E → ℕ) (h h' : ℕ → E) where
  pub total_same : (n : ℕ) → ((k : ℕ) → k < n → h' k ≡ h k) → total w h' n ≡ total w h n
  unfolding total
  total_same zero s = refl
  total_same (suc n) s =
      let a : w (h' n) ≡ w (h n) = ap w (s n (omega arith)) in
      let b : total w h' n ≡ total w h n = total_same n (λ k l. s k (omega arith)) in
      omega arith

  -- where one slot changed
  pub total_put : (n i : ℕ) → i < n → ((k : ℕ) → k ≢ i → h' k ≡ h k) → total w h' n + w (h i) ≡ total w h n + w (h' i)
  unfolding total
  total_put zero i l s = absurd (not-suc-le-zero l)
  total_put (suc n) i l s = go (either i n) (λ g. total_put n i g s)
    where
      go : (i ≡ n) ⊎ (i ≢ n) → (i < n → total w h' n + w (h i) ≡ total w h n + w (h' i)) → w (h' n) + total w h' n + w (h i) ≡ w (h n) + total w h n + w (h' i)
      go (inl e) ih =
          let a : total w h' n ≡ total w h n = total_same n (λ k g. s k (λ (o : k ≡ i). omega arith)) in
          let b : w (h i) ≡ w (h n) = ap (λ (k : ℕ). w (h k)) e in
          let c : w (h' i) ≡ w (h' n) = ap (λ (k : ℕ). w (h' k)) e in
          omega arith
      go (inr e) ih =
          let a : total w h' n + w (h i) ≡ total w h n + w (h' i) = ih (omega arith) in
          let b : w (h' n) ≡ w (h n) = ap w (s n (λ (o : n ≡ i). e (sym o))) in
          omega arith

-- an entry that counts as 1 is counted
pub total_at : {E : Type 0} (w : E → ℕ) (h : ℕ → E) (n i : ℕ) → i < n → w (h i) ≡ 1 → 0 < total w h n
unfolding total
total_at w h zero i l o = absurd (not-suc-le-zero l)
total_at w h (suc n) i l o = go (either i n) (λ g. total_at w h n i g o)
  where
    go : (i ≡ n) ⊎ (i ≢ n) → (i < n → 0 < total w h n) → 0 < w (h n) + total w h n
    go (inl e) ih =
        let a : w (h n) ≡ 1 = ap (λ (k : ℕ). w (h k)) (sym e) ∙ o in
        omega arith
    go (inr e) ih = omega (arith, ih (omega arith))

module _ {E : Type 0} (Ok : E → Type 0) (bef : E → E → Bool) (count : E → E → ℕ) where
  -- The first n slots are a heap of entries that are counted so often.
  pub record Heap (n : ℕ) (often : E → ℕ) (h : ℕ → E) : Type 0 where
    pub above : (p k : ℕ) → k < n → p * 2 < k → k ≤ p * 2 + 2 → bef (h k) (h p) ≡ false
    pub ok : (k : ℕ) → k < n → Ok (h k)
    pub same : (x : E) → total (count x) h n ≡ often x

  -- They are one but for slot i, which is not looked at: with e in place of its entry they are counted so often, and the slots below it may stand below the one above it.
  pub record Hole (n : ℕ) (often : E → ℕ) (e : E) (h : ℕ → E) (i : ℕ) : Type 0 where
    pub within : i < n
    pub entry : Ok e
    pub ok : (k : ℕ) → k < n → k ≢ i → Ok (h k)
    pub apart : (p k : ℕ) → k < n → p * 2 < k → k ≤ p * 2 + 2 → k ≢ i → p ≢ i → bef (h k) (h p) ≡ false
    pub across : (p k : ℕ) → k < n → p * 2 < i → i ≤ p * 2 + 2 → i * 2 < k → k ≤ i * 2 + 2 → bef (h k) (h p) ≡ false
    pub same : (x : E) → total (count x) h n + count x e ≡ often x + count x (h i)

  -- e may stand above the slots below the hole; e may stand below the slot above it
  abbrev pub Over : ℕ → E → (ℕ → E) → ℕ → Type 0
  Over n e h i = (k : ℕ) → k < n → i * 2 < k → k ≤ i * 2 + 2 → bef (h k) e ≡ false

  abbrev pub Under : E → (ℕ → E) → ℕ → Type 0
  Under e h i = (p : ℕ) → p * 2 < i → i ≤ p * 2 + 2 → bef e (h p) ≡ false

  at : {a b c d : E} → a ≡ c → b ≡ d → bef c d ≡ false → bef a b ≡ false
  at {a} {b} {c} {d} p q h = ap (λ (x : E). bef x b) p ∙ ap (bef c) q ∙ h

  module _ {n : ℕ} {often : E → ℕ} {e : E} {h : ℕ → E} {i : ℕ} (o : Laws Ok bef) (v : Hole n often e h i) where
    -- the hole filled
    pub filled : (h' : ℕ → E) → h' i ≡ e → ((k : ℕ) → k ≢ i → h' k ≡ h k) → Over n e h i → Under e h i → Heap n often h'
    filled h' put s over under = record { above = λ p k l a b. go p k l a b (either k i) (either p i); ok = λ k l. fine k l (either k i); same = sums }
      where
        here : (k : ℕ) → k ≡ i → h' k ≡ e
        here k q = ap h' q ∙ put

        go : (p k : ℕ) → k < n → p * 2 < k → k ≤ p * 2 + 2 → (k ≡ i) ⊎ (k ≢ i) → (p ≡ i) ⊎ (p ≢ i) → bef (h' k) (h' p) ≡ false
        go p k l a b (inl q) r = at (here k q) (s p (λ (c : p ≡ i). omega arith)) (under p (omega arith) (omega arith))
        go p k l a b (inr q) (inl r) = at (s k q) (here p r) (over k l (omega arith) (omega arith))
        go p k l a b (inr q) (inr r) = at (s k q) (s p r) (v.apart p k l a b q r)

        fine : (k : ℕ) → k < n → (k ≡ i) ⊎ (k ≢ i) → Ok (h' k)
        fine k l (inl q) = subst Ok (sym (here k q)) v.entry
        fine k l (inr q) = subst Ok (sym (s k q)) (v.ok k l q)

        sums : (x : E) → total (count x) h' n ≡ often x
        sums x =
            let a : total (count x) h' n + count x (h i) ≡ total (count x) h n + count x (h' i) = total_put (count x) h h' n i v.within s in
            let b : count x (h' i) ≡ count x e = ap (count x) put in
            let c : total (count x) h n + count x e ≡ often x + count x (h i) = v.same x in
            omega arith

    -- the entry of slot j moved into the hole
    module _ (h' : ℕ → E) (j : ℕ) (inside : j < n) (other : j ≢ i) (put : h' i ≡ h j) (s : (k : ℕ) → k ≢ i → h' k ≡ h k) where
      here : (k : ℕ) → k ≡ i → h' k ≡ h j
      here k q = ap h' q ∙ put

      moved_ok : (k : ℕ) → k < n → k ≢ j → Ok (h' k)
      moved_ok k l d = go (either k i)
        where
          go : (k ≡ i) ⊎ (k ≢ i) → Ok (h' k)
          go (inl q) = subst Ok (sym (here k q)) (v.ok j inside other)
          go (inr q) = subst Ok (sym (s k q)) (v.ok k l q)

      moved_same : (x : E) → total (count x) h' n + count x e ≡ often x + count x (h' j)
      moved_same x =
          let a : total (count x) h' n + count x (h i) ≡ total (count x) h n + count x (h' i) = total_put (count x) h h' n i v.within s in
          let b : count x (h' i) ≡ count x (h j) = ap (count x) put in
          let d : count x (h' j) ≡ count x (h j) = ap (count x) (s j other) in
          let c : total (count x) h n + count x e ≡ often x + count x (h i) = v.same x in
          omega arith

      -- up: slot j is above the hole
      module _ (l : j * 2 < i) (m : i ≤ j * 2 + 2) where
        near : (k : ℕ) → k < n → j * 2 < k → k ≤ j * 2 + 2 → k ≢ i → bef (h k) (h j) ≡ false
        near k g a b q = v.apart j k g a b q other

        pub up-hole : Hole n often e h' j
        up-hole = record { within = inside; entry = v.entry; ok = moved_ok; apart = λ p k g a b c d. apart p k g a b c d (either k i) (either p i); across = λ p k g a b c d. across p k g a b c d (either k i); same = moved_same }
          where
            apart : (p k : ℕ) → k < n → p * 2 < k → k ≤ p * 2 + 2 → k ≢ j → p ≢ j → (k ≡ i) ⊎ (k ≢ i) → (p ≡ i) ⊎ (p ≢ i) → bef (h' k) (h' p) ≡ false
            apart p k g a b c d (inl q) r = absurd (d (omega arith))
            apart p k g a b c d (inr q) (inl r) = at (s k q) (here p r) (v.across j k g l m (omega arith) (omega arith))
            apart p k g a b c d (inr q) (inr r) = at (s k q) (s p r) (v.apart p k g a b q r)

            across : (p k : ℕ) → k < n → p * 2 < j → j ≤ p * 2 + 2 → j * 2 < k → k ≤ j * 2 + 2 → (k ≡ i) ⊎ (k ≢ i) → bef (h' k) (h' p) ≡ false
            across p k g a b c d f =
                let x : p ≢ i = λ (z : p ≡ i). omega arith in
                let y : bef (h j) (h p) ≡ false = v.apart p j inside a b other x in
                step x y f
              where
                step : p ≢ i → bef (h j) (h p) ≡ false → (k ≡ i) ⊎ (k ≢ i) → bef (h' k) (h' p) ≡ false
                step x y (inl q) = at (here k q) (s p x) y
                step x y (inr q) = at (s k q) (s p x) (o.trans (h p) (h j) (h k) (v.ok p (omega arith) x) (v.ok j inside other) (v.ok k g q) y (near k g c d q))

        pub up-over : bef e (h j) ≡ true → Over n e h' j
        up-over t k g a b = go (either k i)
          where
            y : bef (h j) e ≡ false
            y = o.asym e (h j) t

            go : (k ≡ i) ⊎ (k ≢ i) → bef (h' k) e ≡ false
            go (inl q) = at (here k q) refl y
            go (inr q) = at (s k q) refl (o.trans e (h j) (h k) v.entry (v.ok j inside other) (v.ok k g q) y (near k g a b q))

      -- down: slot j is below the hole, and of those below it none is before it
      module _ (l : i * 2 < j) (m : j ≤ i * 2 + 2) where
        pub down-hole : ((k : ℕ) → k < n → i * 2 < k → k ≤ i * 2 + 2 → bef (h k) (h j) ≡ false) → Hole n often e h' j
        down-hole first = record { within = inside; entry = v.entry; ok = moved_ok; apart = λ p k g a b c d. apart p k g a b c d (either k i) (either p i); across = across; same = moved_same }
          where
            apart : (p k : ℕ) → k < n → p * 2 < k → k ≤ p * 2 + 2 → k ≢ j → p ≢ j → (k ≡ i) ⊎ (k ≢ i) → (p ≡ i) ⊎ (p ≢ i) → bef (h' k) (h' p) ≡ false
            apart p k g a b c d (inl q) r = at (here k q) (s p (λ (z : p ≡ i). omega arith)) (v.across p j inside (omega arith) (omega arith) l m)
            apart p k g a b c d (inr q) (inl r) = at (s k q) (here p r) (first k g (omega arith) (omega arith))
            apart p k g a b c d (inr q) (inr r) = at (s k q) (s p r) (v.apart p k g a b q r)

            across : (p k : ℕ) → k < n → p * 2 < j → j ≤ p * 2 + 2 → j * 2 < k → k ≤ j * 2 + 2 → bef (h' k) (h' p) ≡ false
            across p k g a b c d = at (s k (λ (z : k ≡ i). omega arith)) (here p (omega arith)) (v.apart j k g c d (λ (z : k ≡ i). omega arith) other)

        pub down-under : bef (h j) e ≡ true → Under e h' j
        down-under t p a b = at refl (here p (omega arith)) (o.asym (h j) e t)

    -- where the best of the slots below the hole is not before e, none is
    pub over_best : (j : ℕ) → j < n → i * 2 < j → bef (h j) e ≡ false → ((k : ℕ) → k < n → i * 2 < k → k ≤ i * 2 + 2 → bef (h k) (h j) ≡ false) → Over n e h i
    over_best j inside l t first k g a b =
        o.trans e (h j) (h k) v.entry (v.ok j inside (λ (z : j ≡ i). omega arith)) (v.ok k g (λ (z : k ≡ i). omega arith)) t (first k g a b)

  -- no slot is before the top
  pub top_first : {n : ℕ} {often : E → ℕ} {h : ℕ → E} → Laws Ok bef → Heap n often h → (f k : ℕ) → k < f → k < n → bef (h k) (h 0) ≡ false
  top_first o v zero k l g = absurd (not-suc-le-zero l)
  top_first {n} {often} {h} o v (suc f) k l g = go (either k 0) (λ p a b. top_first o v f p a b)
    where
      go : (k ≡ 0) ⊎ (k ≢ 0) → ((p : ℕ) → p < f → p < n → bef (h p) (h 0) ≡ false) → bef (h k) (h 0) ≡ false
      go (inl q) ih = at (ap h q) refl (not_self o (h 0))
      go (inr q) ih =
          let p = (k - 1) / 2 in
          let c : p * 2 < k = omega arith in
          let d : k ≤ p * 2 + 2 = omega arith in
          o.trans (h 0) (h p) (h k) (v.ok 0 (omega arith)) (v.ok p (omega arith)) (v.ok k g) (ih p (omega arith) (omega arith)) (v.above p k g c d)
