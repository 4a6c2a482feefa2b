-- Laws of the list: how often an entry is left, that the best is before all others, and that no other entry is.
use mathlib.Core.Path.{◌≡◌, refl, sym, ap, subst}
use mathlib.Core.Bool.{Bool, true, false, cond}
use mathlib.Core.List.{List, [], ◌∷◌}
use Prim.Native.Nat.{ℕ, ◌+◌, ◌<◌}
use native.Mathlib.Nat.{not-suc-le-zero}
use native.Mathlib.Omega.{arith}
use Rattle.pass_queue.specs.declared.Entry.{Entry}
use Rattle.pass_queue.specs.Queue.{before, Ordered, better, best, others, same_entry, one, times_in, Each}
use Rattle.pass_queue.proofs.Kept.{each_kept}
use Rattle.pass_queue.proofs.Orders.{not_self, before_laws, before_total, same_equal, same_self}

-- Each entry is as often left, the best being counted with them, as in the list
pub others_count : (e : Entry) (backward : Bool) (x : Entry) (es : List Entry) → times_in e (others backward x es) + one (same_entry e (best backward x es)) ≡ times_in e (x ∷ es)
unfolding best others times_in
others_count e backward x [] = omega arith
others_count e backward x (y ∷ ys) = go (before backward y x) _ _ (others_count e backward (better backward x y) ys)
  where
    go : (t : Bool) (s k : ℕ) → s + k ≡ one (same_entry e (cond t y x)) + times_in e ys → one (same_entry e (cond t x y)) + s + k ≡ one (same_entry e x) + (one (same_entry e y) + times_in e ys)
    go true s k ih = omega (arith, ih)
    go false s k ih = omega (arith, ih)

-- No entry of the list is before the best
pub best_first : (backward : Bool) (x : Entry) (es : List Entry) → Each Ordered (x ∷ es) → Each (λ y. before backward y (best backward x es) ≡ false) (x ∷ es)
unfolding best
best_first backward x [] p = (not_self (before_laws backward) x, tt)
best_first backward x (y ∷ ys) p = go (before backward y x) refl (best_first backward (better backward x y) ys)
  where
    go : (t : Bool) → before backward y x ≡ t
        → (Each Ordered (cond t y x ∷ ys) → Each (λ z. before backward z (best backward (cond t y x) ys) ≡ false) (cond t y x ∷ ys))
        → Each (λ z. before backward z (best backward (cond t y x) ys) ≡ false) (x ∷ y ∷ ys)
    go true e ih =
        let q : Each Ordered (y ∷ ys) = p.1 in
        let r = ih q in
        let o = (each_kept Ordered backward y ys q).0 in
        ((before_laws backward).trans (best backward y ys) y x o p.1.0 p.0 r.0 ((before_laws backward).asym y x e), r)
    go false e ih =
        let q : Each Ordered (x ∷ ys) = (p.0, p.1.1) in
        let r = ih q in
        let o = (each_kept Ordered backward x ys q).0 in
        (r.0, ((before_laws backward).trans (best backward x ys) x y o p.0 p.1.0 r.0 e, r.1))

-- What holds of each entry holds of one that is in the list
pub each_at : (P : Entry → Type 0) (e : Entry) (es : List Entry) → Ordered e → Each Ordered es → Each P es → 0 < times_in e es → P e
unfolding times_in
each_at P e [] o os ps h = absurd (not-suc-le-zero h)
each_at P e (x ∷ xs) o os ps h = go (same_entry e x) refl h (each_at P e xs o os.1 ps.1)
  where
    go : (t : Bool) → same_entry e x ≡ t → 0 < one t + times_in e xs → (0 < times_in e xs → P e) → P e
    go true s i rest = subst P (sym (same_equal e x o os.0 s)) ps.0
    go false s i rest = rest (omega (arith, i))

one_self : (e : Entry) → one (same_entry e e) ≡ 1
one_self e = ap one (same_self e)

pub best_in : (backward : Bool) (x : Entry) (es : List Entry) → 0 < times_in (best backward x es) (x ∷ es)
best_in backward x es =
    let b = best backward x es in
    let p : times_in b (others backward x es) + one (same_entry b b) ≡ times_in b (x ∷ es) = others_count b backward x es in
    let q : one (same_entry b b) ≡ 1 = one_self b in
    omega arith

-- An entry of the list that the best is not before is the best
pub best_only : (backward : Bool) (x : Entry) (es : List Entry) (t : Entry) → Each Ordered (x ∷ es) → Ordered t → 0 < times_in t (x ∷ es) → before backward (best backward x es) t ≡ false → t ≡ best backward x es
best_only backward x es t p o i h =
    before_total t (best backward x es) o (each_kept Ordered backward x es p).0 backward
    (each_at (λ y. before backward y (best backward x es) ≡ false) t (x ∷ es) o p (best_first backward x es p) i) h
