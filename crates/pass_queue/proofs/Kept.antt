-- What a caller may know of the queue's list: what is left and the best are entries of it, one fewer are left, and an empty heap holds the empty list.
-- That push and pop keep the slices' lengths is told by the checker at each call.
use mathlib.Core.Path.{◌≡◌, refl, ap}
use mathlib.Core.Bool.{Bool, true, false, cond}
use mathlib.Core.List.{List, [], ◌∷◌}
use Prim.Native.Nat.{ℕ, suc}
use native.Mathlib.Nat.{not-suc-le-zero}
use lib.ListN.{length}
use lib.Ieee.{Float}
use Rattle.pass_queue.specs.declared.Entry.{Entry}
use Rattle.pass_queue.specs.Queue.{before, better, best, others, times_in, slots, Each, Holds}

choose : (P : Entry → Type 0) (x y : Entry) (t : Bool) → P x → P y → P (cond t x y)
choose P x y true p q = p
choose P x y false p q = q

-- What holds of each entry holds of the best and of each that is left
pub each_kept : (P : Entry → Type 0) (backward : Bool) (x : Entry) (es : List Entry) → Each P (x ∷ es) → P (best backward x es) × Each P (others backward x es)
unfolding best others
each_kept P backward x [] p = (p.0, tt)
each_kept P backward x (y ∷ ys) p =
    let t = before backward y x in
    let k = each_kept P backward (better backward x y) ys (choose P y x t p.1.0 p.0, p.1.1) in
    (k.0, (choose P x y t p.0 p.1.0, k.1))

pub length_others : (backward : Bool) (x : Entry) (es : List Entry) → length (others backward x es) ≡ length es
unfolding others
length_others backward x [] = refl
length_others backward x (y ∷ ys) = ap suc (length_others backward (better backward x y) ys)

-- A heap of no slots holds the empty list, whatever the slices hold
pub holds_none : (backward : Bool) (ts : List Float) (ns : List ℕ) → Holds backward ts ns 0 []
unfolding times_in slots
holds_none backward ts ns = record { above = λ i k l a b. absurd (not-suc-le-zero l); ordered = λ i l. absurd (not-suc-le-zero l); listed = tt; many = refl; same = λ e. refl }
