-- The nodes that a clearing behind them leaves are as they were.
use mathlib.Core.Path.{◌≡◌, sym, ap, ◌∙◌}
use mathlib.Core.List.{List, ◌++◌}
use Prim.Native.Nat.{ℕ, ◌-◌, ◌*◌, ◌≤◌, ◌<◌}
use native.Mathlib.Omega.{arith}
use lib.ListN.{length, get_or, take, get_or-append}
use lib.Seq.{length-take-le, get_or-take}
use lib.Ieee.{Float, nan}
use Rattle.space.specs.Space.{zeros, zero_floats}
use Rattle.net_node.specs.Table.{float_width, number_width, node_at, Table, at}
use Rattle.net_node.specs.Left.{floats_kept, numbers_kept}
use Rattle.net_node.proofs.Columns.{columns_agree}

front_at : {A : Type 0} (n : ℕ) (l rest : List A) (p q : ℕ) (d : A) → n ≤ length l → p < n → p ≡ q
    → get_or (take n l ++ rest) p d ≡ get_or l q d
front_at n l rest p q d h k e = get_or-append (take n l) rest d p (omega (arith, length-take-le n l h))
    ∙ get_or-take n l p d k ∙ ap (λ (z : ℕ). get_or l z d) e

pub kept_node : (n : ℕ) (t s : Table) → s.floats ≡ floats_kept n t.floats (length t.floats)
    → s.numbers ≡ numbers_kept n t.numbers (length t.numbers)
    → n * float_width ≤ length t.floats → n * number_width ≤ length t.numbers → (i : ℕ) → i < n → at s i ≡ at t i
unfolding at
kept_node n t s p q f u i h =
    ap (λ (x : List Float). node_at x s.numbers i) p
    ∙ ap (λ (x : List ℕ). node_at (floats_kept n t.floats (length t.floats)) x i) q
    ∙ columns_agree (floats_kept n t.floats (length t.floats)) t.floats (numbers_kept n t.numbers (length t.numbers))
    t.numbers i i
    (λ k x y b a c. front_at (n * float_width) t.floats (zero_floats (length t.floats - n * float_width)) x y nan f
    (omega arith) (a ∙ sym c))
    (λ k x y b a c. front_at (n * number_width) t.numbers (zeros (length t.numbers - n * number_width)) x y 0 u
    (omega arith) (a ∙ sym c))
