-- Laws of the marks.
use mathlib.Core.Path.{◌≡◌, sym, ap, ◌∙◌, subst}
use mathlib.Core.Logic.{◌⊎◌, inl, inr}
use mathlib.Core.List.{List}
use Prim.Native.Nat.{ℕ, ◌+◌, ◌≤◌, ◌<◌}
use native.Mathlib.Omega.{arith}
use lib.ListN.{length, get_or, set}
use lib.Seq.{get_or-set_same, get_or-set_other}
use Rattle.laws.proofs.Truth.{equal_or_not}
use Rattle.space.specs.Space.{zeros}
use Rattle.space.proofs.Zeros.{zero_at}
use Rattle.book_repeats.specs.Repeats.{Under}

-- ---- marks: a link has the stamp exactly where it was seen

pub record Marked (m : List ℕ) (stamp : ℕ) (Seen : ℕ → Type 0) : Type 0 where
  pub found : (l : ℕ) → get_or m l 0 ≡ stamp → Seen l
  pub marked : (l : ℕ) → Seen l → get_or m l 0 ≡ stamp

-- marks at most n don't have the stamp after it
pub mark_none : {m : List ℕ} {n : ℕ} {Seen : ℕ → Type 0} → Under m n → ((l : ℕ) → Seen l → ⊥) → Marked m (n + 1) Seen
mark_none {m} {n} {Seen} u e = record { found = λ l d. absurd (above l d); marked = λ l w. absurd (e l w) }
  where
    above : (l : ℕ) → get_or m l 0 ≡ n + 1 → ⊥
    above l d = omega (arith, u.at l)

-- one link more
pub mark_more : {m : List ℕ} {stamp : ℕ} {Seen New : ℕ → Type 0} (link : ℕ) → Marked m stamp Seen → link < length m → New link → ((l : ℕ) → Seen l → New l)
    → ((l : ℕ) → New l → (l ≡ link) ⊎ Seen l) → Marked (set m link stamp) stamp New
mark_more {m} {stamp} {Seen} {New} link a h n old back = record { found = λ l. find l (equal_or_not l link); marked = λ l. mark l (equal_or_not l link) }
  where
    find : (l : ℕ) → (l ≡ link) ⊎ (l ≡ link → ⊥) → get_or (set m link stamp) l 0 ≡ stamp → New l
    find l (inl d) e = subst New (sym d) n
    find l (inr d) e = old l (a.found l (sym (get_or-set_other m link l stamp 0 d) ∙ e))

    keep : (l : ℕ) → (l ≡ link → ⊥) → (l ≡ link) ⊎ Seen l → get_or m l 0 ≡ stamp
    keep l d (inl e) = absurd (d e)
    keep l d (inr s) = a.marked l s

    mark : (l : ℕ) → (l ≡ link) ⊎ (l ≡ link → ⊥) → New l → get_or (set m link stamp) l 0 ≡ stamp
    mark l (inl d) w = ap (λ (k : ℕ). get_or (set m link stamp) k 0) d ∙ get_or-set_same m link stamp 0 h
    mark l (inr d) w = get_or-set_other m link l stamp 0 d ∙ keep l d (back l w)

-- ---- how large marks are

pub zero_under : (m : List ℕ) → m ≡ zeros (length m) → Under m 0
zero_under m z = record { at = λ l. let e : get_or m l 0 ≡ 0 = ap (λ (w : List ℕ). get_or w l 0) z ∙ zero_at (length m) l in omega arith }

pub under_more : {m : List ℕ} {n : ℕ} (link : ℕ) → Under m n → link < length m → Under (set m link n) n
under_more {m} {n} link u h = record { at = λ l. go l (equal_or_not l link) }
  where
    go : (l : ℕ) → (l ≡ link) ⊎ (l ≡ link → ⊥) → get_or (set m link n) l 0 ≤ n
    go l (inl d) = let e : get_or (set m link n) l 0 ≡ n = ap (λ (k : ℕ). get_or (set m link n) k 0) d ∙ get_or-set_same m link n 0 h in omega arith
    go l (inr d) = subst (λ (v : ℕ). v ≤ n) (sym (get_or-set_other m link l n 0 d)) (u.at l)
