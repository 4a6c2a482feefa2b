-- Which legs follow which: a leg's children, and how the work space keeps them.
-- A leg's number is one more than its row's; 0 names no leg, and as a parent the origins.
-- In the cells of the work space each leg number has a unit of 8: its last child, the child before it of its own
-- parent, and where its samples end.
use Rattle.std.specs.Prelude.{◌≡◌, false, ◌&&◌, cond, List, ℕ, zero, suc, ◌+◌, ◌*◌, ◌≤◌, ◌<◌, eqb, length, get_or, set}
use Rattle.laws.specs.Below.{some_below, sum_below}
use Rattle.book_format.specs.Format.{legs, samples, leg_link, leg_parent, leg_samples, first_sample}
use Rattle.book_format.specs.Rows.{bad_count, row4, row5, bad_leg}

-- the last of the first n legs whose parent is p, or 0
unfoldable pub last_child : List ℕ → ℕ → ℕ → ℕ
last_child b zero p = 0
last_child b (suc n) p = cond (eqb (leg_parent b n) p) (suc n) (last_child b n p)

-- the last of the first n legs with this parent and link, or 0: row 7 leaves at most one
unfoldable pub leg_below : List ℕ → ℕ → ℕ → ℕ → ℕ
leg_below b zero p l = 0
leg_below b (suc n) p l = cond (eqb (leg_parent b n) p && eqb (leg_link b n) l) (suc n) (leg_below b n p l)

-- the cells with leg number j in front of its parent's children, and where its samples end
abbrev pub with_leg : List ℕ → ℕ → ℕ → ℕ → List ℕ
with_leg cells j parent end =
    set (set (set cells (j * 8 + 1) (get_or cells (parent * 8) 0)) (parent * 8) j) (j * 8 + 2) end

-- the cells w after the first n legs are linked: each in front of its parent's children so far
unfoldable pub linked : List ℕ → ℕ → List ℕ → List ℕ
linked b zero w = w
linked b (suc n) w =
    let v = linked b n w in
    with_leg v (n + 1) (leg_parent b n) (first_sample b (n + 1))

-- all legs
abbrev pub all_linked : List ℕ → List ℕ → List ℕ
all_linked b w = linked b (legs b) w

-- what the cells then say of each leg
-- Stands in contracts of the searches for a leg and of growth, and in no struct of a book and its cells: growth writes
-- in the lent cells behind the legs' between two searches, and would make the struct anew each time.
pub record Chained (b cells : List ℕ) : Type 0 where
  pub room : (legs b + 1) * 8 ≤ length cells
  pub first : (p : ℕ) → p ≤ legs b → get_or cells (p * 8) 0 ≡ last_child b (legs b) p
  pub before : (i : ℕ) → i < legs b → get_or cells ((i + 1) * 8 + 1) 0 ≡ last_child b i (leg_parent b i)
  pub ends : (j : ℕ) → j ≤ legs b → get_or cells (j * 8 + 2) 0 ≡ first_sample b j

-- what row 3 leaves of the counts: each within its limits, no leg without a sample, and as many samples as the legs say
pub record Counted (b : List ℕ) : Type 0 where
  pub counts : bad_count b ≡ false
  pub some : some_below (legs b) (λ i. eqb (leg_samples b i) 0) ≡ false
  pub sums : sum_below (legs b) (leg_samples b) ≡ samples b

-- what rows 4 and 5 leave of a book
pub record Valid (b : List ℕ) : Type 0 where
  pub floats : row4 b ≡ false
  pub indices : row5 b ≡ false

-- what rows 3 to 5, and row 7 as far as it looks at single legs, leave of a book
pub record Readable (b : List ℕ) : Type 0 where
  pub counted : Counted b
  pub floats : row4 b ≡ false
  pub indices : row5 b ≡ false
  pub single : some_below (legs b) (bad_leg b) ≡ false
