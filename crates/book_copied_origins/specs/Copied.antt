-- The options search as the source does it (`get_link_idx_options`): it copies the origins, and moves those that it
-- keeps to the end of the copy's kept part by swapping. "our smallest host has no room for a copy of them such as the
-- source's options search makes" (document 02, Ask 2). No code goes by these definitions: proofs/Theorem.antt says that
-- the search without a copy finds the same.
use Rattle.std.specs.Prelude.{Bool, true, false, ◌||◌, cond, List, [], ◌∷◌, ◌++◌, ℕ, zero, suc, ◌+◌, ◌-◌, ◌*◌, eqb}
use Rattle.std.specs.Prelude.{get_or, set, take}
use Rattle.book_format.specs.Format.{links, origins, destinations, origin_link}
use Rattle.book_options.specs.Options.{member, stacked, pushed}

-- `origs`, each origin by its row, and `origs_len_new`: how many of them, from the first on, are kept
pub record Copy : Type 0 where
  pub rows : List ℕ
  pub kept : ℕ

-- `origs.to_vec()`: the rows of n origins, in their order
unfoldable pub rows_below : ℕ → List ℕ
rows_below zero = []
rows_below (suc n) = rows_below n ++ (n ∷ [])

-- `origs.swap(i, j)`
unfoldable pub swapped : List ℕ → ℕ → ℕ → List ℕ
swapped rows i j = set (set rows i (get_or rows j 0)) j (get_or rows i 0)

-- `if link_idx == origs[i].link_idx { origs.swap(i, origs_len_new); origs_len_new += 1; }`
unfoldable pub looked : List ℕ → ℕ → ℕ → Copy → Copy
unfolding swapped
looked b l i c =
    cond (eqb (origin_link b (get_or c.rows i 0)) l)
    (record { rows = swapped c.rows i c.kept; kept = suc c.kept }) c

-- `for i in ..`: k indices from i on
unfoldable pub swept : ℕ → List ℕ → ℕ → ℕ → Copy → Copy
unfolding looked
swept zero b l i c = c
swept (suc k) b l i c = swept k b l (suc i) (looked b l i c)

-- `for i in origs_start..origs.len()`
unfoldable pub swept_all : List ℕ → ℕ → Copy → Copy
unfolding swept
swept_all b l c = swept (origins b - c.kept) b l c.kept c

-- A state of the source's search: the stack, its top first; the set, its latest link first; the copy.
pub record CopySearch : Type 0 where
  pub stack : List ℕ
  pub set : List ℕ
  pub copy : Copy

-- what a popped link makes of the rest, by whether it is in the set: `if origs_start == origs_len_new` its previous
-- links are pushed
unfoldable pub enter_copy : List ℕ → ℕ → Bool → List ℕ → List ℕ → Copy → CopySearch
unfolding swept_all
enter_copy b l true stack set c = record { stack = stack; set = set; copy = c }
enter_copy b l false stack set c =
    let d = swept_all b l c in
    record { stack = cond (eqb c.kept d.kept) (pushed b l stack) stack; set = l ∷ set; copy = d }

-- `while let Some(link_idx) = link_idxs_proc.pop()`, for so many pops
unfoldable pub search_copy : ℕ → List ℕ → List ℕ → List ℕ → Copy → CopySearch
unfolding enter_copy
search_copy zero b stack set c = record { stack = stack; set = set; copy = c }
search_copy (suc k) b [] set c = record { stack = []; set = set; copy = c }
search_copy (suc k) b (l ∷ stack) set c =
    let t = enter_copy b l (member l set) stack set c in
    search_copy k b t.stack t.set t.copy

-- the whole search, with as many pops as empty the stack (`same_options`, proofs/Theorem.antt)
unfoldable pub copy_options : List ℕ → CopySearch
unfolding search_copy
copy_options b =
    search_copy (destinations b + 2 * links b) b (stacked b (destinations b)) []
    (record { rows = rows_below (origins b); kept = 0 })

-- `origs.truncate(origs_len_new)`
unfoldable pub kept_copies : List ℕ → List ℕ
unfolding copy_options
kept_copies b = take (copy_options b).copy.kept (copy_options b).copy.rows

-- where the source gives an error: "Link idx options is not allowed to contain fake link idx!", "No valid paths found
-- from any origin to any destination!"
unfoldable pub copy_refuses : List ℕ → Bool
unfolding copy_options
copy_refuses b = member 0 (copy_options b).set || eqb (copy_options b).copy.kept 0
