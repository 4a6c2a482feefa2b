-- Fields of nodes set one after the other: the lists then are the definition's.
use mathlib.Core.Path.{◌≡◌, refl, sym, ap, ◌∙◌, subst}
use mathlib.Core.List.{List}
use Prim.Native.Nat.{ℕ, ◌<◌}
use lib.Ieee.{Float}
use Rattle.net_node.specs.declared.EstTime.{EstTime}
use Rattle.net_node.specs.Table.{node_at, Table, at, set_next, set_prev, set_arc}
use Rattle.pass_rules.specs.Forward.{swap_join}
use Rattle.pass_rules.specs.Backward.{swap_split}
use Rattle.pass_rules.specs.Walks.{Inside, table_of}

abbrev pub Holds : List Float → List ℕ → Table → Type 0
Holds fs us t = (fs ≡ t.floats) × (us ≡ t.numbers)

-- ---- a node's neighbours are nodes

module _ (fs : List Float) (us : List ℕ) {n : ℕ} (w : Inside (node_at fs us) n) (i : ℕ) (h : i < n) (x : EstTime) (l : x ≡ node_at fs us i) where
  pub next_inside : x.idx_next < n
  next_inside = subst (λ (y : EstTime). y.idx_next < n) (sym l) (w.next i h)

  pub prev_inside : x.idx_prev < n
  prev_inside = subst (λ (y : EstTime). y.idx_prev < n) (sym l) (w.prev i h)

-- ---- the swaps

as_table : (fs : List Float) (us : List ℕ) (t : Table) → Holds fs us t → table_of fs us ≡ t
as_table fs us t e = λ j. record { floats = e.0 j; numbers = e.1 j }

as_lists : (fs : List Float) (us : List ℕ) (t : Table) → table_of fs us ≡ t → Holds fs us t
as_lists fs us t e = (ap (λ (s : Table). s.floats) e, ap (λ (s : Table). s.numbers) e)

join_swapped : (t t1 t2 t3 t4 : Table) (curr save found base : ℕ) → base ≡ (at t found).idx_prev
    → t1 ≡ set_next t curr found → t2 ≡ set_next t1 base save → t3 ≡ set_prev t2 save base → t4 ≡ set_prev t3 found curr → t4 ≡ swap_join t curr save found
unfolding swap_join
join_swapped t t1 t2 t3 t4 curr save found base b e1 e2 e3 e4 = rw (e4, e3, e2, e1, b)

abbrev links_in : Table → ℕ → ℕ → ℕ → ℕ → Table
links_in t curr save found base = set_next (set_next (set_prev (set_prev t curr found) base save) save base) found curr

abbrev exchanged_in : Table → ℕ → ℕ → Table
exchanged_in t i k = set_arc (set_arc t i (at t k).time_to_next (at t k).dist_to_next) k (at t i).time_to_next (at t i).dist_to_next

links_swapped : (t t1 t2 t3 t4 : Table) (curr save found base : ℕ)
    → t1 ≡ set_prev t curr found → t2 ≡ set_prev t1 base save → t3 ≡ set_next t2 save base → t4 ≡ set_next t3 found curr → t4 ≡ links_in t curr save found base
links_swapped t t1 t2 t3 t4 curr save found base e1 e2 e3 e4 =
    e4 ∙ ap (λ (s : Table). set_next s found curr) (e3 ∙ ap (λ (s : Table). set_next s save base) (e2 ∙ ap (λ (s : Table). set_prev s base save) e1))

arcs_exchanged : (t4 t5 t6 : Table) (i k : ℕ) (x y : EstTime) → x ≡ at t4 i → y ≡ at t4 k
    → t5 ≡ set_arc t4 i y.time_to_next y.dist_to_next → t6 ≡ set_arc t5 k x.time_to_next x.dist_to_next → t6 ≡ exchanged_in t4 i k
arcs_exchanged t4 t5 t6 i k x y a c e5 e6 =
    e6
    ∙ ap (λ (s : Table). set_arc s k x.time_to_next x.dist_to_next) (e5 ∙ ap (λ (z : EstTime). set_arc t4 i z.time_to_next z.dist_to_next) c)
    ∙ ap (λ (z : EstTime). set_arc (set_arc t4 i (at t4 k).time_to_next (at t4 k).dist_to_next) k z.time_to_next z.dist_to_next) a

split_is : (t : Table) (curr save found : ℕ) → exchanged_in (links_in t curr save found (at t found).idx_next) save found ≡ swap_split t curr save found
unfolding swap_split
split_is t curr save found = refl

split_swapped : (t t1 t2 t3 t4 t5 t6 : Table) (curr save found base : ℕ) (x y : EstTime) → base ≡ (at t found).idx_next
    → t1 ≡ set_prev t curr found → t2 ≡ set_prev t1 base save → t3 ≡ set_next t2 save base → t4 ≡ set_next t3 found curr → x ≡ at t4 save → y ≡ at t4 found
    → t5 ≡ set_arc t4 save y.time_to_next y.dist_to_next → t6 ≡ set_arc t5 found x.time_to_next x.dist_to_next → t6 ≡ swap_split t curr save found
split_swapped t t1 t2 t3 t4 t5 t6 curr save found base x y b e1 e2 e3 e4 a c e5 e6 =
    arcs_exchanged t4 t5 t6 save found x y a c e5 e6
    ∙ ap (λ (s : Table). exchanged_in s save found) (links_swapped t t1 t2 t3 t4 curr save found base e1 e2 e3 e4 ∙ ap (links_in t curr save found) b)
    ∙ split_is t curr save found

module _ (f0 f1 f2 f3 f4 : List Float) (u0 u1 u2 u3 u4 : List ℕ) (curr save found : ℕ) (x : EstTime) where
  pub join_stored : x ≡ node_at f0 u0 found → Holds f1 u1 (set_next (table_of f0 u0) curr found) → Holds f2 u2 (set_next (table_of f1 u1) x.idx_prev save)
      → Holds f3 u3 (set_prev (table_of f2 u2) save x.idx_prev) → Holds f4 u4 (set_prev (table_of f3 u3) found curr) → Holds f4 u4 (swap_join (table_of f0 u0) curr save found)
  unfolding at
  join_stored l e1 e2 e3 e4 =
      as_lists f4 u4 (swap_join (table_of f0 u0) curr save found)
      (join_swapped (table_of f0 u0) (table_of f1 u1) (table_of f2 u2) (table_of f3 u3) (table_of f4 u4) curr save found x.idx_prev (ap (λ (z : EstTime). z.idx_prev) l)
      (as_table f1 u1 (set_next (table_of f0 u0) curr found) e1) (as_table f2 u2 (set_next (table_of f1 u1) x.idx_prev save) e2)
      (as_table f3 u3 (set_prev (table_of f2 u2) save x.idx_prev) e3) (as_table f4 u4 (set_prev (table_of f3 u3) found curr) e4))

module _ (f0 f1 f2 f3 f4 f5 f6 : List Float) (u0 u1 u2 u3 u4 u5 u6 : List ℕ) (curr save found : ℕ) (x a b : EstTime) where
  pub split_stored : x ≡ node_at f0 u0 found → Holds f1 u1 (set_prev (table_of f0 u0) curr found) → Holds f2 u2 (set_prev (table_of f1 u1) x.idx_next save)
      → Holds f3 u3 (set_next (table_of f2 u2) save x.idx_next) → Holds f4 u4 (set_next (table_of f3 u3) found curr) → a ≡ node_at f4 u4 save → b ≡ node_at f4 u4 found
      → Holds f5 u5 (set_arc (table_of f4 u4) save b.time_to_next b.dist_to_next) → Holds f6 u6 (set_arc (table_of f5 u5) found a.time_to_next a.dist_to_next)
      → Holds f6 u6 (swap_split (table_of f0 u0) curr save found)
  unfolding at
  split_stored l e1 e2 e3 e4 la lb e5 e6 =
      as_lists f6 u6 (swap_split (table_of f0 u0) curr save found)
      (split_swapped (table_of f0 u0) (table_of f1 u1) (table_of f2 u2) (table_of f3 u3) (table_of f4 u4) (table_of f5 u5) (table_of f6 u6) curr save found x.idx_next a b (ap (λ (z : EstTime). z.idx_next) l)
      (as_table f1 u1 (set_prev (table_of f0 u0) curr found) e1) (as_table f2 u2 (set_prev (table_of f1 u1) x.idx_next save) e2)
      (as_table f3 u3 (set_next (table_of f2 u2) save x.idx_next) e3) (as_table f4 u4 (set_next (table_of f3 u3) found curr) e4) la lb
      (as_table f5 u5 (set_arc (table_of f4 u4) save b.time_to_next b.dist_to_next) e5) (as_table f6 u6 (set_arc (table_of f5 u5) found a.time_to_next a.dist_to_next) e6))
