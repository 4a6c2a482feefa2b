-- A table's indices name nodes: what is kept when fields of nodes are set.
use mathlib.Core.Path.{◌≡◌, sym, ap, ◌∙◌, subst}
use mathlib.Core.Logic.{◌≢◌, ⊎_elim}
use mathlib.Core.List.{List}
use Prim.Native.Nat.{ℕ, ◌<◌}
use lib.Ieee.{Float}
use Rattle.laws.proofs.Truth.{equal_or_not}
use Rattle.net_node.proofs.Sets.{Changed, time_set, next_set, prev_set, arc_set}
use Rattle.net_node.specs.declared.EstTime.{EstTime}
use Rattle.net_node.specs.Table.{node_at, Table, at, set_time, set_next, set_prev, set_arc, with_time, with_next, with_prev, with_arc}
use Rattle.pass_rules.specs.Walks.{Inside, Linked}
use Rattle.pass_rules.specs.Forward.{swap_join}
use Rattle.pass_rules.specs.Backward.{swap_split}

-- the four indices of a node
pub record Names (x : EstTime) (n : ℕ) : Type 0 where
  pub next : x.idx_next < n
  pub next_alt : x.idx_next_alt < n
  pub prev : x.idx_prev < n
  pub prev_alt : x.idx_prev_alt < n

-- those of a node that was loaded
pub names_in : (fs : List Float) (us : List ℕ) {n : ℕ} → Inside (node_at fs us) n → (i : ℕ) → i < n → (x : EstTime) → x ≡ node_at fs us i → Names x n
names_in fs us {n} v i h x e =
    subst (λ (y : EstTime). Names y n) (sym e) (record { next = v.next i h; next_alt = v.next_alt i h; prev = v.prev i h; prev_alt = v.prev_alt i h })

names_at : (t : Table) (n : ℕ) → Linked t n → (i : ℕ) → i < n → Names (at t i) n
unfolding at
names_at t n v i h = record { next = v.inside.next i h; next_alt = v.inside.next_alt i h; prev = v.inside.prev i h; prev_alt = v.inside.prev_alt i h }

-- a node changed whose indices then name nodes
linked_change : (t s : Table) (n i : ℕ) (x : EstTime) → Linked t n → Changed t s n i x → Names x n → Linked s n
unfolding at
linked_change t s n i x v c w = record {
  room = c.room;
  inside = record { next = λ k l. (names k l).next; next_alt = λ k l. (names k l).next_alt; prev = λ k l. (names k l).prev; prev_alt = λ k l. (names k l).prev_alt };
}
  where
    names : (k : ℕ) → k < n → Names (at s k) n
    names k l =
        ⊎_elim
        (λ (o : k ≡ i). subst (λ (y : EstTime). Names y n) (sym (ap (at s) o ∙ c.here)) w)
        (λ (o : k ≢ i). subst (λ (y : EstTime). Names y n) (sym (c.other k o)) (names_at t n v k l))
        (equal_or_not k i)

module _ (t : Table) (n : ℕ) (v : Linked t n) (i : ℕ) (h : i < n) where
  pub linked_time : (time : Float) → Linked (set_time t i time) n
  linked_time time =
      let w = names_at t n v i h in
      linked_change t (set_time t i time) n i (with_time (at t i) time) v (time_set t n v.room i h time) (record { next = w.next; next_alt = w.next_alt; prev = w.prev; prev_alt = w.prev_alt })

  linked_arc : (time distance : Float) → Linked (set_arc t i time distance) n
  linked_arc time distance =
      let w = names_at t n v i h in
      linked_change t (set_arc t i time distance) n i (with_arc (at t i) time distance) v (arc_set t n v.room i h time distance) (record { next = w.next; next_alt = w.next_alt; prev = w.prev; prev_alt = w.prev_alt })

  module _ (k : ℕ) (l : k < n) where
    linked_next : Linked (set_next t i k) n
    linked_next =
        let w = names_at t n v i h in
        linked_change t (set_next t i k) n i (with_next (at t i) k) v (next_set t n v.room i h k) (record { next = l; next_alt = w.next_alt; prev = w.prev; prev_alt = w.prev_alt })

    linked_prev : Linked (set_prev t i k) n
    linked_prev =
        let w = names_at t n v i h in
        linked_change t (set_prev t i k) n i (with_prev (at t i) k) v (prev_set t n v.room i h k) (record { next = w.next; next_alt = w.next_alt; prev = l; prev_alt = w.prev_alt })

-- ---- the swaps

module _ (t : Table) (n : ℕ) (v : Linked t n) (curr save found : ℕ) (c : curr < n) (s : save < n) (f : found < n) where
  pub linked_join : Linked (swap_join t curr save found) n
  unfolding swap_join
  linked_join =
      let base = (at t found).idx_prev in
      let b : (at t found).idx_prev < n = (names_at t n v found f).prev in
      let t1 = set_next t curr found in
      let t2 = set_next t1 base save in
      let t3 = set_prev t2 save base in
      let v1 : Linked (set_next t curr found) n = linked_next t n v curr c found f in
      let v2 = linked_next t1 n v1 base b save s in
      let v3 = linked_prev t2 n v2 save s base b in
      linked_prev t3 n v3 found f curr c

  pub linked_split : Linked (swap_split t curr save found) n
  unfolding swap_split
  linked_split =
      let base = (at t found).idx_next in
      let b : (at t found).idx_next < n = (names_at t n v found f).next in
      let t1 = set_prev t curr found in
      let t2 = set_prev t1 base save in
      let t3 = set_next t2 save base in
      let t4 = set_next t3 found curr in
      let v1 : Linked (set_prev t curr found) n = linked_prev t n v curr c found f in
      let v2 = linked_prev t1 n v1 base b save s in
      let v3 = linked_next t2 n v2 save s base b in
      let v4 = linked_next t3 n v3 found f curr c in
      let t5 = set_arc t4 save (at t4 found).time_to_next (at t4 found).dist_to_next in
      let v5 = linked_arc t4 n v4 save s (at t4 found).time_to_next (at t4 found).dist_to_next in
      linked_arc t5 n v5 found f (at t4 save).time_to_next (at t4 save).dist_to_next
