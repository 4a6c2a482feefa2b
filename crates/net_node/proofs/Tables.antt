-- Nodes written into a table: what is read at their places and at others, that the room stays, and that a network stays
-- indexed.
use mathlib.Core.Path.{◌≡◌, sym, ◌∙◌, subst}
use mathlib.Core.Logic.{◌⊎◌, inl, inr, ◌≢◌}
use Prim.Native.Nat.{ℕ, ◌+◌, ◌≤◌, ◌<◌}
use native.Mathlib.Omega.{arith}
use Rattle.laws.proofs.Truth.{equal_or_not}
use Rattle.net_node.specs.declared.EstTime.{EstTime}
use Rattle.net_node.specs.Table.{Table, put, at, Room, Indexed}
use Rattle.net_node.proofs.Columns.{node_put_same, node_put_other, length_put_floats, length_put_numbers}

abbrev pub RoomIn : Table → ℕ → Type 0
RoomIn t places = Room t.floats t.numbers places

-- ---- one node written

pub put_room : (t : Table) (i : ℕ) (x : EstTime) (places : ℕ) → RoomIn t places → RoomIn (put t i x) places
unfolding put
put_room t i x places r = record {
  floats = omega (arith, r.floats, length_put_floats t.floats t.numbers i x);
  numbers = omega (arith, r.numbers, length_put_numbers t.floats t.numbers i x);
  most = r.most;
}

pub put_same : (t : Table) (i : ℕ) (x : EstTime) (places : ℕ) → RoomIn t places → i < places → at (put t i x) i ≡ x
unfolding put at
put_same t i x places r h = node_put_same t.floats t.numbers i x (omega (arith, r.floats)) (omega (arith, r.numbers))

pub put_other : (t : Table) (i : ℕ) (x : EstTime) (j : ℕ) → j ≢ i → at (put t i x) j ≡ at t j
unfolding put at
put_other t i x j h = node_put_other t.floats t.numbers i x j h

-- ---- two nodes written

module _ (t : Table) (i k : ℕ) (x y : EstTime) where
  abbrev pub both : Table
  both = put (put t i x) k y

  pub both_room : (places : ℕ) → RoomIn t places → RoomIn both places
  both_room places r = put_room (put t i x) k y places (put_room t i x places r)

  pub both_first : (places : ℕ) → RoomIn t places → i < k → i < places → at both i ≡ x
  both_first places r h g = put_other (put t i x) k y i (λ (o : i ≡ k). omega arith) ∙ put_same t i x places r g

  pub both_second : (places : ℕ) → RoomIn t places → k < places → at both k ≡ y
  both_second places r h = put_same (put t i x) k y places (put_room t i x places r) h

  pub both_other : (j : ℕ) → j ≢ i → j ≢ k → at both j ≡ at t j
  both_other j h g = put_other (put t i x) k y j g ∙ put_other t i x j h

-- ---- what an indexed network asks of node i

pub record Fits (x : EstTime) (i n : ℕ) : Type 0 where
  pub next : x.idx_next < n
  pub next_alt : x.idx_next_alt < n
  pub prev : x.idx_prev < n
  pub prev_alt : x.idx_prev_alt < n
  pub next_alt_rises : 0 < x.idx_next_alt → i < x.idx_next_alt
  pub prev_alt_rises : 0 < x.idx_prev_alt → i < x.idx_prev_alt

pub fits_at : {node : ℕ → EstTime} {n : ℕ} → Indexed node n → (i m : ℕ) → i < n → n ≤ m → Fits (node i) i m
fits_at w i m h g = record {
  next = omega (arith, w.next i h);
  next_alt = omega (arith, w.next_alt i h);
  prev = omega (arith, w.prev i h);
  prev_alt = omega (arith, w.prev_alt i h);
  next_alt_rises = w.next_alt_rises i h;
  prev_alt_rises = w.prev_alt_rises i h;
}

pub fits_indexed : {node : ℕ → EstTime} {n : ℕ} → ((i : ℕ) → i < n → Fits (node i) i n) → Indexed node n
fits_indexed f = record {
  next = λ i h. (f i h).next;
  next_alt = λ i h. (f i h).next_alt;
  prev = λ i h. (f i h).prev;
  prev_alt = λ i h. (f i h).prev_alt;
  next_alt_rises = λ i h. (f i h).next_alt_rises;
  prev_alt_rises = λ i h. (f i h).prev_alt_rises;
}

pub both_indexed : (t : Table) (i n : ℕ) (x y : EstTime) (places : ℕ) → RoomIn t places → Indexed (at t) n → i < n
    → n < places → Fits x i (n + 1) → Fits y n (n + 1) → Indexed (at (both t i n x y)) (n + 1)
both_indexed t i n x y places r w h g f s = fits_indexed (λ j l. go j l (equal_or_not j i) (equal_or_not j n))
  where
    go : (j : ℕ) → j < n + 1 → (j ≡ i) ⊎ (j ≡ i → ⊥) → (j ≡ n) ⊎ (j ≡ n → ⊥) → Fits (at (both t i n x y) j) j (n + 1)
    go j l (inl a) b =
        subst (λ (k : ℕ). Fits (at (both t i n x y) k) k (n + 1)) (sym a)
        (subst (λ (z : EstTime). Fits z i (n + 1)) (sym (both_first t i n x y places r h (omega arith))) f)
    go j l (inr a) (inl b) =
        subst (λ (k : ℕ). Fits (at (both t i n x y) k) k (n + 1)) (sym b)
        (subst (λ (z : EstTime). Fits z n (n + 1)) (sym (both_second t i n x y places r g)) s)
    go j l (inr a) (inr b) =
        subst (λ (z : EstTime). Fits z j (n + 1)) (sym (both_other t i n x y j a b))
        (fits_at w j (n + 1) (omega arith) (omega arith))
