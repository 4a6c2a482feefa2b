-- What stands in a table after one node is written.
use mathlib.Core.Path.{◌≡◌, sym, ap, ◌∙◌}
use mathlib.Core.Logic.{◌⊎◌, inl, inr}
use Prim.Native.Nat.{ℕ, suc, ◌<◌}
use native.Mathlib.Omega.{arith}
use Rattle.laws.proofs.Truth.{equal_or_not}
use Rattle.laws.proofs.Below.{below}
use Rattle.net_node.proofs.Tables.{RoomIn, put_same, put_other}
use Rattle.net_node.specs.Table.{Table, put, at}
use Rattle.net_node.specs.declared.EstTime.{EstTime}

-- a column that the new node has as the old one did
pub put_column : {A : Type 0} (f : EstTime → A) (t : Table) (i : ℕ) (x : EstTime) (places : ℕ) → RoomIn t places
    → i < places → f x ≡ f (at t i) → (j : ℕ) → f (at (put t i x) j) ≡ f (at t j)
put_column f t i x places r h e j = go (equal_or_not j i)
  where
    go : (j ≡ i) ⊎ (j ≡ i → ⊥) → f (at (put t i x) j) ≡ f (at t j)
    go (inl q) = ap (λ (k : ℕ). f (at (put t i x) k)) q ∙ ap f (put_same t i x places r h) ∙ e
        ∙ ap (λ (k : ℕ). f (at t k)) (sym q)
    go (inr d) = ap f (put_other t i x j d)

-- ---- two tables that agree

module _ (t u : Table) (places others : ℕ) (r : RoomIn t places) (q : RoomIn u others) where
  -- a node written over
  pub put_agree : (n i : ℕ) (x y : EstTime) → ((j : ℕ) → j < n → at u j ≡ at t j) → i < places → i < others → y ≡ x
      → (j : ℕ) → j < n → at (put u i y) j ≡ at (put t i x) j
  put_agree n i x y ag h g e j l = go (equal_or_not j i)
    where
      go : (j ≡ i) ⊎ (j ≡ i → ⊥) → at (put u i y) j ≡ at (put t i x) j
      go (inl d) = ap (at (put u i y)) d ∙ put_same u i y others q g ∙ e ∙ sym (put_same t i x places r h)
          ∙ ap (at (put t i x)) (sym d)
      go (inr d) = put_other u i y j d ∙ ag j l ∙ sym (put_other t i x j d)

  -- a node more
  pub put_more : (n : ℕ) (x y : EstTime) → ((j : ℕ) → j < n → at u j ≡ at t j) → n < places → n < others → y ≡ x
      → (j : ℕ) → j < suc n → at (put u n y) j ≡ at (put t n x) j
  put_more n x y ag h g e j l = go (below j n l)
    where
      go : (j < n) ⊎ (j ≡ n) → at (put u n y) j ≡ at (put t n x) j
      go (inl k) = put_other u n y j (λ (d : j ≡ n). omega arith) ∙ ag j k
          ∙ sym (put_other t n x j (λ (d : j ≡ n). omega arith))
      go (inr d) = ap (at (put u n y)) d ∙ put_same u n y others q g ∙ e ∙ sym (put_same t n x places r h)
          ∙ ap (at (put t n x)) (sym d)
