-- Laws of the table: a kind's number, and what stands at a node's own place and at another's after a node was written.
use mathlib.Core.Path.{◌≡◌, refl, sym, ap, ◌∙◌}
use mathlib.Core.Logic.{◌≢◌}
use mathlib.Core.List.{List, [], ◌∷◌}
use Prim.Native.Nat.{ℕ, zero, suc, ◌+◌, ◌*◌, ◌≤◌, ◌<◌}
use native.Mathlib.Nat.{add-zero, not-suc-le-zero}
use native.Mathlib.Omega.{arith}
use lib.ListN.{length, get_or, set, length-set}
use lib.Seq.{get_or-set_same, get_or-set_other}
use lib.Ieee.{Float, nan}
use Rattle.net_node.specs.declared.EstType.{EstType}
use Rattle.net_node.specs.declared.EstType.TheVariants.{Arrive, Clear, Fake}
use Rattle.net_node.specs.declared.EstTime.{EstTime}
use Rattle.net_node.specs.Table.{float_width, number_width, kind_of, kind_number, node_at, put_floats, put_numbers}
use Rattle.net_node.specs.Table.{floats_of, numbers_of}

pub kind_back : (k : EstType) → kind_of (kind_number k) ≡ k
kind_back Arrive = refl
kind_back Clear = refl
kind_back Fake = refl

-- ---- a row's stores, one after another

module _ {A : Type 0} (d : A) where
  -- values stored from column a on, in the row that begins at r
  abbrev stored : List A → ℕ → ℕ → List A → List A
  stored l r a [] = l
  stored l r a (x ∷ xs) = stored (set l (r + a) x) r (suc a) xs

  length_stored : (xs l : List A) (r a : ℕ) → length (stored l r a xs) ≡ length l
  length_stored [] l r a = refl
  length_stored (x ∷ xs) l r a = length_stored xs (set l (r + a) x) r (suc a) ∙ length-set l (r + a) x

  stored_other : (xs l : List A) (r a p : ℕ) → ((k : ℕ) → a ≤ k → k < a + length xs → p ≢ r + k)
      → get_or (stored l r a xs) p d ≡ get_or l p d
  stored_other [] l r a p h = refl
  stored_other (x ∷ xs) l r a p h =
      stored_other xs (set l (r + a) x) r (suc a) p (λ k f g. h k (omega arith) (omega arith))
      ∙ get_or-set_other l (r + a) p x d (h a (omega arith) (omega arith))

  stored_at : (xs l : List A) (r a k p : ℕ) → p ≡ r + a + k → k < length xs → r + a + length xs ≤ length l
      → get_or (stored l r a xs) p d ≡ get_or xs k d
  stored_at [] l r a k p e h g = absurd (not-suc-le-zero h)
  stored_at (x ∷ xs) l r a zero p e h g =
      stored_other xs (set l (r + a) x) r (suc a) p (λ k f i q. omega arith)
      ∙ ap (λ (q : ℕ). get_or (set l (r + a) x) q d) (e ∙ add-zero (r + a))
      ∙ get_or-set_same l (r + a) x d (omega arith)
  stored_at (x ∷ xs) l r a (suc k) p e h g =
      stored_at xs (set l (r + a) x) r (suc a) k p (omega arith) (omega arith) (omega (arith, length-set l (r + a) x))

-- ---- a node's columns

-- two tables with the same columns have the same nodes
module _ (fs gs : List Float) (us vs : List ℕ) (i j : ℕ) where
  pub columns_agree : ((k p q : ℕ) → k < float_width → p ≡ i * float_width + k → q ≡ j * float_width + k
      → get_or fs p nan ≡ get_or gs q nan)
      → ((k p q : ℕ) → k < number_width → p ≡ i * number_width + k → q ≡ j * number_width + k
      → get_or us p 0 ≡ get_or vs q 0) → node_at fs us i ≡ node_at gs vs j
  unfolding node_at
  columns_agree float number = λ t. record {
    time_sched = float 0 (i * float_width) (j * float_width) (omega arith) (omega arith) (omega arith) t;
    time_to_next = float 1 (i * float_width + 1) (j * float_width + 1) (omega arith) refl refl t;
    dist_to_next = float 2 (i * float_width + 2) (j * float_width + 2) (omega arith) refl refl t;
    speed = float 3 (i * float_width + 3) (j * float_width + 3) (omega arith) refl refl t;
    idx_next = number 0 (i * number_width) (j * number_width) (omega arith) (omega arith) (omega arith) t;
    idx_next_alt = number 1 (i * number_width + 1) (j * number_width + 1) (omega arith) refl refl t;
    idx_prev = number 2 (i * number_width + 2) (j * number_width + 2) (omega arith) refl refl t;
    idx_prev_alt = number 3 (i * number_width + 3) (j * number_width + 3) (omega arith) refl refl t;
    link_event = record {
      link_idx = number 4 (i * number_width + 4) (j * number_width + 4) (omega arith) refl refl t;
      est_type = kind_of (number 5 (i * number_width + 5) (j * number_width + 5) (omega arith) refl refl t);
    };
  }

columns_are : (n : EstTime) → node_at (floats_of n) (numbers_of n) 0 ≡ n
unfolding node_at
columns_are n = rw (kind_back n.link_event.est_type)

module _ (fs : List Float) (us : List ℕ) (i : ℕ) (n : EstTime) where
  floats_stored : put_floats fs i n ≡ stored nan fs (i * float_width) 0 (floats_of n)
  unfolding put_floats
  floats_stored =
      ap (λ (r : ℕ). stored nan (set fs r n.time_sched) (i * float_width) 1
      (n.time_to_next ∷ n.dist_to_next ∷ n.speed ∷ [])) (sym (add-zero (i * float_width)))

  numbers_stored : put_numbers us i n ≡ stored 0 us (i * number_width) 0 (numbers_of n)
  unfolding put_numbers
  numbers_stored =
      ap (λ (r : ℕ). stored 0 (set us r n.idx_next) (i * number_width) 1
      (n.idx_next_alt ∷ n.idx_prev ∷ n.idx_prev_alt ∷ n.link_event.link_idx ∷ kind_number n.link_event.est_type ∷ []))
      (sym (add-zero (i * number_width)))

  pub length_put_floats : length (put_floats fs i n) ≡ length fs
  length_put_floats = ap length floats_stored ∙ length_stored nan (floats_of n) fs (i * float_width) 0

  pub length_put_numbers : length (put_numbers us i n) ≡ length us
  length_put_numbers = ap length numbers_stored ∙ length_stored 0 (numbers_of n) us (i * number_width) 0

  -- what is written is read back
  pub node_put_same : i * float_width + float_width ≤ length fs → i * number_width + number_width ≤ length us
      → node_at (put_floats fs i n) (put_numbers us i n) i ≡ n
  node_put_same f u =
      ap (λ (l : List Float). node_at l (put_numbers us i n) i) floats_stored
      ∙ ap (λ (l : List ℕ). node_at (stored nan fs (i * float_width) 0 (floats_of n)) l i) numbers_stored
      ∙ columns_agree (stored nan fs (i * float_width) 0 (floats_of n)) (floats_of n)
      (stored 0 us (i * number_width) 0 (numbers_of n)) (numbers_of n) i 0
      (λ k p q h a b. stored_at nan (floats_of n) fs (i * float_width) 0 q p (omega arith) (omega arith) (omega arith))
      (λ k p q h a b. stored_at 0 (numbers_of n) us (i * number_width) 0 q p (omega arith) (omega arith) (omega arith))
      ∙ columns_are n

  -- another node stays
  pub node_put_other : (j : ℕ) → j ≢ i → node_at (put_floats fs i n) (put_numbers us i n) j ≡ node_at fs us j
  node_put_other j h =
      ap (λ (l : List Float). node_at l (put_numbers us i n) j) floats_stored
      ∙ ap (λ (l : List ℕ). node_at (stored nan fs (i * float_width) 0 (floats_of n)) l j) numbers_stored
      ∙ columns_agree (stored nan fs (i * float_width) 0 (floats_of n)) fs
      (stored 0 us (i * number_width) 0 (numbers_of n)) us j j
      (λ k p q g a b. stored_other nan (floats_of n) fs (i * float_width) 0 p (λ m c d e. h (omega arith))
      ∙ ap (λ (x : ℕ). get_or fs x nan) (a ∙ sym b))
      (λ k p q g a b. stored_other 0 (numbers_of n) us (i * number_width) 0 p (λ m c d e. h (omega arith))
      ∙ ap (λ (x : ℕ). get_or us x 0) (a ∙ sym b))
