-- Why as many turns as there are legs are enough: the load of the runs that wait is the number of legs below or at
-- theirs, and each turn lessens it.
use mathlib.Core.Path.{◌≡◌, refl, sym, ap, ◌∙◌, subst}
use mathlib.Core.Logic.{◌⊎◌, inl, inr}
use mathlib.Core.List.{List, [], ◌∷◌}
use Prim.Native.Nat.{ℕ, zero, suc, ◌+◌, ◌-◌, ◌<◌, ◌≤◌}
use native.Mathlib.Omega.{arith}
use borrow.Author.Tests.{eq-eqb}
use lib.Dec.{eqb}
use Rattle.laws.proofs.Truth.{equal_or_not}
use Rattle.laws.proofs.Below.{below}
use Rattle.laws.specs.Below.{sum_below}
use Rattle.book_format.specs.Format.{legs, leg_parent}
use Rattle.grow_rules.specs.Run.{Run}
use Rattle.arcs_growth.specs.Arcs.{one}
use Rattle.arcs_growth.specs.Read.{Read}
use Rattle.arcs_growth.proofs.Sums.{sum_same}

-- the sum of what the legs of a path count, from leg i back to its first, in so many steps
unfoldable pub along : List ℕ → (ℕ → ℕ) → ℕ → ℕ → ℕ
along b c zero i = 0
along b c (suc k) zero = 0
along b c (suc k) (suc i) = c (suc i) + along b c k (leg_parent b i)

-- how many of the runs are to take leg x
abbrev pub leg_count_lem : List Run → ℕ → ℕ
leg_count_lem [] x = 0
leg_count_lem (r ∷ runs) x = one (eqb r.leg x) + leg_count_lem runs x

unfoldable pub load_of : List ℕ → (ℕ → ℕ) → ℕ
unfolding along
load_of b c = sum_below (legs b) (λ i. along b c (suc i) (suc i))

abbrev pub load : List ℕ → List Run → ℕ
load b runs = load_of b (leg_count_lem runs)

module _ (b : List ℕ) where
  along_adds : (c d e : ℕ → ℕ) → ((x : ℕ) → e x ≡ c x + d x) → (k i : ℕ) → along b e k i ≡ along b c k i + along b d k i
  unfolding along
  along_adds c d e h zero i = refl
  along_adds c d e h (suc k) zero = refl
  along_adds c d e h (suc k) (suc i) = let a = h (suc i) in let f = along_adds c d e h k (leg_parent b i) in omega arith

  sum_adds : (n : ℕ) (f g h : ℕ → ℕ) → ((i : ℕ) → h i ≡ f i + g i) → sum_below n h ≡ sum_below n f + sum_below n g
  unfolding sum_below
  sum_adds zero f g h q = refl
  sum_adds (suc n) f g h q = let a = sum_adds n f g h q in let c = q n in omega arith

  pub load_adds : (c d e : ℕ → ℕ) → ((x : ℕ) → e x ≡ c x + d x) → load_of b e ≡ load_of b c + load_of b d
  unfolding load_of
  load_adds c d e h = sum_adds (legs b) (λ i. along b c (suc i) (suc i)) (λ i. along b d (suc i) (suc i))
      (λ i. along b e (suc i) (suc i)) (λ i. along_adds c d e h (suc i) (suc i))

  along_same : (c d : ℕ → ℕ) → ((x : ℕ) → c x ≡ d x) → (k i : ℕ) → along b c k i ≡ along b d k i
  unfolding along
  along_same c d h zero i = refl
  along_same c d h (suc k) zero = refl
  along_same c d h (suc k) (suc i) = let a = h (suc i) in let f = along_same c d h k (leg_parent b i) in omega arith

  pub load_same : (c d : ℕ → ℕ) → ((x : ℕ) → c x ≡ d x) → load_of b c ≡ load_of b d
  unfolding load_of
  load_same c d h = sum_same (legs b) (λ i. along b d (suc i) (suc i)) (λ i. along b c (suc i) (suc i))
      (λ i l. along_same c d h (suc i) (suc i))

sum_less : (n : ℕ) (f g : ℕ → ℕ) (p : ℕ) → ((i : ℕ) → i < n → f i ≤ g i) → p < n → f p + 1 ≤ g p
    → sum_below n f + 1 ≤ sum_below n g
unfolding sum_below
sum_less zero f g p h l q = absurd (omega arith)
sum_less (suc n) f g p h l q = go (below p n l) (sum_less n f g p)
  where
    most : (m : ℕ) → m ≤ suc n → sum_below m f ≤ sum_below m g
    most zero k = omega arith
    most (suc m) k = let a = most m (omega arith) in let c = h m (omega arith) in omega arith

    go : (p < n) ⊎ (p ≡ n) → (((i : ℕ) → i < n → f i ≤ g i) → p < n → f p + 1 ≤ g p → sum_below n f + 1 ≤ sum_below n g)
        → sum_below n f + f n + 1 ≤ sum_below n g + g n
    go (inl k) ih = let a = ih (λ i m. h i (omega arith)) k q in let c = h n (omega arith) in omega arith
    go (inr e) ih = let a = most n (omega arith) in let c : f n + 1 ≤ g n = subst (λ (k : ℕ). f k + 1 ≤ g k) e q in
        omega arith

sum_most : (n : ℕ) (f : ℕ → ℕ) → ((i : ℕ) → i < n → f i ≤ 1) → sum_below n f ≤ n
unfolding sum_below
sum_most zero f h = omega arith
sum_most (suc n) f h = let a = sum_most n f (λ i l. h i (omega arith)) in let c = h n (omega arith) in omega arith

-- legs of one parent, none twice
pub record Kids (b : List ℕ) (p : ℕ) (c : ℕ → ℕ) : Type 0 where
  pub once : (i : ℕ) → i < legs b → c (suc i) ≤ 1
  pub parent : (i : ℕ) → i < legs b → 0 < c (suc i) → leg_parent b i ≡ p

module _ {b : List ℕ} (r : Read b) where
  -- no child of p is on the way to p
  kids_none : (p : ℕ) (c : ℕ → ℕ) → Kids b p c → (k i : ℕ) → i ≤ p → i ≤ legs b → along b c k i ≡ 0
  unfolding along
  kids_none p c f zero i h l = refl
  kids_none p c f (suc k) zero h l = refl
  kids_none p c f (suc k) (suc i) h l =
      let q = r.parents i (omega arith) in
      let a = kids_none p c f k (leg_parent b i) (omega arith) (omega arith) in
      let z = go (equal_or_not (c (suc i)) 0) in
      omega arith
    where
      go : (c (suc i) ≡ 0) ⊎ (c (suc i) ≡ 0 → ⊥) → c (suc i) ≡ 0
      go (inl e) = e
      go (inr d) = let m = f.parent i (omega arith) (omega arith) in let q = r.parents i (omega arith) in
          absurd (omega arith)

  -- p itself is
  self_there : (p k : ℕ) → 0 < p → p ≤ k → 1 ≤ along b (λ (x : ℕ). one (eqb p x)) k p
  unfolding along
  self_there zero k h l = absurd (omega arith)
  self_there (suc p) zero h l = absurd (omega arith)
  self_there (suc p) (suc k) h l = let e : one (eqb (suc p) (suc p)) ≡ 1 = ap one (eq-eqb (suc p) (suc p) refl) in
      omega arith

  -- on the way to a leg there are at most as many children of p as p itself
  kids_fewer : (p : ℕ) (c : ℕ → ℕ) → 0 < p → Kids b p c → (k i : ℕ) → i ≤ k → i ≤ legs b
      → along b c k i ≤ along b (λ (x : ℕ). one (eqb p x)) k i
  unfolding along
  kids_fewer p c s f zero i h l = omega arith
  kids_fewer p c s f (suc k) zero h l = omega arith
  kids_fewer p c s f (suc k) (suc i) h l = go (equal_or_not (c (suc i)) 0)
      (kids_fewer p c s f k (leg_parent b i) (omega (arith, r.parents i l)) (omega (arith, r.parents i l)))
    where
      go : (c (suc i) ≡ 0) ⊎ (c (suc i) ≡ 0 → ⊥) → along b c k (leg_parent b i) ≤ along b (λ (x : ℕ). one (eqb p x)) k
          (leg_parent b i)
          → c (suc i) + along b c k (leg_parent b i) ≤ one (eqb p (suc i)) + along b (λ (x : ℕ). one (eqb p x)) k
          (leg_parent b i)
      go (inl e) ih = omega arith
      go (inr d) ih =
          let m : leg_parent b i ≡ p = f.parent i (omega arith) (omega arith) in
          let q = r.parents i (omega arith) in
          let o = f.once i (omega arith) in
          let z : along b c k (leg_parent b i) ≡ 0 = kids_none p c f k (leg_parent b i) (omega arith) (omega arith) in
          let y : 1 ≤ along b (λ (x : ℕ). one (eqb p x)) k (leg_parent b i) =
          subst (λ (j : ℕ). 1 ≤ along b (λ (x : ℕ). one (eqb p x)) k j) (sym m) (self_there p k s (omega arith)) in
          omega arith

  -- a leg's children weigh less than it
  pub kids_less : (p : ℕ) (c : ℕ → ℕ) → 0 < p → p ≤ legs b → Kids b p c
      → load_of b c + 1 ≤ load_of b (λ (x : ℕ). one (eqb p x))
  unfolding load_of
  kids_less p c s l f = sum_less (legs b) (λ i. along b c (suc i) (suc i))
      (λ i. along b (λ (x : ℕ). one (eqb p x)) (suc i) (suc i)) (p - 1)
      (λ i h. kids_fewer p c s f (suc i) (suc i) (omega arith) (omega arith)) (omega arith)
      (subst (λ (j : ℕ). along b c j j + 1 ≤ along b (λ (x : ℕ). one (eqb p x)) j j) is there)
    where
      is : p ≡ suc (p - 1)
      is = omega arith

      there : along b c p p + 1 ≤ along b (λ (x : ℕ). one (eqb p x)) p p
      there = let a = kids_none p c f p p (omega arith) l in let d = self_there p p s (omega arith) in omega arith

  -- starting legs weigh at most as much as there are legs
  firsts_most : (c : ℕ → ℕ) → Kids b 0 c → (k i : ℕ) → i ≤ legs b → along b c k i ≤ 1
  unfolding along
  firsts_most c f zero i l = omega arith
  firsts_most c f (suc k) zero l = omega arith
  firsts_most c f (suc k) (suc i) l = go (equal_or_not (c (suc i)) 0)
      (firsts_most c f k (leg_parent b i) (omega (arith, r.parents i l)))
    where
      none : (k : ℕ) → along b c k 0 ≡ 0
      none zero = refl
      none (suc k) = refl

      go : (c (suc i) ≡ 0) ⊎ (c (suc i) ≡ 0 → ⊥) → along b c k (leg_parent b i) ≤ 1
          → c (suc i) + along b c k (leg_parent b i) ≤ 1
      go (inl e) ih = omega arith
      go (inr d) ih =
          let m : leg_parent b i ≡ 0 = f.parent i (omega arith) (omega arith) in
          let o = f.once i (omega arith) in
          let z : along b c k (leg_parent b i) ≡ 0 = ap (along b c k) m ∙ none k in
          omega arith

  pub firsts_load : (c : ℕ → ℕ) → Kids b 0 c → load_of b c ≤ legs b
  unfolding load_of
  firsts_load c f = sum_most (legs b) (λ i. along b c (suc i) (suc i))
      (λ i h. firsts_most c f (suc i) (suc i) (omega arith))

-- the runs that wait after a turn weigh less than before it
pub load_less : {b : List ℕ} → Read b → (run : Run) (saved after : List Run) (c : ℕ → ℕ) → 0 < run.leg
    → run.leg ≤ legs b → Kids b run.leg c → ((x : ℕ) → leg_count_lem after x ≡ c x + leg_count_lem saved x)
    → load b after + 1 ≤ load b (run ∷ saved)
load_less {b} r run saved after c s l f h =
    let a = load_adds b c (leg_count_lem saved) (leg_count_lem after) h in
    let d = load_adds b (λ (x : ℕ). one (eqb run.leg x)) (leg_count_lem saved) (leg_count_lem (run ∷ saved))
    (λ x. refl) in
    let e = kids_less r run.leg c s l f in
    omega arith
