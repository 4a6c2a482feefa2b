-- Labels of the nodes under growth, each fixed when its node is made: its role, the event or start whose alternatives
-- reach it, where it leads if an arc's next names it, and how deep it lies.
use mathlib.Core.Path.{◌≡◌, refl, ap}
use mathlib.Core.Bool.{Bool, true, false, cond}
use Prim.Native.Nat.{ℕ, ◌<◌}
use native.Mathlib.Omega.{arith}
use borrow.Author.Tests.{eq-eqb, ne_eqb}
use lib.Dec.{eqb}

-- node 0, the start, an event, a split's Fake, a join's Fake, an end Fake
pub data Role : Type 0 where
  nought : Role
  start : Role
  event : Role
  split : Role
  join : Role
  stop : Role

abbrev pub fake_role : Role → Bool
fake_role nought = true
fake_role start = true
fake_role event = false
fake_role split = true
fake_role join = true
fake_role stop = true

-- it has an arc
abbrev pub base_role : Role → Bool
base_role nought = false
base_role start = true
base_role event = true
base_role split = true
base_role join = false
base_role stop = false

-- an arc's next names it
abbrev pub receives : Role → Bool
receives nought = false
receives start = false
receives event = true
receives split = false
receives join = true
receives stop = true

-- it leads to an event
abbrev pub lands : Role → Bool
lands nought = false
lands start = false
lands event = true
lands split = false
lands join = true
lands stop = false

-- its arc leads from itself
abbrev pub itself : Role → Bool
itself nought = false
itself start = true
itself event = true
itself split = false
itself join = false
itself stop = false

pub record Labels : Type 0 where
  pub role : ℕ → Role
  pub owner : ℕ → ℕ
  pub goal : ℕ → ℕ
  pub depth : ℕ → ℕ

-- ---- a label more

unfoldable pub labelled : Labels → ℕ → Role → ℕ → ℕ → ℕ → Labels
labelled L n r o g d = record {
  role = λ i. cond (eqb i n) r (L.role i);
  owner = λ i. cond (eqb i n) o (L.owner i);
  goal = λ i. cond (eqb i n) g (L.goal i);
  depth = λ i. cond (eqb i n) d (L.depth i);
}

-- M has the labels of L below n
pub record Extends (L M : Labels) (n : ℕ) : Type 0 where
  pub role : (i : ℕ) → i < n → M.role i ≡ L.role i
  pub owner : (i : ℕ) → i < n → M.owner i ≡ L.owner i
  pub goal : (i : ℕ) → i < n → M.goal i ≡ L.goal i
  pub depth : (i : ℕ) → i < n → M.depth i ≡ L.depth i

module _ (L : Labels) (n : ℕ) (r : Role) (o g d : ℕ) where
  pub labelled_old : Extends L (labelled L n r o g d) n
  unfolding labelled
  labelled_old = record {
    role = λ i h. ap (λ (t : Bool). cond t r (L.role i)) (other i h);
    owner = λ i h. ap (λ (t : Bool). cond t o (L.owner i)) (other i h);
    goal = λ i h. ap (λ (t : Bool). cond t g (L.goal i)) (other i h);
    depth = λ i h. ap (λ (t : Bool). cond t d (L.depth i)) (other i h);
  }
    where
      other : (i : ℕ) → i < n → eqb i n ≡ false
      other i h = ne_eqb i n (λ (e : i ≡ n). omega arith)

  pub new_role : (labelled L n r o g d).role n ≡ r
  unfolding labelled
  new_role = ap (λ (t : Bool). cond t r (L.role n)) (eq-eqb n n refl)

  pub new_owner : (labelled L n r o g d).owner n ≡ o
  unfolding labelled
  new_owner = ap (λ (t : Bool). cond t o (L.owner n)) (eq-eqb n n refl)

  pub new_goal : (labelled L n r o g d).goal n ≡ g
  unfolding labelled
  new_goal = ap (λ (t : Bool). cond t g (L.goal n)) (eq-eqb n n refl)

  pub new_depth : (labelled L n r o g d).depth n ≡ d
  unfolding labelled
  new_depth = ap (λ (t : Bool). cond t d (L.depth n)) (eq-eqb n n refl)
