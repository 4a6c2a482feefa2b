-- The search along the alternatives: a turn by what it meets, what the loop keeps, and each way a turn can end.
use mathlib.Core.Path.{◌≡◌, refl, sym, ap, ◌∙◌, subst}
use mathlib.Core.Bool.{Bool, true, false}
use Prim.Native.Nat.{ℕ, zero, suc, ◌+◌, ◌-◌, ◌≤◌, ◌<◌}
use native.Mathlib.Omega.{arith}
use borrow.Author.Tests.{eq-eqb, ne_eqb, eqb-true, eqb-false}
use lib.Dec.{eqb}
use lib.Ieee.{Float}
use Rattle.net_node.specs.declared.EstTime.{EstTime}
use Rattle.net_node.specs.declared.TimedEvent.{TimedEvent}
use Rattle.net_node.specs.Table.{Indexed}
use Rattle.net_insertion.specs.declared.Seek.{Seek}
use Rattle.net_insertion.specs.declared.Seek.TheVariants.{Open, Match, Split}
use Rattle.net_insertion.specs.Insertion.{matches, found, seek}

pub seek_turn : (k : ℕ) (node : ℕ → EstTime) (join : Float) (e : TimedEvent) (i : ℕ) (a b c : Bool)
    → eqb (node i).idx_next 0 ≡ a → matches join e (node (node i).idx_next) ≡ b → eqb (node i).idx_next_alt 0 ≡ c
    → seek (suc k) node join e i ≡ found a b c i (node i).idx_next (seek k node join e (node i).idx_next_alt)
unfolding seek
seek_turn k node join e i a b c p q r = rw (p, q, r)

-- At node i there are turns left for every later node, and they give what is sought.
pub record Seeking (node : ℕ → EstTime) (n : ℕ) (join : Float) (e : TimedEvent) (start i : ℕ) : Type 0 where
  pub left : ℕ
  pub within : i < n
  pub enough : n ≤ suc left + i
  pub answer : seek (suc left) node join e i ≡ seek n node join e start

pub seeking_start : (node : ℕ → EstTime) (n : ℕ) (join : Float) (e : TimedEvent) (start : ℕ) → start < n
    → Seeking node n join e start start
seeking_start node n join e start h =
    let s : suc (n - 1) ≡ n = omega arith in
    record { left = n - 1; within = h; enough = omega arith; answer = ap (λ (k : ℕ). seek k node join e start) s }

-- where node i was loaded as x
module _ {node : ℕ → EstTime} {n : ℕ} {join : Float} {e : TimedEvent} {start i : ℕ} (w : Indexed node n)
    (v : Seeking node n join e start i) (x : EstTime) (l : x ≡ node i) where
  pub next_within : x.idx_next < n
  next_within = subst (λ (y : EstTime). y.idx_next < n) (sym l) (w.next i v.within)

  pub seeking_open : x.idx_next ≡ 0 → Open i ≡ seek n node join e start
  seeking_open h =
      sym (seek_turn v.left node join e i true
      _ _ (eq-eqb (node i).idx_next 0 (ap (λ (y : EstTime). y.idx_next) (sym l) ∙ h)) refl refl) ∙ v.answer

  -- and its next as y
  module _ (real : x.idx_next ≡ 0 → ⊥) (y : EstTime) (m : y ≡ node x.idx_next) where
    turn : (b c : Bool) → matches join e y ≡ b → eqb x.idx_next_alt 0 ≡ c
        → found false b c i x.idx_next (seek v.left node join e x.idx_next_alt) ≡ seek n node join e start
    turn b c p q =
        ap (λ (z : EstTime). found false b c i z.idx_next (seek v.left node join e z.idx_next_alt)) l
        ∙ sym (seek_turn v.left node join e i false b c
        (ne_eqb (node i).idx_next 0 (λ (o : (node i).idx_next ≡ 0). real (ap (λ (z : EstTime). z.idx_next) l ∙ o)))
        (ap (λ (z : EstTime). matches join e (node z.idx_next)) (sym l) ∙ ap (matches join e) (sym m) ∙ p)
        (ap (λ (z : EstTime). eqb z.idx_next_alt 0) (sym l) ∙ q))
        ∙ v.answer

    pub seeking_match : matches join e y ≡ true → Match x.idx_next ≡ seek n node join e start
    seeking_match h = turn true _ h refl

    pub seeking_split : matches join e y ≡ false → x.idx_next_alt ≡ 0 → Split i ≡ seek n node join e start
    seeking_split h z = turn false true h (eq-eqb x.idx_next_alt 0 z)

    pub alternative_later : (x.idx_next_alt ≡ 0 → ⊥) → i < x.idx_next_alt
    alternative_later z =
        subst (λ (y : EstTime). (y.idx_next_alt ≡ 0 → ⊥) → i < y.idx_next_alt) (sym l)
        (λ (o : (node i).idx_next_alt ≡ 0 → ⊥). w.next_alt_rises i v.within (positive o)) z
      where
        positive : {k : ℕ} → (k ≡ 0 → ⊥) → 0 < k
        positive {k} o = omega arith

    pub alternative_within : x.idx_next_alt < n
    alternative_within = subst (λ (y : EstTime). y.idx_next_alt < n) (sym l) (w.next_alt i v.within)

    pub seeking_on : matches join e y ≡ false → (x.idx_next_alt ≡ 0 → ⊥) → Seeking node n join e start x.idx_next_alt
    seeking_on h z =
        let s : suc (v.left - 1) ≡ v.left = omega (arith, v.enough, alternative_later z, alternative_within) in
        record {
          left = v.left - 1;
          within = alternative_within;
          enough = omega (arith, v.enough, alternative_later z);
          answer = ap (λ (k : ℕ). seek k node join e x.idx_next_alt) s ∙ turn false false h (ne_eqb x.idx_next_alt 0 z);
        }

-- ---- what is found

-- a node without a next; a node that matches; or a node with a next, after which no alternative is left
abbrev pub Found : (ℕ → EstTime) → ℕ → Float → TimedEvent → Seek → Type 0
Found node n join e (Open i) = (i < n) × ((node i).idx_next ≡ 0)
Found node n join e (Match i) = (i < n) × ((0 < i) × (matches join e (node i) ≡ true))
Found node n join e (Split i) = (i < n) × ((0 < (node i).idx_next) × ((node i).idx_next_alt ≡ 0))

pub seek_found : {node : ℕ → EstTime} {n : ℕ} → Indexed node n → (k : ℕ) (join : Float) (e : TimedEvent) (i : ℕ) → i < n
    → n ≤ k + i → Found node n join e (seek k node join e i)
seek_found w zero join e i h g = absurd (omega arith)
seek_found {node} {n} w (suc k) join e i h g =
    subst (Found node n join e) (sym (seek_turn k node join e i _ _ _ refl refl refl))
    (go (eqb (node i).idx_next 0) (matches join e (node (node i).idx_next)) (eqb (node i).idx_next_alt 0) refl refl refl
    (λ o. seek_found w k join e (node i).idx_next_alt (w.next_alt i h) (omega (arith, w.next_alt_rises i h (some o)))))
  where
    some : {m : ℕ} → eqb m 0 ≡ false → 0 < m
    some {m} o = let q : m ≡ 0 → ⊥ = eqb-false m 0 o in omega arith

    go : (a b c : Bool) → eqb (node i).idx_next 0 ≡ a → matches join e (node (node i).idx_next) ≡ b
        → eqb (node i).idx_next_alt 0 ≡ c
        → (eqb (node i).idx_next_alt 0 ≡ false → Found node n join e (seek k node join e (node i).idx_next_alt))
        → Found node n join e (found a b c i (node i).idx_next (seek k node join e (node i).idx_next_alt))
    go true b c p q r later = (h, eqb-true (node i).idx_next 0 p)
    go false true c p q r later = (w.next i h, (some p, q))
    go false false true p q r later = (h, (some p, eqb-true (node i).idx_next_alt 0 r))
    go false false false p q r later = later r

pub sought_found : (node : ℕ → EstTime) (n : ℕ) (join : Float) (e : TimedEvent) (start : ℕ) (s : Seek)
    → s ≡ seek n node join e start → Indexed node n → start < n → Found node n join e s
sought_found node n join e start s f w h =
    subst (Found node n join e) (sym f) (seek_found w n join e start h (omega arith))
