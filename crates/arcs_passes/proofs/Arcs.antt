-- What an exchange of receivers does to the arcs. Where both receivers lead to one goal and times stay, each base keeps its arc; where both bases have one source and times go along, two arcs change places.
use mathlib.Core.Path.{◌≡◌, refl, sym, ap, ◌∙◌, subst}
use mathlib.Core.Logic.{◌⊎◌, inl, inr, ◌≢◌}
use mathlib.Core.Bool.{Bool, true, false, cond}
use mathlib.Core.List.{◌∷◌}
use Prim.Native.Nat.{ℕ, zero, suc, ◌+◌, ◌≤◌, ◌<◌}
use native.Mathlib.Nat.{le_refl}
use native.Mathlib.Omega.{arith}
use lib.Ieee.{Float}
use Rattle.laws.proofs.Truth.{equal_or_not}
use Rattle.laws.specs.Below.{sum_below}
use Rattle.net_node.specs.declared.EstTime.{EstTime}
use Rattle.grow_rules.specs.Run.{Arc}
use Rattle.arcs_growth.specs.Arcs.{is_base, source_of, goal_of, arc_of, arcs_below, arcs_read, same_arc, one, times_in, SameArcs}
use Rattle.arcs_growth.specs.Shape.{is_receiver, Shape}
use Rattle.arcs_passes.proofs.Frames.{SameFrames, base_same, source_same}
use Rattle.arcs_passes.proofs.Swapped.{Swapped, goal_same}
use Rattle.arcs_passes.proofs.Sums.{sum_exchanged}

-- what a base holds up to its next
pub record Held : Type 0 where
  pub time : Float
  pub distance : Float

abbrev pub held_of : EstTime → Held
held_of x = record { time = x.time_to_next; distance = x.dist_to_next }

-- ---- the arcs as a sum

-- whether base i has the arc c
abbrev count : Arc → (ℕ → EstTime) → ℕ → ℕ → ℕ
count c node n i = cond (is_base node n i) (one (same_arc c (arc_of node n i))) 0

times_sum : (c : Arc) (node : ℕ → EstTime) (n k : ℕ) → times_in c (arcs_below node n k) ≡ sum_below k (count c node n)
unfolding times_in arcs_below sum_below
times_sum c node n zero = refl
times_sum c node n (suc k) = go (is_base node n k) (times_sum c node n k)
  where
    go : (b : Bool) → times_in c (arcs_below node n k) ≡ sum_below k (count c node n)
        → times_in c (cond b (arc_of node n k ∷ arcs_below node n k) (arcs_below node n k)) ≡ sum_below k (count c node n) + cond b (one (same_arc c (arc_of node n k))) 0
    go true ih = omega arith
    go false ih = omega arith

read_sum : (c : Arc) (node : ℕ → EstTime) (n : ℕ) → times_in c (arcs_read node n) ≡ sum_below n (count c node n)
unfolding arcs_read
read_sum c node n = times_sum c node n n

-- ---- each base keeps its arc

abbrev pub EachArc : (ℕ → EstTime) → (ℕ → EstTime) → ℕ → Type 0
EachArc node node' n = (i : ℕ) → i < n → is_base node n i ≡ true → arc_of node' n i ≡ arc_of node n i

below_same : (node node' : ℕ → EstTime) (n k : ℕ) → SameFrames node node' → EachArc node node' n → k ≤ n → arcs_below node' n k ≡ arcs_below node n k
unfolding arcs_below
below_same node node' n zero f e h = refl
below_same node node' n (suc k) f e h =
    ap (λ (b : Bool). cond b (arc_of node' n k ∷ arcs_below node' n k) (arcs_below node' n k)) (base_same node node' f n k) ∙ go (is_base node n k) refl (below_same node node' n k f e (omega arith))
  where
    go : (b : Bool) → is_base node n k ≡ b → arcs_below node' n k ≡ arcs_below node n k
        → cond b (arc_of node' n k ∷ arcs_below node' n k) (arcs_below node' n k) ≡ cond b (arc_of node n k ∷ arcs_below node n k) (arcs_below node n k)
    go true b ih = λ t. e k h b t ∷ ih t
    go false b ih = ih

pub read_same : (node node' : ℕ → EstTime) (n : ℕ) → SameFrames node node' → EachArc node node' n → arcs_read node' n ≡ arcs_read node n
unfolding arcs_read
read_same node node' n f e = below_same node node' n n f e (le_refl n)

-- ---- two arcs change places

pub read_exchanged : (node node' : ℕ → EstTime) (n a b : ℕ) → SameFrames node node' → a < n → b < n → is_base node n a ≡ true → is_base node n b ≡ true → a ≢ b
    → arc_of node' n a ≡ arc_of node n b → arc_of node' n b ≡ arc_of node n a → ((i : ℕ) → i < n → is_base node n i ≡ true → i ≢ a → i ≢ b → arc_of node' n i ≡ arc_of node n i)
    → SameArcs (arcs_read node n) (arcs_read node' n)
read_exchanged node node' n a b f ha hb ba bb o ea eb e c =
    read_sum c node n
    ∙ sym (sum_exchanged n (count c node' n) (count c node n) a b ha hb o (like a b ba bb ea) (like b a bb ba eb)
    (λ (i : ℕ) (h : i < n) (p : i ≢ a) (q : i ≢ b). at i (is_base node n i) refl (λ (g : is_base node n i ≡ true). e i h g p q)))
    ∙ sym (read_sum c node' n)
  where
    base : (i : ℕ) → is_base node' n i ≡ is_base node n i
    base = base_same node node' f n

    like : (i j : ℕ) → is_base node n i ≡ true → is_base node n j ≡ true → arc_of node' n i ≡ arc_of node n j → count c node' n i ≡ count c node n j
    like i j p q r = ap (λ (x : Bool). cond x (one (same_arc c (arc_of node' n i))) 0) (base i ∙ p ∙ sym q) ∙ ap (λ (x : Arc). cond (is_base node n j) (one (same_arc c x)) 0) r

    at : (i : ℕ) (x : Bool) → is_base node n i ≡ x → (is_base node n i ≡ true → arc_of node' n i ≡ arc_of node n i) → count c node' n i ≡ count c node n i
    at i true p r = like i i p p (r p)
    at i false p r = ap (λ (x : Bool). cond x (one (same_arc c (arc_of node' n i))) 0) (base i ∙ p) ∙ sym (ap (λ (x : Bool). cond x (one (same_arc c (arc_of node n i))) 0) p)

-- ---- arcs after an exchange of receivers

module _ (node node' : ℕ → EstTime) (n a b : ℕ) (s : Shape node n) (w : Swapped node node' n a b) where
  -- x has the arc that y had: its new next is z
  arc_as : (x y z : ℕ) → (node' x).idx_next ≡ z → is_receiver node n z ≡ true → goal_of node n n z ≡ goal_of node n n (node y).idx_next → source_of node n n x ≡ source_of node n n y → held_of (node' x) ≡ held_of (node y)
      → arc_of node' n x ≡ arc_of node n y
  unfolding arc_of
  arc_as x y z p r g f h =
      let from : source_of node' n n x ≡ source_of node n n y = source_same node node' w.frames n n x ∙ f in
      let to : goal_of node' n n (node' x).idx_next ≡ goal_of node n n (node y).idx_next = ap (goal_of node' n n) p ∙ goal_same node node' n a b s w n z r ∙ g in
      λ t. record { from = from t; to = to t; time = (h t).time; distance = (h t).distance }

  receives : (x : ℕ) → x < n → is_base node n x ≡ true → is_receiver node n (node x).idx_next ≡ true
  receives x h e = (s.base_next x h e).0

  -- both receivers lead to one goal, and what bases hold stays
  pub goal_swapped : goal_of node n n (node a).idx_next ≡ goal_of node n n (node b).idx_next → ((x : ℕ) → held_of (node' x) ≡ held_of (node x)) → EachArc node node' n
  goal_swapped g h i l e = go (equal_or_not i a) (equal_or_not i b)
    where
      go : (i ≡ a) ⊎ (i ≢ a) → (i ≡ b) ⊎ (i ≢ b) → arc_of node' n i ≡ arc_of node n i
      go (inl p) q = subst (λ (x : ℕ). arc_of node' n x ≡ arc_of node n x) (sym p) (arc_as a a (node b).idx_next w.next_a (receives b w.inside_b w.base_b) (sym g) refl (h a))
      go (inr p) (inl q) = subst (λ (x : ℕ). arc_of node' n x ≡ arc_of node n x) (sym q) (arc_as b b (node a).idx_next w.next_b (receives a w.inside_a w.base_a) g refl (h b))
      go (inr p) (inr q) = arc_as i i (node i).idx_next (w.next_other i p q) (receives i l e) refl refl (h i)

  -- both bases have one source, and what they hold goes along
  pub source_swapped : a ≢ b → source_of node n n a ≡ source_of node n n b → held_of (node' a) ≡ held_of (node b) → held_of (node' b) ≡ held_of (node a) → ((x : ℕ) → x ≢ a → x ≢ b → held_of (node' x) ≡ held_of (node x))
      → (arc_of node' n a ≡ arc_of node n b) × (arc_of node' n b ≡ arc_of node n a) × ((i : ℕ) → i < n → is_base node n i ≡ true → i ≢ a → i ≢ b → arc_of node' n i ≡ arc_of node n i)
  source_swapped o f ha hb h = (
    arc_as a b (node b).idx_next w.next_a (receives b w.inside_b w.base_b) refl f ha,
    arc_as b a (node a).idx_next w.next_b (receives a w.inside_a w.base_a) refl (sym f) hb,
    λ i l e p q. arc_as i i (node i).idx_next (w.next_other i p q) (receives i l e) refl refl (h i p q),
  )

  pub source_swapped_read : a ≢ b → source_of node n n a ≡ source_of node n n b → held_of (node' a) ≡ held_of (node b) → held_of (node' b) ≡ held_of (node a) → ((x : ℕ) → x ≢ a → x ≢ b → held_of (node' x) ≡ held_of (node x))
      → SameArcs (arcs_read node n) (arcs_read node' n)
  source_swapped_read o f ha hb h =
      let q = source_swapped o f ha hb h in
      read_exchanged node node' n a b w.frames w.inside_a w.inside_b w.base_a w.base_b o q.0 q.1 q.2
