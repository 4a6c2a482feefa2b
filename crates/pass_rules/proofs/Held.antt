-- The checks of a node, put together from those by itself and by its neighbours, and the loop over all nodes.
use mathlib.Core.Path.{◌≡◌, refl, sym, ap, ◌∙◌}
use mathlib.Core.Bool.{Bool, true, false, not, beq, ◌&&◌, ◌||◌, true≢false}
use Prim.Native.Nat.{ℕ, ◌+◌, ◌-◌, ◌≤◌, ◌<◌}
use native.Mathlib.Omega.{arith}
use lib.Dec.{eqb, leb, ltb}
use borrow.Author.Tests.{ltb-true, lt-leb, ne_eqb}
use Rattle.laws.proofs.Truth.{and_left, and_right}
use Rattle.laws.specs.Below.{some_below}
use Rattle.laws.proofs.Below.{some_at, none_more}
use Rattle.net_node.specs.declared.EstTime.{EstTime}
use Rattle.net_node.specs.Table.{is_fake}
use Rattle.pass_rules.specs.Checks.{differ, prev_holds, next_holds, fake_holds, prev_leads, next_leads, not_both_alternates, node_holds, row14}
use Rattle.pass_rules.specs.Plain.{plain}

-- one of two, as the code compares them
pub differ_is : (a b : Bool) → not (beq a b) ≡ differ a b
differ_is true true = refl
differ_is true false = refl
differ_is false true = refl
differ_is false false = refl

or_four : (a b c d : Bool) → (a || (b || (c || d))) ≡ (a || b || c || d)
or_four true b c d = refl
or_four false true c d = refl
or_four false false c d = refl

and_six : (a b c d e f : Bool) → ((a && (b && c)) && (d && (e && f))) ≡ (a && b && c && d && e && f)
and_six false b c d e f = refl
and_six true false c d e f = refl
and_six true true false d e f = refl
and_six true true true false e f = refl
and_six true true true true false f = refl
and_six true true true true true f = refl

-- what is said of the values loaded is said of the nodes
own_at : (node : ℕ → EstTime) (n i : ℕ) → (prev_holds (λ _. node i) n i && (next_holds (λ _. node i) n i && fake_holds (λ _. node i) n i)) ≡ (prev_holds node n i && (next_holds node n i && fake_holds node n i))
unfolding prev_holds next_holds fake_holds
own_at node n i = refl

near_at : (node : ℕ → EstTime) (n i : ℕ) (x y : EstTime) → x ≡ node (node i).idx_prev → y ≡ node (node i).idx_next
    → (prev_leads (λ _. x) n i && (next_leads (λ _. y) n i && (not (eqb x.idx_next_alt i) || (not (eqb y.idx_prev_alt i) || (eqb i 0 || eqb i (n - 1))))))
    ≡ (prev_leads node n i && (next_leads node n i && not_both_alternates node n i))
unfolding prev_leads next_leads not_both_alternates
near_at node n i x y p q =
    ap (λ (z : EstTime). prev_leads (λ _. z) n i && (next_leads (λ _. y) n i && (not (eqb z.idx_next_alt i) || (not (eqb y.idx_prev_alt i) || (eqb i 0 || eqb i (n - 1)))))) p
    ∙ ap (λ (z : EstTime). prev_leads node n i && (next_leads (λ _. z) n i && (not (eqb (node (node i).idx_prev).idx_next_alt i) || (not (eqb z.idx_prev_alt i) || (eqb i 0 || eqb i (n - 1)))))) q
    ∙ ap (λ (b : Bool). prev_leads node n i && (next_leads node n i && b))
    (or_four (not (eqb (node (node i).idx_prev).idx_next_alt i)) (not (eqb (node (node i).idx_next).idx_prev_alt i)) (eqb i 0) (eqb i (n - 1)))

pub all_hold : (node : ℕ → EstTime) (n i : ℕ) (h x y : EstTime) (own near : Bool) → h ≡ node i → x ≡ node h.idx_prev → y ≡ node h.idx_next
    → own ≡ (prev_holds (λ _. h) n i && (next_holds (λ _. h) n i && fake_holds (λ _. h) n i))
    → near ≡ (prev_leads (λ _. x) n i && (next_leads (λ _. y) n i && (not (eqb x.idx_next_alt i) || (not (eqb y.idx_prev_alt i) || (eqb i 0 || eqb i (n - 1))))))
    → (own && near) ≡ node_holds node n i
unfolding node_holds
all_hold node n i h x y own near l p q a b =
    ap (λ (t : Bool). t && near) (a ∙ ap (λ (z : EstTime). prev_holds (λ _. z) n i && (next_holds (λ _. z) n i && fake_holds (λ _. z) n i)) l ∙ own_at node n i)
    ∙ ap (λ (t : Bool). (prev_holds node n i && (next_holds node n i && fake_holds node n i)) && t)
    (b ∙ near_at node n i x y (p ∙ ap (λ (z : EstTime). node z.idx_prev) l) (q ∙ ap (λ (z : EstTime). node z.idx_next) l))
    ∙ and_six (prev_holds node n i) (next_holds node n i) (fake_holds node n i) (prev_leads node n i) (next_leads node n i) (not_both_alternates node n i)

-- ---- a node that is plain

-- the tests of a plain node, and then those of row 14
bools_hold : (a b c d f g k m t u v w y z : Bool) → (a && (b && (c && (d && (f && (g && (k && m))))))) ≡ true → true ≡ (differ c false && differ d false && (m || t || u) && (f || v) && (g || w || false) && (k || y || z || false))
bools_hold false b c d f g k m t u v w y z e = absurd (true≢false (sym e))
bools_hold true false c d f g k m t u v w y z e = absurd (true≢false (sym e))
bools_hold true true false d f g k m t u v w y z e = absurd (true≢false (sym e))
bools_hold true true true false f g k m t u v w y z e = absurd (true≢false (sym e))
bools_hold true true true true false g k m t u v w y z e = absurd (true≢false (sym e))
bools_hold true true true true true false k m t u v w y z e = absurd (true≢false (sym e))
bools_hold true true true true true true false m t u v w y z e = absurd (true≢false (sym e))
bools_hold true true true true true true true false t u v w y z e = absurd (true≢false (sym e))
bools_hold true true true true true true true true t u v w y z e = refl

module _ (node : ℕ → EstTime) (n i : ℕ) where
  abbrev before : EstTime
  before = node (node i).idx_prev

  abbrev after : EstTime
  after = node (node i).idx_next

  abbrev linked : Bool
  linked = not (eqb (node i).idx_prev 0) && (not (eqb (node i).idx_next 0) && (eqb before.idx_next i && (eqb after.idx_prev i && (not (eqb before.idx_next_alt i) && not (is_fake (node i))))))

  abbrev checks : Bool → Bool → Bool
  checks first last =
      differ (not (eqb (node i).idx_prev 0)) first
      && differ (not (eqb (node i).idx_next 0)) last
      && (not (is_fake (node i)) || eqb (node i).idx_prev_alt 0 || eqb (node i).idx_next_alt 0)
      && (eqb before.idx_next i || eqb before.idx_next_alt i)
      && (eqb after.idx_prev i || eqb after.idx_prev_alt i || last)
      && (not (eqb before.idx_next_alt i) || not (eqb after.idx_prev_alt i) || eqb i 0 || last)

  plain_node : plain (node i) before after n i ≡ true → true ≡ node_holds node n i
  unfolding plain node_holds prev_holds next_holds fake_holds prev_leads next_leads not_both_alternates
  plain_node e =
      bools_hold (ltb 1 i) (ltb i (n - 1)) (not (eqb (node i).idx_prev 0)) (not (eqb (node i).idx_next 0)) (eqb before.idx_next i) (eqb after.idx_prev i) (not (eqb before.idx_next_alt i))
      (not (is_fake (node i))) (eqb (node i).idx_prev_alt 0) (eqb (node i).idx_next_alt 0) (eqb before.idx_next_alt i) (eqb after.idx_prev_alt i)
      (not (eqb after.idx_prev_alt i)) (eqb i 0) e
      ∙ ap (λ (t : Bool). checks t false) (sym first) ∙ ap (λ (t : Bool). checks (leb i 1) t) (sym last)
    where
      first : leb i 1 ≡ false
      first = lt-leb i 1 (ltb-true 1 i (and_left (ltb 1 i) (ltb i (n - 1) && linked) e))

      less : i < n - 1
      less = ltb-true i (n - 1) (and_left (ltb i (n - 1)) linked (and_right (ltb 1 i) (ltb i (n - 1) && linked) e))

      last : eqb i (n - 1) ≡ false
      last = ne_eqb i (n - 1) (λ (q : i ≡ n - 1). omega (arith, q, less))

pub plain_holds : (node : ℕ → EstTime) (n i : ℕ) (h x y : EstTime) → h ≡ node i → x ≡ node h.idx_prev → y ≡ node h.idx_next → (r : Bool) → r ≡ plain h x y n i → r ≡ true → true ≡ node_holds node n i
plain_holds node n i h x y l p q r s t =
    plain_node node n i
    (ap (λ (z : EstTime). plain z (node z.idx_prev) (node z.idx_next) n i) (sym l) ∙ ap (λ (z : EstTime). plain h z (node h.idx_next) n i) (sym p) ∙ ap (λ (z : EstTime). plain h x z n i) (sym q) ∙ sym s ∙ t)

-- ---- the loop

-- none of the first i nodes fails
pub record Checked (node : ℕ → EstTime) (n i : ℕ) : Type 0 where
  pub within : i ≤ n
  pub none : some_below i (λ k. not (node_holds node n k)) ≡ false

module _ (node : ℕ → EstTime) (n : ℕ) where
  pub checked_start : Checked node n 0
  unfolding some_below
  checked_start = record { within = omega arith; none = refl }

  module _ (i : ℕ) (v : Checked node n i) where
    pub checked_fails : (r : Bool) → i < n → r ≡ node_holds node n i → r ≡ false → true ≡ row14 node n
    unfolding row14
    checked_fails r h e f = sym (some_at n (λ k. not (node_holds node n k)) i h (ap not (sym e ∙ f)))

    pub checked_more : (r : Bool) → i < n → r ≡ node_holds node n i → r ≡ true → Checked node n (i + 1)
    checked_more r h e f = record { within = omega arith; none = none_more i (λ k. not (node_holds node n k)) v.none (ap not (sym e ∙ f)) }

    pub checked_all : n ≤ i → false ≡ row14 node n
    unfolding row14
    checked_all h = let e : i ≡ n = omega (arith, v.within) in sym v.none ∙ ap (λ (m : ℕ). some_below m (λ k. not (node_holds node n k))) e
