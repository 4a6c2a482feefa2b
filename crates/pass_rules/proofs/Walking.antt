-- The relink walks: a turn by what it meets, what the loop keeps, and each way a turn can end. Both walks are of one form: from a node on while it is passable, for so many Fakes.
use mathlib.Core.Path.{◌≡◌, refl, sym, ap, ◌∙◌, subst}
use mathlib.Core.Bool.{Bool, true, false, not, ◌&&◌}
use mathlib.Core.List.{List}
use Prim.Native.Nat.{ℕ, zero, suc, ◌+◌, ◌-◌, ◌≤◌, ◌<◌}
use native.Mathlib.Omega.{arith}
use lib.Dec.{eqb, ltb}
use lib.ListN.{get_or}
use lib.Ieee.{Float}
use Rattle.net_node.specs.declared.EstTime.{EstTime}
use Rattle.net_node.specs.Table.{node_at, Table, at, is_fake}
use Rattle.laws.specs.Answer.{Answer, refused, given}
use Rattle.pass_rules.specs.Net.{Pass}
use Rattle.pass_rules.specs.Walks.{Inside, table_of, done_in, pass_of, ahead, end_of, passable, relink_walk}
use Rattle.pass_rules.specs.Forward as Forward
use Rattle.pass_rules.specs.Backward as Backward
use Rattle.pass_rules.proofs.Sets.{next_inside, prev_inside}

-- ---- a turn

module _ (p : Pass) (n i : ℕ) where
  walk_stops : (d : Bool) (k : ℕ) → passable d p n i ≡ false → relink_walk d k p n i ≡ given i
  unfolding Forward.relink_walk Backward.relink_walk
  walk_stops true zero e = rw e
  walk_stops true (suc k) e = rw e
  walk_stops false zero e = rw e
  walk_stops false (suc k) e = rw e

  walk_ends : (d : Bool) → passable d p n i ≡ true → relink_walk d 0 p n i ≡ refused 15
  unfolding Forward.relink_walk Backward.relink_walk
  walk_ends true e = rw e
  walk_ends false e = rw e

  walk_goes : (d : Bool) (k : ℕ) → passable d p n i ≡ true → relink_walk d (suc k) p n i ≡ relink_walk d k p n (ahead d (at p.table i))
  unfolding Forward.relink_walk Backward.relink_walk
  walk_goes true k e = rw e
  walk_goes false k e = rw e

-- ---- whether a node is passable

and_three : (a b c : Bool) → (a && (b && c)) ≡ (a && b && c)
and_three true b c = refl
and_three false b c = refl

module _ (t : Table) (flags : List ℕ) (i : ℕ) (x : EstTime) (l : x ≡ node_at t.floats t.numbers i) (fake : Bool) (f : fake ≡ is_fake x) where
  passable_is : (d : Bool) (n : ℕ) → (fake && (not (ltb 0 (get_or flags (ahead d x) 0)) && not (eqb (ahead d x) (end_of d n)))) ≡ passable d (pass_of t (done_in flags)) n i
  unfolding Forward.is_passable Backward.is_passable done_in at
  passable_is d n =
      ap (λ (b : Bool). b && (not (ltb 0 (get_or flags (ahead d x) 0)) && not (eqb (ahead d x) (end_of d n)))) f
      ∙ ap (λ (z : EstTime). is_fake z && (not (ltb 0 (get_or flags (ahead d z) 0)) && not (eqb (ahead d z) (end_of d n)))) l
      ∙ and_three (is_fake (at t i)) (not (done_in flags (ahead d (at t i)))) (not (eqb (ahead d (at t i)) (end_of d n)))
      ∙ told d
    where
      told : (d : Bool) → (is_fake (at t i) && not (done_in flags (ahead d (at t i))) && not (eqb (ahead d (at t i)) (end_of d n))) ≡ passable d (pass_of t (done_in flags)) n i
      told true = refl
      told false = refl

  -- by where the node leads and where the walk ends
  pub passable_by : (d : Bool) (n to end : ℕ) → to ≡ ahead d x → end ≡ end_of d n → (fake && (not (ltb 0 (get_or flags to 0)) && not (eqb to end))) ≡ passable d (pass_of t (done_in flags)) n i
  passable_by d n to end g h =
      ap (λ (k : ℕ). fake && (not (ltb 0 (get_or flags k 0)) && not (eqb k end))) g
      ∙ ap (λ (k : ℕ). fake && (not (ltb 0 (get_or flags (ahead d x) 0)) && not (eqb (ahead d x) k))) h
      ∙ passable_is d n

-- where a walk goes is a node
pub ahead_inside : (d : Bool) (fs : List Float) (us : List ℕ) {n : ℕ} → Inside (node_at fs us) n → (i : ℕ) → i < n → (x : EstTime) → x ≡ node_at fs us i → ahead d x < n
ahead_inside true fs us w i h x l = prev_inside fs us w i h x l
ahead_inside false fs us w i h x l = next_inside fs us w i h x l

-- ---- the loop

-- At node i, with so many Fakes passed, the walk of what is left gives what is sought.
pub record Walking (walk : ℕ → ℕ → Answer ℕ) (n start i count : ℕ) : Type 0 where
  pub within : i < n
  pub most : count ≤ n
  pub answer : walk (n - count) i ≡ walk n start

module _ (walk : ℕ → ℕ → Answer ℕ) (n start : ℕ) where
  pub walking_start : start < n → Walking walk n start start 0
  walking_start h = record { within = h; most = omega arith; answer = ap (λ (k : ℕ). walk k start) (less n) }
    where
      less : (m : ℕ) → m - 0 ≡ m
      less m = omega arith

  module _ (i count : ℕ) (v : Walking walk n start i count) where
    pub walking_found : walk (n - count) i ≡ given i → (walk n start ≡ given i) × (i < n)
    walking_found e = (sym v.answer ∙ e, v.within)

    pub walking_endless : n ≤ count → walk 0 i ≡ refused 15 → walk n start ≡ refused 15
    walking_endless h e = let z : n - count ≡ 0 = omega arith in sym v.answer ∙ ap (λ (k : ℕ). walk k i) z ∙ e

    pub walking_on : count < n → (j : ℕ) → j < n → walk (suc (n - (count + 1))) i ≡ walk (n - (count + 1)) j → Walking walk n start j (count + 1)
    walking_on h j g e =
        let s : suc (n - (count + 1)) ≡ n - count = omega arith in
        record { within = g; most = omega arith; answer = sym e ∙ ap (λ (k : ℕ). walk k i) s ∙ v.answer }

-- ---- each way a turn ends

abbrev pub walk_of : Bool → List Float → List ℕ → List ℕ → ℕ → ℕ → ℕ → Answer ℕ
walk_of d fs us flags n k i = relink_walk d k (pass_of (table_of fs us) (done_in flags)) n i

module _ (d : Bool) (fs : List Float) (us flags : List ℕ) (n start i count : ℕ) (v : Walking (walk_of d fs us flags n) n start i count) (r : Bool)
    (e : r ≡ passable d (pass_of (table_of fs us) (done_in flags)) n i) where
  pub walk_found : r ≡ false → (walk_of d fs us flags n n start ≡ given i) × (i < n)
  walk_found h = walking_found (walk_of d fs us flags n) n start i count v (walk_stops (pass_of (table_of fs us) (done_in flags)) n i d (n - count) (sym e ∙ h))

  pub walk_endless : r ≡ true → n ≤ count → walk_of d fs us flags n n start ≡ refused 15
  walk_endless h g = walking_endless (walk_of d fs us flags n) n start i count v g (walk_ends (pass_of (table_of fs us) (done_in flags)) n i d (sym e ∙ h))

  pub walk_on : r ≡ true → count < n → Inside (node_at fs us) n → (x : EstTime) → x ≡ node_at fs us i → (j : ℕ) → j ≡ ahead d x → Walking (walk_of d fs us flags n) n start j (count + 1)
  unfolding at
  walk_on h g w x l j z =
      walking_on (walk_of d fs us flags n) n start i count v g j (subst (λ (k : ℕ). k < n) (sym z) (ahead_inside d fs us w i v.within x l))
      (walk_goes (pass_of (table_of fs us) (done_in flags)) n i d (n - (count + 1)) (sym e ∙ h) ∙ ap (λ (y : EstTime). walk_of d fs us flags n (n - (count + 1)) (ahead d y)) (sym l) ∙ ap (walk_of d fs us flags n (n - (count + 1))) (sym z))
