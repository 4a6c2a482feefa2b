-- The sheet in the lent table: nodes that agree with a network's in the first n have its arcs, whatever stands behind them.
use mathlib.Core.Path.{◌≡◌, refl, sym, ap, ◌∙◌}
use mathlib.Core.Logic.{◌⊎◌, inl, inr, ◌≢◌}
use mathlib.Core.Bool.{Bool, true, false, not, cond, ◌&&◌, ◌||◌}
use mathlib.Core.List.{List, ◌∷◌}
use Prim.Native.Nat.{ℕ, zero, suc, ◌+◌, ◌-◌, ◌≤◌, ◌<◌}
use native.Mathlib.Omega.{arith}
use lib.Dec.{eqb}
use Rattle.laws.proofs.Truth.{true_or_false}
use Rattle.net_node.specs.Table.{is_fake}
use Rattle.laws.proofs.Below.{some_same}
use Rattle.net_node.specs.declared.EstTime.{EstTime}
use Rattle.grow_rules.specs.Run.{Arc}
use Rattle.arcs_growth.specs.Arcs.{one, source_as, is_alternative, is_base, alternative_of, owners, is_owned, source_of, goal_of, arc_of, arcs_below, arcs_read}
use Rattle.arcs_growth.specs.Shape.{Shape, is_receiver}
use Rattle.arcs_passes.proofs.Roles.{goal_end, goal_event, goal_fake, receiver_is, receiver_inside}

-- an arc between two ends, with a node's own time and distance to next
abbrev arc_with : ℕ → ℕ → EstTime → Arc
arc_with from to x = record { from = from; to = to; time = x.time_to_next; distance = x.dist_to_next }

module _ (node other : ℕ → EstTime) (n : ℕ) (ag : (i : ℕ) → i < n → other i ≡ node i) (s : Shape node n) where
  alternative_same : (i : ℕ) → is_alternative other n i ≡ is_alternative node n i
  unfolding is_alternative
  alternative_same i = ap (λ (t : Bool). not (eqb i 0) && t) (some_same n (λ k. eqb (other k).idx_next_alt i) (λ k. eqb (node k).idx_next_alt i) (λ k h. ap (λ (x : EstTime). eqb x.idx_next_alt i) (ag k h)))

  base_same : (i : ℕ) → i < n → is_base other n i ≡ is_base node n i
  unfolding is_base
  base_same i h = ap (λ (x : EstTime). eqb i 1 || not (is_fake x) || is_alternative other n i) (ag i h) ∙ ap (λ (t : Bool). eqb i 1 || not (is_fake (node i)) || t) (alternative_same i)

  alternative_of_same : (k i : ℕ) → k ≤ n → alternative_of other n k i ≡ alternative_of node n k i
  unfolding alternative_of
  alternative_of_same zero i h = refl
  alternative_of_same (suc k) i h =
      ap (λ (x : EstTime). cond (eqb x.idx_next_alt i) k (alternative_of other n k i)) (ag k (omega arith)) ∙ ap (cond (eqb (node k).idx_next_alt i) k) (alternative_of_same k i (omega arith))

  alternative_of_below : (k i : ℕ) → k ≤ n → alternative_of node n k i < n
  unfolding alternative_of
  alternative_of_below zero i h = omega (arith, s.some)
  alternative_of_below (suc k) i h = go (eqb (node k).idx_next_alt i) (alternative_of_below k i (omega arith))
    where
      go : (t : Bool) → alternative_of node n k i < n → cond t k (alternative_of node n k i) < n
      go true l = omega arith
      go false l = l

  owners_same : (k i : ℕ) → k ≤ n → owners other n k i ≡ owners node n k i
  unfolding owners
  owners_same zero i h = refl
  owners_same (suc k) i h = λ t. owners_same k i (omega arith) t + one (eqb (ag k (omega arith) t).idx_next_alt i)

  source_same : (k i : ℕ) → i < n → source_of other n k i ≡ source_of node n k i
  unfolding source_of is_owned
  source_same zero i h = refl
  source_same (suc k) i h =
      let owned : is_owned other n i ≡ is_owned node n i = λ t. eqb (owners_same n i (omega arith) t) 1 && not (eqb (alternative_of_same n i (omega arith) t) 0) in
      let before : source_of other n k (alternative_of other n n i) ≡ source_of node n k (alternative_of node n n i) =
      ap (source_of other n k) (alternative_of_same n i (omega arith)) ∙ source_same k (alternative_of node n n i) (alternative_of_below n i (omega arith)) in
      λ t. source_as n (eqb i 1 || not (is_fake (ag i h t))) (owned t) i (before t)

  -- a receiver or the end
  abbrev Leads : ℕ → Type 0
  Leads r = (is_receiver node n r ≡ true) ⊎ (r ≡ n - 1)

  goal_same : (k r : ℕ) → Leads r → goal_of other n k r ≡ goal_of node n k r
  unfolding goal_of
  goal_same zero r l = refl
  goal_same (suc k) r (inr e) = ap (goal_of other n (suc k)) e ∙ goal_end other n k ∙ sym (ap (goal_of node n (suc k)) e ∙ goal_end node n k)
  goal_same (suc k) r (inl q) = go (true_or_false (is_fake (node r))) (goal_same k (node r).idx_next)
    where
      fake : is_fake (other r) ≡ is_fake (node r)
      fake = ap is_fake (ag r (receiver_inside node n r q))

      inner : r ≢ n - 1
      inner e = omega (arith, (receiver_is node n r q).1)

      go : (is_fake (node r) ≡ true) ⊎ (is_fake (node r) ≡ false) → (Leads (node r).idx_next → goal_of other n k (node r).idx_next ≡ goal_of node n k (node r).idx_next)
          → goal_of other n (suc k) r ≡ goal_of node n (suc k) r
      go (inl e) ih =
          goal_fake other n k r inner (fake ∙ e) ∙ ap (λ (x : EstTime). goal_of other n k x.idx_next) (ag r (receiver_inside node n r q)) ∙ ih (s.fake_next r q e) ∙ sym (goal_fake node n k r inner e)
      go (inr e) ih = goal_event other n k r inner (fake ∙ e) ∙ sym (goal_event node n k r inner e)

  arc_same : (i : ℕ) → i < n → is_base node n i ≡ true → arc_of other n i ≡ arc_of node n i
  unfolding arc_of
  arc_same i h b =
      ap (λ (x : EstTime). arc_with (source_of other n n i) (goal_of other n n x.idx_next) x) (ag i h)
      ∙ ap (λ (j : ℕ). arc_with j (goal_of other n n (node i).idx_next) (node i)) (source_same n i h)
      ∙ ap (λ (j : ℕ). arc_with (source_of node n n i) j (node i)) (goal_same n (node i).idx_next (inl (s.base_next i h b).0))

  below_same : (k : ℕ) → k ≤ n → arcs_below other n k ≡ arcs_below node n k
  unfolding arcs_below
  below_same zero h = refl
  below_same (suc k) h =
      ap (λ (t : Bool). cond t (arc_of other n k ∷ arcs_below other n k) (arcs_below other n k)) (base_same k (omega arith))
      ∙ ap (λ (xs : List Arc). cond (is_base node n k) (arc_of other n k ∷ xs) xs) (below_same k (omega arith))
      ∙ go (is_base node n k) refl
    where
      go : (t : Bool) → is_base node n k ≡ t → cond t (arc_of other n k ∷ arcs_below node n k) (arcs_below node n k) ≡ cond t (arc_of node n k ∷ arcs_below node n k) (arcs_below node n k)
      go true e = ap (λ (a : Arc). a ∷ arcs_below node n k) (arc_same k (omega arith) e)
      go false e = refl

  pub arcs_agree : arcs_read other n ≡ arcs_read node n
  unfolding arcs_read
  arcs_agree = below_same n (omega arith)
