-- Ways through a network of the shape: along next from a receiver to a receiver or the end, all to one goal; along prev from a base to a base or node 0, all from one source while they are split Fakes.
use mathlib.Core.Path.{◌≡◌, refl, sym, ap, ◌∙◌, subst}
use mathlib.Core.Logic.{◌⊎◌, inl, inr, ◌≢◌, ⊎_elim}
use mathlib.Core.Bool.{Bool, true, false, not, ◌||◌}
use Prim.Native.Nat.{ℕ, zero, suc, ◌-◌, ◌≤◌, ◌<◌}
use native.Mathlib.Omega.{arith}
use borrow.Author.Tests.{eqb-false, ne_eqb, not-false}
use lib.Dec.{eqb}
use Rattle.laws.proofs.Truth.{equal_or_not, true_or_false, not_both}
use Rattle.net_node.specs.Table.{is_fake}
use Rattle.laws.proofs.Below.{none_left, none_right}
use Rattle.net_node.specs.declared.EstTime.{EstTime}
use Rattle.arcs_growth.specs.Arcs.{is_alternative, is_base, alternative_of, is_owned, source_of, goal_of}
use Rattle.arcs_growth.specs.Shape.{is_receiver, Shape}
use Rattle.arcs_growth.proofs.Owners.{owned_by}
use Rattle.arcs_passes.proofs.Roles.{alternative_above, alternative_some, base_event, base_alternative, base_is, is_receiver_lem, receiver_inside, end_receives_not, source_itself, source_step, goal_fake}

module _ (node : ℕ → EstTime) (n : ℕ) (s : Shape node n) where
  -- ---- split Fakes

  -- what is known of an alternative: it is a Fake beyond the start and before the end, and behind its prev, the base whose alternative it is
  pub record Split (i : ℕ) : Type 0 where
    pub above : alternative_of node n n i ≡ (node i).idx_prev
    pub fake : is_fake (node i) ≡ true
    pub beyond : 1 < i
    pub inside : i < n - 1
    pub base : is_base node n (node i).idx_prev ≡ true
    pub prev_inside : (node i).idx_prev < n
    pub rises : (node i).idx_prev < i

  pub split_is : (i : ℕ) → is_alternative node n i ≡ true → Split i
  split_is i e =
      let q = alternative_above node n i e in
      let o = alternative_some node n i e in
      go (alternative_of node n n i) q.0 q.1 refl o
    where
      go : (j : ℕ) → j < n → (node j).idx_next_alt ≡ i → alternative_of node n n i ≡ j → 0 < i → Split i
      go j h d a o =
          let some : 0 < (node j).idx_next_alt = omega arith in
          let p : (node i).idx_prev ≡ j = subst (λ (x : ℕ). (node x).idx_prev ≡ j) d (s.alt_prev j h some) in
          let rises = s.alt_rises j h some in
          let inside = s.alt_inside j h some in
          let beyond = s.alt_beyond j h some in
          record {
            above = a ∙ sym p;
            fake = subst (λ (x : ℕ). is_fake (node x) ≡ true) d (s.alt_fake j h some);
            beyond = omega arith;
            inside = omega arith;
            base = subst (λ (x : ℕ). is_base node n x ≡ true) (sym p) (s.alt_base j h some);
            prev_inside = omega arith;
            rises = omega arith;
          }

  -- ---- events

  pub event_receives : (i : ℕ) → i < n → is_fake (node i) ≡ false → is_receiver node n i ≡ true
  event_receives i h e = is_receiver_lem node n i one (last (equal_or_not i (n - 1))) (main (true_or_false (is_alternative node n i)))
    where
      main : (is_alternative node n i ≡ true) ⊎ (is_alternative node n i ≡ false) → is_alternative node n i ≡ false
      main (inl a) = not_both (split_is i a).fake e
      main (inr a) = a

      unlike : (j : ℕ) → is_fake (node j) ≡ true → i ≢ j
      unlike j f o = not_both f (subst (λ (x : ℕ). is_fake (node x) ≡ false) o e)

      one : 1 < i
      one = go (equal_or_not i 0) (equal_or_not i 1)
        where
          go : (i ≡ 0) ⊎ (i ≢ 0) → (i ≡ 1) ⊎ (i ≢ 1) → 1 < i
          go (inl a) c = absurd (unlike 0 s.first_fake a)
          go (inr a) (inl c) = absurd (unlike 1 s.start_fake c)
          go (inr a) (inr c) = omega arith

      last : (i ≡ n - 1) ⊎ (i ≢ n - 1) → i < n - 1
      last (inl a) = absurd (unlike (n - 1) s.end_fake a)
      last (inr a) = omega arith

  -- ---- along next

  pub onward : (r : ℕ) → is_receiver node n r ≡ true → (is_receiver node n (node r).idx_next ≡ true) ⊎ ((node r).idx_next ≡ n - 1)
  onward r e = ⊎_elim (s.fake_next r e) (λ (f : is_fake (node r) ≡ false). inl (s.base_next r (receiver_inside node n r e) (base_event node n r f)).0) (true_or_false (is_fake (node r)))

  pub goal_on : (r : ℕ) → is_receiver node n r ≡ true → is_fake (node r) ≡ true → goal_of node n n (node r).idx_next ≡ goal_of node n n r
  goal_on r e f = sym (goal_fake node n n r (end_receives_not node n r e) f) ∙ s.settled r (suc n) e (omega arith)

  -- ---- along prev

  pub upward : (b : ℕ) → b < n → is_base node n b ≡ true → ((is_base node n (node b).idx_prev ≡ true) × ((node b).idx_prev < n)) ⊎ ((node b).idx_prev ≡ 0)
  upward b h e = go (base_is node n b e)
    where
      go : (b ≡ 1) ⊎ ((is_fake (node b) ≡ false) ⊎ (is_alternative node n b ≡ true)) → ((is_base node n (node b).idx_prev ≡ true) × ((node b).idx_prev < n)) ⊎ ((node b).idx_prev ≡ 0)
      go (inl a) = inr (subst (λ (x : ℕ). (node x).idx_prev ≡ 0) (sym a) s.start_prev)
      go (inr (inl a)) = let q = s.receiver_prev b (event_receives b h a) in inl (q.0, q.1.0)
      go (inr (inr a)) = let q = split_is b a in inl (q.base, q.prev_inside)

  -- a Fake base that is not the start is an alternative
  pub fake_base : (b : ℕ) → is_base node n b ≡ true → is_fake (node b) ≡ true → b ≢ 1 → is_alternative node n b ≡ true
  fake_base b e f o = go (base_is node n b e)
    where
      go : (b ≡ 1) ⊎ ((is_fake (node b) ≡ false) ⊎ (is_alternative node n b ≡ true)) → is_alternative node n b ≡ true
      go (inl a) = absurd (o a)
      go (inr (inl a)) = not_both f a
      go (inr (inr a)) = a

  -- an alternative's source is not itself
  pub split_self : (i : ℕ) → is_alternative node n i ≡ true → (eqb i 1 || not (is_fake (node i))) ≡ false
  split_self i e =
      let q = split_is i e in
      let o = q.beyond in
      ap (λ (b : Bool). b || not (is_fake (node i))) (ne_eqb i 1 (λ (d : i ≡ 1). omega arith)) ∙ ap not q.fake

  -- its prev is its one owner
  split_owned : (i : ℕ) → is_alternative node n i ≡ true → is_owned node n i ≡ true
  split_owned i e =
      let q = split_is i e in
      let o = alternative_some node n i e in
      owned_by node n i (node i).idx_prev (λ k h z. sym (alone k h z o)) (ap (λ (k : ℕ). (node k).idx_next_alt) (sym q.above) ∙ (alternative_above node n i e).1) q.prev_inside
      (some (node i).idx_prev q.base (equal_or_not (node i).idx_prev 0)) q.above
    where
      alone : (k : ℕ) → k < n → (node k).idx_next_alt ≡ i → 0 < i → (node i).idx_prev ≡ k
      alone k h z o = subst (λ (x : ℕ). (node x).idx_prev ≡ k) z (s.alt_prev k h (subst (λ (x : ℕ). 0 < x) (sym z) o))

      some : (p : ℕ) → is_base node n p ≡ true → (p ≡ 0) ⊎ (p ≡ 0 → ⊥) → 0 < p
      some p b (inl z) = absurd (nought (base_is node n 0 (subst (λ (x : ℕ). is_base node n x ≡ true) z b)))
        where
          nought : (◌≡◌ {A = ℕ} 0 1) ⊎ ((is_fake (node 0) ≡ false) ⊎ (is_alternative node n 0 ≡ true)) → ⊥
          nought (inl a) = omega arith
          nought (inr (inl a)) = not_both s.first_fake a
          nought (inr (inr a)) = let o = alternative_some node n 0 a in omega arith
      some p b (inr z) = omega arith

  -- a base's source takes no more steps than its number
  source_settled : (k i : ℕ) → is_base node n i ≡ true → i ≤ k → source_of node n (suc k) i ≡ source_of node n k i
  source_settled zero i e h = absurd (go (base_is node n i e))
    where
      go : (i ≡ 1) ⊎ ((is_fake (node i) ≡ false) ⊎ (is_alternative node n i ≡ true)) → ⊥
      go (inl a) = omega arith
      go (inr (inl a)) = let z : i ≡ 0 = omega arith in not_both s.first_fake (subst (λ (x : ℕ). is_fake (node x) ≡ false) z a)
      go (inr (inr a)) = let o = alternative_some node n i a in omega arith
  source_settled (suc k) i e h = go (true_or_false (eqb i 1 || not (is_fake (node i)))) (source_settled k)
    where
      go : ((eqb i 1 || not (is_fake (node i))) ≡ true) ⊎ ((eqb i 1 || not (is_fake (node i))) ≡ false) → ((j : ℕ) → is_base node n j ≡ true → j ≤ k → source_of node n (suc k) j ≡ source_of node n k j)
          → source_of node n (suc (suc k)) i ≡ source_of node n (suc k) i
      go (inl a) ih = source_itself node n (suc k) i a ∙ sym (source_itself node n k i a)
      go (inr a) ih =
          let fake = not-false (is_fake (node i)) (none_right (eqb i 1) (not (is_fake (node i))) a) in
          let c = fake_base i e fake (eqb-false i 1 (none_left (eqb i 1) (not (is_fake (node i))) a)) in
          let q = split_is i c in
          let rises = q.rises in
          let up : source_of node n (suc k) (alternative_of node n n i) ≡ source_of node n k (alternative_of node n n i) =
          subst (λ (x : ℕ). source_of node n (suc k) x ≡ source_of node n k x) (sym q.above) (ih (node i).idx_prev q.base (omega arith)) in
          source_step node n (suc k) i a (split_owned i c) ∙ up ∙ sym (source_step node n k i a (split_owned i c))

  pub source_up : (i : ℕ) → is_alternative node n i ≡ true → source_of node n n (node i).idx_prev ≡ source_of node n n i
  source_up i e =
      let q = split_is i e in
      let inside = q.inside in
      ap (source_of node n n) (sym q.above) ∙ sym (source_step node n n i (split_self i e) (split_owned i e)) ∙ source_settled n i (base_alternative node n i e) (omega arith)
