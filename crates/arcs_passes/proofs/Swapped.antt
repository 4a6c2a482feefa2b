-- Two bases exchange receivers: what every relink of true-or-false pass does. The shape stays, and so does the goal behind each receiver. With one base for both nothing but times changes.
use mathlib.Core.Path.{◌≡◌, refl, sym, ap, ◌∙◌, subst}
use mathlib.Core.Logic.{◌⊎◌, inl, inr, ◌≢◌, ⊎_elim}
use mathlib.Core.Bool.{true, false}
use Prim.Native.Nat.{ℕ, zero, suc, ◌-◌, ◌<◌}
use native.Mathlib.Omega.{arith}
use Rattle.laws.proofs.Truth.{equal_or_not, true_or_false, not_both}
use Rattle.net_node.specs.Table.{is_fake}
use Rattle.net_node.specs.declared.EstTime.{EstTime}
use Rattle.arcs_growth.specs.Arcs.{is_alternative, is_base, goal_of}
use Rattle.arcs_growth.specs.Shape.{is_receiver, Shape}
use Rattle.arcs_passes.proofs.Roles.{alternative_named, receiver_is, end_receives_not, fake_receiver, goal_end, goal_event, goal_fake}
use Rattle.arcs_passes.proofs.Frames.{SameFrames, fake_same, next_alt_same, prev_alt_same, base_same, receiver_same}

-- Bases a and b have exchanged their nexts, and the two receivers their prevs accordingly.
pub record Swapped (node node' : ℕ → EstTime) (n a b : ℕ) : Type 0 where
  pub frames : SameFrames node node'
  pub base_a : is_base node n a ≡ true
  pub inside_a : a < n
  pub base_b : is_base node n b ≡ true
  pub inside_b : b < n
  pub next_a : (node' a).idx_next ≡ (node b).idx_next
  pub next_b : (node' b).idx_next ≡ (node a).idx_next
  pub next_other : (x : ℕ) → x ≢ a → x ≢ b → (node' x).idx_next ≡ (node x).idx_next
  pub prev_a : (node' (node a).idx_next).idx_prev ≡ b
  pub prev_b : (node' (node b).idx_next).idx_prev ≡ a
  pub prev_other : (x : ℕ) → x ≢ (node a).idx_next → x ≢ (node b).idx_next → (node' x).idx_prev ≡ (node x).idx_prev

module _ (node node' : ℕ → EstTime) (n a b : ℕ) (s : Shape node n) (w : Swapped node node' n a b) where
  -- ---- what stays

  next_unbased : (r : ℕ) → is_base node n r ≡ false → (node' r).idx_next ≡ (node r).idx_next
  next_unbased r e =
      w.next_other r (λ (o : r ≡ a). not_both w.base_a (subst (λ (x : ℕ). is_base node n x ≡ false) o e))
      (λ (o : r ≡ b). not_both w.base_b (subst (λ (x : ℕ). is_base node n x ≡ false) o e))

  receives_a : is_receiver node n (node a).idx_next ≡ true
  receives_a = (s.base_next a w.inside_a w.base_a).0

  receives_b : is_receiver node n (node b).idx_next ≡ true
  receives_b = (s.base_next b w.inside_b w.base_b).0

  prev_unreceived : (r : ℕ) → (is_receiver node n r ≡ true → ⊥) → (node' r).idx_prev ≡ (node r).idx_prev
  prev_unreceived r f =
      w.prev_other r (λ (o : r ≡ (node a).idx_next). f (subst (λ (x : ℕ). is_receiver node n x ≡ true) (sym o) receives_a))
      (λ (o : r ≡ (node b).idx_next). f (subst (λ (x : ℕ). is_receiver node n x ≡ true) (sym o) receives_b))

  end_same : (k : ℕ) → goal_of node' n k (n - 1) ≡ goal_of node n k (n - 1)
  unfolding goal_of
  end_same zero = refl
  end_same (suc k) = goal_end node' n k ∙ sym (goal_end node n k)

  -- the goal behind a receiver: the way to it leads over Fakes that are no bases
  pub goal_same : (k r : ℕ) → is_receiver node n r ≡ true → goal_of node' n k r ≡ goal_of node n k r
  unfolding goal_of
  goal_same zero r e = refl
  goal_same (suc k) r e = go (true_or_false (is_fake (node r))) (goal_same k)
    where
      last : r ≢ n - 1
      last = end_receives_not node n r e

      on : (x : ℕ) → (is_receiver node n x ≡ true) ⊎ (x ≡ n - 1) → ((y : ℕ) → is_receiver node n y ≡ true → goal_of node' n k y ≡ goal_of node n k y) → goal_of node' n k x ≡ goal_of node n k x
      on x (inl c) ih = ih x c
      on x (inr c) ih = subst (λ (y : ℕ). goal_of node' n k y ≡ goal_of node n k y) (sym c) (end_same k)

      go : (is_fake (node r) ≡ true) ⊎ (is_fake (node r) ≡ false) → ((y : ℕ) → is_receiver node n y ≡ true → goal_of node' n k y ≡ goal_of node n k y) → goal_of node' n (suc k) r ≡ goal_of node n (suc k) r
      go (inl f) ih =
          goal_fake node' n k r last (fake_same node node' w.frames r ∙ f)
          ∙ ap (goal_of node' n k) (next_unbased r (fake_receiver node n r e f))
          ∙ on (node r).idx_next (s.fake_next r e f) ih
          ∙ sym (goal_fake node n k r last f)
      go (inr f) ih = goal_event node' n k r last (fake_same node node' w.frames r ∙ f) ∙ sym (goal_event node n k r last f)

  -- ---- next and prev are inverse to each other again

  next_back : (x : ℕ) → x < n → is_base node n x ≡ true → (is_receiver node n (node' x).idx_next ≡ true) × ((node' (node' x).idx_next).idx_prev ≡ x)
  next_back x h e = go (equal_or_not x a) (equal_or_not x b)
    where
      to : (y : ℕ) → (node' x).idx_next ≡ y → is_receiver node n y ≡ true → (node' y).idx_prev ≡ x → (is_receiver node n (node' x).idx_next ≡ true) × ((node' (node' x).idx_next).idx_prev ≡ x)
      to y p q r = (subst (λ (z : ℕ). is_receiver node n z ≡ true) (sym p) q, ap (λ (z : ℕ). (node' z).idx_prev) p ∙ r)

      unlike : (c : ℕ) → c < n → is_base node n c ≡ true → x ≢ c → (node x).idx_next ≢ (node c).idx_next
      unlike c g f o p = o (sym (s.base_next x h e).1 ∙ ap (λ (z : ℕ). (node z).idx_prev) p ∙ (s.base_next c g f).1)

      go : (x ≡ a) ⊎ (x ≢ a) → (x ≡ b) ⊎ (x ≢ b) → (is_receiver node n (node' x).idx_next ≡ true) × ((node' (node' x).idx_next).idx_prev ≡ x)
      go (inl p) q = to (node b).idx_next (ap (λ (z : ℕ). (node' z).idx_next) p ∙ w.next_a) receives_b (w.prev_b ∙ sym p)
      go (inr p) (inl q) = to (node a).idx_next (ap (λ (z : ℕ). (node' z).idx_next) q ∙ w.next_b) receives_a (w.prev_a ∙ sym q)
      go (inr p) (inr q) =
          to (node x).idx_next (w.next_other x p q) (s.base_next x h e).0
          (w.prev_other (node x).idx_next (unlike a w.inside_a w.base_a p) (unlike b w.inside_b w.base_b q) ∙ (s.base_next x h e).1)

  prev_back : (r : ℕ) → is_receiver node n r ≡ true → (is_base node n (node' r).idx_prev ≡ true) × (((node' r).idx_prev < n) × ((node' (node' r).idx_prev).idx_next ≡ r))
  prev_back r e = go (equal_or_not r (node a).idx_next) (equal_or_not r (node b).idx_next)
    where
      to : (y : ℕ) → (node' r).idx_prev ≡ y → is_base node n y ≡ true → y < n → (node' y).idx_next ≡ r
          → (is_base node n (node' r).idx_prev ≡ true) × (((node' r).idx_prev < n) × ((node' (node' r).idx_prev).idx_next ≡ r))
      to y p q h f = (subst (λ (z : ℕ). is_base node n z ≡ true) (sym p) q, (subst (λ (z : ℕ). z < n) (sym p) h, ap (λ (z : ℕ). (node' z).idx_next) p ∙ f))

      go : (r ≡ (node a).idx_next) ⊎ (r ≢ (node a).idx_next) → (r ≡ (node b).idx_next) ⊎ (r ≢ (node b).idx_next)
          → (is_base node n (node' r).idx_prev ≡ true) × (((node' r).idx_prev < n) × ((node' (node' r).idx_prev).idx_next ≡ r))
      go (inl p) q = to b (ap (λ (z : ℕ). (node' z).idx_prev) p ∙ w.prev_a) w.base_b w.inside_b (w.next_b ∙ sym p)
      go (inr p) (inl q) = to a (ap (λ (z : ℕ). (node' z).idx_prev) q ∙ w.prev_b) w.base_a w.inside_a (w.next_a ∙ sym q)
      go (inr p) (inr q) =
          let k = s.receiver_prev r e in
          to (node r).idx_prev (w.prev_other r p q) k.0 k.1.0
          (w.next_other (node r).idx_prev (λ (o : (node r).idx_prev ≡ a). p (sym k.1.1 ∙ ap (λ (z : ℕ). (node z).idx_next) o))
          (λ (o : (node r).idx_prev ≡ b). q (sym k.1.1 ∙ ap (λ (z : ℕ). (node z).idx_next) o)) ∙ k.1.1)

  -- ---- the shape

  alternative_unreceived : (i : ℕ) → is_alternative node n i ≡ true → is_receiver node n i ≡ true → ⊥
  alternative_unreceived i a e = not_both a (receiver_is node n i e).2

  alternated : (P : ℕ → Type 0) (i : ℕ) → (0 < (node i).idx_next_alt → P (node i).idx_next_alt) → 0 < (node' i).idx_next_alt → P (node' i).idx_next_alt
  alternated P i = subst (λ (x : ℕ). 0 < x → P x) (sym (next_alt_same node node' w.frames i))

  pub swapped_shape : Shape node' n
  swapped_shape =
      let fake = fake_same node node' w.frames in
      let base = base_same node node' w.frames n in
      let receives = receiver_same node node' w.frames n in
      record {
        some = s.some;
        first_fake = fake 0 ∙ s.first_fake;
        start_fake = fake 1 ∙ s.start_fake;
        end_fake = fake (n - 1) ∙ s.end_fake;
        start_prev = prev_unreceived 1 (λ (e : is_receiver node n 1 ≡ true). let h = (receiver_is node n 1 e).0 in omega arith) ∙ s.start_prev;
        end_prev = prev_unreceived (n - 1) (λ (e : is_receiver node n (n - 1) ≡ true). end_receives_not node n (n - 1) e refl) ∙ s.end_prev;
        alt_rises = λ i h. alternated (λ (x : ℕ). i < x) i (s.alt_rises i h);
        alt_inside = λ i h. alternated (λ (x : ℕ). x < n - 1) i (s.alt_inside i h);
        alt_fake = λ i h. alternated (λ (x : ℕ). is_fake (node' x) ≡ true) i (λ o. fake (node i).idx_next_alt ∙ s.alt_fake i h o);
        alt_base = λ i h. alternated (λ (x : ℕ). is_base node' n i ≡ true) i (λ o. base i ∙ s.alt_base i h o);
        alt_beyond = λ i h. alternated (λ (x : ℕ). 1 < x) i (s.alt_beyond i h);
        alt_prev = λ i h. alternated (λ (x : ℕ). (node' x).idx_prev ≡ i) i
            (λ o. prev_unreceived (node i).idx_next_alt (alternative_unreceived (node i).idx_next_alt (alternative_named node n i h o)) ∙ s.alt_prev i h o);
        prev_alt = λ i h. subst (λ (x : ℕ). 0 < x → is_receiver node' n x ≡ true) (sym (prev_alt_same node node' w.frames i)) (λ o. receives (node i).idx_prev_alt ∙ s.prev_alt i h o);
        base_next = λ x h e. let k = next_back x h (sym (base x) ∙ e) in (receives (node' x).idx_next ∙ k.0, k.1);
        receiver_prev = λ r e. let k = prev_back r (sym (receives r) ∙ e) in (base (node' r).idx_prev ∙ k.0, k.1);
        fake_next = λ r e f.
            let c = sym (receives r) ∙ e in
            let g = sym (fake r) ∙ f in
            let p = next_unbased r (fake_receiver node n r c g) in
            ⊎_elim (λ (q : is_receiver node n (node r).idx_next ≡ true). inl (receives (node' r).idx_next ∙ ap (is_receiver node n) p ∙ q)) (λ (q : (node r).idx_next ≡ n - 1). inr (p ∙ q)) (s.fake_next r c g);
        settled = λ r k e h. let c = sym (receives r) ∙ e in goal_same k r c ∙ s.settled r k c h ∙ sym (goal_same n r c);
      }
