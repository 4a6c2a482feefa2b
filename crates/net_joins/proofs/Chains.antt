-- The way along the previous alternatives: a turn by what it meets, what the loop keeps, and where it ends.
use mathlib.Core.Path.{◌≡◌, refl, sym, ap, ◌∙◌, subst}
use Prim.Native.Nat.{ℕ, zero, suc, ◌+◌, ◌-◌, ◌≤◌, ◌<◌}
use native.Mathlib.Omega.{arith}
use Rattle.net_node.specs.declared.EstTime.{EstTime}
use Rattle.net_node.specs.Table.{Indexed}
use Rattle.net_joins.specs.Joins.{chain_end_as, chain_end}

ended_on : (j i : ℕ) (f : ℕ → ℕ) → (j ≡ 0 → ⊥) → chain_end_as j i f ≡ f j
ended_on zero i f h = absurd (h refl)
ended_on (suc j) i f h = refl

-- where node i was loaded as x
module _ (k : ℕ) (node : ℕ → EstTime) (i : ℕ) (x : EstTime) (l : x ≡ node i) where
  chain_last_lem : x.idx_prev_alt ≡ 0 → chain_end (suc k) node i ≡ i
  unfolding chain_end
  chain_last_lem h =
      ap (λ (j : ℕ). chain_end_as j i (chain_end k node)) (ap (λ (y : EstTime). y.idx_prev_alt) (sym l) ∙ h)

  chain_on : (x.idx_prev_alt ≡ 0 → ⊥) → chain_end (suc k) node i ≡ chain_end k node x.idx_prev_alt
  unfolding chain_end
  chain_on h = ap (λ (y : EstTime). chain_end_as y.idx_prev_alt i (chain_end k node)) (sym l)
      ∙ ended_on x.idx_prev_alt i (chain_end k node) h

-- At node i there are turns left for every later node, and they give the end.
pub record Following (node : ℕ → EstTime) (n start i : ℕ) : Type 0 where
  pub left : ℕ
  pub within : i < n
  pub enough : n ≤ suc left + i
  pub answer : chain_end (suc left) node i ≡ chain_end n node start

pub following_start : (node : ℕ → EstTime) (n start : ℕ) → start < n → Following node n start start
following_start node n start h =
    let s : suc (n - 1) ≡ n = omega arith in
    record { left = n - 1; within = h; enough = omega arith; answer = ap (λ (k : ℕ). chain_end k node start) s }

module _ {node : ℕ → EstTime} {n start i : ℕ} (w : Indexed node n) (v : Following node n start i) (x : EstTime)
    (l : x ≡ node i) where
  pub following_last : x.idx_prev_alt ≡ 0 → i ≡ chain_end n node start
  following_last h = sym (chain_last_lem v.left node i x l h) ∙ v.answer

  pub alternative_later : (x.idx_prev_alt ≡ 0 → ⊥) → i < x.idx_prev_alt
  alternative_later h =
      let p : 0 < x.idx_prev_alt = omega arith in
      subst (λ (z : EstTime). 0 < z.idx_prev_alt → i < z.idx_prev_alt) (sym l) (w.prev_alt_rises i v.within) p

  alternative_within : x.idx_prev_alt < n
  alternative_within = subst (λ (z : EstTime). z.idx_prev_alt < n) (sym l) (w.prev_alt i v.within)

  pub following_on : (x.idx_prev_alt ≡ 0 → ⊥) → Following node n start x.idx_prev_alt
  following_on h =
      let s : suc (v.left - 1) ≡ v.left = omega (arith, v.enough, alternative_later h, alternative_within) in
      record {
        left = v.left - 1;
        within = alternative_within;
        enough = omega (arith, v.enough, alternative_later h);
        answer = ap (λ (k : ℕ). chain_end k node x.idx_prev_alt) s ∙ sym (chain_on v.left node i x l h) ∙ v.answer;
      }

-- ---- the end

-- one of the n nodes, without a previous alternative
pub record Last (node : ℕ → EstTime) (n i : ℕ) : Type 0 where
  pub within : i < n
  pub no_alt : (node i).idx_prev_alt ≡ 0

chain_from : {node : ℕ → EstTime} {n : ℕ} → Indexed node n → (k i : ℕ) → i < n → n ≤ k + i
    → Last node n (chain_end k node i)
unfolding chain_end
chain_from w zero i h g = absurd (omega arith)
chain_from {node} {n} w (suc k) i h g = go (node i).idx_prev_alt refl (chain_from w k)
  where
    go : (j : ℕ) → (node i).idx_prev_alt ≡ j → ((i : ℕ) → i < n → n ≤ k + i → Last node n (chain_end k node i))
        → Last node n (chain_end_as j i (chain_end k node))
    go zero e ih = record { within = h; no_alt = e }
    go (suc j) e ih =
        let p : 0 < (node i).idx_prev_alt = omega arith in
        ih (suc j) (subst (λ (m : ℕ). m < n) e (w.prev_alt i h)) (omega (arith, e, w.prev_alt_rises i h p))

pub chain_ends : {node : ℕ → EstTime} {n : ℕ} → Indexed node n → (target : ℕ) → target < n
    → Last node n (chain_end n node target)
chain_ends {node} {n} w target h = chain_from w n target h (omega arith)
