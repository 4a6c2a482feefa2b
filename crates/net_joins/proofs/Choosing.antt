-- The choice among the entries: one more entry, the loop over a list, and that what is chosen is a node of the network.
use mathlib.Core.Path.{◌≡◌, refl, sym, ap, ◌∙◌, subst}
use mathlib.Core.Bool.{Bool, true, false, ◌&&◌, true≢false}
use mathlib.Core.List.{List, [], ◌∷◌}
use Prim.Native.Nat.{ℕ, suc, ◌+◌, ◌≤◌, ◌<◌}
use native.Mathlib.Numerals.{add-one}
use native.Mathlib.Omega.{arith}
use lib.Dec.{eqb}
use lib.Ieee.{Float, lt}
use lib.ListN.{length, get_or, drop}
use Rattle.std.proofs.Common.{drop-cons, drop_of_length-le}
use Rattle.floats.specs.Floats.{gap}
use Rattle.floats.proofs.Order.{lt_asym}
use Rattle.net_node.specs.declared.EstTime.{EstTime}
use Rattle.net_join_paths.specs.declared.EstJoinPath.{EstJoinPath}
use Rattle.net_join_paths.specs.Entries.{node_of, Valid}
use Rattle.net_join_paths.proofs.Entries.{valid_at}
use Rattle.net_joins.specs.declared.SpeedJoin.{SpeedJoin}
use Rattle.net_joins.specs.Joins.{closer_as, closer, closest_of, closest}

-- where the entry's node was loaded as y, and its gap is g
pub closer_by : (nodes : ℕ → EstTime) (speed : Float) (best : SpeedJoin) (x : EstJoinPath) (y : EstTime) (g : Float)
    (b : Bool)
    → y ≡ nodes x.est_idx_next → g ≡ gap y.speed speed → (eqb x.link_idx_match 0 && lt g best.speed_diff_join) ≡ b
    → closer_as b best g x.est_idx_next ≡ closer nodes speed best x
unfolding closer
closer_by nodes speed best x y g b l d h =
    ap (λ (b : Bool). closer_as b best g x.est_idx_next) (sym h)
    ∙ ap (λ (g : Float). closer_as (eqb x.link_idx_match 0 && lt g best.speed_diff_join) best g x.est_idx_next)
    (d ∙ ap (λ (y : EstTime). gap y.speed speed) l)

-- ---- the loop

-- The best of the entries before k, and of those that are left, is the best of all.
pub record Choosing (node : ℕ → EstTime) (join speed : Float) (list : List EstJoinPath) (best : SpeedJoin)
    (k : ℕ) : Type 0 where
  pub is : closest_of node speed best (drop k list) ≡ closest node join speed list

pub choosing_start : (node : ℕ → EstTime) (join speed : Float) (list : List EstJoinPath)
    → Choosing node join speed list (record { speed_diff_join = join; est_idx_join = 0 }) 0
unfolding closest
choosing_start node join speed list = record { is = refl }

module _ {node : ℕ → EstTime} {join speed : Float} {list : List EstJoinPath} {best : SpeedJoin} {k : ℕ}
    (v : Choosing node join speed list best k) where
  pub choosing_on : k < length list → (d x : EstJoinPath) → x ≡ get_or list k d → (r : SpeedJoin)
      → r ≡ closer node speed best x → Choosing node join speed list r (k + 1)
  unfolding closest_of
  choosing_on h d x l r e = record {
    is = let a : drop k list ≡ x ∷ drop (k + 1) list = drop-cons list k d h
        ∙ ap (λ (y : EstJoinPath). y ∷ drop (suc k) list) (sym l) ∙ ap (λ (j : ℕ). x ∷ drop j list) (sym (add-one k)) in
        ap (λ (b : SpeedJoin). closest_of node speed b (drop (k + 1) list)) e ∙ sym (ap (closest_of node speed best) a)
        ∙ v.is;
  }

  pub choosing_whole : length list ≤ k → best ≡ closest node join speed list
  unfolding closest_of
  choosing_whole h = sym (ap (closest_of node speed best) (drop_of_length-le list h)) ∙ v.is

-- ---- what is chosen

module _ (node : ℕ → EstTime) (join speed : Float) (n : ℕ) where
  -- a best so far that is below J is one of the n nodes
  abbrev Within : SpeedJoin → Type 0
  Within b = lt b.speed_diff_join join ≡ true → b.est_idx_join < n

  within_of : (xs : List EstJoinPath) (best : SpeedJoin) → ((k : ℕ) → k < length xs → node_of xs k < n) → Within best
      → Within (closest_of node speed best xs)
  unfolding closest_of closer
  within_of [] best v h = h
  within_of (x ∷ xs) best v h =
      let g : Float = gap (node x.est_idx_next).speed speed in
      within_of xs (closer node speed best x) (λ k l. v (suc k) (omega arith))
      (go (eqb x.link_idx_match 0 && lt g best.speed_diff_join) g)
    where
      go : (b : Bool) (g : Float) → Within (closer_as b best g x.est_idx_next)
      go true g = λ o. v 0 (omega arith)
      go false g = h

  pub closest_within : (es : List EstJoinPath) → Valid es n
      → lt (closest node join speed es).speed_diff_join join ≡ true → (closest node join speed es).est_idx_join < n
  unfolding closest
  closest_within es v =
      within_of es (record { speed_diff_join = join; est_idx_join = 0 }) v.node
      (λ o. absurd (true≢false (sym o ∙ lt_asym join join o)))

  -- by the contract of `closest_of`
  pub chosen_within : (es : List EstJoinPath) (best : SpeedJoin) → best ≡ closest node join speed es → Valid es n
      → lt best.speed_diff_join join ≡ true → best.est_idx_join < n
  chosen_within es best f v h =
      subst (λ (b : SpeedJoin). b.est_idx_join < n) (sym f)
      (closest_within es v (ap (λ (b : SpeedJoin). lt b.speed_diff_join join) (sym f) ∙ h))

-- where the loop begins, what it reads, and where it ends
pub ruleset choosing_laws = (valid_at, choosing_start, choosing_whole)
