-- The arcs read off the grown network are the noted ones, as often each, and the two sums hold.
use mathlib.Core.Path.{◌≡◌, refl, sym, ap, ◌∙◌}
use mathlib.Core.Bool.{Bool, true, false, cond}
use mathlib.Core.List.{List, [], ◌∷◌}
use Prim.Native.Nat.{ℕ, zero, suc, ◌+◌, ◌<◌, ◌≤◌}
use native.Mathlib.Omega.{arith}
use lib.ListN.{length}
use Rattle.laws.specs.Below.{sum_below}
use Rattle.net_node.specs.declared.EstTime.{EstTime}
use Rattle.grow_rules.specs.Run.{Arc}
use Rattle.arcs_growth.specs.Arcs.{is_base, arc_of, arcs_below, arcs_read, same_arc, one, times_in, SameArcs}
use Rattle.arcs_growth.proofs.Sums.{sum_same, total}
use Rattle.arcs_growth.proofs.Labels.{base_role, Labels}
use Rattle.arcs_growth.proofs.Weights.{arc_there, weigh, weigh_none, weigh_next}
use Rattle.arcs_growth.proofs.Graphs.{base_count}
use Rattle.arcs_growth.proofs.Wholes.{Whole}
use Rattle.arcs_growth.proofs.Sheets.{arc_is, base_is, last_no_base}

times_total : (a : Arc) (xs : List Arc) → times_in a xs ≡ total (λ (x : Arc). one (same_arc a x)) xs
unfolding times_in total
times_total a [] = refl
times_total a (x ∷ xs) = let e = times_total a xs in omega arith

length_total : (xs : List Arc) → length xs ≡ total (λ (x : Arc). 1) xs
unfolding total
length_total [] = refl
length_total (x ∷ xs) = let e = length_total xs in omega arith

module _ {L : Labels} {node : ℕ → EstTime} {n : ℕ} {arcs : List Arc} {k : ℕ} (v : Whole L node n arcs k) where
  below_times : (a : Arc) (m : ℕ) → m ≤ n → times_in a (arcs_below node (suc n) m) ≡ sum_below m
      (weigh L node [] (λ (x : Arc). one (same_arc a x)))
  unfolding arcs_below times_in sum_below
  below_times a zero h = refl
  below_times a (suc m) h = go (base_role (L.role m)) refl (below_times a m (omega arith))
    where
      w : Arc → ℕ
      w = λ (x : Arc). one (same_arc a x)

      go : (c : Bool) → base_role (L.role m) ≡ c → times_in a (arcs_below node (suc n) m) ≡ sum_below m
          (weigh L node [] w)
          → times_in a (cond (is_base node (suc n) m) (arc_of node (suc n) m ∷ arcs_below node (suc n) m)
          (arcs_below node (suc n) m)) ≡ sum_below m (weigh L node [] w) + weigh L node [] w m
      go true e ih =
          let p = weigh_next L node [] w m e (v.closed m (omega arith) e) in
          let q : one (same_arc a (arc_of node (suc n) m)) ≡ w (arc_there L node m) =
          ap w (arc_is v m (omega arith) e) in
          ap (λ (c : Bool). times_in a (cond c (arc_of node (suc n) m ∷ arcs_below node (suc n) m)
          (arcs_below node (suc n) m))) (base_is v m (omega arith) ∙ e) ∙ sum p q ih
        where
          sum : weigh L node [] w m ≡ w (arc_there L node m)
              → one (same_arc a (arc_of node (suc n) m)) ≡ w (arc_there L node m)
              → times_in a (arcs_below node (suc n) m) ≡ sum_below m (weigh L node [] w)
              → one (same_arc a (arc_of node (suc n) m)) + times_in a (arcs_below node (suc n) m) ≡ sum_below m
              (weigh L node [] w) + weigh L node [] w m
          sum p q r = omega arith
      go false e ih =
          ap (λ (c : Bool). times_in a (cond c (arc_of node (suc n) m ∷ arcs_below node (suc n) m)
          (arcs_below node (suc n) m))) (base_is v m (omega arith) ∙ e) ∙ sum (weigh_none L node [] w m e) ih
        where
          sum : weigh L node [] w m ≡ 0 → times_in a (arcs_below node (suc n) m) ≡ sum_below m (weigh L node [] w)
              → times_in a (arcs_below node (suc n) m) ≡ sum_below m (weigh L node [] w) + weigh L node [] w m
          sum p r = omega arith

  pub read_same : SameArcs arcs (arcs_read node (suc n))
  unfolding arcs_read arcs_below
  read_same a =
      times_total a arcs ∙ v.noted (λ (x : Arc). one (same_arc a x)) ∙ sym (below_times a n (omega arith))
      ∙ sym (ap (λ (c : Bool). times_in a (cond c (arc_of node (suc n) n ∷ arcs_below node (suc n) n)
      (arcs_below node (suc n) n))) (last_no_base v))

  -- as many arcs as bases
  pub length_bases : length arcs ≡ k
  length_bases = length_total arcs ∙ v.noted (λ (x : Arc). 1)
      ∙ sum_same n (base_count L) (weigh L node [] (λ (x : Arc). 1)) (λ i h. go i h (base_role (L.role i)) refl)
      ∙ v.bases
    where
      go : (i : ℕ) → i < n → (c : Bool) → base_role (L.role i) ≡ c
          → weigh L node [] (λ (x : Arc). 1) i ≡ one (base_role (L.role i))
      go i h true e = weigh_next L node [] (λ (x : Arc). 1) i e (v.closed i h e) ∙ ap one (sym e)
      go i h false e = weigh_none L node [] (λ (x : Arc). 1) i e ∙ ap one (sym e)

  -- as many are read off as there are bases
  below_many : (m : ℕ) → m ≤ n → length (arcs_below node (suc n) m) ≡ sum_below m (base_count L)
  unfolding arcs_below sum_below
  below_many zero h = refl
  below_many (suc m) h =
      ap (λ (c : Bool). length (cond c (arc_of node (suc n) m ∷ arcs_below node (suc n) m) (arcs_below node (suc n) m)))
      (base_is v m (omega arith)) ∙ go (base_role (L.role m)) (below_many m (omega arith))
    where
      go : (c : Bool) → length (arcs_below node (suc n) m) ≡ sum_below m (base_count L)
          → length (cond c (arc_of node (suc n) m ∷ arcs_below node (suc n) m) (arcs_below node (suc n) m)) ≡ sum_below
          m (base_count L) + one c
      go true q = omega arith
      go false q = omega arith

  pub read_many : length (arcs_read node (suc n)) ≡ length arcs
  unfolding arcs_read arcs_below
  read_many =
      ap (λ (c : Bool). length (cond c (arc_of node (suc n) n ∷ arcs_below node (suc n) n) (arcs_below node (suc n) n)))
      (last_no_base v)
      ∙ below_many n (omega arith) ∙ v.bases ∙ sym length_bases
