-- The list: an event more in it, and as many of its places are left.
use mathlib.Core.Path.{◌≡◌, refl, sym, ap, ◌∙◌}
use mathlib.Core.List.{List, [], ◌∷◌, ◌++◌}
use Prim.Native.Nat.{ℕ, suc, ◌+◌, ◌-◌, ◌*◌, ◌≤◌}
use native.Mathlib.Omega.{arith}
use lib.ListN.{length, set, get_or, replicate}
use lib.Ieee.{Float, binary64, of_bits}
use Rattle.space.specs.Space.{zeros, zero_floats}
use Rattle.net_node.specs.Table.{kind_number}
use Rattle.event_walk.specs.declared.PassedPoint.{PassedPoint}
use Rattle.event_maker.specs.Maker.{list_places, event_floats, event_numbers}
use Rattle.event_maker.specs.Parts.{put_event_floats, put_event_numbers}

-- how many elements the places take
pub places_fit : (floats numbers : ℕ) → (list_places floats numbers * 3 ≤ floats) × (list_places floats numbers * 2 ≤ numbers)
unfolding list_places
places_fit floats numbers = (omega arith, omega arith)

-- ---- stores behind what stands there

module _ {A : Type 0} where
  store_two : (a b : List A) (x y u v : A) → set (set (a ++ x ∷ y ∷ b) (length a) u) (suc (length a)) v ≡ a ++ u ∷ v ∷ b
  store_two [] b x y u v = refl
  store_two (q ∷ a) b x y u v = ap (λ (t : List A). q ∷ t) (store_two a b x y u v)

  store_three : (a b : List A) (x y z u v w : A) → set (set (set (a ++ x ∷ y ∷ z ∷ b) (length a) u) (suc (length a)) v) (suc (suc (length a))) w ≡ a ++ u ∷ v ∷ w ∷ b
  store_three [] b x y z u v w = refl
  store_three (q ∷ a) b x y z u v w = ap (λ (t : List A). q ∷ t) (store_three a b x y z u v w)

floats_length : (ps : List PassedPoint) → length (event_floats ps) ≡ length ps * 3
unfolding event_floats
floats_length [] = refl
floats_length (p ∷ ps) = let e = floats_length ps in omega arith

numbers_length : (links : List ℕ) (ps : List PassedPoint) → length (event_numbers links ps) ≡ length ps * 2
unfolding event_numbers
numbers_length links [] = refl
numbers_length links (p ∷ ps) = let e = numbers_length links ps in omega arith

floats_more : (ps : List PassedPoint) (p : PassedPoint) (b : List Float) → event_floats (ps ++ p ∷ []) ++ b ≡ event_floats ps ++ p.time ∷ p.offset ∷ p.speed ∷ b
unfolding event_floats
floats_more [] p b = refl
floats_more (q ∷ ps) p b = ap (λ (t : List Float). q.time ∷ q.offset ∷ q.speed ∷ t) (floats_more ps p b)

numbers_more : (links : List ℕ) (ps : List PassedPoint) (p : PassedPoint) (b : List ℕ) → event_numbers links (ps ++ p ∷ []) ++ b ≡ event_numbers links ps ++ get_or links p.point 0 ∷ kind_number p.est_type ∷ b
unfolding event_numbers
numbers_more links [] p b = refl
numbers_more links (q ∷ ps) p b = ap (λ (t : List ℕ). get_or links q.point 0 ∷ kind_number q.est_type ∷ t) (numbers_more links ps p b)

-- ---- an event at the place behind them

module _ (ps : List PassedPoint) (p : PassedPoint) (k size : ℕ) (e : k ≡ length ps) where
  pub floats_put : k * 3 + 3 ≤ size → put_event_floats (event_floats ps ++ zero_floats (size - k * 3)) k p ≡ event_floats (ps ++ p ∷ []) ++ zero_floats (size - (k + 1) * 3)
  unfolding put_event_floats zero_floats
  floats_put h =
      let o = of_bits binary64 0 in
      let a = event_floats ps in
      let b = replicate (size - (k + 1) * 3) o in
      let n : k * 3 ≡ length a = ap (λ (i : ℕ). i * 3) e ∙ sym (floats_length ps) in
      let one : k * 3 + 1 ≡ suc (length a) = omega arith in
      let two : k * 3 + 2 ≡ suc (suc (length a)) = omega arith in
      let left : size - k * 3 ≡ suc (suc (suc (size - (k + 1) * 3))) = omega arith in
      ap (λ (i : ℕ). set (set (set (a ++ replicate i o) (k * 3) p.time) (k * 3 + 1) p.offset) (k * 3 + 2) p.speed) left
      ∙ ap (λ (i : ℕ). set (set (set (a ++ o ∷ o ∷ o ∷ b) i p.time) (k * 3 + 1) p.offset) (k * 3 + 2) p.speed) n
      ∙ ap (λ (i : ℕ). set (set (set (a ++ o ∷ o ∷ o ∷ b) (length a) p.time) i p.offset) (k * 3 + 2) p.speed) one
      ∙ ap (λ (i : ℕ). set (set (set (a ++ o ∷ o ∷ o ∷ b) (length a) p.time) (suc (length a)) p.offset) i p.speed) two
      ∙ store_three a b o o o p.time p.offset p.speed
      ∙ sym (floats_more ps p b)

  pub numbers_put : (links : List ℕ) → k * 2 + 2 ≤ size → put_event_numbers (event_numbers links ps ++ zeros (size - k * 2)) k p (get_or links p.point 0) ≡ event_numbers links (ps ++ p ∷ []) ++ zeros (size - (k + 1) * 2)
  unfolding put_event_numbers zeros
  numbers_put links h =
      let a = event_numbers links ps in
      let l = get_or links p.point 0 in
      let b : List ℕ = replicate (size - (k + 1) * 2) 0 in
      let n : k * 2 ≡ length a = ap (λ (i : ℕ). i * 2) e ∙ sym (numbers_length links ps) in
      let one : k * 2 + 1 ≡ suc (length a) = omega arith in
      let left : size - k * 2 ≡ suc (suc (size - (k + 1) * 2)) = omega arith in
      ap (λ (i : ℕ). set (set (a ++ replicate {A = ℕ} i 0) (k * 2) l) (k * 2 + 1) (kind_number p.est_type)) left
      ∙ ap (λ (i : ℕ). set (set (a ++ 0 ∷ 0 ∷ b) i l) (k * 2 + 1) (kind_number p.est_type)) n
      ∙ ap (λ (i : ℕ). set (set (a ++ 0 ∷ 0 ∷ b) (length a) l) i (kind_number p.est_type)) one
      ∙ store_two a b 0 0 l (kind_number p.est_type)
      ∙ sym (numbers_more links ps p b)
