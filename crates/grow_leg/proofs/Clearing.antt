-- No run takes a leg of another's path: the children of a leg are clear of all that the leg is clear of, and of each
-- other.
use mathlib.Core.Path.{◌≡◌, sym, ap, ◌∙◌, subst}
use mathlib.Core.Logic.{◌⊎◌, inl, inr, ◌≢◌}
use mathlib.Core.Bool.{true, false}
use mathlib.Core.List.{List, [], ◌∷◌}
use Prim.Native.Nat.{ℕ, suc, ◌≤◌, ◌<◌}
use native.Mathlib.Omega.{arith}
use Rattle.laws.proofs.Truth.{not_both}
use Rattle.book_format.specs.Format.{legs, leg_link, leg_parent}
use Rattle.grow_path.specs.Path.{path_of}
use Rattle.grow_waiting.specs.Held.{Waiting}
use Rattle.grow_waiting.specs.Held.{Untaken}
use Rattle.grow_rules.specs.Run.{Run, member_of}
use Rattle.grow_state.specs.Held.{Separate, SeparateFrom, AllSound, SameRuns}
use Rattle.grow_leg.specs.OneLeg.{Free}
use Rattle.grow_leg.proofs.Paths.{member_none, path_own, path_below, path_closed, on_child}
use Rattle.grow_path.proofs.Paths.{Above}

module _ {b : List ℕ} (above : Above b) where
  -- a child, and a leg of which its parent is clear
  clear_child : (j i s : ℕ) → 0 < j → i < legs b → leg_parent b i ≡ j → 0 < s → s ≤ legs b → Separate b j s
      → Separate b (suc i) s
  clear_child j i s o h e n l k = record {
    no_there = member_none (path_of b s) (suc i) (λ t.
        not_both (subst (λ (x : ℕ). member_of (path_of b s) x ≡ true) e
        (path_closed above s i l (subst (λ (x : ℕ). 0 < x) (sym e) o) t)) k.no_there);
    no_back = member_none (path_of b (suc i)) s (λ t. back (on_child above j i s h e t));
  }
    where
      parent_there : member_of (path_of b (suc i)) j ≡ true
      parent_there = subst (λ (x : ℕ). member_of (path_of b (suc i)) x ≡ true) e
          (path_closed above (suc i) i h (subst (λ (x : ℕ). 0 < x) (sym e) o) (path_own above (suc i) (omega arith) h))

      back : (member_of (path_of b j) s ≡ true) ⊎ (suc i ≡ s) → ⊥
      back (inl t) = not_both t k.no_back
      back (inr d) = not_both (subst (λ (x : ℕ). member_of (path_of b x) j ≡ true) d parent_there) k.no_there

  -- two children of one leg
  sibling_off : (j i m : ℕ) → i < legs b → m < legs b → leg_parent b i ≡ j → leg_parent b m ≡ j → (i ≡ m → ⊥)
      → member_of (path_of b (suc m)) (suc i) ≡ false
  sibling_off j i m h g e f d = member_none (path_of b (suc m)) (suc i) (λ t. go (on_child above j m (suc i) g f t))
    where
      go : (member_of (path_of b j) (suc i) ≡ true) ⊎ (suc m ≡ suc i) → ⊥
      go (inl t) =
          let p = above.parents i h in
          let q = path_below above j (suc i) (omega arith) t in
          omega arith
      go (inr s) = d (omega arith)

  separate_siblings : (j i m : ℕ) → i < legs b → m < legs b → leg_parent b i ≡ j → leg_parent b m ≡ j → (i ≡ m → ⊥)
      → Separate b (suc i) (suc m)
  separate_siblings j i m h g e f d = record {
    no_there = sibling_off j i m h g e f d;
    no_back = sibling_off j m i g h f e (λ s. d (sym s));
  }

  -- ---- runs

  children_separate : (j i n : ℕ) (runs : List Run) → 0 < j → i < legs b → leg_parent b i ≡ j → AllSound b n runs
      → SeparateFrom b j runs → SeparateFrom b (suc i) runs
  children_separate j i n [] o h e s k = tt
  children_separate j i n (r ∷ rs) o h e s k = (
    clear_child j i r.leg o h e s.0.some s.0.within k.0,
    children_separate j i n rs o h e s.1 k.1,
  )

  -- a run that is clear of all others has all its children free
  pub all_free : (run : Run) (n : ℕ) (runs : List Run) → AllSound b n (run ∷ runs) → SeparateFrom b run.leg runs
      → (l : ℕ) → Free b run runs l
  all_free run n runs s k l = record {
    legs_separate = λ i h e f.
        children_separate run.leg i n runs s.0.some h e s.1 k;
  }

  -- and still so when one of them is saved, but over its link
  pub free_more : (run r : Run) (i : ℕ) (runs : List Run) (link : ℕ) → i < legs b → leg_parent b i ≡ run.leg
      → leg_link b i ≡ link → r.leg ≡ suc i → (l : ℕ) → l ≢ link → Free b run runs l → Free b run (r ∷ runs) l
  free_more run r i runs link h e f g l d k = record {
    legs_separate = λ m n p q. (
      subst (Separate b (suc m)) (sym g)
          (separate_siblings run.leg m i n h p e (λ s. d (sym q ∙ ap (leg_link b) s ∙ f))),
      k.legs_separate m n p q,
    );
  }

  -- a leg that is clear of all runs is none of theirs
  pub clear_others : (j n : ℕ) (ws : List Waiting) (runs : List Run) → AllSound b n runs → SameRuns b ws runs
      → SeparateFrom b j runs → Untaken j ws
  clear_others j n [] [] s e k = tt
  clear_others j n [] (r ∷ rs) s e k = absurd e
  clear_others j n (w ∷ ws) [] s e k = absurd e
  clear_others j n (w ∷ ws) (r ∷ rs) s e k = (
    λ (d : j ≡ w.leg). not_both (subst (λ (x : ℕ). member_of (path_of b r.leg) x ≡ true) (sym (d ∙ e.0.leg))
        (path_own above r.leg s.0.some s.0.within)) k.0.no_there,
    clear_others j n ws rs s.1 e.1 k.1,
  )
