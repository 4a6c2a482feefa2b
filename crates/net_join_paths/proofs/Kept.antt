-- Lists whose entries name nodes of a network and that are no longer than they may be: an entry more keeps that.
use mathlib.Core.Path.{◌≡◌, refl, sym, subst}
use mathlib.Core.Bool.{Bool, true, false}
use mathlib.Core.List.{List, [], ◌∷◌, ◌++◌}
use mathlib.Core.Option.{Option, none, some}
use Prim.{Unit, tt}
use Prim.Native.Nat.{ℕ, ◌+◌, ◌≤◌, ◌<◌}
use native.Mathlib.Omega.{arith}
use borrow.Author.Tests.{ltb-true, eqb-true, eqb-false}
use lib.Dec.{eqb, ltb}
use lib.ListN.{length, length-append}
use Rattle.net_join_paths.specs.declared.EstJoinPath.{EstJoinPath}
use Rattle.net_join_paths.specs.Entries.{node_of, pushed_as, push, pushed_if, and_then, Valid}
use Rattle.net_join_paths.proofs.Entries.{node_front, node_last}

-- each entry names one of the first n nodes, and the list is no longer than it may be
pub record Sound (n : ℕ) (es : List EstJoinPath) : Type 0 where
  pub valid : Valid es n
  pub few : length es ≤ 1024

abbrev pub Kept : ℕ → Option (List EstJoinPath) → Type 0
Kept n none = Unit
Kept n (some es) = Sound n es

pub kept_then : (n : ℕ) (a : Option (List EstJoinPath)) (f : List EstJoinPath → Option (List EstJoinPath)) → Kept n a
    → ((es : List EstJoinPath) → Sound n es → Kept n (f es)) → Kept n (and_then a f)
kept_then n none f h g = tt
kept_then n (some es) f h g = g es h

valid_more : (es : List EstJoinPath) (x : EstJoinPath) (n : ℕ) → Valid es n → x.est_idx_next < n
    → Valid (es ++ (x ∷ [])) n
valid_more es x n v h = record {
  node = λ k l. at k (eqb k (length es)) refl (subst (λ (j : ℕ). k < j) (length-append es (x ∷ [])) l);
}
  where
    at : (k : ℕ) (t : Bool) → eqb k (length es) ≡ t → k < length es + 1 → node_of (es ++ (x ∷ [])) k < n
    at k true e l = subst (λ (j : ℕ). j < n) (sym (node_last es x k (eqb-true k (length es) e))) h
    at k false e l =
        let d : k ≡ length es → ⊥ = eqb-false k (length es) e in
        let l : k < length es = omega arith in
        subst (λ (j : ℕ). j < n) (sym (node_front es (x ∷ []) k l)) (v.node k l)

module _ (n : ℕ) (es : List EstJoinPath) (x : EstJoinPath) (v : Sound n es) (h : x.est_idx_next < n) where
  pub kept_push : Kept n (push es x)
  unfolding push
  kept_push = go (ltb (length es) 1024) refl
    where
      go : (b : Bool) → ltb (length es) 1024 ≡ b → Kept n (pushed_as b es x)
      go false e = tt
      go true e =
          let l : length (es ++ (x ∷ [])) ≡ length es + 1 = length-append es (x ∷ []) in
          record { valid = valid_more es x n v.valid h; few = omega (arith, ltb-true (length es) 1024 e) }

  pub kept_pushed_if : (b : Bool) → Kept n (pushed_if b es x)
  kept_pushed_if true = kept_push
  kept_pushed_if false = v
