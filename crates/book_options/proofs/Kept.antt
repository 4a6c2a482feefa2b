-- What a caller may know of the kept origins: each row is an origin's, and there are no more of them than origins.
use mathlib.Core.Path.{◌≡◌, refl, sym, subst}
use mathlib.Core.Logic.{◌⊎◌, inl, inr}
use mathlib.Core.Bool.{Bool, true, false}
use mathlib.Core.List.{List, [], ◌∷◌, ◌++◌}
use Prim.Native.Nat.{ℕ, zero, suc, ◌+◌, ◌*◌, ◌≤◌, ◌<◌}
use native.Mathlib.Nat.{not-suc-le-zero}
use native.Mathlib.Omega.{arith}
use lib.ListN.{length, get_or, length-append, get_or-append}
use lib.Seq.{get_or_at}
use Rattle.book_format.specs.Format.{origins, destinations, links, origin_link}
use Rattle.book_options.specs.Options.{member, origin_below, stacked, enter, search, options_of, kept_origins}
use Rattle.book_options.specs.Turns.{outside_set, unmet}
use Rattle.laws.proofs.Truth.{equal_or_not}
use Rattle.book_options.proofs.Laws.{is_outside}
use Rattle.book_options.proofs.Starts.{outside_empty, sum_ones}
use Rattle.book_options.proofs.Walks.{origin_is, unmet_less, unmet_falls}

record Rows (b s kept : List ℕ) : Type 0 where
  named : (k : ℕ) → k < length kept → get_or kept k 0 < origins b
  most : length kept + unmet b s ≤ origins b

module _ (b stack s kept : List ℕ) (v : Rows b s kept) (l : ℕ) where
  kept_more : (o : ℕ) → o < origins b → (k : ℕ) → k < length (kept ++ (o ∷ [])) → get_or (kept ++ (o ∷ [])) k 0 < origins b
  kept_more o h k g = go (equal_or_not k (length kept))
    where
      go : (k ≡ length kept) ⊎ (k ≡ length kept → ⊥) → get_or (kept ++ (o ∷ [])) k 0 < origins b
      go (inl e) = subst (λ (x : ℕ). x < origins b) (sym (get_or_at kept o [] 0 k (sym e))) h
      go (inr e) =
          let i : k < length kept = omega (arith, length-append kept (o ∷ [])) in
          subst (λ (x : ℕ). x < origins b) (sym (get_or-append kept (o ∷ []) 0 k i)) (v.named k i)

  rows_turn : (t : Bool) (o : ℕ) → member l s ≡ t → origin_below b (origins b) l ≡ o → (let e = enter b l t o stack s kept in Rows b e.set e.kept)
  unfolding enter
  rows_turn true o m e = v
  rows_turn false zero m e = record { named = v.named; most = omega (arith, v.most, unmet_less b l s (is_outside l s m)) }
  rows_turn false (suc o) m e =
      let r = origin_is b (origins b) l o e in
      record { named = kept_more o r.0; most = omega (arith, v.most, length-append kept (o ∷ []), unmet_falls b l s (is_outside l s m) o r.0 r.1) }

rows_search : (n : ℕ) (b stack s kept : List ℕ) → Rows b s kept → (let e = search n b stack s kept in Rows b e.set e.kept)
unfolding search
rows_search zero b stack s kept v = v
rows_search (suc n) b [] s kept v = v
rows_search (suc n) b (l ∷ stack) s kept v =
    let e = enter b l (member l s) (origin_below b (origins b) l) stack s kept in
    rows_search n b e.stack e.set e.kept (rows_turn b stack s kept v l (member l s) (origin_below b (origins b) l) refl refl)

rows_found : (b : List ℕ) → Rows b (options_of b).set (kept_origins b)
unfolding options_of kept_origins unmet
rows_found b =
    rows_search (destinations b + 2 * links b) b (stacked b (destinations b)) [] []
    (record {
      named = λ k h. absurd (not-suc-le-zero h);
      most = omega (arith, sum_ones (origins b) (λ i. outside_set [] (origin_link b i)) (λ i. outside_empty (origin_link b i)));
    })

pub kept_named : (b : List ℕ) (k : ℕ) → k < length (kept_origins b) → get_or (kept_origins b) k 0 < origins b
kept_named b = (rows_found b).named

pub kept_most : (b : List ℕ) → length (kept_origins b) ≤ origins b
kept_most b = omega (arith, (rows_found b).most)
