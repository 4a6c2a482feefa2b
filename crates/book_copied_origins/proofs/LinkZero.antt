-- Link 0 is in the set just if it is a destination: nothing but a real previous is pushed.
use mathlib.Core.Path.{◌≡◌, refl, sym, ap, ◌∙◌}
use mathlib.Core.Logic.{◌⊎◌, inl, inr}
use mathlib.Core.Bool.{Bool, true, false, cond}
use mathlib.Core.List.{List, [], ◌∷◌}
use Prim.Native.Nat.{ℕ, zero, suc, ◌+◌, ◌*◌}
use borrow.Author.Tests.{eq-eqb, ne_eqb, eqb-true, eqb-false}
use lib.Dec.{eqb}
use Rattle.laws.specs.Below.{some_below}
use Rattle.laws.proofs.Truth.{or_is, neither, never, not_both, true_or_false}
use Rattle.laws.proofs.Below.{none_left, none_right}
use Rattle.book_format.specs.Format.{links, origins, destinations, link_prev, link_prev_alt, destination_link}
use Rattle.book_format.specs.Rows.{row5}
use Rattle.book_options.specs.Options.{member, origin_below, stacked, pushed, enter, search, options_of, in_set, destination_zero}
use Rattle.book_options.proofs.Empties.{options_whole}
use Rattle.book_options.proofs.Apart.{member_more, member_here}

-- ---- no destination is link 0

not_zero_lem : (l : ℕ) (rest : List ℕ) → eqb l 0 ≡ false → member 0 rest ≡ false → member 0 (l ∷ rest) ≡ false
unfolding member
not_zero_lem l rest e m = neither (eqb 0 l) (member 0 rest) (ne_eqb 0 l (λ (z : 0 ≡ l). eqb-false l 0 e (sym z))) m

stacked_real : (b : List ℕ) (n : ℕ) → some_below n (λ i. eqb (destination_link b i) 0) ≡ false → member 0 (stacked b n) ≡ false
unfolding stacked member some_below
stacked_real b zero h = refl
stacked_real b (suc n) h =
    let p = some_below n (λ i. eqb (destination_link b i) 0) in
    let q = eqb (destination_link b n) 0 in
    not_zero_lem (destination_link b n) (stacked b n) (none_right p q h) (stacked_real b n (none_left p q h))

pushed_real : (b : List ℕ) (l : ℕ) (stack : List ℕ) → member 0 stack ≡ false → member 0 (pushed b l stack) ≡ false
unfolding pushed
pushed_real b l stack h = go (eqb (link_prev b l) 0) (eqb (link_prev_alt b l) 0) refl refl
  where
    go : (x y : Bool) → eqb (link_prev b l) 0 ≡ x → eqb (link_prev_alt b l) 0 ≡ y → member 0 (cond x stack (cond y (link_prev b l ∷ stack) (link_prev_alt b l ∷ link_prev b l ∷ stack))) ≡ false
    go true y e f = h
    go false true e f = not_zero_lem (link_prev b l) stack e h
    go false false e f = not_zero_lem (link_prev_alt b l) (link_prev b l ∷ stack) f (not_zero_lem (link_prev b l) stack e h)

-- link 0 is neither on the stack nor in the set
abbrev Absent : List ℕ → List ℕ → Type 0
Absent stack set = (member 0 stack ≡ false) × (member 0 set ≡ false)

top_real : (l : ℕ) (stack : List ℕ) → member 0 (l ∷ stack) ≡ false → (eqb l 0 ≡ false) × (member 0 stack ≡ false)
unfolding member
top_real l stack h = (ne_eqb l 0 (λ (z : l ≡ 0). not_both (eq-eqb 0 l (sym z)) (none_left (eqb 0 l) (member 0 stack) h)), none_right (eqb 0 l) (member 0 stack) h)

enter_real : (b : List ℕ) (l : ℕ) (t : Bool) (o : ℕ) (stack set kept : List ℕ) → Absent (l ∷ stack) set → (let e = enter b l t o stack set kept in Absent e.stack e.set)
unfolding enter
enter_real b l true o stack set kept a = ((top_real l stack a.0).1, a.1)
enter_real b l false zero stack set kept a = let r = top_real l stack a.0 in (pushed_real b l stack r.1, not_zero_lem l set r.0 a.1)
enter_real b l false (suc o) stack set kept a = let r = top_real l stack a.0 in (r.1, not_zero_lem l set r.0 a.1)

search_real : (k : ℕ) (b stack set kept : List ℕ) → Absent stack set → member 0 (search k b stack set kept).set ≡ false
unfolding search
search_real zero b stack set kept a = a.1
search_real (suc k) b [] set kept a = a.1
search_real (suc k) b (l ∷ stack) set kept a =
    let e = enter b l (member l set) (origin_below b (origins b) l) stack set kept in
    search_real k b e.stack e.set e.kept (enter_real b l (member l set) (origin_below b (origins b) l) stack set kept a)

-- ---- a destination is link 0

stacked_zero : (b : List ℕ) (n : ℕ) → some_below n (λ i. eqb (destination_link b i) 0) ≡ true → member 0 (stacked b n) ≡ true
unfolding stacked some_below
stacked_zero b zero h = never (sym h)
stacked_zero b (suc n) h = go (or_is (some_below n (λ i. eqb (destination_link b i) 0)) (eqb (destination_link b n) 0) h) (stacked_zero b n)
  where
    go : (some_below n (λ i. eqb (destination_link b i) 0) ≡ true) ⊎ (eqb (destination_link b n) 0 ≡ true) → (some_below n (λ i. eqb (destination_link b i) 0) ≡ true → member 0 (stacked b n) ≡ true) → member 0 (destination_link b n ∷ stacked b n) ≡ true
    go (inl e) ih = member_more 0 (destination_link b n) (stacked b n) (ih e)
    go (inr e) ih = member_here (destination_link b n) 0 (stacked b n) (sym (eqb-true (destination_link b n) 0 e))

pushed_more : (b : List ℕ) (l : ℕ) (stack : List ℕ) → member 0 stack ≡ true → member 0 (pushed b l stack) ≡ true
unfolding pushed
pushed_more b l stack h = go (eqb (link_prev b l) 0) (eqb (link_prev_alt b l) 0)
  where
    go : (x y : Bool) → member 0 (cond x stack (cond y (link_prev b l ∷ stack) (link_prev_alt b l ∷ link_prev b l ∷ stack))) ≡ true
    go true y = h
    go false true = member_more 0 (link_prev b l) stack h
    go false false = member_more 0 (link_prev_alt b l) (link_prev b l ∷ stack) (member_more 0 (link_prev b l) stack h)

-- link 0 is on the stack or in the set
abbrev Present : List ℕ → List ℕ → Type 0
Present stack set = (member 0 stack ≡ true) ⊎ (member 0 set ≡ true)

top_zero : (l : ℕ) (stack : List ℕ) → member 0 (l ∷ stack) ≡ true → (l ≡ 0) ⊎ (member 0 stack ≡ true)
unfolding member
top_zero l stack h = go (or_is (eqb 0 l) (member 0 stack) h)
  where
    go : (eqb 0 l ≡ true) ⊎ (member 0 stack ≡ true) → (l ≡ 0) ⊎ (member 0 stack ≡ true)
    go (inl e) = inl (sym (eqb-true 0 l e))
    go (inr e) = inr e

enter_zero : (b : List ℕ) (l : ℕ) (t : Bool) (o : ℕ) (stack set kept : List ℕ) → member l set ≡ t → (l ≡ 0) ⊎ (member 0 stack ≡ true) ⊎ (member 0 set ≡ true) → (let e = enter b l t o stack set kept in Present e.stack e.set)
unfolding enter
enter_zero b l true o stack set kept m (inl z) = inr (ap (λ (x : ℕ). member x set) (sym z) ∙ m)
enter_zero b l true o stack set kept m (inr p) = p
enter_zero b l false zero stack set kept m (inl z) = inr (member_here l 0 set (sym z))
enter_zero b l false zero stack set kept m (inr (inl p)) = inl (pushed_more b l stack p)
enter_zero b l false zero stack set kept m (inr (inr p)) = inr (member_more 0 l set p)
enter_zero b l false (suc o) stack set kept m (inl z) = inr (member_here l 0 set (sym z))
enter_zero b l false (suc o) stack set kept m (inr (inl p)) = inl p
enter_zero b l false (suc o) stack set kept m (inr (inr p)) = inr (member_more 0 l set p)

popped : (l : ℕ) (stack set : List ℕ) → Present (l ∷ stack) set → (l ≡ 0) ⊎ (member 0 stack ≡ true) ⊎ (member 0 set ≡ true)
popped l stack set (inl h) = go (top_zero l stack h)
  where
    go : (l ≡ 0) ⊎ (member 0 stack ≡ true) → (l ≡ 0) ⊎ (member 0 stack ≡ true) ⊎ (member 0 set ≡ true)
    go (inl e) = inl e
    go (inr e) = inr (inl e)
popped l stack set (inr h) = inr (inr h)

search_zero : (k : ℕ) (b stack set kept : List ℕ) → Present stack set → (let s = search k b stack set kept in Present s.stack s.set)
unfolding search
search_zero zero b stack set kept p = p
search_zero (suc k) b [] set kept p = p
search_zero (suc k) b (l ∷ stack) set kept p =
    let e = enter b l (member l set) (origin_below b (origins b) l) stack set kept in
    search_zero k b e.stack e.set e.kept (enter_zero b l (member l set) (origin_below b (origins b) l) stack set kept refl (popped l stack set p))

-- ---- both

none_empty : member 0 [] ≡ false
unfolding member
none_empty = refl

emptied : (stack : List ℕ) → stack ≡ [] → (set : List ℕ) → Present stack set → member 0 set ≡ true
emptied stack e set (inl p) = not_both p (ap (member 0) e ∙ none_empty)
emptied stack e set (inr p) = p

pub zero_in_set : (b : List ℕ) → row5 b ≡ false → in_set b 0 ≡ destination_zero b
unfolding in_set options_of
zero_in_set b h = go (true_or_false (destination_zero b))
  where
    go : (destination_zero b ≡ true) ⊎ (destination_zero b ≡ false) → member 0 (options_of b).set ≡ destination_zero b
    go (inl e) = emptied (options_of b).stack (options_whole b h) (options_of b).set (search_zero (destinations b + 2 * links b) b (stacked b (destinations b)) [] [] (inl (stacked_zero b (destinations b) e))) ∙ sym e
    go (inr e) = search_real (destinations b + 2 * links b) b (stacked b (destinations b)) [] [] (stacked_real b (destinations b) e, none_empty) ∙ sym e
