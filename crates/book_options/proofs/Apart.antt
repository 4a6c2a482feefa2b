-- Kept origins lie on different links. No row is needed for it: a link enters the set once.
use mathlib.Core.Path.{◌≡◌, refl, ap, ◌∙◌}
use mathlib.Core.Bool.{Bool, true, false, ◌||◌}
use mathlib.Core.List.{List, [], ◌∷◌, ◌++◌}
use Prim.Native.Nat.{ℕ, zero, suc, ◌+◌, ◌*◌}
use borrow.Author.Tests.{eq-eqb}
use lib.Dec.{eqb}
use Rattle.laws.proofs.Truth.{not_both}
use Rattle.laws.proofs.Below.{or_right}
use Rattle.laws.proofs.Members.{All, all_so}
use Rattle.book_format.specs.Format.{links, origins, destinations, origin_link}
use Rattle.book_options.specs.Options.{member, origin_below, stacked, enter, search, options_of, kept_origins}
use Rattle.book_options.proofs.Walks.{origin_is}

-- none of these rows of origins has this one's link
abbrev pub Other : List ℕ → ℕ → List ℕ → Type 0
Other b idx [] = Unit
Other b idx (x ∷ idxs) = (origin_link b idx ≡ origin_link b x → ⊥) × Other b idx idxs

-- no two of them have one link
abbrev pub Apart : List ℕ → List ℕ → Type 0
Apart b [] = Unit
Apart b (idx ∷ idxs) = Other b idx idxs × Apart b idxs

other_more : (b : List ℕ) (idx : ℕ) (idxs : List ℕ) (x : ℕ) → Other b idx idxs → (origin_link b idx ≡ origin_link b x → ⊥) → Other b idx (idxs ++ (x ∷ []))
other_more b idx [] x o d = (d, tt)
other_more b idx (y ∷ idxs) x o d = (o.0, other_more b idx idxs x o.1 d)

apart_more : (b idxs : List ℕ) (x : ℕ) → Apart b idxs → All (λ (idx : ℕ). origin_link b idx ≡ origin_link b x → ⊥) idxs → Apart b (idxs ++ (x ∷ []))
apart_more b [] x a d = (tt, tt)
apart_more b (idx ∷ idxs) x a d = (other_more b idx idxs x a.0 d.0, apart_more b idxs x a.1 d.1)

abbrev Entered : List ℕ → List ℕ → List ℕ → Type 0
Entered b set idxs = All (λ (idx : ℕ). member (origin_link b idx) set ≡ true) idxs

entered_append : (b set idxs : List ℕ) (x : ℕ) → Entered b set idxs → member (origin_link b x) set ≡ true → Entered b set (idxs ++ (x ∷ []))
entered_append b set [] x e m = (m, tt)
entered_append b set (idx ∷ idxs) x e m = (e.0, entered_append b set idxs x e.1 m)

pub member_more : (l x : ℕ) (set : List ℕ) → member l set ≡ true → member l (x ∷ set) ≡ true
unfolding member
member_more l x set e = or_right (eqb l x) (member l set) e

pub member_here : (l k : ℕ) (set : List ℕ) → k ≡ l → member k (l ∷ set) ≡ true
unfolding member
member_here l k set e = ap (λ (t : Bool). t || member k set) (eq-eqb k l e)

-- the kept origins lie on links of the set, each on its own
record Sorted (b set kept : List ℕ) : Type 0 where
  apart : Apart b kept
  entered : Entered b set kept

-- the set with one link more
entered_more : (b : List ℕ) (l : ℕ) (set kept : List ℕ) → Entered b set kept → Entered b (l ∷ set) kept
entered_more b l set kept e =
    all_so (λ (idx : ℕ). member (origin_link b idx) set ≡ true) (λ (idx : ℕ). member (origin_link b idx) (l ∷ set) ≡ true)
    (λ idx m. member_more (origin_link b idx) l set m) kept e

sorted_enter : (b : List ℕ) (l : ℕ) (t : Bool) (o : ℕ) (stack set kept : List ℕ) → member l set ≡ t → origin_below b (origins b) l ≡ o
    → Sorted b set kept → Sorted b (enter b l t o stack set kept).set (enter b l t o stack set kept).kept
unfolding enter
sorted_enter b l true o stack set kept m q s = s
sorted_enter b l false zero stack set kept m q s = record { apart = s.apart; entered = entered_more b l set kept s.entered }
sorted_enter b l false (suc o) stack set kept m q s =
    record { apart = apart_more b kept o s.apart new; entered = entered_append b (l ∷ set) kept o more (member_here l (origin_link b o) set f) }
  where
    f : origin_link b o ≡ l
    f = (origin_is b (origins b) l o q).1

    new : All (λ (idx : ℕ). origin_link b idx ≡ origin_link b o → ⊥) kept
    new =
        all_so (λ (idx : ℕ). member (origin_link b idx) set ≡ true) (λ (idx : ℕ). origin_link b idx ≡ origin_link b o → ⊥)
        (λ idx e p. not_both e (ap (λ (k : ℕ). member k set) (p ∙ f) ∙ m)) kept s.entered

    more : Entered b (l ∷ set) kept
    more = entered_more b l set kept s.entered

sorted_search : (k : ℕ) (b stack set kept : List ℕ) → Sorted b set kept → Sorted b (search k b stack set kept).set (search k b stack set kept).kept
unfolding search
sorted_search zero b stack set kept s = s
sorted_search (suc k) b [] set kept s = s
sorted_search (suc k) b (l ∷ stack) set kept s =
    let t = enter b l (member l set) (origin_below b (origins b) l) stack set kept in
    sorted_search k b t.stack t.set t.kept (sorted_enter b l (member l set) (origin_below b (origins b) l) stack set kept refl refl s)

pub kept_apart : (b : List ℕ) → Apart b (kept_origins b)
unfolding kept_origins options_of
kept_apart b = (sorted_search (destinations b + 2 * links b) b (stacked b (destinations b)) [] [] (record { apart = tt; entered = tt })).apart
