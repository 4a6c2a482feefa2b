-- What holds of an answer: a refusal has every property, so no equation is ever inverted. One law for each way in which answers are put together.
use mathlib.Core.Path.{◌≡◌, subst}
use Prim.Native.Nat.{ℕ}
use Rattle.laws.specs.Answer.{Answer, refused, given, and_then}

abbrev pub Holds : {A : Type 0} → (A → Type 0) → Answer A → Type 0
Holds P (refused n) = Unit
Holds P (given a) = P a

pub holds_then : {A B : Type 0} (P : A → Type 0) (Q : B → Type 0) (x : Answer A) (f : A → Answer B) → Holds P x → ((a : A) → P a → Holds Q (f a)) → Holds Q (and_then x f)
holds_then P Q (refused n) f h k = tt
holds_then P Q (given a) f h k = k a h

pub holds_so : {A : Type 0} (P Q : A → Type 0) (x : Answer A) → Holds P x → ((a : A) → P a → Q a) → Holds Q x
holds_so P Q (refused n) h k = tt
holds_so P Q (given a) h k = k a h

-- what holds of an answer, where it was given
pub holds_given : {A : Type 0} (P : A → Type 0) (x : Answer A) (a : A) → Holds P x → x ≡ given a → P a
holds_given P x a h e = subst (Holds P) e h

-- two answers: what holds where both are given
abbrev pub Both : {A B : Type 0} → (A → B → Type 0) → Answer A → Answer B → Type 0
Both R (refused n) y = Unit
Both R (given a) (refused m) = Unit
Both R (given a) (given b) = R a b

pub both_refused : {A B : Type 0} (R : A → B → Type 0) (x : Answer A) (m : ℕ) → Both R x (refused m)
both_refused R (refused n) m = tt
both_refused R (given a) m = tt

pub both_then : {A B C D : Type 0} (R : A → B → Type 0) (S : C → D → Type 0) (x : Answer A) (y : Answer B) (f : A → Answer C) (g : B → Answer D) → Both R x y → ((a : A) (b : B) → R a b → Both S (f a) (g b))
    → Both S (and_then x f) (and_then y g)
both_then R S (refused n) y f g h k = tt
both_then R S (given a) (refused m) f g h k = both_refused S (f a) m
both_then R S (given a) (given b) f g h k = k a b h

-- with what holds of the first
pub both_with : {A B : Type 0} (P : A → Type 0) (R : A → B → Type 0) (x : Answer A) (y : Answer B) → Holds P x → Both R x y → Both (λ (a : A) (b : B). P a × R a b) x y
both_with P R (refused n) y h k = tt
both_with P R (given a) (refused m) h k = tt
both_with P R (given a) (given b) h k = (h, k)

pub both_given : {A B : Type 0} (R : A → B → Type 0) (x : Answer A) (y : Answer B) (a : A) (b : B) → Both R x y → x ≡ given a → y ≡ given b → R a b
both_given {A} {B} R x y a b h p q = subst (λ (z : Answer B). Both R (given a) z) q (subst (λ (z : Answer A). Both R z y) p h)

-- ---- the numbers of refusals

-- what holds of the number of a refusal
abbrev pub Refuses : {A : Type 0} → (ℕ → Type 0) → Answer A → Type 0
Refuses N (refused n) = N n
Refuses N (given a) = Unit

pub refuses_then : {A B : Type 0} (N : ℕ → Type 0) (x : Answer A) (f : A → Answer B) → Refuses N x → ((a : A) → Refuses N (f a)) → Refuses N (and_then x f)
refuses_then N (refused n) f h k = h
refuses_then N (given a) f h k = k a

-- with what holds of what is given
pub refuses_with : {A B : Type 0} (N : ℕ → Type 0) (P : A → Type 0) (x : Answer A) (f : A → Answer B) → Holds P x → Refuses N x → ((a : A) → P a → Refuses N (f a)) → Refuses N (and_then x f)
refuses_with N P (refused n) f p h k = h
refuses_with N P (given a) f p h k = k a p
