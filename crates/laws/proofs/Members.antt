-- What is said of all members of a list, and of some.
use mathlib.Core.Logic.{◌⊎◌, inl, inr}
use mathlib.Core.List.{List, [], ◌∷◌}

-- of all members of a list
abbrev pub All : {A : Type 0} → (A → Type 0) → List A → Type 0
All P [] = Unit
All P (x ∷ xs) = P x × All P xs

pub all_so : {A : Type 0} (P Q : A → Type 0) → ((a : A) → P a → Q a) → (xs : List A) → All P xs → All Q xs
all_so P Q f [] h = tt
all_so P Q f (x ∷ xs) h = (f x h.0, all_so P Q f xs h.1)

-- of some member
abbrev pub Some : {A : Type 0} → (A → Type 0) → List A → Type 0
Some P [] = ⊥
Some P (x ∷ xs) = P x ⊎ Some P xs

pub some_all : {A : Type 0} (P Q : A → Type 0) (R : Type 0) (xs : List A)
    → Some P xs → All Q xs → ((a : A) → P a → Q a → R) → R
some_all P Q R [] s h k = absurd s
some_all P Q R (x ∷ xs) (inl p) h k = k x p h.0
some_all P Q R (x ∷ xs) (inr s) h k = some_all P Q R xs s h.1 k
