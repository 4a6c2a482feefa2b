-- A function with one value set.
use mathlib.Core.Path.{◌≡◌, refl, ap}
use mathlib.Core.Logic.{◌≢◌}
use mathlib.Core.Bool.{Bool, cond}
use Prim.Native.Nat.{ℕ}
use borrow.Author.Tests.{eq-eqb, ne_eqb}
use lib.Dec.{eqb}

abbrev pub sets : {A : Type 0} → ℕ → A → (ℕ → A) → ℕ → A
sets i y f x = cond (eqb x i) y (f x)

pub sets_at : {A : Type 0} (i : ℕ) (y : A) (f : ℕ → A) → sets i y f i ≡ y
sets_at i y f = ap (λ (b : Bool). cond b y (f i)) (eq-eqb i i refl)

pub sets_other : {A : Type 0} (i : ℕ) (y : A) (f : ℕ → A) (x : ℕ) → x ≢ i → sets i y f x ≡ f x
sets_other i y f x o = ap (λ (b : Bool). cond b y (f x)) (ne_eqb x i o)
