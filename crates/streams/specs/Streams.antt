-- What is said of a whole input, where a reader's bytes are known.
use Rattle.std.specs.Prelude.{◌≡◌, ℕ, ◌<◌, List, length, IfSome, Option}
use Rattle.std.specs.Fn.{Once}
use denote.Ref.{Bor, MutBor}

-- The input is these bytes.
abbrev pub IsInput : Option (List ℕ) → List ℕ → Type 0
IsInput input bytes = IfSome input (λ xs. xs ≡ bytes)

-- The input has more than n bytes.
abbrev pub IsLonger : Option (List ℕ) → ℕ → Type 0
IsLonger input n = IfSome input (λ xs. n < length xs)

-- A call of f at a `&` to the bytes and a `&mut` to the output w may give r, and leave w' there.
pub record PrintedBy {F W R : Type 0}
    (g : Once F (Bor (List ℕ) × (MutBor W × Unit {0})) (R × (MutBor W × Unit {0})))
    (f : F) (bytes : List ℕ) (w : W) (r : R) (w' : W) : Type 0 where
  pub input : Bor (List ℕ)
  pub shows : input.now ≡ bytes
  pub output : MutBor W
  pub held : output.now ≡ w
  pub left : MutBor W
  pub met : g.post f (input, (output, tt)) (r, (left, tt))
  pub leaves : left.now ≡ w'
