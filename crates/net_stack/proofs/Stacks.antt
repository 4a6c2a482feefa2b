-- Laws of the stack, whose first number is on top.
use mathlib.Core.Path.{◌≡◌, ap, ◌∙◌}
use mathlib.Core.List.{List, [], ◌∷◌, ◌++◌}
use Prim.Native.Nat.{ℕ}
use Rattle.std.specs.Prelude.{reverse}
use Rattle.std.proofs.lemmas.List.{reverse-append}

-- a number is put on top, or taken from there
pub stack_push : (s s' : List ℕ) (x : ℕ) → s' ≡ s ++ (x ∷ []) → reverse s' ≡ x ∷ reverse s
stack_push s s' x h = ap reverse h ∙ reverse-append s (x ∷ [])
