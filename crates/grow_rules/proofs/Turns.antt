-- Turns that run out while a run waits give no network.
use mathlib.Core.Path.{◌≡◌, refl}
use mathlib.Core.List.{List, ◌∷◌}
use Prim.Native.Nat.{ℕ}
use Rattle.laws.specs.Answer.{refused}
use Rattle.grow_rules.specs.Run.{Net, Run}
use Rattle.grow_rules.specs.Growth.{drive}

turns_out : (b : List ℕ) (places : ℕ) (net : Net) (run : Run) (saved : List Run)
    → drive 0 b places net (run ∷ saved) ≡ refused 0
unfolding drive
turns_out b places net run saved = refl
