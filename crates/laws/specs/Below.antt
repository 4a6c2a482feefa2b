-- What is said of all numbers below n: that some has a property, and the sum of their values.
use Rattle.std.specs.Prelude.{Bool, false, ◌||◌, ℕ, zero, suc, ◌+◌}

unfoldable pub some_below : ℕ → (ℕ → Bool) → Bool
some_below zero p = false
some_below (suc n) p = some_below n p || p n

unfoldable pub sum_below : ℕ → (ℕ → ℕ) → ℕ
sum_below zero f = 0
sum_below (suc n) f = sum_below n f + f n
