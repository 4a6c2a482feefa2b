-- A word of the contracts: an entry's new match link.
use Rattle.std.specs.Prelude.{Bool, true, false, ℕ}

-- "New m is m for Arrive; for Clear 0"
abbrev pub new_match : Bool → ℕ → ℕ
new_match true m = m
new_match false m = 0
