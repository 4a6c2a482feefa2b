-- The checks and both passes over a network of n nodes, rows 14 to 16.
use Rattle.std.specs.Prelude.{Bool, true, false, not, ℕ, Float}
use Rattle.std.specs.Float.{binary64}
use Rattle.std.specs.Float.Ieee.{eq, of_bits}
use Rattle.net_node.specs.Table.{Table, at}
use Rattle.laws.specs.Below.{some_below}
use Rattle.pass_rules.specs.Checks.{row14}
use Rattle.laws.specs.Answer.{Answer, refused, given, and_then}
use Rattle.pass_rules.specs.Net.{Pass}
use Rattle.pass_rules.specs.Forward.{forward}
use Rattle.pass_rules.specs.Backward.{backward}

-- Row 15: "a node never timed or never passed"
unfoldable pub some_left : (ℕ → Bool) → ℕ → Bool
some_left done n = some_below n (λ i. not (done i))

-- Row 16: "all times 0 or −0"
unfoldable pub all_zero : Table → ℕ → Bool
all_zero t n = not (some_below n (λ i. not (eq (at t i).time_sched (of_bits binary64 0))))

-- a row that refuses, where it holds; and what is made where it doesn't
abbrev pub checked_as : Bool → ℕ → Answer Table → Answer Table
checked_as true row later = refused row
checked_as false row later = later

-- what is left to do behind a pass that came to its end
abbrev pub after_backward : ℕ → Pass → Answer Table
after_backward n p = checked_as (some_left p.done n) 15 (checked_as (all_zero p.table n) 16 (given p.table))

abbrev pub after_forward : ℕ → Pass → Answer Table
after_forward n p = checked_as (some_left p.done n) 15 (and_then (backward p.table n) (after_backward n))

-- Rows 14 to 16: a refusal's number, or the timed table
unfoldable pub passes : Table → ℕ → Float → Answer Table
unfolding some_left all_zero
passes t n departure = checked_as (row14 (at t) n) 14 (and_then (forward t n departure) (after_forward n))
