-- Worked examples: which of some entries is taken, and what is left.
use mathlib.Core.Path.{◌≡◌, refl}
use mathlib.Core.Bool.{true, false}
use mathlib.Core.List.{[], ◌∷◌}
use Prim.Native.Nat.{ℕ}
use lib.Ieee.{Float, binary64, lt, of_bits, to_bits}
use Rattle.pass_queue.specs.declared.Entry.{Entry}
use Rattle.pass_queue.specs.Queue.{before, best, others}

abbrev zero_time : Float
zero_time = of_bits binary64 0

abbrev minus_zero : Float
minus_zero = of_bits binary64 0x8000_0000_0000_0000

abbrev one_time : Float
one_time = of_bits binary64 0x3ff0_0000_0000_0000

abbrev two_time : Float
two_time = of_bits binary64 0x4000_0000_0000_0000

abbrev entry : Float → Float → ℕ → Entry
entry t s n = record { time = t; sub = s; node = n }

-- four entries: the earliest time twice, the latest once
abbrev a : Entry
a = entry two_time zero_time 4

abbrev b : Entry
b = entry one_time zero_time 9

abbrev c : Entry
c = entry one_time zero_time 3

abbrev d : Entry
d = entry one_time one_time 7

record Examples : Type 0 where
  forward_time : before false (entry one_time zero_time 8) (entry two_time zero_time 2) ≡ true
  forward_index : best false (entry one_time zero_time 5) (entry one_time zero_time 3 ∷ []) ≡ entry one_time zero_time 3
  forward_no_sub : best false (entry one_time zero_time 5) (entry one_time one_time 3 ∷ []) ≡ entry one_time one_time 3
  backward_time : best true (entry one_time two_time 9) (entry two_time zero_time 2 ∷ []) ≡ entry two_time zero_time 2
  backward_sub : best true (entry one_time zero_time 9) (entry one_time two_time 2 ∷ []) ≡ entry one_time two_time 2
  backward_index : best true (entry one_time zero_time 2) (entry one_time zero_time 9 ∷ []) ≡ entry one_time zero_time 9
  zeros_forward : best false (entry minus_zero zero_time 7) (entry zero_time zero_time 2 ∷ []) ≡ entry zero_time zero_time 2
  zeros_forward_too : best false (entry zero_time zero_time 7) (entry minus_zero zero_time 2 ∷ []) ≡ entry minus_zero zero_time 2
  zeros_backward : best true (entry zero_time zero_time 2) (entry minus_zero minus_zero 7 ∷ []) ≡ entry minus_zero minus_zero 7
  best_of_four : best false a (b ∷ c ∷ d ∷ []) ≡ c
  others_of_four : others false a (b ∷ c ∷ d ∷ []) ≡ a ∷ b ∷ d ∷ []
  best_of_four_backward : best true d (c ∷ a ∷ b ∷ []) ≡ a
  others_of_four_backward : others true d (c ∷ a ∷ b ∷ []) ≡ c ∷ d ∷ b ∷ []

examples : Examples
unfolding before best others lt of_bits to_bits
examples = record {
  forward_time = refl;
  forward_index = refl;
  forward_no_sub = refl;
  backward_time = refl;
  backward_sub = refl;
  backward_index = refl;
  zeros_forward = refl;
  zeros_forward_too = refl;
  zeros_backward = refl;
  best_of_four = refl;
  others_of_four = refl;
  best_of_four_backward = refl;
  others_of_four_backward = refl;
}
