-- What `same_arc` and `SameArcs` tell apart, computed: document 01 demands that no arc is lost, doubled, added or
-- re-timed, "both ends and every bit of time and distance". Each case differs in one thing alone.
use mathlib.Core.Path.{◌≡◌, refl}
use mathlib.Core.Bool.{true, false}
use mathlib.Core.List.{[], ◌∷◌}
use Prim.Native.Nat.{ℕ}
use native.Mathlib.Omega.{arith}
use lib.Ieee.{binary64, of_bits, to_bits}
use Rattle.grow_rules.specs.Run.{Arc}
use Rattle.arcs_growth.specs.Arcs.{same_arc, times_in, SameArcs}

-- an arc by its ends and the patterns of its time and distance
abbrev arc : ℕ → ℕ → ℕ → ℕ → Arc
arc from to time distance = record {
  from = from;
  to = to;
  time = of_bits binary64 time;
  distance = of_bits binary64 distance;
}

-- from node 2 to node 3, in 1 s over 10 m
abbrev a : Arc
a = arc 2 3 0x3ff0000000000000 0x4024000000000000

-- its last second is one unit of the last place longer
abbrev retimed : Arc
retimed = arc 2 3 0x3ff0000000000001 0x4024000000000000

-- another arc
abbrev b : Arc
b = arc 3 4 0 0x4024000000000000

record Told : Type 0 where
  itself : same_arc a a ≡ true
  other_from : same_arc a (arc 1 3 0x3ff0000000000000 0x4024000000000000) ≡ false
  other_to : same_arc a (arc 2 4 0x3ff0000000000000 0x4024000000000000) ≡ false
  -- one bit of the time, one bit of the distance
  other_time : same_arc a retimed ≡ false
  other_distance : same_arc a (arc 2 3 0x3ff0000000000000 0x4024000000000001) ≡ false
  -- the sign of a zero
  minus_zero_time : same_arc (arc 2 3 0 0) (arc 2 3 0x8000000000000000 0) ≡ false
  minus_zero_distance : same_arc (arc 2 3 0 0) (arc 2 3 0 0x8000000000000000) ≡ false

told : Told
unfolding same_arc of_bits to_bits
told = record {
  itself = refl;
  other_from = refl;
  other_to = refl;
  other_time = refl;
  other_distance = refl;
  minus_zero_time = refl;
  minus_zero_distance = refl;
}

-- ---- lists of arcs: the same, whatever their order, and no more the same where one arc is lost, doubled, added or
-- re-timed

reordered : SameArcs (a ∷ b ∷ []) (b ∷ a ∷ [])
unfolding times_in
reordered x = omega arith

-- b is lost, or there where it wasn't
lost : SameArcs (a ∷ b ∷ []) (a ∷ []) → ⊥
unfolding times_in same_arc of_bits to_bits
lost same = let e : ◌≡◌ {A = ℕ} 1 0 = same b in omega (arith, e)

added : SameArcs (a ∷ []) (a ∷ b ∷ []) → ⊥
unfolding times_in same_arc of_bits to_bits
added same = let e : ◌≡◌ {A = ℕ} 0 1 = same b in omega (arith, e)

-- as many arcs on both sides, of which a is there twice
doubled : SameArcs (a ∷ b ∷ []) (a ∷ a ∷ []) → ⊥
unfolding times_in same_arc of_bits to_bits
doubled same = let e : ◌≡◌ {A = ℕ} 1 2 = same a in omega (arith, e)

-- by one bit of its time, by one end, and by the sign of a zero distance
re_timed : SameArcs (a ∷ b ∷ []) (retimed ∷ b ∷ []) → ⊥
unfolding times_in same_arc of_bits to_bits
re_timed same = let e : ◌≡◌ {A = ℕ} 1 0 = same a in omega (arith, e)

led_elsewhere : SameArcs (a ∷ []) (arc 2 4 0x3ff0000000000000 0x4024000000000000 ∷ []) → ⊥
unfolding times_in same_arc of_bits to_bits
led_elsewhere same = let e : ◌≡◌ {A = ℕ} 1 0 = same a in omega (arith, e)

of_minus_zero : SameArcs (arc 2 3 0 0 ∷ []) (arc 2 3 0 0x8000000000000000 ∷ []) → ⊥
unfolding times_in same_arc of_bits to_bits
of_minus_zero same = let e : ◌≡◌ {A = ℕ} 1 0 = same (arc 2 3 0 0) in omega (arith, e)
