-- An answer that may be a refusal: what is asked for is given, or one number of document 01's table.
use Rattle.std.specs.Prelude.{ℕ, zero, suc}

-- a refusal's number, or what is given
pub data Answer (A : Type 0) : Type 0 where
  refused : ℕ → Answer A
  given : A → Answer A

-- what is made of a given answer; a refusal stays: "the first met"
abbrev pub and_then : {A B : Type 0} → Answer A → (A → Answer B) → Answer B
and_then (refused n) f = refused n
and_then (given a) f = f a

-- a number that was found before, or what comes later where there was none: "Of 1 to 8 the lowest wins; after that the
-- first met."
abbrev pub unless : {A : Type 0} → ℕ → Answer A → Answer A
unless zero later = later
unless (suc k) later = refused (suc k)

-- the number of an answer, 0 where something is given
abbrev pub number_of : {A : Type 0} → Answer A → ℕ
number_of (refused n) = n
number_of (given a) = 0
