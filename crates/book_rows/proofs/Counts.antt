-- Row 3: the legs' pass.
-- Assumes nothing.
use mathlib.Core.Path.{◌≡◌, refl, sym}
use mathlib.Core.Bool.{false}
use mathlib.Core.List.{List}
use Prim.Native.Nat.{ℕ, ◌+◌, ◌*◌, ◌≤◌, ◌<◌}
use native.Mathlib.Omega.{arith}
use borrow.Author.Tests.{ne_eqb}
use lib.Dec.{eqb}
use Rattle.laws.specs.Below.{some_below, sum_below}
use Rattle.laws.proofs.Below.{none_more, sum_more}
use Rattle.book_format.specs.Format.{leg_samples}

-- what is known of the first i legs of b, each of which has a sample
pub record Passed (b : List ℕ) (i sum : ℕ) : Type 0 where
  pub some : some_below i (λ j. eqb (leg_samples b j) 0) ≡ false
  pub sums : sum ≡ sum_below i (leg_samples b)
  pub least : sum ≤ i * 4294967295

pub none_passed : (b : List ℕ) → Passed b 0 0
unfolding some_below sum_below
none_passed b = record { some = refl; sums = refl; least = omega arith }

pub one_passed : {b : List ℕ} {i sum : ℕ} (n : ℕ) → Passed b i sum → n ≡ leg_samples b i → (n ≡ 0 → ⊥) → n < 4294967296 → Passed b (i + 1) (sum + n)
one_passed {b} {i} {sum} n p e z h =
    let l : sum ≤ i * 4294967295 = p.least in
    record {
      some = none_more i (λ j. eqb (leg_samples b j) 0) p.some (rw (← e) (ne_eqb n 0 z));
      sums = rw (p.sums, e) (sym (sum_more i (leg_samples b)));
      least = omega arith;
    }
