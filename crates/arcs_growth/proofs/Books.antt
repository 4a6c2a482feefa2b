-- Every book that rows 5, 7 and 8 let through is one that growth can read.
use mathlib.Core.Path.{◌≡◌, refl}
use mathlib.Core.Bool.{false}
use mathlib.Core.List.{List, [], ◌∷◌}
use Prim.Native.Nat.{ℕ}
use lib.Dec.{eqb}
use Rattle.laws.proofs.Truth.{not_both}
use Rattle.laws.specs.Below.{some_below}
use Rattle.laws.proofs.Below.{none_right}
use Rattle.book_format.specs.Format.{destinations, legs, destination_link, leg_link}
use Rattle.book_format.specs.Rows.{row5, bad_leg}
use Rattle.book_format.proofs.Given.{leg_named, leg_above}
use Rattle.book_legs.proofs.Found.{next_alone}
use Rattle.book_options.specs.Options.{kept_origins, none, row8}
use Rattle.arcs_growth.specs.Read.{SomeKept, Read}

pub read_rows_lem : (b : List ℕ) → row5 b ≡ false → some_below (legs b) (bad_leg b) ≡ false → row8 b ≡ false → Read b
unfolding row8
read_rows_lem b five seven eight = record {
  kept = some (kept_origins b) (none_right (some_below (destinations b) (λ i. eqb (destination_link b i) 0))
      (none (kept_origins b)) eight);
  parents = leg_above b seven;
  forks = λ i h e. next_alone b five (leg_link b i) (leg_named b five i h) e;
}
  where
    some : (idxs : List ℕ) → none idxs ≡ false → SomeKept idxs
    some [] e = not_both refl e
    some (idx ∷ idxs) e = tt
