-- Worked examples: the search over books of a few links, from their bytes on.
use mathlib.Core.Path.{◌≡◌, refl}
use mathlib.Core.List.{List, [], ◌∷◌, ◌++◌}
use Prim.Native.Nat.{ℕ}
use lib.ListN.{replicate}
use Rattle.fields.specs.Fields.{u32_at}
use Rattle.laws.specs.Below.{some_below}
use Rattle.book_format.specs.Format.{links, origins, destinations, origins_at_of, destinations_at_of, link_prev, link_prev_alt, origin_link, destination_link}
use Rattle.book_options.specs.Options.{member, origin_below, stacked, pushed, options_of, kept_origins, link_options}
use Rattle.std.proofs.Common.{Ok, Err}
use Rattle.refusals.specs.declared.Refusal.TheVariants.{NoPath}

-- a number below 256
abbrev word : ℕ → List ℕ
word n = n ∷ replicate 3 0

-- a link's row with its previous and their alternative, the other fields 0
abbrev link : ℕ → ℕ → List ℕ
link previous alternative = replicate 16 0 ++ word previous ++ word alternative

-- an origin's row
abbrev origin : ℕ → List ℕ
origin l = word l ++ replicate 12 0

-- the sections after their counts
abbrev bytes : ℕ → List ℕ → ℕ → List ℕ → ℕ → List ℕ → List ℕ
bytes n links m origins k destinations = replicate 24 0 ++ word n ++ links ++ word m ++ origins ++ word k ++ destinations

-- document 01's book: link 2 after link 1, origin 1, destination 2
abbrev first : List ℕ
first = bytes 3 (link 0 0 ++ link 0 0 ++ link 1 0) 1 (origin 1) 1 (word 2)

-- before link 3 stand links 1 and 2, each an origin
abbrev both : List ℕ
both = bytes 4 (link 0 0 ++ link 0 0 ++ link 0 0 ++ link 1 2) 2 (origin 1 ++ origin 2) 1 (word 3)

-- an alternative without a previous
abbrev alternative : List ℕ
alternative = bytes 3 (link 0 0 ++ link 0 0 ++ link 0 1) 1 (origin 1) 1 (word 2)

-- the destinations 1 and 2 are the origins, link 2 after link 1
abbrev ends : List ℕ
ends = bytes 3 (link 0 0 ++ link 0 0 ++ link 1 0) 2 (origin 2 ++ origin 1) 2 (word 1 ++ word 2)

-- destination 0
abbrev zero_end : List ℕ
zero_end = bytes 3 (link 0 0 ++ link 0 0 ++ link 1 0) 1 (origin 1) 2 (word 2 ++ word 0)

record Examples : Type 0 where
  followed : options_of first ≡ record { stack = []; set = 1 ∷ 2 ∷ []; kept = 0 ∷ [] }
  alternative_first : options_of both ≡ record { stack = []; set = 1 ∷ 2 ∷ 3 ∷ []; kept = 1 ∷ 0 ∷ [] }
  last_destination_first : options_of ends ≡ record { stack = []; set = 1 ∷ 2 ∷ []; kept = 0 ∷ 1 ∷ [] }
  found : link_options both ≡ Ok 2
  no_real_previous : link_options alternative ≡ Err NoPath
  no_destination : link_options zero_end ≡ Err NoPath

examples : Examples
unfolding link_options options_of kept_origins stacked member origin_below pushed some_below links origins destinations origins_at_of destinations_at_of origin_link destination_link link_prev link_prev_alt u32_at
examples = record { followed = refl; alternative_first = refl; last_destination_first = refl; found = refl; no_real_previous = refl; no_destination = refl }
