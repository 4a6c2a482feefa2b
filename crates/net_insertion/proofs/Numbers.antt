-- Why an insertion is refused: no place is left, or a run ends there.
use mathlib.Core.Path.{◌≡◌, refl}
use mathlib.Core.Logic.{◌⊎◌, inl, inr}
use mathlib.Core.Bool.{Bool, true, false}
use Prim.Native.Nat.{ℕ, ◌+◌}
use lib.Dec.{ltb}
use lib.Ieee.{Float}
use Rattle.net_node.specs.Table.{Table}
use Rattle.net_node.specs.declared.TimedEvent.{TimedEvent}
use Rattle.net_insertion.specs.declared.Place.{Place}
use Rattle.net_insertion.specs.declared.Seek.{Seek}
use Rattle.net_insertion.specs.declared.Seek.TheVariants.{Open, Match, Split}
use Rattle.std.specs.Prelude.{Result, Ok, Err}
use Rattle.refusals.specs.declared.Refusal.{Refusal}
use Rattle.refusals.specs.declared.Refusal.TheVariants.{NoPlace, BadEnd}
use Rattle.net_insertion.specs.declared.Insertion.{Insertion}
use Rattle.net_insertion.specs.declared.Insertion.TheVariants.{Added}
use Rattle.net_insertion.specs.Insertion.{place_at, added_as, inserted_as, sought_in, inserted}

abbrev pub RefusesAs : Result Insertion Refusal → Type 0
RefusesAs (Err r) = (r ≡ NoPlace) ⊎ (r ≡ BadEnd)
RefusesAs (Ok i) = Unit

added_as_lem : (room ended : Bool) (q : Place) (split : Bool) → RefusesAs (added_as room ended (Added q split))
added_as_lem false ended q split = inl refl
added_as_lem true true q split = inr refl
added_as_lem true false q split = tt

inserted_as_lem : (s : Seek) (n places : ℕ) (ended : ℕ → Bool) (e : TimedEvent)
    → RefusesAs (inserted_as s n places ended e)
inserted_as_lem (Match i) n places ended e = tt
inserted_as_lem (Open i) n places ended e = added_as_lem (ltb n places) (ended i) (place_at n e) false
inserted_as_lem (Split i) n places ended e = added_as_lem (ltb (n + 1) places) false (place_at (n + 1) e) true

pub inserted_refuses : (t : Table) (n places : ℕ) (ended : ℕ → Bool) (join : Float) (p : Place) (e : TimedEvent)
    → RefusesAs (inserted t n places ended join p e)
unfolding inserted
inserted_refuses t n places ended join p e = inserted_as_lem (sought_in t n join p e) n places ended e
