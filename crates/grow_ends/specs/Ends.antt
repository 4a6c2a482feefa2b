-- The nodes at which runs have finished, as the work space keeps them: a cell for each node, 8 apart, which is 0 for
-- any other node; an end's has one more than the number of the end before it. So the ends are chained, the latest
-- first. And what the code of the first nodes, of a finish and of the end Fakes answers: the definitions are
-- grow_rules' specs/Growth.antt.
use Rattle.std.specs.Prelude.{◌≡◌, Bool, true, false, List, [], ◌∷◌, ℕ, suc, ◌+◌, ◌*◌, ◌<◌, get_or, set, Float, Result}
use Rattle.std.specs.Prelude.{Ok, Err}
use Rattle.std.specs.Float.{binary64}
use Rattle.std.specs.Float.Ieee.{of_bits}
use Rattle.laws.specs.Answer.{Answer, refused, given}
use Rattle.net_insertion.specs.declared.Place.{Place}
use Rattle.net_insertion.specs.Insertion.{flagged}
use Rattle.net_event_map.specs.EventMap.{head_of}
use Rattle.grow_rules.specs.Run.{Net, Run, member_of}
use Rattle.grow_rules.specs.Growth.{bad_finish, end_fakes, fake_node}
use Rattle.net_node.specs.Left.{Network}
use Rattle.net_node.specs.Table.{Table, put}
use Rattle.refusals.specs.declared.Refusal.{Refusal}
use Rattle.refusals.specs.declared.Refusal.TheVariants.{BadEnd}
use Rattle.refusals.specs.Refusals.{refusal_number}

-- the ends, the latest first: 0 is none, since node 0 is no end
abbrev pub EndsIn : List ℕ → ℕ → ℕ → List ℕ → Type 0
EndsIn cells base last [] = last ≡ 0
EndsIn cells base last (i ∷ is) =
    (last ≡ i) × ((0 < i) × ((get_or cells (base + i * 8) 0 ≡ suc (head_of is)) × EndsIn cells base (head_of is) is))

-- each is one of the first n nodes
abbrev pub Below : ℕ → List ℕ → Type 0
Below n [] = Unit
Below n (i ∷ is) = (i < n) × Below n is

-- some ends are
pub record SomeEnds (cells : List ℕ) (base last n : ℕ) : Type 0 where
  pub ends : List ℕ
  pub chained : EndsIn cells base last ends
  pub below : Below n ends

-- what each answer is: the table's lists and so many nodes, or a refusal
abbrev pub TailAs : Answer Network → List Float → List ℕ → Result ℕ Refusal → Type 0
TailAs answer fs us (Ok k) = answer ≡ given (record { table = record { floats = fs; numbers = us }; nodes = k })
TailAs answer fs us (Err r) = answer ≡ refused (refusal_number r)

-- "End Fakes are pushed for the ends in reverse", of a network whose ends these cells chain
abbrev pub PushesEnds : List ℕ → ℕ → ℕ → ℕ → Network → List Float → List ℕ → Result ℕ Refusal → Type 0
PushesEnds cells base last places t fs us r =
    (ends : List ℕ) → EndsIn cells base last ends → TailAs (end_fakes places ends 0 t) fs us r

-- node 0 leads to node 1, the start, which holds the departure
abbrev pub first_two : Table → Float → Table
first_two t departure = put (put t 0 (fake_node 1 0 0 (of_bits binary64 0))) 1 (fake_node 0 0 0 departure)

-- what is answered to a finish, by whether it is bad: row 13
abbrev pub finish_answer : Bool → Result (Unit {0}) Refusal
finish_answer true = Err BadEnd
finish_answer false = Ok tt

-- a finish of a run at a place of a network of n nodes
pub record FinishAs (fs : List Float) (us cells : List ℕ) (base n : ℕ) (place : Place)
    (r : Result (Unit {0}) Refusal) : Type 0 where
  pub is : (net : Net) (run : Run) → net.table ≡ record { floats = fs; numbers = us } → net.nodes ≡ n
      → run.place ≡ place → ((i : ℕ) → i < n → flagged cells base i ≡ member_of net.ends i)
      → r ≡ finish_answer (bad_finish net run)

-- the end is marked, if it is one
abbrev pub MarkedAs : List ℕ → List ℕ → ℕ → ℕ → ℕ → Result (Unit {0}) Refusal → Type 0
MarkedAs cells cells' base last i (Ok u) = cells' ≡ set cells (base + i * 8) (suc last)
MarkedAs cells cells' base last i (Err r) = cells' ≡ cells
