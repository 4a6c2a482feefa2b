-- What the code of the relink walks answers, and what it asks of a network. Only contracts use these words.
use Rattle.std.specs.Prelude.{◌≡◌, Bool, true, false, List, [], ℕ, ◌-◌, ◌<◌, ltb, get_or, Float, Option, Some, None}
use Rattle.net_node.specs.Table.{Table, Room, node_at}
use Rattle.net_node.specs.declared.EstTime.{EstTime}
use Rattle.laws.specs.Answer.{Answer, given}
use Rattle.pass_rules.specs.Net.{failed, Pass}
use Rattle.pass_rules.specs.Forward as Forward
use Rattle.pass_rules.specs.Backward as Backward

-- Row 5 leaves this: of the first n nodes each index names one of them.
pub record Inside (node : ℕ → EstTime) (n : ℕ) : Type 0 where
  pub next : (i : ℕ) → i < n → (node i).idx_next < n
  pub next_alt : (i : ℕ) → i < n → (node i).idx_next_alt < n
  pub prev : (i : ℕ) → i < n → (node i).idx_prev < n
  pub prev_alt : (i : ℕ) → i < n → (node i).idx_prev_alt < n

-- a table of two slices
abbrev pub table_of : List Float → List ℕ → Table
table_of fs us = record { floats = fs; numbers = us }

-- A table with room for n nodes whose indices name nodes. Stands in contracts where the table is lent to be written:
-- the type `LinkedNodes` holds it where it is only read.
pub record Linked (t : Table) (n : ℕ) : Type 0 where
  pub room : Room t.floats t.numbers n
  pub inside : Inside (node_at t.floats t.numbers) n

-- whether a node is done (timed forward, passed backward): its flag is set
unfoldable pub done_in : List ℕ → ℕ → Bool
done_in flags i = ltb 0 (get_or flags i 0)

-- a pass's table and done nodes; the walks don't look at the queue
abbrev pub pass_of : Table → (ℕ → Bool) → Pass
pass_of t done = record { table = t; done = done; queue = [] }

-- the node where a walk ends, or none: it has passed more Fakes than there are nodes
abbrev pub WalkAs : Answer ℕ → ℕ → Option ℕ → Type 0
WalkAs answer n (Some i) = (answer ≡ given i) × (i < n)
WalkAs answer n None = answer ≡ failed

-- ---- both walks in one, by whether the pass goes backward

-- along which index a walk goes: a node's next forward, its previous backward
abbrev pub ahead : Bool → EstTime → ℕ
ahead true node = node.idx_prev
ahead false node = node.idx_next

-- a node's alternative on that side, and on the other
abbrev pub ahead_alt : Bool → EstTime → ℕ
ahead_alt true node = node.idx_prev_alt
ahead_alt false node = node.idx_next_alt

abbrev pub behind_alt : Bool → EstTime → ℕ
behind_alt true node = node.idx_next_alt
behind_alt false node = node.idx_prev_alt

-- what a node exchanges with the base of the join or split that is reached
abbrev pub swap : Bool → Table → ℕ → ℕ → ℕ → Table
swap true t curr save found = Backward.swap_split t curr save found
swap false t curr save found = Forward.swap_join t curr save found

-- the node that a walk doesn't pass to: the end forward, 0 backward
abbrev pub end_of : Bool → ℕ → ℕ
end_of true n = 0
end_of false n = n - 1

abbrev pub passable : Bool → Pass → ℕ → ℕ → Bool
passable true p n i = Backward.is_passable p i
passable false p n i = Forward.is_passable p n i

abbrev pub relink_walk : Bool → ℕ → Pass → ℕ → ℕ → Answer ℕ
relink_walk true k p n i = Backward.relink_walk k p i
relink_walk false k p n i = Forward.relink_walk k p n i

abbrev pub RelinkWalk : Bool → Table → (ℕ → Bool) → ℕ → ℕ → Option ℕ → Type 0
RelinkWalk backward t done n i r = WalkAs (relink_walk backward n (pass_of t done) n i) n r
