-- The parts of a pass, each as a function of a pass, for both passes in one: by whether it goes backward. `less` is
-- what the backward pass takes off; the forward pass takes nothing off. Only contracts use these words.
use Rattle.std.specs.Prelude.{Bool, true, false, not, List, ℕ, set, Float}
use Rattle.std.specs.Float.{binary64}
use Rattle.std.specs.Float.Ieee.{add, sub, of_bits}
use Rattle.laws.specs.Answer.{Answer, given, and_then}
use Rattle.net_node.specs.declared.EstTime.{EstTime}
use Rattle.net_node.specs.Table.{Table, at, set_time}
use Rattle.pass_queue.specs.declared.Entry.{Entry}
use Rattle.pass_rules.specs.Net.{asserting, Pass}
use Rattle.pass_rules.specs.Walks.{ahead, ahead_alt, relink_walk}
use Rattle.pass_rules.specs.Forward as Forward
use Rattle.pass_rules.specs.Backward as Backward

-- ---- what differs

-- the time of the node that a step comes to, from the node `here`
abbrev pub time_ahead : Bool → EstTime → EstTime → Float → Float
time_ahead true here to less = sub binary64 to.time_sched less
time_ahead false here to less = add binary64 here.time_sched here.time_to_next

-- forward: the entry of a node i at a time, whose next is so much later
abbrev pub entry_before : Float → Float → ℕ → Entry
entry_before time to_next i = record { time = add binary64 time to_next; sub = of_bits binary64 0; node = i }

-- the entry of a node's alternative i, which gets the node's time
abbrev pub alternative_entry : Bool → EstTime → EstTime → ℕ → Entry
alternative_entry true node other i = record {
  time = node.time_sched;
  sub = sub binary64 other.time_sched node.time_sched;
  node = i;
}
alternative_entry false node other i = entry_before node.time_sched other.time_to_next i

-- the entry of a node i that a strand ends on, before the node `to`
abbrev pub end_entry : Bool → EstTime → EstTime → ℕ → Float → Entry
end_entry true node to i less = record {
  time = sub binary64 node.time_sched to.time_to_next;
  sub = less;
  node = i;
}
end_entry false node to i less = entry_before node.time_sched node.time_to_next i

-- the table and the flags once node i, before which the network ends, is done at a time: backward node 0 is then too
abbrev pub finished : Bool → Table → ℕ → Float → Table
finished true t i x = set_time (set_time t i x) 0 x
finished false t i x = set_time t i x

abbrev pub finished_flags : Bool → List ℕ → ℕ → List ℕ
finished_flags true flags i = set (set flags i 1) 0 1
finished_flags false flags i = set flags i 1

-- ---- the parts of a turn

-- a pass that stands on a node and looks at the one ahead of it
abbrev pub At : Bool → Type 0
At true = Backward.At
At false = Forward.At

abbrev pub standing : (backward : Bool) → Float → ℕ → ℕ → Pass → At backward
standing true less curr to p = record { pass = p; curr = curr; prev = to; less = less }
standing false less curr to p = record { pass = p; curr = curr; next = to }

abbrev pub relinked : (backward : Bool) → Pass → ℕ → ℕ → Float → ℕ → At backward
relinked true p curr save less found = Backward.relinked p curr save less found
relinked false p curr save less found = Forward.relinked p curr save found

abbrev pub alternated_by : Bool → ℕ → Pass → ℕ → Answer Pass
alternated_by true i p curr = Backward.alternated_by i p curr
alternated_by false i p curr = Forward.alternated_by i p curr

abbrev pub step : (backward : Bool) → At backward → Answer (At backward)
step true a = Backward.step a
step false a = Forward.step a

abbrev pub strand : (backward : Bool) → ℕ → At backward → Answer (At backward)
strand true k a = Backward.strand k a
strand false k a = Forward.strand k a

abbrev pub settle : (backward : Bool) → At backward → Answer Pass
settle true a = Backward.settle a
settle false a = Forward.settle a

-- one entry's turn, and all
abbrev pub turn : Bool → ℕ → Pass → Entry → Answer Pass
turn true n p e = Backward.turn n p e.node e.sub
turn false n p e = Forward.turn n p e.node

abbrev pub turns : Bool → ℕ → ℕ → Pass → Answer Pass
turns true k n p = Backward.turns k n p.table p.done p.queue
turns false k n p = Forward.turns k n p.table p.done p.queue

-- ---- the same as functions of the pass that stands last

-- a turn's first part: the join or split that is reached first is relinked
abbrev pub relinking : (backward : Bool) → ℕ → Float → ℕ → Pass → Answer (At backward)
relinking backward n less curr p =
    let next = ahead backward (at p.table curr) in
    asserting (p.done curr)
    (asserting (not (p.done next)) (and_then (relink_walk backward n p n next)
    (λ (found : ℕ). given (relinked backward p curr next less found))))

-- a node's alternative, a step, all steps up to a join or split, and what becomes of the node that they end on
abbrev pub alternating : Bool → ℕ → Pass → Answer Pass
alternating backward curr p = alternated_by backward (ahead_alt backward (at p.table curr)) p curr

abbrev pub stepping : (backward : Bool) → Float → ℕ → ℕ → Pass → Answer (At backward)
stepping backward less curr to p = step backward (standing backward less curr to p)

abbrev pub stranding : (backward : Bool) → ℕ → Float → ℕ → ℕ → Pass → Answer (At backward)
stranding backward n less curr to p = strand backward n (standing backward less curr to p)

abbrev pub settling : Bool → Float → ℕ → ℕ → Pass → Answer Pass
settling backward less curr to p = settle backward (standing backward less curr to p)

-- one entry's turn, and all
abbrev pub turning : Bool → ℕ → Entry → Pass → Answer Pass
turning backward n e p = turn backward n p e

abbrev pub turning_all : Bool → ℕ → Pass → Answer Pass
turning_all backward n p = turns backward n n p
