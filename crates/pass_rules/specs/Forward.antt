-- `update_times_forward`: "Forward takes the smaller time, ties the smaller index." Each turn takes an entry, relinks
-- the join that it reaches first, and times the nodes behind it up to the next join.
use Rattle.std.specs.Prelude.{Bool, true, false, not, ◌&&◌, ◌||◌, List, [], ◌∷◌, ℕ, zero, suc, ◌-◌, eqb, Float}
use Rattle.std.specs.Float.{binary64}
use Rattle.std.specs.Float.Ieee.{add, of_bits, is_nan}
use Rattle.net_node.specs.Table.{Table, at, is_fake, set_time, set_next, set_prev}
use Rattle.pass_queue.specs.declared.Entry.{Entry}
use Rattle.pass_queue.specs.Queue.{best, others}
use Rattle.laws.specs.Answer.{Answer, given, and_then}
use Rattle.pass_rules.specs.Net.{failed, asserting, Pass, also_done}

-- `time_sched_next`: the time at which the next is reached
unfoldable pub time_next : Table → ℕ → Float
time_next t i = add binary64 (at t i).time_sched (at t i).time_to_next

-- an entry for a node; the source asserts that its time is a number
abbrev pub queued : Bool → Pass → Entry → Answer Pass
queued true p e = failed
queued false p e = given (record { table = p.table; done = p.done; queue = e ∷ p.queue })

unfoldable pub enqueue : Pass → ℕ → Answer Pass
unfolding time_next
enqueue p i = queued (is_nan (time_next p.table i)) p
    (record { time = time_next p.table i; sub = of_bits binary64 0; node = i })

-- a node is timed
unfoldable pub timed : Pass → ℕ → Float → Pass
unfolding set_time also_done
timed p i x = record { table = set_time p.table i x; done = also_done p.done i; queue = p.queue }

-- ---- "Find and swap join nodes"

-- a pass at work: it stands on a node and looks at the one after it
pub record At : Type 0 where
  pub pass : Pass
  pub curr : ℕ
  pub next : ℕ

-- "Iterate while the next node is a non-passed, non-base join node"
unfoldable pub is_passable : Pass → ℕ → ℕ → Bool
is_passable p n i =
    let node = at p.table i in
    is_fake node && not (p.done node.idx_next) && not (eqb node.idx_next (n - 1))

abbrev pub walked_on : Bool → ℕ → Answer ℕ → Answer ℕ
walked_on true i later = later
walked_on false i later = given i

-- Row 15: "over n Fakes in a relink walk"
unfoldable pub relink_walk : ℕ → Pass → ℕ → ℕ → Answer ℕ
unfolding is_passable
relink_walk zero p n i = walked_on (is_passable p n i) i failed
relink_walk (suc k) p n i =
    let later = relink_walk k p n (at p.table i).idx_next in
    walked_on (is_passable p n i) i later

-- "swap the links appropriately": the node and the base of the join that is reached exchange their nexts. Times stay
-- where they are.
unfoldable pub swap_join : Table → ℕ → ℕ → ℕ → Table
unfolding set_next set_prev
swap_join t curr save found =
    let base = (at t found).idx_prev in
    let t1 = set_next t curr found in
    let t2 = set_next t1 base save in
    let t3 = set_prev t2 save base in
    set_prev t3 found curr

abbrev pub swapped_if : Bool → Table → ℕ → ℕ → ℕ → Table
swapped_if true t curr save found = t
swapped_if false t curr save found = swap_join t curr save found

unfoldable pub relinked : Pass → ℕ → ℕ → ℕ → At
unfolding swap_join
relinked p curr save found = record {
  pass = record { table = swapped_if (eqb save found) p.table curr save found; done = p.done; queue = p.queue };
  curr = curr;
  next = found;
}

-- ---- "Iterate until reaching any join node (but also process the first node)"

-- "Add the next alt node to processing if it exists"
abbrev pub alternated_by : ℕ → Pass → ℕ → Answer Pass
alternated_by zero p curr = given p
alternated_by (suc j) p curr = enqueue (timed p (suc j) (at p.table curr).time_sched) (suc j)

-- the next node is timed, and the walk stands on it
unfoldable pub step_on : At → Pass → Answer At
unfolding timed
step_on a p =
    let q = timed p a.next (time_next p.table a.curr) in
    asserting (not (p.done a.next)) (given (record {
      pass = q;
      curr = a.next;
      next = (at q.table a.next).idx_next;
    }))

unfoldable pub step : At → Answer At
unfolding step_on enqueue timed
step a = and_then (alternated_by (at a.pass.table a.curr).idx_next_alt a.pass a.curr) (step_on a)

-- "Break if the next node is a join node or the last node"
unfoldable pub stops_at : At → Bool
stops_at a =
    let node = at a.pass.table a.next in
    not (eqb node.idx_prev_alt 0) || is_fake node

abbrev pub stop_if : Bool → At → (At → Answer At) → Answer At
stop_if true a f = given a
stop_if false a f = f a

-- each turn times a node, so as many turns as there are nodes are enough
unfoldable pub strand : ℕ → At → Answer At
unfolding step stops_at
strand zero a = failed
strand (suc k) a = and_then (step a) (λ (b : At). stop_if (stops_at b) b (strand k))

-- ---- what becomes of the node that the walk stands on

abbrev pub added_if : Bool → Bool → At → Answer Pass
added_if true fake a = given (timed a.pass a.next (at a.pass.table a.curr).time_sched)
added_if false fake a = asserting (not fake) (enqueue a.pass a.curr)

-- "If the node has not been passed, add it"; "If this is the last node, finish it and do not add it"
abbrev pub settled_by : Bool → At → Answer Pass
settled_by false a =
    added_if (eqb (at a.pass.table a.next).idx_next 0) (is_fake (at a.pass.table a.curr)) a
settled_by true a =
    asserting (is_fake (at a.pass.table a.curr))
    (asserting (eqb a.curr (at a.pass.table a.next).idx_prev_alt) (given a.pass))

unfoldable pub settle : At → Answer Pass
unfolding timed enqueue
settle a = settled_by (a.pass.done a.next) a

-- ---- the pass

-- one entry, taken out of the queue
unfoldable pub turn : ℕ → Pass → ℕ → Answer Pass
unfolding relink_walk relinked strand settle
turn n p curr =
    let next = (at p.table curr).idx_next in
    asserting (p.done curr)
    (asserting (not (p.done next))
    (and_then (relink_walk n p n next) (λ (found : ℕ). and_then (strand n (relinked p curr next found)) settle)))

-- the entries left; each turn times a node
unfoldable pub turns : ℕ → ℕ → Table → (ℕ → Bool) → List Entry → Answer Pass
unfolding turn
turns zero n t done q = given (record { table = t; done = done; queue = q })
turns (suc k) n t done [] = given (record { table = t; done = done; queue = [] })
turns (suc k) n t done (x ∷ xs) =
    and_then (turn n (record { table = t; done = done; queue = others false x xs }) (best false x xs).node)
    (λ (p : Pass). turns k n p.table p.done p.queue)

abbrev pub first_two : ℕ → Bool
first_two zero = true
first_two (suc zero) = true
first_two (suc (suc i)) = false

-- nodes 0 and 1 at the departure, and node 1 in the queue
unfoldable pub forward : Table → ℕ → Float → Answer Pass
unfolding turns set_time
forward t n departure =
    asserting (not (is_nan departure))
    (turns n n (set_time (set_time t 0 departure) 1 departure) first_two
    (record { time = departure; sub = of_bits binary64 0; node = 1 } ∷ []))
