-- `update_times_backward`: "backward the greatest by `EstTimePrev`'s `partial_cmp`". Each turn takes an entry, relinks
-- the split that it reaches first, with the times and distances to next, and takes what is to be subtracted off the
-- times before it, up to the next split.
use Rattle.std.specs.Prelude.{Bool, true, false, not, ◌&&◌, ◌||◌, List, [], ◌∷◌, ℕ, zero, suc, ◌-◌, eqb, Float}
use Rattle.std.specs.Float.{binary64}
use Rattle.std.specs.Float.Ieee.{sub, of_bits, is_nan}
use Rattle.net_node.specs.Table.{Table, at, is_fake, set_time, set_next, set_prev, set_arc}
use Rattle.pass_queue.specs.declared.Entry.{Entry}
use Rattle.pass_queue.specs.Queue.{best, others}
use Rattle.laws.specs.Answer.{Answer, given, and_then}
use Rattle.pass_rules.specs.Net.{failed, asserting, Pass, also_done}

-- an entry for a node; the source asserts that its time and its sub are numbers
abbrev pub queued : Bool → Pass → Entry → Answer Pass
queued true p e = failed
queued false p e = given (record { table = p.table; done = p.done; queue = e ∷ p.queue })

unfoldable pub enqueue : Pass → Float → Float → ℕ → Answer Pass
enqueue p time less i = queued (is_nan time || is_nan less) p (record { time = time; sub = less; node = i })

-- a node is passed, at this time
unfoldable pub passed : Pass → ℕ → Float → Pass
unfolding set_time also_done
passed p i x = record { table = set_time p.table i x; done = also_done p.done i; queue = p.queue }

-- ---- "Find and swap split nodes"

-- a pass at work: it stands on a node and looks at the one before it; `less` is taken off
pub record At : Type 0 where
  pub pass : Pass
  pub curr : ℕ
  pub prev : ℕ
  pub less : Float

-- "Iterate while the prev node is a non-passed, non-base split node"
unfoldable pub is_passable : Pass → ℕ → Bool
is_passable p i =
    let node = at p.table i in
    is_fake node && not (p.done node.idx_prev) && not (eqb node.idx_prev 0)

abbrev pub walked_on : Bool → ℕ → Answer ℕ → Answer ℕ
walked_on true i later = later
walked_on false i later = given i

-- Row 15: "over n Fakes in a relink walk"
unfoldable pub relink_walk : ℕ → Pass → ℕ → Answer ℕ
unfolding is_passable
relink_walk zero p i = walked_on (is_passable p i) i failed
relink_walk (suc k) p i =
    let later = relink_walk k p (at p.table i).idx_prev in
    walked_on (is_passable p i) i later

-- "swap the links appropriately": the node and the base of the split that is reached exchange their previous, and time
-- and distance to next go along
unfoldable pub swap_split : Table → ℕ → ℕ → ℕ → Table
unfolding set_next set_prev set_arc
swap_split t curr save found =
    let base = (at t found).idx_next in
    let t1 = set_prev t curr found in
    let t2 = set_prev t1 base save in
    let t3 = set_next t2 save base in
    let t4 = set_next t3 found curr in
    let a = at t4 save in
    let b = at t4 found in
    let t5 = set_arc t4 save b.time_to_next b.dist_to_next in
    set_arc t5 found a.time_to_next a.dist_to_next

abbrev pub swapped_if : Bool → Table → ℕ → ℕ → ℕ → Table
swapped_if true t curr save found = t
swapped_if false t curr save found = swap_split t curr save found

unfoldable pub relinked : Pass → ℕ → ℕ → Float → ℕ → At
unfolding swap_split
relinked p curr save less found = record {
  pass = record { table = swapped_if (eqb save found) p.table curr save found; done = p.done; queue = p.queue };
  curr = curr;
  prev = found;
  less = less;
}

-- ---- "Iterate until reaching any split node (but process the first node)"

-- the previous alternative gets the time of the node, and what that took off is its own sub
abbrev pub alternated_by : ℕ → Pass → ℕ → Answer Pass
alternated_by zero p curr = given p
alternated_by (suc j) p curr =
    let time = (at p.table curr).time_sched in
    enqueue (passed p (suc j) time) time (sub binary64 (at p.table (suc j)).time_sched time) (suc j)

unfoldable pub step_on : At → Pass → Answer At
unfolding passed
step_on a p =
    let q = passed p a.prev (sub binary64 (at p.table a.prev).time_sched a.less) in
    asserting (not (p.done a.prev)) (given (record {
      pass = q;
      curr = a.prev;
      prev = (at q.table a.prev).idx_prev;
      less = a.less;
    }))

unfoldable pub step : At → Answer At
unfolding step_on enqueue passed
step a = and_then (alternated_by (at a.pass.table a.curr).idx_prev_alt a.pass a.curr) (step_on a)

-- "Break if the prev node is a split node or the first node"
unfoldable pub stops_at : At → Bool
stops_at a =
    let node = at a.pass.table a.prev in
    not (eqb node.idx_next_alt 0) || is_fake node

abbrev pub stop_if : Bool → At → (At → Answer At) → Answer At
stop_if true a f = given a
stop_if false a f = f a

-- each turn passes a node, so as many turns as there are nodes are enough
unfoldable pub strand : ℕ → At → Answer At
unfolding step stops_at
strand zero a = failed
strand (suc k) a = and_then (step a) (λ (b : At). stop_if (stops_at b) b (strand k))

-- ---- what becomes of the node that the walk stands on

-- "If this is the second node, finish it and the first node and do not add them"
abbrev pub added_if : Bool → Bool → At → Answer Pass
added_if true fake a =
    let time = (at a.pass.table a.curr).time_sched in
    given (passed (passed a.pass a.prev time) 0 time)
added_if false fake a =
    asserting (not fake)
    (enqueue a.pass (sub binary64 (at a.pass.table a.curr).time_sched
    (at a.pass.table a.prev).time_to_next) a.less a.curr)

abbrev pub settled_by : Bool → At → Answer Pass
settled_by false a =
    added_if (eqb (at a.pass.table a.prev).idx_prev 0) (is_fake (at a.pass.table a.curr)) a
settled_by true a =
    asserting (is_fake (at a.pass.table a.curr))
    (asserting (eqb a.curr (at a.pass.table a.prev).idx_next_alt) (given a.pass))

unfoldable pub settle : At → Answer Pass
unfolding passed enqueue
settle a = settled_by (a.pass.done a.prev) a

-- ---- the pass

unfoldable pub turn : ℕ → Pass → ℕ → Float → Answer Pass
unfolding relink_walk relinked strand settle
turn n p curr less =
    let prev = (at p.table curr).idx_prev in
    asserting (p.done curr)
    (asserting (not (p.done prev))
    (and_then (relink_walk n p prev) (λ (found : ℕ). and_then (strand n (relinked p curr prev less found)) settle)))

unfoldable pub turns : ℕ → ℕ → Table → (ℕ → Bool) → List Entry → Answer Pass
unfolding turn
turns zero n t done q = given (record { table = t; done = done; queue = q })
turns (suc k) n t done [] = given (record { table = t; done = done; queue = [] })
turns (suc k) n t done (x ∷ xs) =
    let e = best true x xs in
    and_then (turn n (record { table = t; done = done; queue = others true x xs }) e.node e.sub)
    (λ (p : Pass). turns k n p.table p.done p.queue)

unfoldable pub last_two : ℕ → ℕ → Bool
last_two n i = eqb i (n - 1) || eqb i (n - 2)

-- the last two nodes are passed, and the one before the last is in the queue
unfoldable pub backward : Table → ℕ → Answer Pass
unfolding turns last_two
backward t n = turns n n t (last_two n)
    (record { time = of_bits binary64 0; sub = of_bits binary64 0; node = n - 2 } ∷ [])
