-- A time pass at work in the lent slices: the table's nodes, a flag for each node that is done (timed or passed), and
-- the queue.
use Rattle.std.specs.Prelude.{◌≡◌, Bool, true, false, not, ◌||◌, List, ◌∷◌, ℕ, zero, suc, ◌+◌, ◌*◌, ◌-◌, ◌≤◌, ◌<◌}
use Rattle.std.specs.Prelude.{length, get_or, Float, Option, Some, None}
use Rattle.std.specs.Float.Ieee.{is_nan}
use Rattle.laws.specs.Answer.{Answer, given}
use Rattle.net_node.specs.Table.{Table, float_width, number_width}
use Rattle.pass_queue.specs.declared.Entry.{Entry}
use Rattle.pass_queue.specs.Queue.{one, HeapRoom, Holds, Each}
use Rattle.pass_rules.specs.Net.{failed, Pass}
use Rattle.pass_rules.specs.Walks.{Linked, done_in}
use Rattle.pass_state.specs.declared.Stand.{Stand}

-- The slices that a pass is lent: the table in `floats` and `numbers`, the flags, the queue in `times` and `nodes`.
-- Stands in contracts, and not as a struct of five `&mut` in the code: each function would owe five clauses more, that
-- it leaves the same references behind, and take the struct apart for net_node and pass_queue.
pub record PassSlices : Type 0 where
  pub floats : List Float
  pub numbers : List ℕ
  pub flags : List ℕ
  pub times : List Float
  pub nodes : List ℕ

abbrev pub slices : List Float → List ℕ → List ℕ → List Float → List ℕ → PassSlices
slices fs us flags ts ns = record { floats = fs; numbers = us; flags = flags; times = ts; nodes = ns }

abbrev pub table_in : PassSlices → Table
table_in held = record { floats = held.floats; numbers = held.numbers }

-- how many of the first n nodes are not done
unfoldable pub left : (ℕ → Bool) → ℕ → ℕ
left done zero = 0
left done (suc n) = one (not (done n)) + left done n

-- Node i stands in a table of two slices, and has a flag.
pub record NodeIn (fs : List Float) (us flags : List ℕ) (i : ℕ) : Type 0 where
  pub floats : i * float_width + float_width ≤ length fs
  pub numbers : i * number_width + number_width ≤ length us
  pub flag : i < length flags

-- A pass over n nodes is what the slices hold. The queue has `count` entries, and entries and nodes left are at most
-- `most` together: below n, so the queue has room. Flags behind the n nodes' are as `begun` has them, from before the
-- pass.
pub record PassIn (begun : List ℕ) (backward : Bool) (n : ℕ) (held : PassSlices) (count most : ℕ) (p : Pass) :
    Type 0 where
  pub table : p.table ≡ table_in held
  pub linked : Linked (table_in held) n
  pub flags : n ≤ length held.flags
  pub done : p.done ≡ done_in held.flags
  pub behind : (i : ℕ) → n ≤ i → get_or held.flags i 0 ≡ get_or begun i 0
  pub queue : Holds backward held.times held.nodes count p.queue
  pub named : Each (λ e. e.node < n) p.queue
  pub room : HeapRoom held.times held.nodes n
  pub few : count + left p.done n ≤ most

-- some pass is
pub record Working (backward : Bool) (n : ℕ) (held : PassSlices) (count most : ℕ) : Type 0 where
  pub pass : Pass
  pub begun : List ℕ
  pub holds : PassIn begun backward n held count most pass

-- some pass is, and a strand stands on one of its nodes and looks at another
pub record Standing (backward : Bool) (n : ℕ) (held : PassSlices) (s : Stand) : Type 0 where
  pub working : Working backward n held s.count (n - 2)
  pub curr : s.curr < n
  pub ahead : s.ahead < n

-- An answer's pass is what the slices hold then, and fewer nodes than `bound` are left. Where the answer is more than a
-- pass, `at` puts it together.
pub record Gives {A : Type 0} (begun : List ℕ) (answer : Answer A) (at : Pass → A) (backward : Bool) (n : ℕ)
    (held : PassSlices) (count most bound : ℕ) : Type 0 where
  pub pass : Pass
  pub is : answer ≡ given (at pass)
  pub holds : PassIn begun backward n held count most pass
  pub fewer : left pass.done n < bound

-- a pass with so many entries, or that an assertion fails
abbrev pub PassBy : List ℕ → Answer Pass → Bool → ℕ → PassSlices → ℕ → ℕ → Option ℕ → Type 0
PassBy begun answer backward n held most bound (Some count) =
    Gives begun answer (λ p. p) backward n held count most bound
PassBy begun answer backward n held most bound None = answer ≡ failed

pub record PassAs (begun : List ℕ) (answer : Answer Pass) (backward : Bool) (n : ℕ) (held : PassSlices)
    (most bound : ℕ) (r : Option ℕ) : Type 0 where
  pub told : PassBy begun answer backward n held most bound r

-- a strand stands on one node and looks at another
abbrev pub StandsBy : {A : Type 0} → List ℕ → Answer A → (ℕ → ℕ → Pass → A) → Bool → ℕ → PassSlices → ℕ → ℕ
    → Option Stand → Type 0
StandsBy begun answer at backward n held most bound (Some s) =
    Gives begun answer (at s.curr s.ahead) backward n held s.count most bound × ((s.curr < n) × (s.ahead < n))
StandsBy begun answer at backward n held most bound None = answer ≡ failed

pub record StandsAs {A : Type 0} (begun : List ℕ) (answer : Answer A) (at : ℕ → ℕ → Pass → A) (backward : Bool)
    (n : ℕ) (held : PassSlices) (most bound : ℕ) (r : Option Stand) : Type 0 where
  pub told : StandsBy begun answer at backward n held most bound r

-- a strand looks at the node that a relink walk found
abbrev pub FindsBy : {A : Type 0} → List ℕ → Answer A → (ℕ → Pass → A) → Bool → ℕ → PassSlices → ℕ → ℕ → ℕ → Option ℕ
    → Type 0
FindsBy begun answer at backward n held count most bound (Some i) =
    Gives begun answer (at i) backward n held count most bound × (i < n)
FindsBy begun answer at backward n held count most bound None = answer ≡ failed

-- an entry is queued, if its time and its sub are numbers
abbrev pub unordered : Entry → Bool
unordered e = is_nan e.time || is_nan e.sub

abbrev pub EnqueuedBy : Bool → List Float → List ℕ → List Float → List ℕ → ℕ → Entry → Option ℕ → Type 0
EnqueuedBy backward ts ns ts' ns' count e (Some k) =
    (unordered e ≡ false) × ((k ≡ count + 1) × ((es : List Entry) → Holds backward ts ns count es → Holds backward ts'
    ns' k (e ∷ es)))
EnqueuedBy backward ts ns ts' ns' count e None = unordered e ≡ true

pub record EnqueuedAs (backward : Bool) (ts : List Float) (ns : List ℕ) (ts' : List Float) (ns' : List ℕ) (count : ℕ)
    (e : Entry)
    (r : Option ℕ) : Type 0 where
  pub told : EnqueuedBy backward ts ns ts' ns' count e r

-- ---- a whole pass

-- What a pass begins with: a network of n nodes, none of which is done, and room for its queue.
pub record Unbegun (held : PassSlices) (n : ℕ) : Type 0 where
  pub linked : Linked (table_in held) n
  pub three : 3 ≤ n
  pub flags : n ≤ length held.flags
  pub unset : (i : ℕ) → done_in held.flags i ≡ false
  pub room : HeapRoom held.times held.nodes n

-- It came to its end: the table, a flag for each node that is done, and behind the n nodes' flags those that were there
-- before the pass, `begun`.
pub record Ends (begun : List ℕ) (answer : Answer Pass) (n : ℕ) (t : Table) (flags : List ℕ) : Type 0 where
  pub pass : Pass
  pub is : answer ≡ given pass
  pub table : pass.table ≡ t
  pub done : pass.done ≡ done_in flags
  pub behind : (i : ℕ) → n ≤ i → get_or flags i 0 ≡ get_or begun i 0
  pub linked : Linked t n

-- it did, or an assertion failed
abbrev pub EndsAs : List ℕ → Answer Pass → ℕ → Table → List ℕ → Option Unit → Type 0
EndsAs begun answer n t flags (Some u) = Ends begun answer n t flags
EndsAs begun answer n t flags None = answer ≡ failed
