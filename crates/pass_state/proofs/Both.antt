-- Both passes in one, by whether it goes backward, as the laws of a turn's parts have them.
use mathlib.Core.Path.{◌≡◌, refl, sym, ap, ◌∙◌, subst}
use mathlib.Core.Logic.{◌≢◌}
use mathlib.Core.Bool.{Bool, true, false, not, ◌||◌}
use mathlib.Core.List.{List, [], ◌∷◌}
use Prim.Native.Nat.{ℕ, zero, suc, ◌+◌, ◌-◌, ◌≤◌, ◌<◌}
use native.Mathlib.Omega.{arith}
use lib.Dec.{eqb}
use lib.ListN.{length, set}
use lib.Ieee.{Float, binary64, add, of_bits, is_nan}
use Rattle.std.specs.Prelude.{Option, Some}
use Rattle.net_node.specs.declared.EstTime.{EstTime}
use Rattle.net_node.specs.Table.{node_at, Table, at, is_fake, set_time, with_time}
use Rattle.net_node.proofs.Sets.{time_set}
use Rattle.pass_queue.specs.declared.Entry.{Entry}
use Rattle.pass_queue.specs.Queue.{best, others}
use Rattle.laws.specs.Answer.{Answer, refused, given, and_then}
use Rattle.pass_rules.specs.Net.{asserting, Pass}
use Rattle.pass_rules.specs.Walks.{Linked, table_of, pass_of, ahead, ahead_alt, behind_alt, relink_walk, swap}
use Rattle.pass_rules.specs.Forward as Forward
use Rattle.pass_rules.specs.Backward as Backward
use Rattle.pass_state.specs.Held.{PassSlices, slices, table_in, left, PassIn, PassAs, EnqueuedAs}
use Rattle.pass_state.specs.Strands.{time_ahead, alternative_entry, end_entry, finished, finished_flags, At, standing, relinked, alternated_by, step, strand, settle, turn, turns, relinking, alternating}
use Rattle.pass_state.specs.Promises.{stops_by}
use Rattle.pass_state.proofs.Left.{left_kept}
use Rattle.pass_state.proofs.Links.{Names, linked_join, linked_split}
use Rattle.pass_state.proofs.Kept.{tabled, done_at_of, queueing, node_in, linked_in, in_done}
use Rattle.pass_state.proofs.Relinks.{Relinker}
use Rattle.pass_state.proofs.Steps.{Stepper, alternate_none, alternate_some}
use Rattle.pass_state.proofs.Strands.{Walker, stops_in}
use Rattle.pass_state.proofs.Settles.{Settler}
use Rattle.pass_state.proofs.Parts.{Parts, then_inside}
use Rattle.pass_state.proofs.Turning.{Turner}

-- a node's neighbours are nodes
pub ahead_in : (b : Bool) {n : ℕ} {x : EstTime} → Names x n → ahead b x < n
ahead_in true v = v.prev
ahead_in false v = v.next

pub ahead_alt_in : (b : Bool) {n : ℕ} {x : EstTime} → Names x n → ahead_alt b x < n
ahead_alt_in true v = v.prev_alt
ahead_alt_in false v = v.next_alt

pub ahead_timed : (b : Bool) (x : EstTime) (t : Float) → ahead b (with_time x t) ≡ ahead b x
ahead_timed true x t = refl
ahead_timed false x t = refl

-- ---- the relink

-- the walk doesn't look at the queue
pub walk_same : (b : Bool) (k : ℕ) (p : Pass) (n i : ℕ) → relink_walk b k p n i ≡ relink_walk b k (pass_of p.table p.done) n i
unfolding Forward.relink_walk Backward.relink_walk
walk_same true zero p n i = refl
walk_same true (suc k) p n i = ap (Backward.walked_on (Backward.is_passable p i) i) (walk_same true k p n (at p.table i).idx_prev)
walk_same false zero p n i = refl
walk_same false (suc k) p n i = ap (Forward.walked_on (Forward.is_passable p n i) i) (walk_same false k p n (at p.table i).idx_next)

pub swap_linked : (b : Bool) (t : Table) (n : ℕ) → Linked t n → (curr save found : ℕ) → curr < n → save < n → found < n → Linked (swap b t curr save found) n
swap_linked true t n v curr save found c s f = linked_split t n v curr save found c s f
swap_linked false t n v curr save found c s f = linked_join t n v curr save found c s f

pub relinked_kept : (b : Bool) (less : Float) (p : Pass) (curr save found : ℕ) → eqb save found ≡ true → relinked b p curr save less found ≡ standing b less curr found p
unfolding Forward.relinked Backward.relinked
relinked_kept true less p curr save found e = ap (λ (z : Bool). standing true less curr found (tabled p (Backward.swapped_if z p.table curr save found))) e
relinked_kept false less p curr save found e = ap (λ (z : Bool). standing false less curr found (tabled p (Forward.swapped_if z p.table curr save found))) e

pub relinked_swapped : (b : Bool) (less : Float) (p : Pass) (curr save found : ℕ) → eqb save found ≡ false → relinked b p curr save less found ≡ standing b less curr found (tabled p (swap b p.table curr save found))
unfolding Forward.relinked Backward.relinked
relinked_swapped true less p curr save found e = ap (λ (z : Bool). standing true less curr found (tabled p (Backward.swapped_if z p.table curr save found))) e
relinked_swapped false less p curr save found e = ap (λ (z : Bool). standing false less curr found (tabled p (Forward.swapped_if z p.table curr save found))) e

abbrev pub relinker : (b : Bool) (n : ℕ) → Float → Relinker n
relinker b n less = record {
  A = At b;
  form = standing b less;
  link = ahead b;
  inside = λ v. ahead_in b v;
  walk = λ p i. relink_walk b n p n i;
  same = λ p i. walk_same b n p n i;
  swap = swap b;
  linked = λ t v curr save found c s f. swap_linked b t n v curr save found c s f;
  relinked = λ p curr save found. relinked b p curr save less found;
  kept = λ p curr save found e. relinked_kept b less p curr save found e;
  swapped = λ p curr save found e. relinked_swapped b less p curr save found e;
}

-- ---- a strand

pub step_is : (b : Bool) (less : Float) (p : Pass) (curr next : ℕ)
    → step b (standing b less curr next p)
    ≡ and_then (alternating b curr p) (λ (q : Pass). asserting (not (q.done next))
    (given (standing b less next (ahead b (at (set_time q.table next (time_ahead b (at q.table curr) (at q.table next) less)) next)) (done_at_of q next (time_ahead b (at q.table curr) (at q.table next) less)))))
unfolding Forward.step Forward.step_on Forward.timed Forward.time_next Backward.step Backward.step_on Backward.passed
step_is true less p curr next = refl
step_is false less p curr next = refl

abbrev pub stepper : (b : Bool) (n : ℕ) → Float → Stepper n
stepper b n less = record {
  A = At b;
  form = standing b less;
  link = ahead b;
  inside = λ v. ahead_in b v;
  timed = λ x t. ahead_timed b x t;
  alternated = λ p curr. alternating b curr p;
  time = λ t curr next. time_ahead b (at t curr) (at t next) less;
  step = step b;
  is = step_is b less;
}

-- the time of the node that is looked at, by the nodes that were loaded
pub time_loaded : (b : Bool) (fs : List Float) (us : List ℕ) (less : Float) (curr next : ℕ) (x y : EstTime) → x ≡ node_at fs us curr → y ≡ node_at fs us next
    → (t : Float) → t ≡ time_ahead b x y less → t ≡ time_ahead b (at (table_of fs us) curr) (at (table_of fs us) next) less
unfolding at
time_loaded b fs us less curr next x y l m t e = e ∙ ap (λ (z : EstTime). time_ahead b z y less) l ∙ ap (λ (z : EstTime). time_ahead b (node_at fs us curr) z less) m

abbrev pub stops_of : (b : Bool) → At b → Bool
stops_of true a = Backward.stops_at a
stops_of false a = Forward.stops_at a

abbrev pub stop_by : (b : Bool) → Bool → At b → (At b → Answer (At b)) → Answer (At b)
stop_by b true a f = given a
stop_by b false a f = f a

pub strand_none : (b : Bool) (a : At b) → strand b 0 a ≡ refused 15
unfolding Forward.strand Backward.strand
strand_none true a = refl
strand_none false a = refl

pub strand_more : (b : Bool) (k : ℕ) (a : At b) → strand b (suc k) a ≡ and_then (step b a) (λ (c : At b). stop_by b (stops_of b c) c (strand b k))
unfolding Forward.strand Backward.strand
strand_more true k a = refl
strand_more false k a = refl

abbrev pub walker : Bool → Float → Walker
walker b less = record { A = At b; form = standing b less; step = step b; stops = stops_of b; stop_if = stop_by b; stopped = λ a f. refl; on = λ a f. refl; strand = strand b; none = strand_none b; more = strand_more b }

-- whether the walk stops
pub stops_as : (b : Bool) {n : ℕ} {held : PassSlices} {count most : ℕ} {begun : List ℕ} {p : Pass} → PassIn begun b n held count most p → (less : Float) (i k : ℕ) (t : Bool)
    → t ≡ stops_by (behind_alt b) (node_at held.floats held.numbers k) → t ≡ stops_of b (standing b less i k p)
unfolding Forward.stops_at Backward.stops_at
stops_as true v less i k t e = stops_in (behind_alt true) v k t e
stops_as false v less i k t e = stops_in (behind_alt false) v k t e

-- ---- entries

-- a forward entry's sub is a number
pub zero_number : (x : Float) → (is_nan x || is_nan (of_bits binary64 0)) ≡ is_nan x
unfolding is_nan of_bits
zero_number x = go (is_nan x)
  where
    go : (b : Bool) → (b || false) ≡ b
    go true = refl
    go false = refl

-- an entry that is queued, if it is one
abbrev pub entered : Pass → Entry → Answer Pass
entered p e = Backward.queued (is_nan e.time || is_nan e.sub) p e

forward_entered : (p : Pass) (i : ℕ) (x : Float) → x ≡ Forward.time_next p.table i → Forward.enqueue p i ≡ entered p (record { time = x; sub = of_bits binary64 0; node = i })
unfolding Forward.enqueue
forward_entered p i x e =
    ap (λ (y : Float). Forward.queued (is_nan y) p (record { time = y; sub = of_bits binary64 0; node = i })) (sym e)
    ∙ ap (λ (b : Bool). Backward.queued b p (record { time = x; sub = of_bits binary64 0; node = i })) (sym (zero_number x))

-- ---- a node's alternative

alternated_at : (b : Bool) (n : ℕ) (k : ℕ) (p : Pass) (curr : ℕ) → Linked p.table n → k < n → k ≢ 0
    → alternated_by b k p curr ≡ entered (done_at_of p k (at p.table curr).time_sched) (alternative_entry b (at p.table curr) (at p.table k) k)
unfolding Backward.enqueue Backward.passed Forward.timed Forward.time_next
alternated_at b n zero p curr v l h = absurd (h refl)
alternated_at true n (suc k) p curr v l h = refl
alternated_at false n (suc k) p curr v l h =
    let t = (at p.table curr).time_sched in
    let e : add binary64 t (at p.table (suc k)).time_to_next ≡ Forward.time_next (set_time p.table (suc k) t) (suc k) = ap (λ (x : EstTime). add binary64 x.time_sched x.time_to_next) (sym (time_set p.table n v.room (suc k) l t).here) in
    forward_entered (done_at_of p (suc k) t) (suc k) (add binary64 t (at p.table (suc k)).time_to_next) e

alternated_none : (b : Bool) (p : Pass) (curr : ℕ) → alternated_by b 0 p curr ≡ given p
alternated_none true p curr = refl
alternated_none false p curr = refl

alternative_named : (b : Bool) (x y : EstTime) (i : ℕ) → (alternative_entry b x y i).node ≡ i
alternative_named true x y i = refl
alternative_named false x y i = refl

module _ (b : Bool) {n : ℕ} {held : PassSlices} {count : ℕ} {begun : List ℕ} {p : Pass} (v : PassIn begun b n held count (n - 2) p) (curr : ℕ) (x : EstTime) (l : x ≡ node_at held.floats held.numbers curr) where
  alternating_is : (k : ℕ) → ahead_alt b x ≡ k → alternating b curr p ≡ alternated_by b k p curr
  alternating_is k e = ap (λ (y : EstTime). alternated_by b (ahead_alt b y) p curr) (sym (node_in v curr x l)) ∙ ap (λ (i : ℕ). alternated_by b i p curr) e

  pub alternative_none : (k : ℕ) → k ≡ ahead_alt b x → k ≡ 0 → PassAs begun (alternating b curr p) b n held (n - 1) (left p.done n + 1) (Some count)
  alternative_none k e z = alternate_none v (alternating b curr p) (alternating_is 0 (sym e ∙ z) ∙ alternated_none b p curr)

  pub alternative_some : (k : ℕ) → k ≡ ahead_alt b x → k ≢ 0 → k < n → (y : EstTime) → y ≡ node_at held.floats held.numbers k → {gs : List Float} {vs flags : List ℕ}
      → (gs ≡ (set_time (table_in held) k x.time_sched).floats) × ((vs ≡ (set_time (table_in held) k x.time_sched).numbers) × (flags ≡ set held.flags k 1))
      → (e : Entry) → e ≡ alternative_entry b x y k → {ts' : List Float} {ns' : List ℕ} {r : Option ℕ} → EnqueuedAs b held.times held.nodes ts' ns' count e r → length held.times ≡ length ts' → length held.nodes ≡ length ns'
      → PassAs begun (alternating b curr p) b n (slices gs vs flags ts' ns') (n - 1) (left p.done n + 1) r
  alternative_some k w z h y m {gs} {vs} {flags} d e s q =
      let t = x.time_sched in
      let i = alternating_is k (sym w) ∙ alternated_at b n k p curr (linked_in v) h z
      ∙ ap (λ (c : EstTime). entered (done_at_of p k c.time_sched) (alternative_entry b c (at p.table k) k)) (sym (node_in v curr x l))
      ∙ ap (λ (c : EstTime). entered (done_at_of p k t) (alternative_entry b x c k)) (sym (node_in v k y m))
      ∙ ap (entered (done_at_of p k t)) (sym s) in
      alternate_some v (alternating b curr p) k (omega (arith, z)) h t e (ap (λ (c : Entry). c.node) s ∙ alternative_named b x y k) i d q

-- ---- what becomes of the node that it ends on

-- a pass once the network's end is done
abbrev pub ended_at : Bool → Pass → ℕ → Float → Pass
ended_at true p i x = done_at_of (done_at_of p i x) 0 x
ended_at false p i x = done_at_of p i x

module _ (b : Bool) (less : Float) (p : Pass) (curr next : ℕ) where
  abbrev pub leaves : Entry
  leaves = end_entry b (at p.table curr) (at p.table next) curr less

pub joins_as : (b : Bool) (less : Float) (p : Pass) (curr next : ℕ) → p.done next ≡ true
    → settle b (standing b less curr next p) ≡ asserting (is_fake (at p.table curr)) (asserting (eqb curr (behind_alt b (at p.table next))) (given p))
unfolding Forward.settle Backward.settle
joins_as true less p curr next e = ap (λ (z : Bool). Backward.settled_by z (standing true less curr next p)) e
joins_as false less p curr next e = ap (λ (z : Bool). Forward.settled_by z (standing false less curr next p)) e

pub ends_as : (b : Bool) (less : Float) (p : Pass) (curr next : ℕ) → p.done next ≡ false → eqb (ahead b (at p.table next)) 0 ≡ true
    → settle b (standing b less curr next p) ≡ given (ended_at b p next (at p.table curr).time_sched)
unfolding Forward.settle Backward.settle Forward.timed Backward.passed
ends_as true less p curr next d e = ap (λ (z : Bool). Backward.settled_by z (standing true less curr next p)) d ∙ ap (λ (z : Bool). Backward.added_if z (is_fake (at p.table curr)) (standing true less curr next p)) e
ends_as false less p curr next d e = ap (λ (z : Bool). Forward.settled_by z (standing false less curr next p)) d ∙ ap (λ (z : Bool). Forward.added_if z (is_fake (at p.table curr)) (standing false less curr next p)) e

pub adds_as : (b : Bool) (less : Float) (p : Pass) (curr next : ℕ) → p.done next ≡ false → eqb (ahead b (at p.table next)) 0 ≡ false
    → settle b (standing b less curr next p) ≡ asserting (not (is_fake (at p.table curr))) (entered p (leaves b less p curr next))
unfolding Forward.settle Backward.settle Backward.enqueue Forward.time_next
adds_as true less p curr next d e = ap (λ (z : Bool). Backward.settled_by z (standing true less curr next p)) d ∙ ap (λ (z : Bool). Backward.added_if z (is_fake (at p.table curr)) (standing true less curr next p)) e
adds_as false less p curr next d e =
    ap (λ (z : Bool). Forward.settled_by z (standing false less curr next p)) d
    ∙ ap (λ (z : Bool). Forward.added_if z (is_fake (at p.table curr)) (standing false less curr next p)) e
    ∙ ap (asserting (not (is_fake (at p.table curr)))) (forward_entered p curr (add binary64 (at p.table curr).time_sched (at p.table curr).time_to_next) refl)

pub leaves_named : (b : Bool) (less : Float) (p : Pass) (curr next : ℕ) → (leaves b less p curr next).node ≡ curr
leaves_named true less p curr next = refl
leaves_named false less p curr next = refl

abbrev pub settler : (b : Bool) (n : ℕ) → Float → Settler n
settler b n less = record {
  A = At b;
  form = standing b less;
  link = ahead b;
  alt = behind_alt b;
  inside = λ v. ahead_in b v;
  ended = λ p curr next. ended_at b p next (at p.table curr).time_sched;
  entry = λ p curr next. leaves b less p curr next;
  named = λ p curr next. leaves_named b less p curr next;
  settle = settle b;
  joins = λ p curr next e. joins_as b less p curr next e;
  ends = λ p curr next d e. ends_as b less p curr next d e;
  adds = λ p curr next d e. adds_as b less p curr next d e;
}

pub ended_fewer : (b : Bool) (p : Pass) (i n : ℕ) (x : Float) → left (ended_at b p i x).done n ≤ left p.done n
ended_fewer true p i n x = omega (arith, left_kept p.done i n, left_kept (done_at_of p i x).done 0 n)
ended_fewer false p i n x = left_kept p.done i n

-- the end of the network gets the time of the node that the strand ends on
module _ {n : ℕ} {held : PassSlices} {count most : ℕ} where
  ended_by : (b : Bool) {begun : List ℕ} {p : Pass} → PassIn begun b n held count most p → (next : ℕ) → next < n → (x : Float) → {gs : List Float} {vs flags : List ℕ}
      → (gs ≡ (finished b (table_in held) next x).floats) × ((vs ≡ (finished b (table_in held) next x).numbers) × (flags ≡ finished_flags b held.flags next))
      → PassIn begun b n (slices gs vs flags held.times held.nodes) count most (ended_at b p next x)
  ended_by true v next h x {gs} {vs} {flags} d =
      let t = set_time (table_in held) next x in
      in_done (in_done v next h x t.floats t.numbers (set held.flags next 1) (refl, (refl, refl))) 0 (omega arith) x gs vs flags d
  ended_by false v next h x {gs} {vs} {flags} d = in_done v next h x gs vs flags d

  pub ended_in : (b : Bool) {begun : List ℕ} {p : Pass} (v : PassIn begun b n held count most p) (curr next : ℕ) → next < n → (x : EstTime) → x ≡ node_at held.floats held.numbers curr → {gs : List Float} {vs flags : List ℕ}
      → (gs ≡ (finished b (table_in held) next x.time_sched).floats) × ((vs ≡ (finished b (table_in held) next x.time_sched).numbers) × (flags ≡ finished_flags b held.flags next))
      → PassIn begun b n (slices gs vs flags held.times held.nodes) count most (ended_at b p next (at p.table curr).time_sched)
  ended_in b {begun} {p} v curr next h x l {gs} {vs} {flags} d =
      subst (λ (y : EstTime). PassIn begun b n (slices gs vs flags held.times held.nodes) count most (ended_at b p next y.time_sched)) (node_in v curr x l) (ended_by b v next h x.time_sched d)

-- the entry by the nodes that were loaded
pub leaves_in : (b : Bool) (less : Float) {n : ℕ} {held : PassSlices} {count most : ℕ} {begun : List ℕ} {p : Pass} (v : PassIn begun b n held count most p) (curr next : ℕ) (x y : EstTime) → x ≡ node_at held.floats held.numbers curr → y ≡ node_at held.floats held.numbers next
    → (e : Entry) → e ≡ end_entry b x y curr less → {ts' : List Float} {ns' : List ℕ} {r : Option ℕ} → EnqueuedAs b held.times held.nodes ts' ns' count e r → EnqueuedAs b held.times held.nodes ts' ns' count (leaves b less p curr next) r
leaves_in b less {n} {held} {count} {most} {begun} {p} v curr next x y l m e s {ts'} {ns'} {r} q =
    subst (λ (c : Entry). EnqueuedAs b held.times held.nodes ts' ns' count c r)
    (s ∙ ap (λ (c : EstTime). end_entry b c y curr less) (node_in v curr x l) ∙ ap (λ (c : EstTime). end_entry b (at p.table curr) c curr less) (node_in v next y m)) q

-- ---- turns

pub turn_is : (b : Bool) (n : ℕ) (e : Entry) (p : Pass) → turn b n p e ≡ and_then (relinking b n e.sub e.node p) (λ (a : At b). and_then (strand b n a) (settle b))
unfolding Forward.turn Backward.turn
turn_is true n e p =
    let next = (at p.table e.node).idx_prev in
    then_inside (p.done e.node) (not (p.done next)) (Backward.relink_walk n p next) (Backward.relinked p e.node next e.sub) (λ (a : Backward.At). and_then (Backward.strand n a) Backward.settle)
turn_is false n e p =
    let next = (at p.table e.node).idx_next in
    then_inside (p.done e.node) (not (p.done next)) (Forward.relink_walk n p n next) (Forward.relinked p e.node next) (λ (a : Forward.At). and_then (Forward.strand n a) Forward.settle)

abbrev pub parts : Bool → ℕ → Entry → Parts
parts b n e = record { A = At b; form = standing b e.sub; relink = relinking b n e.sub e.node; strand = strand b n; settle = settle b; turn = λ p. turn b n p e; is = turn_is b n e }

pub turns_end : (b : Bool) (n k : ℕ) (p : Pass) → p.queue ≡ [] → turns b (suc k) n p ≡ given p
unfolding Forward.turns Backward.turns
turns_end true n k p e = ap (λ (q : List Entry). Backward.turns (suc k) n p.table p.done q) e ∙ ap (λ (q : List Entry). given (queueing p q)) (sym e)
turns_end false n k p e = ap (λ (q : List Entry). Forward.turns (suc k) n p.table p.done q) e ∙ ap (λ (q : List Entry). given (queueing p q)) (sym e)

pub turns_more : (b : Bool) (n k : ℕ) (p : Pass) (x : Entry) (xs : List Entry) → p.queue ≡ x ∷ xs → turns b (suc k) n p ≡ and_then (turn b n (queueing p (others b x xs)) (best b x xs)) (turns b k n)
unfolding Forward.turns Backward.turns
turns_more true n k p x xs e = ap (λ (q : List Entry). Backward.turns (suc k) n p.table p.done q) e
turns_more false n k p x xs e = ap (λ (q : List Entry). Forward.turns (suc k) n p.table p.done q) e

abbrev pub turner : Bool → ℕ → Turner
turner b n = record { backward = b; turn = λ p e. turn b n p e; turns = λ k p. turns b k n p; ended = λ k p. turns_end b n k p; more = λ k p. turns_more b n k p }
