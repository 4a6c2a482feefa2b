-- What the parts of either pass promise each other, over the slices that they are lent. Only contracts use these words.
use Rattle.std.specs.Prelude.{Bool, not, ◌||◌, List, ℕ, ◌+◌, ◌-◌, eqb, Float, Option}
use Rattle.laws.specs.Answer.{Answer}
use Rattle.space.specs.Lent.{Lent}
use Rattle.net_node.specs.declared.EstTime.{EstTime}
use Rattle.net_node.specs.Table.{Table, is_fake}
use Rattle.net_node.specs.Lent.{table_at_entry, table_at_exit}
use Rattle.pass_queue.specs.declared.Entry.{Entry}
use Rattle.pass_rules.specs.Net.{Pass}
use Rattle.pass_state.specs.declared.Stand.{Stand}
use Rattle.pass_state.specs.Held.{PassSlices, slices, table_in, left, PassIn, PassAs, StandsAs, FindsBy}
use Rattle.pass_state.specs.Held.{EnqueuedAs, EndsAs}
use Rattle.pass_state.specs.Strands.{relinking, standing}

-- the slices of a pass, at a part's entry and at its exit
pub record PassLent : Type 0 where
  pub at_entry : PassSlices
  pub at_exit : PassSlices

abbrev pub lent : Lent (List Float) → Lent (List ℕ) → Lent (List ℕ) → Lent (List Float) → Lent (List ℕ) → PassLent
lent floats numbers flags times nodes = record {
  at_entry = slices floats.entry.now numbers.entry.now flags.entry.now times.entry.now
      nodes.entry.now;
  at_exit = slices floats.exit.now numbers.exit.now flags.exit.now times.exit.now
      nodes.exit.now;
}

-- whether a strand ends at a node: it has an alternative on this side, or is a Fake
abbrev pub stops_by : (EstTime → ℕ) → EstTime → Bool
stops_by alt x = not (eqb (alt x) 0) || is_fake x

-- an entry is put into a queue of `count` that is lent, if its time and its sub are numbers
abbrev pub Enqueues : Lent (List Float) → Lent (List ℕ) → Bool → ℕ → Entry → Option ℕ → Type 0
Enqueues times nodes backward count e r = EnqueuedAs backward times.entry.now nodes.entry.now
    times.exit.now nodes.exit.now count e r

-- below which bound the number of nodes left is then: no more than before, or fewer
abbrev pub no_more : ℕ → ℕ
no_more k = k + 1

abbrev pub fewer : ℕ → ℕ
fewer k = k

-- Each pass that the slices hold at first, with `count` entries: what `does` makes of it is what they hold then, with
-- an entry more at most.
abbrev pub PassTo : PassLent → Bool → ℕ → ℕ → (Pass → Answer Pass) → (ℕ → ℕ) → Option ℕ → Type 0
PassTo s backward n count does bound r =
    (p : Pass) (begun : List ℕ) → PassIn begun backward n s.at_entry count (n - 2) p
    → PassAs begun (does p) backward n s.at_exit (n - 1) (bound (left p.done n)) r

-- .. and the strand then stands on a node
abbrev pub StandsTo : {A : Type 0} → PassLent → Bool → ℕ → ℕ → (Pass → Answer A) → (ℕ → ℕ → Pass → A) → Option Stand
    → Type 0
StandsTo s backward n count does at r =
    (p : Pass) (begun : List ℕ) → PassIn begun backward n s.at_entry count (n - 2) p
    → StandsAs begun (does p) at backward n s.at_exit (n - 2) (left p.done n) r

-- .. and the table alone is changed, whatever the queue is
abbrev pub FindsIn : {A : Type 0} → Table → Table → List ℕ → Bool → ℕ → (Pass → Answer A) → (ℕ → Pass → A) → Option ℕ
    → Type 0
FindsIn t t' flags backward n does at r =
    (p : Pass) (begun : List ℕ) (ts : List Float) (ns : List ℕ) (count most : ℕ)
    → PassIn begun backward n (slices t.floats t.numbers flags ts ns) count most p
    → FindsBy begun (does p) at backward n (slices t'.floats t'.numbers flags ts ns) count most (left p.done n + 1) r

-- .. the join or split that is reached first is relinked, whatever is taken off
abbrev pub Relinked : Table → Table → List ℕ → Bool → ℕ → ℕ → Option ℕ → Type 0
Relinked t t' flags backward n curr r =
    (less : Float) → FindsIn t t' flags backward n (relinking backward n less curr) (standing backward less curr) r

-- .. and the pass comes to its end, from as many entries as the queue may have
abbrev pub EndsTo : PassLent → Bool → ℕ → ℕ → (Pass → Answer Pass) → Option Unit → Type 0
EndsTo s backward n count does r =
    (p : Pass) (begun : List ℕ) → PassIn begun backward n s.at_entry count (n - 1) p
    → EndsAs begun (does p) n (table_in s.at_exit) s.at_exit.flags r

-- a whole pass over a table that is lent
abbrev pub PassEnds : Lent (List Float) → Lent (List ℕ) → Lent (List ℕ) → ℕ → (Table → Answer Pass) → Option Unit
    → Type 0
PassEnds floats numbers flags n does r =
    EndsAs flags.entry.now (does (table_at_entry floats numbers)) n (table_at_exit floats numbers) flags.exit.now r
