-- What a caller may know of a network that is held: which cells have stayed, that they may be taken as the start, and
-- that what is known of a run stays known with more nodes.
use mathlib.Core.Path.{◌≡◌, refl, sym, ap, ◌∙◌, subst}
use mathlib.Core.List.{List}
use Prim.{Unit, tt}
use Prim.Native.Nat.{ℕ, ◌+◌, ◌*◌, ◌≤◌, ◌<◌}
use native.Mathlib.Omega.{arith}
use lib.Ieee.{Float}
use lib.ListN.{length, get_or}
use Rattle.laws.specs.Answer.{Answer, refused, given}
use Rattle.net_event_map.specs.declared.Layout.{Layout}
use Rattle.net_join_paths.specs.declared.EstJoinPath.{EstJoinPath}
use Rattle.net_join_paths.specs.Entries.{Valid}
use Rattle.grow_path.specs.Kept.{PathIn}
use Rattle.grow_rules.specs.Run.{Net, Run, After, EndedRun, goes_on, Arc, member_of}
use Rattle.grow_rules.specs.Run.{Outcome as Became, Ended as Left, On as Goes}
use mathlib.Core.Logic.{◌≢◌}
use Rattle.net_node.specs.Table.{node_at}
use Rattle.net_insertion.specs.Insertion.{flagged}
use Rattle.net_event_map.specs.EventMap.{CellsApart, Mapped}
use Rattle.net_event_map.proofs.Kept.{apart_same}
use Rattle.grow_ends.specs.Ends.{EndsIn, Below}
use Rattle.grow_ends.proofs.Kept.{ends_same, flags_same}
use Rattle.grow_events.specs.declared.Counts.{Counts}
use Rattle.grow_events.specs.declared.Mover.{Mover}
use Rattle.grow_events.specs.Held.{NetIn, RunIn, Along, ends_at}

-- ---- cells that stay

module _ {w : Layout} {start : List ℕ} {fs : List Float} {us cells : List ℕ} {c : Counts} {net : Net}
    (v : NetIn w start fs us cells c net) where
  -- before the nodes' units
  pub before_kept : (q : ℕ) → q < w.nodes_at → get_or cells q 0 ≡ get_or start q 0
  before_kept q h = v.elsewhere q (omega (arith, v.apart.apart)) (λ i k a b d. omega arith)

  -- behind the first three of a node's unit
  pub unit_kept : (i k : ℕ) → i < w.places → 3 ≤ k → k < 8
      → get_or cells (w.nodes_at + i * 8 + k) 0 ≡ get_or start (w.nodes_at + i * 8 + k) 0
  unit_kept i k h a b = v.elsewhere (w.nodes_at + i * 8 + k) (omega (arith, v.apart.apart)) (λ j m f g d. omega arith)

-- ---- a network in other cells, with other ends or arcs

-- what cells say of a network of n nodes and of its ends
pub record InCells (w : Layout) (start : List ℕ) (fs : List Float) (us cells : List ℕ) (n last : ℕ)
    (is : List ℕ) : Type 0 where
  pub apart : CellsApart cells w
  pub mapped : Mapped cells w (node_at fs us) n
  pub ends : EndsIn cells (ends_at w) last is
  pub ends_below : Below n is
  pub ended : (i : ℕ) → i < w.places → flagged cells (ends_at w) i ≡ member_of is i
  pub elsewhere : (q : ℕ) → q < w.links_at → ((i k : ℕ) → i < w.places → k < 3 → q ≢ w.nodes_at + i * 8 + k)
      → get_or cells q 0 ≡ get_or start q 0

-- the network, all of which but its ends, arcs and ended runs is as it was, and its counts
abbrev pub net_with : Net → List ℕ → List Arc → List EndedRun → Net
net_with net is arcs runs = record {
  table = net.table;
  nodes = net.nodes;
  ends = is;
  added = net.added;
  splits = net.splits;
  joined = net.joined;
  noted = arcs;
  runs = runs;
}

abbrev pub counts_with : Counts → ℕ → Counts
counts_with c last = record { nodes = c.nodes; added = c.added; splits = c.splits; joined = c.joined; last_end = last }

module _ {w : Layout} {start : List ℕ} {fs : List Float} {us cells : List ℕ} {c : Counts} {net : Net}
    (v : NetIn w start fs us cells c net) where
  pub net_anew : (arcs : List Arc) (runs : List EndedRun) {start' cells' : List ℕ} {last : ℕ} {is : List ℕ}
      → InCells w start' fs us cells' c.nodes last is
      → NetIn w start' fs us cells' (counts_with c last) (net_with net is arcs runs)
  net_anew arcs runs h = record {
    table = v.table;
    nodes = v.nodes;
    added = v.added;
    splits = v.splits;
    joined = v.joined;
    sum = v.sum;
    room = v.room;
    within = v.within;
    indexed = v.indexed;
    apart = h.apart;
    mapped = h.mapped;
    ends = h.ends;
    ends_below = h.ends_below;
    ended = h.ended;
    elsewhere = h.elsewhere;
  }

  -- what is held says nothing of the arcs
  pub net_noted : (arcs : List Arc) → NetIn w start fs us cells c (net_with net net.ends arcs net.runs)
  net_noted arcs = net_anew arcs net.runs (record {
    apart = v.apart;
    mapped = v.mapped;
    ends = v.ends;
    ends_below = v.ends_below;
    ended = v.ended;
    elsewhere = v.elsewhere;
  })

  -- in cells with the map and the marks of the ends, which may be taken as the start
  pub net_same : (cells' : List ℕ) → length cells' ≡ length cells → Mapped cells' w (node_at fs us) c.nodes
      → ((i : ℕ) → i < w.places → get_or cells' (ends_at w + i * 8) 0 ≡ get_or cells (ends_at w + i * 8) 0)
      → NetIn w cells' fs us cells' c net
  net_same cells' l m h = net_anew net.noted net.runs (record {
    apart = apart_same l v.apart;
    mapped = m;
    ends = ends_same cells (ends_at w) cells' c.last_end c.nodes net.ends v.ends_below
        (λ i k. h i (omega (arith, v.within))) v.ends;
    ends_below = v.ends_below;
    ended = λ i k. flags_same cells (ends_at w) cells' i (h i k) ∙ v.ended i k;
    elsewhere = λ q k f. refl;
  })

  pub net_restart : NetIn w cells fs us cells c net
  net_restart = net_same cells refl v.mapped (λ i h. refl)

-- a path that lies before the nodes' units stays
module _ {w : Layout} {start : List ℕ} {fs fs' : List Float} {us us' cells cells' : List ℕ} {c c' : Counts}
    {net net' : Net} (v : NetIn w start fs us cells c net) (v' : NetIn w start fs' us' cells' c' net') {b : List ℕ}
    {reals : List Float} {path : List ℕ} where
  pub path_kept : length path * 8 ≤ w.nodes_at → PathIn b reals cells path → PathIn b reals cells' path
  path_kept l p = record {
    offsets = p.offsets;
    links = λ k h. before_kept v' (k * 8 + 3) (omega arith) ∙ sym (before_kept v (k * 8 + 3) (omega arith))
        ∙ p.links k h;
  }

  pub along_kept : {n : ℕ} → Along b reals cells w n path → Along b reals cells' w n path
  along_kept a = record { kept = path_kept a.before a.kept; points = a.points; named = a.named; before = a.before }

-- ---- more nodes

-- entries that name nodes
pub valid_more : {es : List EstJoinPath} {n n' : ℕ} → n ≤ n' → Valid es n → Valid es n'
valid_more l v = record { node = λ k h. omega (arith, v.node k h) }

pub run_more : {n n' j : ℕ} {list : List EstJoinPath} {m : Mover} {run : Run} → n ≤ n' → RunIn n j list m run
    → RunIn n' j list m run
run_more l u = record {
  place = u.place;
  leg = u.leg;
  has_split = u.has_split;
  joins = u.joins;
  few = u.few;
  valid = valid_more l u.valid;
  stands = omega (arith, u.stands);
}

-- ---- going on

abbrev after_or : After → Became → After
after_or a (Goes x) = x
after_or a (Left net) = a

abbrev in_answer : After → Answer Became → After
in_answer a (given b) = after_or a b
in_answer a (refused n) = a

abbrev Gives : Answer Became → Type 0
Gives (given (Goes x)) = Unit
Gives (given (Left net)) = ⊥
Gives (refused n) = ⊥

pub goes_given : (a : Answer After) (x : After) → goes_on a ≡ given (Goes x) → a ≡ given x
goes_given (given y) x h = ap (λ (b : Answer Became). given (in_answer y b)) h
goes_given (refused n) x h = absurd (subst Gives (sym h) tt)
