-- Words of the contracts: what entries give that are followed, noted of their nodes while one event is looked at. Which
-- nodes an entry gives depends on its own node and on whether it matches already, and on nothing else of it nor on the
-- list before it; so they are worked out once, and copied for every other such entry of that node. What strands give is
-- noted of each node where they can meet, and copied for every strand that comes there.
use Rattle.std.specs.Prelude.{◌≡◌, List, ℕ, ◌-◌, ◌≤◌, ◌<◌, length, Result, Ok, Err}
use Rattle.std.proofs.Math.Option.{Option}
use Prim.{Unit}
use Rattle.refusals.specs.declared.Refusal.{Refusal}
use Rattle.net_node.specs.declared.LinkEvent.{LinkEvent}
use Rattle.net_node.specs.declared.EstTime.{EstTime}
use Rattle.net_event_map.specs.declared.Layout.{Layout}
use Rattle.net_notes.specs.Log.{matched_column, strands_column, nexts_column, note_in, Says, Touched}
use Rattle.net_join_paths.specs.declared.EstJoinPath.{EstJoinPath}
use Rattle.net_join_paths.specs.Entries.{EntriesAs}
use Rattle.net_join_paths.specs.Spans.{pushed_all, nodes_in}
use Rattle.net_strands.specs.Space.{alternatives}
use Rattle.net_strands.specs.Walks.{popped_to, walked, spend}

-- a rule gives an entry for each node of a span, whatever the match link and whatever the list before it
pub record SpanGives (rule : ℕ → List EstJoinPath → Option (List EstJoinPath)) (list : List EstJoinPath)
    (begin end : ℕ) : Type 0 where
  pub rises : begin ≤ end
  pub inside : end ≤ length list
  pub gives : (m : ℕ) (es : List EstJoinPath) → rule m es ≡ pushed_all m (nodes_in list begin (end - begin)) es

-- A node's walk gives the nodes of a span for so many nexts, whatever was stacked before it and however many may be
-- read.
pub record WalkGives (node : ℕ → EstTime) (e : LinkEvent) (list : List EstJoinPath) (i begin end nexts : ℕ)
    : Type 0 where
  pub rises : begin ≤ end
  pub inside : end ≤ length list
  pub gives : (k : ℕ) (stack : List ℕ)
      → walked k node e i stack
      ≡ spend nexts (nodes_in list begin (end - begin)) (λ j. popped_to stack (walked j node e)) k

-- what the cells of all nodes say of a new list
pub record Given (cells : List ℕ) (w : Layout) (node : ℕ → EstTime) (n : ℕ) (e : LinkEvent) (list : List EstJoinPath)
    : Type 0 where
  pub matched : (i : ℕ) → i < n
      → Says (SpanGives (λ m es. alternatives n node e m i es) list) (note_in cells w i matched_column)
  pub strands : (i : ℕ) → i < n
      → Says (λ begin end. WalkGives node e list i begin end (note_in cells w i nexts_column))
      (note_in cells w i strands_column)

-- the same of an answer
abbrev pub GivenThen : List ℕ → Layout → (ℕ → EstTime) → ℕ → LinkEvent → List EstJoinPath → Result Unit Refusal → Type 0
GivenThen cells w node n e list (Ok done) = Given cells w node n e list
GivenThen cells w node n e list (Err r) = Unit

-- A rule is applied to a list; what is noted meanwhile is logged.
pub record Extends (rule : List EstJoinPath → Option (List EstJoinPath)) (w : Layout) (node : ℕ → EstTime) (n : ℕ)
    (e : LinkEvent) (cells : List ℕ) (list : List EstJoinPath) (cells' : List ℕ) (list' : List EstJoinPath)
    (r : Result Unit Refusal) : Type 0 where
  pub answer : EntriesAs (rule list) list' r
  pub given : GivenThen cells' w node n e list' r
  pub touched : (cells₀ : List ℕ) → Touched w cells₀ cells → Touched w cells₀ cells'
