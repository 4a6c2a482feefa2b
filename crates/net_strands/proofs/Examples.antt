-- Worked examples: join entries followed along networks of a few nodes.
use mathlib.Core.Path.{◌≡◌, refl}
use mathlib.Core.Bool.{true, false}
use mathlib.Core.List.{List, [], ◌∷◌}
use mathlib.Core.Option.{Option, none, some}
use Prim.Native.Nat.{ℕ, zero, suc}
use Rattle.net_node.specs.declared.EstType.{EstType}
use Rattle.net_node.specs.declared.EstType.TheVariants.{Arrive, Clear, Fake}
use Rattle.net_node.specs.declared.LinkEvent.{LinkEvent}
use Rattle.net_node.specs.declared.EstTime.{EstTime}
use Rattle.net_node.specs.Table.{same_event, blank, with_next, with_next_alt, with_event}
use Rattle.net_join_paths.specs.declared.EstJoinPath.{EstJoinPath}
use Rattle.net_join_paths.specs.Entries.{entry, push}
use Rattle.net_strands.specs.Space.{alternatives, strand_from, strands, extended_all}

abbrev event : EstType → ℕ → LinkEvent
event kind link = record { link_idx = link; est_type = kind }

-- a node of an event, with its next and next alternative
abbrev node : EstType → ℕ → ℕ → ℕ → EstTime
node kind link next alt = with_next_alt (with_next (with_event blank (event kind link)) next) alt

-- the node of index i of a list
abbrev of : List EstTime → ℕ → EstTime
of [] i = blank
of (x ∷ xs) zero = x
of (x ∷ xs) (suc i) = of xs i

-- From node 1 one strand goes over the Clear of link 7 to an Arrive of link 2, another by the Fake 4 to an Arrive of
-- link 2; the Clear of link 1 follows on both, and ends them.
abbrev fork : ℕ → EstTime
fork =
    of (node Fake 0 0 0 ∷ node Arrive 1 2 4 ∷ node Clear 7 3 0 ∷ node Arrive 2 6 0 ∷ node Fake 0 5 0 ∷ node Arrive 2 6 0
    ∷ node Clear 1 0 0 ∷ [])

-- the new list for an event that some node has
abbrev after : EstType → ℕ → List EstJoinPath → Option (List EstJoinPath)
after kind link old = extended_all fork 7 (event kind link) true old []

-- node 1 is its own next
abbrev ring : ℕ → EstTime
ring = of (node Fake 0 0 0 ∷ node Fake 0 1 0 ∷ [])

record Examples : Type 0 where
  no_entries : after Arrive 2 [] ≡ some []
  -- without a next an entry is dropped, also where it would be copied
  dropped : after Arrive 2 (entry 1 6 ∷ []) ≡ some []
  dropped_not_copied : after Clear 9 (entry 1 6 ∷ []) ≡ some []
  -- the Clear of another link copies the entry, whether or not some node has it
  copied : after Clear 9 (entry 1 1 ∷ []) ≡ some (entry 1 1 ∷ [])
  copied_unseen : extended_all fork 7 (event Clear 9) false (entry 1 1 ∷ []) [] ≡ some (entry 1 1 ∷ [])
  -- m becomes 0 at the Clear of the match link
  matched : after Clear 7 (entry 7 1 ∷ []) ≡ some (entry 0 2 ∷ [])
  -- an Arrive keeps m; the stacked alternative is walked after the first strand
  stacked_later : after Arrive 2 (entry 1 1 ∷ []) ≡ some (entry 1 3 ∷ entry 1 5 ∷ [])
  -- a strand stops at an Arrive of another link, although the event follows it
  stopped : after Clear 1 (entry 1 1 ∷ []) ≡ some []
  -- with m 0 only the nexts of the node and of its alternatives are looked at
  nearest : after Arrive 2 (entry 0 1 ∷ []) ≡ some (entry 0 5 ∷ [])
  -- the old list's order is kept
  in_order_lem : after Clear 1 (entry 0 5 ∷ entry 8 2 ∷ entry 1 3 ∷ []) ≡ some (entry 0 6 ∷ entry 8 2 ∷ entry 0 6 ∷ [])
  -- no node has the event
  unseen : extended_all fork 7 (event Arrive 3) false (entry 0 1 ∷ entry 1 1 ∷ []) [] ≡ some []
  -- row 12: a strand that does not end
  endless : extended_all ring 2 (event Arrive 2) true (entry 1 1 ∷ []) [] ≡ none

examples : Examples
unfolding extended_all alternatives strands strand_from push entry same_event blank
examples = record {
  no_entries = refl;
  dropped = refl;
  dropped_not_copied = refl;
  copied = refl;
  copied_unseen = refl;
  matched = refl;
  stacked_later = refl;
  stopped = refl;
  nearest = refl;
  in_order_lem = refl;
  unseen = refl;
  endless = refl;
}
