-- Worked examples: the nodes of an event in a network of seven nodes.
use mathlib.Core.Path.{◌≡◌, refl}
use mathlib.Core.Bool.{true, false}
use mathlib.Core.List.{List, [], ◌∷◌}
use Prim.Native.Nat.{ℕ, zero, suc}
use Rattle.laws.specs.Below.{some_below}
use Rattle.net_node.specs.declared.EstTime.{EstTime}
use Rattle.net_node.specs.declared.LinkEvent.{LinkEvent}
use Rattle.net_node.specs.Table.{same_kind, same_event, no_link_event, blank, with_event}
use Rattle.net_event_map.specs.EventMap.{seen_in, nodes_from, event_nodes, head_of, last_of, arrive_at, clear_at}

-- a node of which only the event is of account
abbrev of : LinkEvent → EstTime
of e = with_event blank e

-- the nodes with these events, then Fakes
abbrev nodes : List LinkEvent → ℕ → EstTime
nodes [] i = of no_link_event
nodes (e ∷ es) zero = of e
nodes (e ∷ es) (suc i) = nodes es i

-- two Fakes, the Arrives of links 3 and 4, the Clear of link 3, the Arrive of link 3 twice
abbrev net : ℕ → EstTime
net = nodes (no_link_event ∷ no_link_event ∷ arrive_at 3 ∷ arrive_at 4 ∷ clear_at 3 ∷ arrive_at 3 ∷ arrive_at 3 ∷ [])

record Examples : Type 0 where
  rising : event_nodes net (arrive_at 3) 7 ≡ 2 ∷ 5 ∷ 6 ∷ []
  fewer : event_nodes net (arrive_at 3) 5 ≡ 2 ∷ []
  behind : nodes_from net (arrive_at 3) 3 4 ≡ 5 ∷ 6 ∷ []
  first : head_of (event_nodes net (arrive_at 3) 7) ≡ 2
  last : last_of (event_nodes net (arrive_at 3) 7) ≡ 6
  none : event_nodes net (arrive_at 5) 7 ≡ []
  first_of_none : head_of (event_nodes net (arrive_at 5) 7) ≡ 0
  clear_alone : event_nodes net (clear_at 3) 7 ≡ 4 ∷ []
  clear_is_no_arrive : seen_in net 7 (clear_at 4) ≡ false
  arrive_seen : seen_in net 7 (arrive_at 4) ≡ true

examples : Examples
unfolding seen_in some_below nodes_from event_nodes last_of same_event same_kind arrive_at clear_at no_link_event
examples = record {
  rising = refl;
  fewer = refl;
  behind = refl;
  first = refl;
  last = refl;
  none = refl;
  first_of_none = refl;
  clear_alone = refl;
  clear_is_no_arrive = refl;
  arrive_seen = refl;
}
