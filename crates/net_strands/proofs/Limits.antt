-- Row 12's limits of join entries, from both sides, computed: "join entry beyond 1,024 in a list .. or strand walk of
-- one entry reading over 4,096 nexts".
use mathlib.Core.Path.{◌≡◌, refl}
use mathlib.Core.Bool.{true, cond}
use mathlib.Core.List.{List, [], ◌∷◌}
use mathlib.Core.Option.{Option, none, some}
use Prim.Native.Nat.{ℕ, suc}
use lib.Dec.{eqb}
use lib.ListN.{replicate}
use Rattle.net_node.specs.declared.EstType.{EstType}
use Rattle.net_node.specs.declared.EstType.TheVariants.{Arrive, Clear}
use Rattle.net_node.specs.declared.LinkEvent.{LinkEvent}
use Rattle.net_node.specs.declared.EstTime.{EstTime}
use Rattle.net_node.specs.Table.{same_event, blank, with_next, with_next_alt, with_event}
use Rattle.net_join_paths.specs.declared.EstJoinPath.{EstJoinPath}
use Rattle.net_join_paths.specs.Entries.{entry, push}
use Rattle.net_strands.specs.Space.{strands, strand_from, extended_all}

abbrev event : EstType → ℕ → LinkEvent
event kind link = record { link_idx = link; est_type = kind }

-- the Arrive of link 2, which is sought
abbrev sought : EstTime
sought = with_event blank (event Arrive 2)

-- a Fake whose next is the node after it
abbrev onward : ℕ → EstTime
onward i = with_next blank (suc i)

-- each node leads to the one after it, and node k is sought: from node 1 on it is the next that is read as number k - 1
abbrev line : ℕ → ℕ → EstTime
line k i = cond (eqb i k) sought (onward i)

-- the same with an alternative of node 1, from which node l is reached as number l - 10,000: both strands are read in
-- the walk of one entry
abbrev fork : ℕ → ℕ → ℕ → EstTime
fork k l i = cond (eqb i l) sought (cond (eqb i 1) (with_next_alt (onward 1) 10000) (line k i))

-- the list for the sought event, from the entry (1, 1)
abbrev found : (ℕ → EstTime) → Option (List EstJoinPath)
found node = extended_all node 20000 (event Arrive 2) true (entry 1 1 ∷ []) []

-- so many entries, each copied, since their match link is not cleared yet
abbrev copied : ℕ → Option (List EstJoinPath)
copied n = extended_all (line 5) 20000 (event Clear 9) true (replicate n (entry 1 1)) []

record Limits : Type 0 where
  -- the 4,096th next is read, a 4,097th is refused
  last_read : found (line 4097) ≡ some (entry 1 4097 ∷ [])
  one_read_more : found (line 4098) ≡ none
  -- 2,000 nexts in the one strand and 2,096 in the other, or one more
  last_read_of_both : found (fork 2001 12096) ≡ some (entry 1 2001 ∷ entry 1 12096 ∷ [])
  one_read_more_of_both : found (fork 2001 12097) ≡ none
  -- a list takes 1,024 entries and no more
  last_entry : copied 1024 ≡ some (replicate 1024 (entry 1 1))
  one_entry_more : copied 1025 ≡ none

limits : Limits
unfolding extended_all strands strand_from push entry same_event blank
limits = record {
  last_read = refl;
  one_read_more = refl;
  last_read_of_both = refl;
  one_read_more_of_both = refl;
  last_entry = refl;
  one_entry_more = refl;
}
