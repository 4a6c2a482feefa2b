-- The three stores of a join, one after the other.
use mathlib.Core.Path.{◌≡◌, ap, ◌∙◌}
use mathlib.Core.List.{List}
use Prim.Native.Nat.{ℕ, ◌-◌}
use lib.Ieee.{Float}
use Rattle.net_node.specs.declared.EstTime.{EstTime}
use Rattle.net_node.specs.declared.TimedEvent.{TimedEvent}
use Rattle.net_node.specs.Table.{node_at, put_floats, put_numbers, Table, put, at, with_prev_alt}
use Rattle.net_insertion.specs.Insertion.{linked_to, table_of}
use Rattle.net_joins.specs.Joins.{chain_end, join_fake, join_at, joined_table}

stored : (s : Table) (i : ℕ) (x : EstTime) (fs : List Float) (us : List ℕ) → fs ≡ put_floats s.floats i x
    → us ≡ put_numbers s.numbers i x → table_of fs us ≡ put s i x
unfolding put
stored s i x fs us a b = λ t. record { floats = a t; numbers = b t }

-- node x was loaded, u stored, v stored, y loaded, z stored
pub record Stored (t : Table) (n end : ℕ) (e : TimedEvent) (fs gs hs : List Float) (us vs ws : List ℕ)
    (x u v y z : EstTime) : Type 0 where
  pub load : x ≡ node_at t.floats t.numbers end
  pub joined : u ≡ with_prev_alt x n
  pub floats : fs ≡ put_floats t.floats end u
  pub numbers : us ≡ put_numbers t.numbers end u
  pub fake : v ≡ join_fake end (n - 1)
  pub floats_then : gs ≡ put_floats fs n v
  pub numbers_then : vs ≡ put_numbers us n v
  pub load_then : y ≡ node_at gs vs (n - 1)
  pub linked : z ≡ linked_to y n e
  pub floats_last : hs ≡ put_floats gs (n - 1) z
  pub numbers_last : ws ≡ put_numbers vs (n - 1) z

module _ {t : Table} {n end : ℕ} {e : TimedEvent} {fs gs hs : List Float} {us vs ws : List ℕ} {x u v y z : EstTime}
    (s : Stored t n end e fs gs hs us vs ws x u v y z) where
  abbrev first : Table
  first = put t end (with_prev_alt (at t end) n)

  abbrev second : Table
  second = put first n (join_fake end (n - 1))

  stored_first : table_of fs us ≡ first
  unfolding at
  stored_first = stored t end u fs us s.floats s.numbers
      ∙ ap (put t end) (s.joined ∙ ap (λ (m : EstTime). with_prev_alt m n) s.load)

  stored_second : table_of gs vs ≡ second
  stored_second =
      stored (table_of fs us) n v gs vs s.floats_then s.numbers_then
      ∙ ap (λ (r : Table). put r n v) stored_first
      ∙ ap (put first n) s.fake

  stored_third : table_of hs ws ≡ join_at t n end e
  unfolding join_at at
  stored_third =
      stored (table_of gs vs) (n - 1) z hs ws s.floats_last s.numbers_last
      ∙ ap (put (table_of gs vs) (n - 1)) (s.linked ∙ ap (λ (m : EstTime). linked_to m n e) s.load_then)
      ∙ ap (λ (r : Table). put r (n - 1) (linked_to (at r (n - 1)) n e)) stored_second

  pub join_stored : (hs ≡ (join_at t n end e).floats) × (ws ≡ (join_at t n end e).numbers)
  join_stored = (ap (λ (r : Table). r.floats) stored_third, ap (λ (r : Table). r.numbers) stored_third)

-- at the end of a target's chain
pub joined_stored : (t : Table) (n target end : ℕ) (e : TimedEvent) (fs : List Float) (us : List ℕ)
    → end ≡ chain_end n (node_at t.floats t.numbers) target
    → (fs ≡ (join_at t n end e).floats) × (us ≡ (join_at t n end e).numbers)
    → (fs ≡ (joined_table t n target e).floats) × (us ≡ (joined_table t n target e).numbers)
unfolding joined_table at
joined_stored t n target end e fs us h l =
    (l.0 ∙ ap (λ (i : ℕ). (join_at t n i e).floats) h, l.1 ∙ ap (λ (i : ℕ). (join_at t n i e).numbers) h)
