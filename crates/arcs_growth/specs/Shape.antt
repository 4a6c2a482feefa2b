-- The shape of a grown network, which growth makes and both passes keep. Bases are the nodes that have an arc: the
-- start, events and split Fakes. Receivers are what an arc's next names: events, join Fakes and end Fakes. On them next
-- and prev are inverse to each other.
use Rattle.std.specs.Prelude.{◌≡◌, ◌⊎◌, Bool, true, not, ◌&&◌, ℕ, ◌-◌, ◌≤◌, ◌<◌, ltb}
use Rattle.net_node.specs.Table.{is_fake}
use Rattle.net_node.specs.declared.EstTime.{EstTime}
use Rattle.arcs_growth.specs.Arcs.{is_alternative, is_base, goal_of}

-- events, join Fakes and end Fakes: no node 0, no start, no end, no split Fake
unfoldable pub is_receiver : (ℕ → EstTime) → ℕ → ℕ → Bool
is_receiver node n i = ltb 1 i && ltb i (n - 1) && not (is_alternative node n i)

-- the shape of n nodes
pub record Shape (node : ℕ → EstTime) (n : ℕ) : Type 0 where
  -- node 0, the start and the end are Fakes, and none of them is an alternative
  pub some : 3 ≤ n
  pub first_fake : is_fake (node 0) ≡ true
  pub start_fake : is_fake (node 1) ≡ true
  pub end_fake : is_fake (node (n - 1)) ≡ true
  pub start_prev : (node 1).idx_prev ≡ 0
  pub end_prev : (node (n - 1)).idx_prev ≡ n - 2
  -- an alternative is a later node, a Fake, no other node's alternative, and its prev is the base whose alternative it
  -- is
  pub alt_rises : (i : ℕ) → i < n → 0 < (node i).idx_next_alt → i < (node i).idx_next_alt
  pub alt_inside : (i : ℕ) → i < n → 0 < (node i).idx_next_alt → (node i).idx_next_alt < n - 1
  pub alt_fake : (i : ℕ) → i < n → 0 < (node i).idx_next_alt → is_fake (node (node i).idx_next_alt) ≡ true
  pub alt_base : (i : ℕ) → i < n → 0 < (node i).idx_next_alt → is_base node n i ≡ true
  pub alt_beyond : (i : ℕ) → i < n → 0 < (node i).idx_next_alt → 1 < (node i).idx_next_alt
  pub alt_prev : (i : ℕ) → i < n → 0 < (node i).idx_next_alt → (node (node i).idx_next_alt).idx_prev ≡ i
  -- a previous alternative is a receiver: a join's Fake, or an end's
  pub prev_alt : (i : ℕ) → i < n → 0 < (node i).idx_prev_alt → is_receiver node n (node i).idx_prev_alt ≡ true
  -- next of a base is a receiver whose prev it is, and prev of a receiver is a base whose next it is
  pub base_next : (b : ℕ) → b < n → is_base node n b ≡ true
      → (is_receiver node n (node b).idx_next ≡ true) × ((node (node b).idx_next).idx_prev ≡ b)
  pub receiver_prev : (r : ℕ) → is_receiver node n r ≡ true
      → (is_base node n (node r).idx_prev ≡ true) × (((node r).idx_prev < n)
      × ((node (node r).idx_prev).idx_next ≡ r))
  -- a Fake that receives leads on to a receiver or to the end, and n steps settle where
  pub fake_next : (r : ℕ) → is_receiver node n r ≡ true → is_fake (node r) ≡ true
      → (is_receiver node n (node r).idx_next ≡ true) ⊎ ((node r).idx_next ≡ n - 1)
  pub settled : (r k : ℕ) → is_receiver node n r ≡ true → n ≤ k → goal_of node n k r ≡ goal_of node n n r
