-- Row 14: "a check or assertion before the passes fails". The checks of `make_est_times` on each node of a network of
-- n, behind "Validate that all linked indices are correct and consistent".
use Rattle.std.specs.Prelude.{Bool, true, false, not, ◌&&◌, ◌||◌, ℕ, ◌-◌, eqb, leb}
use Rattle.laws.specs.Below.{some_below}
use Rattle.net_node.specs.declared.EstTime.{EstTime}
use Rattle.net_node.specs.Table.{is_fake}

-- one of two, not both and not neither
abbrev pub differ : Bool → Bool → Bool
differ true b = not b
differ false b = b

module _ (node : ℕ → EstTime) (n : ℕ) (i : ℕ) where
  abbrev here : EstTime
  here = node i

  abbrev before : EstTime
  before = node here.idx_prev

  abbrev after : EstTime
  after = node here.idx_next

  abbrev is_last : Bool
  is_last = eqb i (n - 1)

  -- "Verify that all prev idxs are valid": only nodes 0 and 1 have none
  unfoldable pub prev_holds : Bool
  prev_holds = differ (not (eqb here.idx_prev 0)) (leb i 1)

  -- "Verify that the next idxs are valid": only the last node has none
  unfoldable pub next_holds : Bool
  next_holds = differ (not (eqb here.idx_next 0)) is_last

  -- "Verify that no fake nodes have both idx prev alt and idx next alt"
  unfoldable pub fake_holds : Bool
  fake_holds = not (is_fake here) || eqb here.idx_prev_alt 0 || eqb here.idx_next_alt 0

  -- "Verify that prev est time is linked to current est time"
  unfoldable pub prev_leads : Bool
  prev_leads = eqb before.idx_next i || eqb before.idx_next_alt i

  -- "Verify that next est time is linked to current est time"
  unfoldable pub next_leads : Bool
  next_leads = eqb after.idx_prev i || eqb after.idx_prev_alt i || is_last

  -- "Verify that current est time is not the alternate of both the previous and next est times"
  unfoldable pub not_both_alternates : Bool
  not_both_alternates = not (eqb before.idx_next_alt i) || not (eqb after.idx_prev_alt i) || eqb i 0 || is_last

  unfoldable pub node_holds : Bool
  unfolding prev_holds next_holds fake_holds prev_leads next_leads not_both_alternates
  node_holds = prev_holds && next_holds && fake_holds && prev_leads && next_leads && not_both_alternates

-- Row 14
unfoldable pub row14 : (ℕ → EstTime) → ℕ → Bool
row14 node n = some_below n (λ i. not (node_holds node n i))
