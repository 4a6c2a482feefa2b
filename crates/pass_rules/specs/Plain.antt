-- The code's tests of row 14. Most nodes pass one short test: an event that is neither first nor last, with a node on
-- either side that leads to it, and no next alternative; every check of row 14 holds of it. Only contracts use these
-- words.
use Rattle.std.specs.Prelude.{Bool, not, ◌&&◌, ◌||◌, ℕ, ◌-◌, eqb, ltb}
use Rattle.net_node.specs.Table.{is_fake}
use Rattle.net_node.specs.declared.EstTime.{EstTime}
use Rattle.pass_rules.specs.Checks.{prev_leads, next_leads}

-- of the node numbered i among n, the one before it and the one after it
unfoldable pub plain : EstTime → EstTime → EstTime → ℕ → ℕ → Bool
plain here before after n i =
    ltb 1 i
    && (ltb i (n - 1)
    && (not (eqb here.idx_prev 0)
    && (not (eqb here.idx_next 0)
    && (eqb before.idx_next i
    && (eqb after.idx_prev i
    && (not (eqb before.idx_next_alt i)
    && not (is_fake here)))))))

-- the checks of a node by those before and after it
abbrev pub neighbours_hold : EstTime → EstTime → ℕ → ℕ → Bool
neighbours_hold before after n i =
    prev_leads (λ _. before) n i
    && (next_leads (λ _. after) n i
    && (not (eqb before.idx_next_alt i)
    || (not (eqb after.idx_prev_alt i)
    || (eqb i 0
    || eqb i (n - 1)))))
