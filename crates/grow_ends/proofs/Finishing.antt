-- The ways of a finish: row 13 by the last node's number, by its next, by its being an end, and none of them.
use mathlib.Core.Path.{◌≡◌, refl, sym, ap, ◌∙◌}
use mathlib.Core.Bool.{Bool, true, false, not, ◌||◌}
use Rattle.std.specs.Prelude.{Ok, Err}
use Rattle.refusals.specs.declared.Refusal.TheVariants.{BadEnd}
use mathlib.Core.List.{List}
use Prim.Native.Nat.{ℕ, ◌+◌, ◌-◌, ◌*◌, ◌≤◌, ◌<◌}
use native.Mathlib.Omega.{arith}
use borrow.Author.Tests.{eq-eqb, ne_eqb}
use lib.Dec.{eqb}
use lib.ListN.{get_or}
use lib.Ieee.{Float}
use Rattle.net_node.specs.declared.EstTime.{EstTime}
use Rattle.net_node.specs.Table.{node_at, Table, at}
use Rattle.net_insertion.specs.declared.Place.{Place}
use Rattle.net_insertion.specs.Insertion.{flagged, table_of}
use Rattle.net_insertion.proofs.Answers.{flagged_set, flagged_clear}
use Rattle.grow_rules.specs.Run.{Net, Run, member_of}
use Rattle.grow_rules.specs.Growth.{bad_finish}
use Rattle.grow_ends.specs.Ends.{FinishAs, finish_answer}

-- by whether it is the last node, whether that has no next, and whether it is an end
abbrev bad_as : Bool → Bool → Bool → Bool
bad_as last free ended = not last || not free || ended

bad_is : (net : Net) (run : Run) (t : Table) (n : ℕ) (place : Place) → net.table ≡ t → net.nodes ≡ n → run.place ≡ place
    → (last free ended : Bool)
    → eqb place.idx_prev (n - 1) ≡ last → eqb (at t (n - 1)).idx_next 0 ≡ free → member_of net.ends (n - 1) ≡ ended
    → bad_finish net run ≡ bad_as last free ended
unfolding bad_finish
bad_is net run t n place a b c last free ended p q r =
    let s : bad_finish net run ≡ bad_as (eqb place.idx_prev (n - 1)) (eqb (at t (n - 1)).idx_next 0)
    (member_of net.ends (n - 1))
    = λ j. bad_as (eqb (c j).idx_prev (b j - 1)) (eqb (at (a j) (b j - 1)).idx_next 0) (member_of net.ends (b j - 1)) in
    s ∙ (λ j. bad_as (p j) (q j) (r j))

-- what that answers
told_as : (net : Net) (run : Run) (bad : Bool) → bad_finish net run ≡ bad
    → finish_answer bad ≡ finish_answer (bad_finish net run)
told_as net run bad h = sym (ap finish_answer h)

module _ (fs : List Float) (us cells : List ℕ) (base n : ℕ) (place : Place) where
  pub finish_elsewhere : (place.idx_prev ≡ n - 1 → ⊥) → FinishAs fs us cells base n place (Err BadEnd)
  finish_elsewhere h = record {
    is = λ net run a b c f. told_as net run true (bad_is net run (table_of fs us) n place a b c false
        (eqb (at (table_of fs us) (n - 1)).idx_next 0) (member_of net.ends (n - 1))
        (ne_eqb place.idx_prev (n - 1) h) refl refl);
  }

  module _ (p : place.idx_prev ≡ n - 1) (x : EstTime) (l : x ≡ node_at fs us (n - 1)) where
    next_is : (at (table_of fs us) (n - 1)).idx_next ≡ x.idx_next
    unfolding at
    next_is = sym (ap (λ (z : EstTime). z.idx_next) l)

    pub finish_with_next : (x.idx_next ≡ 0 → ⊥) → FinishAs fs us cells base n place (Err BadEnd)
    finish_with_next h = record {
      is = λ net run a b c f. told_as net run true (bad_is net run (table_of fs us) n place a b c true false
          (member_of net.ends (n - 1)) (eq-eqb place.idx_prev (n - 1) p)
          (ne_eqb (at (table_of fs us) (n - 1)).idx_next 0
          (λ (e : (at (table_of fs us) (n - 1)).idx_next ≡ 0). h (sym next_is ∙ e))) refl);
    }

    module _ (o : x.idx_next ≡ 0) (r : 0 < n) where
      by_flag : (flag : Bool) → flagged cells base (n - 1) ≡ flag
          → FinishAs fs us cells base n place (finish_answer flag)
      by_flag flag h = record {
        is = λ net run a b c f. told_as net run flag (bad_is net run (table_of fs us) n place a b c true true flag
            (eq-eqb place.idx_prev (n - 1) p) (eq-eqb (at (table_of fs us) (n - 1)).idx_next 0 (next_is ∙ o))
            (sym (f (n - 1) (omega arith)) ∙ h));
      }

      pub finish_ended : 0 < get_or cells (base + (n - 1) * 8) 0 → FinishAs fs us cells base n place (Err BadEnd)
      finish_ended h = by_flag true (flagged_set cells base (n - 1) h)

      pub finish_good : get_or cells (base + (n - 1) * 8) 0 ≤ 0 → FinishAs fs us cells base n place (Ok tt)
      finish_good h = by_flag false (flagged_clear cells base (n - 1) h)

-- each way of a finish
pub ruleset finish_laws = (finish_elsewhere, finish_with_next, finish_ended, finish_good)
