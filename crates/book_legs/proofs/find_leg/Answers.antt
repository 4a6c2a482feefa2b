-- `book_legs::find_leg` meets its contract: `Walking` is the loop's invariant, and the leg's number falls.
use mathlib.Core.Path.{sym, ◌∙◌}
use native.Mathlib.Omega.{arith}
use Rattle.book_format.proofs.Given.{leg_link_lem}
use Rattle.book_legs.proofs.Walking.{walking_start, walking_row, walking_on, walking_less, walking_found, walking_end}
use Rattle.book_legs.proofs.find_leg.Goals as goal

pub loop-j-init : goal.loop-j-init
loop-j-init c = walking_start _ _ _ _ c.requires.chained c.requires.parent_le_legs

pub leg_at-leg-requires : goal.leg_at-leg-requires
leg_at-leg-requires c = record { i_lt_legs = (walking_row c.loop-j.invariant c.loop-j-test.true).1 }

pub returns-then-leg-link_idx : goal.returns-then-leg-link_idx
returns-then-leg-link_idx c = walking_found c.loop-j.invariant c.loop-j-test.true (sym (leg_link_lem _ _ _ c.leg_at-leg.ensures) ∙ c.if-leg-link_idx.true)

pub bounds-cells-at : goal.bounds-cells-at
bounds-cells-at c = let q = walking_row c.loop-j.invariant c.loop-j-test.true in omega (arith, q.1, c.requires.chained.room)

pub loop-j-smaller : goal.loop-j-smaller
loop-j-smaller c = walking_less _ c.requires.chained c.loop-j.invariant c.loop-j-test.true

pub loop-j-preserved : goal.loop-j-preserved
loop-j-preserved c =
    walking_on _ c.requires.chained c.loop-j.invariant c.loop-j-test.true
    (λ e. c.if-leg-link_idx.false (leg_link_lem _ _ _ c.leg_at-leg.ensures ∙ e))

pub returns : goal.returns
returns c = walking_end c.loop-j.invariant (λ h. omega arith)
