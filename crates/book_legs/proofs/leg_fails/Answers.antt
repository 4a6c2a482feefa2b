-- `book_legs::leg_fails` meets its contract.
use Rattle.std.proofs.Common.{◌≡◌, subst, ℕ, ◌<◌, List, arith}
use Rattle.book_format.specs.Format.{legs}
use Rattle.book_format.specs.Chains.{Readable}
use Rattle.book_format.proofs.Given.{leg_parent_lem, leg_samples_lem}
use Rattle.book_legs.proofs.Counts.{LegIn, leg_in_lem, fails_begun, fails_elsewhere}
use Rattle.book_legs.proofs.leg_fails.Goals as goal

-- what a readable book says of a leg, by the book that the rows are of
leg_of_rows : {a b : List ℕ} {i : ℕ} → a ≡ b → Readable a → i < legs b → LegIn b i
leg_of_rows e r h = leg_in_lem (subst Readable e r) _ h

pub leg_begins-requires : goal.leg_begins-requires
leg_begins-requires c =
    let q = c.requires in
    let e = c.book-rows.ensures.is in
    let l = leg_of_rows e c.book-rows.ensures.readable q.i_lt_legs in
    let p = rw e at (leg_parent_lem _ _ _ c.leg_at-leg.ensures) in
    record {
      last_inside = rw e (omega (arith, q.end_is, q.first_is, l.within, l.some, l.end));
      first_inside = rw e (omega (arith, q.first_is, l.within, l.some));
      end_nonzero = (λ (h : 0 < c.leg_at-leg.result.parent). omega (arith, q.end_is, l.begun (subst (λ (n : ℕ). 0 < n) p h)));
    }

pub leg_falls-requires : goal.leg_falls-requires
leg_falls-requires c =
    let q = c.requires in
    let e = c.book-rows.ensures.is in
    let l = leg_of_rows e c.book-rows.ensures.readable q.i_lt_legs in
    record { samples_inside = omega (arith, q.first_is, l.within, rw e at (leg_samples_lem _ _ _ c.leg_at-leg.ensures)) }

pub returns-then-leg_begins : goal.returns-then-leg_begins
returns-then-leg_begins c =
    let q = c.requires in
    let e = c.book-rows.ensures.is in
    fails_begun _ _ _ _ c.leg_at-leg.result (rw e at c.leg_at-leg.ensures) q.end_is q.first_is
    c.leg_begins.result c.leg_falls.result (rw e at c.leg_begins.ensures) c.if-leg_begins.true c.leg_falls.ensures

pub returns-else-leg_begins : goal.returns-else-leg_begins
returns-else-leg_begins c =
    let q = c.requires in
    let e = c.book-rows.ensures.is in
    fails_elsewhere _ _ _ _ c.leg_at-leg.result (rw e at c.leg_at-leg.ensures) q.end_is q.first_is
    c.leg_begins.result (rw e at c.leg_begins.ensures) c.if-leg_begins.false
