-- `book_legs::link_legs` meets its contract: `Linking` is the loop's invariant.
use Rattle.std.proofs.Common.{sym, ap, ◌∙◌, arith}
use Rattle.book_format.specs.Format.{legs}
use Rattle.book_format.proofs.Given.{leg_parent_lem, leg_samples_lem}
use Rattle.book_legs.proofs.Counts.{leg_in_lem}
use Rattle.book_legs.proofs.Linking.{linking_start, room_of, linking_end, linking_found, linking_on}
use Rattle.book_legs.proofs.link_legs.Goals as goal

pub loop-i-init : goal.loop-i-init
loop-i-init c = linking_start _ _ c.requires.cells_zero

pub bounds-cells-parent : goal.bounds-cells-parent
bounds-cells-parent c =
    let l = leg_in_lem c.book-rows.ensures.readable c.loop-i.i (omega arith) in
    omega (arith, l.parent, leg_parent_lem _ _ _ c.leg_at-leg.ensures, ap legs c.book-rows.ensures.is)

pub leg_fails-requires-clause-end_is : goal.leg_fails-requires-clause-end_is
leg_fails-requires-clause-end_is c =
    let e = c.book-rows.ensures.is in
    rw (← e)
    (linking_end (room_of c.book-rows.ensures.readable _ (rw e c.requires.cells_room)) c.loop-i.invariant (omega arith) _ (leg_parent_lem _ _ _ c.leg_at-leg.ensures))

pub returns-then-leg_fails-clause-answer : goal.returns-then-leg_fails-clause-answer
returns-then-leg_fails-clause-answer c =
    linking_found _ c.loop-i.i (omega (arith, ap legs c.book-rows.ensures.is)) (sym c.leg_fails.ensures ∙ c.if-leg_fails.true)

pub overflow_add-first : goal.overflow_add-first
overflow_add-first c =
    let l = leg_in_lem c.book-rows.ensures.readable c.loop-i.i (omega arith) in
    omega (arith, l.within, l.limit, leg_samples_lem _ _ _ c.leg_at-leg.ensures, c.loop-i.invariant.begun)

pub link_leg-requires : goal.link_leg-requires
link_leg-requires c =
    let l = leg_in_lem c.book-rows.ensures.readable c.loop-i.i (omega arith) in
    let p = leg_parent_lem _ _ _ c.leg_at-leg.ensures in
    let e = ap legs c.book-rows.ensures.is in
    record {
      j_cells_inside = omega (arith, e);
      parent_cell_inside = omega (arith, l.parent, p, e);
      j_most = omega (arith, l.number);
      end_most = omega (arith, l.within, l.limit, leg_samples_lem _ _ _ c.leg_at-leg.ensures, c.loop-i.invariant.begun);
    }

pub loop-i-preserved : goal.loop-i-preserved
loop-i-preserved c =
    linking_on c.loop-i.invariant (omega arith) (rw c.book-rows.ensures.is (sym c.leg_fails.ensures ∙ c.if-leg_fails.false))
    c.leg_at-leg.result c.leg_at-leg.ensures _ c.link_leg.ensures
