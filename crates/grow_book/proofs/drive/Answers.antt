-- `grow_book::drive` meets its contract: `Turning` is the loop's invariant.
use mathlib.Core.Path.{ap, subst}
use native.Mathlib.Omega.{arith}
use Rattle.book_format.specs.Format.{legs}
use Rattle.refusals.proofs.Answers.{handed_on}
use Rattle.grow_state.specs.Held.{SameDrive, with_front}
use Rattle.grow_state.proofs.Keeping.{planned_in}
use Rattle.grow_book.specs.Answers.{NextRun}
use Rattle.grow_book.proofs.Driving.{turning_start, turning_plan, turning_some, next_some, turning_done, turning_over}
use Rattle.grow_book.proofs.Driving.{turning_stop, turning_on, up_driving, up_turn_as}
use Rattle.grow_book.proofs.drive.Goals as goal
use Rattle.grow_book.proofs.drive.Goals.{In-Some}

-- the run that is next
held : (c : In-Some) → SameDrive c.args.p.now.plan c.loop.reals c.loop.cells c.loop.joins.items
    c.next_run-next.new.joins.items c.loop.state (with_front c.in-Some.rest c.in-Some.front)
held c = subst (NextRun c.args.p.now.plan c.loop.reals c.loop.cells c.loop.joins.items c.next_run-next.new.joins.items
    c.loop.state) c.in-Some.is c.next_run-next.ensures

pub loop-init : goal.loop-init
loop-init c = turning_start _ _ _ _ _ _ _ _ c.requires.from_origins

pub next_run-next-requires : goal.next_run-next-requires
next_run-next-requires c =
    let v = c.loop.invariant in
    record {
      some_drive = record {
        b = _;
        fs = _;
        us = _;
        plan = turning_plan _ _ _ _ _ _ _ _ _ _ _ _ _ _ _ v
            (planned_in _ c.args.p.now.planned c.requires.reals_room);
        driving =
            turning_some _ _ _ _ _ _ _ _ _ _ _ _ _ _ _ v;
      };
    }

pub returns-in_default : goal.returns-in_default
returns-in_default c = λ path net runs d.
    turning_done _ _ _ _ _ _ _ _ _ _ _ _ _ _ _ c.loop.invariant c.next_run-next.new.joins.items
    (subst (NextRun c.args.p.now.plan c.loop.reals c.loop.cells c.loop.joins.items c.next_run-next.new.joins.items
    c.loop.state) c.in_default.is c.next_run-next.ensures) c.next_run-next.new.joins.items path net runs d

pub turn-requires : goal.turn-requires
turn-requires c =
    let r = c.requires in
    let v = c.loop.invariant in
    record {
      reals_room = omega (arith, r.reals_room, v.reals_long);
      driving = up_driving _ _ _ _ _ _ _ _ _ _ _ (held (goal.at.turn-requires c).In-Some)
          (turning_some _ _ _ _ _ _ _ _ _ _ _ _ _ _ _ v);
    }

pub returns-in_err-state : goal.returns-in_err-state
returns-in_err-state c =
    let t = c.turn in
    λ path net runs d.
    turning_stop _ _ _ _ _ _ _ _ _ _ _ _ _ _ _ c.loop.invariant
    (omega (arith, c.legs-end.ensures, ap legs c.book.ensures.is)) _ _ _ _ _ t.result
    (up_turn_as _ _ _ _ _ _ _ _ _ _ _ (held (goal.at.returns-in_err-state c).In-Some) _ _ _ _ _ t.result t.ensures) _
    c.in_err-state.was c.from_residual.result (handed_on _ _ c.from_residual.ensures.1) path net runs d

pub loop-preserved : goal.loop-preserved
loop-preserved c =
    let t = c.turn in
    let k = t.auto in
    let h = held (goal.at.loop-preserved c).In-Some in
    turning_on _ _ _ _ _ _ _ _ _ _ _ _ _ _ _ c.loop.invariant
    (omega (arith, c.legs-end.ensures, ap legs c.book.ensures.is)) _ _ _ _ _ t.result
    (up_turn_as _ _ _ _ _ _ _ _ _ _ _ h _ _ _ _ _ t.result t.ensures)
    c.requires.from_origins.read (next_some _ _ _ _ _ _ _ _ _ _ _ _ _ _ _ c.loop.invariant _ _ _ h) _ c.in_ok-state.was
    (omega (arith, k)) (omega (arith, k)) (omega (arith, k)) (omega (arith, k))

pub returns : goal.returns
returns c = λ path net runs d. turning_over _ _ _ _ _ _ _ _ _ _ _ _ _ _ _ c.loop.invariant c.requires.from_origins.read
    (omega (arith, c.legs-end.ensures, ap legs c.book.ensures.is)) path net runs d
