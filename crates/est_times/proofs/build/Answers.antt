-- `est_times::build` meets its contract.
use mathlib.Core.Path.{sym, ap, ◌∙◌}
use native.Mathlib.Omega.{arith}
use Rattle.refusals.proofs.Answers.{handed_on}
use Rattle.space.proofs.Zeros.{zeros_again}
use Rattle.est_times.proofs.Stages.{built_refused, whole_told, ripe, flags_are, flags_fit, passed, built_whole}
use Rattle.est_times.proofs.build.Goals as goal

pub returns-in_err-report : goal.returns-in_err-report
returns-in_err-report c =
    built_refused _ _ _ _ c.read_and_grow.result c.read_and_grow.ensures _ c.in_err-report.was _ c.from_residual.result (handed_on _ _ c.from_residual.ensures.1)

pub overflow_mul-flags : goal.overflow_mul-flags
overflow_mul-flags c =
    let r = ripe _ _ _ _ _ _ _ _ _ (whole_told _ _ _ _ c.read_and_grow.result c.read_and_grow.ensures _ c.in_ok-report.was) in
    omega (arith, r.linked.room.most)

pub slice_bounds-flags-end : goal.slice_bounds-flags-end
slice_bounds-flags-end c =
    let r = ripe _ _ _ _ _ _ _ _ _ (whole_told _ _ _ _ c.read_and_grow.result c.read_and_grow.ensures _ c.in_ok-report.was) in
    omega (arith, r.cells, c.read_and_grow.auto)

pub slice_bounds-flags-end-2 : goal.slice_bounds-flags-end-2
slice_bounds-flags-end-2 c =
    let r = ripe _ _ _ _ _ _ _ _ _ (whole_told _ _ _ _ c.read_and_grow.result c.read_and_grow.ensures _ c.in_ok-report.was) in
    flags_are _ _ _ r.cells c.read_and_grow.auto.cells

pub departure_of-departure-requires : goal.departure_of-departure-requires
departure_of-departure-requires c =
    let r = ripe _ _ _ _ _ _ _ _ _ (whole_told _ _ _ _ c.read_and_grow.result c.read_and_grow.ensures _ c.in_ok-report.was) in
    record {
      head = r.head;
      departure = r.float;
    }

pub run_passes-requires : goal.run_passes-requires
run_passes-requires c =
    let k = c.read_and_grow.auto in
    let r = ripe _ _ _ _ _ _ _ _ _ (whole_told _ _ _ _ c.read_and_grow.result c.read_and_grow.ensures _ c.in_ok-report.was) in
    record {
      linked = r.linked;
      three_nodes = r.three;
      times_room = omega (arith, r.reals, k);
      flags_room = flags_fit _ _ _ r.cells k.cells _ c.clear.auto.s;
      nodes_room = omega (arith, r.marks, k);
      cells_zero = zeros_again _ _ c.clear.ensures;
    }

pub returns-in_err-run_passes : goal.returns-in_err-run_passes
returns-in_err-run_passes c =
    built_whole _ _ _ _ _ (whole_told _ _ _ _ c.read_and_grow.result c.read_and_grow.ensures _ c.in_ok-report.was) _ c.departure_of-departure.ensures c.run_passes.result _ c.run_passes.ensures
    c.from_residual-in_err-run_passes.result (handed_on _ _ c.from_residual-in_err-run_passes.ensures.1 ∙ sym (ap (passed c.in_ok-report.report) c.in_err-run_passes.was))

pub returns : goal.returns
returns c =
    built_whole _ _ _ _ _ (whole_told _ _ _ _ c.read_and_grow.result c.read_and_grow.ensures _ c.in_ok-report.was) _ c.departure_of-departure.ensures c.run_passes.result _ c.run_passes.ensures
    _ (sym (ap (passed c.in_ok-report.report) c.in_ok-run_passes.was))
