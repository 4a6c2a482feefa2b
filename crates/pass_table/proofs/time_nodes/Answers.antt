-- `pass_table::time_nodes` meets its contract.
use mathlib.Core.Path.{refl, sym}
use native.Mathlib.Omega.{arith}
use lib.Seq.{length-take-le}
use Rattle.net_node.specs.Left.{nodes_in}
use Rattle.space.proofs.Zeros.{zeros_again}
use Rattle.pass_table.proofs.FirstRows.{ready, flags_fit}
use Rattle.pass_table.proofs.Answers.{handed_on, told_first, told_passes}
use Rattle.pass_table.proofs.time_nodes.Goals as goal

pub returns-in_err-check_table-clause-timed : goal.returns-in_err-check_table-clause-timed
unfolding nodes_in
returns-in_err-check_table-clause-timed c =
    handed_on _ _ c.from_residual.ensures.1 _ _ (told_first _ _ _ _ _ _ _ c.nodes_filled-n.ensures c.units-units.ensures _ c.in_err-check_table.ensures _)

pub slice_bounds-flags-end : goal.slice_bounds-flags-end
unfolding nodes_in
slice_bounds-flags-end c =
    let r = ready _ _ _ _ _ _ _ _ c.nodes_filled-n.ensures c.units-units.ensures c.in_ok-check_table.ensures in
    omega (arith, r.cells)

pub slice_bounds-flags-end-2 : goal.slice_bounds-flags-end-2
unfolding nodes_in
slice_bounds-flags-end-2 c =
    let r = ready _ _ _ _ _ _ _ _ c.nodes_filled-n.ensures c.units-units.ensures c.in_ok-check_table.ensures in
    sym (length-take-le _ _ r.cells)

pub run_passes-requires : goal.run_passes-requires
unfolding nodes_in
run_passes-requires c =
    let r = ready _ _ _ _ _ _ _ _ c.nodes_filled-n.ensures c.units-units.ensures c.in_ok-check_table.ensures in
    record {
      linked = r.linked;
      three_nodes = r.three;
      times_room = r.reals;
      flags_room = flags_fit _ _ _ r.cells c.clear.auto.s;
      nodes_room = r.marks;
      cells_zero = zeros_again _ _ c.clear.ensures;
    }

pub returns-in_err-run_passes-clause-timed : goal.returns-in_err-run_passes-clause-timed
unfolding nodes_in
returns-in_err-run_passes-clause-timed c =
    handed_on _ _ c.from_residual-in_err-run_passes.ensures.1 _ _ (told_passes _ _ _ _ _ _ _ c.nodes_filled-n.ensures c.units-units.ensures _ c.in_ok-check_table.ensures refl _ _ c.in_err-run_passes.ensures)

pub returns : goal.returns
unfolding nodes_in
returns c = record {
  timed = told_passes _ _ _ _ _ _ _ c.nodes_filled-n.ensures c.units-units.ensures _ c.in_ok-check_table.ensures refl _ _ c.in_ok-run_passes.ensures;
  nodes = c.nodes_filled-n.ensures;
}
