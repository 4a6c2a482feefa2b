-- `est_times::make_est_times` meets its contract: proofs/Answers.antt, `sheet_made`.
use mathlib.Core.Path.{refl}
use native.Mathlib.Omega.{arith}
use Rattle.space.proofs.Works.{cleared_as}
use Rattle.est_times.proofs.Answers.{nodes_most, sheet_made}
use Rattle.std.proofs.Common.{rules, ◌≡◌}
use Rattle.est_times.specs.Stages.{sheet_nodes}
use Rattle.est_times.proofs.make_est_times.Goals as goal
use Rattle.est_times.proofs.make_est_times.Goals.{After-map_or-n}

-- the nodes that stay
nodes : (c : After-map_or-n) → c.map_or-n.result ≡ sheet_nodes c.build-sheet.result
nodes c = search rules

pub build-sheet-requires : goal.build-sheet-requires
build-sheet-requires c = c.clear_before.ensures

pub clear_behind-requires : goal.clear_behind-requires
clear_behind-requires c =
    omega (arith, nodes (goal.at.clear_behind-requires c).After-map_or-n, nodes_most _ _ _ c.build-sheet.result c.build-sheet.ensures)

pub shape_of-floats : goal.shape_of-floats
shape_of-floats c =
    omega (arith, c.clear_behind.auto, c.build-sheet.auto, c.clear_before.auto)

pub shape_of-numbers : goal.shape_of-numbers
shape_of-numbers c =
    omega (arith, c.clear_behind.auto, c.build-sheet.auto, c.clear_before.auto)

pub shape_of-reals : goal.shape_of-reals
shape_of-reals c =
    omega (arith, c.clear_work.auto, c.build-sheet.auto)

pub returns : goal.returns
returns c =
    let k = c.build-sheet.auto in
    let l = c.clear_before.auto in
    sheet_made _ _ _ _ _ _ _ _ _ c.build-sheet.result c.build-sheet.ensures l.floats l.numbers refl l.cells l.marks (omega (arith, k, l)) (omega (arith, k, l)) _ (nodes (goal.at.returns c).After-map_or-n)
    c.clear_behind.ensures.floats c.clear_behind.ensures.numbers (cleared_as (omega (arith, k, l)) (omega (arith, k, l)) (omega (arith, k, l)) c.clear_work.ensures)
