-- `grow_for_tests::grow_network` meets its contract: proofs/Networks.antt, `network_grown`.
use mathlib.Core.Path.{refl}
use native.Mathlib.Omega.{arith}
use Rattle.space.proofs.Works.{cleared_as}
use Rattle.grow_for_tests.proofs.Networks.{nodes_most, network_grown}
use Rattle.std.proofs.Common.{rules, ◌≡◌}
use Rattle.est_times.specs.Stages.{sheet_nodes}
use Rattle.grow_for_tests.proofs.grow_network.Goals as goal
use Rattle.grow_for_tests.proofs.grow_network.Goals.{After-map_or-n}

-- the nodes that stay
nodes : (c : After-map_or-n) → c.map_or-n.result ≡ sheet_nodes c.read_and_grow-grown.result
nodes c = search rules

pub read_and_grow-grown-requires : goal.read_and_grow-grown-requires
read_and_grow-grown-requires c = c.clear_before.ensures

pub clear_behind-requires : goal.clear_behind-requires
clear_behind-requires c =
    omega (
      arith,
      nodes (goal.at.clear_behind-requires c).After-map_or-n,
      nodes_most _ _ _ _ c.read_and_grow-grown.result c.read_and_grow-grown.ensures,
    )

pub shape_of-floats : goal.shape_of-floats
shape_of-floats c =
    omega (arith, c.clear_behind.auto, c.read_and_grow-grown.auto, c.clear_before.auto)

pub shape_of-numbers : goal.shape_of-numbers
shape_of-numbers c =
    omega (arith, c.clear_behind.auto, c.read_and_grow-grown.auto, c.clear_before.auto)

pub shape_of-reals : goal.shape_of-reals
shape_of-reals c =
    omega (arith, c.clear_work.auto, c.read_and_grow-grown.auto)

pub returns : goal.returns
returns c =
    let k = c.read_and_grow-grown.auto in
    let l = c.clear_before.auto in
    network_grown _ _ _ _ _ _ _ _ _ _ c.read_and_grow-grown.result c.read_and_grow-grown.ensures l.floats l.numbers refl
    l.cells l.marks (omega (arith, k, l)) (omega (arith, k, l)) _ (nodes (goal.at.returns c).After-map_or-n)
    c.clear_behind.ensures.floats c.clear_behind.ensures.numbers
    (cleared_as (omega (arith, k, l)) (omega (arith, k, l)) (omega (arith, k, l)) c.clear_work.ensures)
