-- `grow_origins::plan_of` meets its contract.
use native.Mathlib.Omega.{arith}
use Rattle.grow_origins.proofs.Planning.{legs_small, plan_holds}
use Rattle.grow_origins.proofs.plan_of.Goals as goal

pub overflow_add-nodes_at : goal.overflow_add-nodes_at
overflow_add-nodes_at c = let r = c.book-rows.ensures in omega (arith, legs_small r.is r.readable _ c.legs-legs.ensures)

pub overflow_mul-nodes_at : goal.overflow_mul-nodes_at
overflow_mul-nodes_at c = let r = c.book-rows.ensures in omega (arith, legs_small r.is r.readable _ c.legs-legs.ensures)

pub overflow_add-w : goal.overflow_add-w
overflow_add-w c =
    let r = c.book-rows.ensures in
    omega (arith, c.requires.places_le_65535, legs_small r.is r.readable _ c.legs-legs.ensures)

pub overflow_add-r : goal.overflow_add-r
overflow_add-r c = let r = c.book-rows.ensures in omega (arith, legs_small r.is r.readable _ c.legs-legs.ensures)

pub returns-clause-plan : goal.returns-clause-plan
returns-clause-plan c =
    let r = c.book-rows.ensures in
    let bytes = c.bytes.ensures in
    λ reals h. plan_holds r.is r.readable _ c.head_patterns-head.ensures bytes.is bytes.whole c.requires.row7 _ _ _
    reals _ c.legs-legs.ensures c.links.ensures h
