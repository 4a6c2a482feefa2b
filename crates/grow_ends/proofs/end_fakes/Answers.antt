-- `grow_ends::end_fakes` meets its contract: `Faking` is the loop's invariant.
use native.Mathlib.Omega.{arith}
use Rattle.grow_ends.proofs.Fakes.{faking_inside, faking_cell, faking_full, faking_on, faking_end}
use Rattle.grow_ends.proofs.end_fakes.Goals as goal

pub returns-then-places-k : goal.returns-then-places-k
returns-then-places-k c = faking_full c.loop-i.invariant c.loop-i-test.true c.if-places-k.true

pub load-node-requires-clause-float_width_in_bounds : goal.load-node-requires-clause-float_width_in_bounds
load-node-requires-clause-float_width_in_bounds c =
    omega (
      arith,
      faking_inside c.loop-i.invariant c.loop-i-test.true,
      c.requires.room.floats,
      c.loop-i.invariant.floats_kept_lem,
      c.loop-i.invariant.counted,
      c.if-places-k.false,
      c.store.auto,
    )

pub load-node-requires-clause-number_width_in_bounds : goal.load-node-requires-clause-number_width_in_bounds
load-node-requires-clause-number_width_in_bounds c =
    omega (
      arith,
      faking_inside c.loop-i.invariant c.loop-i-test.true,
      c.requires.room.numbers,
      c.loop-i.invariant.numbers_kept_lem,
      c.loop-i.invariant.counted,
      c.if-places-k.false,
      c.store.auto,
    )

pub store-requires-in-loop-i-clause-float_width_in_bounds : goal.store-requires-in-loop-i-clause-float_width_in_bounds
store-requires-in-loop-i-clause-float_width_in_bounds c =
    omega (
      arith,
      faking_inside c.loop-i.invariant c.loop-i-test.true,
      c.requires.room.floats,
      c.loop-i.invariant.floats_kept_lem,
      c.loop-i.invariant.counted,
      c.if-places-k.false,
      c.store.auto,
    )

pub store-requires-in-loop-i-clause-number_width_in_bounds : goal.store-requires-in-loop-i-clause-number_width_in_bounds
store-requires-in-loop-i-clause-number_width_in_bounds c =
    omega (
      arith,
      faking_inside c.loop-i.invariant c.loop-i-test.true,
      c.requires.room.numbers,
      c.loop-i.invariant.numbers_kept_lem,
      c.loop-i.invariant.counted,
      c.if-places-k.false,
      c.store.auto,
    )

pub bounds-cells-ends_at : goal.bounds-cells-ends_at
bounds-cells-ends_at c = omega (arith, faking_inside c.loop-i.invariant c.loop-i-test.true, c.requires.n_in_bounds)

pub overflow_sub-i : goal.overflow_sub-i
overflow_sub-i c = omega (arith, faking_cell c.loop-i.invariant c.loop-i-test.true)

pub loop-i-preserved : goal.loop-i-preserved
loop-i-preserved c =
    faking_on c.loop-i.invariant c.loop-i-test.true (omega (arith, c.if-places-k.false)) _ _ _ _ _ _ _
    (omega (arith, c.loop-i.invariant.floats_kept_lem, c.store.auto, c.store-in-loop-i.auto))
    (omega (arith, c.loop-i.invariant.numbers_kept_lem, c.store.auto, c.store-in-loop-i.auto))
    c.fake_node-fake.ensures c.store.ensures.floats c.store.ensures.numbers c.load-node.ensures
    c.lead_to_end-led.ensures c.store-in-loop-i.ensures.floats c.store-in-loop-i.ensures.numbers

pub returns : goal.returns
returns c = faking_end c.loop-i.invariant c.loop-i-test.false
