-- `book_legs::name_starts` meets its contract: `Named` is the loop's invariant.
use Rattle.std.proofs.Common.{ap, length, ◌<◌, arith}
use Rattle.book_format.specs.Format.{links}
use Rattle.book_format.proofs.Given.{leg_link_lem, leg_named}
use Rattle.book_legs.proofs.Counts.{leg_in_lem}
use Rattle.book_legs.proofs.Starts.{named_none, named_more}
use Rattle.book_legs.proofs.name_starts.Goals as goal

pub loop-i-init : goal.loop-i-init
loop-i-init c = named_none _ _ c.requires.starts_zero

pub overflow_cast-i : goal.overflow_cast-i
overflow_cast-i c = omega (arith, (leg_in_lem c.book-rows.ensures.readable c.loop-i.i (omega arith)).number)

pub overflow_add-i : goal.overflow_add-i
overflow_add-i c = omega (arith, (leg_in_lem c.book-rows.ensures.readable c.loop-i.i (omega arith)).number)

pub name_start-requires : goal.name_start-requires
name_start-requires c =
    omega (
      arith,
      leg_link_lem _ _ _ c.leg_at.ensures,
      leg_named _ c.book-rows.ensures.readable.indices c.loop-i.i (omega arith),
      ap links c.book-rows.ensures.is,
    )

pub loop-i-preserved : goal.loop-i-preserved
loop-i-preserved c =
    let inside : c.leg_at.result.link_idx < length c.loop-i.starts =
    omega (
      arith,
      leg_link_lem _ _ _ c.leg_at.ensures,
      leg_named _ c.book-rows.ensures.readable.indices c.loop-i.i (omega arith),
      ap links c.book-rows.ensures.is,
    ) in
    named_more c.leg_at.result c.loop-i.invariant c.leg_at.ensures inside c.name_start.ensures
