-- `grow_origins::origins` meets its contract: `OriginLoop` is the loop's invariant.
use mathlib.Core.Path.{ap, ◌∙◌}
use native.Mathlib.Omega.{arith}
use Rattle.std.specs.Prelude.{Ok}
use Rattle.book_format.specs.Format.{links, destinations}
use Rattle.refusals.proofs.Answers.{handed_on}
use Rattle.grow_state.proofs.Keeping.{planned_in}
use Rattle.grow_origins.proofs.OriginLoop.{grows_joins, idx_left, loop_start, links_fit, destinations_fit}
use Rattle.grow_origins.proofs.OriginLoop.{idxs_fit, idxs_inside, idx_at, loop_small, idx_named, loop_some, loop_leads}
use Rattle.grow_origins.proofs.OriginLoop.{loop_stop, loop_on, loop_end}
use Rattle.grow_origins.proofs.origins.Goals as goal

pub loop-k-init : goal.loop-k-init
loop-k-init c = loop_start _ _ _ _ _ _ _ _ c.requires.only_start

pub overflow_add-idx : goal.overflow_add-idx
overflow_add-idx c =
    let plan = planned_in _ c.args.p.now.planned.planned c.requires.reals_room in
    let r = plan.readable in
    omega (
      arith,
      c.links.ensures,
      c.destinations.ensures,
      ap links c.book-rows.ensures.is,
      ap destinations c.book-rows.ensures.is,
      links_fit _ r,
      destinations_fit _ r,
      idxs_fit _ r,
      c.loop-k.invariant.within,
    )

pub offset_bounds-marks-rows_at : goal.offset_bounds-marks-rows_at
offset_bounds-marks-rows_at c =
    let plan = planned_in _ c.args.p.now.planned.planned c.requires.reals_room in
    let r = plan.readable in
    omega (
      arith,
      c.links.ensures,
      c.destinations.ensures,
      ap links c.book-rows.ensures.is,
      ap destinations c.book-rows.ensures.is,
      links_fit _ r,
      destinations_fit _ r,
      idxs_fit _ r,
      c.loop-k.invariant.within,
    )

pub bounds-marks-rows_at : goal.bounds-marks-rows_at
bounds-marks-rows_at c =
    let plan = planned_in _ c.args.p.now.planned.planned c.requires.reals_room in
    omega (
      arith,
      c.links.ensures,
      c.destinations.ensures,
      ap links c.book-rows.ensures.is,
      ap destinations c.book-rows.ensures.is,
      idxs_inside _ plan.readable _ _ c.args.p.now.searched
          (idx_left _ _ _ c.args.p.now.kept_is c.loop-k-test.true),
    )

pub origin-requires-clause-idx_lt_origins : goal.origin-requires-clause-idx_lt_origins
origin-requires-clause-idx_lt_origins c = idx_named _ _ _ _ _ _ _ _ _ _ _ _ _ _ _ c.loop-k.invariant _
    (idx_at _ _ _ _ _ (c.links.ensures ∙ ap links c.book-rows.ensures.is)
    (c.destinations.ensures ∙ ap destinations c.book-rows.ensures.is) c.args.p.now.planned.options
    (idx_left _ _ _ c.args.p.now.kept_is c.loop-k-test.true)) (idx_left _ _ _ c.args.p.now.kept_is c.loop-k-test.true)

pub origin-requires-clause-some_origin : goal.origin-requires-clause-some_origin
origin-requires-clause-some_origin c = loop_some _ _ _ _ _ _ _ _ _ _ _ _ _ _ _ c.loop-k.invariant _
    (idx_at _ _ _ _ _ (c.links.ensures ∙ ap links c.book-rows.ensures.is)
    (c.destinations.ensures ∙ ap destinations c.book-rows.ensures.is) c.args.p.now.planned.options
    (idx_left _ _ _ c.args.p.now.kept_is c.loop-k-test.true)) (idx_left _ _ _ c.args.p.now.kept_is c.loop-k-test.true)
    c.requires.some_origins

pub origin-requires-clause-leads_from : goal.origin-requires-clause-leads_from
origin-requires-clause-leads_from c = loop_leads _ _ _ _ _ _ _ _ _ _ _ _ _ _ _ c.loop-k.invariant _
    (idx_at _ _ _ _ _ (c.links.ensures ∙ ap links c.book-rows.ensures.is)
    (c.destinations.ensures ∙ ap destinations c.book-rows.ensures.is) c.args.p.now.planned.options
    (idx_left _ _ _ c.args.p.now.kept_is c.loop-k-test.true)) (idx_left _ _ _ c.args.p.now.kept_is c.loop-k-test.true)
    c.requires.some_origins

pub returns-in_err-rest : goal.returns-in_err-rest
returns-in_err-rest c =
    let o = c.origin in
    grows_joins _ _ _ _ _ _ _ _ _ _ _ _ _ (loop_stop _ _ _ _ _ _ _ _ _ _ _ _ _ _ _ c.loop-k.invariant _
    (idx_at _ _ _ _ _ (c.links.ensures ∙ ap links c.book-rows.ensures.is)
    (c.destinations.ensures ∙ ap destinations c.book-rows.ensures.is) c.args.p.now.planned.options
    (idx_left _ _ _ c.args.p.now.kept_is c.loop-k-test.true))
    (idx_left _ _ _ c.args.p.now.kept_is c.loop-k-test.true) _ _ _ _ o.result o.ensures _ c.in_err-rest.was
    c.from_residual.result (handed_on _ _ c.from_residual.ensures.1))

pub last_after-last-requires : goal.last_after-last-requires
last_after-last-requires c = loop_small _ _ _ _ _ _ _ _ _ _ _ _ _ _ _ c.loop-k.invariant
    c.requires.some_origins

pub loop-k-preserved : goal.loop-k-preserved
loop-k-preserved c =
    let o = c.origin in
    loop_on _ _ _ _ _ _ _ _ _ _ _ _ _ _ _ c.loop-k.invariant _
    (idx_at _ _ _ _ _ (c.links.ensures ∙ ap links c.book-rows.ensures.is)
    (c.destinations.ensures ∙ ap destinations c.book-rows.ensures.is) c.args.p.now.planned.options
    (idx_left _ _ _ c.args.p.now.kept_is c.loop-k-test.true))
    (idx_left _ _ _ c.args.p.now.kept_is c.loop-k-test.true) _ _ _ _ o.result o.ensures _ c.in_ok-rest.was _
    c.last_after-last.ensures.first c.last_after-last.ensures.later (omega (arith, o.auto)) (omega (arith, o.auto))
    (omega (arith, o.auto)) (omega (arith, o.auto))

pub returns : goal.returns
returns c = grows_joins _ _ _ _ _ _ _ _ _ _ _ _ (Ok _) (loop_end _ _ _ _ _ _ _ _ _ _ _ _ _ _ _ c.loop-k.invariant
    (omega (arith, c.args.p.now.kept_is)))
