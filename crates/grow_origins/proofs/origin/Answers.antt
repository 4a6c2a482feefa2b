-- `grow_origins::origin` meets its contract: proofs/OriginLoop.antt.
use native.Mathlib.Omega.{arith}
use Rattle.book_format.proofs.Given.{origin_named}
use Rattle.grow_state.proofs.Keeping.{planned_in}
use Rattle.grow_origins.proofs.OriginLoop.{row_link, leads_as, some_inserted, origin_on, origin_not, origins_refused}
use Rattle.grow_origins.proofs.origin.Goals as goal

pub origin_events-requires-clause-link_idx_lt_links : goal.origin_events-requires-clause-link_idx_lt_links
origin_events-requires-clause-link_idx_lt_links c =
    let plan = planned_in _ c.args.p.now.planned.planned c.requires.reals_room in
    omega (
      arith,
      row_link _ _ c.origin_at-at.ensures c.valid.ensures.is,
      origin_named _ plan.readable.indices _ c.requires.idx_lt_origins,
      plan.all_links,
    )

pub origin_events-requires-clause-leads_from : goal.origin_events-requires-clause-leads_from
origin_events-requires-clause-leads_from c = leads_as _ _ _ _ _
    (row_link _ _ c.origin_at-at.ensures c.valid.ensures.is)
    c.requires.leads_from

pub save_origin-requires-clause-some_origin_inserted : goal.save_origin-requires-clause-some_origin_inserted
save_origin-requires-clause-some_origin_inserted c =
    let plan = planned_in _ c.args.p.now.planned.planned c.requires.reals_room in
    let e = c.origin_events in
    some_inserted _ _ _ _ _ _ _ _ _ _ (row_link _ _ c.origin_at-at.ensures c.valid.ensures.is) plan _ _ _
    (omega (arith, e.auto)) e.result e.ensures.more e.ensures.answer c.requires.some_origin _ _ c.in_ok-counts.was

pub save_origin-requires-clause-link_idx_lt_links : goal.save_origin-requires-clause-link_idx_lt_links
save_origin-requires-clause-link_idx_lt_links c =
    let plan = planned_in _ c.args.p.now.planned.planned c.requires.reals_room in
    omega (
      arith,
      row_link _ _ c.origin_at-at.ensures c.valid.ensures.is,
      origin_named _ plan.readable.indices _ c.requires.idx_lt_origins,
    )

pub returns : goal.returns
returns c =
    let plan = planned_in _ c.args.p.now.planned.planned c.requires.reals_room in
    let e = c.origin_events in
    λ idxs net runs o d. origin_on _ _ _ _ _ _ _ _ _ _
    (row_link _ _ c.origin_at-at.ensures c.valid.ensures.is)
    plan _ _ _ (omega (arith, e.auto)) e.result e.ensures.more e.ensures.answer idxs net runs o d _ _
    c.in_ok-counts.was _ _ c.save_origin.result c.save_origin.ensures

pub returns-in_err-counts : goal.returns-in_err-counts
returns-in_err-counts c =
    let plan = planned_in _ c.args.p.now.planned.planned c.requires.reals_room in
    let e = c.origin_events in
    λ idxs net runs o d.
    origins_refused _ _ _ _ _ c.from_residual.result _ c.from_residual.ensures.1
    (origin_not _ _ _ _ _ _ _ _ _ _ (row_link _ _ c.origin_at-at.ensures c.valid.ensures.is) plan _ _ _
    (omega (arith, e.auto)) e.result e.ensures.more e.ensures.answer idxs net runs o _ c.in_err-counts.was)
