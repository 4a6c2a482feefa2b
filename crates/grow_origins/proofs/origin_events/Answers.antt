-- `grow_origins::origin_events` meets its contract: proofs/OriginEvents.antt.
use Rattle.grow_origins.proofs.OriginEvents.{first_grown, inserted_refused, origin_stops, origin_clears}
use Rattle.grow_origins.proofs.origin_events.Goals as goal

pub returns-in_err-counts-clause-answer : goal.returns-in_err-counts-clause-answer
returns-in_err-counts-clause-answer c =
    let i = c.insert_event in
    λ b reals start net plan v.
    inserted_refused _ _ _ _ _ _ _ _ c.from_residual.result _ c.from_residual.ensures.1
    (origin_stops b _ reals plan _ _ _ _ _ _ _ _ _ _ i.result i.ensures.outcome _ c.requires.leads_from
    c.origin_run-run.ensures c.origin_event-arrive.ensures start net v _ c.in_err-counts.was)

pub insert_event-requires-2-clause-growing : goal.insert_event-requires-2-clause-growing
insert_event-requires-2-clause-growing c =
    let i = c.insert_event in
    (first_grown _ _ _ _ _ _ _ _ _ _ _ _ _ i.result i.ensures.outcome c.origin_run-run.ensures
    c.requires.leads_from.within c.requires.growing _ _ c.in_ok-counts.was).0

pub insert_event-requires-2-clause-idx_prev_lt_nodes : goal.insert_event-requires-2-clause-idx_prev_lt_nodes
insert_event-requires-2-clause-idx_prev_lt_nodes c =
    let i = c.insert_event in
    (first_grown _ _ _ _ _ _ _ _ _ _ _ _ _ i.result i.ensures.outcome c.origin_run-run.ensures
    c.requires.leads_from.within c.requires.growing _ _ c.in_ok-counts.was).1

pub returns-clause-answer : goal.returns-clause-answer
returns-clause-answer c =
    let i = c.insert_event in
    let j = c.insert_event-2 in
    λ b reals start net plan v.
    origin_clears b _ reals plan _ _ _ _ _ _ _ _ _ _ i.result i.ensures.outcome _ c.requires.leads_from
    c.origin_run-run.ensures c.origin_event-arrive.ensures start net v _ _ c.in_ok-counts.was _
    c.origin_event-clear.ensures _ _ _ j.result j.ensures.outcome
