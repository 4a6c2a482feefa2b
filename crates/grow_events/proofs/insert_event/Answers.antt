-- `grow_events::insert_event` meets its contract: each way to end is a law of proofs/Inserting.antt.
use mathlib.Core.Path.{ap, ◌∙◌}
use native.Mathlib.Omega.{arith}
use Rattle.std.specs.Prelude.{Ok}
use Rattle.refusals.proofs.Answers.{handed_on}
use Rattle.net_event_map.proofs.Kept.{last_placed}
use Rattle.grow_events.specs.declared.Counts.{Counts}
use Rattle.grow_events.proofs.Inserting.{Fresh, added_fresh, insert_refused, insert_moved, insert_added}
use Rattle.grow_events.proofs.insert_event.Goals as goal
use Rattle.grow_events.proofs.insert_event.Goals.{In-Added}

-- the node that was added
fresh : (c : In-Added) → Fresh c.requires.growing.holds c.args.join c.args.m.place c.args.e c.requires.idx_prev_lt_nodes
    c.in-Added.place.idx_prev c.in-Added.split
fresh c =
    let i = c.insert_est_time in
    added_fresh c.requires.growing.holds _ _ _ c.requires.idx_prev_lt_nodes _ _ i.result i.ensures.answer
    i.ensures.table _ _ (c.in_ok-inserted.was ∙ ap Ok c.in-Added.is)

pub returns-in_err-inserted-clause-outcome : goal.returns-in_err-inserted-clause-outcome
returns-in_err-inserted-clause-outcome c =
    let i = c.insert_est_time in
    λ start joins leg net run v u. insert_refused v u _ _ _ _ i.result i.ensures.answer i.ensures.table _
    c.in_err-inserted.was _ (handed_on _ _ c.from_residual.ensures.1)

pub insert-requires-clause-last_placed : goal.insert-requires-clause-last_placed
insert-requires-clause-last_placed c =
    let g = c.requires.growing.holds in
    last_placed g.mapped _ c.requires.real.1 g.within
    (omega (arith, (fresh (goal.at.insert-requires-clause-last_placed c).In-Added).below))

pub insert-requires-clause-i_lt_places : goal.insert-requires-clause-i_lt_places
insert-requires-clause-i_lt_places c = (fresh (goal.at.insert-requires-clause-i_lt_places c).In-Added).below

pub insert-requires-clause-i_nonzero : goal.insert-requires-clause-i_nonzero
insert-requires-clause-i_nonzero c = (fresh (goal.at.insert-requires-clause-i_nonzero c).In-Added).some

pub returns-in-Moved-clause-outcome : goal.returns-in-Moved-clause-outcome
returns-in-Moved-clause-outcome c =
    let i = c.insert_est_time in
    λ start joins leg net run v u. insert_moved v u _ _ _ _ i.result i.ensures.answer i.ensures.table _
    (c.in_ok-inserted.was ∙ ap Ok c.in-Moved.is)

pub returns-in-Added-clause-outcome : goal.returns-in-Added-clause-outcome
returns-in-Added-clause-outcome c =
    let i = c.insert_est_time in
    let p = c.insert in
    λ start joins leg net run v u.
    insert_added v u _ _ _ _ i.result i.ensures.answer i.ensures.table _ _
    (c.in_ok-inserted.was ∙ ap Ok c.in-Added.is) p.new.cells p.auto.cells p.ensures.mapped p.ensures.elsewhere _
    c.with_added-counts.ensures

pub returns-in-Added-clause-more : goal.returns-in-Added-clause-more
returns-in-Added-clause-more c =
    omega (
      arith,
      (fresh (goal.at.returns-in-Added-clause-more c).In-Added).grows,
      ap (λ (x : Counts). x.nodes) c.with_added-counts.ensures,
    )
