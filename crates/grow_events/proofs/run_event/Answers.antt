-- `grow_events::run_event` meets its contract: each way to end is a law of proofs/Joining.antt.
use mathlib.Core.Path.{sym, ap, ◌∙◌}
use Rattle.std.specs.Prelude.{Ok}
use Rattle.refusals.proofs.Answers.{handed_on}
use Rattle.grow_events.proofs.Joining.{as_outcome, alone_as, step_refused, joined_small, step_joined, waits_net}
use Rattle.grow_events.proofs.Joining.{waits_run, step_waits}
use Rattle.grow_events.proofs.run_event.Goals as goal

pub returns-then-not-m-clause-outcome : goal.returns-then-not-m-clause-outcome
returns-then-not-m-clause-outcome c = λ start leg net run v u.
    alone_as v u _ _ c.if-not-m.true _ _ _ _ c.insert_event.result
    (c.insert_event.ensures.outcome start _ leg net run v u) _ (sym (ap as_outcome c.in_ok-counts.was))

pub returns-in_err-counts-clause-outcome : goal.returns-in_err-counts-clause-outcome
returns-in_err-counts-clause-outcome c = λ start leg net run v u.
    alone_as v u _ _ c.if-not-m.true _ _ _ _ c.insert_event.result
    (c.insert_event.ensures.outcome start _ leg net run v u) c.from_residual.result
    (handed_on _ _ c.from_residual.ensures.1 ∙ sym (ap as_outcome c.in_err-counts.was))

pub returns-in_err-step-clause-outcome : goal.returns-in_err-step-clause-outcome
returns-in_err-step-clause-outcome c =
    let s = c.join_step in
    λ start leg net run v u. step_refused v u _ _ c.if-not-m.false _ _ _ _ s.result s.ensures.answer s.ensures.table
    s.ensures.cells _ c.in_err-step.was _ (handed_on _ _ c.from_residual-in_err-step.ensures.1)

pub with_joined-requires-clause-nodes_lt_65535 : goal.with_joined-requires-clause-nodes_lt_65535
with_joined-requires-clause-nodes_lt_65535 c =
    let s = c.join_step in
    (joined_small c.requires.moving.holds c.requires.moving.runs _ _ c.if-not-m.false _ _ _ _ s.result s.ensures.answer
    s.ensures.table s.ensures.cells _ (c.in_ok-step.was ∙ ap Ok c.in-Joined.is)).0

pub returns-in-Joined-clause-outcome : goal.returns-in-Joined-clause-outcome
returns-in-Joined-clause-outcome c =
    let s = c.join_step in
    λ start leg net run v u.
    step_joined v u _ _ c.if-not-m.false _ _ _ _ s.result s.ensures.answer s.ensures.table s.ensures.cells _
    (c.in_ok-step.was ∙ ap Ok c.in-Joined.is) _ c.with_joined.ensures

pub returns-in_ok-counts-in-Waits-clause-outcome : goal.returns-in_ok-counts-in-Waits-clause-outcome
returns-in_ok-counts-in-Waits-clause-outcome c =
    let s = c.join_step in
    let i = c.insert_event-in-Waits in
    let w = c.in_ok-step.was ∙ ap Ok c.in-Waits.is in
    λ start leg net run v u.
    step_waits v u _ _ c.if-not-m.false _ _ _ _ s.result s.ensures.answer s.ensures.table s.ensures.cells w
    _ _ _ _ i.result (i.ensures.outcome start _ leg net _
    (waits_net v u _ _ c.if-not-m.false _ _ _ _ s.result s.ensures.answer s.ensures.table s.ensures.cells w)
    (waits_run v u _ _ c.if-not-m.false _ _ _ _ s.result s.ensures.answer s.ensures.table s.ensures.cells w))
    _ (sym (ap as_outcome c.in_ok-counts-in-Waits.was))

pub returns-in_err-counts-in-Waits-clause-outcome : goal.returns-in_err-counts-in-Waits-clause-outcome
returns-in_err-counts-in-Waits-clause-outcome c =
    let s = c.join_step in
    let i = c.insert_event-in-Waits in
    let w = c.in_ok-step.was ∙ ap Ok c.in-Waits.is in
    λ start leg net run v u.
    step_waits v u _ _ c.if-not-m.false _ _ _ _ s.result s.ensures.answer s.ensures.table s.ensures.cells w
    _ _ _ _ i.result (i.ensures.outcome start _ leg net _
    (waits_net v u _ _ c.if-not-m.false _ _ _ _ s.result s.ensures.answer s.ensures.table s.ensures.cells w)
    (waits_run v u _ _ c.if-not-m.false _ _ _ _ s.result s.ensures.answer s.ensures.table s.ensures.cells w))
    c.from_residual-in_err-counts-in-Waits.result
    (handed_on _ _ c.from_residual-in_err-counts-in-Waits.ensures.1
    ∙ sym (ap as_outcome c.in_err-counts-in-Waits.was))
