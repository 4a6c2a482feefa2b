-- `event_maker::make_events` meets its contract.
use mathlib.Core.Path.{sym, ap, ◌∙◌}
use Rattle.space.specs.Space.{zeros, zero_floats}
use Rattle.refusals.proofs.Answers.{handed_on}
use Rattle.refusals.proofs.Numbers.{refusal_some}
use Rattle.event_maker.proofs.Makes.{rows_answer, lent_held, lent_walkable, made_answer, refused-floats, refused-numbers, made-floats, made-numbers}
use Rattle.event_maker.proofs.make_events.Goals as goal

pub returns-in_err-first_refusal : goal.returns-in_err-first_refusal
returns-in_err-first_refusal c =
    let a = c.args in
    let r = c.in_err-first_refusal.field-0.0 in
    rw (handed_on _ _ c.from_residual.ensures.1) (record {
      answer = rows_answer a.train_length a.samples.now a.offsets.now a.links.now _ c.min.ensures _ _ c.in_err-first_refusal.ensures (refusal_some r);
      floats = c.clear.ensures;
      numbers = c.clear-2.ensures;
    })

pub invariant_of-course : goal.invariant_of-course
invariant_of-course c =
    let a = c.args in
    let d = sym c.in_ok-first_refusal.ensures in
    record {
      held = lent_held a.train_length a.samples.now a.offsets.now a.links.now _ c.min.ensures d;
      walkable = lent_walkable a.train_length a.samples.now a.offsets.now a.links.now _ c.min.ensures d c.type_inv.offsets c.well_formed.0.1;
    }

pub returns-then-is_err : goal.returns-then-is_err
returns-then-is_err c =
    let a = c.args in
    let d = sym c.in_ok-first_refusal.ensures in
    let m = c.list_events-made in
    let e = sym c.is_err.ensures.value ∙ c.if-is_err.true in
    record {
      answer = made_answer a.train_length a.samples.now a.offsets.now a.links.now _ c.min.ensures d _ _ _ _ _ c.clear.auto.s c.clear-2.auto.s m.ensures.answer;
      floats = c.clear-then-is_err.ensures ∙ ap zero_floats (m.auto.floats ∙ c.clear.auto.s) ∙ refused-floats a.train_length a.samples.now a.offsets.now a.links.now _ c.min.ensures d _ e _;
      numbers = c.clear-then-is_err-2.ensures ∙ ap zeros (m.auto.numbers ∙ c.clear-2.auto.s) ∙ refused-numbers a.train_length a.samples.now a.offsets.now a.links.now _ c.min.ensures d _ e _;
    }

pub returns-else-is_err : goal.returns-else-is_err
returns-else-is_err c =
    let a = c.args in
    let d = sym c.in_ok-first_refusal.ensures in
    let l = c.list_events-made.ensures in
    let e = sym c.is_err.ensures.value ∙ c.if-is_err.false in
    record {
      answer = made_answer a.train_length a.samples.now a.offsets.now a.links.now _ c.min.ensures d _ _ _ _ _ c.clear.auto.s c.clear-2.auto.s l.answer;
      floats = made-floats a.train_length a.samples.now a.offsets.now a.links.now _ c.min.ensures d _ e _ _ c.clear.auto.s _ l.floats;
      numbers = made-numbers a.train_length a.samples.now a.offsets.now a.links.now _ c.min.ensures d _ e _ _ c.clear-2.auto.s _ l.numbers;
    }
