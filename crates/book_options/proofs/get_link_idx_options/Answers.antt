-- `book_options::get_link_idx_options` meets its contract: `Walking` is the loop's invariant, and the measure is how many
-- pops are left at most.
use Rattle.std.proofs.Common.{◌≡◌, refl, sym, subst, ◌∙◌, ap, ℕ, List, Bool, true, false, cond, Result, Ok, Err, arith}
use Rattle.refusals.proofs.Answers.{handed_on}
use Rattle.refusals.specs.declared.Refusal.{Refusal}
use Rattle.refusals.specs.declared.Refusal.TheVariants.{NoPath}
use Rattle.book_format.specs.Format.{destinations}
use Rattle.book_options.specs.Turns.{DestinationsStacked, Walking}
use Rattle.book_options.proofs.Starts.{walk_start}
use Rattle.book_options.proofs.Ends.{walk_marked, walk_none, walk_some, zero_refused, refused}
use Rattle.book_options.proofs.get_link_idx_options.Goals as goal

-- a destination that is link 0
zero_met : (t : Bool) (e : Refusal) → ◌≡◌ {A = Result (Unit {0}) Refusal} (Err e) (cond {A = Result (Unit {0}) Refusal} t (Err NoPath) (Ok (tt {0}))) → (t ≡ true) × (e ≡ NoPath)
zero_met true e h = (refl, cc)
zero_met false e h = (cc, cc)

pub returns-in_err-push_destinations : goal.returns-in_err-push_destinations
returns-in_err-push_destinations c =
    let r = c.book-rows.ensures in
    let z = zero_met _ _ c.in_err-push_destinations.ensures.answer in
    let all = refused c.args.book.now c.push_destinations.new.marks (zero_refused _ (rw r.is at z.0)) in
    record {
      answer = rw (handed_on _ _ c.from_residual.ensures.1, z.1) all.0;
      marked = all.1;
    }

pub loop-w-init : goal.loop-w-init
loop-w-init c =
    let r = c.book-rows.ensures in
    subst (λ (n : ℕ). Walking c.args.book.now c.mark_origins.new.marks (record { top = n; kept = 0 })) (sym (c.destinations.ensures ∙ ap destinations r.is))
    (walk_start r.valid.indices (subst (λ (b : List ℕ). DestinationsStacked b (destinations b) c.push_destinations.new.marks) r.is c.in_ok-push_destinations.ensures.pushed) c.mark_origins.ensures)

pub returns-then-w-eq0 : goal.returns-then-w-eq0
returns-then-w-eq0 c =
    let all = refused c.args.book.now c.loop-w.marks (walk_none c.loop-w.invariant (omega (arith, c.loop-w-test.false)) c.if-w-eq0.true) in
    record {
      answer = all.0;
      marked = all.1;
    }

pub returns : goal.returns
returns c =
    let v = c.loop-w.invariant in
    let z : c.loop-w.w.top ≡ 0 = omega (arith, c.loop-w-test.false) in
    record {
      answer = walk_some v z (rw c.book-rows.ensures.is at c.in_ok-push_destinations.ensures.pushed.real) c.if-w-eq0.false;
      marked = λ e. walk_marked v z;
    }
