-- `net_strands::Rebuild::follow_strands` meets its contract: `Popping` is what the outer loop keeps, and `Standing`
-- what the inner one does; beside them the entries that were pushed since each loop began, and what the cells say.
use mathlib.Core.Path.{◌≡◌, refl, sym, ap, ◌∙◌}
use mathlib.Core.Bool.{Bool, false}
use mathlib.Core.Option.{some}
use Prim.{tt}
use Prim.Native.Nat.{ℕ, ◌+◌, ◌≤◌}
use native.Mathlib.Omega.{arith}
use lib.ListN.{length}
use Rattle.std.specs.Prelude.{reverse}
use Rattle.net_node.specs.Held.{nodes_held}
use Rattle.net_node.proofs.Events.{event_eq}
use Rattle.arrayvec.specs.ArrayVec.{ArrayVec}
use Rattle.net_join_paths.specs.declared.EstJoinPath.{EstJoinPath}
use Rattle.net_join_paths.specs.Entries.{entry, pushed_if}
use Rattle.net_join_paths.proofs.Spans.{Pushed, pushed_then}
use Rattle.net_stack.specs.Stack.{alternative_stacked}
use Rattle.net_stack.specs.Openings.{stack_length, opening_of, opens, opened_if}
use Rattle.net_strands.specs.Given.{WalkGives}
use Rattle.net_strands.proofs.Given.{given_kept, given_noted, extends_over}
use Rattle.net_strands.proofs.Walking.{nothing_left, Closing, Turned, popping_last}
use Rattle.net_strands.proofs.Walking.{popping_closes, closes_says, known_gives, standing_over, standing_full}
use Rattle.net_strands.proofs.Walking.{known_short, known_over, known_pushed, standing-turned}
use Rattle.net_strands.proofs.Rebuild.follow_strands.Goals as goal
use Rattle.net_strands.proofs.Rebuild.follow_strands.Goals.{Then-top-ge65536, After-noted-nexts, At-loop-left}
use Rattle.net_strands.proofs.Rebuild.follow_strands.Goals.{After-ends_strand, then-may_meet+in_default-noted_span}
use Rattle.net_strands.proofs.Rebuild.follow_strands.Goals.{else-may_meet, then-has_event+in_ok-push_entry}
use Rattle.net_strands.proofs.Rebuild.follow_strands.Goals.{else-has_event}

-- an opening was on top of the stack
closing : (c : Then-top-ge65536) → Closing (nodes_held c.args.self.now.nodes) c.args.self.now.nodes.count
    c.args.self.now.event c.args.start c.args.list.now.items c.pop.new.self.items c.strands.list.items c.strands.left
    c.in-Some.top
closing c =
    popping_closes _ _ _ _ _ c.strands.invariant.1 _ _ c.in-Some.ensures.items c.args.self.now.nodes.room.most
    c.if-top-ge65536.true

-- what was pushed since the walk began
whole : (c : At-loop-left) → Pushed c.args.link_idx_match c.args.list.now.items c.loop-left.list.items
whole c = pushed_then c.strands.invariant.2 c.loop-left.invariant.2

-- what is noted of the node
known : (c : After-noted-nexts) → WalkGives (nodes_held c.args.self.now.nodes) c.args.self.now.event
    c.loop-left.list.items c.loop-left.here c.in-Some-noted_span.span.begin c.in-Some-noted_span.span.end
    c.noted-nexts.result
known c =
    known_gives _ _ _ (given_kept c.loop-left.invariant.2.same c.strands.invariant.3) c.loop-left.invariant.1.within
    _ c.in-Some-noted_span.ensures _ c.noted-nexts.ensures

-- the next is put behind the list if it has the event
got : (c : After-ends_strand) → pushed_if c.eq-has_event.result c.loop-left.list.items
    (entry c.args.link_idx_match c.load-node.result.idx_next) ≡ some c.if-has_event.list.items
unfolding entry
got c =
    let pushed =
    λ (b : Bool). pushed_if b c.loop-left.list.items (entry c.args.link_idx_match c.load-node.result.idx_next) in
    let items = λ (l : ArrayVec EstJoinPath). some l.items in
    elim c.if-has_event.branch [
      | then-has_event+in_ok-push_entry w ↦ ap pushed w.if-has_event.true ∙ w.in_ok-push_entry.ensures.list
          ∙ ap items (sym w.list-is)
      | else-has_event w ↦ ap pushed w.if-has_event.false ∙ ap items (sym w.list-is)
    ]

-- the node is opened, or it isn't
record Put (c : After-ends_strand) : Type 0 where
  opened : Bool
  holds : reverse c.if-may_meet.stack.items
      ≡ opened_if opened (opening_of (length c.loop-left.list.items) c.loop-left.left) c.loop-left.here
      (reverse c.loop-left.stack.items)
  room : length c.if-may_meet.stack.items + c.loop-left.left ≤ stack_length
  top : length c.if-may_meet.stack.items ≤ length c.loop-left.stack.items + 2

put : (c : After-ends_strand) → Put c
put c =
    let size = λ (s : ArrayVec ℕ). length s.items in
    let items = λ (s : ArrayVec ℕ). reverse s.items in
    let put_with = λ (n : ℕ). opened_if (opens c.loop-left.left (length c.loop-left.stack.items))
    (opening_of n c.loop-left.left) c.loop-left.here (reverse c.loop-left.stack.items) in
    elim c.if-may_meet.branch [
      | then-may_meet+in_default-noted_span w ↦ record {
        opened = opens c.loop-left.left (length c.loop-left.stack.items);
        holds = ap items w.stack-is ∙ w.open_node.ensures.holds ∙ ap put_with w.len-then-may_meet.ensures.value;
        room = omega (arith, ap size w.stack-is, w.open_node.ensures.room);
        top = omega (arith, ap size w.stack-is, w.open_node.ensures.top);
      }
      | else-may_meet w ↦ record {
        opened = false;
        holds = ap items w.stack-is;
        room = omega (arith, ap size w.stack-is, c.loop-left.invariant.1.room);
        top = omega (arith, ap size w.stack-is);
      }
    ]

-- the next was read
turned : (c : After-ends_strand) → Turned (nodes_held c.args.self.now.nodes) c.args.self.now.nodes.count
    c.args.self.now.event c.args.start c.args.list.now.items c.args.link_idx_match c.loop-left.list.items
    c.loop-left.left c.load-node.result.idx_next c.stack_alternative.new.stack.items c.load-there.result
    c.eq-has_event.result c.if-has_event.list.items
turned c =
    let s = c.stack_alternative.ensures in
    let p = put c in
    standing-turned _ _ _ _ _ c.loop-left.invariant.1 c.args.self.now.nodes.indexed _ c.load-node.ensures
    _ c.load-there.ensures c.loop-left-test.true p.opened _
    (s.holds ∙ ap (alternative_stacked c.load-node.result.idx_next_alt) p.holds) (omega (arith, s.top, p.room))
    _ _ (sym (c.eq-has_event.ensures ∙ event_eq _ _)) _ (got c)

pub close_node-requires-clause-i_lt_places : goal.close_node-requires-clause-i_lt_places
close_node-requires-clause-i_lt_places c =
    omega (
      arith,
      ((closing (goal.at.close_node-requires-clause-i_lt_places c).Then-top-ge65536).closes
          _ _ c.in-Some-pop.ensures.items).named,
      c.args.self.now.within,
    )

pub close_node-requires-clause-inside : goal.close_node-requires-clause-inside
close_node-requires-clause-inside c =
    omega (
      arith,
      ((closing (goal.at.close_node-requires-clause-inside c).Then-top-ge65536).closes
          _ _ c.in-Some-pop.ensures.items).inside,
    )

pub close_node-requires-clause-spent : goal.close_node-requires-clause-spent
close_node-requires-clause-spent c =
    ((closing (goal.at.close_node-requires-clause-spent c).Then-top-ge65536).closes
    _ _ c.in-Some-pop.ensures.items).spent

pub strands-preserved-in-Some-pop : goal.strands-preserved-in-Some-pop
strands-preserved-in-Some-pop c =
    let v = c.strands.invariant in
    let k = closing (goal.at.strands-preserved-in-Some-pop c).Then-top-ge65536 in
    let n = k.closes _ _ c.in-Some-pop.ensures.items in
    let s = c.close_node in (
      s.auto.cells ∙ v.0,
      k.popping _ _ c.in-Some-pop.ensures.items,
      v.2,
      given_noted v.3 s.ensures (v.3.matched _ n.named) (closes_says _ _ _ n _ c.len.ensures.value c.len.ensures.fits),
      λ z t. s.ensures.touched z (v.4 z t),
    )

pub strands-preserved-in_default-pop : goal.strands-preserved-in_default-pop
strands-preserved-in_default-pop c =
    absurd ((closing (goal.at.strands-preserved-in_default-pop c).Then-top-ge65536).below
    (nothing_left _ c.in_default-pop.ensures.variant.1))

pub returns-then-left-nexts : goal.returns-then-left-nexts
returns-then-left-nexts c = record {
  answer = (
    known_short _ _ _ _ _ c.loop-left.invariant.1 (known (goal.at.returns-then-left-nexts c).After-noted-nexts)
        _ (whole (goal.at.returns-then-left-nexts c).At-loop-left) c.if-left-nexts.true,
    refl,
  );
  given = tt;
  touched = c.strands.invariant.4;
}

pub returns-in_err-push_span : goal.returns-in_err-push_span
returns-in_err-push_span c =
    let p = c.in_err-push_span.ensures in
    extends_over _ _ c.from_residual.ensures
    (known_over _ _ _ _ _ c.loop-left.invariant.1 (known (goal.at.returns-in_err-push_span c).After-noted-nexts)
    _ (whole (goal.at.returns-in_err-push_span c).At-loop-left) p.0) p.1 c.strands.invariant.4

pub strands-preserved-in-Some-noted_span : goal.strands-preserved-in-Some-noted_span
strands-preserved-in-Some-noted_span c =
    let v = c.strands.invariant in
    let i = c.loop-left.invariant in
    let k =
    known_pushed _ _ _ _ _ i.1 (known (goal.at.strands-preserved-in-Some-noted_span c).After-noted-nexts)
    _ _ c.in_ok-push_span.ensures (omega (arith, c.if-left-nexts.false)) in (
      v.0,
      k.0,
      pushed_then (pushed_then v.2 i.2) k.1,
      given_kept k.1.same (given_kept i.2.same v.3),
      v.4,
    )

pub returns-in_err-push_entry : goal.returns-in_err-push_entry
unfolding entry
returns-in_err-push_entry c =
    let p = c.in_err-push_entry.ensures.list in
    extends_over _ _ c.from_residual-in_err-push_entry.ensures
    (standing_full _ _ _ _ _ c.loop-left.invariant.1 c.args.self.now.nodes.indexed _ c.load-node.ensures
    _ c.load-there.ensures _ (whole (goal.at.returns-in_err-push_entry c).At-loop-left)
    (sym (event_eq _ _) ∙ sym c.eq-has_event.ensures ∙ c.if-has_event.true) p.0) p.1 c.strands.invariant.4

pub strands-preserved : goal.strands-preserved
strands-preserved c =
    let v = c.strands.invariant in
    let i = c.loop-left.invariant in
    let t = turned (goal.at.strands-preserved c).After-ends_strand in (
      v.0,
      t.leaves _ (sym c.ends_strand.ensures) c.if-has_event-ends_strand.true,
      pushed_then (pushed_then v.2 i.2) t.pushed,
      given_kept t.pushed.same (given_kept i.2.same v.3),
      v.4,
    )

pub loop-left-preserved : goal.loop-left-preserved
loop-left-preserved c =
    let i = c.loop-left.invariant in
    let t = turned (goal.at.loop-left-preserved c).After-ends_strand in (
      omega (
        arith,
        c.loop-left-test.true,
        i.0,
        c.stack_alternative.ensures.top,
        (put (goal.at.loop-left-preserved c).After-ends_strand).top,
      ),
      t.goes _ (sym c.ends_strand.ensures) c.if-has_event-ends_strand.false,
      pushed_then i.2 t.pushed,
    )

pub returns-in-Some : goal.returns-in-Some
returns-in-Some c = record {
  answer = (
    standing_over _ _ _ _ _ c.loop-left.invariant.1 _ (whole (goal.at.returns-in-Some c).At-loop-left)
        (omega (arith, c.loop-left-test.false)),
    refl,
  );
  given = tt;
  touched = c.strands.invariant.4;
}

pub returns : goal.returns
returns c =
    let v = c.strands.invariant in
    record {
      answer = popping_last _ _ _ _ _ v.1 _ v.2 (nothing_left _ c.in_default.ensures.variant.1);
      given = v.3;
      touched = v.4;
    }
