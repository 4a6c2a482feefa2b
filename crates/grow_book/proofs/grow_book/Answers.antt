-- `grow_book::grow_book` meets its contract: proofs/Growing.antt.
use native.Mathlib.Omega.{arith}
use lib.ListN.{length}
use Rattle.grow_book.proofs.Growing.{book_small, places_fit, first_fit, book_start, book_at_start, book_grown}
use Rattle.grow_book.proofs.grow_book.Goals as goal

pub returns-then-places-lt2 : goal.returns-then-places-lt2
returns-then-places-lt2 c = book_small _ _ c.places-places.ensures c.if-places-lt2.true _ _

pub plan_of-plan-requires : goal.plan_of-plan-requires
plan_of-plan-requires c = let r = c.requires.ready in
    record {
      row7 = r.row7;
      places_le_65535 = (places_fit c.places-places.ensures).most;
    }

pub invariant_of-planned : goal.invariant_of-planned
invariant_of-planned c =
    let r = c.requires in
    record {
      planned = c.plan_of-plan.ensures.plan _ (omega arith);
      options = r.ready.marked;
      marked = omega (arith, r.marks_room);
    }

pub invariant_of-p : goal.invariant_of-p
invariant_of-p c =
    let r = c.requires in
    record {
      started = r.ready.starts;
      searched = r.marks_room;
      kept_is = r.ready.kept;
    }

pub first_nodes-requires : goal.first_nodes-requires
first_nodes-requires c =
    let all = first_fit c.places-places.ensures c.if-places-lt2.false in
    record {
      float_width_in_bounds = all.0;
      number_width_in_bounds = all.1;
    }

pub start_path-requires : goal.start_path-requires
start_path-requires c = omega (arith, c.requires.reals_room)

pub run_all-requires : goal.run_all-requires
run_all-requires c =
    let r = c.requires in
    let p = c.plan_of-plan.ensures in
    let f = c.first_nodes.ensures in
    let plan = p.plan (length c.start_path.new.reals) (omega (arith, r.reals_room, c.start_path.auto)) in
    record {
      reals_room = omega (arith, r.reals_room, c.start_path.auto);
      at_start = book_at_start r.ready _ _ plan c.start_path.ensures c.args.floats.now c.args.numbers.now _
          c.places-places.ensures p.places c.if-places-lt2.false p.links r.cells_room _ _ f.floats f.numbers _;
      only_start = book_start c.args.floats.now c.args.numbers.now _ c.places-places.ensures c.if-places-lt2.false _ _ _
          f.floats f.numbers;
    }

pub returns : goal.returns
returns c =
    let r = c.requires in
    let p = c.plan_of-plan.ensures in
    let f = c.first_nodes.ensures in
    let a = c.run_all in
    book_grown r.ready _ _ (p.plan (length c.start_path.new.reals) (omega (arith, r.reals_room, c.start_path.auto)))
    c.start_path.ensures c.args.floats.now c.args.numbers.now _ c.places-places.ensures p.places c.if-places-lt2.false
    p.links r.cells_room _ _ f.floats f.numbers _ _ _ a.result a.ensures
