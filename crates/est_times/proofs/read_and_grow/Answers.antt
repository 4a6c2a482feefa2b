-- `est_times::read_and_grow` meets its contract.
use mathlib.Core.Path.{sym, subst}
use mathlib.Core.List.{List}
use Prim.Native.Nat.{ℕ}
use native.Mathlib.Omega.{arith}
use lib.ListN.{length}
use Rattle.net_node.specs.Left.{places_of}
use Rattle.refusals.proofs.Numbers.{refusal_some}
use Rattle.grow_rules.specs.Growth.{grow}
use Rattle.grow_book.specs.Answers.{GrownAs}
use Rattle.grow_book.proofs.Closing.{grown_refused}
use Rattle.est_times.proofs.Accepts.{Enough, passes_of, enough_of, read_as, accepted_book, accepted_ready, accepted_zero, refused_number}
use Rattle.est_times.proofs.Networks.{network_refused, grown_network}
use Rattle.est_times.proofs.read_and_grow.Goals as goal

pub read_book-requires : goal.read_book-requires
read_book-requires c = record { cells_zero = c.requires.cells; marks_zero = c.requires.marks }

pub returns-in_err-accepted : goal.returns-in_err-accepted
returns-in_err-accepted c =
    let r = read_as c.places-places.ensures c.read_book.ensures in
    grown_refused _ _ _ c.from_residual.result _ c.from_residual.ensures.1 (network_refused _ _ _ (refused_number _ _ _ _ _ _ r c.in_err-accepted.was) (refusal_some _))

pub grow_book-requires : goal.grow_book-requires
grow_book-requires c =
    let r = read_as c.places-places.ensures c.read_book.ensures in
    let w = c.in_ok-accepted.was in
    let e = subst (λ (x : List ℕ). Enough x (places_of (length c.args.floats.now) (length c.args.numbers.now)) (length c.args.reals.now) (length c.args.cells.now) (length c.args.marks.now)) (sym (accepted_book _ _ _ _ _ _ r w)) (enough_of _ _ _ _ _ _ (passes_of _ _ _ (accepted_zero _ _ _ _ _ _ r w))) in
    let k = c.read_book.auto in
    record {
      ready = accepted_ready _ _ _ _ _ _ r w;
      reals_room = e.reals;
      cells_room = omega (arith, e.cells, k);
      marks_room = omega (arith, e.marks, k);
    }

pub returns : goal.returns
returns c =
    let p = c.requires in
    let r = read_as c.places-places.ensures c.read_book.ensures in
    let w = c.in_ok-accepted.was in
    let q = accepted_book _ _ _ _ _ _ r w in
    grown_network _ _ _ _ p.floats p.numbers (accepted_zero _ _ _ _ _ _ r w) _ _ c.grow_book.result
    (subst (λ (x : List ℕ). GrownAs (grow x (places_of (length c.args.floats.now) (length c.args.numbers.now)) (record { floats = c.args.floats.now; numbers = c.args.numbers.now })) c.grow_book.new.floats c.grow_book.new.numbers c.grow_book.result) q c.grow_book.ensures)
