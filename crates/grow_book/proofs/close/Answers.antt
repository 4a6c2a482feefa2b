-- `grow_book::close` meets its contract: proofs/Closing.antt.
use native.Mathlib.Omega.{arith}
use Rattle.grow_book.proofs.Closing.{fakes_ask, fakes_full, last_full, closed-whole, last_asks, not_fewer}
use Rattle.grow_book.proofs.Closing.{grown_refused}
use Rattle.grow_book.proofs.close.Goals as goal

pub end_fakes-requires : goal.end_fakes-requires
end_fakes-requires c =
    let all = fakes_ask _ _ _ _ _ c.requires in
    record {
      room = all.0;
      n_le_places = all.1.0;
      n_in_bounds = all.1.1.0;
      some_ends = all.1.1.1;
    }

pub returns-in_err-n : goal.returns-in_err-n
returns-in_err-n c = let f = c.end_fakes in λ net k.
    grown_refused _ _ _ c.from_residual.result _ c.from_residual.ensures.1
    (fakes_full _ _ _ _ _ _ _ f.result f.ensures net k _ c.in_err-n.was)

pub last_node-requires : goal.last_node-requires
last_node-requires c = let f = c.end_fakes in
    let all = last_asks _ _ _ _ _ _ _ f.result f.ensures c.requires _ c.in_ok-n.was (omega (arith, f.auto))
    (omega (arith, f.auto)) in
    record {
      room = all.0;
      n_nonzero = all.1;
    }

pub returns-in_err-nodes : goal.returns-in_err-nodes
returns-in_err-nodes c = let f = c.end_fakes in let l = c.last_node in λ net k.
    grown_refused _ _ _ c.from_residual-in_err-nodes.result _ c.from_residual-in_err-nodes.ensures.1
    (last_full _ _ _ _ _ _ _ f.result f.ensures net k _ c.in_ok-n.was _ _ l.result l.ensures _ c.in_err-nodes.was)

pub overflow_sub-result : goal.overflow_sub-result
overflow_sub-result c = let f = c.end_fakes in
    omega (arith, not_fewer _ _ _ _ _ _ _ f.result f.ensures c.requires _ c.in_ok-n.was, c.requires.closes.holds.sum)

pub returns : goal.returns
returns c = let f = c.end_fakes in let l = c.last_node in
    λ net k. closed-whole _ _ _ _ _ _ _ f.result f.ensures net k _ c.in_ok-n.was _ _ l.result l.ensures _
    c.in_ok-nodes.was
