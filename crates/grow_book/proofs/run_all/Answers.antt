-- `grow_book::run_all` meets its contract: proofs/Growing.antt.
use native.Mathlib.Omega.{arith}
use Rattle.grow_origins.proofs.OriginLoop.{some_joins}
use Rattle.grow_book.proofs.Closing.{grown_refused}
use Rattle.grow_book.proofs.Growing.{all_some, all_start, all_stopped, all_from, all-refused, all-closing, all_grown}
use Rattle.grow_book.proofs.run_all.Goals as goal

pub origins-requires : goal.origins-requires
origins-requires c = let r = c.requires in
    record {
      reals_room = r.reals_room;
      some_origins = some_joins (all_some _ _ _ _ _ _ _ _ c.first_state-g.ensures r.at_start);
      only_start = all_start _ _ _ c.first_state-g.ensures r.only_start;
    }

pub returns-in_err-rest : goal.returns-in_err-rest
returns-in_err-rest c = let o = c.origins in λ net d.
    grown_refused _ _ _ c.from_residual.result _ c.from_residual.ensures.1
    (all_stopped _ _ _ _ _ _ _ _ c.first_state-g.ensures _ _ _ _ _ o.result (o.ensures _) _ c.in_err-rest.was net d)

pub drive-requires : goal.drive-requires
drive-requires c =
    let r = c.requires in
    let o = c.origins in
    record {
      reals_room = omega (arith, r.reals_room, o.auto);
      from_origins = all_from _ _ _ _ _ _ _ _ c.first_state-g.ensures _ _ _ _ _ o.result (o.ensures _) _
          c.in_ok-rest.was r.at_start;
    }

pub returns-in_err-counts : goal.returns-in_err-counts
returns-in_err-counts c =
    let o = c.origins in
    let d = c.drive in
    λ net h.
    grown_refused _ _ _ c.from_residual-in_err-counts.result _ c.from_residual-in_err-counts.ensures.1
    (all-refused _ _ _ _ _ _ _ _ c.first_state-g.ensures _ _ _ _ _ o.result (o.ensures _) _ c.in_ok-rest.was _ _ _
    d.result d.ensures _ c.in_err-counts.was net h)

pub close-requires : goal.close-requires
close-requires c =
    let o = c.origins in
    let d = c.drive in
    all-closing _ _ _ _ _ _ _ _ c.first_state-g.ensures _ _ _ _ _ o.result (o.ensures _) _ c.in_ok-rest.was _ _ _
    d.result d.ensures _ c.in_ok-counts.was c.requires.at_start

pub returns : goal.returns
returns c =
    let o = c.origins in
    let d = c.drive in
    let k = c.close in
    λ net h. all_grown _ _ _ _ _ _ _ _ c.first_state-g.ensures _ _ _ _ _ o.result (o.ensures _) _ c.in_ok-rest.was _ _ _
    d.result d.ensures _ c.in_ok-counts.was _ _ k.result k.ensures net h
