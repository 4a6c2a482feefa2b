-- `grow_leg::finish_run` meets its contract.
use Rattle.grow_state.proofs.Keeping.{turned_refused}
use Rattle.grow_leg.proofs.Finishing.{some_nodes, marks_inside, last_inside, room_here, finish_refused, finish_gives}
use Rattle.grow_leg.proofs.finish_run.Goals as goal

pub finish-requires : goal.finish-requires
finish-requires c = let v = c.requires.ends.ends.grown in
    record {
      room = room_here v;
      n_nonzero = some_nodes v;
      n_in_bounds = marks_inside v;
      last_end_lt_n = last_inside v;
    }

pub returns-in_err-finish : goal.returns-in_err-finish
returns-in_err-finish c = λ b reals joins net run rest plan a.
    turned_refused _ _ _ _ c.from_residual.result _ c.from_residual.ensures.1
    (finish_refused plan a c.finish.result c.finish.ensures.answer _ c.in_err-finish.was)

pub returns : goal.returns
returns c = λ b reals joins net run rest plan a.
    finish_gives plan a c.finish.result _ c.finish.ensures.answer c.finish.ensures.cells c.in_ok-finish.was
