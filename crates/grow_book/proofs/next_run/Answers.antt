-- `grow_book::next_run` meets its contract.
use Rattle.grow_book.proofs.Driving.{up_next}
use Rattle.grow_book.proofs.next_run.Goals as goal

pub returns : goal.returns
returns c = up_next _ c.in_default.is _ _ c.take_up.ensures
