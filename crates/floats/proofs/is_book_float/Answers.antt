-- `floats::is_book_float` meets its contract. Assumes nothing.
use Rattle.floats.proofs.Patterns.{book_is}
use Rattle.floats.proofs.is_book_float.Goals as goal

pub returns : goal.returns
returns c = book_is c.args.bits
