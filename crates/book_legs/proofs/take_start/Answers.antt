-- `book_legs::take_start` meets its contract.
use Rattle.book_legs.proofs.Takes.{search_in, taken_sought}
use Rattle.book_legs.proofs.take_start.Goals as goal

pub take_found-requires : goal.take_found-requires
take_found-requires c = search_in _ _ _ _ c.find_start.ensures c.requires.chained.room

pub returns : goal.returns
returns c = taken_sought _ _ _ _ c.find_start.ensures (c.take_found.ensures _ c.requires.chained)
