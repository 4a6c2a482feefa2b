-- `book_legs::take_leg` meets its contract.
use Rattle.book_legs.proofs.Takes.{search_in, taken_sought}
use Rattle.book_legs.proofs.take_leg.Goals as goal

pub take_found-requires : goal.take_found-requires
take_found-requires c = search_in _ _ _ _ c.find_leg.ensures c.requires.chained.room

pub returns : goal.returns
returns c = taken_sought _ _ _ _ c.find_leg.ensures (c.take_found.ensures _ c.requires.chained)
