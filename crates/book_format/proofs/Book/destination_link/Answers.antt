-- `Book::destination_link` meets its contract: the row lies inside the bytes.
use Rattle.book_format.proofs.Places.{destination_stands}
use Rattle.book_format.proofs.Book.destination_link.Goals as goal

pub row_place-at-requires : goal.row_place-at-requires
row_place-at-requires c = destination_stands c.self.invariant c.self.view_is _ c.requires.i_lt_destinations
