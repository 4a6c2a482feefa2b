-- `Book::leg_at` meets its contract: the row lies inside the bytes.
use Rattle.book_format.proofs.Places.{leg_stands}
use Rattle.book_format.proofs.Book.leg_at.Goals as goal

pub row_place-at-requires : goal.row_place-at-requires
row_place-at-requires c = leg_stands c.self.invariant c.self.view_is _ c.requires.i_lt_legs
