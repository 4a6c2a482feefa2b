-- `Book::sample_place` meets its contract: the row lies inside the bytes.
use Rattle.book_format.proofs.Places.{sample_stands}
use Rattle.book_format.proofs.Book.sample_place.Goals as goal

pub row_place-requires : goal.row_place-requires
row_place-requires c = sample_stands c.self.invariant c.self.view_is _ c.requires.i_lt_samples
