-- `readable::read` meets its contract: 1,024 units of work space are 65,536 bytes.
use Rattle.std.proofs.Common.{◌∙◌, refl}
use Rattle.space.specs.Space.{bytes_of, units_of}
use Rattle.book_reader.proofs.Rooms.{number_moved}
use Rattle.readable.proofs.read.Goals as goal

pub returns : goal.returns
unfolding bytes_of units_of
returns c = c.check_book.ensures.number ∙ number_moved _ _ _ _ _ 3072 8192 2048 refl refl refl
