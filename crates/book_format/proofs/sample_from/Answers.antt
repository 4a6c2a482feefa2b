-- `book_format::sample_from` meets its contract: each float is that of its pattern.
use Rattle.book_format.specs.Format.{patterns_from}
use Rattle.book_format.proofs.Floats.{sample_floats}
use Rattle.book_format.proofs.sample_from.Goals as goal

pub float_of-requires-3 : goal.float_of-requires-3
unfolding patterns_from
float_of-requires-3 c = rw c.patterns_from-p.ensures (sample_floats _ _ c.requires.floats_passed).speed
