-- `book_rows::link_zero` meets its contract: a length of 0 is a book's float.
use Rattle.std.proofs.Common.{◌≡◌, true, ℕ}
use Rattle.std.specs.Float.Ieee.{of_bits, le}
use Rattle.floats.specs.Floats.{table_float, book_float}
use Rattle.book_rows.proofs.link_zero.Goals as goal

-- the pattern 0 is one
zero_float : (n m : ℕ) → m ≡ n → m ≡ 0 → book_float n ≡ true
unfolding book_float table_float of_bits le
zero_float n m e z = rw (← e, z)

pub link_at-l-requires-clause-length_passed : goal.link_at-l-requires-clause-length_passed
link_at-l-requires-clause-length_passed c = zero_float _ _ c.link_length.ensures c.if-link_length-ne0.false
