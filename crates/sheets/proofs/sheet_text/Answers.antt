-- `sheets::sheet_text` meets its contract.
use mathlib.Core.Path.{◌≡◌, ◌∙◌}
use Rattle.std.proofs.Common.{rules}
use Prim.Native.Nat.{ℕ}
use lib.Ieee.{binary64, of_bits}
use lib.ListN.{length, replicate, length-replicate}
use Rattle.space.specs.Space.{bytes_of}
use Rattle.net_node.specs.Lent.{Sizes}
use Rattle.sheets.specs.Sheets.{program_sizes}
use Rattle.sheets.proofs.Lists.{program_sizes_lem}
use Rattle.sheets.proofs.Whole.{text_told}
use Rattle.sheets.proofs.sheet_text.Goals as goal

floats : length (replicate program_sizes.floats (of_bits binary64 0)) ≡ program_sizes.floats
floats = length-replicate program_sizes.floats (of_bits binary64 0)

numbers : length (replicate {A = ℕ} program_sizes.numbers 0) ≡ program_sizes.numbers
numbers = length-replicate {A = ℕ} program_sizes.numbers 0

abbrev bytes : ℕ
bytes = bytes_of (length (replicate 3072 (of_bits binary64 0))) (length (replicate {A = ℕ} 8192 0)) (length (replicate {A = ℕ} 2048 0))

sizes : ◌≡◌ {A = Sizes} (record { floats = length (replicate program_sizes.floats (of_bits binary64 0)); numbers = length (replicate {A = ℕ} program_sizes.numbers 0); bytes = bytes }) program_sizes
sizes = program_sizes_lem _ _ _ _ _ floats numbers (length-replicate 3072 (of_bits binary64 0)) (length-replicate {A = ℕ} 8192 0) (length-replicate {A = ℕ} 2048 0)

pub returns : goal.returns
returns c = text_told c.list_book-listed.ensures sizes (c.list_book-listed.auto.floats ∙ floats) (c.list_book-listed.auto.numbers ∙ numbers) (search rules) c.unwrap_or.ensures
