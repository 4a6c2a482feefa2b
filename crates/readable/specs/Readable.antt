-- What the program prints.
use Rattle.std.specs.Prelude.{ℕ, List, [], ◌∷◌, ◌++◌, codes, length, nat_eq, nat_lt, if◌then◌else◌}
use Rattle.std.specs.Fmt.{decimal}
use Rattle.book_reader.specs.Reader.{read_number}

-- the line of a number: 0 is readable
abbrev pub number_text : ℕ → List ℕ
number_text n = if nat_eq n 0 then codes "readable" ++ 10 ∷ [] else (codes "refused " ++ decimal n ++ 10 ∷ [])

-- the line of an input: a book of up to 65,536 bytes, read for a table of 192 nodes and 65,536 bytes of work space
abbrev pub input_text : List ℕ → List ℕ
input_text input =
    if nat_lt 65536 (length input) then codes "too long" ++ 10 ∷ []
    else number_text (read_number input 192 65536)
