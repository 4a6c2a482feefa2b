-- Theorems on the format of a book. Assumes nothing.
use mathlib.Core.Path.{◌≡◌, sym, ◌∙◌}
use mathlib.Core.Bool.{true, false}
use mathlib.Core.List.{List}
use Prim.Native.Nat.{ℕ, ◌+◌, ◌*◌}
use native.Mathlib.Omega.{arith}
use borrow.Author.Tests.{ltb-true}
use lib.ListN.{length}
use lib.Seq.{ext_get_or}
use Rattle.book_format.specs.Format.{links, origins, destinations, legs, samples, end_of}
use Rattle.book_format.specs.Rows.{row1, row2}
use Rattle.book_format.specs.Same.{Bytes, SameRows}
use Rattle.book_format.proofs.Places.{follow}
use Rattle.book_format.proofs.Measures.{rows_length}
use Rattle.book_format.proofs.Same.{same_end, agree_all}

-- Rows 1 and 2 exclude each other.
pub rows_exclude : (b : List ℕ) → row1 b ≡ true → row2 b ≡ true → ⊥
unfolding row1 row2
rows_exclude b h g = omega (arith, ltb-true (length b) (end_of b) h, ltb-true (end_of b) (length b) g)

-- A book that rows 1 and 2 leave has just the length that its counts say.
pub length_by_counts : (b : List ℕ) → row1 b ≡ false → row2 b ≡ false → length b ≡ 44 + links b * 24 + origins b * 16 + destinations b * 4 + legs b * 12 + samples b * 24
length_by_counts b h g = omega (arith, rows_length b h g, follow b)

-- Two such books with the same fields are the same bytes: nothing stands in a book beside its fields.
pub same_bytes : (b c : List ℕ) → row1 b ≡ false → row2 b ≡ false → row1 c ≡ false → row2 c ≡ false → Bytes b → Bytes c → SameRows b c → b ≡ c
same_bytes b c h g h' g' w v s =
    let e : length b ≡ end_of b = rows_length b h g in
    let d : length c ≡ end_of c = rows_length c h' g' in
    ext_get_or 0 b c (e ∙ same_end s ∙ sym d) (λ k l. (agree_all w v s).on k (omega arith) (omega arith))
