-- How much the search asks for: document 02's sentence in bytes, the most that any book asks for.
use mathlib.Core.Path.{◌≡◌}
use mathlib.Core.Bool.{false}
use mathlib.Core.List.{List}
use Prim.Native.Nat.{ℕ, ◌+◌, ◌*◌, ◌≤◌}
use native.Mathlib.Omega.{arith}
use Rattle.book_format.specs.Format.{links, origins, destinations}
use Rattle.book_format.specs.Rows.{bad_count}
use Rattle.book_format.proofs.Given.{limits}
use Rattle.book_options.specs.Options.{search_room}

-- "8 bytes for each link and 4 for each origin and destination"
search_bytes : (b : List ℕ) → 4 * search_room b ≡ 8 * links b + 4 * (origins b + destinations b)
search_bytes b = omega arith

-- the largest book: 65,535 links, 1,000 origins and 1,000 destinations
most_bytes : (b : List ℕ) → bad_count b ≡ false → 4 * search_room b ≤ 532280
most_bytes b e = omega (arith, limits b e)
