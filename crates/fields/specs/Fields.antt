-- Document 01, "Little-endian bytes; floats are 8 bytes, other fields u32": the number that stands at an offset of a
-- list of bytes. A byte past the end is read as 0, so each definition is total; row 1 is what says that none was.
use Rattle.std.specs.Prelude.{List, ℕ, ◌+◌, ◌*◌, get_or}

-- Four bytes, the least first.
unfoldable pub u32_at : List ℕ → ℕ → ℕ
u32_at s at = get_or s at 0 + 256 * get_or s (at + 1) 0 + 65536 * get_or s (at + 2) 0 + 16777216 * get_or s (at + 3) 0

-- Eight bytes, the least first: the bit pattern of a float.
unfoldable pub u64_at : List ℕ → ℕ → ℕ
unfolding u32_at
u64_at s at = u32_at s at + 4294967296 * u32_at s (at + 4)
