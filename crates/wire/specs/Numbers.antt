-- The numbers among the bytes of a case, high byte first.
-- Assumes nothing.
use Rattle.std.specs.Prelude.{ℕ, ◌+◌, ◌-◌, min, List, length, take, drop, slice_index}
use Rattle.std.specs.Int.{w32, w64, from_be_bytes}
use Rattle.sets.specs.declared.Set.{Set}

-- where n bytes are read: at a place, or where there are not so many behind it, the last place that has them
abbrev pub place_of : ℕ → List ℕ → ℕ → ℕ
place_of n bytes at = min at (length bytes - n)

abbrev pub part_at : ℕ → List ℕ → ℕ → List ℕ
part_at n bytes at = take n (drop (place_of n bytes at) bytes)

abbrev pub byte_at : List ℕ → ℕ → ℕ
byte_at bytes at = slice_index bytes (place_of 1 bytes at)

abbrev pub word_at : List ℕ → ℕ → ℕ
word_at bytes at = from_be_bytes w32 (part_at 4 bytes at)

abbrev pub long_at : List ℕ → ℕ → ℕ
long_at bytes at = from_be_bytes w64 (part_at 8 bytes at)

-- the low half of a set stands before its high half
abbrev pub set_at : List ℕ → ℕ → Set
set_at bytes at =
    let low = place_of 16 bytes at in
    record { low = long_at bytes low; high = long_at bytes (low + 8) }
