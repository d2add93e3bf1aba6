-- The bytes of an answer's parts, high byte first.
-- Assumes nothing.
use Rattle.std.specs.Prelude.{ℕ, List, ◌++◌, Bool, true, false}
use Rattle.std.specs.List.{flat_map}
use Rattle.std.specs.Int.{w32, w64, to_be_bytes}
use Rattle.sets.specs.declared.Set.{Set}

-- a number is eight bytes, whatever its type
unfoldable pub number_bytes : ℕ → List ℕ
number_bytes n = to_be_bytes w64 n

-- yes is 1 and no is 0
abbrev pub flag_bytes : Bool → List ℕ
flag_bytes true = number_bytes 1
flag_bytes false = number_bytes 0

abbrev pub set_bytes : Set → List ℕ
set_bytes set = number_bytes set.low ++ number_bytes set.high

-- a word of a list is four bytes
abbrev pub words_bytes : List ℕ → List ℕ
words_bytes words = flat_map (to_be_bytes w32) words
