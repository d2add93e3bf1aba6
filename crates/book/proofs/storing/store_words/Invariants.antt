-- The loop's invariant: the words so far are stored, four bytes each.
-- A turn stores the next. Assumes nothing.
use Rattle.std.specs.Prelude.{ℕ, ◌-◌, ◌*◌, ◌/◌, ◌%◌, ◌≡◌, List, get_or}
use Rattle.book.specs.Bytes.{byte}
use Rattle.book.specs.Parts.{stored}
use Rattle.book.proofs.storing.store_words.Given as goal

-- byte q of the words
abbrev pub word_byte : List ℕ → ℕ → ℕ
word_byte words q = byte (3 - q % 4) (get_or words (q / 4) 0)

abbrev pub invariant-loop-j : goal.invariant-loop-j
invariant-loop-j l = l.block ≡ stored 2 (4 * l.j) (word_byte l.words) l.initial.block
