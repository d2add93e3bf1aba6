-- What the elements of a list are, whatever else its buffer holds.
-- Assumes nothing.
use Rattle.std.specs.Prelude.{ℕ, List, take}
use Rattle.wire.specs.declared.lists.Words.{Words}
use Rattle.wire.specs.declared.lists.Bytes.{Bytes}

abbrev pub words_of : Words → List ℕ
words_of list = take list.n list.words

abbrev pub bytes_of : Bytes → List ℕ
bytes_of list = take list.n list.bytes
