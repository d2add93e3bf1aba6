-- What the writer's private functions hold: what a book says beside its table, and the table's words.
-- Assumes nothing.
use Rattle.std.specs.Prelude.{ℕ, List, []}
use Rattle.book.specs.Layout.{Content}
use Rattle.book.specs.declared.reading.Book.{Book}

-- what a book says with these words
abbrev pub said : Book → List ℕ → Content
said b words = record { m = b.m; n = b.n; verdict = b.verdict; more = []; table = words }
