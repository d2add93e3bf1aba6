-- The answers of reading and writing in the numbers of document 01.
-- Assumes nothing.
use Rattle.std.specs.Prelude.{Result, Ok, Err}
use Rattle.rows.specs.Numbers.{done}
use Rattle.rows.specs.Refusals.{refusal_number, refusal_row, refusal_block}
use Rattle.rows.specs.declared.refusal.Refusal.{Refusal}
use Rattle.book.specs.Read.{BookRead, no_verdict}
use Rattle.book.specs.Write.{BookWritten}
use Rattle.book.specs.declared.reading.Book.{Book}

abbrev pub told_read : Result Book Refusal → BookRead
told_read (Ok book) =
    record { number = done; row = 0; block = 0; m = book.m; n = book.n; verdict = book.verdict }
told_read (Err refusal) = record {
  number = refusal_number refusal;
  row = refusal_row refusal;
  block = refusal_block refusal;
  m = 0;
  n = 0;
  verdict = no_verdict;
}

abbrev pub told_write : Result (Unit {0}) Refusal → BookWritten
told_write (Ok _) = record { number = done; row = 0 }
told_write (Err refusal) = record { number = refusal_number refusal; row = refusal_row refusal }
