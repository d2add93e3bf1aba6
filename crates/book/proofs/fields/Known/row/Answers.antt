-- The three words of the row are those where the table's words stand, and rows' own function reads them as a row.
-- So it reads them as the row of the table. Assumes nothing.
use Rattle.std.proofs.Common.{ℕ, ◌+◌, ◌*◌, ◌≡◌, ◌∙◌, arith, get_or, add-zero}
use Rattle.book.specs.ByteLaws.{run_at}
use Rattle.book.specs.Layout.{edition_one}
use Rattle.book.specs.Read.{word_at}
use Rattle.book.proofs.ReadLaws.{table_at, read_ext}
use Rattle.book.proofs.fields.Known.row.Goals as goal

pub returns : goal.returns
returns c = let b = c.args.self.now.bytes.now in
    let i = c.args.i in
    let f : ℕ → ℕ = word_at edition_one b in
    let count : c.args.self.now.n ≡ get_or b 4 0 = c.args.self.now.headed.count in
    c.read_row.ensures
    ∙ read_ext _ _ 0 i
    (rw (
      table_at edition_one b (3 * i) (omega arith),
      table_at edition_one b (3 * i + 1) (omega arith),
      table_at edition_one b (3 * i + 2) (omega arith),
      c.row_words.ensures,
      run_at (3 * i) 3 f 0 (omega arith),
      run_at (3 * i) 3 f 1 (omega arith),
      run_at (3 * i) 3 f 2 (omega arith),
      add-zero (3 * i),
    ))
