-- The checks of the table, the form and the room are made in the order of the definition's list, and each refusal leaves the bytes as they were.
-- Where all pass the book is stored, whose content is the table's. Assumes nothing.
use Rattle.std.proofs.Common.{rules, ◌≡◌, sym, ap, ◌∙◌, Err, arith}
use Rattle.rows.proofs.RefusalLaws.{refused_not_done}
use Rattle.rows.proofs.TableLaws.{row_count_most, passed_valid}
use Rattle.rows.specs.Numbers.{done}
use Rattle.rows.specs.Table.{Checked, table_fault}
use Rattle.book.specs.FormLaws.{formed_kind}
use Rattle.book.specs.Write.{BookWritten}
use Rattle.book.proofs.WriteLaws.{write_table, write_form, write_room, write_done}
use Rattle.book.proofs.writing.write.Goals as goal
use Rattle.book.proofs.writing.write.Goals.{In_ok-check_table}

-- where the table has passed its checks
fair : (c : In_ok-check_table) → (table_fault c.args.words.now c.args.m).number ≡ done
fair c = ap (λ (t : Checked). t.number) (sym c.in_ok-check_table.ensures)

-- the answer that the table's fault gives
abbrev written : Checked → BookWritten
written t = record { number = t.number; row = t.row }

pub returns-in_err-check_table : goal.returns-in_err-check_table
returns-in_err-check_table c =
    let a = c.args in
    let same : c.from_residual.result ≡ Err c.in_err-check_table.field-0.0 = search rules in
    let found = c.in_err-check_table.ensures in
    let refused = write_table a.words.now a.m a.verdict a.out.now (λ e. refused_not_done _ (ap (λ (t : Checked). t.number) found ∙ e)) in
    record { answer = rw same (ap written found ∙ refused.0); bytes = refused.1 }

pub formed-requires : goal.formed-requires
formed-requires c = rw c.row_count-n.ensures (row_count_most c.args.words.now)

pub returns-then-not-formed : goal.returns-then-not-formed
returns-then-not-formed c =
    let a = c.args in
    let wrong = rw c.row_count-n.ensures at (sym c.formed.ensures ∙ c.if-not-formed.true) in
    let refused = write_form a.words.now a.m a.verdict a.out.now (fair (goal.at.returns-then-not-formed c).In_ok-check_table) wrong in
    record { answer = refused.0; bytes = refused.1 }

pub size-requires : goal.size-requires
size-requires c = rw c.row_count-n.ensures (row_count_most c.args.words.now)

pub returns-then-out-size : goal.returns-then-out-size
returns-then-out-size c =
    let a = c.args in
    let right = rw c.row_count-n.ensures at (sym c.formed.ensures ∙ c.if-not-formed.false) in
    let short = rw (c.size.ensures, c.row_count-n.ensures) at c.if-out-size.true in
    let refused = write_room a.words.now a.m a.verdict a.out.now (fair (goal.at.returns-then-out-size c).In_ok-check_table) right short in
    record { answer = refused.0; bytes = refused.1 }

pub store_book-requires : goal.store_book-requires
store_book-requires c =
    let valid = passed_valid c.args.words.now c.args.m (fair (goal.at.store_book-requires c).In_ok-check_table) in
    let kind = formed_kind _ _ (sym c.formed.ensures ∙ c.if-not-formed.false) in
    record {
      fits = (omega (arith, valid.most_cores), omega (arith, c.row_count-n.ensures, row_count_most c.args.words.now), omega arith);
      room = (omega (arith, valid.whole, c.row_count-n.ensures), rw c.size.ensures at c.if-out-size.false);
    }

pub returns : goal.returns
returns c =
    let a = c.args in
    let right = rw c.row_count-n.ensures at (sym c.formed.ensures ∙ c.if-not-formed.false) in
    let room = rw (c.size.ensures, c.row_count-n.ensures) at c.if-out-size.false in
    let stored = write_done a.words.now a.m a.verdict a.out.now (fair (goal.at.returns c).In_ok-check_table) right room in
    record { answer = stored.0; bytes = rw c.row_count-n.ensures at c.store_book.ensures ∙ stored.1 }
