-- A fault gives its refusal, and the words stay as they were.
-- Where there is none the table's words are stored, and the other parts are read where they stand. Assumes nothing.
use Rattle.std.proofs.Common.{rules, length, get_or, ◌≡◌, sym, ◌∙◌, Err, arith}
use Rattle.book.specs.Fault.{Clear, fault_of}
use Rattle.book.specs.FaultLaws.{clear_passed}
use Rattle.book.specs.Layout.{edition_one}
use Rattle.book.specs.Read.{content, read_checks}
use Rattle.book.proofs.ReadLaws.{readable, outer_fault, body_fault, read_refused, into_refused, read_taken, into_taken}
use Rattle.book.proofs.ToldLaws.{told_refused}
use Rattle.book.proofs.reading.read.Goals as goal
use Rattle.book.proofs.reading.read.Goals.{In_ok-check_body}

pub returns-in_err-known : goal.returns-in_err-known
returns-in_err-known c =
    let b = c.args.book.now in
    let words = c.args.words.now in
    let same : c.from_residual.result ≡ Err c.in_err-known.field-0.0 = search rules in
    let fault = outer_fault b _ _ _ (sym c.in_err-known.ensures.fault) in
    record {
      answer = rw same (told_refused _ ∙ sym (read_refused b _ _ _ fault));
      table = sym (into_refused b words _ _ fault);
    }

pub returns-in_err-check_body : goal.returns-in_err-check_body
returns-in_err-check_body c =
    let b = c.args.book.now in
    let words = c.args.words.now in
    let same : c.from_residual-in_err-check_body.result ≡ Err c.in_err-check_body.field-0.0 = search rules in
    let fault = body_fault b _ (sym c.in_ok-known.ensures.fault) ∙ sym (rw c.in_ok-known.ensures.lent at c.in_err-check_body.ensures) in
    record {
      answer = rw same (told_refused _ ∙ sym (read_refused b _ _ _ fault));
      table = sym (into_refused b words _ _ fault);
    }

-- where no check has failed
clear : (c : In_ok-check_body) → fault_of (read_checks edition_one c.args.book.now (length c.args.words.now)) ≡ Clear
clear c = body_fault c.args.book.now _ (sym c.in_ok-known.ensures.fault) ∙ sym (rw c.in_ok-known.ensures.lent at c.in_ok-check_body.ensures)

count : (c : In_ok-check_body) → c.in_ok-known.known.n ≡ get_or c.args.book.now 4 0
count c = rw c.in_ok-known.ensures.lent at c.in_ok-known.known.headed.count

pub store_words-requires : goal.store_words-requires
store_words-requires c =
    let t = (goal.at.store_words-requires c).In_ok-check_body in
    omega (arith, count t, (readable _ _ (clear_passed _ (clear t))).space)

pub returns : goal.returns
unfolding content
returns c =
    let b = c.args.book.now in
    let t = (goal.at.returns c).In_ok-check_body in
    record {
      answer = rw (c.m.ensures, count t, c.verdict.ensures, c.in_ok-known.ensures.lent) (sym (read_taken b _ (clear t)));
      table = c.store_words.ensures ∙ rw (count t, c.in_ok-known.ensures.lent) (sym (into_taken b c.args.words.now (clear t)));
    }
