-- A refusal of reading and a short output end the call with nothing written, in the order of the definition's checks.
-- Else the first 3n of the words read are the book's table, which is fair, and what the search of it writes is the definition's output. Assumes nothing.
use Rattle.std.specs.Prelude.{refl, Ok}
use Rattle.std.proofs.Common.{sym, ap, ◌∙◌, arith, length-take-le}
use Rattle.std.proofs.lemmas.Result.{err_from_is_err_and}
use Rattle.rows.proofs.RefusalLaws.{refused_not_done}
use Rattle.search.specs.declared.call.Found.{Found}
use Rattle.book.specs.Read.{BookRead}
use Rattle.book.specs.Told.{told_read}
use Rattle.book.proofs.BookLaws.{Handed, handed, lent}
use Rattle.host.proofs.HostLaws.{host_refused, host_short, handed_fits, handed_searched}
use Rattle.host.proofs.search_book.Goals as goal
use Rattle.host.proofs.search_book.Goals.{In_ok-read}

handed_over : (c : In_ok-read) → Handed c.args.book.now 288 c.read.new.words (told_read (Ok c.in_ok-read.read))
handed_over c = handed _ lent _ _ c.in_ok-read.ensures.answer c.in_ok-read.ensures.table refl

pub returns-in_err-read : goal.returns-in_err-read
returns-in_err-read c =
    let number = ap (λ (r : BookRead). r.number) c.in_err-read.ensures.answer in
    let refused = host_refused c.args.book.now c.args.out.now (λ z. refused_not_done _ (number ∙ z)) in
    let p = err_from_is_err_and c.from_residual.result c.from_residual.ensures.1 in
    record { number = rw (p.1, p.2) (number ∙ sym refused.0); bytes = sym refused.1 }

pub returns-then-out-book : goal.returns-then-out-book
returns-then-out-book c =
    let read = handed_over (goal.at.returns-then-out-book c).In_ok-read in
    let short = host_short c.args.book.now c.args.out.now read.read c.if-out-book.true in
    record { number = sym short.0; bytes = sym short.1 }

pub overflow_mul-words : goal.overflow_mul-words
overflow_mul-words c = omega (arith, (handed_over (goal.at.overflow_mul-words c).In_ok-read).fits)

pub slice_bounds-words-end : goal.slice_bounds-words-end
slice_bounds-words-end c = omega (arith, (handed_over (goal.at.slice_bounds-words-end c).In_ok-read).fits)

pub slice_bounds-search_into-end : goal.slice_bounds-search_into-end
slice_bounds-search_into-end c =
    sym (length-take-le _ _ (omega (arith, (handed_over (goal.at.slice_bounds-search_into-end c).In_ok-read).fits)))

pub search_into-requires : goal.search_into-requires
search_into-requires c =
    let fits = handed_fits _ _ _ (handed_over (goal.at.search_into-requires c).In_ok-read) _ c.if-out-book.false in
    record { fair = fits.0; room = fits.1 }

pub returns : goal.returns
returns c =
    let read = handed_over (goal.at.returns c).In_ok-read in
    let work = handed_searched _ _ _ read c.args.out.now c.if-out-book.false in
    record {
      number = ap (λ (r : Found). r.number) c.search_into.ensures.answer ∙ work.0;
      bytes = c.search_into.ensures.bytes ∙ work.1;
    }
