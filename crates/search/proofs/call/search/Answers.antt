-- Each answer is the law of the check that decides it: those of the table, then the output's length, then how the search of all levels ended.
-- The demands are met by whatever the definitions answer, so each return has them from its own two equations. Assumes nothing.
use Rattle.std.proofs.Common.{ℕ, ◌<◌, ◌≡◌, List, ◌++◌, length, drop, refl, sym, ap, arith}
use Rattle.std.proofs.lemmas.Result.{err_from_is_err_and}
use Rattle.rows.specs.Numbers.{done}
use Rattle.rows.specs.Table.{Checked, row_count}
use Rattle.rows.proofs.TableLaws.{row_count_most}
use Rattle.rows.proofs.RefusalLaws.{refused_not_done}
use Rattle.rows.specs.Board.{board_of, limited}
use Rattle.rows.specs.declared.terms.Terms.{Terms}
use Rattle.search.specs.Answers.{placed_of, found_of, written_of, Demanded}
use Rattle.search.specs.StateLaws.{take_order}
use Rattle.search.specs.EndedLaws.{Searches, ended_all}
use Rattle.search.proofs.CallLaws.{placed_most, found_short, found_blocked, found_done, written_same, written_order, found_demanded}
use Rattle.search.proofs.ToldLaws.{search_told_refused}
use Rattle.search.specs.declared.call.Found.{Found}
use Rattle.search.proofs.call.search.Goals as goal
use Rattle.search.proofs.call.search.Goals.{After-place_rows}

module _ (words : List ℕ) (terms : Terms) (out : List ℕ) (r : Found) (e : r ≡ found_of words terms (length out)) where
  -- what the contract says of the answer and the output afterwards
  abbrev Meets : List ℕ → Type 0
  Meets after =
      record {
        value : r ≡ found_of words terms (length out);
        out_after : after ≡ written_of words terms out;
        demanded : Demanded (board_of words terms) r after;
      }

  meets : (after : List ℕ) → after ≡ written_of words terms out → Meets after
  meets after w = record { value = e; out_after = w; demanded = rw (e, w) (found_demanded words terms out) }

  -- any number but 0 leaves the output as it was
  kept : (r.number ≡ done → ⊥) → Meets out
  kept h = meets out (sym (written_same words terms out (rw e at h)))

  -- 0 comes with the order
  stored : r.number ≡ done → Meets (placed_of (board_of words terms) ++ drop (row_count words) out)
  stored h = meets _ (sym (written_order words terms out (rw e at h)))

pub returns-in_err-check_table : goal.returns-in_err-check_table
returns-in_err-check_table c =
    let p = err_from_is_err_and c.from_residual.result c.from_residual.ensures.1 in
    rw (p.1, p.2) (kept _ (limited c.args.m) _ _ (search_told_refused _ _ _ c.in_err-check_table.ensures _) (refused_not_done _))

pub returns-then-out-n : goal.returns-then-out-n
returns-then-out-n c =
    let passed = sym (ap (λ (f : Checked). f.number) c.in_ok-check_table.ensures) in
    let short = rw c.row_count-n.ensures at c.if-out-n.true in
    kept _ (limited c.args.m) _ _ (sym (found_short _ _ _ passed short)) (λ z. omega arith)

pub place_rows-requires : goal.place_rows-requires
place_rows-requires c = rw c.before-end.ensures refl

-- where the search of all rows ended
ended : (c : After-place_rows) → Searches (board_of c.args.words.now (limited c.args.m)) c.place_rows.new.end
ended c =
    let board = c.limited.ensures in
    ended_all _ (row_count_most _) _
    (rw (board.words, board.terms, c.before-end.ensures, c.below.ensures, c.row_count-n.ensures) at c.place_rows.ensures)

pub returns-then-end-n : goal.returns-then-end-n
returns-then-end-n c =
    let at = (goal.at.returns-then-end-n c).After-place_rows in
    let end = ended at in
    let some : length (placed_of (board_of c.args.words.now (limited c.args.m))) < row_count c.args.words.now = omega (arith, end.placed, c.row_count-n.ensures) in
    let fits = rw c.row_count-n.ensures at c.if-out-n.false in
    let passed = sym (ap (λ (f : Checked). f.number) c.in_ok-check_table.ensures) in
    rw (end.unplaced, end.made)
    (kept _ (limited c.args.m) _ _ (sym (found_blocked _ _ _ passed fits some)) (λ z. omega arith))

pub returns : goal.returns
returns c =
    let at = (goal.at.returns c).After-place_rows in
    let end = ended at in
    let b = board_of c.args.words.now (limited c.args.m) in
    let all : length (placed_of b) ≡ row_count c.args.words.now = omega (arith, end.placed, c.row_count-n.ensures, placed_most b, c.if-end-n.false) in
    let fits = rw c.row_count-n.ensures at c.if-out-n.false in
    let passed = sym (ap (λ (f : Checked). f.number) c.in_ok-check_table.ensures) in
    rw (end.made, c.copy_from_slice.ensures.after, end.order, c.row_count-n.ensures, take_order _ _ all)
    (stored _ (limited c.args.m) _ _ (sym (found_done _ _ _ passed fits all)) refl)
