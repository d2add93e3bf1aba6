-- The checks are made in the order of the definition's list, and the first that fails gives the answer.
-- Each return is the law of the check that led there. Assumes nothing.
use Rattle.std.specs.Prelude.{ℕ, ◌/◌, ◌%◌, ◌≡◌, ◌≤◌, true, eqb, leb, List, length}
use Rattle.std.proofs.Common.{sym, ◌∙◌, inl, inr, eq-eqb, ne_eqb, le-leb}
use Rattle.std.proofs.lemmas.Bool.{lt-leb}
use Rattle.sets.specs.BoolLaws.{and_in, and_fails}
use Rattle.sets.specs.SumLaws.{some_below_some, some_below_none}
use Rattle.rows.proofs.TableLaws.{well_sized, some_cores, fault_length, fault_cores, fault_row, fault_none}
use Rattle.rows.proofs.table.check_table.Goals as goal
use Rattle.rows.proofs.table.check_table.Goals.{then-words-ne0-via-then-words-ne0, then-words-ne0-via-else-words-ne0+then-n-gt96, then-m-lt1-via-then-m-lt1, then-m-lt1-via-else-m-lt1+then-m-gt32}

-- where check 1 has passed
sized : (words : List ℕ) → length words % 3 ≡ 0 → length words / 3 ≤ 96 → well_sized words ≡ true
sized words e l = and_in (eqb (length words % 3) 0) (leb (length words / 3) 96) (eq-eqb _ _ e) (le-leb _ _ l)

-- where check 2 has passed
cored : (m : ℕ) → 1 ≤ m → m ≤ 32 → some_cores m ≡ true
cored m low high = and_in (leb 1 m) (leb m 32) (le-leb _ _ low) (le-leb _ _ high)

pub returns-then-words-ne0 : goal.returns-then-words-ne0
returns-then-words-ne0 c =
    let words = c.args.words.now in
    sym
    (fault_length words _
    (and_fails (eqb (length words % 3) 0) (leb (length words / 3) 96)
    (elim c.then-words-ne0.branch [
      | then-words-ne0-via-then-words-ne0 w ↦ inl (ne_eqb _ _ w.if-words-ne0.true)
      | then-words-ne0-via-else-words-ne0+then-n-gt96 w ↦ inr (lt-leb _ _ w.if-n-gt96.true)
    ])))

pub returns-then-m-lt1 : goal.returns-then-m-lt1
returns-then-m-lt1 c =
    let m = c.args.m in
    sym
    (fault_cores _ m (sized _ c.if-words-ne0.false c.if-n-gt96.false)
    (and_fails (leb 1 m) (leb m 32)
    (elim c.then-m-lt1.branch [
      | then-m-lt1-via-then-m-lt1 w ↦ inl (lt-leb _ _ w.if-m-lt1.true)
      | then-m-lt1-via-else-m-lt1+then-m-gt32 w ↦ inr (lt-leb _ _ w.if-m-gt32.true)
    ])))

pub returns-in-Some : goal.returns-in-Some
returns-in-Some c =
    let words = c.args.words.now in
    let lowest = some_below_some _ _ (sym c.first_fault.ensures ∙ c.in-Some.is) in
    rw lowest.0
    (sym (fault_row _ _ (sized _ c.if-words-ne0.false c.if-n-gt96.false) (cored _ c.if-m-lt1.false c.if-m-gt32.false) lowest.1))

pub returns-in-None : goal.returns-in-None
returns-in-None c =
    sym
    (fault_none _ _ (sized _ c.if-words-ne0.false c.if-n-gt96.false) (cored _ c.if-m-lt1.false c.if-m-gt32.false)
    (some_below_none _ _ (sym c.first_fault.ensures ∙ c.in-None.is)))
