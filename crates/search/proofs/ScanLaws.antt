-- Laws of a scan of the rows left, row by row, for the first that passes.
-- Assumes nothing.
use Rattle.std.specs.Prelude.{ℕ, suc, ◌+◌, ◌<◌, ◌≤◌, ◌≡◌, min, Bool, true, false, Option, Some, None, List}
use Rattle.std.proofs.Common.{refl, sym, arith}
use Rattle.std.proofs.Math.Nat.{sub-zero}
use Rattle.sets.specs.BoolLaws.{and_left}
use Rattle.sets.specs.NumberLaws.{below_next}
use Rattle.sets.specs.Sums.{count, some_below}
use Rattle.sets.specs.SumLaws.{count_le, first_is, some_below_some, some_below_none, some_below_only}
use Rattle.sets.specs.RowsLaws.{Walk}
use Rattle.sets.specs.Sets.{has, without_row}
use Rattle.sets.specs.declared.Set.{Set}
use Rattle.rows.specs.Board.{Board}
use Rattle.test.specs.Test.{passes}
use Rattle.search.specs.Answers.{passing, first_passing}
use Rattle.search.specs.Tally.{IsLeft}
use Rattle.search.specs.TestOfLaws.{test_without}

-- what the turn of a walk tells, whatever the place
pub walk_told : {H : ℕ → Bool} {n : ℕ} {X : Type 0} {left : List ℕ} → Walk H n (λ _. X) left → X
walk_told w = w.passed

-- what a scan answers
pub record Scanned (b : Board) (left : Set) (found : Option ℕ) (tests : ℕ) : Type 0 where
  pub row : found ≡ some_below (first_passing b left) b.n
  pub made : tests ≡ count (min (suc (first_passing b left)) b.n) (has left)

-- A scan has come to row i after so many tests: no row before it passes, and those of them that are left have been tested.
pub record Scans (b : Board) (left : Set) (tests i : ℕ) : Type 0 where
  pub none : (j : ℕ) → j < i → passing (passes b) (has left) j ≡ false
  pub made : tests ≡ count i (has left)

pub scans_start : (b : Board) (left : Set) → Scans b left 0 0
scans_start b left = record { none = λ j l. absurd (omega arith); made = refl }

pub scans_few : {b : Board} {left : Set} {tests i : ℕ} → Scans b left tests i → tests ≤ i
scans_few {left = left} {i = i} S = omega (arith, S.made, count_le i (has left))

-- a row that is not left is passed over
pub scans_skip : (b : Board) (left : Set) (tests i : ℕ) → has left i ≡ false → Scans b left tests i → Scans b left tests (suc i)
scans_skip b left tests i off S =
    record {
      none = below_next (λ j. passing (passes b) (has left) j ≡ false) i S.none (rw off refl);
      made = rw off (omega (arith, S.made));
    }

-- one that is left is tested
module _ {b : Board} {left : Set} {tests i : ℕ} (most : b.n ≤ 96) (l : i < b.n) (member : has left i ≡ true) (S : Scans b left tests i) where
  pub scans_failed : passes b (has (without_row left i)) i ≡ false → Scans b left (tests + 1) (suc i)
  scans_failed fails =
      record {
        none = below_next (λ j. passing (passes b) (has left) j ≡ false) i S.none (rw (member, ← test_without b most left i) fails);
        made = rw member (omega (arith, S.made));
      }

  -- and where it passes the scan ends
  module _ (pass : passes b (has (without_row left i)) i ≡ true) where
    found : Some i ≡ some_below (first_passing b left) b.n
    found =
        rw sub-zero at
        (some_below_only (passing (passes b) (has left)) 0 b.n (Some i)
        (omega arith, l, rw (member, ← test_without b most left i) pass, λ j _ q. S.none j q))

    pub scans_found : Scanned b left (Some i) (tests + 1)
    scans_found =
        let is = some_below_some (first_passing b left) b.n (sym found) in
        let last : min (suc (first_passing b left)) b.n ≡ suc i = omega (arith, is.0, is.1) in
        record { row = found; made = rw (last, member) (omega (arith, S.made)) }

-- none has passed
pub scans_none : {b : Board} {left : Set} {tests : ℕ} → Scans b left tests b.n → Scanned b left None tests
scans_none {b} {left} S =
    let none : None ≡ some_below (first_passing b left) b.n =
    rw sub-zero at (some_below_only (passing (passes b) (has left)) 0 b.n None (λ j _ q. S.none j q))
    in
    let all : min (suc (first_passing b left)) b.n ≡ b.n = omega (arith, some_below_none (first_passing b left) b.n (sym none)) in
    record { row = none; made = rw all S.made }

-- a row that a scan has found is one of the table's, and of those left
pub passing_found : (b : Board) (left : Set) {k : ℕ} → some_below (first_passing b left) b.n ≡ Some k → IsLeft b.n left k
passing_found b left {k} e =
    let P = passing (passes b) (has left) in
    let is = some_below_some (first_passing b left) b.n e in
    let pass : P (first_passing b left) ≡ true = (first_is P b.n 0).found (omega (arith, is.1)) in
    (omega (arith, is.0, is.1), rw is.0 (and_left (has left (first_passing b left)) _ pass))

-- and a scan makes at most one test of each row
pub passing_few : (b : Board) (left : Set) (tests : ℕ) → tests ≡ count (min (suc (first_passing b left)) b.n) (has left) → tests ≤ b.n
passing_few b left tests e = omega (arith, count_le (min (suc (first_passing b left)) b.n) (has left))
