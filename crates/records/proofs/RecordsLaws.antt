-- Laws of tasks as records: their flat words, row by row, and that more than 96 of them are refused.
-- Assumes nothing.
use Rattle.std.specs.Prelude.{ℕ, zero, suc, ◌+◌, ◌*◌, ◌/◌, ◌%◌, ◌≤◌, ◌<◌, ◌≡◌, refl, List, [], ◌∷◌, ◌++◌, leb, eqb, length, get_or, set, take}
use Rattle.std.proofs.Common.{ap, ◌∙◌, inr, arith}
use Rattle.std.proofs.Math.Numerals.{unary_clauses}
use Rattle.std.proofs.lemmas.List.{take_more}
use Rattle.std.proofs.lemmas.Bool.{lt-leb}
use Rattle.sets.specs.BoolLaws.{and_fails}
use Rattle.rows.specs.Board.{limited}
use Rattle.rows.specs.Numbers.{table_length}
use Rattle.rows.specs.Table.{Checked, table_fault}
use Rattle.rows.proofs.TableLaws.{fault_length}
use Rattle.search.specs.Answers.{refusal, found_of, written_of}
use Rattle.search.proofs.CallLaws.{found_refused, written_same}
use Rattle.search.specs.declared.call.Found.{Found}
use Rattle.records.specs.declared.Task.{Task}
use Rattle.records.specs.Records.{flat}

-- ---- the flat words

pub flat_length : (tasks : List Task) → length (flat tasks) ≡ 3 * length tasks
unfolding flat
flat_length [] = refl
flat_length (task ∷ tasks) = omega (arith, flat_length tasks)

-- more than 96 tasks are refused, and nothing is stored
module _ (tasks : List Task) (m : ℕ) (h : 96 < length tasks) where
  flat_fault : table_fault (flat tasks) m ≡ record { number = table_length; row = 0 }
  flat_fault =
      let many : 96 < length (flat tasks) / 3 = omega (arith, flat_length tasks) in
      fault_length (flat tasks) m
      (and_fails (eqb (length (flat tasks) % 3) 0) (leb (length (flat tasks) / 3) 96) (inr (lt-leb (length (flat tasks) / 3) 96 many)))

  pub flat_refused : (room : ℕ) → found_of (flat tasks) (limited m) room ≡ refusal table_length 0
  flat_refused room =
      found_refused (flat tasks) (limited m) room (λ e. let z = ap (λ (r : Checked). r.number) flat_fault in absurd (omega arith))
      ∙ ap (λ (r : Checked). refusal r.number r.row) flat_fault

  pub flat_written : (out : List ℕ) → written_of (flat tasks) (limited m) out ≡ out
  flat_written out =
      written_same (flat tasks) (limited m) out (λ e. let z = ap (λ (r : Found). r.number) (flat_refused (length out)) in absurd (omega arith))

-- ---- row by row

-- three words stored behind the first n
pub take_three : (words : List ℕ) (n c d t : ℕ) → n + 3 ≤ length words
    → take (n + 3) (set (set (set words n c) (n + 1) d) (n + 2) t) ≡ take n words ++ (c ∷ d ∷ t ∷ [])
take_three [] n c d t h = absurd (omega (arith, h))
take_three (x ∷ []) zero c d t h = absurd (omega (arith, h))
take_three (x ∷ y ∷ []) zero c d t h = absurd (omega (arith, h))
take_three (x ∷ y ∷ z ∷ words) zero c d t h = refl
take_three (x ∷ words) (suc n) c d t h =
    simp unary_clauses (ap (λ (l : List ℕ). x ∷ l) (simp unary_clauses at (take_three words n c d t (omega (arith, h)))))

flat_append : (tasks more : List Task) → flat (tasks ++ more) ≡ flat tasks ++ flat more
unfolding flat
flat_append [] more = refl
flat_append (task ∷ tasks) more = ap (λ (l : List ℕ). task.c ∷ task.d ∷ task.t ∷ l) (flat_append tasks more)

-- where the first words are the flat words of the first tasks, so they are with those of the next task stored behind them
pub flat_next : (words : List ℕ) (tasks : List Task) (row : ℕ) (none : Task) → 3 * row + 3 ≤ length words → row < length tasks
    → take (3 * row) words ≡ flat (take row tasks)
    → (let task = get_or tasks row none in
    take (3 * (row + 1)) (set (set (set words (3 * row) task.c) (3 * row + 1) task.d) (3 * row + 2) task.t) ≡ flat (take (row + 1) tasks))
unfolding flat
flat_next words tasks row none room h e =
    let three : 3 * (row + 1) ≡ 3 * row + 3 = omega arith in
    rw (three, take_more tasks row none h, flat_append, ← e) (take_three words (3 * row) _ _ _ room)
