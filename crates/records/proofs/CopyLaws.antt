-- A copy of tasks a row at a time, where a count of 97 stands for more than 96: what the search of it answers is what is answered.
-- It is another way to the same words, beside `flat_words` of the code. Assumes nothing.
use Rattle.std.specs.Prelude.{ℕ, ◌+◌, ◌*◌, ◌≤◌, ◌<◌, ◌≡◌, Bool, true, false, cond, List, [], ◌∷◌, ◌++◌, leb, ltb, length, get_or, set, take, drop, replicate}
use Rattle.std.proofs.Common.{sym, ap, ◌∙◌, append_assoc, append-nil, add-one, drop-cons, arith, ltb-true, ltb-false, lt-ltb, le-ltb, leb-true, leb-false, le-leb}
use Rattle.std.proofs.Math.ListN.{length-set}
use Rattle.std.proofs.Math.Logic.{⊎_elim}
use Rattle.std.proofs.Math.Nat.{zero-add}
use Rattle.std.proofs.Math.Path.{refl}
use Rattle.std.proofs.Math.Seq.{drop-length}
use Rattle.std.proofs.lemmas.List.{length-replicate}
use Rattle.std.proofs.lemmas.Bool.{lt-leb}
use Rattle.sets.specs.BoolLaws.{either}
use Rattle.rows.specs.Board.{limited}
use Rattle.rows.specs.Numbers.{table_length}
use Rattle.search.specs.Answers.{refusal, found_of, written_of}
use Rattle.search.specs.declared.call.Found.{Found}
use Rattle.records.specs.declared.Task.{Task}
use Rattle.records.specs.Records.{flat}
use Rattle.records.proofs.RecordsLaws.{take_three, flat_refused, flat_written}

-- tasks copied to flat words, a row each; rows is 97 where there are more than 96
pub record Flat : Type 0 where
  pub words : List ℕ
  pub rows : ℕ

-- stands for a task past the last
abbrev pub no_task : Task
no_task = record { c = 0; d = 0; t = 0 }

unfoldable pub no_rows : Flat
no_rows = record { words = replicate 288 0; rows = 0 }

-- one row more; 97 stands for more than 96
unfoldable pub add : Flat → Task → Flat
add table task =
    cond (leb 96 table.rows) (record { words = table.words; rows = 97 })
    (record {
      words =
          set (set (set table.words (3 * table.rows) task.c) (3 * table.rows + 1) task.d) (3 * table.rows + 2) task.t;
      rows = table.rows + 1;
    })

-- each task as a row more
unfoldable pub add_all : Flat → List Task → Flat
add_all table [] = table
add_all table (task ∷ tasks) = add_all (add table task) tasks

abbrev pub copy_of : List Task → Flat
copy_of tasks = add_all no_rows tasks

-- the words of the rows
abbrev pub words_of : Flat → List ℕ
words_of table = take (3 * table.rows) table.words

-- the answer and the output afterwards: more than 96 rows are refused, else those of the search
unfoldable pub found_in : Flat → ℕ → ℕ → Found
found_in table m room = cond (ltb 96 table.rows) (refusal table_length 0) (found_of (words_of table) (limited m) room)

unfoldable pub written_in : Flat → ℕ → List ℕ → List ℕ
written_in table m out = cond (ltb 96 table.rows) out (written_of (words_of table) (limited m) out)

-- ---- the copy, row by row

-- a turn of the copy, and its end
pub add_next : (table : Flat) (tasks : List Task) (i : ℕ) → i < length tasks
    → add_all table (drop i tasks) ≡ add_all (add table (get_or tasks i no_task)) (drop (i + 1) tasks)
unfolding add_all
add_next table tasks i h = rw (add-one, drop-cons tasks i no_task h) refl

pub add_end : (table : Flat) (tasks : List Task) → add_all table (drop (length tasks) tasks) ≡ table
unfolding add_all
add_end table tasks = rw drop-length refl

-- where the table has 96 rows, 97 stands for one more
add_full : (table : Flat) (task : Task) → 96 ≤ table.rows → (add table task).rows ≡ 97
unfolding add
add_full table task h = rw (le-leb 96 table.rows h) refl

-- else one more is counted, and its words stand behind the others
module _ (table : Flat) (task : Task) (h : table.rows < 96) where
  add_count : (add table task).rows ≡ table.rows + 1
  unfolding add
  add_count = rw (lt-leb 96 table.rows h) refl

  module _ (l : length table.words ≡ 288) where
    add_length : length (add table task).words ≡ 288
    unfolding add
    add_length = rw (lt-leb 96 table.rows h) (simp length-set l)

    add_words : words_of (add table task) ≡ words_of table ++ flat (task ∷ [])
    unfolding add flat
    add_words =
        let three : 3 * (table.rows + 1) ≡ 3 * table.rows + 3 = omega arith in
        rw (lt-leb 96 table.rows h, three) (take_three table.words (3 * table.rows) task.c task.d task.t (omega arith))

-- ---- the copy

-- at most 96 rows: all are counted, and their words stand behind the others
record Adds (table : Flat) (tasks : List Task) : Type 0 where
  rows : (add_all table tasks).rows ≡ table.rows + length tasks
  words : words_of (add_all table tasks) ≡ words_of table ++ flat tasks

add_all_lem : (table : Flat) (tasks : List Task) → length table.words ≡ 288 → table.rows + length tasks ≤ 96 → Adds table tasks
unfolding add_all flat
add_all_lem table [] l h = record { rows = omega arith; words = sym (append-nil (words_of table)) }
add_all_lem table (task ∷ tasks) l h =
    let room : table.rows < 96 = omega (arith, h) in
    let one = add_count table task room in
    let rest = add_all_lem (add table task) tasks (add_length table task room l) (omega (arith, h, one)) in
    record {
      rows = omega (arith, rest.rows, one);
      words =
          rest.words ∙ ap (λ (l : List ℕ). l ++ flat tasks) (add_words table task room l)
          ∙ append_assoc (words_of table) (flat (task ∷ [])) (flat tasks);
    }

-- more than 96: the count says so
add_many : (table : Flat) (tasks : List Task) → 96 < table.rows + length tasks → 96 < (add_all table tasks).rows
unfolding add_all
add_many table [] h = omega (arith, h)
add_many table (task ∷ tasks) h =
    ⊎_elim
    (λ (e : leb 96 table.rows ≡ true).
    add_many (add table task) tasks (omega (arith, add_full table task (leb-true 96 table.rows e))))
    (λ (e : leb 96 table.rows ≡ false).
    add_many (add table task) tasks (omega (arith, h, add_count table task (leb-false 96 table.rows e))))
    (either (leb 96 table.rows))

-- the copy of at most 96 tasks begins with their flat words
module _ (tasks : List Task) (h : length tasks ≤ 96) where
  copy_adds : Adds no_rows tasks
  unfolding no_rows
  copy_adds = add_all_lem no_rows tasks (length-replicate {A = ℕ} 288 0) (omega (arith, h))

  pub copy_rows : (copy_of tasks).rows ≡ length tasks
  unfolding no_rows
  copy_rows = simp zero-add at copy_adds.rows

  pub copy_words : take (3 * length tasks) (copy_of tasks).words ≡ flat tasks
  unfolding no_rows
  copy_words = rw copy_rows at copy_adds.words

pub copy_many : (tasks : List Task) → 96 < length tasks → 96 < (copy_of tasks).rows
unfolding no_rows
copy_many tasks h = add_many no_rows tasks (omega (arith, h))

-- ---- the answers are those of the flat words

module _ (tasks : List Task) (m : ℕ) where
  pub found_copy : (room : ℕ) → found_in (copy_of tasks) m room ≡ found_of (flat tasks) (limited m) room
  unfolding found_in
  found_copy room =
      ⊎_elim
      (λ (e : ltb 96 (length tasks) ≡ true).
      let many = ltb-true 96 (length tasks) e in
      rw (lt-ltb 96 (copy_of tasks).rows (copy_many tasks many), flat_refused tasks m many room) refl)
      (λ (e : ltb 96 (length tasks) ≡ false).
      let few = ltb-false 96 (length tasks) e in
      rw (copy_rows tasks few, le-ltb 96 (length tasks) few, copy_words tasks few) refl)
      (either (ltb 96 (length tasks)))

  pub written_copy : (out : List ℕ) → written_in (copy_of tasks) m out ≡ written_of (flat tasks) (limited m) out
  unfolding written_in
  written_copy out =
      ⊎_elim
      (λ (e : ltb 96 (length tasks) ≡ true).
      let many = ltb-true 96 (length tasks) e in
      rw (lt-ltb 96 (copy_of tasks).rows (copy_many tasks many), flat_written tasks m many out) refl)
      (λ (e : ltb 96 (length tasks) ≡ false).
      let few = ltb-false 96 (length tasks) e in
      rw (copy_rows tasks few, le-ltb 96 (length tasks) few, copy_words tasks few) refl)
      (either (ltb 96 (length tasks)))
