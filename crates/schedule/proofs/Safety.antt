-- What the project's answers mean for schedules: an order that passes at every level is safe, and so is the order that the search finds where it strands no row.
-- Every order has a legal schedule for every pattern of releases and costs, passing or not.
-- Assumes nothing.
use Rattle.std.specs.Prelude.{ℕ, ◌+◌, ◌-◌, ◌≤◌, ◌<◌, ◌≡◌, true, false, List, eqb, length, take}
use Rattle.std.proofs.Common.{sym, ap, ◌∙◌, ⊎_elim, inl, arith, eqb-true}
use Rattle.std.proofs.lemmas.Bool.{eqb-false}
use Rattle.rows.specs.Board.{board, board_of, limited}
use Rattle.sets.specs.BoolLaws.{either}
use Rattle.rows.specs.Numbers.{done}
use Rattle.sets.specs.Sums.{times, on}
use Rattle.rows.specs.Table.{table, row_count, table_fault}
use Rattle.rows.specs.Known.{Ranged, Valid}
use Rattle.rows.proofs.TableLaws.{passed_valid}
use Rattle.rows.specs.declared.table.Row.{Row}
use Rattle.test.specs.Test.{passes}
use Rattle.test.proofs.TestLaws.{passes_antitone}
use Rattle.search.specs.Search.{rows_below, free, search}
use Rattle.search.specs.Demand.{Order, among, Passing}
use Rattle.search.specs.OrderLaws.{ledger, placing_distinct, placing_passing}
use Rattle.search.specs.DemandLaws.{search_truth, rows_below_lem}
use Rattle.search.specs.Answers.{found_of, placed_of}
use Rattle.search.proofs.CallLaws.{found_refused, found_demanded}
use Rattle.audit.specs.Audit.{order_checked_of}
use Rattle.audit.proofs.AuditLaws.{order_done_iff}
use Rattle.search.specs.declared.call.Found.{Found}
use Rattle.schedule.specs.Schedule.{above, level, Pattern, Scheduled, Safe, Proper, Enough}
use Rattle.schedule.proofs.Jobs.{jobs_sound, jobs_exist}
use Rattle.schedule.proofs.LevelLaws.{level_row, level_above, order_level, level_apart}

-- a row in its range is one that the theorems ask for
pub ranged_proper : (r : Row) → Ranged r → Proper r
ranged_proper r v = record { some = v.some; within = v.within; constrained = v.constrained }

pub order_possible : (n m : ℕ) (t : ℕ → Row) → ((i : ℕ) → i < n → 1 ≤ (t i).t) → (o : List ℕ) → Order (rows_below n) o
    → (release cost : ℕ → ℕ → ℕ) → Pattern n t release cost → Scheduled n m t (level o) release cost
order_possible n m t period o O = jobs_exist n m t (level o) period (level_apart n o O)

module _ (n m : ℕ) (t : ℕ → Row) (pos : 1 ≤ m) (v : (i : ℕ) → i < n → Proper (t i)) (c : ℕ) (enough : Enough n m c) where
  -- each row passes with the rows above it by level
  level_passes : (o : List ℕ) → Order (rows_below n) o → Passing (passes (board n t m c)) o → (i : ℕ) → i < n
      → passes (board n t m c) (above (level o) i) i ≡ true
  level_passes o O P i l =
      let b = order_level n o O i l in
      passes_antitone (board n t m c) (above (level o) i) (among (take (level o i) o)) i (level_above o i b)
      (rw (level_row o i b) at (P (level o i) b))

  -- an order that passes at every level is safe
  pub order_safe : (o : List ℕ) → Order (rows_below n) o → Passing (passes (board n t m c)) o → Safe n m t o
  order_safe o O P = record {
    possible = order_possible n m t (λ i l. omega (arith, v i l)) o O;
    in_time = λ s g k l. jobs_sound n m t (level o) s pos v g c enough k l (λ i p _. level_passes o O P i p);
  }

  -- the order that the search finds, where it strands no row, is safe
  pub search_safe : ((i : ℕ) → free (rows_below n) (search n (rows_below n) (passes (board n t m c))).progress.placed i ≡ false)
      → Safe n m t (search n (rows_below n) (passes (board n t m c))).progress.placed
  search_safe none =
      let test = passes (board n t m c) in
      let p = (search n (rows_below n) test).progress.placed in
      let P = (search_truth n (rows_below n) test (passes_antitone (board n t m c)) (rows_below_lem n)).placing in
      order_safe p
      (λ i.
      let all : times i p + 0 ≡ on (rows_below n i) 1 = rw (none i) at (ledger (rows_below n) p (placing_distinct (rows_below n) test p P) i) in
      omega arith)
      (placing_passing (rows_below n) test (passes_antitone (board n t m c)) p P)

-- ---- what is answered

-- a search that answers 0 had a table and core count in range
found_valid : (words : List ℕ) (m room : ℕ) → (found_of words (limited m) room).number ≡ done → Valid words m
found_valid words m room h =
    ⊎_elim (λ (e : eqb (table_fault words m).number done ≡ true). passed_valid words m (eqb-true (table_fault words m).number done e))
    (λ (e : eqb (table_fault words m).number done ≡ false).
    let fails = eqb-false (table_fault words m).number done e in
    absurd (fails (sym (ap (λ (r : Found). r.number) (found_refused words (limited m) room fails)) ∙ h)))
    (either (eqb (table_fault words m).number done))

-- an order of a table in range that passes at every level, by document 01's test, is safe
valid_safe : (words : List ℕ) (m : ℕ) (o : List ℕ) → Valid words m → Order (rows_below (row_count words)) o → Passing (passes (board_of words (limited m))) o
    → Safe (row_count words) m (table words) o
valid_safe words m o valid =
    order_safe (row_count words) m (table words) valid.some_cores (λ i l. ranged_proper (table words i) (valid.ranged i l)) (m - 1)
    (inl (omega (arith, valid.some_cores))) o

-- the order that the search answers is safe: where it answers 0, every job of every row is in time in every legal schedule
pub found_safe : (words : List ℕ) (m : ℕ) (out : List ℕ) → (found_of words (limited m) (length out)).number ≡ done
    → Safe (row_count words) m (table words) (placed_of (board_of words (limited m)))
found_safe words m out h =
    let answer = found_demanded words (limited m) out in
    valid_safe words m (placed_of (board_of words (limited m))) (found_valid words m (length out) h) (answer.orders h) (answer.passes h)

-- and so is an order that the checker answers 0
pub audited_safe : (words : List ℕ) (m : ℕ) (o : List ℕ) → (table_fault words m).number ≡ done → (order_checked_of words (limited m) o).number ≡ done
    → Safe (row_count words) m (table words) o
audited_safe words m o passed h =
    let both = (order_done_iff words (limited m) passed o).0 h in
    valid_safe words m o (passed_valid words m passed) both.0 both.1
