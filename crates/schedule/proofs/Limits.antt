-- How far safety reaches: K4 is refused rightly, and the test of document 01 holds for whole ticks only.
-- First K4, by counting; then four rows, by computing a schedule of theirs in half ticks.
-- Assumes nothing.
use Rattle.std.specs.Prelude.{ℕ, zero, suc, ◌+◌, ◌*◌, ◌≤◌, ◌<◌, refl, Bool, true, false, cond, List, [], ◌∷◌, eqb, ltb, take, get_or}
use Rattle.std.proofs.Common.{inl, arith, le_refl, ltb-true}
use Rattle.rows.specs.Board.{board}
use Rattle.sets.specs.Sums.{on, sum, count}
use Rattle.sets.specs.SumLaws.{sum_mono, sum_bound}
use Rattle.rows.specs.declared.table.Row.{Row}
use Rattle.workload.specs.Workload.{work, cap, plain, carry, extra}
use Rattle.test.specs.Test.{interference, used, passes}
use Rattle.test.proofs.TestLaws.{passes_mono}
use Rattle.search.specs.Search.{rows_below, free}
use Rattle.search.specs.Demand.{Order, among, Passing}
use Rattle.search.specs.OrderLaws.{distinct_order}
use Rattle.schedule.specs.Schedule.{Course, active, service, LegalJobs, level, Pattern, Safe, Proper}
use Rattle.schedule.proofs.Lives.{served}
use Rattle.schedule.proofs.MoreSums.{sum_swap, sum_smaller}
use Rattle.schedule.proofs.Exists.{made, given, made_legal}
use Rattle.schedule.proofs.Jobs.{life, jobs_served, course, course_late, legal_courses}
use Rattle.schedule.proofs.LevelLaws.{level_apart}
use Rattle.schedule.proofs.Safety.{order_possible, order_safe}
use Rattle.schedule.proofs.Finer.{finer}

-- job j of a course has not finished at its deadline
abbrev pub Late : Row → Course → ℕ → Type 0
Late r s j = service s j (s.release j + r.d) < s.cost j

-- ---- K4

-- three tasks (5,5,5), for two cores
unfoldable pub K4 : ℕ → Row
K4 i = record { c = 5; d = 5; t = 5 }

-- Whatever the order, with all three released together there is a legal schedule in which one has not finished at its deadline: two cores give ten ticks in five, and fifteen are due.
pub K4_late : (o : List ℕ) → Order (rows_below 3) o
    → (s : ℕ → Course) × LegalJobs 3 2 K4 (level o) s × (k : ℕ) × (k < 3) × Late (K4 k) (s k) 0
unfolding K4
K4_late o O =
    let together : Pattern 3 K4 (λ i j. 5 * j) (λ i j. 5) = record { spaced = λ i j l. omega arith; costs = λ i j l. le_refl 5 } in
    let (s, g, released, costs) = order_possible 3 2 K4 (λ i l. omega arith) o O (λ i j. 5 * j) (λ i j. 5) together in
    let jobs : sum 3 (λ k. service (s k) 0 5) ≤ sum 3 (λ k. served (life (s k)) 5) =
    sum_mono 3 (λ k. service (s k) 0 5) (λ k. served (life (s k)) 5) (λ k _. omega (arith, jobs_served (s k) 1 5))
    in
    let ticks : sum 5 (λ u. count 3 (λ k. active ((s k).does u))) ≤ 5 * 2 = sum_bound 5 2 _ (λ u _. g.cores u) in
    let (k, l, q) = sum_smaller 3 (λ k. service (s k) 0 5) (λ k. 5) (omega (arith, sum_swap 5 3 (λ u k. on (active ((s k).does u)) 1))) in
    (s, g, k, l, rw (released k, costs k) q)

-- ---- releases between ticks

-- four tasks (1,1,9), (1,1,9), (1,2,9), (1,2,9), for two cores, in table sequence
unfoldable pub tight : ℕ → Row
tight i = record { c = 1; d = cond (ltb i 2) 1 2; t = 9 }

abbrev pub in_sequence : List ℕ
in_sequence = 0 ∷ 1 ∷ 2 ∷ 3 ∷ []

in_sequence_lem : Order (rows_below 4) in_sequence
unfolding free
in_sequence_lem = distinct_order (rows_below 4) 4 (λ i h. ltb-true i 4 h) in_sequence (refl, (refl, (refl, (refl, tt)))) refl

tight_all : Passing (passes (board 4 tight 2 4)) in_sequence
unfolding tight work cap plain carry extra interference used passes
tight_all zero l = refl
tight_all (suc zero) l = refl
tight_all (suc (suc zero)) l = refl
tight_all (suc (suc (suc zero))) l = refl
tight_all (suc (suc (suc (suc j)))) l = absurd (omega arith)

-- they pass at every level, with one carry-in and up to all four
pub tight_passes : (c : ℕ) → c ≤ 4 → Passing (passes (board 4 tight 2 c)) in_sequence
tight_passes c h j l =
    let H = among (take j in_sequence) in
    passes_mono (board 4 tight 2 4) c 4 H H h (λ i e. e) (get_or in_sequence j 0) (tight_all j l)

tight_proper : (i : ℕ) → Proper (tight i)
unfolding tight
tight_proper i = short (ltb i 2)
  where
    short : (b : Bool) → Proper (record { c = 1; d = cond b 1 2; t = 9 })
    short true = record { some = omega arith; within = omega arith; constrained = omega arith }
    short false = record { some = omega arith; within = omega arith; constrained = omega arith }

-- so they are safe, for releases at whole ticks
pub tight_safe : Safe 4 2 tight in_sequence
tight_safe = order_safe 4 2 tight (omega arith) (λ i _. tight_proper i) 1 (inl (le_refl 2)) in_sequence in_sequence_lem (tight_passes 1 (omega arith))

-- in half ticks, with row 1 released half a tick after the others, row 3 is late
unfoldable pub staggered : ℕ → ℕ → ℕ
staggered i j = 18 * j + on (eqb i 1) 1

pub halves_late : (s : ℕ → Course) × LegalJobs 4 2 (λ i. finer 2 (tight i)) (level in_sequence) s
    × Late (finer 2 (tight 3)) (s 3) 0
unfolding tight staggered made given
halves_late =
    let halves : ℕ → Row = λ i. finer 2 (tight i) in
    let cost : ℕ → ℕ → ℕ = λ i j. 2 in
    let P : Pattern 4 halves staggered cost = record { spaced = λ i j l. omega arith; costs = λ i j l. le_refl 2 } in
    let s = made 4 2 (level in_sequence) staggered cost in
    let g = made_legal 4 2 (level in_sequence) staggered cost halves (λ i l. omega arith) P (level_apart 4 in_sequence in_sequence_lem) in (
      λ i. course (s i),
      legal_courses 4 2 halves (level in_sequence) s (λ i l. omega arith) g,
      course_late (halves 3) (s 3) (g.tasks 3 (omega arith)) (omega arith) 0 4 (omega arith) (omega arith),
    )
