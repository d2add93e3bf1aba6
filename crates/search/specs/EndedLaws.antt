-- Laws of the search of any rows: what the code holds level by level, where it ends, and demand 3 of it.
-- Assumes nothing.
use Rattle.std.specs.Prelude.{ℕ, suc, ◌+◌, ◌≤◌, ◌<◌, min, ◌≡◌, Bool, true, false, List, [], ◌∷◌, ltb, length}
use Rattle.std.proofs.Common.{sym, ap, ◌∙◌, ⊎_elim, arith, ltb-true, ltb-false}
use Rattle.std.proofs.Math.Path.{refl, fun_ext}
use Rattle.sets.specs.BoolLaws.{either, and_left}
use Rattle.sets.specs.Sums.{count, first}
use Rattle.sets.specs.SumLaws.{first_is}
use Rattle.sets.specs.Sets.{has, set_of, without, below, without_row}
use Rattle.sets.specs.SetLaws.{FitsWords, has_below, has_set_of_above}
use Rattle.rows.specs.Board.{Board}
use Rattle.sets.specs.declared.Set.{Set}
use Rattle.test.specs.Test.{passes}
use Rattle.test.proofs.TestLaws.{passes_antitone}
use Rattle.search.specs.Search.{rows_below, free, finished, search}
use Rattle.search.specs.Demand.{Truth}
use Rattle.search.specs.State.{order_of, fresh_state, placed_at}
use Rattle.search.specs.Answers.{search_of, placed_of, passing, ended_of}
use Rattle.search.specs.OrderLaws.{Distinct}
use Rattle.search.specs.DemandLaws.{search_truth, in_table, in_table_free, full_finished}
use Rattle.search.specs.StateLaws.{fresh_order, order_place, has_free, all_free, less_free, rows_small}
use Rattle.search.specs.LevelLaws.{Comes, comes_fresh, comes_level, comes_search, levelled, levelled_placed, levelled_stuck, end_finished}
use Rattle.search.specs.declared.state.State.{State}
use Rattle.search.specs.declared.ended.Ended.{Ended}

-- ---- level by level

-- what the code holds before a level: the rows placed in the order, the others as a mask, and a search that has come so far
pub record Levels (b : Board) (dom : ℕ → Bool) (s : State) (left : Set) (tests : ℕ) : Type 0 where
  pub rows : List ℕ
  pub order : s.order ≡ order_of b.n rows
  pub placed : s.placed ≡ length rows
  pub distinct : Distinct (in_table b.n dom) rows
  pub unplaced : left ≡ set_of (free dom rows)
  pub comes : Comes b.n dom (passes b) tests (record { placed = rows; cursor = 0 })

pub levels_fresh : (b : Board) (dom : Set) → b.n ≤ 96 → FitsWords dom → Levels b (has dom) fresh_state dom 0
levels_fresh b dom h f =
    record {
      rows = [];
      order = sym (fresh_order b.n h);
      placed = refl;
      distinct = tt;
      unplaced = all_free dom f;
      comes = comes_fresh b.n (has dom) (passes b);
    }

module _ {b : Board} {dom : ℕ → Bool} {s : State} {left : Set} {tests : ℕ} (L : Levels b dom s left tests) where
  -- where the search that has come so far is finished, the code holds its end
  ends : (made i : ℕ) → Comes b.n dom (passes b) made (record { placed = L.rows; cursor = i })
      → finished b.n dom (record { placed = L.rows; cursor = i }) ≡ true
      → record { order = s.order; placed = s.placed; left = left; tests = made } ≡ ended_of b dom
  unfolding ended_of
  ends made i C f =
      let E = comes_search b.n dom (passes b) made (record { placed = L.rows; cursor = i }) C f in
      rw (E.0, E.1, L.order, L.placed, L.unplaced) refl

  -- all rows are placed
  pub levels_full : b.n ≤ s.placed → record { order = s.order; placed = s.placed; left = left; tests = tests } ≡ ended_of b dom
  levels_full h =
      ends tests 0 L.comes
      (full_finished b.n dom (passes b) (record { placed = L.rows; cursor = 0 }) L.distinct (omega (arith, L.placed)))

  -- what a scan finds, r, and the tests that it makes, t
  module _ (small : (i : ℕ) → 128 ≤ i → dom i ≡ false) (r t : ℕ) (e : r ≡ first (passing (passes b) (has left)) b.n 0)
      (f : t ≡ count (min (suc r) b.n) (has left)) where
    rows_left : has left ≡ free dom L.rows
    rows_left = rw L.unplaced (fun_ext (λ i. has_free dom small L.rows i))

    found : r ≡ first (passing (passes b) (free dom L.rows)) b.n 0
    found = rw rows_left at e

    scanned : Comes b.n dom (passes b) (tests + t) (levelled b.n dom L.rows r)
    scanned =
        let made : t ≡ count (min (suc r) b.n) (free dom L.rows) = rw rows_left at f in
        rw made (comes_level b.n dom (passes b) tests L.rows L.comes r found)

    -- none passed
    pub levels_stuck : b.n ≤ r → record { order = s.order; placed = s.placed; left = left; tests = tests + t } ≡ ended_of b dom
    levels_stuck l =
        ends (tests + t) b.n (rw (levelled_stuck b.n dom L.rows r l) at scanned)
        (end_finished b.n dom L.rows b.n (omega arith))

    -- row r passed and is placed
    pub levels_place : r < b.n → s.placed < b.n → Levels b dom (placed_at b.n s r) (without_row left r) (tests + t)
    levels_place l g =
        let p = L.rows in
        let H = free dom p in
        let P = passing (passes b) H in
        let pass : P r ≡ true = rw (sym found) at ((first_is P b.n 0).found (omega (arith, found))) in
        record {
          rows = r ∷ p;
          order = rw (L.order, L.placed) (order_place b.n p r (omega (arith, L.placed)));
          placed = omega (arith, L.placed);
          distinct = (in_table_free b.n dom p r l (and_left (H r) (passes b (without H r) r) pass), L.distinct);
          unplaced = rw L.unplaced (less_free dom p r);
          comes = rw (levelled_placed b.n dom p r l) at scanned;
        }

-- ---- demand 3, of any rows of the table

pub ended_truth : (b : Board) (dom : ℕ → Bool) → ((i : ℕ) → dom i ≡ true → i < b.n)
    → Truth b.n dom (passes b) (search b.n dom (passes b)).progress.placed
ended_truth b dom below = search_truth b.n dom (passes b) (passes_antitone b) below

-- ---- all rows

-- where the search of all rows ends
pub record Searches (b : Board) (e : Ended) : Type 0 where
  pub order : e.order ≡ order_of b.n (placed_of b)
  pub placed : e.placed ≡ length (placed_of b)
  pub unplaced : e.left ≡ set_of (free (rows_below b.n) (placed_of b))
  pub made : e.tests ≡ (search_of b).tests

has_rows : (n : ℕ) → n ≤ 96 → has (below n) ≡ rows_below n
has_rows n h =
    fun_ext
    (λ i.
    ⊎_elim (λ (e : ltb i 128 ≡ true). has_below n i (ltb-true i 128 e))
    (λ (e : ltb i 128 ≡ false).
    let above : 128 ≤ i = ltb-false i 128 e in
    has_set_of_above (λ j. ltb j n) i above ∙ sym (rows_small n h i above))
    (either (ltb i 128)))

pub ended_all : (b : Board) → b.n ≤ 96 → (e : Ended) → e ≡ ended_of b (has (below b.n)) → Searches b e
unfolding ended_of
ended_all b most e is =
    let all = rw (has_rows b.n most) at is in
    record {
      order = ap (λ (r : Ended). r.order) all;
      placed = ap (λ (r : Ended). r.placed) all;
      unplaced = ap (λ (r : Ended). r.left) all;
      made = ap (λ (r : Ended). r.tests) all;
    }
