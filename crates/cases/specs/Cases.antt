-- The K cases of document 01, as one table about the definitions: `cases`, the last lines. That every case holds is `K` in proofs/Cases.antt.
-- Assumes nothing.
use Rattle.std.specs.Prelude.{ℕ, zero, suc, ◌-◌, ◌*◌, Bool, true, false, cond, ◌&&◌, List, [], ◌∷◌, eqb, length, get_or, take, drop}
use Rattle.rows.specs.Board.{board}
use Rattle.rows.specs.declared.table.Row.{Row}
use Rattle.sets.specs.Sets.{without}
use Rattle.test.specs.Test.{used, passes}
use Rattle.search.specs.Search.{rows_below, free, search}
use Rattle.search.specs.Demand.{among}
use Rattle.book.specs.Layout.{edition_one, book_of}
use Rattle.book.specs.Read.{no_verdict}
use Rattle.book.specs.Write.{content_of}
use Rattle.policy.specs.Policy.{proposed}

unfoldable pub row : ℕ → ℕ → ℕ → Row
row c d t = record { c = c; d = d; t = t }

-- What a case says, with its number. A search: its cores and rows; the order from the highest level down with used at each level; the tests; the blocked rows with used, the other blocked rows above.
pub data Case : Type 0 where
  searched : (name m : ℕ) → List Row → (order uses : List ℕ) → (tests : ℕ) → (group blocked_uses : List ℕ) → Case
  -- a proposal: its cores, rows and policy; the order
  proposes : (name m : ℕ) → List Row → (policy : ℕ) → (order : List ℕ) → Case
  -- a book without a verdict, of no rows: its cores; its blocks and the check of the last
  empties : (name m blocks : ℕ) → (check : List ℕ) → Case

unfoldable pub same : List ℕ → List ℕ → Bool
same [] [] = true
same [] (y ∷ ys) = false
same (x ∷ xs) [] = false
same (x ∷ xs) (y ∷ ys) = eqb x y && same xs ys

-- the members of a set among the d rows from i on, and what f says of each
unfoldable pub members : (ℕ → Bool) → (ℕ → ℕ) → ℕ → ℕ → List ℕ
members H f zero i = []
members H f (suc d) i =
    let rest = members H f d (suc i) in
    let one = f i in
    cond (H i) (one ∷ rest) rest

-- what f says of the d levels from j on
unfoldable pub levels : (ℕ → ℕ) → ℕ → ℕ → List ℕ
levels f zero j = []
levels f (suc d) j = f j ∷ levels f d (suc j)

unfoldable pub table_of : List Row → ℕ → Row
table_of rows i = get_or rows i (row 1 1 1)

unfoldable pub holds : Case → Bool
holds (searched name m rows order uses tests group blocked_uses) =
    let n = length rows in
    let t = table_of rows in
    let r = search n (rows_below n) (passes (board n t m (m - 1))) in
    let placed = r.progress.placed in
    let left = free (rows_below n) placed in
    same placed order
    && same (levels (λ j. used (board n t m (m - 1)) (among (take j placed)) (get_or placed j 0)) (length placed) 0) uses
    && eqb r.tests tests
    && same (members left (λ i. i) n 0) group
    && same (members left (λ i. used (board n t m (m - 1)) (without left i) i) n 0) blocked_uses
holds (proposes name m rows policy order) = same (proposed m policy (length rows) (table_of rows)) order
holds (empties name m blocks check) =
    let book = book_of edition_one (content_of [] m no_verdict) in
    eqb (length book) (512 * blocks) && same (drop (512 * blocks - 2) book) check

unfoldable pub every : List Case → Bool
every [] = true
every (c ∷ cs) = holds c && every cs

unfoldable pub three : List Row
three = row 23 33 33 ∷ row 106 210 214 ∷ row 58 216 217 ∷ []

unfoldable pub four : List Row
four = row 23 33 33 ∷ row 106 210 214 ∷ row 58 216 217 ∷ row 46 60 64 ∷ []

unfoldable pub cases : List Case
cases =
    searched 1 1 [] [] [] 0 [] []
    ∷ searched 2 1 (row 5 5 5 ∷ []) (0 ∷ []) (5 ∷ []) 1 [] []
    ∷ searched 3 2 (row 5 5 5 ∷ row 5 5 5 ∷ []) (1 ∷ 0 ∷ []) (5 ∷ 5 ∷ []) 2 [] []
    ∷ searched 4 2 (row 5 5 5 ∷ row 5 5 5 ∷ row 5 5 5 ∷ []) [] [] 3 (0 ∷ 1 ∷ 2 ∷ []) (6 ∷ 6 ∷ 6 ∷ [])
    ∷ searched 5 2 three (1 ∷ 0 ∷ 2 ∷ []) (106 ∷ 28 ∷ 215 ∷ []) 5 [] []
    ∷ searched 6 3 four [] [] 4 (0 ∷ 1 ∷ 2 ∷ 3 ∷ [])
    (34 ∷ 211 ∷ 217 ∷ 61 ∷ [])
    ∷ searched 7 2 (row 1 2 3 ∷ row 1 2 3 ∷ row 2 4 4 ∷ row 2 4 4 ∷ []) [] [] 4 (0 ∷ 1 ∷ 2 ∷ 3 ∷ []) (3 ∷ 3 ∷ 5 ∷ 5 ∷ [])
    ∷ searched 8 1 (row 1 1 10 ∷ row 1 2 10 ∷ row 1 3 10 ∷ []) (0 ∷ 1 ∷ 2 ∷ []) (1 ∷ 2 ∷ 3 ∷ []) 6 [] []
    ∷ searched 9 1 (row 1 3 10 ∷ row 1 2 10 ∷ row 1 1 10 ∷ []) (2 ∷ 1 ∷ 0 ∷ []) (1 ∷ 2 ∷ 3 ∷ []) 3 [] []
    ∷ proposes 10 3 four 0 (0 ∷ 3 ∷ 1 ∷ 2 ∷ [])
    ∷ proposes 10 3 four 1 (0 ∷ 3 ∷ 1 ∷ 2 ∷ [])
    ∷ proposes 10 3 four 2 (3 ∷ 0 ∷ 1 ∷ 2 ∷ [])
    ∷ empties 11 1 1 (0xFE ∷ 0xFE ∷ [])
    ∷ []
