-- The listing of a book (document 01, "Listing"), as a list of byte values.
-- Assumes nothing.
use Rattle.std.specs.Prelude.{ℕ, ◌+◌, ◌*◌, ◌/◌, Bool, cond, List, [], ◌∷◌, ◌++◌, eqb, length, get_or, take}
use Rattle.rows.specs.Board.{board_of, limited}
use Rattle.rows.specs.Judge.{judge}
use Rattle.rows.specs.Numbers.{done}
use Rattle.sets.specs.Sums.{sum}
use Rattle.sets.specs.Sets.{has, without}
use Rattle.rows.specs.Table.{table, row_count}
use Rattle.rows.specs.declared.table.Row.{Row}
use Rattle.test.specs.Test.{used}
use Rattle.search.specs.Demand.{among}
use Rattle.search.specs.Answers.{placed_of, found_of}
use Rattle.book.specs.Layout.{edition_one}
use Rattle.book.specs.Read.{content, read_checks}
use Rattle.report.specs.Text.{decimal, field, lines}

-- ---- the words, in ASCII

-- "ORDER"
abbrev pub order_word : List ℕ
order_word = 79 ∷ 82 ∷ 68 ∷ 69 ∷ 82 ∷ []

-- "BLOCKED"
abbrev pub blocked_word : List ℕ
blocked_word = 66 ∷ 76 ∷ 79 ∷ 67 ∷ 75 ∷ 69 ∷ 68 ∷ []

-- "REFUSED "
abbrev pub refused_name : List ℕ
refused_name = 82 ∷ 69 ∷ 70 ∷ 85 ∷ 83 ∷ 69 ∷ 68 ∷ 32 ∷ []

-- " m="
abbrev pub m_name : List ℕ
m_name = 32 ∷ 109 ∷ 61 ∷ []

-- " n="
abbrev pub n_name : List ℕ
n_name = 32 ∷ 110 ∷ 61 ∷ []

-- " tests="
abbrev pub tests_name : List ℕ
tests_name = 32 ∷ 116 ∷ 101 ∷ 115 ∷ 116 ∷ 115 ∷ 61 ∷ []

-- " load="
abbrev pub load_name : List ℕ
load_name = 32 ∷ 108 ∷ 111 ∷ 97 ∷ 100 ∷ 61 ∷ []

-- "row="
abbrev pub row_name : List ℕ
row_name = 114 ∷ 111 ∷ 119 ∷ 61 ∷ []

-- " C="
abbrev pub c_name : List ℕ
c_name = 32 ∷ 67 ∷ 61 ∷ []

-- " D="
abbrev pub d_name : List ℕ
d_name = 32 ∷ 68 ∷ 61 ∷ []

-- " T="
abbrev pub t_name : List ℕ
t_name = 32 ∷ 84 ∷ 61 ∷ []

-- " used="
abbrev pub used_name : List ℕ
used_name = 32 ∷ 117 ∷ 115 ∷ 101 ∷ 100 ∷ 61 ∷ []

abbrev pub line_feed : List ℕ
line_feed = 10 ∷ []

-- ---- the lines

-- the sum over the rows of 1000 · C / T, each rounded down
abbrev pub share : List ℕ → ℕ → ℕ
share words i = 1000 * (table words i).c / (table words i).t

unfoldable pub load : List ℕ → ℕ
load words = sum (row_count words) (share words)

abbrev pub head_text : List ℕ → ℕ → ℕ → ℕ → ℕ → List ℕ
head_text word m n tests total =
    word ++ (field m_name m ++ (field n_name n ++ (field tests_name tests ++ (field load_name total ++ line_feed))))

unfoldable pub header : List ℕ → List ℕ → ℕ → ℕ → List ℕ
header word words m tests = head_text word m (row_count words) tests (load words)

abbrev pub row_text : ℕ → Row → ℕ → List ℕ
row_text k row uses =
    field row_name k
    ++ (field c_name row.c ++ (field d_name row.d ++ (field t_name row.t ++ (field used_name uses ++ line_feed))))

-- row k with the rows of H above it
unfoldable pub row_line : List ℕ → ℕ → (ℕ → Bool) → ℕ → List ℕ
row_line words m H k = row_text k (table words k) (used (board_of words (limited m)) H k)

-- the same with its level in front
abbrev pub at_level : ℕ → List ℕ → List ℕ
at_level level line = decimal level ++ (32 ∷ line)

-- entry j of an order, with the entries before it above it; levels count from 1
unfoldable pub level_line : List ℕ → ℕ → List ℕ → ℕ → List ℕ
level_line words m order j = at_level (j + 1) (row_line words m (among (take j order)) (get_or order j 0))

-- a member of a group, with the other members above it; nothing for a row that is no member
unfoldable pub member_line : List ℕ → ℕ → (ℕ → Bool) → ℕ → List ℕ
member_line words m G i = let line = row_line words m (without G i) i in cond (G i) line []

-- ---- the listing

-- of a table: the order that the search finds, or the group that it leaves
unfoldable pub listed : List ℕ → ℕ → List ℕ
listed words m =
    let found = found_of words (limited m) 96 in
    let order = placed_of (board_of words (limited m)) in
    let levels = header order_word words m found.tests ++ lines (length order) (level_line words m order) in
    let members = header blocked_word words m found.tests ++ lines (row_count words) (member_line words m (has found.group)) in
    cond (eqb found.number done) levels members

abbrev pub refused_text : ℕ → List ℕ
refused_text number = field refused_name number ++ line_feed

-- of a book: the stored verdict is read, for its form, and plays no part
unfoldable pub listing_of : List ℕ → List ℕ
listing_of b =
    let x = content edition_one b in
    judge (read_checks edition_one b 288) (λ number place. refused_text number) (listed x.table x.m)
