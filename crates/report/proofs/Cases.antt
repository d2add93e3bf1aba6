-- The listing of K5 is document 01's text, byte for byte.
-- Assumes nothing.
use Rattle.std.specs.Prelude.{ℕ, ◌≡◌, refl, List, [], ◌∷◌, ◌++◌}
use Rattle.sets.specs.Sets.{bit, mask, set_of, without}
use Rattle.rows.specs.Table.{in_range, read_at, row_count, first_fault}
use Rattle.workload.specs.Workload.{work, cap, plain, carry, extra}
use Rattle.test.specs.Test.{interference, used, passes}
use Rattle.search.specs.Search.{free, next, finished, probe, search}
use Rattle.search.specs.Answers.{number_of, group_of, found_of}
use Rattle.report.specs.Text.{decimal_by, decimal}
use Rattle.report.specs.Listing.{load, header, row_line, level_line, member_line, listed}

-- ORDER m=2 n=3 tests=5 load=1458
abbrev head : List ℕ
head = 79 ∷ 82 ∷ 68 ∷ 69 ∷ 82 ∷ 32 ∷ 109 ∷ 61 ∷ 50 ∷ 32 ∷ 110 ∷ 61 ∷ 51 ∷ 32 ∷ 116 ∷ 101 ∷ 115 ∷ 116 ∷ 115 ∷ 61 ∷ 53 ∷ 32 ∷ 108 ∷ 111 ∷ 97 ∷ 100 ∷ 61 ∷ 49 ∷ 52 ∷ 53 ∷ 56 ∷ 10 ∷ []

-- 1 row=1 C=106 D=210 T=214 used=106
abbrev level1 : List ℕ
level1 = 49 ∷ 32 ∷ 114 ∷ 111 ∷ 119 ∷ 61 ∷ 49 ∷ 32 ∷ 67 ∷ 61 ∷ 49 ∷ 48 ∷ 54 ∷ 32 ∷ 68 ∷ 61 ∷ 50 ∷ 49 ∷ 48 ∷ 32 ∷ 84 ∷ 61 ∷ 50 ∷ 49 ∷ 52 ∷ 32 ∷ 117 ∷ 115 ∷ 101 ∷ 100 ∷ 61 ∷ 49 ∷ 48 ∷ 54 ∷ 10 ∷ []

-- 2 row=0 C=23 D=33 T=33 used=28
abbrev level2 : List ℕ
level2 = 50 ∷ 32 ∷ 114 ∷ 111 ∷ 119 ∷ 61 ∷ 48 ∷ 32 ∷ 67 ∷ 61 ∷ 50 ∷ 51 ∷ 32 ∷ 68 ∷ 61 ∷ 51 ∷ 51 ∷ 32 ∷ 84 ∷ 61 ∷ 51 ∷ 51 ∷ 32 ∷ 117 ∷ 115 ∷ 101 ∷ 100 ∷ 61 ∷ 50 ∷ 56 ∷ 10 ∷ []

-- 3 row=2 C=58 D=216 T=217 used=215
abbrev level3 : List ℕ
level3 = 51 ∷ 32 ∷ 114 ∷ 111 ∷ 119 ∷ 61 ∷ 50 ∷ 32 ∷ 67 ∷ 61 ∷ 53 ∷ 56 ∷ 32 ∷ 68 ∷ 61 ∷ 50 ∷ 49 ∷ 54 ∷ 32 ∷ 84 ∷ 61 ∷ 50 ∷ 49 ∷ 55 ∷ 32 ∷ 117 ∷ 115 ∷ 101 ∷ 100 ∷ 61 ∷ 50 ∷ 49 ∷ 53 ∷ 10 ∷ []

pub K5 : listed (23 ∷ 33 ∷ 33 ∷ 106 ∷ 210 ∷ 214 ∷ 58 ∷ 216 ∷ 217 ∷ []) 2 ≡ head ++ (level1 ++ (level2 ++ level3))
unfolding decimal_by decimal load header row_line level_line member_line listed bit mask set_of without in_range read_at row_count first_fault work cap plain carry extra interference used passes free next finished probe search number_of group_of found_of
K5 = refl
