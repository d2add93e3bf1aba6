-- What the entry for host tools answers and what it stores (document 01, "Host tools").
-- Assumes nothing.
use Rattle.std.specs.Prelude.{ℕ, cond, List, [], ◌∷◌, ◌++◌, leb, eqb, length, drop, replicate}
use Rattle.rows.specs.Board.{limited}
use Rattle.rows.specs.Judge.{Check, check, judge}
use Rattle.rows.specs.Numbers.{done, short_output}
use Rattle.search.specs.Answers.{found_of, written_of}
use Rattle.book.specs.Layout.{edition_one, book_of}
use Rattle.book.specs.Read.{content, read_checks}
use Rattle.book.specs.Write.{content_of}
use Rattle.book.specs.declared.verdicts.Verdict.{Verdict}

-- the search's verdict: 1 with the order, 2 with the blocked group
unfoldable pub verdict_by : List ℕ → ℕ → Verdict
verdict_by words m = record {
  kind = cond (eqb (found_of words (limited m) 96).number done) 1 2;
  order = written_of words (limited m) (replicate 96 255);
  group = (found_of words (limited m) 96).group;
}

-- the book that the entry writes for a table
unfoldable pub searched : List ℕ → ℕ → List ℕ
searched words m = book_of edition_one (content_of words m (verdict_by words m))

-- reading's checks, with room for the words of every table, then the output's length
abbrev pub host_checks : List ℕ → ℕ → List Check
host_checks b room = read_checks edition_one b 288 ++ (check (leb (length b) room) short_output ∷ [])

-- the number where the output has room for so many bytes
unfoldable pub host_number : List ℕ → ℕ → ℕ
host_number b room =
    let x = content edition_one b in judge (host_checks b room) (λ number place. number) (found_of x.table (limited x.m) 96).number

-- the output afterwards: with 0 and 4 the book at its start, else as it was
unfoldable pub host_into : List ℕ → List ℕ → List ℕ
host_into b out =
    let x = content edition_one b in
    judge (host_checks b (length out)) (λ number place. out) (searched x.table x.m ++ drop (length b) out)
