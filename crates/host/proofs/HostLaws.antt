-- Laws of the entry for host tools: its answer and the output by the check that decides them, what it writes reads back, and the stored verdict
-- plays no part.
-- Assumes nothing.
use Rattle.std.specs.Prelude.{ℕ, ◌*◌, ◌≤◌, ◌<◌, ◌≡◌, ◌⊎◌, true, false, List, [], ◌∷◌, ◌++◌, leb, length, take, drop}
use Rattle.std.proofs.Common.{ap, ◌∙◌, ⊎_elim, arith, le-leb, leb-true, leb-false}
use Rattle.std.proofs.Math.Path.{refl, sym}
use Rattle.std.proofs.lemmas.Bool.{lt-leb}
use Rattle.rows.specs.Board.{limited}
use Rattle.sets.specs.BoolLaws.{either}
use Rattle.rows.specs.Judge.{Check, check, judge}
use Rattle.rows.specs.Numbers.{done, blocked, short_output}
use Rattle.rows.specs.Table.{row_count, table_fault}
use Rattle.rows.specs.JudgeLaws.{Passed, judge_works, judge_append, judge_fails, judge_same, judge_field}
use Rattle.search.specs.Answers.{found_of}
use Rattle.book.specs.Layout.{edition_one, blocks}
use Rattle.book.specs.Read.{content, read_checks, refused, read_of, read_into, taken}
use Rattle.book.specs.Write.{content_of, write_of, write_into}
use Rattle.book.proofs.WriteLaws.{write_done}
use Rattle.book.proofs.BookLaws.{read_passed, Handed, read_handed, reads_back}
use Rattle.book.specs.Read.{BookRead}
use Rattle.book.specs.Write.{BookWritten}
use Rattle.host.specs.Host.{verdict_by, searched, host_checks, host_number, host_into}
use Rattle.host.specs.VerdictLaws.{verdict_formed, verdict_typed, verdict_kind}

-- ---- the book that is written

-- the writer takes the search's verdict
pub searched_written : (words : List ℕ) (m : ℕ) (out : List ℕ) → (table_fault words m).number ≡ done
    → 512 * blocks edition_one (row_count words) ≤ length out
    → ((write_of words m (verdict_by words m) (length out)).number ≡ done)
    × (write_into words m (verdict_by words m) out ≡ searched words m ++ drop (512 * blocks edition_one (row_count words)) out)
unfolding searched
searched_written words m out fair fits =
    let written = write_done words m (verdict_by words m) out fair (verdict_formed words m fair) fits in
    (ap (λ (r : BookWritten). r.number) (sym written.0), sym written.1)

-- ---- a book that was read

abbrev pub table_of : List ℕ → List ℕ
table_of b = (content edition_one b).table

abbrev pub cores_of : List ℕ → ℕ
cores_of b = (content edition_one b).m

-- ---- the answer by the check that decides it

module _ (b out : List ℕ) where
  abbrev room : List Check
  room = check (leb (length b) (length out)) short_output ∷ []

  -- the book is refused
  pub host_refused : ((read_of b 288).number ≡ done → ⊥) → (host_number b (length out) ≡ (read_of b 288).number) × (host_into b out ≡ out)
  unfolding host_number host_into read_of
  host_refused h =
      let cs = read_checks edition_one b 288 in
      let x = content edition_one b in
      let fails : Passed cs → ⊥ = λ p. h (ap (λ (r : BookRead). r.number) (judge_works cs refused (taken x) p)) in (
        judge_append cs room (λ number place. number) _ ∙ judge_fails cs (λ number place. number) _ done fails
            ∙ sym (judge_field (λ (r : BookRead). r.number) cs refused (taken x)),
        judge_append cs room (λ number place. out) _ ∙ judge_fails cs (λ number place. out) _ out fails ∙ judge_same cs out,
      )

  module _ (h : (read_of b 288).number ≡ done) where
    judge_room : {A : Type 0} (refuse : ℕ → ℕ → A) (work : A) → judge (host_checks b (length out)) refuse work ≡ judge room refuse work
    judge_room refuse work =
        judge_append (read_checks edition_one b 288) room refuse work
        ∙ judge_works (read_checks edition_one b 288) refuse (judge room refuse work) (read_passed b 288 h)

    -- the output is shorter than the book
    pub host_short : length out < length b → (host_number b (length out) ≡ short_output) × (host_into b out ≡ out)
    unfolding host_number host_into
    host_short l =
        let short = lt-leb (length b) (length out) l in
        (judge_room (λ number place. number) _ ∙ rw short refl, judge_room (λ number place. out) _ ∙ rw short refl)

    module _ (l : length b ≤ length out) where
      -- the work: the search's number, and the book with the search's verdict
      pub host_searched : (host_number b (length out) ≡ (found_of (table_of b) (limited (cores_of b)) 96).number)
          × (host_into b out ≡ searched (table_of b) (cores_of b) ++ drop (length b) out)
      unfolding host_number host_into
      host_searched =
          let fits = le-leb (length b) (length out) l in
          (judge_room (λ number place. number) _ ∙ rw fits refl, judge_room (λ number place. out) _ ∙ rw fits refl)

      -- 0 with verdict 1, 4 with verdict 2
      pub host_number_lem : ((host_number b (length out) ≡ done) × ((verdict_by (table_of b) (cores_of b)).kind ≡ 1))
          ⊎ ((host_number b (length out) ≡ blocked) × ((verdict_by (table_of b) (cores_of b)).kind ≡ 2))
      host_number_lem = rw host_searched.0 (verdict_kind (table_of b) (cores_of b) (read_handed b h).fair)

      -- what is written reads back as the same table and core count with the search's verdict
      pub host_reads : (into : List ℕ) → length (table_of b) ≤ length into
          → (read_of (take (length b) (host_into b out)) (length into)
          ≡ taken (content_of (table_of b) (cores_of b) (verdict_by (table_of b) (cores_of b))))
          × (read_into (take (length b) (host_into b out)) into ≡ table_of b ++ drop (length (table_of b)) into)
      host_reads into r =
          let words = table_of b in
          let m = cores_of b in
          let fair = (read_handed b h).fair in
          let size = (read_handed b h).size in
          let written = searched_written words m out fair (omega (arith, size)) in
          let same : write_into words m (verdict_by words m) out ≡ host_into b out = written.1 ∙ rw (host_searched.1, size) refl in
          rw (size, ← same) (reads_back words m (verdict_by words m) out into (verdict_typed words m fair) written.0 r)

-- the stored verdict plays no part: books of one table and core count, whatever their verdicts, get one answer and one output
pub host_verdict_ignored : (b c out : List ℕ) → (read_of b 288).number ≡ done → (read_of c 288).number ≡ done → table_of b ≡ table_of c
    → cores_of b ≡ cores_of c → (host_number b (length out) ≡ host_number c (length out)) × (host_into b out ≡ host_into c out)
host_verdict_ignored b c out h k t m =
    let size : length b ≡ length c =
    (read_handed b h).size ∙ ap (λ (w : List ℕ). 512 * blocks edition_one (row_count w)) t ∙ sym (read_handed c k).size
    in
    ⊎_elim
    (λ (l : leb (length c) (length out) ≡ true).
    let fits = leb-true (length c) (length out) l in
    let x = host_searched b out h (omega arith) in
    let y = host_searched c out k fits in
    (x.0 ∙ rw (t, m) refl ∙ sym y.0, x.1 ∙ rw (t, m, size) refl ∙ sym y.1))
    (λ (l : leb (length c) (length out) ≡ false).
    let short = leb-false (length c) (length out) l in
    let x = host_short b out h (omega arith) in
    let y = host_short c out k short in
    (x.0 ∙ sym y.0, x.1 ∙ sym y.1))
    (either (leb (length c) (length out)))

-- what reading handed over can be searched and written
pub handed_fits : (b words : List ℕ) (r : BookRead) → Handed b 288 words r → (room : ℕ) → length b ≤ room
    → let t = take (3 * r.n) words in ((table_fault t r.m).number ≡ done) × (512 * blocks edition_one (row_count t) ≤ room)
handed_fits b words r h room l = rw (h.table, h.cores, ← h.size) (h.fair, l)

-- the work, told of the words that reading handed over
pub handed_searched : (b words : List ℕ) (r : BookRead) → Handed b 288 words r → (out : List ℕ) → length b ≤ length out
    → let t = take (3 * r.n) words in
    ((found_of t (limited r.m) 96).number ≡ host_number b (length out))
    × (searched t r.m ++ drop (512 * blocks edition_one (row_count t)) out ≡ host_into b out)
handed_searched b words r h out l =
    let work = host_searched b out h.read l in
    rw (h.table, h.cores, ← h.size) (sym work.0, sym work.1)
