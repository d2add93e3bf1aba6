-- Laws of the listing: its lines by the masks that the code holds, the listing of a table by what the search answers, and of a book by what reading answers.
-- Assumes nothing.
use Rattle.std.specs.Prelude.{ℕ, zero, suc, ◌+◌, ◌*◌, ◌/◌, ◌≤◌, ◌<◌, ◌≡◌, ◌⊎◌, Bool, true, false, ◌||◌, List, [], ◌∷◌, ◌++◌, Err, eqb, length, get_or, take}
use Rattle.std.proofs.Common.{sym, ◌∙◌, inl, inr, ⊎_elim, arith, eq-or-lt_of_le, add-one, take-suc, eq-eqb, ne_eqb}
use Rattle.std.proofs.Math.Path.{refl, ap}
use Rattle.rows.specs.Board.{board_of, limited}
use Rattle.rows.specs.Judge.{Check, judge}
use Rattle.rows.specs.Numbers.{done, blocked}
use Rattle.sets.specs.Sets.{has, mask, set_of, none, with_row, without_row, without}
use Rattle.sets.specs.SetLaws.{has_set_of, has_without, set_ext}
use Rattle.rows.specs.Table.{table, row_count, table_fault}
use Rattle.rows.proofs.TableLaws.{row_count_most}
use Rattle.rows.proofs.RefusalLaws.{refused_not_done}
use Rattle.rows.specs.declared.refusal.Refusal.{Refusal}
use Rattle.sets.specs.declared.Set.{Set}
use Rattle.rows.specs.JudgeLaws.{Passed, judge_works}
use Rattle.test.proofs.TestLaws.{used_ext}
use Rattle.search.proofs.ToldLaws.{refused_not_blocked}
use Rattle.search.specs.Search.{elem}
use Rattle.search.specs.Demand.{among}
use Rattle.search.specs.Answers.{placed_of, found_of}
use Rattle.search.specs.Told.{told_search}
use Rattle.search.proofs.CallLaws.{placed_most, found_blocked, found_done}
use Rattle.search.specs.declared.call.Found.{Found}
use Rattle.book.specs.Layout.{edition_one}
use Rattle.book.specs.Read.{content, read_checks, each_block, block_checks, head_checks, body_checks, refused, taken, read_of}
use Rattle.book.proofs.BookLaws.{Handed, read_handed}
use Rattle.book.specs.Read.{BookRead}
use Rattle.report.specs.Text.{lines}
use Rattle.report.specs.Listing.{order_word, blocked_word, header, row_text, row_line, at_level, level_line, member_line, listed, refused_text, listing_of}

-- ---- lines

module _ (words : List ℕ) (m : ℕ) where
  -- a line looks at no other rows above than those of the table
  row_ext : (H G : ℕ → Bool) (k : ℕ) → ((i : ℕ) → i < 128 → H i ≡ G i) → row_line words m H k ≡ row_line words m G k
  unfolding row_line
  row_ext H G k same =
      let t = table words in
      ap (row_text k (t k))
      (used_ext (board_of words (limited m)) t H G (λ i l. same i (omega (arith, row_count_most words))) (λ i l e. refl) k refl)

  -- the rows above as a mask
  pub level_line_lem : (order : List ℕ) (j : ℕ)
      → at_level (j + 1) (row_line words m (has (set_of (among (take j order)))) (get_or order j 0)) ≡ level_line words m order j
  unfolding level_line
  level_line_lem order j =
      ap (at_level (j + 1)) (row_ext (has (set_of (among (take j order)))) (among (take j order)) (get_or order j 0) (has_set_of (among (take j order))))

  pub member_line_lem : (group : Set) (i : ℕ) → has group i ≡ true → row_line words m (has (without_row group i)) i ≡ member_line words m (has group) i
  unfolding member_line
  member_line_lem group i e = row_ext (has (without_row group i)) (without (has group) i) i (has_without group i) ∙ rw e refl

  pub no_member : (group : Set) (i : ℕ) → has group i ≡ false → member_line words m (has group) i ≡ []
  unfolding member_line
  no_member group i e = rw e refl

-- ---- the rows above, level by level

or_none : (a : Bool) → a || false ≡ a
or_none true = refl
or_none false = refl

or_assoc : (a b c : Bool) → a || (b || c) ≡ (a || b) || c
or_assoc true b c = refl
or_assoc false b c = refl

elem_last : (i x : ℕ) (a : List ℕ) → elem i (a ++ (x ∷ [])) ≡ elem i a || eqb i x
elem_last i x [] = or_none (eqb i x)
elem_last i x (y ∷ a) = rw (elem_last i x a) (or_assoc (eqb i y) (elem i a) (eqb i x))

pub none_above : (order : List ℕ) → none ≡ set_of (among (take 0 order))
unfolding set_of mask
none_above order = refl

pub next_above : (order : List ℕ) (j : ℕ) → j < length order
    → with_row (set_of (among (take j order))) (get_or order j 0) ≡ set_of (among (take (j + 1) order))
next_above order j h =
    let p = take j order in
    let k = get_or order j 0 in
    set_ext (λ i. has (set_of (among p)) i || eqb i k) (among (take (j + 1) order))
    (λ i l.
    ap (λ (b : Bool). b || eqb i k) (has_set_of (among p) i l) ∙ sym (elem_last i k p)
    ∙ ap (elem i) (sym (ap (λ (x : ℕ). take x order) (add-one j) ∙ take-suc order j 0 h)))

-- ---- the listing of a table by what the search answers

module _ (words : List ℕ) (m : ℕ) (found : Found) (e : found ≡ found_of words (limited m) 96) where
  pub listed_order : found.number ≡ done
      → (let order = placed_of (board_of words (limited m)) in
      listed words m ≡ header order_word words m found.tests ++ lines (length order) (level_line words m order))
  unfolding listed
  listed_order h = rw (← e, eq-eqb found.number done h) refl

  pub listed_group : (found.number ≡ done → ⊥)
      → listed words m ≡ header blocked_word words m found.tests ++ lines (row_count words) (member_line words m (has found.group))
  unfolding listed
  listed_group h = rw (← e, ne_eqb found.number done h) refl

-- ---- the checks of reading

-- every number is one of two digits and not 0
abbrev Numbered : List Check → Type 0
Numbered [] = Unit {0}
Numbered (c ∷ cs) = (1 ≤ c.number) × (c.number < 100) × Numbered cs

numbered_append : (cs ds : List Check) → Numbered cs → Numbered ds → Numbered (cs ++ ds)
numbered_append [] ds p q = q
numbered_append (c ∷ cs) ds p q = (p.0, p.1, numbered_append cs ds p.2 q)

numbered_blocks : (b : List ℕ) (k d : ℕ) → Numbered (each_block b k d)
numbered_blocks b k zero = tt
numbered_blocks b k (suc d) = (omega arith, omega arith, (omega arith, omega arith, numbered_blocks b (suc k) d))

numbered_read : (b : List ℕ) (room : ℕ) → Numbered (read_checks edition_one b room)
unfolding block_checks head_checks body_checks
numbered_read b room =
    let x = content edition_one b in
    numbered_append (block_checks b) (head_checks edition_one x b ++ body_checks edition_one x b room)
    (omega arith, omega arith, numbered_blocks b 0 (length b / 512)) (
      omega arith,
      omega arith,
      (
        omega arith,
        omega arith,
        (
          omega arith,
          omega arith,
          (
            omega arith,
            omega arith,
            (omega arith, omega arith, (omega arith, omega arith, (omega arith, omega arith, tt))),
          ),
        ),
      ),
    )

-- all checks passed, or the first that did not gives the answer
data Ends (cs : List Check) : Type 1 where
  through : Passed cs → Ends cs
  stopped : (i p : ℕ) → 1 ≤ i → i < 100 → ((A : Type 0) (refuse : ℕ → ℕ → A) (work : A) → judge cs refuse work ≡ refuse i p) → Ends cs

ends : (cs : List Check) → Numbered cs → Ends cs
ends [] n = through tt
ends (c ∷ cs) n = go c.passed refl (ends cs n.2)
  where
    go : (b : Bool) → c.passed ≡ b → Ends cs → Ends (c ∷ cs)
    go true e (through p) = through (e, p)
    go true e (stopped i p s l f) = stopped i p s l (λ A refuse work. rw e (f A refuse work))
    go false e r = stopped c.number c.place n.0 n.1 (λ A refuse work. rw e refl)

-- ---- the listing by what reading answers

pub data Cases (b : List ℕ) : Type 0 where
  unread : (read_of b 288).number < 100 → ((read_of b 288).number ≡ done → ⊥) → listing_of b ≡ refused_text (read_of b 288).number → Cases b
  read : (read_of b 288).number ≡ done → listing_of b ≡ listed (content edition_one b).table (content edition_one b).m → Cases b

pub listing_cases : (b : List ℕ) → Cases b
unfolding listing_of read_of
listing_cases b = go (ends (read_checks edition_one b 288) (numbered_read b 288))
  where
    go : Ends (read_checks edition_one b 288) → Cases b
    go (through p) =
        let cs = read_checks edition_one b 288 in
        read (ap (λ (r : BookRead). r.number) (judge_works cs refused (taken (content edition_one b)) p)) (judge_works cs _ _ p)
    go (stopped i p s l f) =
        let number : (read_of b 288).number ≡ i = ap (λ (r : BookRead). r.number) (f BookRead refused (taken (content edition_one b))) in
        unread (omega arith) (λ z. omega arith) (f (List ℕ) _ _ ∙ ap refused_text (sym number))

-- where reading answered r
pub listing_refused : (b : List ℕ) (r : BookRead) → r ≡ read_of b 288 → (r.number ≡ done → ⊥) → listing_of b ≡ refused_text r.number
listing_refused b r e h = rw e (go (listing_cases b))
  where
    go : Cases b → listing_of b ≡ refused_text (read_of b 288).number
    go (unread l f t) = t
    go (read d t) = absurd (h (ap (λ (x : BookRead). x.number) e ∙ d))

pub listing_read : (b words : List ℕ) (r : BookRead) → Handed b 288 words r → listing_of b ≡ listed (take (3 * r.n) words) r.m
listing_read b words r h = rw (h.table, h.cores) (go (listing_cases b))
  where
    go : Cases b → listing_of b ≡ listed (content edition_one b).table (content edition_one b).m
    go (unread l f t) = absurd (f h.read)
    go (read d t) = t

-- ---- the search of a table that passed its checks

module _ (words : List ℕ) (m : ℕ) (fair : (table_fault words m).number ≡ done) where
  -- it answers 0 or 4
  answers : ((found_of words (limited m) 96).number ≡ done) ⊎ ((found_of words (limited m) 96).number ≡ blocked)
  answers =
      ⊎_elim
      (λ (e : length (placed_of (board_of words (limited m))) ≡ row_count words).
      inl (ap (λ (f : Found). f.number) (found_done words (limited m) 96 fair (row_count_most words) e)))
      (λ (l : length (placed_of (board_of words (limited m))) < row_count words).
      inr (ap (λ (f : Found). f.number) (found_blocked words (limited m) 96 fair (row_count_most words) l)))
      (eq-or-lt_of_le (placed_most (board_of words (limited m))))

  -- and so does not refuse
  pub not_refused : (why : Refusal) → told_search (Err why) ≡ found_of words (limited m) 96 → ⊥
  not_refused why e =
      let number = ap (λ (f : Found). f.number) e in
      ⊎_elim (λ d. refused_not_done why (number ∙ d)) (λ b. refused_not_blocked why (number ∙ b)) answers

-- of a book that was read the search answers 0 or 4, so that BLOCKED stands for 4 alone
pub searched : (b : List ℕ) → (read_of b 288).number ≡ done
    → let found = found_of (content edition_one b).table (limited (content edition_one b).m) 96 in (found.number ≡ done) ⊎ (found.number ≡ blocked)
searched b h = answers (content edition_one b).table (content edition_one b).m (read_handed b h).fair
