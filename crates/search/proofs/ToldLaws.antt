-- Laws of the answers of the search and of a step as document 01 tells them: what a refused table answers, and that what is told is one answer,
-- so that the contract determines the result.
-- Assumes nothing.
use Rattle.std.specs.Prelude.{ℕ, ◌≡◌, refl, Bool, true, false, cond, List, length, Result, Ok, Err, eqb, leb}
use Rattle.std.proofs.Common.{sym, ap, ap₂, subst, ◌∙◌, ⊎_elim, arith, eqb-true, leb-true, leb-false}
use Rattle.std.proofs.lemmas.Bool.{eqb-false}
use Rattle.sets.specs.BoolLaws.{either}
use Rattle.sets.specs.Sets.{none}
use Rattle.sets.specs.declared.Set.{Set}
use Rattle.rows.specs.Numbers.{done, blocked, unfinished, block_number, block_check, policy}
use Rattle.rows.specs.Table.{row_count, table_fault}
use Rattle.rows.specs.Board.{Board, board_of}
use Rattle.rows.specs.Told.{told_check}
use Rattle.rows.specs.Refusals.{refusal_number, refusal_row, refusal_block}
use Rattle.rows.proofs.RefusalLaws.{refused_not_done, refusal_told, told_back, told_one}
use Rattle.rows.proofs.TableLaws.{fault_most}
use Rattle.rows.specs.declared.refusal.Refusal.{Refusal}
use Rattle.rows.specs.declared.refusal.Refusal.TheVariants.{Policy}
use Rattle.rows.specs.declared.terms.Terms.{Terms}
use Rattle.search.specs.Search.{Progress, rows_below, finished}
use Rattle.search.specs.State.{progress_of, sound}
use Rattle.search.specs.Answers.{Stepped, search_of, run_of, number_of, found_of, handed_back, work_of, stepped_of}
use Rattle.search.specs.StepLaws.{step_refused, step_unsound, step_work}
use Rattle.search.specs.Told.{told_search, told_number, told_row, told_group, told_step}
use Rattle.search.specs.declared.call.Found.{Found}
use Rattle.search.specs.declared.call.Searched.{Searched}
use Rattle.search.specs.declared.call.Searched.TheVariants.{Order, Blocked}
use Rattle.search.specs.declared.state.State.{State}
use Rattle.search.specs.declared.steps.Outcome.{Outcome}
use Rattle.search.specs.declared.steps.Outcome.TheVariants.{Order as Ordered, Blocked as Stranded, Unfinished}
use Rattle.search.specs.declared.steps.Stepped.{Stepped as Step}
use Rattle.search.proofs.CallLaws.{found_refused, found_short, found_searched}

module _ (words : List ℕ) (terms : Terms) (why : Refusal) (fault : told_check (Err why) ≡ table_fault words terms.m) where
  fails : (table_fault words terms.m).number ≡ done → ⊥
  fails = rw (← fault) (refused_not_done why)

  -- a table refused by its checks is refused so by the search, and by a step
  pub search_told_refused : (room : ℕ) → told_search (Err why) ≡ found_of words terms room
  search_told_refused room = sym (rw (← fault) at (found_refused words terms room fails))

  pub step_told_refused : (s : State) (quota : ℕ) → stepped_of words terms s quota ≡ handed_back s (refusal_number why) (refusal_row why)
  step_told_refused s quota = rw (← fault) at (step_refused words terms s quota fails)

-- ---- what is told is one answer

-- 4 and 15 are no refusal's numbers
not_refused : (k : ℕ) (r : Refusal) → (k ≡ policy → ⊥) → refusal_told k (refusal_row r) (refusal_block r) ≡ Policy → refusal_number r ≡ k → ⊥
not_refused k r other t e =
    let is : r ≡ Policy = sym (told_back r) ∙ ap (λ (n : ℕ). refusal_told n (refusal_row r) (refusal_block r)) e ∙ t in
    other (sym e ∙ ap refusal_number is)

pub refused_not_blocked : (r : Refusal) → refusal_number r ≡ blocked → ⊥
refused_not_blocked r = not_refused blocked r (λ e. omega arith) refl

refused_not_unfinished : (r : Refusal) → refusal_number r ≡ unfinished → ⊥
refused_not_unfinished r = not_refused unfinished r (λ e. omega arith) refl

-- neither 10 nor 11, whose refusals name a block, which is not told here
abbrev pub NoBlock : ℕ → Type 0
NoBlock number = (number ≡ block_number → ⊥) × (number ≡ block_check → ⊥)

-- two answers of the search that are told alike are one
pub search_one : (x y : Result Searched Refusal) → NoBlock (told_search x).number → told_search x ≡ told_search y → x ≡ y
search_one (Ok (Order t)) (Ok (Order u)) h e = ap (λ (f : Found). Ok (Order f.tests)) e
search_one (Ok (Order t)) (Ok (Blocked g u)) h e = absurd (omega (arith, ap (λ (f : Found). f.number) e))
search_one (Ok (Order t)) (Err s) h e = absurd (refused_not_done s (sym (ap (λ (f : Found). f.number) e)))
search_one (Ok (Blocked g t)) (Ok (Order u)) h e = absurd (omega (arith, ap (λ (f : Found). f.number) e))
search_one (Ok (Blocked g t)) (Ok (Blocked k u)) h e = ap (λ (f : Found). Ok (Blocked f.group f.tests)) e
search_one (Ok (Blocked g t)) (Err s) h e = absurd (refused_not_blocked s (sym (ap (λ (f : Found). f.number) e)))
search_one (Err r) (Ok (Order u)) h e = absurd (refused_not_done r (ap (λ (f : Found). f.number) e))
search_one (Err r) (Ok (Blocked k u)) h e = absurd (refused_not_blocked r (ap (λ (f : Found). f.number) e))
search_one (Err r) (Err s) h e =
    ap {B = Result Searched Refusal} Err (told_one r s h.0 h.1 (ap (λ (f : Found). f.number) e) (ap (λ (f : Found). f.row) e))

-- two outcomes of a step that are told alike are one
outcome_one : (x y : Result Outcome Refusal) → NoBlock (told_number x) → told_number x ≡ told_number y → told_row x ≡ told_row y → told_group x ≡ told_group y
    → x ≡ y
outcome_one (Ok Ordered) (Ok Ordered) h n r g = refl
outcome_one (Ok Ordered) (Ok (Stranded l)) h n r g = absurd (omega arith)
outcome_one (Ok Ordered) (Ok Unfinished) h n r g = absurd (omega arith)
outcome_one (Ok Ordered) (Err s) h n r g = absurd (refused_not_done s (sym n))
outcome_one (Ok (Stranded k)) (Ok Ordered) h n r g = absurd (omega arith)
outcome_one (Ok (Stranded k)) (Ok (Stranded l)) h n r g = ap (λ (x : Set). Ok (Stranded x)) g
outcome_one (Ok (Stranded k)) (Ok Unfinished) h n r g = absurd (omega arith)
outcome_one (Ok (Stranded k)) (Err s) h n r g = absurd (refused_not_blocked s (sym n))
outcome_one (Ok Unfinished) (Ok Ordered) h n r g = absurd (omega arith)
outcome_one (Ok Unfinished) (Ok (Stranded l)) h n r g = absurd (omega arith)
outcome_one (Ok Unfinished) (Ok Unfinished) h n r g = refl
outcome_one (Ok Unfinished) (Err s) h n r g = absurd (refused_not_unfinished s (sym n))
outcome_one (Err q) (Ok Ordered) h n r g = absurd (refused_not_done q n)
outcome_one (Err q) (Ok (Stranded l)) h n r g = absurd (refused_not_blocked q n)
outcome_one (Err q) (Ok Unfinished) h n r g = absurd (refused_not_unfinished q n)
outcome_one (Err q) (Err s) h n r g = ap {B = Result Outcome Refusal} Err (told_one q s h.0 h.1 n r)

-- and so of a step
pub step_one : (x y : Step) → NoBlock (told_step x).number → told_step x ≡ told_step y → x ≡ y
step_one x y h e =
    ap₂ (λ (answer : Result Outcome Refusal) (s : Stepped). record { answer = answer; tests = s.tests; state = s.state })
    (outcome_one x.answer y.answer h (ap (λ (s : Stepped). s.number) e) (ap (λ (s : Stepped). s.row) e) (ap (λ (s : Stepped). s.group) e)) e

-- ---- so the contracts determine the results

module _ (words : List ℕ) (terms : Terms) where
  abbrev b : Board
  b = board_of words terms

  fault_no_block : NoBlock (table_fault words terms.m).number
  fault_no_block = (λ e. omega (arith, fault_most words terms.m), λ e. omega (arith, fault_most words terms.m))

  number_no_block : (n : ℕ) (p : Progress) → NoBlock (number_of n p)
  unfolding number_of
  number_no_block n p = go (finished n (rows_below n) p) (eqb (length p.placed) n)
    where
      go : (f all : Bool) → NoBlock (cond f (cond all done blocked) unfinished)
      go true true = (λ e. omega arith, λ e. omega arith)
      go true false = (λ e. omega arith, λ e. omega arith)
      go false all = (λ e. omega arith, λ e. omega arith)

  found_no_block : (room : ℕ) → NoBlock (found_of words terms room).number
  found_no_block room =
      ⊎_elim
      (λ (f : eqb (table_fault words terms.m).number done ≡ true).
      let passed = eqb-true _ _ f in
      ⊎_elim (λ (l : leb b.n room ≡ true). rw (found_searched words terms room passed (leb-true b.n room l)) (number_no_block b.n (search_of b).progress))
      (λ (l : leb b.n room ≡ false). rw (found_short words terms room passed (leb-false b.n room l)) (λ e. omega arith, λ e. omega arith))
      (either (leb b.n room)))
      (λ (f : eqb (table_fault words terms.m).number done ≡ false). rw (found_refused words terms room (eqb-false _ _ f)) fault_no_block)
      (either (eqb (table_fault words terms.m).number done))

  pub search_determined : (room : ℕ) (x y : Result Searched Refusal) → told_search x ≡ found_of words terms room → told_search y ≡ found_of words terms room
      → x ≡ y
  search_determined room x y p q = search_one x y (rw p (found_no_block room)) (p ∙ sym q)

  stepped_no_block : (s : State) (quota : ℕ) → NoBlock (stepped_of words terms s quota).number
  unfolding work_of
  stepped_no_block s quota =
      ⊎_elim
      (λ (f : eqb (table_fault words terms.m).number done ≡ true).
      let passed = eqb-true _ _ f in
      ⊎_elim
      (λ (h : sound (row_count words) s ≡ true).
      rw (step_work words terms s quota passed h) (number_no_block b.n (run_of b quota (progress_of b.n s)).progress))
      (λ (h : sound (row_count words) s ≡ false). rw (step_unsound words terms s quota passed h) (λ e. omega arith, λ e. omega arith))
      (either (sound (row_count words) s)))
      (λ (f : eqb (table_fault words terms.m).number done ≡ false). rw (step_refused words terms s quota (eqb-false _ _ f)) fault_no_block)
      (either (eqb (table_fault words terms.m).number done))

  pub step_determined : (s : State) (quota : ℕ) (x y : Step) → told_step x ≡ stepped_of words terms s quota → told_step y ≡ stepped_of words terms s quota
      → x ≡ y
  step_determined s quota x y p q = step_one x y (subst (λ (t : Stepped). NoBlock t.number) (sym p) (stepped_no_block s quota)) (p ∙ sym q)

-- ---- what each answer is in the numbers of document 01, by themselves, so that no case is told for another

pub order_is_0 : (tests : ℕ) → told_search (Ok (Order tests)) ≡ record { number = 0; row = 0; group = none; tests = tests }
order_is_0 tests = refl

pub blocked_is_4 : (group : Set) (tests : ℕ) → told_search (Ok (Blocked group tests)) ≡ record { number = 4; row = 0; group = group; tests = tests }
blocked_is_4 group tests = refl

pub step_order_is_0 : (tests : ℕ) (s : State)
    → told_step (record { answer = Ok Ordered; tests = tests; state = s }) ≡ record { number = 0; row = 0; group = none; tests = tests; state = s }
step_order_is_0 tests s = refl

pub step_blocked_is_4 : (group : Set) (tests : ℕ) (s : State)
    → told_step (record { answer = Ok (Stranded group); tests = tests; state = s })
    ≡ record { number = 4; row = 0; group = group; tests = tests; state = s }
step_blocked_is_4 group tests s = refl

pub step_unfinished_is_15 : (tests : ℕ) (s : State)
    → told_step (record { answer = Ok Unfinished; tests = tests; state = s }) ≡ record { number = 15; row = 0; group = none; tests = tests; state = s }
step_unfinished_is_15 tests s = refl
