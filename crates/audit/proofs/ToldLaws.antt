-- Laws of the checkers' answers as the code tells them: a refused table and a group's members answer as the definitions say, and the
-- numbers, rows, levels and used that the definitions answer tell which answer it was, so that the contracts leave no choice.
-- Assumes nothing.
use Rattle.std.specs.Prelude.{ℕ, ◌≤◌, ◌≡◌, ◌⊎◌, refl, true, false, cond, List, eqb, ltb, Option, Some, None, Result, Ok, Err}
use Rattle.std.proofs.Common.{sym, ap, ◌∙◌, inl, inr, ⊎_elim, arith}
use Rattle.std.proofs.lemmas.Bool.Decides.{eqb_tells}
use Rattle.sets.specs.BoolLaws.{either}
use Rattle.sets.specs.Sums.{some_below}
use Rattle.sets.specs.declared.Set.{Set}
use Rattle.rows.specs.Numbers.{done, order_fails, member_passes}
use Rattle.rows.specs.Table.{table_fault}
use Rattle.rows.specs.Told.{told_check}
use Rattle.rows.specs.declared.terms.Terms.{Terms}
use Rattle.rows.specs.declared.refusal.Refusal.{Refusal}
use Rattle.rows.specs.declared.refusal.Refusal.TheVariants.{TableLength, Cores, RowRange, Malformed, Unsound, ShortOutput, BookLength, BlockNumber, BlockCheck, Edition, BookField, Policy}
use Rattle.rows.proofs.TableLaws.{fault_most}
use Rattle.rows.proofs.RefusalLaws.{refused_not_done, refusal_told}
use Rattle.audit.specs.Audit.{OrderChecked, GroupChecked, order_checked_of, member_answer, group_checked_of}
use Rattle.audit.specs.Told.{told_order, told_group}
use Rattle.audit.specs.declared.orders.Failing.{Failing}
use Rattle.audit.proofs.OrderLaws.{order_refused}
use Rattle.audit.proofs.GroupLaws.{group_refused}
use Rattle.audit.proofs.AuditLaws.{order_cases, group_cases}

-- ---- a table refused

-- a table refused by its checks is refused so by both checkers
module _ (words : List ℕ) (terms : Terms) (why : Refusal) (fault : told_check (Err why) ≡ table_fault words terms.m) where
  pub order_told_refused : (o : List ℕ) → told_order (Err why) ≡ order_checked_of words terms o
  order_told_refused o = sym (rw (← fault) at (order_refused words terms o (rw (← fault) (refused_not_done why))))

  pub group_told_refused : (group : Set) → told_group (Err why) ≡ group_checked_of words terms group
  group_told_refused group = sym (rw (← fault) at (group_refused words terms group (rw (← fault) (refused_not_done why))))

-- ---- the members of a group

-- the row found is told as the definition answers it
pub member_told : (n r : ℕ) → told_group (Ok (some_below r n)) ≡ member_answer n r
member_told n r = ⊎_elim (λ (e : ltb r n ≡ true). rw e refl) (λ (e : ltb r n ≡ false). rw e refl) (either (ltb r n))

-- ---- told back

-- what an order's number, row, level and used tell
abbrev pub order_back : OrderChecked → Result (Option Failing) Refusal
order_back r =
    cond (eqb r.number done) (Ok None) (
    cond (eqb r.number order_fails) (Ok (Some (record { level = r.level; used = r.used })))
    (Err (refusal_told r.number r.row 0)))

-- what a group's number and row tell
abbrev pub group_back : GroupChecked → Result (Option ℕ) Refusal
group_back r =
    cond (eqb r.number done) (Ok None) (
    cond (eqb r.number member_passes) (Ok (Some r.row))
    (Err (refusal_told r.number r.row 0)))

-- nothing is lost of an answer 0, 1, 2, 3, 5 or 6
pub order_told_back : (r : Result (Option Failing) Refusal) → (told_order r).number ≤ 6 → order_back (told_order r) ≡ r
order_told_back (Ok None) most = refl
order_told_back (Ok (Some f)) most = refl
order_told_back (Err TableLength) most = refl
order_told_back (Err Cores) most = refl
order_told_back (Err (RowRange row)) most = refl
order_told_back (Err Malformed) most = refl
order_told_back (Err Unsound) most = refl
order_told_back (Err ShortOutput) most = refl
order_told_back (Err BookLength) most = refl
order_told_back (Err (BlockNumber block)) most = absurd (omega arith)
order_told_back (Err (BlockCheck block)) most = absurd (omega arith)
order_told_back (Err Edition) most = refl
order_told_back (Err BookField) most = refl
order_told_back (Err Policy) most = refl

-- nor of an answer 0, 1, 2, 3, 5 or 14
pub group_told_back : (r : Result (Option ℕ) Refusal) → ((told_group r).number ≤ 6) ⊎ ((told_group r).number ≡ member_passes)
    → group_back (told_group r) ≡ r
group_told_back (Ok None) most = refl
group_told_back (Ok (Some row)) most = refl
group_told_back (Err TableLength) most = refl
group_told_back (Err Cores) most = refl
group_told_back (Err (RowRange row)) most = refl
group_told_back (Err Malformed) most = refl
group_told_back (Err Unsound) most = refl
group_told_back (Err ShortOutput) most = refl
group_told_back (Err BookLength) most = refl
group_told_back (Err (BlockNumber block)) most = absurd (omega arith)
group_told_back (Err (BlockCheck block)) most = absurd (omega arith)
group_told_back (Err Edition) most = refl
group_told_back (Err BookField) most = refl
group_told_back (Err Policy) most = refl

-- ---- one answer alone fits each contract

module _ (words : List ℕ) (terms : Terms) where
  module _ (o : List ℕ) where
    order_most : (order_checked_of words terms o).number ≤ 6
    order_most =
        ⊎_elim
        (λ p. ⊎_elim (λ w. omega arith) (⊎_elim (λ w. omega (arith, w.0)) (λ w. omega (arith, w.0))) (order_cases words terms p.1 o))
        (λ p. rw (order_refused words terms o p.1) (omega (arith, fault_most words terms.m)))
        (eqb_tells (table_fault words terms.m).number done)

    pub order_determined : (r : Result (Option Failing) Refusal) → told_order r ≡ order_checked_of words terms o
        → r ≡ order_back (order_checked_of words terms o)
    order_determined r e = sym (order_told_back r (rw e order_most)) ∙ ap order_back e

  module _ (group : Set) where
    group_most : ((group_checked_of words terms group).number ≤ 6) ⊎ ((group_checked_of words terms group).number ≡ member_passes)
    group_most =
        ⊎_elim
        (λ p. ⊎_elim (λ w. inl (omega arith)) (⊎_elim (λ w. inl (omega (arith, w.0))) (λ w. inr w.0)) (group_cases words terms p.1 group))
        (λ p. inl (rw (group_refused words terms group p.1) (omega (arith, fault_most words terms.m))))
        (eqb_tells (table_fault words terms.m).number done)

    pub group_determined : (r : Result (Option ℕ) Refusal) → told_group r ≡ group_checked_of words terms group
        → r ≡ group_back (group_checked_of words terms group)
    group_determined r e = sym (group_told_back r (rw e group_most)) ∙ ap group_back e
