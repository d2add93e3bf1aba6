-- Laws of the check of a blocked group: what a group is, the lowest member that passes, and the answer by the check that decides it.
-- Assumes nothing.
use Rattle.std.specs.Prelude.{ℕ, ◌≤◌, ◌<◌, ◌≡◌, ◌↔◌, Bool, true, false, List, [], ◌∷◌, ltb}
use Rattle.std.proofs.Common.{◌∙◌, ⊎_elim, arith, ltb-true, ltb-false, lt-ltb, le-ltb}
use Rattle.std.proofs.Math.Path.{refl}
use Rattle.sets.specs.BoolLaws.{either, not_both, and_in, and_left, and_right}
use Rattle.rows.specs.Judge.{Check, check}
use Rattle.rows.specs.Numbers.{done, malformed, member_passes}
use Rattle.sets.specs.SumLaws.{first_is}
use Rattle.sets.specs.Sets.{has, without, size, within}
use Rattle.sets.specs.SetLaws.{within_iff}
use Rattle.rows.specs.Table.{row_count, table_fault}
use Rattle.rows.proofs.TableLaws.{judge_refused, judge_passed}
use Rattle.sets.specs.declared.Set.{Set}
use Rattle.rows.specs.Board.{board_of}
use Rattle.rows.specs.declared.terms.Terms.{Terms}
use Rattle.test.specs.Test.{passes}
use Rattle.search.specs.Search.{rows_below}
use Rattle.search.specs.Demand.{Blocked}
use Rattle.search.specs.Answers.{passing}
use Rattle.audit.specs.Audit.{is_group, lowest_passing, group_refusal, member_answer, group_checked_of}

-- ---- what a group is

pub record Group (n : ℕ) (group : Set) : Type 0 where
  pub some : 0 < size group
  pub inside : (i : ℕ) → has group i ≡ true → rows_below n i ≡ true

-- the test of a group takes the sets with a member and none but rows below n
pub is_group_iff : (n : ℕ) (group : Set) → (is_group n group ≡ true) ↔ Group n group
unfolding is_group
is_group_iff n group = (
  λ h.
      record {
        some = ltb-true 0 (size group) (and_left (ltb 0 (size group)) (within group n) h);
        inside =
            λ i e.
            ⊎_elim (λ (l : ltb i n ≡ true). l)
            (λ (l : ltb i n ≡ false).
            not_both e ((within_iff group n).0 (and_right (ltb 0 (size group)) (within group n) h) i (ltb-false i n l)))
            (either (ltb i n));
      },
  λ G.
      and_in (ltb 0 (size group)) (within group n) (lt-ltb 0 (size group) G.some)
      ((within_iff group n).1
      (λ i l.
      ⊎_elim (λ (e : has group i ≡ true). not_both (G.inside i e) (le-ltb i n l)) (λ (e : has group i ≡ false). e) (either (has group i)))),
)

-- ---- the lowest member that passes

-- a member that passes with the other members above it, every lower member failing
pub record LowestPasses (test : (ℕ → Bool) → ℕ → Bool) (G : ℕ → Bool) (row : ℕ) : Type 0 where
  pub member : G row ≡ true
  pub passes : test (without G row) row ≡ true
  pub lower_fail : (k : ℕ) → k < row → G k ≡ true → test (without G k) k ≡ false

module _ (test : (ℕ → Bool) → ℕ → Bool) (n : ℕ) (group : Set) where
  -- before the lowest that passes, members fail
  before_fails : (k : ℕ) → k < lowest_passing test n group → has group k ≡ true → test (without (has group) k) k ≡ false
  before_fails k l g = rw g at ((first_is (passing test (has group)) n 0).before k (omega arith) l)

  pub lowest_passes : lowest_passing test n group < n → LowestPasses test (has group) (lowest_passing test n group)
  lowest_passes l =
      let r = lowest_passing test n group in
      let p : passing test (has group) r ≡ true = (first_is (passing test (has group)) n 0).found (omega arith) in
      record {
        member = and_left (has group r) (test (without (has group) r) r) p;
        passes = and_right (has group r) (test (without (has group) r) r) p;
        lower_fail = before_fails;
      }

  -- of a group, none passes exactly when it is blocked
  pub none_passes_iff : Group n group → (n ≤ lowest_passing test n group) ↔ Blocked (rows_below n) test (has group)
  none_passes_iff G = (
    λ l. record { inside = G.inside; fails = λ k g. before_fails k (omega (arith, ltb-true k n (G.inside k g))) g },
    λ B.
        ⊎_elim
        (λ (e : ltb (lowest_passing test n group) n ≡ true).
        let p = lowest_passes (ltb-true (lowest_passing test n group) n e) in
        not_both p.passes (B.fails (lowest_passing test n group) p.member))
        (ltb-false (lowest_passing test n group) n)
        (either (ltb (lowest_passing test n group) n)),
  )

-- ---- the answer by the check that decides it

module _ (words : List ℕ) (terms : Terms) (group : Set) where
  abbrev lowest : ℕ
  lowest = lowest_passing (passes (board_of words terms)) (row_count words) group

  form : List Check
  form = check (is_group (row_count words) group) malformed ∷ []

  -- 1, 2, 3
  pub group_refused : ((table_fault words terms.m).number ≡ done → ⊥)
      → group_checked_of words terms group ≡ group_refusal (table_fault words terms.m).number (table_fault words terms.m).row
  unfolding group_checked_of form
  group_refused h = judge_refused words terms.m form group_refusal (member_answer (row_count words) lowest) h

  module _ (passed : (table_fault words terms.m).number ≡ done) where
    -- 5
    pub group_malformed : is_group (row_count words) group ≡ false → group_checked_of words terms group ≡ group_refusal malformed 0
    unfolding group_checked_of form
    group_malformed e = judge_passed words terms.m form group_refusal (member_answer (row_count words) lowest) passed ∙ rw e refl

    module _ (formed : is_group (row_count words) group ≡ true) where
      -- the work
      pub group_members : group_checked_of words terms group ≡ member_answer (row_count words) lowest
      unfolding group_checked_of form
      group_members =
          judge_passed words terms.m form group_refusal (member_answer (row_count words) lowest) passed ∙ rw formed refl

      -- 14
      pub group_member : lowest < row_count words → group_checked_of words terms group ≡ group_refusal member_passes lowest
      group_member l = group_members ∙ rw (lt-ltb lowest (row_count words) l) refl

      -- 0
      pub group_done : row_count words ≤ lowest → group_checked_of words terms group ≡ group_refusal done 0
      group_done l = group_members ∙ rw (le-ltb lowest (row_count words) l) refl
