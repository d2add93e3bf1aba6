-- Laws of the tally: it starts with nothing known, a sum that is found is kept, and what a row that is placed takes comes off the sums of the others.
-- Assumes nothing.
use Rattle.std.specs.Prelude.{ℕ, suc, ◌+◌, ◌-◌, ◌≤◌, ◌<◌, ◌≡◌, true, false, List, eqb, length, get_or, set, replicate}
use Rattle.std.proofs.Common.{sym, ◌∙◌, ⊎_elim, arith, ne_of_lt, length-set, get_or-set_same, get_or-set_other, eqb-true}
use Rattle.std.proofs.lemmas.Bool.{eqb-false}
use Rattle.std.proofs.lemmas.List.{length-replicate, get_or-replicate}
use Rattle.sets.specs.BoolLaws.{either, not_both}
use Rattle.sets.specs.NumberLaws.{below_next}
use Rattle.sets.specs.Sets.{has, without, without_row}
use Rattle.sets.specs.SetLaws.{has_without, without_in, without_other, without_at, without_swap}
use Rattle.rows.specs.Table.{table, row_count}
use Rattle.rows.proofs.TableLaws.{row_count_most, row_count_bits}
use Rattle.sets.specs.declared.Set.{Set}
use Rattle.test.specs.Test.{plain_on}
use Rattle.test.proofs.TestLaws.{plain_sum_less, plain_sum_ext}
use Rattle.search.specs.Tally.{IsLeft, unknown, left_sum, Known, Tallied}

pub tally_fresh : (words : List ℕ) (left : Set) (x : ℕ) → unknown ≤ x → Tallied words left (replicate 96 x)
tally_fresh words left x more =
    record {
      size = length-replicate {A = ℕ} 96 x;
      known = λ k l h less. absurd (omega (arith, get_or-replicate {A = ℕ} 96 k x 0 (omega (arith, row_count_most words))));
    }

-- an entry is stored, which is the row's sum or stands for one that is not known
pub tally_kept : {words : List ℕ} {left : Set} {sums : List ℕ} → Tallied words left sums → (k x : ℕ) → k < row_count words
    → (x < unknown → x ≡ left_sum words left k) → Tallied words left (set sums k x)
tally_kept {words} {left} {sums} t k x l sum =
    let here = get_or-set_same sums k x 0 (omega (arith, t.size, row_count_most words)) in
    record {
      size = simp length-set t.size;
      known = λ j q h less.
          ⊎_elim
          (λ (b : eqb j k ≡ true). rw (eqb-true j k b) (here ∙ sum (rw (eqb-true j k b, here) at less)))
          (λ (b : eqb j k ≡ false).
          let same = get_or-set_other sums k j x 0 (eqb-false j k b) in
          same ∙ t.known j q h (rw same at less))
          (either (eqb j k));
    }

-- ---- a row that is placed

module _ (words : List ℕ) where
  -- what row k takes from another row comes off its sum
  pub sum_off : (left : Set) (k j : ℕ) → k < row_count words → has left k ≡ true → (j ≡ k → ⊥)
      → left_sum words left j ≡ left_sum words (without_row left k) j + plain_on (table words) j k
  sum_off left k j l there other =
      let n = row_count words in
      let H = has (without_row left j) in
      let same : (i : ℕ) → i < n → has (without_row (without_row left k) j) i ≡ without H k i = λ i q.
      let r : i < 128 = omega (arith, row_count_bits words) in
      has_without (without_row left k) j i r ∙ without_at (has (without_row left k)) (without (has left) k) j i (has_without left k i r)
      ∙ without_swap (has left) k j i ∙ sym (without_at H (without (has left) j) k i (has_without left j i r))
      in
      let in-H : H k ≡ true = has_without left j k (omega (arith, row_count_bits words)) ∙ without_other (has left) j k (λ e. other (sym e)) ∙ there in
      rw (plain_sum_ext n (table words) (has (without_row (without_row left k) j)) (without H k) j same)
      (sym (plain_sum_less n (table words) H j k l in-H))

  -- A walk over the rows of `rest` has come to row p: those before it have their sums, and the entries of the others still hold what row k
  -- takes, where they are known.
  pub record Taking (rest : Set) (k : ℕ) (sums : List ℕ) (p : ℕ) : Type 0 where
    pub size : length sums ≡ 96
    pub before : (j : ℕ) → j < p → Known words rest sums j
    pub ahead : (j : ℕ) → j < row_count words → p ≤ j → has rest j ≡ true → get_or sums j 0 < unknown
        → get_or sums j 0 ≡ left_sum words rest j + plain_on (table words) j k

  pub taking_start : {left : Set} {sums : List ℕ} (k : ℕ) → Tallied words left sums → IsLeft (row_count words) left k
      → Taking (without_row left k) k sums 0
  taking_start {left} {sums} k t l =
      record {
        size = t.size;
        before = λ j q. absurd (omega arith);
        ahead = λ j q _ h less.
            let w = without_in (has left) k j (sym (has_without left k j (omega (arith, row_count_bits words))) ∙ h) in
            t.known j q w.0 less ∙ sum_off left k j l.0 l.1 (eqb-false j k w.1);
      }

  pub taking_skip : (rest : Set) (k : ℕ) (sums : List ℕ) (j : ℕ) → has rest j ≡ false → Taking rest k sums j → Taking rest k sums (suc j)
  taking_skip rest k sums j off w =
      record {
        size = w.size;
        before = below_next (Known words rest sums) j w.before (λ h less. not_both h off);
        ahead = λ i q l. w.ahead i q (omega arith);
      }

  module _ {rest : Set} {k : ℕ} {sums : List ℕ} {i : ℕ} (l : i < row_count words) (member : has rest i ≡ true) (w : Taking rest k sums i) where
    -- an entry that is known has room for what row k takes
    pub taking_fits : get_or sums i 0 < unknown → plain_on (table words) i k ≤ get_or sums i 0
    taking_fits less = omega (arith, w.ahead i l (omega arith) member less)

    -- one row further: its entry is not known, or less by what row k takes
    pub taking_unknown : unknown ≤ get_or sums i 0 → Taking rest k sums (suc i)
    taking_unknown more =
        record {
          size = w.size;
          before = below_next (Known words rest sums) i w.before (λ h less. absurd (omega arith));
          ahead = λ j q m. w.ahead j q (omega arith);
        }

    pub taking_less : (x : ℕ) → x ≡ plain_on (table words) i k → get_or sums i 0 < unknown → Taking rest k (set sums i (get_or sums i 0 - x)) (suc i)
    taking_less x e less =
        let y = get_or sums i 0 - x in
        let here : get_or (set sums i y) i 0 ≡ y = get_or-set_same sums i y 0 (omega (arith, w.size, row_count_most words)) in
        let there : (j : ℕ) → (j ≡ i → ⊥) → get_or (set sums i y) j 0 ≡ get_or sums j 0 = λ j z. get_or-set_other sums i j y 0 z in
        record {
          size = simp length-set w.size;
          before =
              below_next (Known words rest (set sums i y)) i
              (λ j q h o. let same = there j (ne_of_lt q) in same ∙ w.before j q h (rw same at o))
              (λ h o. here ∙ omega (arith, w.ahead i l (omega arith) h less));
          ahead = λ j q m h o.
              let same = there j (λ u. ne_of_lt m (sym u)) in
              same ∙ w.ahead j q (omega arith) h (rw same at o);
        }

  pub taking_end : {rest : Set} {k : ℕ} {sums : List ℕ} → Taking rest k sums (row_count words) → Tallied words rest sums
  taking_end w = record { size = w.size; known = w.before }
