-- Laws of a form that the code took before: a pass over the rows left by `next`, where it now is a walk by `rows`.
-- They hold still, so that whoever cited them finds them; the last laws tie them to the present form.
-- Assumes nothing.
use Rattle.std.specs.Prelude.{ℕ, suc, ◌+◌, ◌-◌, ◌≤◌, ◌<◌, ◌≡◌, true, false, List, length, get_or, set}
use Rattle.std.proofs.Common.{sym, ◌∙◌, ⊎_elim, arith, ne_of_lt, length-set, get_or-set_same, get_or-set_other}
use Rattle.std.proofs.lemmas.Bool.{eqb-false}
use Rattle.sets.specs.BoolLaws.{not_both}
use Rattle.sets.specs.NumberLaws.{le_or_lt, below_next}
use Rattle.sets.specs.PassLaws.{Pass, next, next_from, pass_start, pass_next, pass_here, pass_end}
use Rattle.sets.specs.SumLaws.{first_is}
use Rattle.sets.specs.Sets.{has, without_row}
use Rattle.sets.specs.SetLaws.{has_without, without_in}
use Rattle.rows.specs.Table.{table, row_count}
use Rattle.rows.proofs.TableLaws.{row_count_most, row_count_bits}
use Rattle.sets.specs.declared.Set.{Set}
use Rattle.test.specs.Test.{plain_on}
use Rattle.search.specs.Tally.{unknown, left_sum, Known, Tallied}
use Rattle.search.specs.TallyLaws.{sum_off, Taking as PresentTaking}

module _ (words : List ℕ) where
  -- the rows before row p have their sums
  abbrev pub Before : Set → List ℕ → ℕ → Type 0
  Before rest sums p = (j : ℕ) → j < p → Known words rest sums j

  before_skip : (rest : Set) (sums : List ℕ) (j : ℕ) → has rest j ≡ false → Before rest sums j → Before rest sums (suc j)
  before_skip rest sums j off before = below_next (Known words rest sums) j before (λ h less. not_both h off)

  -- A pass over the rows of `rest` stands at row i: those before it have their sums, and the entries of the others still hold what row k
  -- takes, where they are known.
  pub record Taking (rest : Set) (k : ℕ) (sums : List ℕ) (i : ℕ) : Type 0 where
    pub size : length sums ≡ 96
    pub pass : Pass (has rest) (row_count words) (Before rest sums) i
    pub ahead : (j : ℕ) → j < row_count words → i ≤ j → has rest j ≡ true → get_or sums j 0 < unknown
        → get_or sums j 0 ≡ left_sum words rest j + plain_on (table words) j k

  pub taking_start : {left : Set} {sums : List ℕ} (k : ℕ) → Tallied words left sums → k < row_count words → has left k ≡ true
      → Taking (without_row left k) k sums (next (has (without_row left k)) 0)
  taking_start {left} {sums} k t l there =
      let rest = without_row left k in
      record {
        size = t.size;
        pass = pass_start (has rest) (row_count words) (Before rest sums) (row_count_bits words) (before_skip rest sums) (λ j q. absurd (omega arith));
        ahead = λ j q _ h less.
            let w = without_in (has left) k j (sym (has_without left k j (omega (arith, row_count_bits words))) ∙ h) in
            t.known j q w.0 less ∙ sum_off words left k j l there (eqb-false j k w.1);
      }

  module _ {rest : Set} {k : ℕ} {sums : List ℕ} {i : ℕ} (w : Taking rest k sums i) (q : i < row_count words) where
    -- an entry that is known has room for what row k takes
    pub taking_fits : get_or sums i 0 < unknown → plain_on (table words) i k ≤ get_or sums i 0
    taking_fits less = omega (arith, w.ahead i q (omega arith) (w.pass.member q) less)

    -- one row further: its entry is not known, or less by what row k takes
    pub taking_unknown : unknown ≤ get_or sums i 0 → Taking rest k sums (next (has rest) (i + 1))
    taking_unknown more =
        record {
          size = w.size;
          pass = pass_next (has rest) (row_count words) (Before rest sums) (row_count_bits words) (before_skip rest sums) i q
              (below_next (Known words rest sums) i (pass_here w.pass q) (λ h less. absurd (omega arith)));
          ahead = λ j p l. w.ahead j p (omega (arith, next_from (has rest) (i + 1)));
        }

    pub taking_less : (x : ℕ) → x ≡ plain_on (table words) i k → get_or sums i 0 < unknown
        → Taking rest k (set sums i (get_or sums i 0 - x)) (next (has rest) (i + 1))
    taking_less x e less =
        let y = get_or sums i 0 - x in
        let here : get_or (set sums i y) i 0 ≡ y = get_or-set_same sums i y 0 (omega (arith, w.size, row_count_most words)) in
        let there : (j : ℕ) → (j ≡ i → ⊥) → get_or (set sums i y) j 0 ≡ get_or sums j 0 = λ j z. get_or-set_other sums i j y 0 z in
        record {
          size = simp length-set w.size;
          pass = pass_next (has rest) (row_count words) (Before rest (set sums i y)) (row_count_bits words) (before_skip rest (set sums i y)) i q
              (below_next (Known words rest (set sums i y)) i
              (λ j p h o. let same = there j (ne_of_lt p) in same ∙ pass_here w.pass q j p h (rw same at o))
              (λ h o. here ∙ omega (arith, w.ahead i q (omega arith) (w.pass.member q) less)));
          ahead = λ j p l h o.
              let behind : i < j = omega (arith, next_from (has rest) (i + 1)) in
              let same = there j (λ z. ne_of_lt behind (sym z)) in
              same ∙ w.ahead j p (omega arith) h (rw same at o);
        }

  pub taking_end : {rest : Set} {k : ℕ} {sums : List ℕ} {i : ℕ} → Taking rest k sums i → row_count words ≤ i → Tallied words rest sums
  taking_end w h = record { size = w.size; known = pass_end w.pass h }

-- ---- the present form, told in this one

module _ {words : List ℕ} {rest : Set} {k : ℕ} {sums : List ℕ} {p : ℕ} where
  -- where a walk has come to row p, a pass stands at the first row of `rest` from p on, which is p where p is in it
  pub taking_told : PresentTaking words rest k sums p → Taking words rest k sums (next (has rest) p)
  taking_told w =
      let f = first_is (has rest) (128 - p) p in
      record {
        size = w.size;
        pass =
            record {
              member = λ l. f.found (omega (arith, f.from, row_count_bits words));
              passed = λ j l.
                  ⊎_elim (λ (q : p ≤ j). λ h. not_both h (f.before j q (omega arith))) (λ (q : j < p). w.before j q) (le_or_lt p j);
            };
        ahead = λ j l q. w.ahead j l (omega (arith, f.from));
      }

  -- and back, at each row that a walk comes to
  pub taking_back : p ≤ row_count words → Taking words rest k sums (next (has rest) p) → PresentTaking words rest k sums p
  taking_back few w =
      let f = first_is (has rest) (128 - p) p in
      record {
        size = w.size;
        before = λ j l. w.pass.passed j (omega (arith, f.from));
        ahead = λ j l q h.
            ⊎_elim (λ (o : next (has rest) p ≤ j). w.ahead j l o h) (λ (o : j < next (has rest) p). not_both h (f.before j q o))
            (le_or_lt (next (has rest) p) j);
      }
