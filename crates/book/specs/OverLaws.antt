-- A list written over another from its start.
-- Assumes nothing.
use Rattle.std.proofs.Math.Seq.{drop-length}
use Rattle.std.specs.Prelude.{ℕ, suc, ◌+◌, ◌≤◌, ◌<◌, ◌≡◌, List, ◌++◌, length, get_or, take, drop, set}
use Rattle.std.proofs.Common.{sym, ap, ◌∙◌, arith, add-one, take_all, take-suc, drop-cons, length-take-le, append-nil}
use Rattle.std.proofs.Math.Seq.{append_snoc}
use Rattle.std.proofs.lemmas.List.{set_at}

-- the first i elements of w, then those of d
abbrev pub over : List ℕ → List ℕ → ℕ → List ℕ
over w d i = take i w ++ drop i d

module _ (w d : List ℕ) (i : ℕ) (fit : length w ≤ length d) where
  pub over_set : i < length w → set (over w d i) i (get_or w i 0) ≡ over w d (i + 1)
  over_set h =
      rw (add-one i, drop-cons d i 0 (omega arith), take-suc w i 0 h)
      (set_at (take i w) (get_or d i 0) (drop (suc i) d) (get_or w i 0) i (length-take-le i w (omega arith))
      ∙ sym (append_snoc (take i w) (get_or w i 0) (drop (suc i) d)))

-- three at once
pub over_three : (w d : List ℕ) (i : ℕ) → length w ≤ length d → i + 3 ≤ length w
    → set (set (set (over w d i) i (get_or w i 0)) (i + 1) (get_or w (i + 1) 0)) (i + 2) (get_or w (i + 2) 0) ≡ over w d (i + 3)
over_three w d i fit h =
    let a : i + 1 + 1 ≡ i + 2 = omega arith in
    let b : i + 2 + 1 ≡ i + 3 = omega arith in
    rw (over_set w d i fit (omega arith))
    (ap (λ (o : List ℕ). set o (i + 2) (get_or w (i + 2) 0)) (over_set w d (i + 1) fit (omega arith) ∙ ap (over w d) a)
    ∙ over_set w d (i + 2) fit (omega arith) ∙ ap (over w d) b)

-- written whole: the list, and behind it what was there
pub over_all : (w d : List ℕ) (i : ℕ) → i ≡ length w → over w d i ≡ w ++ drop i d
over_all w d i e = ap (λ (t : List ℕ). t ++ drop i d) (take_all i w (omega arith))

pub over_whole : (w d : List ℕ) (i : ℕ) → i ≡ length w → length d ≡ length w → over w d i ≡ w
over_whole w d i e f =
    over_all w d i e ∙ ap (λ (j : ℕ). w ++ drop j d) (e ∙ sym f) ∙ ap (λ (t : List ℕ). w ++ t) (drop-length d) ∙ append-nil w
