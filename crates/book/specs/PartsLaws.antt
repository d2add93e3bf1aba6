-- Laws of bytes stored one after the other: the length stays, each is where it was stored, runs that meet are one run,
-- what the library's copies leave is what they store, and what a loop that stores keeps.
-- Assumes nothing.
use Rattle.std.specs.Prelude.{ℕ, zero, suc, ◌+◌, ◌≤◌, ◌<◌, ◌≡◌, refl, List, ◌++◌, length, get_or, take, drop, set}
use Rattle.std.proofs.Common.{sym, ap, ◌∙◌, ⊎_elim, arith, le_refl, eq-or-lt_of_le, le_of_suc-le-suc, add-zero, zero-add, add-one, length-set, get_or-set_same, get_or-set_other, append-nil}
use Rattle.std.proofs.Math.Seq.{paste}
use Rattle.std.proofs.lemmas.List.{drop_all, drop-drop}
use Rattle.std.proofs.lemmas.List.Edits.{paste_none, paste_more, paste_all}
use Rattle.std.proofs.lemmas.Slice.{put_mid-paste}
use borrow.Rule.Slice.PartMut.{put_mid}
use Rattle.book.specs.Bytes.{run}
use Rattle.book.specs.ByteLaws.{run_length, run_at}
use Rattle.book.specs.OverLaws.{over, over_set, over_all}
use Rattle.book.specs.Parts.{stored}

pub stored_length : (from n : ℕ) (f : ℕ → ℕ) (out : List ℕ) → length (stored from n f out) ≡ length out
unfolding stored
stored_length from zero f out = refl
stored_length from (suc n) f out = length-set (stored from n f out) (from + n) (f n) ∙ stored_length from n f out

pub stored_ext : (from n : ℕ) (f g : ℕ → ℕ) (out : List ℕ) → ((t : ℕ) → t < n → f t ≡ g t) → stored from n f out ≡ stored from n g out
unfolding stored
stored_ext from zero f g out h = refl
stored_ext from (suc n) f g out h = rw (stored_ext from n f g out (λ t l. h t (omega arith)), h n (le_refl (suc n))) refl

-- a run that begins where another ends
pub stored_more : (from n m : ℕ) (f g : ℕ → ℕ) (out : List ℕ) → ((t : ℕ) → t < m → g t ≡ f (n + t))
    → stored (from + n) m g (stored from n f out) ≡ stored from (n + m) f out
unfolding stored
stored_more from n zero f g out h = rw (add-zero n) refl
stored_more from n (suc m) f g out h =
    let e : n + suc m ≡ suc (n + m) = omega arith in
    let p : from + n + m ≡ from + (n + m) = omega arith in
    rw (e, stored_more from n m f g out (λ t l. h t (omega arith)), h m (le_refl (suc m)), p) refl

pub stored_at : (from n : ℕ) (f : ℕ → ℕ) (out : List ℕ) → from + n ≤ length out → (t : ℕ) → t < n → get_or (stored from n f out) (from + t) 0 ≡ f t
unfolding stored
stored_at from zero f out h t l = absurd (omega arith)
stored_at from (suc n) f out h t l =
    let o = stored from n f out in
    ⊎_elim (λ (e : t ≡ n). rw e (get_or-set_same o (from + n) (f n) 0 (omega (arith, stored_length from n f out))))
    (λ (k : t < n). get_or-set_other o (from + n) (from + t) (f n) 0 (λ e. omega arith) ∙ stored_at from n f out (omega arith) t k)
    (eq-or-lt_of_le (le_of_suc-le-suc l))

-- ---- a loop that stores: out has n bytes stored over what was there, and is as long

abbrev pub Storing : ℕ → ℕ → (ℕ → ℕ) → List ℕ → List ℕ → Type 0
Storing from n f before out = (length out ≡ length before) × (out ≡ stored from n f before)

pub storing_none : (from : ℕ) (f : ℕ → ℕ) (out : List ℕ) → Storing from 0 f out out
unfolding stored
storing_none from f out = (refl, refl)

pub storing_more : (from n m : ℕ) (f g : ℕ → ℕ) (before out next : List ℕ) → Storing from n f before out → ((t : ℕ) → t < m → g t ≡ f (n + t))
    → next ≡ stored (from + n) m g out → Storing from (n + m) f before next
storing_more from n m f g before out next h same e = (
  ap length e ∙ stored_length (from + n) m g out ∙ h.0,
  e ∙ ap (stored (from + n) m g) h.1 ∙ stored_more from n m f g before same,
)

pub storing_one : (from n : ℕ) (f : ℕ → ℕ) (before out : List ℕ) (v : ℕ) → Storing from n f before out → v ≡ f n
    → Storing from (n + 1) f before (set out (from + n) v)
unfolding stored
storing_one from n f before out v h e =
    storing_more from n 1 f (λ t. f (n + t)) before out _ h (λ t l. refl) (rw (e, add-zero (from + n), add-zero n) refl)

-- ---- a whole list, stored from the start

stored_over : (w d : List ℕ) → length w ≤ length d → (n : ℕ) → n ≤ length w → stored 0 n (λ i. get_or w i 0) d ≡ over w d n
unfolding stored
stored_over w d fit zero h = refl
stored_over w d fit (suc n) h =
    rw (stored_over w d fit n (omega arith), zero-add n) (over_set w d n fit h ∙ rw (add-one n) refl)

pub stored_all : (w d : List ℕ) → length w ≤ length d → (n : ℕ) → n ≡ length w → stored 0 n (λ i. get_or w i 0) d ≡ w ++ drop n d
stored_all w d fit n e = stored_over w d fit n (omega arith) ∙ over_all w d n e

-- ---- a part of a list, replaced

-- the elements of a part, stored from `at` on, are the part pasted there
stored_paste : (at : ℕ) (part out : List ℕ) (n : ℕ) → at + length part ≤ length out → n ≤ length part
    → stored at n (λ t. get_or part t 0) out ≡ paste out at part n
unfolding stored
stored_paste at part out zero h l = paste_none out at part
stored_paste at part out (suc n) h l =
    rw (stored_paste at part out n h (omega arith)) (paste_more out at part n 0 (omega arith) (omega arith) ∙ rw (add-one n) refl)

pub stored_part : (at size : ℕ) (out new part : List ℕ) → at + length part ≤ length out → size ≡ length part → new ≡ part
    → put_mid at size out new ≡ stored at (length part) (λ t. get_or part t 0) out
stored_part at size out new part h s e =
    put_mid-paste at size out new part (length part) e (sym s) refl ∙ sym (stored_paste at part out (length part) h (le_refl (length part)))

-- what is stored from the start is the run of what was stored, and behind it what was there
pub stored_run : (n : ℕ) (f : ℕ → ℕ) (out : List ℕ) → n ≤ length out → stored 0 n f out ≡ run 0 n f ++ drop n out
stored_run n f out h =
    let size = run_length 0 n f in
    stored_ext 0 n f (λ i. get_or (run 0 n f) i 0) out (λ t l. sym (run_at 0 n f t l ∙ ap f (zero-add t)))
    ∙ stored_all (run 0 n f) out (omega (arith, size)) n (sym size)

pub stored_whole : (n : ℕ) (f : ℕ → ℕ) (out : List ℕ) → length out ≡ n → stored 0 n f out ≡ run 0 n f
stored_whole n f out e =
    stored_run n f out (omega arith) ∙ ap (λ (l : List ℕ). run 0 n f ++ l) (drop_all n out (omega arith)) ∙ append-nil (run 0 n f)

-- a part that is replaced from `at` on
pub stored_between : (at n : ℕ) (f : ℕ → ℕ) (out front part back : List ℕ) → at + n ≤ length out → front ≡ take at out → back ≡ drop at out
    → part ≡ run 0 n f → front ++ (part ++ drop n back) ≡ stored at n f out
stored_between at n f out front part back h p q e =
    let long : length part ≡ n = ap length e ∙ run_length 0 n f in
    let each : (t : ℕ) → t < n → get_or part t 0 ≡ f t = λ t l. ap (λ (b : List ℕ). get_or b t 0) e ∙ run_at 0 n f t l ∙ ap f (zero-add t) in
    rw (p, q, drop-drop n at out)
    (sym (paste_all out at part n (sym long)) ∙ sym (stored_paste at part out n (omega (arith, long)) (omega (arith, long))) ∙ stored_ext at n _ f out each)
