-- Laws of a form that the code took before, in which bytes were zero, or 255, by their bits together: by or as none, by and as all.
-- They hold still, so that whoever cited them finds them. Assumes nothing.
use Rattle.std.specs.Prelude.{ℕ, ◌+◌, ◌≤◌, ◌<◌, ◌≡◌, refl, true, false, ◌&&◌, List, eqb, get_or}
use Rattle.std.proofs.Common.{sym, ⊎_elim, arith, add-one, mod-eq_of_lt, lt-ltb, le-ltb, eqb-true, ne_eqb}
use Rattle.std.proofs.lemmas.Bool.{eqb-false}
use Rattle.std.proofs.lemmas.Nat.{and_le_l, and_le_r, and_comm, and_mask}
use Rattle.std.specs.Int.Bits.{bit_and, bit_or, or_zero_l, or_add_and}
use Rattle.sets.specs.BoolLaws.{either}
use Rattle.book.specs.ByteLaws.{all_make}
use Rattle.book.specs.Parts.{free_at, rest_free}
use Rattle.book.specs.Spare.{blank}

pub or_none : (x y : ℕ) → eqb (bit_or x y) 0 ≡ eqb x 0 && eqb y 0
or_none x y =
    ⊎_elim (λ (e : eqb x 0 ≡ true). rw (e, eqb-true x 0 e, or_zero_l y) refl)
    (λ (e : eqb x 0 ≡ false). rw e (ne_eqb (bit_or x y) 0 (λ z. eqb-false x 0 e (omega (arith, or_add_and x y, and_le_r x y)))))
    (either (eqb x 0))

pub and_full : (x y : ℕ) → x < 256 → y < 256 → eqb (bit_and x y) 255 ≡ eqb x 255 && eqb y 255
and_full x y l m =
    ⊎_elim (λ (e : eqb x 255 ≡ true). rw (e, eqb-true x 255 e, and_comm 255 y, and_mask y 8, mod-eq_of_lt m) refl)
    (λ (e : eqb x 255 ≡ false). rw e (ne_eqb (bit_and x y) 255 (λ z. eqb-false x 255 e (omega (arith, and_le_l x y)))))
    (either (eqb x 255))

-- ---- zero bytes of a book

pub blank_none : (b : List ℕ) (from : ℕ) → eqb 0 0 ≡ blank b from 0
unfolding blank
blank_none b from = refl

pub blank_more : (b : List ℕ) (from t bits : ℕ) → eqb bits 0 ≡ blank b from t → eqb (bit_or bits (get_or b (from + t) 0)) 0 ≡ blank b from (t + 1)
unfolding blank
blank_more b from t bits h = rw (add-one t, ← h) (or_none bits (get_or b (from + t) 0))

-- ---- entries that are 255

pub free_none : (p : ℕ) (order : List ℕ) → eqb 255 255 ≡ rest_free p order p
unfolding rest_free
free_none p order = sym (all_make p (free_at p order) (λ i l. rw (lt-ltb i p l) refl))

pub free_more : (p : ℕ) (order : List ℕ) (i bits : ℕ) → p ≤ i → bits < 256 → get_or order i 0 < 256 → eqb bits 255 ≡ rest_free p order i
    → eqb (bit_and bits (get_or order i 0)) 255 ≡ rest_free p order (i + 1)
unfolding rest_free
free_more p order i bits h l m e = rw (add-one i, ← e, le-ltb i p h) (and_full bits (get_or order i 0) l m)
