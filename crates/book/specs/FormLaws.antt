-- Laws of a verdict's form: an order's entries one at a time, beside the set of the rows seen so far, those behind its rows, and the size of a group that fits.
-- Assumes nothing.
use Rattle.std.specs.Prelude.{ℕ, ◌+◌, ◌-◌, ◌^◌, ◌≤◌, ◌<◌, ◌≡◌, Bool, true, false, cond, not, ◌&&◌, ◌||◌, List, ltb, leb, eqb, get_or}
use Rattle.std.proofs.Common.{sym, ap, ◌∙◌, ⊎_elim, arith, add-one, pow_pos, lt-ltb, le-ltb, ltb-true, eqb-true, leb-true, eq-eqb, ne_eqb}
use Rattle.std.proofs.Math.Path.{refl}
use Rattle.std.proofs.lemmas.Bool.{eqb-false}
use Rattle.sets.specs.BoolLaws.{either, and_left, and_right}
use Rattle.sets.specs.Sets.{word, has, mask, set_of, within, none, with_row}
use Rattle.sets.specs.SetLaws.{set_ext, has_set_of}
use Rattle.sets.specs.declared.Set.{Set}
use Rattle.book.specs.Bytes.{all}
use Rattle.book.specs.ByteLaws.{side, all_at, all_from, all_ext}
use Rattle.book.specs.Form.{among, entry_fits, order_fits, group_fits, empty, formed}
use Rattle.book.specs.Parts.{free_at, rest_free}
use Rattle.book.specs.declared.verdicts.Verdict.{Verdict}

module _ (order : List ℕ) where
  pub seen_none : none ≡ set_of (among order 0)
  unfolding set_of mask
  seen_none = refl

  pub seen_more : (i : ℕ) → with_row (set_of (among order i)) (get_or order i 0) ≡ set_of (among order (i + 1))
  seen_more i =
      rw (add-one i)
      (set_ext _ _ (λ k l. ap (λ (t : Bool). t || eqb k (get_or order i 0)) (has_set_of (among order i) k l)))

  pub entry_seen : (p i : ℕ) → p ≤ 128 → i < p
      → ltb (get_or order i 0) p && not (has (set_of (among order i)) (get_or order i 0)) ≡ entry_fits p order i
  entry_seen p i h m =
      let k = get_or order i 0 in
      rw (lt-ltb i p m)
      (⊎_elim
      (λ (e : ltb k p ≡ true).
      rw (has_set_of (among order i) k (omega (arith, ltb-true k p e))) refl)
      (λ (e : ltb k p ≡ false). rw e refl)
      (either (ltb k p)))

-- those behind the p rows are tested by the entries from p on
pub free_rest : (p : ℕ) (order : List ℕ) → p ≤ 96 → all (96 - p) (λ t. eqb (get_or order (p + t) 0) 255) ≡ rest_free p order 96
unfolding rest_free
free_rest p order h =
    let end : p + (96 - p) ≡ 96 = omega arith in
    sym
    (ap (λ (n : ℕ). all n (free_at p order)) (sym end)
    ∙ all_from p (96 - p) (free_at p order) (λ t. eqb (get_or order (p + t) 0) 255) (λ i l. rw (lt-ltb i p l) refl)
    (λ t l. rw (le-ltb (p + t) p (omega arith)) refl))

-- an order whose first p entries fit is left to fit by the others
pub order_rest : (p : ℕ) (order : List ℕ) → all p (entry_fits p order) ≡ true → rest_free p order 96 ≡ order_fits p order
unfolding rest_free order_fits
order_rest p order fit =
    all_ext 96 (free_at p order) (entry_fits p order)
    (λ i _.
    ⊎_elim (λ (h : p ≤ i). rw (le-ltb i p h) refl)
    (λ (h : i < p). let e = all_at p (entry_fits p order) fit i h in rw (lt-ltb i p h) (rw (lt-ltb i p h) at (sym e)))
    (side p i))

-- a group that fits n rows has no bit from n on
pub formed_group : (n : ℕ) (v : Verdict) → formed n v ≡ true → word v.group < 2 ^ n
unfolding formed group_fits
formed_group n v h =
    go (eqb v.kind 2)
    (and_right (leb v.kind 2 && order_fits (cond (eqb v.kind 1) n 0) v.order) (group_fits v.kind v.group n) h)
  where
    g : Set
    g = v.group

    go : (b : Bool) → cond b (not (empty g) && within g n) (empty g) ≡ true → word g < 2 ^ n
    go true k = ltb-true (word g) (2 ^ n) (and_right (not (empty g)) (within g n) k)
    go false k = rw (eqb-true (word g) 0 k) (pow_pos n)

pub formed_kind : (n : ℕ) (v : Verdict) → formed n v ≡ true → v.kind ≤ 2
unfolding formed
formed_kind n v h =
    let rest = group_fits v.kind v.group n in
    let order = order_fits (cond (eqb v.kind 1) n 0) v.order in
    leb-true v.kind 2 (and_left (leb v.kind 2) order (and_left (leb v.kind 2 && order) rest h))

-- a group is empty where both its words are 0
pub group_empty : (g : Set) → eqb g.low 0 && eqb g.high 0 ≡ empty g
group_empty g =
    ⊎_elim
    (λ (a : eqb g.low 0 ≡ true).
    ⊎_elim (λ (b : eqb g.high 0 ≡ true). rw (a, b) (sym (eq-eqb (word g) 0 (omega (arith, eqb-true g.low 0 a, eqb-true g.high 0 b)))))
    (λ (b : eqb g.high 0 ≡ false). rw (a, b) (sym (ne_eqb (word g) 0 (λ z. eqb-false g.high 0 b (omega arith)))))
    (either (eqb g.high 0)))
    (λ (a : eqb g.low 0 ≡ false). rw a (sym (ne_eqb (word g) 0 (λ z. eqb-false g.low 0 a (omega arith)))))
    (either (eqb g.low 0))

-- the form of an empty group, and of one that is not empty
pub group_none : (kind n : ℕ) (g : Set) → g.low ≡ 0 → g.high ≡ 0 → not (eqb kind 2) ≡ group_fits kind g n
unfolding group_fits
group_none kind n g p q = let z : word g ≡ 0 = omega arith in rw (eq-eqb (word g) 0 z) (go (eqb kind 2))
  where
    go : (b : Bool) → not b ≡ cond b false true
    go true = refl
    go false = refl

pub group_some : (kind n : ℕ) (g : Set) → (word g ≡ 0 → ⊥) → eqb kind 2 && within g n ≡ group_fits kind g n
unfolding group_fits
group_some kind n g h = rw (ne_eqb (word g) 0 h) (go (eqb kind 2))
  where
    go : (b : Bool) → b && within g n ≡ cond b (within g n) false
    go true = refl
    go false = refl
