-- Laws of the rows of a set below a number, and of a walk over them by `Set::rows`.
-- What a walk has found is a claim about the numbers that it has passed. The claim is to hold of none, and to be kept by a number that is
-- not in the set; each turn then proves it for the row at hand, and at the end it holds of all.
-- Assumes nothing.
use Rattle.std.specs.Prelude.{ℕ, zero, suc, ◌+◌, ◌-◌, ◌≤◌, ◌<◌, ◌≡◌, refl, Bool, true, false, ◌&&◌, List, [], ◌∷◌, length, min, fold, sum_by}
use Rattle.std.specs.List.{find}
use Rattle.std.proofs.Common.{sym, ap, ◌∙◌, ⊎_elim, arith, add-one, zero-add, zero-le, le_refl}
use Rattle.std.proofs.lemmas.List.Sums.{sum_by-cons}
use Rattle.sets.specs.BoolLaws.{either}
use Rattle.sets.specs.NumberLaws.{le_or_lt}
use Rattle.sets.specs.Sums.{first, some_below, on, sum, count}
use Rattle.sets.specs.SumLaws.{first_is, first_taken, first_next, first_end, some_below_in, some_below_out}
use Rattle.sets.specs.Sets.{has}
use Rattle.sets.specs.SetLaws.{FitsWords, has_above}
use Rattle.sets.specs.declared.Set.{Set}
use Rattle.sets.specs.Rows.{rows_between}

-- ---- the list

module _ (H : ℕ → Bool) (i n : ℕ) where
  pub rows_none : n ≤ i → rows_between H i n ≡ []
  unfolding rows_between
  rows_none h = let e : n - i ≡ 0 = omega arith in rw e refl

  module _ (h : i < n) where
    step : n - i ≡ suc (n - suc i)
    step = omega arith

    pub rows_take : H i ≡ true → rows_between H i n ≡ i ∷ rows_between H (suc i) n
    unfolding rows_between
    rows_take e = rw (step, e, add-one) refl

    pub rows_skip : H i ≡ false → rows_between H i n ≡ rows_between H (suc i) n
    unfolding rows_between
    rows_skip e = rw (step, e, add-one) refl

-- what holds of the end, and passes from each number to the one before it
module _ (H : ℕ → Bool) (n : ℕ) (P : ℕ → List ℕ → Type 0) (end : P n [])
    (take : (i : ℕ) → i < n → H i ≡ true → P (suc i) (rows_between H (suc i) n) → P i (i ∷ rows_between H (suc i) n))
    (skip : (i : ℕ) (xs : List ℕ) → i < n → H i ≡ false → P (suc i) xs → P i xs) where
  down : (i d : ℕ) → i + d ≡ n → P i (rows_between H i n)
  down i zero e = let same : i ≡ n = omega arith in rw (rows_none H i n (omega arith), same) end
  down i (suc d) e =
      let l : i < n = omega arith in
      let rest = down (suc i) d (omega arith) in
      ⊎_elim (λ t. rw (rows_take H i n l t) (take i l t rest)) (λ f. rw (rows_skip H i n l f) (skip i _ l f rest)) (either (H i))

  pub rows_down : (i : ℕ) → i ≤ n → P i (rows_between H i n)
  rows_down i l = down i (n - i) (omega arith)

-- where H takes none before r
rows_past : (H : ℕ → Bool) (n i d : ℕ) → i + d ≤ n → ((j : ℕ) → i ≤ j → j < i + d → H j ≡ false) → rows_between H i n ≡ rows_between H (i + d) n
rows_past H n i zero l none = ap (λ (k : ℕ). rows_between H k n) (omega arith)
rows_past H n i (suc d) l none =
    rows_skip H i n (omega arith) (none i (le_refl i) (omega arith))
    ∙ rows_past H n (suc i) d (omega arith) (λ j p q. none j (omega arith) (omega arith))
    ∙ ap (λ (k : ℕ). rows_between H k n) (omega arith)

-- where H takes none
rows_empty : (H : ℕ → Bool) (i n : ℕ) → ((j : ℕ) → i ≤ j → j < n → H j ≡ false) → rows_between H i n ≡ []
rows_empty H i n none =
    ⊎_elim (λ (h : n ≤ i). rows_none H i n h)
    (λ (h : i < n).
    let there : i + (n - i) ≡ n = omega arith in
    rows_past H n i (n - i) (omega arith) (λ j p q. none j p (omega arith)) ∙ rw there (rows_none H n n (le_refl n)))
    (le_or_lt n i)

-- the list from i on begins with the first row there, and is empty where that is not below n
pub rows_first : (H : ℕ → Bool) (i n : ℕ) → n ≤ 128 → first H (128 - i) i < n
    → rows_between H i n ≡ first H (128 - i) i ∷ rows_between H (first H (128 - i) i + 1) n
rows_first H i n few l =
    let r = first H (128 - i) i in
    let f = first_is H (128 - i) i in
    let there : i + (r - i) ≡ r = omega (arith, f.from) in
    rows_past H n i (r - i) (omega (arith, f.from)) (λ j p q. f.before j p (omega (arith, f.from)))
    ∙ rw (there, add-one) (rows_take H r n l (f.found (omega (arith, f.from))))

pub rows_last : (H : ℕ → Bool) (i n : ℕ) → n ≤ first H (128 - i) i → rows_between H i n ≡ []
rows_last H i n l = rows_empty H i n (λ j p q. (first_is H (128 - i) i).before j p (omega arith))

-- a set has no rows from 128 on
pub rows_most : (s : Set) (n : ℕ) → FitsWords s → rows_between (has s) 0 (min n 128) ≡ rows_between (has s) 0 n
rows_most s n f =
    let H : ℕ → Bool = has s in
    let m = min n 128 in
    rows_down H m (λ i xs. xs ≡ rows_between H i n) (sym (rows_empty H m n (λ j l q. has_above s j f (omega arith))))
    (λ i l t e. rw e (sym (rows_take H i n (omega arith) t))) (λ i xs l z e. e ∙ sym (rows_skip H i n (omega arith) z)) 0 zero-le

-- ---- what is summed, counted, found and folded over the list

pub sum_rows : (H : ℕ → Bool) (f : ℕ → ℕ) (n : ℕ) → sum_by f (rows_between H 0 n) ≡ sum n (λ i. on (H i) (f i))
sum_rows H f n =
    rw zero-add at
    (rows_down H n (λ i xs. sum i (λ j. on (H j) (f j)) + sum_by f xs ≡ sum n (λ j. on (H j) (f j))) (omega arith)
    (λ i l t e. let own : on (H i) (f i) ≡ f i = rw t refl in omega (arith, own, sum_by-cons f i (rows_between H (suc i) n)))
    (λ i xs l z e. let off : on (H i) (f i) ≡ 0 = rw z refl in omega (arith, off)) 0 zero-le)

pub count_rows : (H : ℕ → Bool) (n : ℕ) → length (rows_between H 0 n) ≡ count n H
count_rows H n =
    rw zero-add at
    (rows_down H n (λ i xs. count i H + length xs ≡ count n H) (omega arith)
    (λ i l t e. let own : on (H i) 1 ≡ 1 = rw t refl in omega (arith, own))
    (λ i xs l z e. let off : on (H i) 1 ≡ 0 = rw z refl in omega (arith, off)) 0 zero-le)

pub find_rows : (H p : ℕ → Bool) (n : ℕ) → find p (rows_between H 0 n) ≡ some_below (first (λ i. H i && p i) n 0) n
find_rows H p n =
    let q : ℕ → Bool = λ i. H i && p i in
    let next : (i : ℕ) → i < n → q i ≡ false → first q (n - i) i ≡ first q (n - suc i) (suc i) = λ i l e. rw add-one at (first_next q n i l e) in
    let all : n - 0 ≡ n = omega arith in
    rw all at
    (rows_down H n (λ i xs. find p xs ≡ some_below (first q (n - i) i) n)
    (rw (first_end q n n (le_refl n)) (sym (some_below_out n n (le_refl n))))
    (λ i l t e. ⊎_elim
    (λ (y : p i ≡ true). let here : q i ≡ true = rw (t, y) refl in rw (y, first_taken q n i l here) (sym (some_below_in i n l)))
    (λ (z : p i ≡ false). let gone : q i ≡ false = rw (t, z) refl in rw (z, next i l gone) e)
    (either (p i)))
    (λ i xs l z e. let gone : q i ≡ false = rw z refl in rw (next i l gone) e)
    0 zero-le)

-- what a sum along a walk takes
pub ruleset row_sums = (sum_by-cons, sum_rows)

-- a claim about the numbers that the fold has passed, which a number that is not in the set keeps
pub fold_rows : {A : Type 0} (H : ℕ → Bool) (n : ℕ) (f : A → ℕ → A) (Q : ℕ → A → Type 0)
    → ((j : ℕ) (a : A) → H j ≡ false → Q j a → Q (suc j) a) → ((i : ℕ) (a : A) → i < n → H i ≡ true → Q i a → Q (suc i) (f a i))
    → (a : A) → Q 0 a → Q n (fold f a (rows_between H 0 n))
fold_rows {A} H n f Q skip turn =
    rows_down H n (λ i xs. (a : A) → Q i a → Q n (fold f a xs)) (λ a q. q)
    (λ i l t rest a q. rest (f a i) (turn i a l t q)) (λ i xs l z rest a q. rest a (skip i a z q)) 0 zero-le

-- ---- a walk over the list

-- a walk over the rows of H below n has these left, and Q holds of the numbers that it has passed
pub record Walk (H : ℕ → Bool) (n : ℕ) (Q : ℕ → Type 0) (left : List ℕ) : Type 0 where
  pub at : ℕ
  pub low : at ≤ n
  pub list : left ≡ rows_between H at n
  pub passed : Q at

pub walk_start : {H : ℕ → Bool} {n : ℕ} {Q : ℕ → Type 0} {left : List ℕ} → left ≡ rows_between H 0 n → Q 0 → Walk H n Q left
walk_start e q = record { at = 0; low = zero-le; list = e; passed = q }

-- the next row, what holds up to it, and what is left behind it; or that there is none, and what then holds
record Here (H : ℕ → Bool) (n : ℕ) (Q : ℕ → Type 0) (i : ℕ) (rest : List ℕ) : Type 0 where
  low : i < n
  member : H i ≡ true
  passed : Q i
  list : rest ≡ rows_between H (suc i) n

abbrev Stands : (ℕ → Bool) → ℕ → (ℕ → Type 0) → List ℕ → Type 0
Stands H n Q [] = Q n
Stands H n Q (i ∷ rest) = Here H n Q i rest

module _ {H : ℕ → Bool} {n : ℕ} where
  module _ {Q : ℕ → Type 0} (skip : (j : ℕ) → H j ≡ false → Q j → Q (suc j)) {left : List ℕ} (w : Walk H n Q left) where
    stands : Stands H n Q left
    stands =
        rw w.list
        (rows_down H n (λ i xs. Q i → Stands H n Q xs) (λ q. q)
        (λ i l t rest q. record { low = l; member = t; passed = q; list = refl }) (λ i xs l f rest q. rest (skip i f q)) w.at w.low w.passed)

    pub walk_end : left ≡ [] → Q n
    walk_end e = rw e at stands

    -- one turn: from what holds up to row i, what holds behind it
    pub walk_on : {P : ℕ → Type 0} {i : ℕ} {rest : List ℕ} → left ≡ i ∷ rest → (i < n → H i ≡ true → Q i → P (suc i)) → Walk H n P rest
    walk_on {P} {i} {rest} e turn =
        let h : Here H n Q i rest = rw e at stands in
        record { at = suc i; low = h.low; list = h.list; passed = turn h.low h.member h.passed }

  -- the next of the rows left is a row of H below n
  pub walk_row : {Q : ℕ → Type 0} {left : List ℕ} {i : ℕ} {rest : List ℕ} → Walk H n Q left → left ≡ i ∷ rest → (i < n) × (H i ≡ true)
  walk_row {i = i} {rest = rest} w e =
      let h : Here H n (λ _. Unit {0}) i rest = rw e at (stands {Q = λ _. Unit {0}} (λ j f q. tt) (record { at = w.at; low = w.low; list = w.list; passed = tt })) in
      (h.low, h.member)
