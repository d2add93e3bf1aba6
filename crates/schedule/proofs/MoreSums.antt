-- Laws beside those of `rows.specs.SumLaws`: two cases of numbers, sums, counts, the c largest of n numbers, and numbers that lie d or more apart, in this order.
-- Assumes nothing.
use Rattle.std.specs.Prelude.{ℕ, zero, suc, ◌+◌, ◌*◌, ◌-◌, ◌≤◌, ◌<◌, ◌≡◌, refl, Bool, true, false, ltb}
use Rattle.std.proofs.Common.{zero-le, sym, ap, ⊎_elim, arith, le_refl, le_trans, le-add_right, add-suc, ltb-true, ltb-false}
use Rattle.sets.specs.NumberLaws.{le_or_lt}
use Rattle.sets.specs.Sums.{on, sum, count, first}
use Rattle.sets.specs.BoolLaws.{either}
use Rattle.sets.specs.SumLaws.{on_le, sum_add, sum_zero, sum_bound, sum_upto, first_is}
use Rattle.test.specs.Test.{top}
use Rattle.test.specs.TopLaws.{top_zero}

-- ---- sums

pub sum_split : (f : ℕ → ℕ) (x d : ℕ) → sum (x + d) f ≡ sum x f + sum d (λ v. f (x + v))
sum_split f x zero = let e : x + 0 ≡ x = omega arith in rw e (omega arith)
sum_split f x (suc d) = rw add-suc (omega (arith, sum_split f x d))

pub sum_at : (n : ℕ) (f : ℕ → ℕ) (i : ℕ) → i < n → f i ≤ sum n f
sum_at n f i l = omega (arith, sum_upto (suc i) n f l)

-- d more terms of at most b
pub sum_rise : (f : ℕ → ℕ) (b : ℕ) → ((i : ℕ) → f i ≤ b) → (x y d : ℕ) → x + d ≡ y → sum y f ≤ sum x f + d * b
sum_rise f b h x y d e =
    omega (arith, sum_split f x d, ap (λ (z : ℕ). sum z f) e, sum_bound d b (λ v. f (x + v)) (λ v _. h (x + v)))

pub sum_swap : (d n : ℕ) (f : ℕ → ℕ → ℕ) → sum d (λ v. sum n (λ i. f v i)) ≡ sum n (λ i. sum d (λ v. f v i))
sum_swap zero n f = sym (sum_zero n)
sum_swap (suc d) n f = omega (arith, sum_swap d n f, sum_add n (λ i. sum d (λ v. f v i)) (λ i. f d i))

-- of the terms of a smaller sum one is smaller
pub sum_smaller : (n : ℕ) (f g : ℕ → ℕ) → sum n f < sum n g → (i : ℕ) × (i < n) × (f i < g i)
sum_smaller zero f g l = absurd (omega arith)
sum_smaller (suc n) f g l =
    ⊎_elim (λ (p : g n ≤ f n). let (i, q, s) = sum_smaller n f g (omega arith) in (i, omega arith, s))
    (λ (p : f n < g n). (n, le_refl (suc n), p))
    (le_or_lt (g n) (f n))

-- ---- counts

pub count_none : (n : ℕ) (p : ℕ → Bool) → ((i : ℕ) → i < n → p i ≡ false) → count n p ≡ 0
count_none zero p h = refl
count_none (suc n) p h = rw (h n (le_refl (suc n))) (omega (arith, count_none n p (λ i l. h i (omega arith))))

pub count_single : (n : ℕ) (p : ℕ → Bool) → ((i j : ℕ) → i < n → j < n → p i ≡ true → p j ≡ true → i ≡ j) → count n p ≤ 1
count_single zero p h = zero-le
count_single (suc n) p h =
    ⊎_elim
    (λ (e : p n ≡ true).
    let others : count n p ≡ 0 =
    count_none n p
    (λ i l.
    ⊎_elim (λ (f : p i ≡ true). absurd (omega (arith, h i n (omega arith) (le_refl (suc n)) f e))) (λ (f : p i ≡ false). f) (either (p i)))
    in
    omega (arith, on_le (p n) 1))
    (λ (e : p n ≡ false). rw e (omega (arith, count_single n p (λ i j k l. h i j (omega arith) (omega arith)))))
    (either (p n))

-- a count goes through every number on its way up
pub count_reach : (p : ℕ → Bool) (g d : ℕ) → g ≤ count d p → (e : ℕ) × (e ≤ d) × (count e p ≡ g)
count_reach p g zero l = (0, zero-le, omega arith)
count_reach p g (suc d) l =
    ⊎_elim (λ (o : g ≤ count d p). let (e, a, b) = count_reach p g d o in (e, omega arith, b))
    (λ (o : count d p < g). (suc d, le_refl (suc d), omega (arith, on_le (p d) 1)))
    (le_or_lt g (count d p))

-- ---- the c largest

-- c or fewer of the numbers add up to no more than the c largest
pub top_choice : (c n : ℕ) (X : ℕ → Bool) (d : ℕ → ℕ) → count n X ≤ c → sum n (λ i. on (X i) (d i)) ≤ top c n d
top_choice c zero X d h = zero-le
top_choice zero (suc n) X d h =
    ⊎_elim (λ (e : X n ≡ true). let l : count n X + 1 ≤ 0 = rw e at h in absurd (omega arith))
    (λ (e : X n ≡ false).
    let l : count n X + 0 ≤ 0 = rw e at h in
    rw e (omega (arith, top_choice zero n X d (omega arith), top_zero n d)))
    (either (X n))
top_choice (suc c) (suc n) X d h =
    ⊎_elim
    (λ (e : X n ≡ true). let l : count n X + 1 ≤ suc c = rw e at h in rw e (omega (arith, top_choice c n X d (omega arith))))
    (λ (e : X n ≡ false). let l : count n X + 0 ≤ suc c = rw e at h in rw e (omega (arith, top_choice (suc c) n X d (omega arith))))
    (either (X n))

-- ---- numbers that lie d or more apart

module _ (f : ℕ → ℕ) (d : ℕ) (h : (j : ℕ) → f j + d ≤ f (suc j)) where
  pub spaced_far : (j l e : ℕ) → j + e ≡ l → f j + e * d ≤ f l
  spaced_far j l zero q = let p : j ≡ l = omega arith in rw p (omega arith)
  spaced_far j zero (suc e) q = absurd (omega arith)
  spaced_far j (suc l) (suc e) q = omega (arith, spaced_far j l e (omega arith), h l)

  pub spaced_mono : (l j : ℕ) → l ≤ j → f l ≤ f j
  spaced_mono l j p = le_trans (le-add_right (f l) ((j - l) * d)) (spaced_far l j (j - l) (omega arith))

  pub spaced_least : 1 ≤ d → (j : ℕ) → j ≤ f j
  spaced_least p zero = zero-le
  spaced_least p (suc j) = omega (arith, spaced_least p j, h j)

-- the first that lies after x
pub first_after : (f : ℕ → ℕ) → ((j : ℕ) → j ≤ f j) → (x : ℕ) → (p : ℕ) × (x < f p) × ((j : ℕ) → j < p → f j ≤ x)
first_after f least x =
    let test : ℕ → Bool = λ j. ltb x (f j) in
    let p = first test (suc x) 0 in
    let F = first_is test (suc x) 0 in (
      p,
      ⊎_elim (λ (l : suc x ≤ p). le_trans l (least p)) (λ (l : p < suc x). ltb-true x (f p) (F.found (omega arith))) (le_or_lt (suc x) p),
      λ j l. ltb-false x (f j) (F.before j zero-le l),
    )
