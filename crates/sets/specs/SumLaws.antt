-- Laws of sums, of counts, and of the first number that a test takes, in this order.
-- Assumes nothing.
use Rattle.std.specs.Prelude.{ℕ, zero, suc, ◌+◌, ◌*◌, ◌-◌, ◌≤◌, ◌<◌, ◌≡◌, refl, ◌↔◌, Bool, true, false, Option, Some, None, MatchOption, eqb, ltb}
use Rattle.std.proofs.Common.{zero-le, sym, ap, ◌∙◌, ⊎_elim, arith, add-one, le_refl, le_antisymm, le_of_eq, add-le-add, ne_of_lt, eq-or-lt_of_le, le_of_suc-le-suc, zero-mul, eq-eqb, ne_eqb, ltb-true, ltb-false, lt-ltb, le-ltb}
use Rattle.sets.specs.Sums.{on, sum, count, first, some_below}
use Rattle.sets.specs.BoolLaws.{either, not_both}

-- ---- sums

pub on_mono : (a b : Bool) {x y : ℕ} → (a ≡ true → b ≡ true) → x ≤ y → on a x ≤ on b y
on_mono true true h l = l
on_mono true false h l = not_both (h refl) refl
on_mono false b h l = zero-le

pub on_ext : (a b : Bool) (x y : ℕ) → a ≡ b → (a ≡ true → x ≡ y) → on a x ≡ on b y
on_ext true true x y e h = h refl
on_ext true false x y e h = not_both refl e
on_ext false true x y e h = not_both refl (sym e)
on_ext false false x y e h = refl

pub on_le : (b : Bool) (x : ℕ) → on b x ≤ x
on_le true x = le_refl x
on_le false x = zero-le

pub on_off : (b : Bool) (x : ℕ) → b ≡ false → on b x ≡ 0
on_off true x h = not_both refl h
on_off false x h = refl

pub on_true : (b : Bool) → 1 ≤ on b 1 → b ≡ true
on_true true h = refl
on_true false h = absurd (omega arith)

pub on_false : (b : Bool) → on b 1 ≤ 0 → b ≡ false
on_false true h = absurd (omega arith)
on_false false h = refl

pub sum_mono : (n : ℕ) (f g : ℕ → ℕ) → ((i : ℕ) → i < n → f i ≤ g i) → sum n f ≤ sum n g
sum_mono zero f g h = zero-le
sum_mono (suc n) f g h = add-le-add (sum_mono n f g (λ i l. h i (omega arith))) (h n (le_refl (suc n)))

pub sum_ext : (n : ℕ) (f g : ℕ → ℕ) → ((i : ℕ) → i < n → f i ≡ g i) → sum n f ≡ sum n g
sum_ext n f g h = le_antisymm (sum_mono n f g (λ i l. le_of_eq (h i l))) (sum_mono n g f (λ i l. le_of_eq (sym (h i l))))

pub sum_add : (n : ℕ) (f g : ℕ → ℕ) → sum n f + sum n g ≡ sum n (λ i. f i + g i)
sum_add zero f g = refl
sum_add (suc n) f g = omega (arith, sum_add n f g)

pub sum_zero : (n : ℕ) → sum n (λ i. 0) ≡ 0
sum_zero zero = refl
sum_zero (suc n) = omega (arith, sum_zero n)

pub sum_bound : (n b : ℕ) (f : ℕ → ℕ) → ((i : ℕ) → i < n → f i ≤ b) → sum n f ≤ n * b
sum_bound zero b f h = omega arith
sum_bound (suc n) b f h = omega (arith, sum_bound n b f (λ i l. h i (omega arith)), h n (le_refl (suc n)))

-- a sum up to more is no less
pub sum_upto : (a b : ℕ) (f : ℕ → ℕ) → a ≤ b → sum a f ≤ sum b f
sum_upto a zero f h = let e : a ≡ 0 = omega arith in rw e (le_refl 0)
sum_upto a (suc b) f h =
    ⊎_elim (λ (e : a ≡ suc b). rw e (le_refl (sum (suc b) f)))
    (λ (l : a < suc b). omega (arith, sum_upto a b f (le_of_suc-le-suc l)))
    (eq-or-lt_of_le h)

-- the first summand apart
pub sum_front : (n : ℕ) (f : ℕ → ℕ) → sum (suc n) f ≡ f 0 + sum n (λ i. f (suc i))
sum_front zero f = omega arith
sum_front (suc n) f = omega (arith, sum_front n f)

pub sum_less : (n : ℕ) (f g : ℕ → ℕ) (k : ℕ) → k < n → ((i : ℕ) → f i ≤ g i) → f k < g k → sum n f < sum n g
sum_less zero f g k h m s = absurd (omega arith)
sum_less (suc n) f g k h m s =
    ⊎_elim
    (λ (e : k ≡ n). let q : f n < g n = rw e at s in omega (arith, sum_mono n f g (λ i _. m i)))
    (λ (l : k < n). omega (arith, sum_less n f g k l m s, m n))
    (eq-or-lt_of_le (le_of_suc-le-suc h))

-- ---- counts

pub sum_scale : (n : ℕ) (p : ℕ → Bool) (x : ℕ) → sum n (λ i. on (p i) x) ≡ count n p * x
sum_scale zero p x = sym (zero-mul x)
sum_scale (suc n) p x = ⊎_elim (λ e. rw e (omega (arith, sum_scale n p x))) (λ e. rw e (omega (arith, sum_scale n p x))) (either (p n))

pub count_mono : (n : ℕ) (p q : ℕ → Bool) → ((i : ℕ) → p i ≡ true → q i ≡ true) → count n p ≤ count n q
count_mono n p q s = sum_mono n _ _ (λ i l. on_mono (p i) (q i) (s i) (le_refl 1))

-- a count up to more takes no fewer
pub count_upto : (a b : ℕ) (p : ℕ → Bool) → a ≤ b → count a p ≤ count b p
count_upto a b p h = sum_upto a b (λ i. on (p i) 1) h

pub count_le : (n : ℕ) (p : ℕ → Bool) → count n p ≤ n
count_le zero p = zero-le
count_le (suc n) p = omega (arith, count_le n p, on_le (p n) 1)

pub count_at : (n : ℕ) (p : ℕ → Bool) (k : ℕ) → k < n → p k ≡ true → 1 ≤ count n p
count_at n p k l e =
    omega (arith, sum_zero n, sum_less n (λ i. 0) (λ i. on (p i) 1) k l (λ i. zero-le) (rw e (le_refl 1)))

pub count_zero_iff : (n : ℕ) (p : ℕ → Bool) → (count n p ≡ 0) ↔ ((i : ℕ) → i < n → p i ≡ false)
count_zero_iff n p = (
  λ z i l.
      ⊎_elim (λ (e : p i ≡ true). absurd (omega (arith, count_at n p i l e))) (λ (e : p i ≡ false). e) (either (p i)),
  λ h. sum_ext n (λ i. on (p i) 1) (λ i. 0) (λ i l. ap (λ (b : Bool). on b 1) (h i l)) ∙ sum_zero n,
)

count_none : (n k : ℕ) → n ≤ k → count n (λ i. eqb i k) ≡ 0
count_none zero k h = refl
count_none (suc n) k h = rw (ne_eqb n k (ne_of_lt h)) (omega (arith, count_none n k (omega arith)))

pub count_one : (n k : ℕ) → k < n → count n (λ i. eqb i k) ≡ 1
count_one zero k h = absurd (omega arith)
count_one (suc n) k h =
    ⊎_elim (λ (e : k ≡ n). rw (e, eq-eqb n n refl) (omega (arith, count_none n n (le_refl n))))
    (λ (l : k < n). rw (ne_eqb n k (λ e. ne_of_lt l (sym e))) (omega (arith, count_one n k l)))
    (eq-or-lt_of_le (le_of_suc-le-suc h))

pub count_all : (n : ℕ) (p : ℕ → Bool) → ((i : ℕ) → i < n → p i ≡ true) → count n p ≡ n
count_all zero p h = refl
count_all (suc n) p h = rw (h n (le_refl (suc n))) (omega (arith, count_all n p (λ i l. h i (omega arith))))

-- ---- the first

pub record First (p : ℕ → Bool) (i d r : ℕ) : Type 0 where
  pub from : i ≤ r
  pub to : r ≤ i + d
  pub before : (j : ℕ) → i ≤ j → j < r → p j ≡ false
  pub found : r < i + d → p r ≡ true

pub first_is : (p : ℕ → Bool) (d i : ℕ) → First p i d (first p d i)
first_is p zero i =
    record { from = le_refl i; to = omega arith; before = λ j h l. absurd (omega arith); found = λ h. absurd (omega arith) }
first_is p (suc d) i =
    ⊎_elim
    (λ (e : p i ≡ true). rw e (record { from = le_refl i; to = omega arith; before = λ j h l. absurd (omega arith); found = λ h. e }))
    (λ (e : p i ≡ false).
    let r = first_is p d (suc i) in
    rw e
    (record {
      from = omega (arith, r.from);
      to = omega (arith, r.to);
      before = λ j h l. ⊎_elim (λ (q : i ≡ j). rw q at e) (λ (q : i < j). r.before j q l) (eq-or-lt_of_le h);
      found = λ h. r.found (omega arith);
    }))
    (either (p i))

-- no other number is the first
pub first_only : (p : ℕ → Bool) (d i r : ℕ) → First p i d r → r ≡ first p d i
first_only p d i r f = le_antisymm (no_later f (first_is p d i)) (no_later (first_is p d i) f)
  where
    no_later : {a b : ℕ} → First p i d a → First p i d b → a ≤ b
    no_later {a} {b} f g =
        ⊎_elim
        (λ (e : ltb b a ≡ true).
        let l = ltb-true b a e in
        not_both (g.found (omega (arith, f.to))) (f.before b g.from l))
        (ltb-false b a)
        (either (ltb b a))

-- a scan of the numbers below n, at i: it ends at one that p takes, and goes on behind one that p does not take
module _ (p : ℕ → Bool) (n i : ℕ) (h : i < n) where
  left : n - i ≡ suc (n - suc i)
  left = omega arith

  pub first_taken : p i ≡ true → first p (n - i) i ≡ i
  first_taken e = rw (left, e) refl

  pub first_next : p i ≡ false → first p (n - i) i ≡ first p (n - (i + 1)) (i + 1)
  first_next e = rw (left, add-one, e) refl

pub first_end : (p : ℕ → Bool) (n i : ℕ) → n ≤ i → first p (n - i) i ≡ i
first_end p n i h = let e : n - i ≡ 0 = omega arith in rw e refl

-- ---- the first, as an `Option`: what a search of the numbers below n answers

pub some_below_in : (i n : ℕ) → i < n → some_below i n ≡ Some i
some_below_in i n h = rw (lt-ltb i n h) refl

pub some_below_out : (i n : ℕ) → n ≤ i → some_below i n ≡ None
some_below_out i n h = rw (le-ltb i n h) refl

pub some_below_some : (i n : ℕ) {j : ℕ} → some_below i n ≡ Some j → (j ≡ i) × (i < n)
some_below_some i n {j} e =
    ⊎_elim (λ (t : ltb i n ≡ true). let s : Some i ≡ Some j = rw t at e in ((cc), ltb-true i n t))
    (λ (f : ltb i n ≡ false). let s : None ≡ Some j = rw f at e in cc)
    (either (ltb i n))

pub some_below_none : (i n : ℕ) → some_below i n ≡ None → n ≤ i
some_below_none i n e =
    ⊎_elim (λ (t : ltb i n ≡ true). let s : Some i ≡ None = rw t at e in cc) (ltb-false i n) (either (ltb i n))

-- no other answer fits
pub some_below_only : (p : ℕ → Bool) (a n : ℕ) (r : Option ℕ)
    → MatchOption r ((k : ℕ) → a ≤ k → k < n → p k ≡ false) (λ i. (a ≤ i) × (i < n) × (p i ≡ true) × ((k : ℕ) → a ≤ k → k < i → p k ≡ false))
    → r ≡ some_below (first p (n - a) a) n
some_below_only p a n None h =
    let f = first_is p (n - a) a in
    sym (some_below_out _ n (⊎_elim
    (λ (e : ltb (first p (n - a) a) n ≡ true). let l = ltb-true _ n e in not_both (f.found (omega arith)) (h _ f.from l))
    (ltb-false _ n)
    (either (ltb (first p (n - a) a) n))))
some_below_only p a n (Some i) h =
    let e : i ≡ first p (n - a) a = first_only p (n - a) a i (record { from = h.0; to = omega (arith, h.1); before = h.3; found = λ l. h.2 }) in
    rw (sym e) (sym (some_below_in i n h.1))

-- from 0 on
pub found_below : (p : ℕ → Bool) (n : ℕ) (r : Option ℕ)
    → MatchOption r ((k : ℕ) → 0 ≤ k → k < n → p k ≡ false) (λ i. (0 ≤ i) × (i < n) × (p i ≡ true) × ((k : ℕ) → 0 ≤ k → k < i → p k ≡ false))
    → r ≡ some_below (first p n 0) n
found_below p n r h = let all : n - 0 ≡ n = omega arith in rw all at (some_below_only p 0 n r h)
