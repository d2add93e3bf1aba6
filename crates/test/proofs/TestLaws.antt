-- Laws of the test, in the words of document 01, each over any board.
-- A smaller set above and fewer carry-ins interfere no more; a row passes exactly when the interference is below cap · m, also where the plain sum is given; with fewer than m rows above it always passes; equal rows and sets give equal answers; what fits which width.
-- Assumes nothing.
use Rattle.std.specs.Prelude.{ℕ, zero, suc, ◌+◌, ◌*◌, ◌-◌, ◌/◌, ◌^◌, ◌≤◌, ◌<◌, ◌≡◌, ◌↔◌, Bool, ◌||◌, ltb, eqb}
use Rattle.std.proofs.Common.{zero-le, ◌∙◌, le_refl, mul-zero, mul-le-mul_left, div-lt_iff_lt-mul, add-zero, arith, leb-true, le-leb, lt-ltb, ltb-true}
use Rattle.std.proofs.Math.Bool.{true, false, or-true, or-false}
use Rattle.std.proofs.Math.Dec.{leb, eqb-suc-zero}
use Rattle.std.proofs.Math.Nat.{le_trans, add-le-add, mul-le-mul_right, div-le_self, div-zero}
use Rattle.std.proofs.Math.Path.{refl, ap, ap₂}
use Rattle.sets.specs.BoolLaws.{same}
use Rattle.sets.specs.NumberLaws.{div_mono, ltb_shift}
use Rattle.sets.specs.Sums.{on, count}
use Rattle.sets.specs.SumLaws.{on_mono, on_ext, on_le, sum_mono, sum_ext, sum_add, sum_bound, sum_scale, count_le}
use Rattle.sets.specs.Sets.{◌⊆◌, without}
use Rattle.sets.specs.SetLaws.{sum_without}
use Rattle.rows.specs.declared.table.Row.{Row}
use Rattle.rows.specs.Board.{Board, carrying, holding}
use Rattle.rows.specs.Known.{Ranged}
use Rattle.workload.specs.Workload.{plain, carry, extra, cap}
use Rattle.workload.proofs.WorkloadLaws.{plain_cap, extra_cap, plain_extra, carry_cap, cap_fits}
use Rattle.test.specs.Test.{top, plain_from, extra_from, interference, used, passes, plain_on, plain_sum, passes_with}
use Rattle.test.specs.TopLaws.{top_mono, top_more, top_sum, top_ext, top_scale}

-- with fewer rows above it a row that passed still passes
abbrev pub Antitone : ((ℕ → Bool) → ℕ → Bool) → Type 0
Antitone test = (H G : ℕ → Bool) (k : ℕ) → H ⊆ G → test G k ≡ true → test H k ≡ true

-- C and x divided by m are at most D exactly when x is below cap · m
within_iff : (m x : ℕ) (k : Row) → 0 < m → k.c ≤ k.d → (k.c + x / m ≤ k.d) ↔ (x < cap k * m)
unfolding cap
within_iff m x k p v = (
  λ h. (div-lt_iff_lt-mul p).0 (omega arith),
  λ h. let q : x / m < k.d - k.c + 1 = (div-lt_iff_lt-mul p).1 h in omega arith,
)

within_below : (m x : ℕ) (k : Row) → k.c ≤ k.d → leb (k.c + x / m) k.d ≡ ltb x (cap k * m) || eqb m 0
within_below zero x k v = rw or-true (le-leb (k.c + x / 0) k.d (rw (div-zero, add-zero) v))
within_below (suc m) x k v =
    let i = within_iff (suc m) x k (omega arith) v in
    rw (eqb-suc-zero, or-false) (same _ _ (λ h. lt-ltb _ _ (i.0 (leb-true _ _ h))) (λ h. le-leb _ _ (i.1 (ltb-true _ _ h))))

-- of any rows at all, one row takes at most 2 ^ 32; of the rows of a table, what fits 32 bits
module _ (t : ℕ → Row) where
  pub plain_fits : (H : ℕ → Bool) (k : Row) (i : ℕ) → k.d < 2 ^ 32 → plain_from t H k i ≤ 2 ^ 32
  plain_fits H k i h = le_trans (on_le (H i) (plain k (t i))) (le_trans (plain_cap k (t i)) (cap_fits k h))

  pub extra_fits : (H : ℕ → Bool) (k : Row) (i : ℕ) → k.d < 2 ^ 32 → extra_from t H k i ≤ 2 ^ 32
  extra_fits H k i h = le_trans (on_le (H i) (extra k (t i))) (le_trans (extra_cap k (t i)) (cap_fits k h))

  pub plain_on_small : (k i : ℕ) → (t k).d ≤ 10_000_000 → plain_on t k i ≤ 10_000_001
  unfolding plain_on cap
  plain_on_small k i h = omega (arith, plain_cap (t k) (t i))

module _ (n : ℕ) (t : ℕ → Row) where
  pub plain_sum_small : (H : ℕ → Bool) (k : ℕ) → n ≤ 96 → (t k).d ≤ 10_000_000 → plain_sum n t H k ≤ 960_000_096
  unfolding plain_sum cap
  plain_sum_small H k l h =
      omega (
        arith,
        sum_bound n 10_000_001 (plain_from t H (t k)) (λ i _. omega (arith, on_le (H i) (plain (t k) (t i)), plain_cap (t k) (t i))),
      )

  -- a row fewer above takes its plain interference off the sum, which looks at nothing but the rows above
  pub plain_sum_less : (H : ℕ → Bool) (k j : ℕ) → j < n → H j ≡ true → plain_sum n t (without H j) k + plain_on t k j ≡ plain_sum n t H k
  unfolding plain_sum plain_on
  plain_sum_less H k j l h = sum_without n H j (λ i. plain (t k) (t i)) l h

  pub plain_sum_ext : (H G : ℕ → Bool) (k : ℕ) → ((i : ℕ) → i < n → H i ≡ G i) → plain_sum n t H k ≡ plain_sum n t G k
  unfolding plain_sum
  plain_sum_ext H G k same = sum_ext n _ _ (λ i l. ap (λ (b : Bool). on b (plain (t k) (t i))) (same i l))

-- with more carry-ins and more rows above, no less
module _ (b : Board) (c c' : ℕ) (H G : ℕ → Bool) (l : c ≤ c') (s : H ⊆ G) where
  pub interference_mono : (k : Row) → interference (carrying b c) H k ≤ interference (carrying b c') G k
  unfolding interference
  interference_mono k =
      add-le-add (sum_mono b.n _ _ (λ i _. on_mono (H i) (G i) (s i) (le_refl _)))
      (le_trans (top_mono c b.n _ _ (λ i _. on_mono (H i) (G i) (s i) (le_refl _))) (top_more c c' b.n _ l))

  pub passes_mono : (k : ℕ) → passes (carrying b c') G k ≡ true → passes (carrying b c) H k ≡ true
  unfolding passes used
  passes_mono k h =
      let more = leb-true (used (carrying b c') G k) (b.t k).d h in
      le-leb (used (carrying b c) H k) (b.t k).d (omega (arith, more, div_mono b.m (interference_mono (b.t k))))

module _ (b : Board) where
  pub passes_used : (H : ℕ → Bool) (k : ℕ) → (passes b H k ≡ true) ↔ (used b H k ≤ (b.t k).d)
  unfolding passes
  passes_used H k = (leb-true (used b H k) (b.t k).d, le-leb (used b H k) (b.t k).d)

  pub passes_antitone : Antitone (passes b)
  passes_antitone H G k s h = passes_mono b b.c b.c H G (le_refl _) s k h

  -- a row passes exactly when the interference is below cap · m
  pub passes_iff : (H : ℕ → Bool) (k : ℕ) → 0 < b.m → (b.t k).c ≤ (b.t k).d
      → (passes b H k ≡ true) ↔ (interference b H (b.t k) < cap (b.t k) * b.m)
  unfolding used
  passes_iff H k p v =
      let within = within_iff b.m (interference b H (b.t k)) (b.t k) p v in
      (λ h. within.0 ((passes_used H k).0 h), λ h. (passes_used H k).1 (within.1 h))

  -- each row above adds at most cap
  pub interference_cap : (H : ℕ → Bool) (k : Row) → interference b H k ≤ count b.n H * cap k
  unfolding interference
  interference_cap H k =
      le_trans (add-le-add (le_refl _) (top_sum b.c b.n _))
      (rw (sum_add, ← sum_scale) (sum_mono b.n _ _ (λ i _. each (H i) (b.t i))))
    where
      each : (x : Bool) (i : Row) → on x (plain k i) + on x (extra k i) ≤ on x (cap k)
      each true i = omega (arith, plain_extra k i, carry_cap k i)
      each false i = omega arith

  -- with fewer than m rows above it a row always passes
  pub passes_few : (H : ℕ → Bool) (k : ℕ) → (b.t k).c ≤ (b.t k).d → count b.n H < b.m → passes b H k ≡ true
  unfolding cap
  passes_few H k v h =
      (passes_iff H k (omega arith) v).1 (omega (arith, interference_cap H (b.t k), mul-le-mul_right (cap (b.t k)) h))

  -- with the sum of the plain interferences it is the test
  pub passes_with_lem : (H : ℕ → Bool) (k : ℕ) → passes_with b H k (plain_sum b.n b.t H k) ≡ passes b H k
  unfolding passes_with plain_sum passes used interference
  passes_with_lem H k = refl

  -- and passes where the largest differences stay below what that sum leaves of cap · m, and only there; and without cores, where used is C
  pub passes_with_below : (H : ℕ → Bool) (k p : ℕ) → (b.t k).c ≤ (b.t k).d
      → passes_with b H k p ≡ ltb (top b.c b.n (extra_from b.t H (b.t k))) (cap (b.t k) * b.m - p) || eqb b.m 0
  unfolding passes_with
  passes_with_below H k p v =
      let x = top b.c b.n (extra_from b.t H (b.t k)) in
      rw (ltb_shift p x (cap (b.t k) * b.m)) (within_below b.m (p + x) (b.t k) v)

  -- used of a row in range, with at most 95 others above it, fits 32 bits
  pub used_small : (H : ℕ → Bool) (k : ℕ) → Ranged (b.t k) → count b.n H ≤ 95 → used b H k ≤ 950_000_001
  unfolding used cap
  used_small H k r h =
      omega (
        arith,
        div-le_self (interference b H (b.t k)) b.m,
        interference_cap H (b.t k),
        mul-le-mul_right (cap (b.t k)) h,
        r.some,
        r.within,
        r.constrained,
        r.short,
      )

  -- what 96 rows take fits 64 bits
  pub interference_fits : (H : ℕ → Bool) (k : Row) → b.n ≤ 96 → k.d < 2 ^ 32 → interference b H k ≤ 96 * 2 ^ 32
  interference_fits H k l h =
      le_trans (interference_cap H k)
      (le_trans (mul-le-mul_right (cap k) (le_trans (count_le b.n H) l)) (mul-le-mul_left 96 (cap_fits k h)))

-- where x times each interference of other rows is at most y times that of the board's, so is x times the whole
pub interference_scale : (x y : ℕ) (b : Board) (t' : ℕ → Row) (H : ℕ → Bool) (k k' : Row)
    → ((i : ℕ) → i < b.n → x * plain k' (t' i) ≤ y * plain k (b.t i)) → ((i : ℕ) → i < b.n → x * carry k' (t' i) ≤ y * carry k (b.t i))
    → x * interference (holding b t') H k' ≤ y * interference b H k
unfolding interference
interference_scale x y b t' H k k' p q =
    top_scale x y b.c b.n (plain_from b.t H k) (extra_from b.t H k) (plain_from t' H k') (extra_from t' H k')
    (λ i l. one (H i) (plain k (b.t i)) (plain k' (t' i)) (p i l))
    (λ i l.
    two (H i) (plain k (b.t i)) (extra k (b.t i)) (plain k' (t' i)) (extra k' (t' i))
    (rw (plain_extra k' (t' i), plain_extra k (b.t i)) (q i l)))
  where
    one : (a : Bool) (u u' : ℕ) → x * u' ≤ y * u → x * on a u' ≤ y * on a u
    one true u u' l = l
    one false u u' l = rw (mul-zero x) zero-le

    two : (a : Bool) (u v u' v' : ℕ) → x * (u' + v') ≤ y * (u + v) → x * (on a u' + on a v') ≤ y * (on a u + on a v)
    two true u v u' v' l = l
    two false u v u' v' l = rw (mul-zero x) zero-le

-- the test looks at the rows above and the row tested, and at nothing else
module _ (b : Board) (t : ℕ → Row) (H G : ℕ → Bool) (same : (i : ℕ) → i < b.n → H i ≡ G i)
    (rows : (i : ℕ) → i < b.n → H i ≡ true → b.t i ≡ t i) where
  pub interference_ext : (k : Row) → interference b H k ≡ interference (holding b t) G k
  unfolding interference
  interference_ext k =
      ap₂ ◌+◌
      (sum_ext b.n _ _ (λ i l. on_ext (H i) (G i) _ _ (same i l) (λ e. ap (plain k) (rows i l e))))
      (top_ext b.c b.n _ _ (λ i l. on_ext (H i) (G i) _ _ (same i l) (λ e. ap (extra k) (rows i l e))))

  pub used_ext : (k : ℕ) → b.t k ≡ t k → used b H k ≡ used (holding b t) G k
  unfolding used
  used_ext k row =
      ap₂ (λ (r : Row) (x : ℕ). r.c + x / b.m) row (interference_ext (b.t k) ∙ ap (interference (holding b t) G) row)

  pub passes_ext : (k : ℕ) → b.t k ≡ t k → passes b H k ≡ passes (holding b t) G k
  unfolding passes
  passes_ext k row = ap₂ (λ (r : Row) (x : ℕ). leb x r.d) row (used_ext k row)
