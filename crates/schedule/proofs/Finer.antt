-- Releases and pre-emptions between ticks. With I / m rounded up, as in 004, in the place of down, as in 01, an order that passes at every level is safe at every subdivision of the tick; so it is where used is less than D. With I / m rounded down it need not be (`Limits`).
-- First a row in finer ticks and the test rounded up, then the parts of the test in finer ticks, then its bound; the theorems stand in FinerSafety.
-- Assumes nothing.
use Rattle.std.specs.Prelude.{ℕ, suc, ◌+◌, ◌*◌, ◌-◌, ◌/◌, ◌≤◌, ◌<◌, min, ◌≡◌, Bool, ◌||◌, leb}
use Rattle.std.proofs.Common.{sym, ap, ◌∙◌, arith, le_trans, one-mul, mul_comm, mul-add, mul-le-mul_left, div-lt_iff_lt-mul, le_of_lt}
use Rattle.std.proofs.Math.Dec.{ltb}
use Rattle.std.proofs.Math.Logic.{⊎_elim}
use Rattle.std.proofs.Math.Nat.{mul_assoc, mul-sub, mul-div-mul_left, min-eq_left, min-eq_right, min-le_left, min-le_right}
use Rattle.std.proofs.Math.Path.{refl}
use Rattle.rows.specs.Board.{board}
use Rattle.sets.specs.NumberLaws.{le_or_lt}
use Rattle.sets.specs.Sums.{count}
use Rattle.rows.specs.declared.table.Row.{Row}
use Rattle.workload.specs.Workload.{work, cap, plain, carry}
use Rattle.test.specs.Test.{interference}
use Rattle.test.proofs.TestLaws.{interference_scale}
use Rattle.schedule.specs.Schedule.{Proper}

-- the same row in ticks of which f make one tick
abbrev pub finer : ℕ → Row → Row
finer f r = record { c = f * r.c; d = f * r.d; t = f * r.t }

-- C of row k + I divided by m, rounded up, is at most D; or fewer than m rows are above
unfoldable pub passes_up : ℕ → (ℕ → Row) → ℕ → ℕ → (ℕ → Bool) → ℕ → Bool
passes_up n t m c H k = ltb (count n H) m || leb ((t k).c + (interference (board n t m c) H (t k) + (m - 1)) / m) (t k).d

-- ---- the parts of the test

min_finer : (f a b : ℕ) → min (f * a) (f * b) ≤ f * min a b
min_finer f a b =
    ⊎_elim (λ (l : a ≤ b). rw (min-eq_left l) (min-le_left (f * a) (f * b)))
    (λ (l : b < a). rw (min-eq_right (le_of_lt l)) (min-le_right (f * a) (f * b)))
    (le_or_lt a b)

pub work_finer : (f : ℕ) → 1 ≤ f → (i : Row) (x : ℕ) → work (finer f i) (f * x) ≤ f * work i x
unfolding work
work_finer f p i x =
    let N = x / i.t in
    let out : (z : ℕ) → N * (f * z) ≡ f * (N * z) =
    λ z. sym (mul_assoc N f z) ∙ ap (λ (y : ℕ). y * z) (mul_comm N f) ∙ mul_assoc f N z
    in
    let part : f * x - N * (f * i.t) ≡ f * (x - N * i.t) = ap (λ (z : ℕ). f * x - z) (out i.t) ∙ sym (mul-sub f x (N * i.t)) in
    rw (mul-div-mul_left x i.t p, out i.c, part, mul-add) (omega (arith, min_finer f i.c (x - N * i.t)))

pub carry_work_finer : (f : ℕ) → 1 ≤ f → (k i : Row)
    → work (finer f i) (f * k.d + (f * i.d - f * i.c)) ≤ f * work i (k.d + (i.d - i.c))
carry_work_finer f p k i =
    let e : f * k.d + (f * i.d - f * i.c) ≡ f * (k.d + (i.d - i.c)) = rw (mul-add, mul-sub) (omega arith) in
    rw e (work_finer f p i (k.d + (i.d - i.c)))

pub cap_finer : (f : ℕ) (k : Row) → cap (finer f k) ≡ f * (k.d - k.c) + 1
unfolding cap
cap_finer f k = rw mul-sub refl

module _ (f : ℕ) (p : 1 ≤ f) (k : Row) where
  cap_most : cap (finer f k) ≤ f * cap k
  unfolding cap
  cap_most = rw (cap_finer f k, mul-add) (omega arith)

  capped_finer : (w w' : ℕ) → w' ≤ f * w → min w' (cap (finer f k)) ≤ f * min w (cap k)
  capped_finer w w' l = le_trans (omega (arith, cap_most)) (min_finer f w (cap k))

  plain_finer : (i : Row) → plain (finer f k) (finer f i) ≤ f * plain k i
  unfolding plain
  plain_finer i = capped_finer (work i k.d) _ (work_finer f p i k.d)

  carry_finer : (i : Row) → carry (finer f k) (finer f i) ≤ f * carry k i
  unfolding carry
  carry_finer i = capped_finer (work i (k.d + (i.d - i.c))) _ (carry_work_finer f p k i)

  pub interference_finer : (n : ℕ) (t : ℕ → Row) (m c : ℕ) (H : ℕ → Bool)
      → interference (board n (λ i. finer f (t i)) m c) H (finer f k) ≤ f * interference (board n t m c) H k
  interference_finer n t m c H =
      rw one-mul at
      (interference_scale 1 f (board n t m c) (λ i. finer f (t i)) H k (finer f k) (λ i _. rw one-mul (plain_finer (t i))) (λ i _. rw one-mul (carry_finer (t i))))

-- ---- the test

module _ (n : ℕ) (t : ℕ → Row) (m c : ℕ) (H : ℕ → Bool) (k : ℕ) (pos : 1 ≤ m) where
  -- rounded up, I is at most (D - C) · m
  pub up_bound : (t k).c ≤ (t k).d → (t k).c + (interference (board n t m c) H (t k) + (m - 1)) / m ≤ (t k).d
      → interference (board n t m c) H (t k) ≤ ((t k).d - (t k).c) * m
  up_bound v h =
      let l : interference (board n t m c) H (t k) + (m - 1) < suc ((t k).d - (t k).c) * m = (div-lt_iff_lt-mul pos).0 (omega arith) in
      omega arith

-- ---- the rows

pub proper_finer : (f : ℕ) → 1 ≤ f → (r : Row) → Proper r → Proper (finer f r)
proper_finer f p r v = record {
  some = le_trans (omega arith) (mul-le-mul_left f v.some);
  within = mul-le-mul_left f v.within;
  constrained = mul-le-mul_left f v.constrained;
}
