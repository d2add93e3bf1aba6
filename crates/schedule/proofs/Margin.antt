-- One tick of margin: an order that passes at every level with each C one tick longer is safe, for the C that are given, at every subdivision of the tick.
-- First the work of a longer row, which holds that of the row itself and of its carry-in length one tick longer; then the caps; then the theorem.
-- Assumes nothing.
use Rattle.std.specs.Prelude.{ℕ, zero, suc, ◌+◌, ◌*◌, ◌-◌, ◌/◌, ◌≤◌, ◌<◌, min, ◌≡◌, ◌⊎◌, Bool, true, List, take, get_or}
use Rattle.std.proofs.Common.{sym, ap, ◌∙◌, ⊎_elim, le_trans, lt_of_le_of_lt, mul_comm, mul_assoc, mul-le-mul, mul-le-mul_left, eq-or-lt_of_le, div-mul-le_self, lt_of_mul-lt-mul_right, le_of_lt, arith}
use Rattle.std.proofs.Math.Logic.{inl, inr}
use Rattle.std.proofs.Math.Nat.{mul-lt-mul_of_pos_left, lt_of_mul-lt-mul_left, lt-div-mul-add, min-eq_left, min-eq_right, min-le_left, min-le_right}
use Rattle.rows.specs.Board.{board}
use Rattle.sets.specs.NumberLaws.{le_or_lt, div_mono}
use Rattle.rows.specs.declared.table.Row.{Row}
use Rattle.workload.specs.Workload.{work, cap, plain, carry}
use Rattle.test.specs.Test.{interference, passes}
use Rattle.test.proofs.TestLaws.{interference_scale, passes_iff}
use Rattle.search.specs.Search.{rows_below}
use Rattle.search.specs.Demand.{Order, among, Passing}
use Rattle.schedule.specs.Schedule.{Safe, Proper, Enough}
use Rattle.schedule.proofs.LevelLaws.{order_row}
use Rattle.schedule.proofs.Safety.{order_safe}
use Rattle.schedule.proofs.Finer.{finer, cap_finer, work_finer, carry_work_finer, proper_finer}

-- the row with C one tick longer
abbrev pub longer : Row → Row
longer r = record { c = suc r.c; d = r.d; t = r.t }

-- ---- work

work_longer : (i : Row) (x : ℕ) → work i x ≤ work (longer i) x
unfolding work
work_longer i x = omega arith

-- One tick more of length, in N whole periods and in the next: no more work than one tick more of C, or else that work fills the length.
same_period : (C T x N : ℕ) → N * T ≤ x → x < N * T + T
    → (N * C + min C (suc x - N * T) ≤ N * suc C + min (suc C) (x - N * T)) ⊎ (x ≤ N * suc C + min (suc C) (x - N * T))
same_period C T x zero h k =
    ⊎_elim (λ (l : suc C ≤ x). inl (omega arith)) (λ (l : x < suc C). inr (omega arith)) (le_or_lt (suc C) x)
same_period C T x (suc N) h k = inl (omega arith)

next_period : (C T x N : ℕ) → C < T → N * T ≤ x → x < N * T + T → suc N * T ≤ suc x
    → suc N * C + min C (suc x - suc N * T) ≤ N * suc C + min (suc C) (x - N * T)
next_period C T x N v h k l = omega arith

work_shift : (i : Row) (x : ℕ) → i.c < i.t → (work i (suc x) ≤ work (longer i) x) ⊎ (x ≤ work (longer i) x)
unfolding work
work_shift i x v =
    let N = x / i.t in
    let M = suc x / i.t in
    let a : N * i.t ≤ x = div-mul-le_self x i.t in
    let b : x < N * i.t + i.t = lt-div-mul-add (omega arith) in
    let c : M * i.t ≤ suc x = div-mul-le_self (suc x) i.t in
    let low : N ≤ M = div_mono i.t (omega arith) in
    let high : M < suc (suc N) = lt_of_mul-lt-mul_right i.t (omega arith) in
    ⊎_elim (λ (e : N ≡ M). rw (← e) (same_period i.c i.t x N a b))
    (λ (l : N < M).
    let e : M ≡ suc N = omega arith in
    inl (rw e (next_period i.c i.t x N v a b (rw e at c))))
    (eq-or-lt_of_le low)

-- ---- the caps

-- With g = D - C the cap is g for the longer C, and f·g + 1 in the finer ticks. What is cut there is to f·g + 1 at most as what is cut here is to g.
capped_scale : (f g a w : ℕ) → (a ≤ w) ⊎ (g ≤ w) → g * min (f * a) (f * g + 1) ≤ (f * g + 1) * min w g
capped_scale f g a w s =
    ⊎_elim
    (λ (l : g ≤ w). rw (min-eq_right l, mul_comm (f * g + 1) g) (mul-le-mul_left g (min-le_right (f * a) (f * g + 1))))
    (λ (l : w < g).
    let q : a ≤ w = ⊎_elim (λ h. h) (λ h. absurd (omega arith)) s in
    let e : g * (f * a) ≡ f * g * a = sym (mul_assoc g f a) ∙ ap (λ (z : ℕ). z * a) (mul_comm g f) in
    rw (min-eq_left (le_of_lt l))
    (le_trans (mul-le-mul_left g (min-le_left (f * a) (f * g + 1))) (rw e (mul-le-mul {n₁ = f * g} {m₁ = a} {n₂ = f * g + 1} {m₂ = w} (omega arith) q))))
    (le_or_lt g w)

module _ (f : ℕ) (p : 1 ≤ f) (k : Row) (room : k.c < k.d) where
  cap_longer : cap (longer k) ≡ k.d - k.c
  unfolding cap
  cap_longer = omega arith

  scale : (a w w' : ℕ) → w' ≤ f * a → (a ≤ w) ⊎ (k.d - k.c ≤ w)
      → (k.d - k.c) * min w' (cap (finer f k)) ≤ (f * (k.d - k.c) + 1) * min w (cap (longer k))
  scale a w w' l s =
      let g = k.d - k.c in
      rw (cap_longer, cap_finer f k) (le_trans (mul-le-mul_left g (omega arith)) (capped_scale f g a w s))

  plain_scale : (i : Row) → (k.d - k.c) * plain (finer f k) (finer f i) ≤ (f * (k.d - k.c) + 1) * plain (longer k) (longer i)
  unfolding plain
  plain_scale i = scale (work i k.d) (work (longer i) k.d) _ (work_finer f p i k.d) (inl (work_longer i k.d))

  -- the carry-in length of the longer row is one tick shorter
  carry_scale : (i : Row) → i.c < i.d → i.d ≤ i.t
      → (k.d - k.c) * carry (finer f k) (finer f i) ≤ (f * (k.d - k.c) + 1) * carry (longer k) (longer i)
  unfolding carry
  carry_scale i within constrained =
      let x = k.d + (i.d - suc i.c) in
      let e : k.d + (i.d - i.c) ≡ suc x = omega arith in
      scale (work i (k.d + (i.d - i.c))) (work (longer i) x) _ (carry_work_finer f p k i)
      (⊎_elim (λ (l : work i (suc x) ≤ work (longer i) x). inl (rw e l)) (λ (l : x ≤ work (longer i) x). inr (omega arith))
      (work_shift i x (omega arith)))

-- ---- safe at every subdivision

module _ (n m : ℕ) (t : ℕ → Row) (pos : 1 ≤ m) (v : (i : ℕ) → i < n → Proper (t i)) (room : (i : ℕ) → i < n → (t i).c < (t i).d) (c : ℕ) where
  -- with g = D - C: I in finer ticks is to f·g + 1 at most as I with the longer C is to g, and that is less than m
  pub margin_passes : (H : ℕ → Bool) (k : ℕ) → k < n → passes (board n (λ i. longer (t i)) m c) H k ≡ true
      → (f : ℕ) → 1 ≤ f → passes (board n (λ i. finer f (t i)) m c) H k ≡ true
  margin_passes H k l h f p =
      let free = room k l in
      let g = (t k).d - (t k).c in
      let G = f * g + 1 in
      let scaled : g * interference (board n (λ i. finer f (t i)) m c) H (finer f (t k)) ≤ G * interference (board n (λ i. longer (t i)) m c) H (longer (t k)) =
      interference_scale g G (board n (λ i. longer (t i)) m c) (λ i. finer f (t i)) H (longer (t k)) (finer f (t k))
      (λ i q. plain_scale f p (t k) free (t i)) (λ i q. carry_scale f p (t k) free (t i) (room i q) (v i q).constrained)
      in
      let less : interference (board n (λ i. longer (t i)) m c) H (longer (t k)) < g * m =
      rw (cap_longer f p (t k) free) at ((passes_iff (board n (λ i. longer (t i)) m c) H k pos free).0 h)
      in
      let e : G * (g * m) ≡ g * (G * m) = sym (mul_assoc G g m) ∙ ap (λ (z : ℕ). z * m) (mul_comm G g) ∙ mul_assoc g G m in
      (passes_iff (board n (λ i. finer f (t i)) m c) H k pos (mul-le-mul_left f (le_of_lt free))).1
      (rw (cap_finer f (t k)) (lt_of_mul-lt-mul_left g (rw e at (lt_of_le_of_lt scaled (mul-lt-mul_of_pos_left less (omega arith))))))

  -- an order that passes at every level with each C one tick longer is safe in ticks of which f make one, whatever f
  pub margin_safe : Enough n m c → (o : List ℕ) → Order (rows_below n) o → Passing (passes (board n (λ i. longer (t i)) m c)) o
      → (f : ℕ) → 1 ≤ f → Safe n m (λ i. finer f (t i)) o
  margin_safe enough o O P f p =
      order_safe n m (λ i. finer f (t i)) pos (λ i l. proper_finer f p (t i) (v i l)) c enough o O
      (λ j l. margin_passes (among (take j o)) (get_or o j 0) (order_row n o O j l) (P j l) f p)
