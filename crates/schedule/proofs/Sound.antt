-- In every legal schedule a task that passes with the tasks above it, as each of those does with the tasks above it, meets its deadlines: by induction from the highest task down.
-- First over what the proof uses of a schedule, then over legal schedules.
-- Assumes nothing.
use Rattle.std.specs.Prelude.{ℕ, zero, suc, ◌≤◌, ◌<◌, ◌≡◌, refl, ◌⊎◌, Bool, true}
use Rattle.std.proofs.Common.{⊎_elim, inl, inr, arith, le_refl, ltb-true, lt-ltb}
use Rattle.rows.specs.Board.{board}
use Rattle.rows.specs.declared.table.Row.{Row}
use Rattle.test.specs.Test.{passes}
use Rattle.schedule.specs.Schedule.{above, Proper, Enough}
use Rattle.schedule.proofs.Lives.{Life, Meets, LegalLives}
use Rattle.schedule.proofs.CarryIn.{Driven}
use Rattle.schedule.proofs.Deadlines.{meets}

module _ (n m : ℕ) (t : ℕ → Row) (s : ℕ → Life) (pos : 0 < m) (v : (i : ℕ) → i < n → Proper (t i)) (c : ℕ) (enough : Enough n m c) where
  -- k and all tasks above it pass
  pub driven_meets : (over : ℕ → ℕ → Bool) → Driven n m t over s → (rank : ℕ → ℕ) → ((k i : ℕ) → over k i ≡ true → rank i < rank k)
      → (k : ℕ) → k < n → ((i : ℕ) → i < n → (i ≡ k) ⊎ (over k i ≡ true) → passes (board n t m c) (over i) i ≡ true) → Meets (t k) (s k)
  driven_meets over g rank falls k l P = down (suc (rank k)) k l (le_refl (suc (rank k))) P
    where
      down : (b k : ℕ) → k < n → rank k < b → ((i : ℕ) → i < n → (i ≡ k) ⊎ (over k i ≡ true) → passes (board n t m c) (over i) i ≡ true)
          → Meets (t k) (s k)
      down zero k l h P = absurd (omega arith)
      down (suc b) k l h P =
          meets n m t over s pos v g k l
          (λ i p a.
          down b i p (omega (arith, falls k i a))
          (λ j q w. P j q (inr (⊎_elim (λ (e : j ≡ i). rw e a) (λ (e : over i j ≡ true). g.nested k i a j e) w))))
          c enough (P k l (inl refl))

  -- a task above one above k is above k
  legal_driven : (rank : ℕ → ℕ) → LegalLives n m t rank s → Driven n m t (above rank) s
  legal_driven rank g = record {
    tasks = g.tasks;
    greedy = g.greedy;
    nested =
        λ k i a j b. lt-ltb (rank j) (rank k) (omega (arith, ltb-true (rank i) (rank k) a, ltb-true (rank j) (rank i) b));
  }

  pub legal_meets : (rank : ℕ → ℕ) → LegalLives n m t rank s → (k : ℕ) → k < n
      → ((i : ℕ) → i < n → rank i ≤ rank k → passes (board n t m c) (above rank i) i ≡ true) → Meets (t k) (s k)
  legal_meets rank g k l P =
      driven_meets (above rank) (legal_driven rank g) rank (λ k i a. ltb-true (rank i) (rank k) a) k l
      (λ i p w.
      P i p
      (⊎_elim (λ (e : i ≡ k). rw e (le_refl (rank k))) (λ (a : above rank k i ≡ true). omega (arith, ltb-true (rank i) (rank k) a)) w))
