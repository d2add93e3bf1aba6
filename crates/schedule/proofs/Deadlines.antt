-- A task that passes meets its deadlines, where the tasks above it meet theirs: one job after the other, by `finishes` of Window.
-- Assumes nothing.
use Rattle.std.specs.Prelude.{ℕ, zero, suc, ◌+◌, ◌<◌, ◌≡◌, Bool, true}
use Rattle.std.proofs.Common.{zero-le, arith, le_trans}
use Rattle.rows.specs.Board.{board}
use Rattle.rows.specs.declared.table.Row.{Row}
use Rattle.test.specs.Test.{passes}
use Rattle.schedule.specs.Schedule.{Proper, Enough}
use Rattle.schedule.proofs.Lives.{Life, Meets}
use Rattle.schedule.proofs.WorkBounds.{served_mono}
use Rattle.schedule.proofs.CarryIn.{Driven}
use Rattle.schedule.proofs.Window.{finishes}

module _ (n m : ℕ) (t : ℕ → Row) (over : ℕ → ℕ → Bool) (s : ℕ → Life) (pos : 0 < m) (v : (i : ℕ) → i < n → Proper (t i)) (g : Driven n m t over s)
    (k : ℕ) (kn : k < n) (higher : (i : ℕ) → i < n → over k i ≡ true → Meets (t i) (s i)) where
  -- one job after the other: each has finished when the next is released
  pub meets : (c : ℕ) → Enough n m c → passes (board n t m c) (over k) k ≡ true → Meets (t k) (s k)
  meets c enough P zero = finishes n m t over s pos v g k kn higher c enough P zero zero-le
  meets c enough P (suc j) =
      finishes n m t over s pos v g k kn higher c enough P (suc j)
      (le_trans (meets c enough P j)
      (served_mono (s k) ((s k).release j + (t k).d) ((s k).release (suc j)) (omega (arith, (g.tasks k kn).spaced j, (v k kn).constrained))))
