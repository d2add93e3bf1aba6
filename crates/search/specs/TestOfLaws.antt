-- The test looks only at the rows of the board, so a set of rows and its mask serve alike.
-- Assumes nothing.
use Rattle.std.specs.Prelude.{ℕ, ◌≤◌, ◌<◌, ◌≡◌, refl, Bool}
use Rattle.std.proofs.Common.{arith}
use Rattle.sets.specs.Sets.{has, set_of, without, without_row}
use Rattle.sets.specs.SetLaws.{has_set_of, has_without}
use Rattle.rows.specs.Board.{Board}
use Rattle.sets.specs.declared.Set.{Set}
use Rattle.test.specs.Test.{passes}
use Rattle.test.proofs.TestLaws.{passes_ext}

module _ (b : Board) (most : b.n ≤ 96) where
  pub test_ext : (H G : ℕ → Bool) (k : ℕ) → ((i : ℕ) → i < 128 → H i ≡ G i) → passes b H k ≡ passes b G k
  test_ext H G k same = passes_ext b b.t H G (λ i l. same i (omega arith)) (λ i l e. refl) k refl

  -- the code's set above row k is the mask without it
  pub test_without : (s : Set) (k : ℕ) → passes b (has (without_row s k)) k ≡ passes b (without (has s) k) k
  test_without s k = test_ext (has (without_row s k)) (without (has s) k) k (has_without s k)

  -- and where the mask is that of a set H, it is H without k
  pub test_mask : (H : ℕ → Bool) (k : ℕ) → passes b (without (has (set_of H)) k) k ≡ passes b (without H k) k
  unfolding without
  test_mask H k = test_ext (without (has (set_of H)) k) (without H k) k (λ i l. rw (has_set_of H i l) refl)
