-- Tasks as records, and the flat words that they are (document 01, "Table").
-- Assumes nothing.
use Rattle.std.specs.Prelude.{ℕ, List, [], ◌∷◌}
use Rattle.records.specs.declared.Task.{Task}

-- the flat words of tasks: C, D and T of each in sequence
unfoldable pub flat : List Task → List ℕ
flat [] = []
flat (task ∷ tasks) = task.c ∷ task.d ∷ task.t ∷ flat tasks
