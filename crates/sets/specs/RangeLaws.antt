-- Laws of a search over a range, `(a..n).find(..)` and its kin, and over the rows of a set: what `core`'s contract of the call says, told of the numbers.
-- Each takes that the closure computes a test p, and leaves what it captures as it was.
-- Assumes nothing.
use Rattle.std.specs.Prelude.{ℕ, suc, ◌+◌, ◌-◌, ◌≤◌, ◌<◌, ◌≡◌, refl, Bool, true, false, ◌&&◌, Option, List, length}
use Rattle.std.specs.Iterator.{ActsAs, ActsAsAt, ChecksAll, ActsAsOnTwo, ChecksAny, FindsItem, FoldsItems, YieldsFirst}
use Rattle.std.specs.List.{range_with_len, AllWithin, HoldsAt}
use Rattle.std.specs.declared.ops.Range.{Range}
use Rattle.std.proofs.Common.{sym, ◌∙◌, arith, get_or}
use Rattle.std.proofs.lemmas.Iterator.{YieldsList-from_range, first_from_Range, cases_from_all, cases_from_any}
use Rattle.std.proofs.lemmas.Iterator.Adapters.{option_map_id}
use Rattle.std.proofs.lemmas.Iterator.Consumers.{YieldsList-from_first, fold_from_yields_List}
use Rattle.std.proofs.lemmas.Iterator.Search.{find_from_yields_List}
use Rattle.std.proofs.lemmas.List.FromFn.{length-range_with_len, get_or-range_with_len}
use Rattle.std.proofs.iter.Yields.{nat_range_steps}
use Rattle.sets.specs.Sums.{first, some_below}
use Rattle.sets.specs.SumLaws.{some_below_only}
use Rattle.sets.specs.Rows.{rows_between}
use Rattle.sets.specs.RowsLaws.{find_rows, fold_rows}
use denote.Param.Members.{Mut}
use denote.Ref.{Bor}

-- ---- the first number that passes, over `a..n` and over `0..n`

pub range_find_from : {F : Type 0} {g : Mut F (Bor ℕ × Unit {0}) Bool} (p : ℕ → Bool) (s u : Range ℕ) (f : F) (r : Option ℕ)
    → FindsItem nat_range_steps g s f r u → ActsAsAt g f p → r ≡ some_below (first p (s.end - s.start) s.start) s.end
range_find_from p s u f r found acts =
    some_below_only p s.start s.end r
    (first_from_Range s u f r (λ i. p i ≡ true) (λ i. p i ≡ false) found
    (λ x q k. sym (acts x true q k).1)
    (λ x q k. let a = acts x false q k in (a.0, sym a.1)))

pub range_find : {F : Type 0} {g : Mut F (Bor ℕ × Unit {0}) Bool} (p : ℕ → Bool) (s u : Range ℕ) (f : F) (r : Option ℕ)
    → FindsItem nat_range_steps g s f r u → s.start ≡ 0 → ActsAsAt g f p → r ≡ some_below (first p s.end 0) s.end
range_find p s u f r found start acts =
    let all : s.end - 0 ≡ s.end = omega arith in
    rw (start, all) at (range_find_from p s u f r found acts)

-- ---- whether all numbers pass, and whether any does

module _ {F : Type 0} {g : Mut F (ℕ × Unit {0}) Bool} (p : ℕ → Bool) (s u : Range ℕ) (f : F) (r : Bool) (acts : ActsAs g f p) where
  abbrev numbers : List ℕ
  numbers = range_with_len s.start (s.end - s.start)

  long : length numbers ≡ s.end - s.start
  long = length-range_with_len s.start (s.end - s.start)

  number : (k : ℕ) → k < s.end - s.start → get_or numbers k 0 ≡ s.start + k
  number k l = get_or-range_with_len s.start (s.end - s.start) k 0 l

  module _ (b : Bool) where
    each : AllWithin (λ i. p i ≡ b) numbers 0 (length numbers) → (i : ℕ) → s.start ≤ i → i < s.end → p i ≡ b
    each h i l q =
        let at : get_or numbers (i - s.start) 0 ≡ i = number (i - s.start) (omega arith) ∙ omega arith in
        rw at at (h (i - s.start) 0 (omega arith) (omega (arith, long)))

    some : (k : ℕ) × (k < length numbers) × HoldsAt (λ i. p i ≡ b) numbers k → (i : ℕ) × (s.start ≤ i) × (i < s.end) × (p i ≡ b)
    some (k, l, h) = (s.start + k, omega arith, omega (arith, long), rw (number k (omega (arith, long))) at (h 0))

  pub range_all : ChecksAll nat_range_steps g s f r u
      → (r ≡ true → (i : ℕ) → s.start ≤ i → i < s.end → p i ≡ true) × (r ≡ false → (i : ℕ) × (s.start ≤ i) × (i < s.end) × (p i ≡ false))
  range_all ran =
      let h = cases_from_all u f r (λ i. p i ≡ true) (λ i. p i ≡ false) ran (YieldsList-from_range s.start s.end _ refl refl)
      (λ x q k. let a = acts x true q k in (a.0, sym a.1)) (λ x q k. sym (acts x false q k).1) in
      (λ e. each true (rw e at h), λ e. some false (rw e at h))

  pub range_any : ChecksAny nat_range_steps g s f r u
      → (r ≡ true → (i : ℕ) × (s.start ≤ i) × (i < s.end) × (p i ≡ true)) × (r ≡ false → (i : ℕ) → s.start ≤ i → i < s.end → p i ≡ false)
  range_any ran =
      let h = cases_from_any u f r (λ i. p i ≡ true) (λ i. p i ≡ false) ran (YieldsList-from_range s.start s.end _ refl refl)
      (λ x q k. sym (acts x true q k).1) (λ x q k. let a = acts x false q k in (a.0, sym a.1)) in
      (λ e. some true (rw e at h), λ e. each false (rw e at h))

-- ---- the same over the rows of a set, `set.rows(n)`

pub rows_find : {F : Type 0} {g : Mut F (Bor ℕ × Unit {0}) Bool} (H p : ℕ → Bool) (n : ℕ) (s u : List ℕ) (f : F) (r : Option ℕ)
    → FindsItem (YieldsFirst (λ rest. rest)) g s f r u → s ≡ rows_between H 0 n → ActsAsAt g f p → r ≡ some_below (first (λ i. H i && p i) n 0) n
rows_find H p n s u f r found e acts =
    sym (option_map_id r)
    ∙ find_from_yields_List p u f r found (YieldsList-from_first (λ x. x) (λ rest. rest) (rows_between H 0 n) e) acts
    ∙ find_rows H p n

-- a claim about the numbers that the fold has passed, which a number that is not in the set keeps
pub rows_fold : {F A : Type 0} {g : Mut F (A × (ℕ × Unit {0})) A} (H : ℕ → Bool) (n : ℕ) (step : A → ℕ → A) (Q : ℕ → A → Type 0) (s : List ℕ) (f : F) (a r : A)
    → FoldsItems (YieldsFirst (λ rest. rest)) g s f a r → s ≡ rows_between H 0 n → ActsAsOnTwo g f step
    → ((j : ℕ) (b : A) → H j ≡ false → Q j b → Q (suc j) b) → ((i : ℕ) (b : A) → i < n → H i ≡ true → Q i b → Q (suc i) (step b i)) → Q 0 a → Q n r
rows_fold {g = g} H n step Q s f a r ran e acts skip turn start =
    rw (fold_from_yields_List g step a r ran (YieldsList-from_first (λ x. x) (λ rest. rest) (rows_between H 0 n) e) acts)
    (fold_rows H n step Q skip turn a start)
