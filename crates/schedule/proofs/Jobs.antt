-- From the model by jobs to the model without their names, and back: each legal schedule of the one is one of the other, with the same jobs in time.
-- First a course as a life, and that what passes is in time (`jobs_sound`); then a life as a course, and that every pattern of releases and costs has a legal schedule (`jobs_exist`).
-- Assumes nothing.
use Rattle.std.specs.Prelude.{ℕ, zero, suc, ◌+◌, ◌-◌, ◌≤◌, ◌<◌, min, ◌≡◌, refl, Bool, true, false, ◌&&◌, cond, ltb, eqb}
use Rattle.std.proofs.Common.{zero-le, sym, ap, ◌∙◌, ⊎_elim, arith, le_refl, le_trans, le_of_eq, ne_of_lt, eq-or-lt_of_le, ltb-true, ltb-false, lt-ltb, eqb-true, eq-eqb, ne_eqb}
use Rattle.std.proofs.Math.Option.{Option, none, some, some-injective, none-ne-some}
use Rattle.rows.specs.Board.{board}
use Rattle.sets.specs.NumberLaws.{le_or_lt}
use Rattle.sets.specs.Sums.{on, sum, first}
use Rattle.sets.specs.BoolLaws.{either, not_both}
use Rattle.sets.specs.SumLaws.{sum_mono, sum_add, sum_zero, count_one, first_is, sum_upto}
use Rattle.rows.specs.declared.table.Row.{Row}
use Rattle.test.specs.Test.{passes}
use Rattle.schedule.specs.Schedule.{Course, active, is_job, service, Pending, Sporadic, InTime, above, LegalJobs, Pattern, Scheduled, Proper, Enough}
use Rattle.schedule.proofs.Lives.{Life, served, due, Backlog, LifeOf, LegalLives}
use Rattle.schedule.proofs.MoreSums.{sum_smaller, count_single, spaced_mono, spaced_least}
use Rattle.schedule.proofs.Sound.{legal_meets}
use Rattle.schedule.proofs.Exists.{made, made_legal}

-- ---- what a task does in a tick

-- at most one job executes, and of the jobs below b one does where the job that executes is below b
one_job : (b : ℕ) (o : Option ℕ) → sum b (λ l. on (is_job l o) 1) ≤ on (active o) 1
one_job b none = le_of_eq (sum_zero b)
one_job b (some j) = count_single b (λ l. eqb l j) (λ i k _ _ e f. eqb-true i j e ∙ sym (eqb-true k j f))

some_job : (b : ℕ) (o : Option ℕ) → ((j : ℕ) → o ≡ some j → j < b) → on (active o) 1 ≤ sum b (λ l. on (is_job l o) 1)
some_job b none h = zero-le
some_job b (some j) h = le_of_eq (sym (count_one b j (h j refl)))

is_job_lem : (j : ℕ) (o : Option ℕ) → is_job j o ≡ true → o ≡ some j
is_job_lem j none e = not_both e refl
is_job_lem j (some l) e = ap some (sym (eqb-true j l e))

when_active : (o : Option ℕ) → active o ≡ true → (j : ℕ) × (o ≡ some j)
when_active none e = not_both e refl
when_active (some j) e = (j, refl)

when_idle : (o : Option ℕ) → active o ≡ false → o ≡ none
when_idle none e = refl
when_idle (some j) e = not_both refl e

-- ---- a course as a life

abbrev pub life : Course → Life
life s = record { release = s.release; cost = s.cost; runs = λ u. active (s.does u) }

-- a task executes what its jobs execute
pub jobs_served : (s : Course) (b x : ℕ) → sum b (λ l. service s l x) ≤ served (life s) x
jobs_served s b zero = le_of_eq (sum_zero b)
jobs_served s b (suc x) =
    omega (arith, sum_add b (λ l. service s l x) (λ l. on (is_job l (s.does x)) 1), jobs_served s b x, one_job b (s.does x))

-- and no more than the jobs below b do, where no others have executed
served_jobs : (s : Course) (b x : ℕ) → ((u l : ℕ) → u < x → s.does u ≡ some l → l < b) → served (life s) x ≤ sum b (λ l. service s l x)
served_jobs s b zero q = zero-le
served_jobs s b (suc x) q =
    omega (
      arith,
      sum_add b (λ l. service s l x) (λ l. on (is_job l (s.does x)) 1),
      served_jobs s b x (λ u l p. q u l (omega arith)),
      some_job b (s.does x) (λ j. q x j (le_refl (suc x))),
    )

module _ (r : Row) (s : Course) (J : Sporadic r s) where
  -- a job executes no longer than it takes
  service_le : (j x : ℕ) → service s j x ≤ s.cost j
  service_le j zero = zero-le
  service_le j (suc x) =
      ⊎_elim (λ (e : is_job j (s.does x) ≡ true). rw e (omega (arith, (J.ready x j (is_job_lem j (s.does x) e)).1)))
      (λ (e : is_job j (s.does x) ≡ false). rw e (omega (arith, service_le j x)))
      (either (is_job j (s.does x)))

  -- while a job is not finished, no later one executes
  unfinished : (j x : ℕ) → service s j x < s.cost j → served (life s) x < due (life s) (suc j)
  unfinished j x l =
      let first-jobs : served (life s) x ≤ sum (suc j) (λ l. service s l x) =
      served_jobs s (suc j) x
      (λ u k p e.
      ⊎_elim (λ (o : k ≤ j). omega arith)
      (λ (o : j < k). absurd (omega (arith, J.ordered u k j e (omega arith), sum_upto u x (λ y. on (is_job j (s.does y)) 1) (omega arith))))
      (le_or_lt k j))
      in
      omega (arith, sum_mono j (λ l. service s l x) s.cost (λ i _. service_le i x))

  life_of : LifeOf r (life s)
  life_of = record {
    spaced = J.spaced;
    costs = J.costs;
    ready = λ u e. let (j, q) = when_active (s.does u) e in let (p, o) = J.ready u j q in (j, p, unfinished j u o);
  }

  backlog_pending : (u : ℕ) → Backlog (life s) u → (j : ℕ) × Pending s j u
  backlog_pending u (j, p, q) =
      let (l, a, b) = sum_smaller (suc j) (λ l. service s l u) s.cost (omega (arith, jobs_served s (suc j) u)) in
      (l, (le_trans (spaced_mono s.release r.t J.spaced l j (omega arith)) p, b))

  finished_job : (j x : ℕ) → due (life s) (suc j) ≤ served (life s) x → s.cost j ≤ service s j x
  finished_job j x l =
      ⊎_elim (λ (o : s.cost j ≤ service s j x). o) (λ (o : service s j x < s.cost j). absurd (omega (arith, unfinished j x o)))
      (le_or_lt (s.cost j) (service s j x))

legal_lives : (n m : ℕ) (t : ℕ → Row) (rank : ℕ → ℕ) (s : ℕ → Course) → LegalJobs n m t rank s → LegalLives n m t rank (λ i. life (s i))
legal_lives n m t rank s g = record {
  tasks = λ i l. life_of (t i) (s i) (g.tasks i l);
  cores = g.cores;
  greedy =
      λ k u l p off.
      let (j, o) = backlog_pending (t k) (s k) (g.tasks k l) u p in
      omega (arith, g.greedy k u j l o (when_idle ((s k).does u) off));
}

-- in a legal schedule a task that passes, as do all tasks above it, is in time
pub jobs_sound : (n m : ℕ) (t : ℕ → Row) (rank : ℕ → ℕ) (s : ℕ → Course) → 0 < m → ((i : ℕ) → i < n → Proper (t i)) → LegalJobs n m t rank s
    → (c : ℕ) → Enough n m c
    → (k : ℕ) → k < n → ((i : ℕ) → i < n → rank i ≤ rank k → passes (board n t m c) (above rank i) i ≡ true) → InTime (t k) (s k)
jobs_sound n m t rank s pos v g c enough k l P j =
    finished_job (t k) (s k) (g.tasks k l) j ((s k).release j + (t k).d)
    (legal_meets n m t (λ i. life (s i)) pos v c enough rank (legal_lives n m t rank s g) k l P j)

-- ---- a life as a course

-- the first job that is not finished
abbrev current : Life → ℕ → ℕ
current h u = first (λ j. ltb (served h u) (due h (suc j))) (suc u) 0

abbrev pub course : Life → Course
course h = record { release = h.release; cost = h.cost; does = λ u. cond (h.runs u) (some (current h u)) none }

module _ (r : Row) (h : Life) (q : LifeOf r h) (period : 1 ≤ r.t) where
  record Current (u c : ℕ) : Type 0 where
    came : h.release c ≤ u
    low : due h c ≤ served h u
    high : served h u < due h (suc c)

  current_is : (u : ℕ) → h.runs u ≡ true → Current u (current h u)
  current_is u e =
      let (j, p, o) = q.ready u e in
      let test : ℕ → Bool = λ l. ltb (served h u) (due h (suc l)) in
      let c = current h u in
      let F = first_is test (suc u) 0 in
      let before : c ≤ j =
      ⊎_elim (λ (l : c ≤ j). l) (λ (l : j < c). not_both (lt-ltb (served h u) (due h (suc j)) o) (F.before j zero-le l)) (le_or_lt c j)
      in
      record {
        came = le_trans (spaced_mono h.release r.t q.spaced c j before) p;
        low = done c (λ l b. ltb-false (served h u) (due h (suc l)) (F.before l zero-le b));
        high = ltb-true (served h u) (due h (suc c)) (F.found (omega (arith, spaced_least h.release r.t q.spaced period j)));
      }
    where
      done : (c : ℕ) → ((l : ℕ) → l < c → due h (suc l) ≤ served h u) → due h c ≤ served h u
      done zero b = zero-le
      done (suc c) b = b c (le_refl (suc c))

  -- what a job has executed: what the task executed beyond the jobs before it, up to its cost
  course_service : (j u : ℕ) → service (course h) j u ≡ min (h.cost j) (served h u - due h j)
  course_service j zero = omega arith
  course_service j (suc u) =
      ⊎_elim
      (λ (e : h.runs u ≡ true).
      let c = current h u in
      let K = current_is u e in
      let ih = course_service j u in
      rw e
      (⊎_elim
      (λ (l : j ≤ c).
      ⊎_elim
      (λ (p : j ≡ c).
      let low : due h j ≤ served h u = rw p K.low in
      let high : served h u < due h (suc j) = rw p K.high in
      rw (eq-eqb j c p) (omega arith))
      (λ (o : j < c). rw (ne_eqb j c (ne_of_lt o)) (omega (arith, sum_upto (suc j) c h.cost o, K.low)))
      (eq-or-lt_of_le l))
      (λ (o : c < j). rw (ne_eqb j c (λ p. ne_of_lt o (sym p))) (omega (arith, sum_upto (suc c) j h.cost o, K.high)))
      (le_or_lt j c)))
      (λ (e : h.runs u ≡ false). rw e (omega (arith, course_service j u)))
      (either (h.runs u))

  course_does : (u j : ℕ) → (course h).does u ≡ some j → Current u j
  course_does u j e =
      let (a, b) = go (h.runs u) refl e in
      rw b at (current_is u a)
    where
      go : (b : Bool) → h.runs u ≡ b → cond b (some (current h u)) none ≡ some j → (h.runs u ≡ true) × (current h u ≡ j)
      go true e p = (e, some-injective (current h u) j p)
      go false e p = absurd (none-ne-some j p)

  course_sporadic : Sporadic r (course h)
  course_sporadic = record {
    spaced = q.spaced;
    costs = q.costs;
    ready = λ u j e. let K = course_does u j e in (K.came, omega (arith, course_service j u, K.low, K.high));
    ordered =
        λ u j l e o.
        let K = course_does u j e in
        omega (arith, course_service l u, sum_upto (suc l) j h.cost o, K.low);
  }

  pending_backlog : (u j : ℕ) → Pending (course h) j u → Backlog h u
  pending_backlog u j (p, o) = (j, p, omega (arith, course_service j u))

  -- a job that is not finished without the names of jobs is not finished
  pub course_late : (j u : ℕ) → 1 ≤ h.cost j → served h u < due h (suc j) → service (course h) j u < h.cost j
  course_late j u costs l = omega (arith, course_service j u)

pub legal_courses : (n m : ℕ) (t : ℕ → Row) (rank : ℕ → ℕ) (s : ℕ → Life) → ((i : ℕ) → i < n → 1 ≤ (t i).t) → LegalLives n m t rank s
    → LegalJobs n m t rank (λ i. course (s i))
legal_courses n m t rank s period g = record {
  tasks = λ i l. course_sporadic (t i) (s i) (g.tasks i l) (period i l);
  cores = λ u. le_trans (sum_mono n _ _ (λ i _. le_of_eq (ap (λ (b : Bool). on b 1) (acting ((s i).runs u) _)))) (g.cores u);
  greedy =
      λ k u j l o e.
      le_trans
      (g.greedy k u l (pending_backlog (t k) (s k) (g.tasks k l) (period k l) u j o) (sym (acting ((s k).runs u) _) ∙ ap active e))
      (sum_mono n _ _ (λ i _. le_of_eq (ap (λ (b : Bool). on (above rank k i && b) 1) (sym (acting ((s i).runs u) _)))));
}
  where
    acting : (b : Bool) (j : ℕ) → active (cond b (some j) none) ≡ b
    acting true j = refl
    acting false j = refl

-- every pattern of releases and costs has a legal schedule
pub jobs_exist : (n m : ℕ) (t : ℕ → Row) (rank : ℕ → ℕ) → ((i : ℕ) → i < n → 1 ≤ (t i).t)
    → ((i j : ℕ) → i < n → j < n → rank i ≡ rank j → i ≡ j)
    → (release cost : ℕ → ℕ → ℕ) → Pattern n t release cost → Scheduled n m t rank release cost
unfolding made
jobs_exist n m t rank period apart release cost P = (
  λ i. course (made n m rank release cost i),
  legal_courses n m t rank (made n m rank release cost) period (made_legal n m rank release cost t period P apart),
  λ i. refl,
  λ i. refl,
)
