-- Orders: a search that places every row makes an order that passes at every level, and the other way round.
-- Assumes nothing.
use Rattle.std.specs.Prelude.{ℕ, suc, ◌+◌, ◌≤◌, ◌<◌, ◌≡◌, refl, ◌↔◌, Bool, false, eqb, length, take, drop, get_or, List, [], ◌∷◌, ◌++◌}
use Rattle.std.proofs.Common.{sym, ap, ◌∙◌, subst, arith, length-append, append_assoc, eqb-true, eq-eqb}
use Rattle.std.proofs.Math.Bool.{true, and-true, and-false}
use Rattle.std.proofs.Math.Logic.{⊎_elim}
use Rattle.std.proofs.Math.Path.{fun_ext}
use Rattle.std.proofs.Math.Seq.{split_at, take-append_seam, get_or-append_seam}
use Rattle.sets.specs.Sums.{times, on, sum, count}
use Rattle.sets.specs.BoolLaws.{either, not_both}
use Rattle.sets.specs.SumLaws.{on_le, on_true, on_false, sum_add, sum_zero, count_one, count_at}
use Rattle.sets.specs.Sets.{◌⊆◌, without}
use Rattle.sets.specs.SetLaws.{without_in, in_without}
use Rattle.test.proofs.TestLaws.{Antitone}
use Rattle.search.specs.Search.{elem, free}
use Rattle.search.specs.Demand.{Order, among, Passing, Placing, Stuck}
use Rattle.search.specs.FreeLaws.{free_in, in_free}
use Rattle.search.specs.StrandLaws.{stranded_blocked, blocked_stranded}

pub times_append : (i : ℕ) (a b : List ℕ) → times i (a ++ b) ≡ times i a + times i b
times_append i [] b = omega arith
times_append i (x ∷ a) b = omega (arith, times_append i a b)

pub elem_times : (i : ℕ) (p : List ℕ) → elem i p ≡ true → 1 ≤ times i p
elem_times i [] h = not_both h refl
elem_times i (x ∷ p) h =
    ⊎_elim (λ e. rw e (omega arith)) (λ e. rw e (omega (arith, elem_times i p (rw e at h)))) (either (eqb i x))

pub times_elem : (i : ℕ) (p : List ℕ) → elem i p ≡ false → times i p ≡ 0
times_elem i [] h = refl
times_elem i (x ∷ p) h =
    ⊎_elim (λ e. not_both refl (rw e at h)) (λ e. rw e (omega (arith, times_elem i p (rw e at h)))) (either (eqb i x))

-- the same, read backwards
pub times_pos : (i : ℕ) (p : List ℕ) → 1 ≤ times i p → elem i p ≡ true
times_pos i p h = ⊎_elim (λ e. e) (λ e. absurd (omega (arith, times_elem i p e))) (either (elem i p))

pub times_none : (i : ℕ) (p : List ℕ) → times i p ≤ 0 → elem i p ≡ false
times_none i p h = ⊎_elim (λ e. absurd (omega (arith, elem_times i p e))) (λ e. e) (either (elem i p))

level_at : (test : (ℕ → Bool) → ℕ → Bool) (a : List ℕ) (k : ℕ) (b o : List ℕ) → a ++ k ∷ b ≡ o → Passing test o
    → test (among a) k ≡ true
level_at test a k b o e T =
    let T' : Passing test (a ++ k ∷ b) = subst (Passing test) (sym e) T in
    simp (take-append_seam, get_or-append_seam) at (T' (length a) (omega (arith, length-append a (k ∷ b))))

module _ (dom : ℕ → Bool) where
  -- distinct rows of dom
  abbrev pub Distinct : List ℕ → Type 0
  Distinct [] = Unit {0}
  Distinct (k ∷ p) = (free dom p k ≡ true) × Distinct p

  -- each row of dom is in the list once or free, and no other row is either
  pub ledger : (p : List ℕ) → Distinct p → (i : ℕ) → times i p + on (free dom p i) 1 ≡ on (dom i) 1
  unfolding free
  ledger [] P i = rw and-true (omega arith)
  ledger (k ∷ p) P i =
      ⊎_elim
      (λ e.
      let q : i ≡ k = eqb-true i k e in
      let f : free dom p i ≡ true = rw q P.0 in
      let ih : times i p + 1 ≡ on (dom i) 1 = rw f at (ledger p P.1 i) in
      rw (e, and-false) (omega arith))
      (λ e. rw e (omega (arith, ledger p P.1 i)))
      (either (eqb i k))

  times_length : (n : ℕ) → ((i : ℕ) → dom i ≡ true → i < n) → (p : List ℕ) → Distinct p → sum n (λ i. times i p) ≡ length p
  times_length n below [] P = sum_zero n
  times_length n below (k ∷ p) P =
      omega (
        arith,
        sum_add n (λ i. on (eqb i k) 1) (λ i. times i p),
        times_length n below p P.1,
        count_one n k (below k (free_in dom p k P.0).0),
      )

  -- so the list and what is free make up dom
  pub tally : (n : ℕ) → ((i : ℕ) → dom i ≡ true → i < n) → (p : List ℕ) → Distinct p → length p + count n (free dom p) ≡ count n dom
  tally n below p P =
      let e : sum n (λ i. times i p + on (free dom p i) 1) ≡ count n dom = ap (sum n) (fun_ext (ledger p P)) in
      omega (arith, times_length n below p P, sum_add n (λ i. times i p) (λ i. on (free dom p i) 1))

  -- a list of distinct rows that is as long as dom is an order
  pub distinct_order : (n : ℕ) → ((i : ℕ) → dom i ≡ true → i < n) → (p : List ℕ) → Distinct p → length p ≡ count n dom
      → Order dom p
  distinct_order n below p P e i =
      ⊎_elim
      (λ (f : free dom p i ≡ true).
      let l : 1 ≤ count n (free dom p) = count_at n (free dom p) i (below i (free_in dom p i f).0) f in
      absurd (omega (arith, tally n below p P)))
      (λ (f : free dom p i ≡ false). let l : times i p + 0 ≡ on (dom i) 1 = rw f at (ledger p P i) in omega arith)
      (either (free dom p i))

module _ (dom : ℕ → Bool) (test : (ℕ → Bool) → ℕ → Bool) where
  pub placing_distinct : (p : List ℕ) → Placing dom test p → Distinct dom p
  placing_distinct [] P = tt
  placing_distinct (k ∷ p) P = (P.0, placing_distinct p P.2)

  suffix : (a b : List ℕ) → Placing dom test (a ++ b) → Placing dom test b
  suffix [] b P = P
  suffix (x ∷ a) b P = suffix a b P.2

  module _ (anti : Antitone test) where
    -- what is placed passes at every level
    pub placing_passing : (p : List ℕ) → Placing dom test p → Passing test p
    placing_passing p P j h =
        let k = get_or p j 0 in
        let a = take j p in
        let b = drop (suc j) p in
        let e : p ≡ a ++ k ∷ b = split_at p j 0 h in
        let Q : Placing dom test (k ∷ b) = suffix a (k ∷ b) (subst (Placing dom test) e P) in
        let one : (i : ℕ) → times i a + (on (eqb i k) 1 + times i b) ≤ on (dom i) 1 =
        λ i. omega (arith, ledger dom p (placing_distinct p P) i, ap (times i) e, times_append i a (k ∷ b))
        in
        let sub : among (take j p) ⊆ without (free dom b) k =
        λ i m.
        let t : 1 ≤ times i a = elem_times i a m in
        in_without (free dom b) k i
        (in_free dom b i (on_true (dom i) (omega (arith, one i))) (times_none i b (omega (arith, one i, on_le (dom i) 1))))
        (on_false (eqb i k) (omega (arith, one i, on_le (dom i) 1)))
        in
        anti (among a) (without (free dom b) k) k sub Q.1

    -- an order that passes at every level is made by a free search
    pub order_placing : (o : List ℕ) → Order dom o → Passing test o → (a b : List ℕ) → a ++ b ≡ o → Placing dom test b
    order_placing o O T a [] e = tt
    order_placing o O T a (k ∷ b) e =
        let one : (i : ℕ) → times i a + (on (eqb i k) 1 + times i b) ≡ on (dom i) 1 =
        λ i. omega (arith, O i, ap (times i) e, times_append i a (k ∷ b))
        in
        let self : on (eqb k k) 1 ≡ 1 = rw (eq-eqb k k refl) refl in
        let sub : without (free dom b) k ⊆ (among a) =
        λ i m.
        let w = without_in (free dom b) k i m in
        let f = free_in dom b i w.0 in
        let d : on (dom i) 1 ≡ 1 = rw f.0 refl in
        let x : on (eqb i k) 1 ≡ 0 = rw w.1 refl in
        times_pos i a (omega (arith, one i, times_elem i b f.1))
        in (
          in_free dom b k (on_true (dom k) (omega (arith, one k))) (times_none k b (omega (arith, one k, on_le (dom k) 1))),
          anti (without (free dom b) k) (among a) k sub (level_at test a k b o e T),
          order_placing o O T (a ++ (k ∷ [])) b (append_assoc a (k ∷ []) b ∙ e),
        )

    -- none are stranded exactly when some order passes at every level
    pub none_stranded : (p : List ℕ) → Placing dom test p → Stuck dom test p
        → ((i : ℕ) → free dom p i ≡ false) ↔ ((o : List ℕ) × Order dom o × Passing test o)
    none_stranded p P s = (
      λ z. (p, λ i. order p P z i, placing_passing p P),
      λ (o, O, T) i.
          let Q : Placing dom test o = order_placing o O T [] o refl in
          ⊎_elim
          (λ f.
          let g : free dom o i ≡ true = blocked_stranded dom test anti (free dom p) (stranded_blocked dom test p s) o Q i f in
          let l : times i o + 1 ≡ on (dom i) 1 = rw g at (ledger dom o (placing_distinct o Q) i) in
          absurd (omega (arith, O i)))
          (λ f. f)
          (either (free dom p i)),
    )
      where
        order : (p : List ℕ) → Placing dom test p → ((i : ℕ) → free dom p i ≡ false) → Order dom p
        order p P z i =
            let l : times i p + 0 ≡ on (dom i) 1 = rw (z i) at (ledger dom p (placing_distinct p P) i) in
            omega arith
