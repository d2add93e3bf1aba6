-- Laws of the search state: the order of a row placed, the rows placed and unplaced level by level, blank entries, and that a sound state
-- and what it stands for tell the same.
-- Assumes nothing.
use Rattle.std.specs.Prelude.{ℕ, zero, suc, ◌+◌, ◌-◌, ◌≤◌, ◌<◌, ◌≡◌, refl, Bool, true, false, ◌&&◌, Some, None, List, [], ◌∷◌, ◌++◌, leb, ltb, eqb, length, get_or, take, drop, set, replicate}
use Rattle.std.proofs.Common.{sym, ap, ap₂, ◌∙◌, ⊎_elim, append_assoc, append-nil, arith, length-append, length-drop, take-append-drop, take_at, drop_at, drop-cons, drop-drop, take_all, length-take-le, eqb-true, ltb-true, ltb-false, le-ltb, leb-true, le-leb, add-one, zero-add, eq-eqb, ne_eqb}
use Rattle.std.proofs.Math.Bool.{and-true, and-false}
use Rattle.std.proofs.lemmas.List.{length-replicate, replicate-append-replicate, set_at}
use Rattle.std.proofs.lemmas.Option.{none-some}
use Rattle.std.specs.List.{list_all}
use Rattle.sets.specs.BoolLaws.{either, not_both, and_left, and_right}
use Rattle.sets.specs.Sets.{has, set_of, without, below, without_row}
use Rattle.sets.specs.SetLaws.{FitsWords, has_set_of, has_set_of_above, set_of_has, set_ext}
use Rattle.search.specs.Search.{rows_below, free, Progress}
use Rattle.search.specs.OrderLaws.{Distinct}
use Rattle.search.specs.State.{rows_placed, placed_rows, order_of, progress_of, state_of, fresh_state, distinct, blank_from, sound, left_of}
use Rattle.sets.specs.declared.Set.{Set}
use Rattle.search.specs.declared.state.State.{State}

blanks : ℕ → List ℕ
blanks a = replicate a 255

blanks_length : (a : ℕ) → length (blanks a) ≡ a
unfolding blanks
blanks_length a = length-replicate a 255

pub order_length : (n : ℕ) (p : List ℕ) → n ≤ 96 → length p ≤ n → length (order_of n p) ≡ 96
unfolding order_of blanks
order_length n p l h =
    omega (
      arith,
      length-append (blanks (n - length p)) (p ++ blanks (96 - n)),
      length-append p (blanks (96 - n)),
      blanks_length (n - length p),
      blanks_length (96 - n),
    )

-- the fresh state stands for a search that has placed nothing
pub fresh_order : (n : ℕ) → n ≤ 96 → order_of n [] ≡ fresh_state.order
unfolding order_of blanks
fresh_order n h =
    let all : n - 0 + (96 - n) ≡ 96 = omega arith in
    replicate-append-replicate (n - 0) (96 - n) 255 ∙ ap blanks all

-- a row placed
pub order_place : (n : ℕ) (p : List ℕ) (k : ℕ) → length p < n → set (order_of n p) (n - 1 - length p) k ≡ order_of n (k ∷ p)
unfolding order_of blanks
order_place n p k h =
    let at = n - 1 - length p in
    let rest = p ++ blanks (96 - n) in
    let before : n - length p ≡ at + 1 = omega arith in
    let after : n - suc (length p) ≡ at = omega arith in
    let split : blanks (n - length p) ++ rest ≡ blanks at ++ (255 ∷ rest) =
    ap (λ (a : ℕ). blanks a ++ rest) before ∙ ap (λ (l : List ℕ). l ++ rest) (sym (replicate-append-replicate at 1 255)) ∙ append_assoc (blanks at) (blanks 1) rest
    in
    rw (split, after) (set_at (blanks at) 255 rest k at (blanks_length at))

-- what a state stands for, of the state that stands for it
pub rows_placed_lem : (n : ℕ) (p : List ℕ) → length p ≤ n → rows_placed n (order_of n p) (length p) ≡ p
unfolding rows_placed order_of blanks
rows_placed_lem n p h =
    let at = n - length p in
    ap (take (length p)) (drop_at (blanks at) (p ++ blanks (96 - n)) at (blanks_length at)) ∙ take_at p (blanks (96 - n)) (length p) refl

-- with all rows placed the order begins with them
pub take_order : (n : ℕ) (p : List ℕ) → length p ≡ n → take n (order_of n p) ≡ p
unfolding rows_placed
take_order n p e =
    let from : n - n ≡ 0 = omega arith in
    rw (e, from) at (rows_placed_lem n p (omega arith))

pub progress_of_state : (n : ℕ) (p : Progress) → length p.placed ≤ n → progress_of n (state_of n p) ≡ p
progress_of_state n p h = ap (λ (q : List ℕ). record { placed = q; cursor = p.cursor }) (rows_placed_lem n p.placed h)

-- distinct rows, as a test and as a fact
pub distinct_is : (n : ℕ) (p : List ℕ) → distinct n p ≡ true → Distinct (rows_below n) p
distinct_is n [] h = tt
distinct_is n (k ∷ p) h =
    (and_left (free (rows_below n) p k) (distinct n p) h, distinct_is n p (and_right (free (rows_below n) p k) (distinct n p) h))

-- ---- the rows placed, from the lowest level up

-- one level more
pub rows_more : (n : ℕ) (order : List ℕ) (i : ℕ) → i < n → n ≤ length order
    → rows_placed n order (i + 1) ≡ get_or order (n - 1 - i) 0 ∷ rows_placed n order i
unfolding rows_placed
rows_more n order i h l =
    let at = n - 1 - i in
    let here : n - (i + 1) ≡ at = omega arith in
    let below : n - i ≡ suc at = omega arith in
    rw (here, drop-cons order at 0 (omega arith), add-one, below) refl

-- distinct rows are distinct up to every level
distinct_below : (n : ℕ) (order : List ℕ) (i d : ℕ) → d + i ≤ n → n ≤ length order → distinct n (rows_placed n order (d + i)) ≡ true
    → distinct n (rows_placed n order i) ≡ true
distinct_below n order i zero h l e = rw zero-add at e
distinct_below n order i (suc d) h l e =
    let p = rows_placed n order (d + i) in
    let k = get_or order (n - 1 - (d + i)) 0 in
    let next : suc d + i ≡ d + i + 1 = omega arith in
    let whole : distinct n (k ∷ p) ≡ true = rw (next, rows_more n order (d + i) (omega arith) l) at e in
    distinct_below n order i d (omega arith) l (and_right (free (rows_below n) p k) (distinct n p) whole)

-- so a level at which they are not tells of the whole
pub distinct_fails : (n : ℕ) (order : List ℕ) (i placed : ℕ) → i ≤ placed → placed ≤ n → n ≤ length order
    → distinct n (rows_placed n order i) ≡ false → distinct n (rows_placed n order placed) ≡ false
distinct_fails n order i placed h m l f =
    let all : placed - i + i ≡ placed = omega arith in
    ⊎_elim
    (λ (e : distinct n (rows_placed n order placed) ≡ true). not_both (distinct_below n order i (placed - i) (omega arith) l (rw all e)) f)
    (λ (e : distinct n (rows_placed n order placed) ≡ false). e)
    (either (distinct n (rows_placed n order placed)))

-- distinct rows are distinct from every level down
distinct_back : (n : ℕ) (p q : List ℕ) → distinct n (p ++ q) ≡ true → distinct n q ≡ true
distinct_back n [] q h = h
distinct_back n (k ∷ p) q h = distinct_back n p q (and_right (free (rows_below n) (p ++ q) k) (distinct n (p ++ q)) h)

-- ---- the mask of the rows unplaced

-- of any rows that a mask has bits for
pub has_free : (dom : ℕ → Bool) → ((i : ℕ) → 128 ≤ i → dom i ≡ false) → (p : List ℕ) (k : ℕ) → has (set_of (free dom p)) k ≡ free dom p k
unfolding free
has_free dom small p k =
    ⊎_elim (λ (e : ltb k 128 ≡ true). has_set_of (free dom p) k (ltb-true k 128 e))
    (λ (e : ltb k 128 ≡ false).
    let above : 128 ≤ k = ltb-false k 128 e in
    has_set_of_above (free dom p) k above ∙ rw (small k above) refl)
    (either (ltb k 128))

pub all_free : (s : Set) → FitsWords s → s ≡ set_of (free (has s) [])
unfolding free
all_free s f = sym (set_of_has s f) ∙ set_ext (has s) (free (has s) []) (λ i l. sym (rw and-true refl))

pub less_free : (dom : ℕ → Bool) (p : List ℕ) (k : ℕ) → without_row (set_of (free dom p)) k ≡ set_of (free dom (k ∷ p))
unfolding free without
less_free dom p k =
    set_ext (without (has (set_of (free dom p))) k) (free dom (k ∷ p))
    (λ i l.
    rw (has_set_of (free dom p) i l)
    (⊎_elim (λ (e : eqb i k ≡ true). simp (e, and-false)) (λ (e : eqb i k ≡ false). rw (e, and-true) refl) (either (eqb i k))))

-- of all rows of a table
pub rows_small : (n : ℕ) → n ≤ 96 → (i : ℕ) → 128 ≤ i → rows_below n i ≡ false
rows_small n h i l = le-ltb i n (omega arith)

pub has_unplaced : (n : ℕ) (p : List ℕ) (k : ℕ) → n ≤ 96 → has (set_of (free (rows_below n) p)) k ≡ free (rows_below n) p k
has_unplaced n p k h = has_free (rows_below n) (rows_small n h) p k

pub all_unplaced : (n : ℕ) → below n ≡ set_of (free (rows_below n) [])
unfolding free
all_unplaced n = set_ext (λ i. ltb i n) (free (rows_below n) []) (λ i l. sym (rw and-true refl))

pub less_unplaced : (n : ℕ) (p : List ℕ) (k : ℕ) → without_row (set_of (free (rows_below n) p)) k ≡ set_of (free (rows_below n) (k ∷ p))
less_unplaced n p k = less_free (rows_below n) p k

-- the row of the next level is distinct from those below it exactly when the mask has it
module _ (n : ℕ) (order : List ℕ) (i : ℕ) (h : i < n) (most : n ≤ 96) (l : n ≤ length order) where
  pub distinct_next : distinct n (rows_placed n order i) ≡ true
      → distinct n (rows_placed n order (i + 1)) ≡ has (set_of (free (rows_below n) (rows_placed n order i))) (get_or order (n - 1 - i) 0)
  distinct_next e = rw (rows_more n order i h l, e, and-true) (sym (has_unplaced n (rows_placed n order i) (get_or order (n - 1 - i) 0) most))

  pub unplaced_next : without_row (set_of (free (rows_below n) (rows_placed n order i))) (get_or order (n - 1 - i) 0)
      ≡ set_of (free (rows_below n) (rows_placed n order (i + 1)))
  unplaced_next = rw (rows_more n order i h l) (less_unplaced n (rows_placed n order i) (get_or order (n - 1 - i) 0))

-- ---- the rows placed, taken out of those below n from the lowest level up

-- the levels of `front` are left: those below them have distinct rows, and the mask has the others
pub record Takes (n : ℕ) (p front : List ℕ) (rows : Set) : Type 0 where
  pub back : List ℕ
  pub whole : p ≡ front ++ back
  pub distinct : distinct n back ≡ true
  pub unplaced : rows ≡ set_of (free (rows_below n) back)

pub takes_start : (n : ℕ) (p : List ℕ) → Takes n p p (below n)
takes_start n p = record { back = []; whole = sym (append-nil p); distinct = refl; unplaced = all_unplaced n }

-- the row of the next level is distinct from those below it exactly when the mask has it
module _ {n : ℕ} {p : List ℕ} (front : List ℕ) {rows : Set} (x : ℕ) (most : n ≤ 96) (T : Takes n p (front ++ (x ∷ [])) rows) where
  split : p ≡ front ++ (x ∷ T.back)
  split = T.whole ∙ append_assoc front (x ∷ []) T.back

  told : distinct n (x ∷ T.back) ≡ has rows x
  told = rw (T.distinct, and-true, T.unplaced) (sym (has_unplaced n T.back x most))

  pub takes_next : has rows x ≡ true → Takes n p front (without_row rows x)
  takes_next h =
      record { back = x ∷ T.back; whole = split; distinct = told ∙ h; unplaced = rw T.unplaced (less_unplaced n T.back x) }

  pub takes_fails : has rows x ≡ false → distinct n p ≡ false
  takes_fails h =
      ⊎_elim
      (λ (e : distinct n p ≡ true). not_both (distinct_back n front (x ∷ T.back) (rw split at e)) (told ∙ h))
      (λ (e : distinct n p ≡ false). e)
      (either (distinct n p))

-- ---- blank entries

module _ (order : List ℕ) (to i : ℕ) (h : i < to) where
  left : to - i ≡ suc (to - (i + 1))
  left = omega arith

  pub blank_next : get_or order i 0 ≡ 255 → blank_from order (to - i) i ≡ blank_from order (to - (i + 1)) (i + 1)
  blank_next e = rw (left, eq-eqb (get_or order i 0) 255 e, add-one) refl

  pub blank_fails : (get_or order i 0 ≡ 255 → ⊥) → blank_from order (to - i) i ≡ false
  blank_fails f = rw (left, ne_eqb (get_or order i 0) 255 f) refl

pub blank_end : (order : List ℕ) (to i : ℕ) → to ≤ i → blank_from order (to - i) i ≡ true
blank_end order to i h = let e : to - i ≡ 0 = omega arith in rw e refl

-- as a test of each entry
pub blank_all : (order : List ℕ) (d i : ℕ) → i + d ≤ length order → list_all (λ x. eqb x 255) (take d (drop i order)) ≡ blank_from order d i
blank_all order zero i h = refl
blank_all order (suc d) i h =
    rw (drop-cons order i 0 (omega arith)) (ap (λ (b : Bool). eqb (get_or order i 0) 255 && b) (blank_all order d (suc i) (omega arith)))

-- the entries that the test takes are a list of 255
blank_is : (order : List ℕ) (d i : ℕ) → i + d ≤ length order → blank_from order d i ≡ true → take d (drop i order) ≡ blanks d
unfolding blanks
blank_is order zero i h e = refl
blank_is order (suc d) i h e =
    let x = get_or order i 0 in
    let head : x ≡ 255 = eqb-true x 255 (and_left (eqb x 255) (blank_from order d (suc i)) e) in
    let tail = blank_is order d (suc i) (omega arith) (and_right (eqb x 255) (blank_from order d (suc i)) e) in
    rw (drop-cons order i 0 (omega arith)) (ap₂ ◌∷◌ head tail)

-- ---- sound states

-- an order of 96 entries, blank but for the rows placed, is the order of those rows
order_is : (n : ℕ) (order : List ℕ) (placed : ℕ) → length order ≡ 96 → n ≤ 96 → placed ≤ n → blank_from order (n - placed) 0 ≡ true
    → blank_from order (96 - n) n ≡ true → (order_of n (rows_placed n order placed) ≡ order) × (length (rows_placed n order placed) ≡ placed)
unfolding order_of rows_placed blanks
order_is n order placed size most few above below =
    let at = n - placed in
    let p = take placed (drop at order) in
    let long : length p ≡ placed = length-take-le placed (drop at order) (omega (arith, length-drop at order)) in
    let split : at + placed ≡ n = omega arith in
    let rest : drop n order ≡ blanks (96 - n) =
    sym (take_all (96 - n) (drop n order) (omega (arith, length-drop n order))) ∙ blank_is order (96 - n) n (omega arith) below
    in
    let tail : p ++ drop n order ≡ drop at order =
    ap (λ (l : List ℕ). p ++ l) (sym (drop-drop placed at order ∙ ap (λ (k : ℕ). drop k order) split)) ∙ take-append-drop placed (drop at order)
    in
    let front : take at order ≡ blanks at = blank_is order at 0 (omega arith) above in
    (rw (long, ← rest, tail, ← front) (take-append-drop at order), long)

-- the parts of soundness
pub record Sound (n : ℕ) (s : State) : Type 0 where
  pub placed_most : s.placed ≤ n
  pub cursor_most : s.cursor ≤ n
  pub above : blank_from s.order (n - s.placed) 0 ≡ true
  pub below : blank_from s.order (96 - n) n ≡ true
  pub rows : distinct n (placed_rows n s) ≡ true

pub sound_is : (n : ℕ) (s : State) → sound n s ≡ true → Sound n s
unfolding sound
sound_is n s h =
    let a = leb s.placed n in
    let b = leb s.cursor n in
    let e = blank_from s.order (n - s.placed) 0 in
    let f = blank_from s.order (96 - n) n in
    let g = distinct n (placed_rows n s) in
    let h₃ = and_left (a && b && e && f) g h in
    let h₂ = and_left (a && b && e) f h₃ in
    let h₁ = and_left (a && b) e h₂ in
    record {
      placed_most = leb-true s.placed n (and_left a b h₁);
      cursor_most = leb-true s.cursor n (and_right a b h₁);
      above = and_right (a && b) e h₂;
      below = and_right (a && b && e) f h₃;
      rows = and_right (a && b && e && f) g h;
    }

pub unsound_is : (n : ℕ) (s : State) → (Sound n s → ⊥) → sound n s ≡ false
unsound_is n s h = ⊎_elim (λ (e : sound n s ≡ true). absurd (h (sound_is n s e))) (λ (e : sound n s ≡ false). e) (either (sound n s))

-- where all else holds, the rows decide
pub sound_rows : (n : ℕ) (s : State) → s.placed ≤ n → s.cursor ≤ n → blank_from s.order (n - s.placed) 0 ≡ true
    → blank_from s.order (96 - n) n ≡ true → sound n s ≡ distinct n (placed_rows n s)
unfolding sound
sound_rows n s a b e f = rw (le-leb s.placed n a, le-leb s.cursor n b, e, f) refl

-- the rows left of a sound state, and that none are of another
pub left_is : (n : ℕ) (s : State) (left : Set) → left_of n s ≡ Some left
    → (sound n s ≡ true) × (left ≡ set_of (free (rows_below n) (placed_rows n s)))
unfolding left_of
left_is n s left e =
    ⊎_elim (λ (b : sound n s ≡ true). (b, (let h = rw b at e in cc)))
    (λ (b : sound n s ≡ false). absurd (none-some left (rw b at e)))
    (either (sound n s))

pub left_none : (n : ℕ) (s : State) → left_of n s ≡ None → sound n s ≡ false
unfolding left_of
left_none n s e =
    ⊎_elim (λ (b : sound n s ≡ true). absurd (none-some (set_of (free (rows_below n) (placed_rows n s))) (sym (rw b at e))))
    (λ (b : sound n s ≡ false). b)
    (either (sound n s))

-- a sound state stands for distinct rows
pub sound_distinct : (n : ℕ) (s : State) → sound n s ≡ true → Distinct (rows_below n) (placed_rows n s)
sound_distinct n s h = distinct_is n (placed_rows n s) (sound_is n s h).rows

-- and is the state that stands for them
pub sound_state : (n : ℕ) (s : State) → length s.order ≡ 96 → n ≤ 96 → sound n s ≡ true → s ≡ state_of n (progress_of n s)
sound_state n s size most h =
    let S = sound_is n s h in
    let is = order_is n s.order s.placed size most S.placed_most S.above S.below in
    ap₂ (λ (o : List ℕ) (k : ℕ). record { order = o; placed = k; cursor = s.cursor }) (sym is.0) (sym is.1)
