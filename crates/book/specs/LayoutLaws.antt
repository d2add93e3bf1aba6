-- Laws of the layout, for every edition: the book's length, its bytes by block, and where the fields of block 0 stand.
-- Assumes nothing.
use Rattle.std.specs.Prelude.{ℕ, suc, ◌+◌, ◌-◌, ◌*◌, ◌/◌, ◌%◌, ◌≤◌, ◌<◌, ◌≡◌, List, ◌++◌, length, get_or}
use Rattle.std.proofs.Common.{sym, ap₂, ◌∙◌, zero-add, get_or-append-add, lt-ltb, le-ltb, arith}
use Rattle.std.proofs.Math.ListN.{get_or-append}
use Rattle.std.proofs.Math.Path.{refl, ap}
use Rattle.sets.specs.Sets.{word}
use Rattle.book.specs.Bytes.{byte, check_of, run}
use Rattle.book.specs.ByteLaws.{run_length, run_at}
use Rattle.book.specs.Layout.{Edition, edition_one, longest, Content, blocks, head, inner, opened, sealed, at, book_of}

-- An edition whose blocks hold their fields, and whose books are not too long.
pub record Fit (e : Edition) : Type 0 where
  pub some : 0 < e.page
  pub holds : 4 * e.page ≤ 508
  pub most : blocks e 96 ≤ longest
  pub more : e.more ≤ 396

pub one_fits : Fit edition_one
one_fits = record { some = omega arith; holds = omega arith; most = omega arith; more = omega arith }

module _ (e : Edition) (x : Content) where
  pub book_length : length (book_of e x) ≡ 512 * blocks e x.n
  unfolding book_of
  book_length = run_length 0 (512 * blocks e x.n) (at e x)

  pub book_at : (i : ℕ) → i < 512 * blocks e x.n → get_or (book_of e x) i 0 ≡ at e x i
  unfolding book_of
  book_at i h = run_at 0 (512 * blocks e x.n) (at e x) i h ∙ ap (at e x) (zero-add i)

  pub sealed_open : (k p : ℕ) → p < 510 → sealed e x k p ≡ opened e x k p
  unfolding sealed
  sealed_open k p h = rw (lt-ltb p 510 h) refl

  pub sealed_check : (k p : ℕ) → 510 ≤ p → sealed e x k p ≡ byte (511 - p) (check_of (opened e x k))
  unfolding sealed
  sealed_check k p h = rw (le-ltb p 510 h) refl

  pub opened_inner : (k q : ℕ) → opened e x k (2 + q) ≡ inner e x k q
  unfolding opened
  opened_inner k q = let s : 2 + q - 2 ≡ q = omega arith in rw (le-ltb (2 + q) 2 (omega arith), s) refl

  pub at_block : (k p : ℕ) → p < 512 → at e x (512 * k + p) ≡ sealed e x k p
  at_block k p h =
      let a : (512 * k + p) / 512 ≡ k = omega arith in
      let b : (512 * k + p) % 512 ≡ p = omega arith in
      ap₂ (sealed e x) a b

  pub at_inner : (k q : ℕ) → q < 508 → at e x (512 * k + (2 + q)) ≡ inner e x k q
  at_inner k q h = at_block k (2 + q) (omega arith) ∙ sealed_open k (2 + q) (omega arith) ∙ opened_inner k q

  pub at_head : (q : ℕ) → q < 508 → at e x (2 + q) ≡ get_or (head e x) q 0
  unfolding inner
  at_head q h = let z : 512 * 0 + (2 + q) ≡ 2 + q = omega arith in ap (at e x) (sym z) ∙ at_inner 0 q h

-- where the fields of block 0 stand
module _ (e : Edition) (x : Content) (o : length x.verdict.order ≡ 96) where
  abbrev bits : List ℕ
  bits = run 0 12 (λ j. byte j (word x.verdict.group))

  bits_length : length bits ≡ 12
  bits_length = run_length 0 12 (λ j. byte j (word x.verdict.group))

  pub head_order : (j : ℕ) → j < 96 → get_or (head e x) (4 + j) 0 ≡ get_or x.verdict.order j 0
  head_order j h =
      let a : 4 + j ≡ suc (suc (suc (suc j))) = omega arith in
      ap (λ (i : ℕ). get_or (head e x) i 0) a ∙ get_or-append x.verdict.order (bits ++ x.more) 0 j (omega (arith, o))

  head_rest : (j : ℕ) → get_or (head e x) (100 + j) 0 ≡ get_or (bits ++ x.more) j 0
  head_rest j =
      let a : 100 + j ≡ suc (suc (suc (suc (length x.verdict.order + j)))) = omega (arith, o) in
      ap (λ (i : ℕ). get_or (head e x) i 0) a ∙ get_or-append-add x.verdict.order (bits ++ x.more) j 0

  pub head_group : (j : ℕ) → j < 12 → get_or (head e x) (100 + j) 0 ≡ byte j (word x.verdict.group)
  head_group j h =
      head_rest j ∙ get_or-append bits x.more 0 j (omega (arith, bits_length)) ∙ run_at 0 12 (λ j. byte j (word x.verdict.group)) j h
      ∙ ap (λ (i : ℕ). byte i (word x.verdict.group)) (zero-add j)

  pub head_more : (j : ℕ) → get_or (head e x) (112 + j) 0 ≡ get_or x.more j 0
  head_more j =
      let a : 112 + j ≡ 100 + (length bits + j) = omega (arith, bits_length) in
      ap (λ (i : ℕ). get_or (head e x) i 0) a ∙ head_rest (length bits + j) ∙ get_or-append-add bits x.more j 0
