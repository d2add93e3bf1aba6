-- Laws of storing a book block by block: a block is its number, what stands behind it and its check, and the blocks one after the other are the book.
-- Assumes nothing.
use Rattle.std.specs.Prelude.{ℕ, zero, suc, ◌+◌, ◌-◌, ◌*◌, ◌/◌, ◌%◌, ◌≤◌, ◌<◌, ◌≡◌, true, false, List, [], ◌∷◌, ◌++◌, length, get_or, drop}
use Rattle.std.proofs.Common.{ap, ◌∙◌, arith, zero-add, lt-ltb, ltb-true}
use Rattle.std.proofs.Math.Dec.{ltb}
use Rattle.std.proofs.Math.ListN.{get_or-eq_default}
use Rattle.std.proofs.Math.Logic.{⊎_elim}
use Rattle.std.proofs.Math.Path.{refl, sym}
use Rattle.sets.specs.BoolLaws.{either}
use Rattle.sets.specs.Sets.{word}
use Rattle.book.specs.Bytes.{byte, check_of, run}
use Rattle.book.specs.ByteLaws.{check_ext, byte_none}
use Rattle.book.specs.Layout.{Edition, edition_one, Content, blocks, inner, opened, sealed, at, book_of}
use Rattle.book.specs.LayoutLaws.{book_length, book_at, sealed_open, sealed_check, opened_inner, at_block, head_order, head_group, head_more}
use Rattle.book.specs.Parts.{stored}
use Rattle.book.specs.PartsLaws.{stored_ext, stored_more, stored_at, stored_all, stored_whole}

-- ---- a block

module _ (e : Edition) (x : Content) (k from : ℕ) (o₀ o₁ o₂ o₃ : List ℕ) (fits : from + 512 ≤ length o₀)
    (number : o₁ ≡ stored from 2 (λ t. byte (1 - t) k) o₀) (body : o₂ ≡ stored (from + 2) 508 (inner e x k) o₁)
    (check : o₃ ≡ stored (from + 510) 2 (λ t. byte (1 - t) (check_of (λ p. get_or o₂ (from + p) 0))) o₂) where
  number_made : (t : ℕ) → t < 2 → byte (1 - t) k ≡ opened e x k t
  unfolding opened
  number_made t l = rw (lt-ltb t 2 l) refl

  opened_made : o₂ ≡ stored from 510 (opened e x k) o₀
  opened_made =
      body ∙ ap (stored (from + 2) 508 (inner e x k)) (number ∙ stored_ext from 2 (λ t. byte (1 - t) k) (opened e x k) o₀ number_made)
      ∙ stored_more from 2 508 (opened e x k) (inner e x k) o₀ (λ t l. sym (opened_inner e x k t))

  check_made : check_of (λ p. get_or o₂ (from + p) 0) ≡ check_of (opened e x k)
  check_made =
      check_ext (λ p. get_or o₂ (from + p) 0) (opened e x k)
      (λ p l. ap (λ (o : List ℕ). get_or o (from + p) 0) opened_made ∙ stored_at from 510 (opened e x k) o₀ (omega arith) p l)

  pub block_made : o₃ ≡ stored from 512 (sealed e x k) o₀
  block_made =
      let c = check_of (opened e x k) in
      let last : (t : ℕ) → t < 2 → byte (1 - t) c ≡ sealed e x k (510 + t) =
      λ t l.
      let s : 511 - (510 + t) ≡ 1 - t = omega arith in
      sym (sealed_check e x k (510 + t) (omega arith) ∙ ap (λ (i : ℕ). byte i c) s)
      in
      check ∙ ap (λ (v : ℕ). stored (from + 510) 2 (λ t. byte (1 - t) v) o₂) check_made
      ∙ ap (stored (from + 510) 2 (λ t. byte (1 - t) c))
      (opened_made ∙ stored_ext from 510 (opened e x k) (sealed e x k) o₀ (λ t l. sym (sealed_open e x k t l)))
      ∙ stored_more from 510 2 (sealed e x k) (λ t. byte (1 - t) c) o₀ last

-- a block by itself is the run of its bytes
pub block_whole : (e : Edition) (x : Content) (k : ℕ) (o₀ o₁ o₂ o₃ : List ℕ) → length o₀ ≡ 512 → o₁ ≡ stored 0 2 (λ t. byte (1 - t) k) o₀
    → o₂ ≡ stored 2 508 (inner e x k) o₁ → o₃ ≡ stored 510 2 (λ t. byte (1 - t) (check_of (λ p. get_or o₂ p 0))) o₂ → o₃ ≡ run 0 512 (sealed e x k)
block_whole e x k o₀ o₁ o₂ o₃ size number body check =
    let same : check_of (λ p. get_or o₂ p 0) ≡ check_of (λ p. get_or o₂ (0 + p) 0) =
    check_ext _ _ (λ p l. ap (λ (i : ℕ). get_or o₂ i 0) (sym (zero-add p)))
    in
    block_made e x k 0 o₀ o₁ o₂ o₃ (omega arith) number body (check ∙ ap (λ (v : ℕ). stored 510 2 (λ t. byte (1 - t) v) o₂) same)
    ∙ stored_whole 512 (sealed e x k) o₀ size

-- ---- what stands behind the number

-- block 0: the edition, m, n and the kind, the order, the group, and zeros
module _ (x : Content) (length-96 : length x.verdict.order ≡ 96) (plain : x.more ≡ []) (o₁ a b c d : List ℕ)
    (four : a ≡ stored 2 4 (λ t. get_or (1 ∷ x.m ∷ x.n ∷ x.verdict.kind ∷ []) t 0) o₁)
    (order : b ≡ stored 6 96 (λ t. get_or x.verdict.order t 0) a)
    (group : c ≡ stored 102 12 (λ t. byte t (word x.verdict.group)) b)
    (rest : d ≡ stored 114 396 (λ t. 0) c) where
  abbrev said : ℕ → ℕ
  said = inner edition_one x 0

  four_said : (t : ℕ) → t < 4 → get_or (1 ∷ x.m ∷ x.n ∷ x.verdict.kind ∷ []) t 0 ≡ said t
  unfolding inner
  four_said zero l = refl
  four_said (suc zero) l = refl
  four_said (suc (suc zero)) l = refl
  four_said (suc (suc (suc zero))) l = refl
  four_said (suc (suc (suc (suc t)))) l = absurd (omega arith)

  order_said : (t : ℕ) → t < 96 → get_or x.verdict.order t 0 ≡ said (4 + t)
  unfolding inner
  order_said t l = sym (head_order edition_one x length-96 t l)

  group_said : (t : ℕ) → t < 12 → byte t (word x.verdict.group) ≡ said (100 + t)
  unfolding inner
  group_said t l = sym (head_group edition_one x length-96 t l)

  rest_said : (t : ℕ) → t < 396 → 0 ≡ said (112 + t)
  unfolding inner
  rest_said t l = sym (head_more edition_one x length-96 t ∙ rw plain refl)

  pub head_made : d ≡ stored 2 508 (inner edition_one x 0) o₁
  head_made =
      let a' : a ≡ stored 2 4 said o₁ = four ∙ stored_ext 2 4 _ said o₁ four_said in
      let b' : b ≡ stored 2 100 said o₁ =
      order ∙ ap (stored 6 96 (λ t. get_or x.verdict.order t 0)) a' ∙ stored_more 2 4 96 said (λ t. get_or x.verdict.order t 0) o₁ order_said
      in
      let c' : c ≡ stored 2 112 said o₁ =
      group ∙ ap (stored 102 12 (λ t. byte t (word x.verdict.group))) b'
      ∙ stored_more 2 100 12 said (λ t. byte t (word x.verdict.group)) o₁ group_said
      in
      rest ∙ ap (stored 114 396 (λ t. 0)) c' ∙ stored_more 2 112 396 said (λ t. 0) o₁ rest_said

-- a row block: so many words of the table, and zeros
module _ (x : Content) (k from count : ℕ) (few : count ≤ 126) (all : (j : ℕ) → count ≤ j → j < 126 → length x.table ≤ 126 * k + j)
    (o₁ a b : List ℕ)
    (words : a ≡ stored from (4 * count) (λ q. byte (3 - q % 4) (get_or x.table (126 * k + q / 4) 0)) o₁)
    (rest : b ≡ stored (from + 4 * count) (508 - 4 * count) (λ t. 0) a) where
  word_said : (q : ℕ) → q < 4 * count → byte (3 - q % 4) (get_or x.table (126 * k + q / 4) 0) ≡ inner edition_one x (suc k) q
  unfolding inner
  word_said q l = rw (lt-ltb q 504 (omega arith)) refl

  none_said : (t : ℕ) → t < 508 - 4 * count → 0 ≡ inner edition_one x (suc k) (4 * count + t)
  unfolding inner
  none_said t l =
      let q = 4 * count + t in
      ⊎_elim
      (λ (h : ltb q 504 ≡ true).
      let i = ltb-true q 504 h in
      rw h (sym (ap (byte (3 - q % 4)) (get_or-eq_default x.table 0 (all (q / 4) (omega arith) (omega arith))) ∙ byte_none (3 - q % 4))))
      (λ (h : ltb q 504 ≡ false). rw h refl)
      (either (ltb q 504))

  pub rows_made : b ≡ stored from 508 (inner edition_one x (suc k)) o₁
  rows_made =
      let f = inner edition_one x (suc k) in
      let whole : 4 * count + (508 - 4 * count) ≡ 508 = omega arith in
      rest ∙ ap (stored (from + 4 * count) (508 - 4 * count) (λ t. 0)) (words ∙ stored_ext from (4 * count) _ f o₁ word_said)
      ∙ stored_more from (4 * count) (508 - 4 * count) f (λ t. 0) o₁ none_said ∙ ap (λ (n : ℕ). stored from n f o₁) whole

-- ---- the book

module _ (e : Edition) (x : Content) (d : List ℕ) where
  pub book_begun : (o : List ℕ) → o ≡ stored 0 512 (sealed e x 0) d → o ≡ stored 0 (512 * (1 + 0)) (at e x) d
  book_begun o h =
      h ∙ stored_ext 0 512 (sealed e x 0) (at e x) d
      (λ p l. sym (at_block e x 0 p l) ∙ (let z : 512 * 0 + p ≡ p = omega arith in ap (at e x) z))

  pub book_grown : (k : ℕ) (o o' : List ℕ) → o ≡ stored 0 (512 * (1 + k)) (at e x) d → o' ≡ stored (512 * (k + 1)) 512 (sealed e x (k + 1)) o
      → o' ≡ stored 0 (512 * (1 + (k + 1))) (at e x) d
  book_grown k o o' h g =
      let f = sealed e x (k + 1) in
      let from : 512 * (k + 1) ≡ 0 + 512 * (1 + k) = omega arith in
      let next : 512 * (1 + k) + 512 ≡ 512 * (1 + (k + 1)) = omega arith in
      let byte_at : (t : ℕ) → t < 512 → f t ≡ at e x (512 * (1 + k) + t) =
      λ t l. sym (at_block e x (k + 1) t l) ∙ (let s : 512 * (k + 1) + t ≡ 512 * (1 + k) + t = omega arith in ap (at e x) s)
      in
      g ∙ ap (λ (i : ℕ). stored i 512 f o) from ∙ ap (stored (0 + 512 * (1 + k)) 512 f) h
      ∙ stored_more 0 (512 * (1 + k)) 512 (at e x) f d byte_at ∙ ap (λ (n : ℕ). stored 0 n (at e x) d) next

  pub book_ended : 512 * blocks e x.n ≤ length d
      → stored 0 (512 * blocks e x.n) (at e x) d ≡ book_of e x ++ drop (512 * blocks e x.n) d
  book_ended fit =
      let n = 512 * blocks e x.n in
      let size = book_length e x in
      stored_ext 0 n (at e x) (λ i. get_or (book_of e x) i 0) d (λ i l. sym (book_at e x i l))
      ∙ stored_all (book_of e x) d (omega (arith, size)) n (sym size)
