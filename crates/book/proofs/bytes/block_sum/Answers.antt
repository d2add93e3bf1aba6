use Rattle.std.proofs.Common.{ℕ, suc, ◌+◌, ◌*◌, ◌/◌, ◌<◌, ◌≡◌, refl, ap, ◌∙◌, arith, length, get_or, take, List, [], length-take-le, get_or-take}
use Rattle.std.specs.Int.{w16, from_be_bytes}
use Rattle.std.specs.Simd.{first_chunks}
use Rattle.book.specs.Bytes.{little, sum16}
use Rattle.book.specs.ByteLaws.{chunk_at, sum16_word, sum16_pair}
use Rattle.book.specs.LibraryLaws.{big_at}
use Rattle.book.specs.Parts.{carried}
use Rattle.book.proofs.bytes.block_sum.Goals as goal

-- the bytes of pair i are four of the block
paired : (block : List ℕ) (pairs : List (List ℕ)) (i t : ℕ) → length block ≡ 512 → pairs ≡ first_chunks 4 (length (take 508 block) / 4) (take 508 block)
    → i < 127 → t < 4 → get_or (get_or pairs i []) t 0 ≡ get_or block (2 * (2 * i) + t) 0
paired block pairs i t s e l h =
    let size = length-take-le 508 block (omega arith) in
    let at : 4 * i + t ≡ 2 * (2 * i) + t = omega arith in
    ap (λ (l : List (List ℕ)). get_or (get_or l i []) t 0) e ∙ chunk_at 4 _ (take 508 block) i t (omega (arith, size)) h
    ∙ get_or-take 508 block (4 * i + t) 0 (omega arith) ∙ ap (λ (j : ℕ). get_or block j 0) at

pub loop-pair-init : goal.loop-pair-init
unfolding carried sum16
loop-pair-init c = record { same = refl; fits = omega arith }

pub loop-pair-preserved : goal.loop-pair-preserved
loop-pair-preserved c =
    let block = c.args.block.now in
    let l = c.loop-pair in
    let f : ℕ → ℕ = λ p. get_or block p 0 in
    let size = length-take-le 508 block (omega arith) in
    let at = λ (t : ℕ) (h : t < 4). paired block c.as_chunks.result.0.now l.pair-index t c.told-block c.as_chunks.ensures.front (omega (arith, c.as_chunks.ensures.front_len, size)) h in
    let pair : c.from-sum.result ≡ little 4 (λ t. f (2 * (2 * l.pair-index) + t)) = omega (arith, at 0, at 1, at 2, at 3) in
    let next : suc (suc (2 * l.pair-index)) ≡ 2 * (l.pair-index + 1) = omega arith in
    record {
      same = ap (λ (w : ℕ). carried (256 * (l.sum + w))) pair
          ∙ sum16_pair f (λ p. omega (arith, c.fits-block p)) (2 * l.pair-index) l.sum l.invariant.same ∙ ap (λ (j : ℕ). sum16 j f) next;
      fits = omega arith;
    }

pub returns : goal.returns
returns c =
    let block = c.args.block.now in
    let l = c.loop-pair in
    let f : ℕ → ℕ = λ p. get_or block p 0 in
    let size = length-take-le 508 block (omega arith) in
    let last : c.from.result ≡ f 508 * 256 + f 509 = omega (arith, ap (from_be_bytes w16) c.taken.ensures ∙ big_at w16 508 f) in
    let end : 2 * l.pair-index ≡ 254 = omega (arith, c.as_chunks.ensures.front_len, size) in
    c.carried.ensures ∙ ap (λ (w : ℕ). carried (256 * l.sum + w)) last
    ∙ sum16_word f (λ p. omega (arith, c.fits-block p)) 254 (256 * l.sum) (rw end at l.invariant.same)
