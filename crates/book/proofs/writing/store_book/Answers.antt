use Rattle.std.specs.Prelude.{ℕ, ◌+◌, ◌*◌, ◌≡◌, ◌++◌, drop}
use Rattle.std.proofs.Common.{refl, sym, ap, ◌∙◌, arith, List}
use Rattle.book.specs.BlockLaws.{book_begun, book_grown, book_ended}
use Rattle.book.specs.Heads.{said}
use Rattle.book.specs.Layout.{edition_one, blocks, sealed, at}
use Rattle.book.specs.Parts.{stored}
use Rattle.book.specs.PartsLaws.{stored_run}
use Rattle.book.proofs.writing.store_book.Goals as goal

pub loop-k-init : goal.loop-k-init
loop-k-init c =
    let x = said c.args.book.now c.args.words.now in
    let out = c.args.out.now in
    book_begun edition_one x out _
    (ap (λ (b : List ℕ). b ++ drop 512 out) (c.store_head.ensures c.args.words.now) ∙ sym (stored_run 512 (sealed edition_one x 0) out (omega arith)))

pub loop-k-preserved : goal.loop-k-preserved
loop-k-preserved c =
    let x = said c.args.book.now c.args.words.now in
    book_grown edition_one x c.args.out.now c.loop-k.k _ _ c.loop-k.invariant (c.store_rows.ensures x refl)

pub returns : goal.returns
returns c =
    let a = c.args in
    let x = said a.book.now a.words.now in
    let e : 1 + c.loop-k.k ≡ blocks edition_one a.book.now.n = omega arith in
    c.loop-k.invariant
    ∙ ap (λ (n : ℕ). stored 0 (512 * n) (at edition_one x) a.out.now) e ∙ book_ended edition_one x a.out.now c.requires.room.1
