use Rattle.std.proofs.Common.{ℕ, ◌+◌, ◌*◌, ◌<◌, ◌≡◌, sym, ap, ◌∙◌, List, arith, get_or, add-zero}
use Rattle.book.specs.ByteLaws.{run_at}
use Rattle.book.specs.Layout.{edition_one}
use Rattle.book.specs.OverLaws.{over, over_three, over_all}
use Rattle.book.specs.Read.{word_at, content}
use Rattle.book.proofs.ReadLaws.{table_at, headed_table}
use Rattle.book.proofs.fields.Known.store_words.Goals as goal

pub loop-i-preserved : goal.loop-i-preserved
loop-i-preserved c =
    let b = c.args.self.now.bytes.now in
    let table = (content edition_one b).table in
    let k : ℕ = 3 * c.loop-i.i in
    let size = headed_table b _ c.args.self.now.headed in
    let count = c.args.self.now.headed.count in
    let word : (j : ℕ) → j < 3 → get_or c.row_words.result j 0 ≡ get_or table (k + j) 0 =
    λ j h.
    ap (λ (r : List ℕ). get_or r j 0) c.row_words.ensures ∙ run_at k 3 (word_at edition_one b) j h ∙ sym (table_at edition_one b (k + j) (omega arith))
    in
    let next : k + 3 ≡ 3 * (c.loop-i.i + 1) = omega arith in
    rw (c.loop-i.invariant, word 0 (omega arith), word 1 (omega arith), word 2 (omega arith), add-zero k)
    (over_three table c.args.words.now k (omega (arith, size)) (omega (arith, size)) ∙ ap (over table c.args.words.now) next)

pub returns : goal.returns
returns c =
    let table = (content edition_one c.args.self.now.bytes.now).table in
    let size = headed_table _ _ c.args.self.now.headed in
    let end : 3 * c.loop-i.i ≡ 3 * c.args.self.now.n = omega arith in
    c.loop-i.invariant ∙ ap (over table c.args.words.now) end ∙ over_all table c.args.words.now _ (sym size)
