-- Books that are computed: a block whose check is 0, and the block count for every n.
-- Assumes nothing.
use Rattle.std.specs.Prelude.{◌+◌, ◌/◌, ◌≡◌, refl, true, [], ◌∷◌, eqb}
use Rattle.rows.specs.Table.{row_count}
use Rattle.book.specs.Bytes.{sum16, all}
use Rattle.book.specs.Layout.{edition_one, blocks, inner, opened}
use Rattle.book.specs.Read.{no_verdict}
use Rattle.book.specs.Write.{content_of}

-- the row (1, 1, 65532) alone: the words of its block add up to 0xFFFF, so that its check is 0
pub full_sum : sum16 255 (opened edition_one (content_of (1 ∷ 1 ∷ 65532 ∷ []) 1 no_verdict) 1) ≡ 0xFFFF
unfolding row_count opened inner sum16
full_sum = refl

-- 1 + n/42, rounded up
pub block_count : all 97 (λ n. eqb (blocks edition_one n) (1 + (n + 41) / 42)) ≡ true
block_count = refl
