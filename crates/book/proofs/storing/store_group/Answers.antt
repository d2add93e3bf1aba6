-- The low word's 8 bytes are stored, and behind them the first 4 of the high word's.
-- They are the first 12 bytes of the number that the words make. Assumes nothing.
use Rattle.std.proofs.Common.{ℕ, ◌+◌, ◌<◌, ◌≡◌, sym, ap, ◌∙◌, rules, List, length, get_or, take, get_or-take}
use Rattle.std.specs.Int.{w64, to_le_bytes}
use Rattle.sets.specs.Sets.{word}
use Rattle.book.specs.Bytes.{byte}
use Rattle.book.specs.ByteLaws.{byte_low, byte_high}
use Rattle.book.specs.LibraryLaws.{stored_little, to_little}
use Rattle.book.specs.Parts.{stored}
use Rattle.book.specs.PartsLaws.{stored_ext, stored_more}
use Rattle.book.proofs.storing.store_group.Goals as goal

pub returns : goal.returns
returns c =
    let block = c.args.block.now in
    let low = c.args.group.low in
    let high = c.args.group.high in
    let f : ℕ → ℕ = λ t. byte t (word c.args.group) in
    let first : c.store.new.out ≡ stored 102 8 f block =
    c.store.ensures ∙ stored_little w64 102 low block _ c.to_le_bytes.ensures ∙ stored_ext 102 8 _ f block (λ t l. sym (byte_low 8 high low t l))
    in
    let next : (t : ℕ) → t < 4 → get_or (take 4 c.to_le_bytes-2.result) t 0 ≡ f (8 + t) =
    λ t l.
    ap (λ (b : List ℕ). get_or (take 4 b) t 0) c.to_le_bytes-2.ensures ∙ get_or-take 4 (to_le_bytes w64 high) t 0 l
    ∙ to_little w64 high t (search rules) ∙ sym (byte_high 8 high low t (search rules))
    in
    c.store-2.ensures ∙ ap (λ (b : List ℕ). stored 110 (length (take 4 b)) (λ t. get_or (take 4 c.to_le_bytes-2.result) t 0) c.store.new.out) c.to_le_bytes-2.ensures
    ∙ ap (stored 110 4 (λ t. get_or (take 4 c.to_le_bytes-2.result) t 0)) first ∙ stored_more 102 8 4 f _ block next
