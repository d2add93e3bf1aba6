-- Words, and the four bytes that each is read of.
use Rattle.std.proofs.Common.{◌≡◌, ℕ, zero, suc, ◌+◌, ◌*◌, ◌/◌, ◌<◌, List, [], ◌∷◌, ◌++◌, length, take, drop, get_or, set, sym, ap, ◌∙◌, arith, length-take-le, length-drop}
use Rattle.std.proofs.lemmas.Grind.{flat_map-append}
use Rattle.std.proofs.lemmas.List.{drop-drop, get_or-drop, take_more_set}
use Rattle.std.proofs.lemmas.Nat.{be_bytes_4}
use Rattle.std.proofs.Math.Seq.{take-add}
use Rattle.std.specs.Int.{w32, to_be_bytes, from_be_bytes}
use Rattle.std.specs.Simd.{first_chunks}
use Rattle.wire.specs.Answers.{words_bytes}

-- chunk i is the n bytes from n * i on
chunk_at : (n k i : ℕ) (bytes d : List ℕ) → i < k → get_or (first_chunks n k bytes) i d ≡ take n (drop (n * i) bytes)
chunk_at n zero i bytes d h = absurd (omega arith)
chunk_at n (suc k) zero bytes d h = ap (λ m. take n (drop m bytes)) {x = 0} {y = n * 0} (omega arith)
chunk_at n (suc k) (suc i) bytes d h =
    chunk_at n k i (drop n bytes) d (omega arith) ∙ ap (take n) (drop-drop (n * i) n bytes ∙ ap (λ m. drop m bytes) (omega arith))

-- the first of some bytes are bytes
take_small : (n : ℕ) (bytes : List ℕ) → ((k : ℕ) → get_or bytes k 0 < 256) → (k : ℕ) → get_or (take n bytes) k 0 < 256
take_small zero bytes small k = omega arith
take_small (suc n) [] small k = small k
take_small (suc n) (x ∷ bytes) small zero = small 0
take_small (suc n) (x ∷ bytes) small (suc k) = take_small n bytes (λ j. small (suc j)) k

-- a word more, read of the next four bytes
pub words_more : (words bytes : List ℕ) (quads : List (List ℕ)) (i w : ℕ) → quads ≡ first_chunks 4 (length bytes / 4) bytes → i < length bytes / 4
    → ((k : ℕ) → get_or bytes k 0 < 256) → words_bytes words ≡ take (4 * i) bytes → w ≡ from_be_bytes w32 (get_or quads i [])
    → words_bytes (words ++ w ∷ []) ≡ take (4 * (i + 1)) bytes
words_more words bytes quads i w cut more small so_far read =
    let rest = drop (4 * i) bytes in
    let quad : get_or quads i [] ≡ take 4 rest = ap (λ q. get_or q i []) cut ∙ chunk_at 4 _ i bytes [] more in
    let long : length (take 4 rest) ≡ 4 = length-take-le 4 rest (omega (arith, length-drop (4 * i) bytes)) in
    let bytes_too : (k : ℕ) → get_or (take 4 rest) k 0 < 256 = take_small 4 rest (λ k. rw (get_or-drop (4 * i) bytes k 0) (small _)) in
    let back : to_be_bytes w32 w ≡ take 4 rest = be_bytes_4 (take 4 rest) w long bytes_too (read ∙ ap (from_be_bytes w32) quad) in
    flat_map-append (to_be_bytes w32) words (w ∷ [])
    ∙ ap (λ x. x ++ to_be_bytes w32 w) so_far ∙ ap (λ q. take (4 * i) bytes ++ q) back
    ∙ sym (take-add (4 * i) 4 bytes) ∙ ap (λ m. take m bytes) {x = 4 * i + 4} {y = 4 * (i + 1)} (omega arith)

-- the same of a word that is stored behind those so far
pub words_stored : (words bytes : List ℕ) (quads : List (List ℕ)) (i w : ℕ) → i < length words → quads ≡ first_chunks 4 (length bytes / 4) bytes → i < length bytes / 4
    → ((k : ℕ) → get_or bytes k 0 < 256) → words_bytes (take i words) ≡ take (4 * i) bytes → w ≡ from_be_bytes w32 (get_or quads i [])
    → words_bytes (take (i + 1) (set words i w)) ≡ take (4 * (i + 1)) bytes
words_stored words bytes quads i w room cut more small so_far read =
    ap words_bytes (take_more_set words i w room) ∙ words_more (take i words) bytes quads i w cut more small so_far read
