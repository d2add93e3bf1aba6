-- The part of the slice is filled with zeros.
-- Storing them one after the other leaves the same. Assumes nothing.
use Rattle.std.proofs.Common.{rules, arith, ℕ, ◌+◌, ◌-◌, ◌≡◌, ◌∙◌, replicate}
use Rattle.std.proofs.lemmas.List.{get_or-replicate, length-replicate}
use Rattle.book.specs.PartsLaws.{stored_part, stored_ext}
use Rattle.book.proofs.bytes.store_zeros.Goals as goal

pub returns : goal.returns
returns c =
    let a = c.args in
    let zeros : c.fill.new.self ≡ replicate a.n 0 = search rules in
    let size = length-replicate {A = ℕ} a.n 0 in
    rw size at (stored_part a.at (a.at + a.n - a.at) a.out.now c.fill.new.self (replicate a.n 0) (omega (arith, size)) (omega (arith, size)) zeros)
    ∙ stored_ext a.at a.n _ (λ t. 0) a.out.now (λ t l. get_or-replicate a.n t 0 0 l)
