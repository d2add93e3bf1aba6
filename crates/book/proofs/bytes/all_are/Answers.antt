-- The tests of the bytes are joined one after the other.
-- So what is joined at the end is true exactly where all of them hold. Assumes nothing.
use Rattle.std.proofs.Common.{rules, tests, ℕ, Bool, true, List, [], ◌∷◌, ◌≡◌, ◌&&◌, sym, ap, ◌∙◌, refl, eqb}
use Rattle.std.proofs.lemmas.Fn.{fold_over, fronts, slice_gives}
use Rattle.std.proofs.lemmas.Grind.{fold-append}
use Rattle.std.specs.List.{fold}
use Rattle.book.specs.ByteLaws.{all_joined}
use Rattle.book.proofs.bytes.all_are.Goals as goal

pub returns : goal.returns
returns c =
    let value = c.args.value in
    let h : Bool → ℕ → Bool = λ same x. same && eqb x value in
    let joined : c.fold.result ≡ fold h true c.iter.result.rest.now =
    fold_over fronts (λ y. y.now) _ (λ (ys : List ℕ) (b : Bool). b ≡ fold h true ys) _
    (λ ys a x b f' e k.
    let one : b ≡ a && eqb x.now value = search (rules, tests) in
    (one ∙ ap (λ (s : Bool). h s x.now) e ∙ sym (fold-append h true ys (x.now ∷ [])), search rules))
    c.iter.result _ true c.fold.result (slice_gives c.iter.result) refl c.fold.ensures.ran
    in
    joined ∙ ap (fold h true) c.iter.ensures.rest ∙ all_joined value c.args.bytes.now true
