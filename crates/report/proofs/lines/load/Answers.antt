-- The chain yields the rows' shares, from row 0 on, and their sum is the load.
-- The load of any table is small, so the sum fits. Assumes nothing.
use Rattle.std.proofs.Common.{◌≡◌, ℕ, zero, suc, ◌+◌, sum, map, refl, arith, rules, tests, add-one, zero-add, ◌∙◌, ap}
use Rattle.std.specs.List.{range_with_len}
use Rattle.std.proofs.lemmas.List.FromFn.{sum_by-map-range_with_len_more}
use Rattle.std.proofs.lemmas.Iterator.{YieldsList-from_range, YieldsList-from_map}
use Rattle.std.proofs.lemmas.Iterator.Consumers.{sum_from_yields_List, fits_from_yields_list}
use Rattle.sets.specs.Sums as S
use Rattle.rows.specs.Table.{row_count}
use Rattle.report.specs.Listing.{load, share}
use Rattle.report.proofs.SizeLaws.{load_most}
use Rattle.report.proofs.lines.load.Goals as goal

sum_range : (n : ℕ) (f : ℕ → ℕ) → sum (map f (range_with_len 0 n)) ≡ S.sum n f
sum_range zero f = refl
sum_range (suc n) f =
    (rw add-one at (sum_by-map-range_with_len_more (λ x. x) f 0 n n (zero-add n))) ∙ ap (λ k. k + f n) (sum_range n f)

pub sum-requires-clause-fits : goal.sum-requires-clause-fits
unfolding load
sum-requires-clause-fits c =
    let words = c.args.words.now in
    let n = row_count words in
    fits_from_yields_list c.map.result _ (YieldsList-from_map _ (share words) (YieldsList-from_range 0 n n (cc) (omega arith)) c.map.ensures.closure (λ x r q k. search (rules, tests)))
    (rw sum_range (omega (arith, load_most words)))

pub returns : goal.returns
unfolding load
returns c =
    let words = c.args.words.now in
    let n = row_count words in
    sum_from_yields_List c.map.result _ c.sum.ensures.ran (YieldsList-from_map _ (share words) (YieldsList-from_range 0 n n (cc) (omega arith)) c.map.ensures.closure (λ x r q k. search (rules, tests)))
    ∙ sum_range n (share words)
