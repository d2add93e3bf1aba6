-- A list whose part from a on is written anew.
use Rattle.std.proofs.Common.{◌≡◌, ℕ, ◌+◌, ◌-◌, ◌≤◌, List, ◌++◌, length, take, drop, replicate, append-nil, sym, ap, ◌∙◌, arith, length-take-le, length-drop}
use Rattle.std.proofs.lemmas.Grind.{common_steps}
use Rattle.std.proofs.lemmas.List.{drop-drop, drop-replicate, take_all}
use Rattle.std.proofs.Math.ListN.{drop_of_length-le}
use borrow.Rule.Slice.PartMut.{put_mid, mid_of}

-- the part reaches to the end
part_is : (a k : ℕ) (xs : List ℕ) → a + k ≡ length xs → mid_of a k xs ≡ drop a xs
part_is a k xs whole = take_all k (drop a xs) (omega (arith, length-drop a xs))

put_is : (a k : ℕ) (xs ys : List ℕ) → a + k ≡ length xs → put_mid a k xs ys ≡ take a xs ++ ys
put_is a k xs ys whole =
    ap (λ rest. take a xs ++ (ys ++ rest)) (drop-drop k a xs ∙ drop_of_length-le xs {i = a + k} (omega arith)) ∙ ap (λ z. take a xs ++ z) (append-nil ys)

pub take_put : (a k : ℕ) (xs ys : List ℕ) → a + k ≡ length xs → take a (put_mid a k xs ys) ≡ take a xs
take_put a k xs ys whole = rw (put_is a k xs ys whole) (grind (arith, common_steps))

pub drop_put : (a k : ℕ) (xs ys : List ℕ) → a + k ≡ length xs → drop a (put_mid a k xs ys) ≡ ys
drop_put a k xs ys whole = rw (put_is a k xs ys whole) (grind (arith, common_steps))

-- what is read to it fits
pub part_fits : (a k n : ℕ) (xs ys : List ℕ) → a + k ≡ length xs → length ys ≡ length (mid_of a k xs) → n ≤ length ys → a + n ≤ length xs
part_fits a k n xs ys whole same fits =
    let e : length (mid_of a k xs) ≡ k = length-take-le k (drop a xs) (omega (arith, length-drop a xs)) in omega arith

-- what is 0 behind both stays 0
pub zeros_behind : (a k n m : ℕ) (xs ys : List ℕ) → a + k ≡ length xs → drop a xs ≡ drop a (replicate m 0) → drop n ys ≡ drop n (mid_of a k xs)
    → drop (a + n) (put_mid a k xs ys) ≡ replicate (m - (a + n)) 0
zeros_behind a k n m xs ys whole before behind =
    sym (drop-drop n a (put_mid a k xs ys)) ∙ ap (drop n) (drop_put a k xs ys whole) ∙ behind ∙ ap (drop n) (part_is a k xs whole ∙ before)
    ∙ drop-drop n a (replicate m 0) ∙ drop-replicate (a + n) m 0
