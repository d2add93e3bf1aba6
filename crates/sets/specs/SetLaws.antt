-- Laws of bits, of masks, of sets as masks of two words, and of sets as tests of row numbers, in this order.
-- A number is its bits, so a set whose words fit 64 bits is the rows that it has, and each operation is told by the rows of its result.
-- Assumes nothing.
use Rattle.std.specs.Prelude.{ℕ, zero, suc, ◌+◌, ◌*◌, ◌-◌, ◌/◌, ◌%◌, ◌^◌, ◌≤◌, ◌<◌, max, min, ◌≡◌, refl, ◌↔◌, Bool, true, false, cond, not, ◌||◌, ◌&&◌, eqb, ltb}
use Rattle.std.proofs.Common.{zero-le, sym, ap, ap₂, ◌∙◌, ⊎_elim, arith, add-one, add_comm, div-one, mod-lt, zero-lt-suc, add-zero, zero-add, suc-add, pow-suc, one-mul, mul-div_cancel, eq-or-lt_of_le, le_of_suc-le-suc, le_refl, lt_of_lt_of_le, ne_of_lt, pow_mono, pow-add, pow_pos, shr-shr, shr_lt, shl_exact, ltb-true, ltb-false, eqb-true, eq-eqb, ne_eqb, lt-ltb}
use Rattle.std.proofs.Math.Arith.{digits_mod, digits_div, digits_lt, lt-one}
use Rattle.std.proofs.Math.Bool.{and-true, and-false}
use Rattle.std.proofs.Math.Dec.{leb-suc-zero, leb-suc-suc, eqb-zero-suc, eqb-suc-zero, eqb-suc-suc}
use Rattle.std.proofs.Math.Nat.{div-eq_of_lt, mul-mod_left, two-pow-succ}
use Rattle.std.proofs.Math.Path.{fun_ext}
use Rattle.std.proofs.Math.Pow.{pow-lt}
use Rattle.std.proofs.lemmas.Nat.{or_shr, ones_cat}
use Rattle.std.specs.Int.Bits.{bit_or, or_step, block_odd, block_half}
use Rattle.std.specs.Int.Count.{ones, ones_step, count_trailing_zeros, under}
use Rattle.sets.specs.BoolLaws.{either, not_both, and_swap, and_not, not_and}
use Rattle.sets.specs.Sums.{on, sum, count, first}
use Rattle.sets.specs.SumLaws.{count_zero_iff, sum_ext, sum_front, on_le, first_is, first_only}
use Rattle.sets.specs.Sets.{word, bit, has, mask, set_of, without, below, with_row, without_row, size, within}
use Rattle.sets.specs.declared.Set.{Set}

-- ---- digits

digit_zero : (w : ℕ) → w / 2 ^ 0 % 2 ≡ w % 2
digit_zero w = ap (λ (x : ℕ). x % 2) (div-one w)

digit_suc : (w i : ℕ) → w / 2 ^ suc i % 2 ≡ w / 2 / 2 ^ i % 2
digit_suc w i =
    let e : suc i ≡ 1 + i = omega arith in
    ap (λ (x : ℕ). w / 2 ^ x % 2) e ∙ ap (λ (x : ℕ). x % 2) (sym (shr-shr w 1 i))

digit_lt : (w : ℕ) → w % 2 < 2
digit_lt w = mod-lt w (zero-lt-suc 1)

digit_on : (x : ℕ) → x < 2 → on (eqb x 1) 1 ≡ x
digit_on zero h = refl
digit_on (suc zero) h = refl
digit_on (suc (suc x)) h = absurd (omega arith)

digit_max : (x y : ℕ) → x < 2 → y < 2 → eqb (max x y) 1 ≡ eqb x 1 || eqb y 1
digit_max zero zero p q = refl
digit_max zero (suc zero) p q = refl
digit_max (suc zero) zero p q = refl
digit_max (suc zero) (suc zero) p q = refl
digit_max zero (suc (suc y)) p q = absurd (omega arith)
digit_max (suc zero) (suc (suc y)) p q = absurd (omega arith)
digit_max (suc (suc x)) y p q = absurd (omega arith)

digit_or : (x y : ℕ) → bit_or x y % 2 ≡ max (x % 2) (y % 2)
digit_or x y =
    ap (λ (z : ℕ). z % 2) (or_step x y) ∙ digits_mod (bit_or (x / 2) (y / 2)) (omega (arith, digit_lt x, digit_lt y))

half_lt : (w n : ℕ) → w < 2 ^ suc n → w / 2 < 2 ^ n
half_lt w n h = shr_lt n 1 (rw add-one h)

-- ---- bits

-- bit 0 is the lowest digit, and the bits above it are those of the half
pub bit_zero : (w : ℕ) → bit w 0 ≡ eqb (w % 2) 1
unfolding bit
bit_zero w = ap (λ (x : ℕ). eqb x 1) (digit_zero w)

pub bit_suc : (w i : ℕ) → bit w (suc i) ≡ bit (w / 2) i
unfolding bit
bit_suc w i = ap (λ (x : ℕ). eqb x 1) (digit_suc w i)

pub bit_or_lem : (a b i : ℕ) → bit (bit_or a b) i ≡ bit a i || bit b i
unfolding bit
bit_or_lem a b i =
    ap (λ (x : ℕ). eqb (x % 2) 1) (or_shr a b i) ∙ ap (λ (x : ℕ). eqb x 1) (digit_or (a / 2 ^ i) (b / 2 ^ i))
    ∙ digit_max (a / 2 ^ i % 2) (b / 2 ^ i % 2) (digit_lt (a / 2 ^ i)) (digit_lt (b / 2 ^ i))

pub bit_pow : (k i : ℕ) → bit (2 ^ k) i ≡ eqb i k
unfolding bit
bit_pow zero zero = refl
bit_pow zero (suc i) = rw (div-eq_of_lt (pow-lt (zero-lt-suc i)), eqb-suc-zero) refl
bit_pow (suc k) zero = rw (digit_zero, pow-suc, mul-mod_left, eqb-zero-suc k) refl
bit_pow (suc k) (suc i) =
    rw (digit_suc (2 ^ suc k) i, pow-suc, mul-div_cancel (2 ^ k) (zero-lt-suc 1), eqb-suc-suc) (bit_pow k i)

-- of a number in two parts, the bits below n are those of the low part, and those from n on are those of the high part
pub bit_low : (n q r i : ℕ) → i < n → bit (q * 2 ^ n + r) i ≡ bit r i
unfolding bit
bit_low zero q r i h = absurd (omega arith)
bit_low (suc n) q r zero h = simp (digit_zero, block_odd)
bit_low (suc n) q r (suc i) h =
    bit_suc (q * 2 ^ suc n + r) i ∙ ap (λ (x : ℕ). bit x i) (block_half q n r) ∙ bit_low n q (r / 2) i (omega arith)
    ∙ sym (bit_suc r i)

pub bit_high : (n q r j : ℕ) → r < 2 ^ n → bit (q * 2 ^ n + r) (n + j) ≡ bit q j
bit_high zero q r j h = ap₂ bit (omega (arith, lt-one h)) (zero-add j)
bit_high (suc n) q r j h =
    ap (bit (q * 2 ^ suc n + r)) (suc-add n j) ∙ bit_suc (q * 2 ^ suc n + r) (n + j)
    ∙ ap (λ (x : ℕ). bit x (n + j)) (block_half q n r) ∙ bit_high n q (r / 2) j (half_lt r n h)

pub bit_above : (n w i : ℕ) → w < 2 ^ n → n ≤ i → bit w i ≡ false
unfolding bit
bit_above n w i h l = rw (div-eq_of_lt (lt_of_lt_of_le h (pow_mono l))) refl

pub bit_le : (w i : ℕ) → bit w i ≡ true → 2 ^ i ≤ w
bit_le w i h =
    ⊎_elim (λ e. not_both h (bit_above i w i (ltb-true w (2 ^ i) e) (le_refl i))) (ltb-false w (2 ^ i)) (either (ltb w (2 ^ i)))

bit_odd : (w : ℕ) → bit w 0 ≡ true → w % 2 ≡ 1
bit_odd w h = eqb-true (w % 2) 1 (sym (bit_zero w) ∙ h)

-- a bit that is there, taken away
pub bit_sub : (k w i : ℕ) → bit w k ≡ true → bit (w - 2 ^ k) i ≡ bit w i && not (eqb i k)
bit_sub zero w zero h =
    let even : (w - 1) % 2 ≡ 0 = omega (arith, bit_odd w h) in
    rw (bit_zero (w - 1), even, and-false) refl
bit_sub zero w (suc i) h =
    let half : (w - 1) / 2 ≡ w / 2 = omega (arith, bit_odd w h) in
    rw (bit_suc (w - 1) i, half, bit_suc w i, eqb-suc-zero, and-true) refl
bit_sub (suc k) w zero h =
    let same : (w - 2 ^ suc k) % 2 ≡ w % 2 = omega (arith, two-pow-succ k, bit_le w (suc k) h) in
    rw (bit_zero (w - 2 ^ suc k), same, bit_zero w, eqb-zero-suc, and-true) refl
bit_sub (suc k) w (suc i) h =
    let half : (w - 2 ^ suc k) / 2 ≡ w / 2 - 2 ^ k = omega (arith, two-pow-succ k) in
    rw (bit_suc (w - 2 ^ suc k) i, half, bit_suc w i, eqb-suc-suc) (bit_sub k (w / 2) i (sym (bit_suc w k) ∙ h))

-- the number of n ones
pub bit_ones : (n i : ℕ) → bit (2 ^ n - 1) i ≡ ltb i n
bit_ones zero i = bit_above 0 0 i (zero-lt-suc 0) zero-le ∙ sym (leb-suc-zero i)
bit_ones (suc n) zero =
    let odd : (2 ^ suc n - 1) % 2 ≡ 1 = omega (arith, two-pow-succ n, pow_pos n) in
    rw (bit_zero (2 ^ suc n - 1), odd, lt-ltb 0 (suc n) (zero-lt-suc n)) refl
bit_ones (suc n) (suc i) =
    let half : (2 ^ suc n - 1) / 2 ≡ 2 ^ n - 1 = omega (arith, two-pow-succ n) in
    rw (bit_suc (2 ^ suc n - 1) i, half) (bit_ones n i ∙ sym (leb-suc-suc (suc i) n))

on_bit : (w : ℕ) → on (bit w 0) 1 ≡ w % 2
on_bit w = ap (λ (b : Bool). on b 1) (bit_zero w) ∙ digit_on (w % 2) (digit_lt w)

-- numbers with the same bits are one number
pub bits_ext : (n a b : ℕ) → a < 2 ^ n → b < 2 ^ n → ((i : ℕ) → i < n → bit a i ≡ bit b i) → a ≡ b
bits_ext zero a b p q h = lt-one p ∙ sym (lt-one q)
bits_ext (suc n) a b p q h =
    let bits : (i : ℕ) → i < n → bit (a / 2) i ≡ bit (b / 2) i = λ i l. sym (bit_suc a i) ∙ h (suc i) (omega arith) ∙ bit_suc b i in
    let tail = bits_ext n (a / 2) (b / 2) (half_lt a n p) (half_lt b n q) bits in
    let head : a % 2 ≡ b % 2 = sym (on_bit a) ∙ ap (λ (x : Bool). on x 1) (h 0 (omega arith)) ∙ on_bit b in
    omega arith

-- the zeros below the lowest bit from a on lead to it
pub zeros_first : (k w a : ℕ) → a + count_trailing_zeros k (w / 2 ^ a) ≡ first (bit w) k a
unfolding bit count_trailing_zeros
zeros_first zero w a = add-zero a
zeros_first (suc k) w a =
    let half : w / 2 ^ a / 2 ≡ w / 2 ^ suc a = shr-shr w a 1 ∙ ap (λ (x : ℕ). w / 2 ^ x) (add-one a) in
    digit (w / 2 ^ a % 2) (digit_lt (w / 2 ^ a)) (ap (λ (x : ℕ). suc a + count_trailing_zeros k x) half ∙ zeros_first k w (suc a))
  where
    digit : (b : ℕ) → b < 2 → suc a + count_trailing_zeros k (w / 2 ^ a / 2) ≡ first (bit w) k (suc a)
        → a + under b (count_trailing_zeros k (w / 2 ^ a / 2)) ≡ cond (eqb b 1) a (first (bit w) k (suc a))
    digit zero l e = omega (arith, e)
    digit (suc zero) l e = add-zero a
    digit (suc (suc b)) l e = absurd (omega arith)

pub zeros_whole : (k w : ℕ) → count_trailing_zeros k w ≡ first (bit w) k 0
zeros_whole k w = ap (count_trailing_zeros k) (sym (div-one w)) ∙ sym (zero-add (count_trailing_zeros k (w / 2 ^ 0))) ∙ zeros_first k w 0

-- ---- masks

pub mask_suc : (n : ℕ) (p : ℕ → Bool) → mask (suc n) p ≡ on (p n) 1 * 2 ^ n + mask n p
unfolding mask
mask_suc n p = ⊎_elim (λ (e : p n ≡ true). rw e (omega arith)) (λ (e : p n ≡ false). rw e (omega arith)) (either (p n))

pub mask_lt : (n : ℕ) (p : ℕ → Bool) → mask n p < 2 ^ n
unfolding mask
mask_lt zero p = zero-lt-suc 0
mask_lt (suc n) p = omega (arith, mask_lt n p, two-pow-succ n, on_le (p n) (2 ^ n))

bit_on : (b : Bool) → bit (on b 1) 0 ≡ b
unfolding bit
bit_on true = refl
bit_on false = refl

pub mask_bit : (n : ℕ) (p : ℕ → Bool) (i : ℕ) → i < n → bit (mask n p) i ≡ p i
mask_bit zero p i h = absurd (omega arith)
mask_bit (suc n) p i h =
    ap (λ (x : ℕ). bit x i) (mask_suc n p)
    ∙ ⊎_elim
    (λ (e : i ≡ n). rw e (rw add-zero at (bit_high n (on (p n) 1) (mask n p) 0 (mask_lt n p)) ∙ bit_on (p n)))
    (λ (l : i < n). bit_low n (on (p n) 1) (mask n p) i l ∙ mask_bit n p i l)
    (eq-or-lt_of_le (le_of_suc-le-suc h))

pub mask_ext : (n : ℕ) (p q : ℕ → Bool) → ((i : ℕ) → i < n → p i ≡ q i) → mask n p ≡ mask n q
mask_ext n p q h =
    bits_ext n (mask n p) (mask n q) (mask_lt n p) (mask_lt n q) (λ i l. mask_bit n p i l ∙ h i l ∙ sym (mask_bit n q i l))

-- a number is the mask of its bits
pub mask_bits : (n w : ℕ) → w < 2 ^ n → mask n (bit w) ≡ w
mask_bits n w h = bits_ext n (mask n (bit w)) w (mask_lt n (bit w)) h (mask_bit n (bit w))

lt_pow : (w : ℕ) → w < 2 ^ w
lt_pow zero = zero-lt-suc 0
lt_pow (suc w) = omega (arith, lt_pow w, two-pow-succ w)

-- a number with no bit from n on is the mask of the bits below n, and so it is below 2 ^ n
pub mask_whole : (n w : ℕ) → ((i : ℕ) → n ≤ i → bit w i ≡ false) → mask n (bit w) ≡ w
mask_whole n w h =
    let less = mask_lt n (bit w) in
    bits_ext (n + w) (mask n (bit w)) w (lt_of_lt_of_le less (pow_mono (omega arith)))
    (lt_of_lt_of_le (lt_pow w) (pow_mono (omega arith)))
    (λ i l.
    ⊎_elim (λ e. mask_bit n (bit w) i (ltb-true i n e))
    (λ e. let g = ltb-false i n e in bit_above n (mask n (bit w)) i less g ∙ sym (h i g))
    (either (ltb i n)))

pub bits_lt : (n w : ℕ) → ((i : ℕ) → n ≤ i → bit w i ≡ false) → w < 2 ^ n
bits_lt n w h = rw (mask_whole n w h) at (mask_lt n (bit w))

-- the ones of a number are the bits that it has
pub ones_count : (n w : ℕ) → w < 2 ^ n → ones w ≡ count n (bit w)
unfolding ones
ones_count zero w h = ap ones (lt-one h)
ones_count (suc n) w h =
    let tail : count n (λ i. bit w (suc i)) ≡ count n (bit (w / 2)) = ap (count n) (fun_ext (bit_suc w)) in
    omega (arith, ones_step w, sum_front n (λ i. on (bit w i) 1), on_bit w, tail, ones_count n (w / 2) (half_lt w n h))

-- ---- sets as masks

-- both words fit 64 bits
abbrev pub FitsWords : Set → Type 0
FitsWords s = (s.low < 2 ^ 64) × (s.high < 2 ^ 64)

pub word_lt : (s : Set) → FitsWords s → word s < 2 ^ 128
word_lt s f = digits_lt f.1 f.0

pub has_low : (s : Set) (i : ℕ) → i < 64 → has s i ≡ bit s.low i
has_low s i h = bit_low 64 s.high s.low i h

pub has_high : (s : Set) (i : ℕ) → FitsWords s → 64 ≤ i → has s i ≡ bit s.high (i - 64)
has_high s i f h =
    let e : 64 + (i - 64) ≡ i = omega arith in
    rw e at (bit_high 64 s.high s.low (i - 64) f.0)

pub has_above : (s : Set) (i : ℕ) → FitsWords s → 128 ≤ i → has s i ≡ false
has_above s i f h = bit_above 128 (word s) i (word_lt s f) h

pub has_lt : (s : Set) (i : ℕ) → FitsWords s → has s i ≡ true → i < 128
has_lt s i f h = ⊎_elim (ltb-true i 128) (λ e. not_both h (has_above s i f (ltb-false i 128 e))) (either (ltb i 128))

-- the number 2 ^ k as a word of n bits holds it, shifted
pub shl_one : (n k : ℕ) → k < n → 1 * 2 ^ k % 2 ^ n ≡ 2 ^ k
shl_one n k h = shl_exact 1 k n (le_refl 2) (omega arith) ∙ one-mul (2 ^ k)

-- the number 2 ^ k as a part of the high word
pub pow_high : (k : ℕ) → 64 ≤ k → 2 ^ (k - 64) * 2 ^ 64 ≡ 2 ^ k
pow_high k h = let e : k - 64 + 64 ≡ k = omega arith in rw e at (sym (pow-add 2 (k - 64) 64))

-- sets with the same rows are one set
pub has_ext : (s t : Set) → FitsWords s → FitsWords t → ((i : ℕ) → i < 128 → has s i ≡ has t i) → s ≡ t
has_ext s t f g h =
    let e : word s ≡ word t = bits_ext 128 (word s) (word t) (word_lt s f) (word_lt t g) h in
    let low : s.low ≡ t.low = sym (digits_mod s.high f.0) ∙ ap (λ (w : ℕ). w % 2 ^ 64) e ∙ digits_mod t.high g.0 in
    let high : s.high ≡ t.high = sym (digits_div s.high f.0) ∙ ap (λ (w : ℕ). w / 2 ^ 64) e ∙ digits_div t.high g.0 in
    ap₂ (λ (x y : ℕ). record { low = x; high = y }) low high

pub set_of_fits : (p : ℕ → Bool) → FitsWords (set_of p)
unfolding set_of
set_of_fits p = (mask_lt 64 p, mask_lt 64 (λ i. p (64 + i)))

pub has_set_of : (p : ℕ → Bool) (i : ℕ) → i < 128 → has (set_of p) i ≡ p i
unfolding set_of
has_set_of p i h =
    ⊎_elim (λ e. let l = ltb-true i 64 e in has_low (set_of p) i l ∙ mask_bit 64 p i l)
    (λ e.
    let l : 64 ≤ i = ltb-false i 64 e in
    let at : 64 + (i - 64) ≡ i = omega arith in
    has_high (set_of p) i (set_of_fits p) l ∙ mask_bit 64 (λ j. p (64 + j)) (i - 64) (omega arith) ∙ ap p at)
    (either (ltb i 64))

pub has_set_of_above : (p : ℕ → Bool) (i : ℕ) → 128 ≤ i → has (set_of p) i ≡ false
has_set_of_above p i h = has_above (set_of p) i (set_of_fits p) h

-- a set with the rows that p takes is the set of p
pub eq_set_of : (s : Set) (p : ℕ → Bool) → FitsWords s → ((i : ℕ) → i < 128 → has s i ≡ p i) → s ≡ set_of p
eq_set_of s p f h = has_ext s (set_of p) f (set_of_fits p) (λ i l. h i l ∙ sym (has_set_of p i l))

pub set_of_has : (s : Set) → FitsWords s → set_of (has s) ≡ s
set_of_has s f = sym (eq_set_of s (has s) f (λ i l. refl))

pub set_ext : (p q : ℕ → Bool) → ((i : ℕ) → i < 128 → p i ≡ q i) → set_of p ≡ set_of q
set_ext p q h = eq_set_of (set_of p) q (set_of_fits p) (λ i l. has_set_of p i l ∙ h i l)

-- the rows of the sets that the operations give
pub has_below : (n i : ℕ) → i < 128 → has (below n) i ≡ ltb i n
has_below n = has_set_of (λ i. ltb i n)

pub has_with : (s : Set) (k i : ℕ) → i < 128 → has (with_row s k) i ≡ has s i || eqb i k
has_with s k = has_set_of (λ i. has s i || eqb i k)

pub has_without : (s : Set) (k i : ℕ) → i < 128 → has (without_row s k) i ≡ without (has s) k i
has_without s k = has_set_of (without (has s) k)

-- the first row from i on is that of the low word, or else of the high word
pub next_low : (s : Set) (i : ℕ) → first (bit s.low) 64 i < 64 → first (bit s.low) 64 i ≡ first (has s) (128 - i) i
next_low s i h =
    let f = first_is (bit s.low) 64 i in
    let r = first (bit s.low) 64 i in
    first_only (has s) (128 - i) i r
    (record {
      from = f.from;
      to = omega arith;
      before = λ j l q. has_low s j (omega arith) ∙ f.before j l q;
      found = λ q. has_low s r h ∙ f.found (omega (arith, f.from));
    })

-- where there is none from i up to 64 + j it is the first of the high word from j on, and 128 where that has none either
pub next_high : (s : Set) (i j : ℕ) → FitsWords s → i < 128 → i ≤ 64 + j → ((k : ℕ) → i ≤ k → k < 64 + j → has s k ≡ false)
    → min (64 + first (bit s.high) 64 j) 128 ≡ first (has s) (128 - i) i
next_high s i j fits l g none =
    let f = first_is (bit s.high) 64 j in
    let r = first (bit s.high) 64 j in
    let after : (k : ℕ) → 64 + j ≤ k → k < 64 + r → has s k ≡ false =
    λ k p q. has_high s k fits (omega arith) ∙ f.before (k - 64) (omega arith) (omega arith)
    in
    first_only (has s) (128 - i) i (min (64 + r) 128)
    (record {
      from = omega (arith, f.from);
      to = omega arith;
      before = λ k p q. ⊎_elim (λ e. none k p (ltb-true k (64 + j) e)) (λ e. after k (ltb-false k (64 + j) e) (omega arith)) (either (ltb k (64 + j)));
      found = λ q.
          let small : r < 64 = omega arith in
          let row : min (64 + r) 128 ≡ 64 + r = omega arith in
          let high : 64 + r - 64 ≡ r = omega arith in
          rw row (has_high s (64 + r) fits (omega arith) ∙ rw high (f.found (omega (arith, f.from))));
    })

pub size_ones : (s : Set) → FitsWords s → ones s.low + ones s.high ≡ size s
unfolding size
size_ones s f =
    add_comm (ones s.low) (ones s.high) ∙ sym (ones_cat 64 s.high s.low f.0) ∙ ones_count 128 (word s) (word_lt s f)

pub size_zero_iff : (s : Set) → (size s ≡ 0) ↔ ((i : ℕ) → i < 128 → has s i ≡ false)
unfolding size
size_zero_iff s = count_zero_iff 128 (has s)

pub within_iff : (s : Set) (n : ℕ) → (within s n ≡ true) ↔ ((i : ℕ) → n ≤ i → has s i ≡ false)
within_iff s n =
    (λ e i l. bit_above n (word s) i (ltb-true (word s) (2 ^ n) e) l, λ h. lt-ltb (word s) (2 ^ n) (bits_lt n (word s) h))

-- ---- sets as tests

pub without_in : (H : ℕ → Bool) (k i : ℕ) → without H k i ≡ true → (H i ≡ true) × (eqb i k ≡ false)
unfolding without
without_in H k i = and_not (H i) (eqb i k)

pub in_without : (H : ℕ → Bool) (k i : ℕ) → H i ≡ true → eqb i k ≡ false → without H k i ≡ true
unfolding without
in_without H k i = not_and (H i) (eqb i k)

pub without_mono : (H G : ℕ → Bool) (k : ℕ) → ((i : ℕ) → H i ≡ true → G i ≡ true)
    → (i : ℕ) → without H k i ≡ true → without G k i ≡ true
without_mono H G k s i h = let w = without_in H k i h in in_without G k i (s i w.0) w.1

-- without a row that is not there
pub without_absent : (H : ℕ → Bool) (k i : ℕ) → H k ≡ false → without H k i ≡ H i
unfolding without
without_absent H k i h =
    ⊎_elim (λ (e : eqb i k ≡ true). let absent : H i ≡ false = ap H (eqb-true i k e) ∙ h in rw absent refl)
    (λ (e : eqb i k ≡ false). rw (e, and-true) refl)
    (either (eqb i k))

-- what is summed over H without row k has 0 in its place
pub on_without : (H : ℕ → Bool) (k i x : ℕ) → on (without H k i) x ≡ cond (eqb i k) 0 (on (H i) x)
unfolding without
on_without H k i x =
    ⊎_elim (λ (e : eqb i k ≡ true). rw (e, and-false) refl) (λ (e : eqb i k ≡ false). rw (e, and-true) refl) (either (eqb i k))

-- the row itself, and any other
pub without_same : (H : ℕ → Bool) (k : ℕ) → without H k k ≡ false
unfolding without
without_same H k = rw (eq-eqb k k refl, and-false) refl

pub without_other : (H : ℕ → Bool) (k i : ℕ) → (i ≡ k → ⊥) → without H k i ≡ H i
unfolding without
without_other H k i h = rw (ne_eqb i k h, and-true) refl

-- where two sets are alike, and with two rows taken out in either sequence
pub without_at : (H G : ℕ → Bool) (k i : ℕ) → H i ≡ G i → without H k i ≡ without G k i
unfolding without
without_at H G k i e = rw e refl

pub without_swap : (H : ℕ → Bool) (j k i : ℕ) → without (without H j) k i ≡ without (without H k) j i
unfolding without
without_swap H j k i = and_swap (H i) (not (eqb i j)) (not (eqb i k))

-- a sum over a set is that over the set without a row, and the row's own
pub sum_without : (n : ℕ) (H : ℕ → Bool) (k : ℕ) (f : ℕ → ℕ) → k < n → H k ≡ true
    → sum n (λ i. on (without H k i) (f i)) + f k ≡ sum n (λ i. on (H i) (f i))
sum_without zero H k f l h = absurd (omega arith)
sum_without (suc n) H k f l h =
    ⊎_elim
    (λ (e : k ≡ n).
    let rest = sum_ext n (λ i. on (without H k i) (f i)) (λ i. on (H i) (f i)) (λ i q. ap (λ (b : Bool). on b (f i)) (without_other H k i (λ z. ne_of_lt q (z ∙ e)))) in
    let off : on (without H k n) (f n) ≡ 0 = rw (sym e, without_same H k) refl in
    let own : on (H n) (f n) ≡ f k = rw (sym e, h) refl in
    omega (arith, rest, off, own))
    (λ (q : k < n).
    let last : on (without H k n) (f n) ≡ on (H n) (f n) = ap (λ (b : Bool). on b (f n)) (without_other H k n (λ z. ne_of_lt q (sym z))) in
    omega (arith, last, sum_without n H k f q h))
    (eq-or-lt_of_le (le_of_suc-le-suc l))
