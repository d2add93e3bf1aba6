-- Laws of two numbers, of runs, of tests of all numbers, of the sum and the check, and of numbers as bytes, in this order.
-- Assumes nothing.
use Rattle.std.specs.Prelude.{ℕ, zero, suc, ◌+◌, ◌-◌, ◌*◌, ◌/◌, ◌%◌, ◌^◌, ◌≤◌, ◌<◌, ◌≡◌, refl, ◌⊎◌, Bool, true, false, ◌&&◌, List, [], ◌∷◌, ltb, eqb, length, get_or, take, drop, fold}
use Rattle.std.proofs.Common.{zero-le, ap₂, ◌∙◌, inl, inr, ⊎_elim, arith, le_refl, add-zero, mod-eq_of_lt, div-one, div-lt_iff_lt-mul, pow-suc, mul_comm, zero-lt-suc, eq-or-lt_of_le, le_of_suc-le-suc, mul_assoc, zero-add, suc-add, lt_of_not-le, add-one, lt-ltb, le-ltb, ltb-true, ltb-false, ext_get_or, pow-add, length-drop, length-take-le, get_or-take, get_or-drop}
use Rattle.std.proofs.Math.Arith.{digits_mod, digits_div}
use Rattle.std.proofs.Math.Bool.{and_assoc, and-true}
use Rattle.std.proofs.Math.Decide.{dec_le}
use Rattle.std.proofs.Math.Nat.{zero-div, div-div-eq-div-mul, mul-add-mod_self_right}
use Rattle.std.proofs.Math.Path.{sym, ap}
use Rattle.std.specs.List.{list_all, range_with_len}
use Rattle.std.specs.Simd.{first_chunks}
use Rattle.sets.specs.BoolLaws.{either, and_in, and_left, and_right}
use Rattle.book.specs.Bytes.{byte, big, little, around, sum16, check_of, run, all}
use Rattle.book.specs.Parts.{carried}

-- ---- two numbers

pub side : (a b : ℕ) → (a ≤ b) ⊎ (b < a)
side a b = go (dec_le a b)
  where
    go : Dec (a ≤ b) → (a ≤ b) ⊎ (b < a)
    go (yes l) = inl l
    go (no m) = inr (lt_of_not-le m)

-- ---- runs

pub run_length : (i n : ℕ) (f : ℕ → ℕ) → length (run i n f) ≡ n
unfolding run
run_length i zero f = refl
run_length i (suc n) f = ap suc (run_length (suc i) n f)

pub run_at : (i n : ℕ) (f : ℕ → ℕ) (j : ℕ) → j < n → get_or (run i n f) j 0 ≡ f (i + j)
unfolding run
run_at i zero f j h = absurd (omega arith)
run_at i (suc n) f zero h = ap f (sym (add-zero i))
run_at i (suc n) f (suc j) h = let e : suc i + j ≡ i + suc j = omega arith in run_at (suc i) n f j (omega arith) ∙ ap f e

-- a run is the list that agrees with it
pub run_is : (i n : ℕ) (f : ℕ → ℕ) (l : List ℕ) → length l ≡ n → ((j : ℕ) → j < n → f (i + j) ≡ get_or l j 0) → run i n f ≡ l
run_is i n f l e h =
    ext_get_or 0 (run i n f) l (run_length i n f ∙ sym e)
    (λ j k. let k' : j < n = omega (arith, run_length i n f) in run_at i n f j k' ∙ h j k')

-- a part of a list: its elements, and the run of them
pub part_at : (l : List ℕ) (at n t : ℕ) → t < n → get_or (take n (drop at l)) t 0 ≡ get_or l (at + t) 0
part_at l at n t h = get_or-take n (drop at l) t 0 h ∙ get_or-drop at l t 0

pub run_part : (l : List ℕ) (at n : ℕ) → at + n ≤ length l → take n (drop at l) ≡ run at n (λ i. get_or l i 0)
run_part l at n h =
    sym
    (run_is at n (λ i. get_or l i 0) (take n (drop at l)) (omega (arith, length-take-le n (drop at l), length-drop at l))
    (λ j k. sym (part_at l at n j k)))

-- the numbers of a list's chunks of n
pub chunk_at : (n k : ℕ) (l : List ℕ) (i t : ℕ) → i < k → t < n → get_or (get_or (first_chunks n k l) i []) t 0 ≡ get_or l (n * i + t) 0
chunk_at n zero l i t h m = absurd (omega arith)
chunk_at n (suc k) l zero t h m = let e : t ≡ n * 0 + t = omega arith in get_or-take n l t 0 m ∙ ap (λ (j : ℕ). get_or l j 0) e
chunk_at n (suc k) l (suc i) t h m =
    let e : n + (n * i + t) ≡ n * suc i + t = omega arith in
    chunk_at n k (drop n l) i t (omega arith) m ∙ get_or-drop n l (n * i + t) 0 ∙ ap (λ (j : ℕ). get_or l j 0) e

pub run_three : (f : ℕ → ℕ) (i x y z : ℕ) → x ≡ f (i + 0) → y ≡ f (i + 1) → z ≡ f (i + 2) → x ∷ y ∷ z ∷ [] ≡ run i 3 f
unfolding run
run_three f i x y z p q r =
    let a : i + 1 ≡ suc i = omega arith in
    let b : i + 2 ≡ suc (suc i) = omega arith in
    rw (p, q, r, add-zero i, a, b) refl

-- ---- tests of all numbers below n

pub all_at : (n : ℕ) (p : ℕ → Bool) → all n p ≡ true → (i : ℕ) → i < n → p i ≡ true
all_at zero p h i l = absurd (omega arith)
all_at (suc n) p h i l =
    ⊎_elim (λ (e : i ≡ n). rw e (and_right (all n p) (p n) h))
    (λ (k : i < n). all_at n p (and_left (all n p) (p n) h) i k)
    (eq-or-lt_of_le (le_of_suc-le-suc l))

pub all_make : (n : ℕ) (p : ℕ → Bool) → ((i : ℕ) → i < n → p i ≡ true) → all n p ≡ true
all_make zero p h = refl
all_make (suc n) p h = and_in (all n p) (p n) (all_make n p (λ i l. h i (omega arith))) (h n (le_refl (suc n)))

pub all_fails : (n : ℕ) (p : ℕ → Bool) (i : ℕ) → i < n → p i ≡ false → all n p ≡ false
all_fails n p i l h = go (all n p) refl
  where
    go : (b : Bool) → all n p ≡ b → b ≡ false
    go true e = sym (all_at n p e i l) ∙ h
    go false e = refl

pub all_more : (n : ℕ) (p : ℕ → Bool) → all n p ≡ true → p n ≡ true → all (n + 1) p ≡ true
all_more n p h l = rw (add-one n) (and_in (all n p) (p n) h l)

-- a test that holds below s is a test of what follows
pub all_from : (s m : ℕ) (p g : ℕ → Bool) → ((q : ℕ) → q < s → p q ≡ true) → ((t : ℕ) → t < m → p (s + t) ≡ g t) → all (s + m) p ≡ all m g
all_from s zero p g h k = rw (add-zero s) (all_make s p h)
all_from s (suc m) p g h k =
    let e : s + suc m ≡ suc (s + m) = omega arith in
    rw (e, all_from s m p g h (λ t l. k t (omega arith)), k m (le_refl (suc m))) refl

pub all_ext : (n : ℕ) (p g : ℕ → Bool) → ((i : ℕ) → i < n → p i ≡ g i) → all n p ≡ all n g
all_ext zero p g h = refl
all_ext (suc n) p g h = rw (all_ext n p g (λ i l. h i (omega arith)), h n (le_refl (suc n))) refl

-- the test of 0 apart, and the tests one after the other
all_front : (n : ℕ) (p : ℕ → Bool) → all (suc n) p ≡ p 0 && all n (λ i. p (suc i))
all_front zero p = sym (and-true (p 0))
all_front (suc n) p = ap (λ (b : Bool). b && p (suc n)) (all_front n p) ∙ and_assoc (p 0) (all n (λ i. p (suc i))) (p (suc n))

all_listed : (i n : ℕ) (p : ℕ → Bool) → list_all p (range_with_len i n) ≡ all n (λ t. p (i + t))
all_listed i zero p = refl
all_listed i (suc n) p =
    let each : (t : ℕ) → t < n → p (i + 1 + t) ≡ p (i + suc t) = λ t l. let e : i + 1 + t ≡ i + suc t = omega arith in ap p e in
    rw (all_listed (i + 1) n p, all_ext n _ _ each, all_front n (λ t. p (i + t)), add-zero i) refl

pub all_next : (n : ℕ) (p : ℕ → Bool) → all (suc n) p ≡ p 0 && list_all (λ k. p (k + 1)) (range_with_len 0 n)
all_next n p =
    all_front n p ∙ ap (λ (b : Bool). p 0 && b)
    (all_ext n _ _ (λ i l. let e : suc i ≡ 0 + i + 1 = omega arith in ap p e) ∙ sym (all_listed 0 n (λ k. p (k + 1))))

-- a test of all of a part of a list
pub all_part : (v at n : ℕ) (l : List ℕ) → at + n ≤ length l
    → all (length (take n (drop at l))) (λ t. eqb (get_or (take n (drop at l)) t 0) v) ≡ all n (λ t. eqb (get_or l (at + t) 0) v)
all_part v at n l h =
    rw (length-take-le n (drop at l) (omega (arith, length-drop at l)))
    (all_ext n _ _ (λ t k. ap (λ (x : ℕ). eqb x v) (part_at l at n t k)))

-- numbers joined by a test of each
pub all_joined : (v : ℕ) (xs : List ℕ) (b : Bool) → fold (λ (same : Bool) (x : ℕ). same && eqb x v) b xs ≡ b && all (length xs) (λ t. eqb (get_or xs t 0) v)
all_joined v [] b = sym (and-true b)
all_joined v (x ∷ xs) b =
    all_joined v xs (b && eqb x v) ∙ and_assoc b (eqb x v) (all (length xs) (λ t. eqb (get_or xs t 0) v))
    ∙ ap (λ (a : Bool). b && a) (sym (all_front (length xs) (λ t. eqb (get_or (x ∷ xs) t 0) v)))

-- ---- the sum and the check

sum16_ext : (c : ℕ) (f g : ℕ → ℕ) → ((p : ℕ) → p < 2 * c → f p ≡ g p) → sum16 c f ≡ sum16 c g
unfolding sum16
sum16_ext zero f g h = refl
sum16_ext (suc c) f g h =
    rw (sum16_ext c f g (λ p l. h p (omega arith)), h (2 * c) (omega arith), h (2 * c + 1) (omega arith)) refl

pub carried_some : (s : ℕ) → 0 < s → carried s ≡ 1 + (s - 1) % 65535
unfolding carried
carried_some zero h = absurd (omega arith)
carried_some (suc s) h = let e : suc s - 1 ≡ s = omega arith in rw e refl

around_less : (t : ℕ) → t < 65536 → around t ≡ t
around_less t h = rw (lt-ltb t 65536 h) refl

around_more : (t : ℕ) → 65536 ≤ t → around t ≡ t - 65536 + 1
around_more t h = rw (le-ltb t 65536 h) refl

-- one more word: its carry may be taken around now or with all others
around_carried : (s w : ℕ) → w < 65536 → around (carried s + w) ≡ carried (s + w)
unfolding carried
around_carried zero zero h = refl
around_carried zero (suc w) h =
    let e : 0 + suc w ≡ suc w = omega arith in
    rw e (around_less (suc w) h ∙ omega arith)
around_carried (suc s) w h =
    let t : ℕ = 1 + s % 65535 + w in
    let e : carried (suc s + w) ≡ 1 + (suc s + w - 1) % 65535 = carried_some (suc s + w) (omega arith) in
    ⊎_elim (λ (l : ltb t 65536 ≡ true). let k = ltb-true t 65536 l in around_less t k ∙ omega (arith, e))
    (λ (l : ltb t 65536 ≡ false). let k = ltb-false t 65536 l in around_more t k ∙ omega (arith, e))
    (either (ltb t 65536))

-- a multiple of 65535 leaves nothing
carried_turns : (s k : ℕ) → (s ≡ 0 → k ≡ 0) → carried (s + 65535 * k) ≡ carried s
carried_turns s k h =
    ⊎_elim (λ (e : 0 ≡ s). let a : s + 65535 * k ≡ s = omega (arith, h (sym e)) in ap carried a)
    (λ (l : 0 < s). omega (arith, carried_some s l, carried_some (s + 65535 * k) (omega arith)))
    (eq-or-lt_of_le zero-le)

-- a plain sum and one more word, and 256 times a plain sum and two words more, read as one number low byte first
module _ (f : ℕ → ℕ) (bytes : (p : ℕ) → f p < 256) where
  pub sum16_word : (c s : ℕ) → carried s ≡ sum16 c f → carried (s + (f (2 * c) * 256 + f (2 * c + 1))) ≡ sum16 (suc c) f
  unfolding sum16
  sum16_word c s e =
      let w : ℕ = f (2 * c) * 256 + f (2 * c + 1) in
      sym (around_carried s w (omega (arith, bytes (2 * c), bytes (2 * c + 1)))) ∙ ap (λ (t : ℕ). around (t + w)) e

  pub sum16_pair : (c s : ℕ) → carried (256 * s) ≡ sum16 c f → carried (256 * (s + little 4 (λ t. f (2 * c + t)))) ≡ sum16 (suc (suc c)) f
  sum16_pair c s e =
      let u : ℕ = f (2 * c) * 256 + f (2 * c + 1) in
      let v : ℕ = f (2 * suc c) * 256 + f (2 * suc c + 1) in
      let k : ℕ = f (2 * c + 1) + 256 * f (2 * c + 2) + 65537 * f (2 * c + 3) in
      let same : (i j : ℕ) → i ≡ j → f i ≡ f j = λ i j r. ap f r in
      let a : 256 * (s + little 4 (λ t. f (2 * c + t))) ≡ 256 * s + u + v + 65535 * k =
      omega (arith, same (2 * c + 0) (2 * c) (omega arith), same (2 * suc c) (2 * c + 2) (omega arith), same (2 * suc c + 1) (2 * c + 3) (omega arith))
      in
      let none : 256 * s + u + v ≡ 0 → k ≡ 0 =
      λ z. omega (arith, same (2 * suc c) (2 * c + 2) (omega arith), same (2 * suc c + 1) (2 * c + 3) (omega arith))
      in
      ap carried a ∙ carried_turns (256 * s + u + v) k none ∙ sum16_word (suc c) (256 * s + u) (sum16_word c (256 * s) e)

pub check_ext : (f g : ℕ → ℕ) → ((p : ℕ) → p < 510 → f p ≡ g p) → check_of f ≡ check_of g
unfolding check_of
check_ext f g h = ap (λ (s : ℕ). 0xFFFF - s) (sum16_ext 255 f g h)

pub check_fits : (f : ℕ → ℕ) → check_of f < 65536
unfolding check_of
check_fits f = go (sum16 255 f)
  where
    go : (s : ℕ) → 0xFFFF - s < 65536
    go s = omega arith

-- ---- bytes low byte first

pub little_ext : (k : ℕ) (f g : ℕ → ℕ) → ((j : ℕ) → j < k → f j ≡ g j) → little k f ≡ little k g
little_ext zero f g h = refl
little_ext (suc k) f g h = rw (little_ext k (λ j. f (suc j)) (λ j. g (suc j)) (λ j l. h (suc j) (omega arith)), h 0 (omega arith)) refl

pub little_lt : (k : ℕ) (f : ℕ → ℕ) → ((j : ℕ) → f j < 256) → little k f < 256 ^ k
little_lt zero f h = zero-lt-suc 0
little_lt (suc k) f h = rw (pow-suc 256 k) (omega (arith, little_lt k (λ j. f (suc j)) (λ j. h (suc j)), h 0))

byte_zero : (v : ℕ) → byte 0 v ≡ v % 256
byte_zero v = ap (λ (x : ℕ). x % 256) (div-one v)

byte_suc : (k v : ℕ) → byte (suc k) v ≡ byte k (v / 256)
byte_suc k v = rw (pow-suc 256 k, mul_comm (256 ^ k) 256, ← div-div-eq-div-mul v 256 (256 ^ k)) refl

pub little_byte : (k v : ℕ) → v < 256 ^ k → little k (λ j. byte j v) ≡ v
little_byte zero v h = omega arith
little_byte (suc k) v h =
    let l : v / 256 < 256 ^ k = (div-lt_iff_lt-mul (zero-lt-suc 255)).1 (rw (← pow-suc) h) in
    let e = little_ext k (λ j. byte (suc j) v) (λ j. byte j (v / 256)) (λ j _. byte_suc j v) in
    omega (arith, e, little_byte k (v / 256) l, byte_zero v)

pub byte_little : (k : ℕ) (f : ℕ → ℕ) → ((j : ℕ) → f j < 256) → (i : ℕ) → i < k → byte i (little k f) ≡ f i
byte_little zero f h i l = absurd (omega arith)
byte_little (suc k) f h zero l = byte_zero (little (suc k) f) ∙ digits_mod (little k (λ j. f (suc j))) (h 0)
byte_little (suc k) f h (suc i) l =
    byte_suc i (little (suc k) f) ∙ ap (byte i) (digits_div (little k (λ j. f (suc j))) (h 0))
    ∙ byte_little k (λ j. f (suc j)) (λ j. h (suc j)) i (omega arith)

pub byte_none : (k : ℕ) → byte k 0 ≡ 0
byte_none k = rw zero-div refl

-- ---- bytes high byte first

pub big_ext : (k : ℕ) (f g : ℕ → ℕ) → ((j : ℕ) → j < k → f j ≡ g j) → big k f ≡ big k g
big_ext zero f g h = refl
big_ext (suc k) f g h = rw (big_ext k f g (λ j l. h j (omega arith)), h k (le_refl (suc k))) refl

pub byte_big : (f : ℕ → ℕ) → ((j : ℕ) → f j < 256) → (t : ℕ) → t < 4 → byte (3 - t) (big 4 f) ≡ f t
byte_big f h zero l = omega (arith, h 0, h 1, h 2, h 3)
byte_big f h (suc zero) l = omega (arith, h 0, h 1, h 2, h 3)
byte_big f h (suc (suc zero)) l = omega (arith, h 0, h 1, h 2, h 3)
byte_big f h (suc (suc (suc zero))) l = omega (arith, h 0, h 1, h 2, h 3)
byte_big f h (suc (suc (suc (suc t)))) l = absurd (omega arith)

pub big_two : (v : ℕ) → v < 65536 → big 2 (λ t. byte (1 - t) v) ≡ v
big_two v h = omega arith

pub big_four : (v : ℕ) → v < 2 ^ 32 → big 4 (λ t. byte (3 - t) v) ≡ v
big_four v h =
    let a : v / 16777216 < 256 = omega arith in
    let b : v / 65536 / 256 ≡ v / 16777216 = div-div-eq-div-mul v 65536 256 in
    let c : v / 256 / 256 ≡ v / 65536 = div-div-eq-div-mul v 256 256 in
    let d : v / 16777216 % 256 ≡ v / 16777216 = mod-eq_of_lt a in
    omega arith

-- ---- bytes of words side by side, and by shifts

pub pow_bytes : (k : ℕ) → 256 ^ k ≡ 2 ^ (8 * k)
pow_bytes zero = refl
pow_bytes (suc k) =
    let e : 8 * suc k ≡ 8 * k + 8 = omega arith in
    pow-suc 256 k ∙ ap (λ (x : ℕ). x * 256) (pow_bytes k) ∙ sym (pow-add 2 (8 * k) 8) ∙ ap (λ (x : ℕ). 2 ^ x) (sym e)

joined : (k hi lo : ℕ) → hi * 256 ^ suc k + lo ≡ hi * 256 ^ k * 256 + lo
joined k hi lo = rw (pow-suc 256 k, ← mul_assoc) refl

shifted : (k hi lo : ℕ) → (hi * 256 ^ suc k + lo) / 256 ≡ hi * 256 ^ k + lo / 256
shifted k hi lo = rw (joined k hi lo) (omega arith)

pub byte_low : (k hi lo j : ℕ) → j < k → byte j (hi * 256 ^ k + lo) ≡ byte j lo
byte_low zero hi lo j h = absurd (omega arith)
byte_low (suc k) hi lo zero h =
    byte_zero (hi * 256 ^ suc k + lo) ∙ rw (joined k hi lo) (mul-add-mod_self_right (hi * 256 ^ k) 256 lo) ∙ sym (byte_zero lo)
byte_low (suc k) hi lo (suc j) h =
    byte_suc j (hi * 256 ^ suc k + lo) ∙ ap (byte j) (shifted k hi lo) ∙ byte_low k hi (lo / 256) j (omega arith) ∙ sym (byte_suc j lo)

pub byte_high : (k hi lo j : ℕ) → lo < 256 ^ k → byte (k + j) (hi * 256 ^ k + lo) ≡ byte j hi
byte_high zero hi lo j h = let e : hi * 1 + lo ≡ hi = omega arith in ap₂ byte (zero-add j) e
byte_high (suc k) hi lo j h =
    ap (λ (i : ℕ). byte i (hi * 256 ^ suc k + lo)) (suc-add k j) ∙ byte_suc (k + j) (hi * 256 ^ suc k + lo) ∙ ap (byte (k + j)) (shifted k hi lo)
    ∙ byte_high k hi (lo / 256) j ((div-lt_iff_lt-mul (zero-lt-suc 255)).1 (rw (← pow-suc) h))
