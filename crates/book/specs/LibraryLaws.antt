-- The library's words for the bytes of a number are ours, at every width: `big` is its `from_be_bytes`, `little` its `from_le_bytes`,
-- and `byte` gives each byte of its `to_be_bytes` and `to_le_bytes`.
-- Assumes nothing.
use Rattle.std.specs.Prelude.{ℕ, zero, suc, ◌+◌, ◌-◌, ◌*◌, ◌%◌, ◌≤◌, ◌<◌, ◌≡◌, refl, List, length, get_or}
use Rattle.std.proofs.Common.{sym, ap, ◌∙◌, arith, le_refl, pow-suc, mul_assoc, div-one}
use Rattle.std.specs.Int.{Width, w8, w16, w32, w64, w128, byte_len, byte_at, byte_worth, bytes_low_first, bytes_high_first, sum_through, to_be_bytes, to_le_bytes, from_be_bytes, from_le_bytes}
use Rattle.book.specs.Bytes.{byte, big, little, run}
use Rattle.book.specs.ByteLaws.{run_at, little_ext, big_ext}
use Rattle.book.specs.Parts.{stored}
use Rattle.book.specs.PartsLaws.{stored_ext}

-- ---- a number of bytes

worth_more : (i b : ℕ) → byte_worth (suc i) b ≡ byte_worth i b * 256
worth_more zero b = omega arith
worth_more (suc i) b = rw (pow-suc 256 (suc i), ← mul_assoc) refl

sum_scaled : (k : ℕ) (g h : ℕ → ℕ) → ((i : ℕ) → i ≤ k → g i ≡ h i * 256) → sum_through g k ≡ sum_through h k * 256
sum_scaled zero g h e = e 0 (omega arith)
sum_scaled (suc k) g h e = omega (arith, sum_scaled k g h (λ i l. e i (omega arith)), e (suc k) (le_refl (suc k)))

sum_first : (k : ℕ) (g : ℕ → ℕ) → sum_through g (suc k) ≡ sum_through (λ i. g (suc i)) k + g 0
sum_first zero g = omega arith
sum_first (suc k) g = omega (arith, sum_first k g)

big_sum : (k : ℕ) (f : ℕ → ℕ) → sum_through (λ i. byte_worth (k - i) (f i)) k ≡ big (suc k) f
big_sum zero f = omega arith
big_sum (suc k) f =
    let more : (i : ℕ) → i ≤ k → byte_worth (suc k - i) (f i) ≡ byte_worth (k - i) (f i) * 256 =
    λ i l. let e : suc k - i ≡ suc (k - i) = omega arith in ap (λ (j : ℕ). byte_worth j (f i)) e ∙ worth_more (k - i) (f i)
    in
    let last : byte_worth (suc k - suc k) (f (suc k)) ≡ f (suc k) = let z : suc k - suc k ≡ 0 = omega arith in ap (λ (j : ℕ). byte_worth j (f (suc k))) z in
    omega (arith, sum_scaled k (λ i. byte_worth (suc k - i) (f i)) (λ i. byte_worth (k - i) (f i)) more, last, big_sum k f)

little_sum : (k : ℕ) (f : ℕ → ℕ) → sum_through (λ i. byte_worth i (f i)) k ≡ little (suc k) f
little_sum zero f = omega arith
little_sum (suc k) f =
    omega (
      arith,
      sum_first k (λ i. byte_worth i (f i)),
      sum_scaled k (λ i. byte_worth (suc i) (f (suc i))) (λ i. byte_worth i (f (suc i))) (λ i l. worth_more i (f (suc i))),
      little_sum k (λ i. f (suc i)),
    )

some_bytes : (w : Width) → suc (byte_len w - 1) ≡ byte_len w
some_bytes w8 = refl
some_bytes w16 = refl
some_bytes w32 = refl
some_bytes w64 = refl
some_bytes w128 = refl

pub from_big : (w : Width) (bytes : List ℕ) → from_be_bytes w bytes ≡ big (byte_len w) (λ t. get_or bytes t 0)
from_big w bytes = big_sum (byte_len w - 1) (λ t. get_or bytes t 0) ∙ ap (λ (k : ℕ). big k (λ t. get_or bytes t 0)) (some_bytes w)

pub from_little : (w : Width) (bytes : List ℕ) → from_le_bytes w bytes ≡ little (byte_len w) (λ t. get_or bytes t 0)
from_little w bytes = little_sum (byte_len w - 1) (λ t. get_or bytes t 0) ∙ ap (λ (k : ℕ). little k (λ t. get_or bytes t 0)) (some_bytes w)

-- the same of the bytes that stand from `at` on
pub big_at : (w : Width) (at : ℕ) (f : ℕ → ℕ) → from_be_bytes w (run at (byte_len w) f) ≡ big (byte_len w) (λ t. f (at + t))
big_at w at f = from_big w (run at (byte_len w) f) ∙ big_ext (byte_len w) _ _ (run_at at (byte_len w) f)

pub little_at : (w : Width) (at : ℕ) (f : ℕ → ℕ) → from_le_bytes w (run at (byte_len w) f) ≡ little (byte_len w) (λ t. f (at + t))
little_at w at f = from_little w (run at (byte_len w) f) ∙ little_ext (byte_len w) _ _ (run_at at (byte_len w) f)

-- ---- the bytes of a number

byte_same : (k v : ℕ) → byte_at k v ≡ byte k v
byte_same zero v = ap (λ (x : ℕ). x % 256) (sym (div-one v))
byte_same (suc k) v = refl

high_byte : (k v t : ℕ) → t < k → get_or (bytes_high_first k v) t 0 ≡ byte (k - 1 - t) v
high_byte zero v t l = absurd (omega arith)
high_byte (suc k) v zero l = let e : k ≡ suc k - 1 - 0 = omega arith in byte_same k v ∙ ap (λ (i : ℕ). byte i v) e
high_byte (suc k) v (suc t) l =
    let e : k - 1 - t ≡ suc k - 1 - suc t = omega arith in
    high_byte k v t (omega arith) ∙ ap (λ (i : ℕ). byte i v) e

low_byte : (i k v t : ℕ) → t < k → get_or (bytes_low_first i k v) t 0 ≡ byte (i + t) v
low_byte i zero v t l = absurd (omega arith)
low_byte i (suc k) v zero l = let e : i ≡ i + 0 = omega arith in byte_same i v ∙ ap (λ (j : ℕ). byte j v) e
low_byte i (suc k) v (suc t) l =
    let e : suc i + t ≡ i + suc t = omega arith in
    low_byte (suc i) k v t (omega arith) ∙ ap (λ (j : ℕ). byte j v) e

high_length : (k v : ℕ) → length (bytes_high_first k v) ≡ k
high_length zero v = refl
high_length (suc k) v = ap suc (high_length k v)

low_length : (i k v : ℕ) → length (bytes_low_first i k v) ≡ k
low_length i zero v = refl
low_length i (suc k) v = ap suc (low_length (suc i) k v)

pub to_big : (w : Width) (v t : ℕ) → t < byte_len w → get_or (to_be_bytes w v) t 0 ≡ byte (byte_len w - 1 - t) v
to_big w v t l = high_byte (byte_len w) v t l

pub to_little : (w : Width) (v t : ℕ) → t < byte_len w → get_or (to_le_bytes w v) t 0 ≡ byte t v
to_little w v t l = low_byte 0 (byte_len w) v t l ∙ (let e : 0 + t ≡ t = omega arith in ap (λ (j : ℕ). byte j v) e)

-- the same, stored from `at` on
pub stored_big : (w : Width) (at v : ℕ) (out bytes : List ℕ) → bytes ≡ to_be_bytes w v
    → stored at (length bytes) (λ t. get_or bytes t 0) out ≡ stored at (byte_len w) (λ t. byte (byte_len w - 1 - t) v) out
stored_big w at v out bytes e = rw (e, high_length (byte_len w) v) (stored_ext at (byte_len w) _ _ out (to_big w v))

pub stored_little : (w : Width) (at v : ℕ) (out bytes : List ℕ) → bytes ≡ to_le_bytes w v
    → stored at (length bytes) (λ t. get_or bytes t 0) out ≡ stored at (byte_len w) (λ t. byte t v) out
stored_little w at v out bytes e = rw (e, low_length 0 (byte_len w) v) (stored_ext at (byte_len w) _ _ out (to_little w v))
