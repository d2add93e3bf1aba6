-- Laws of text: decimal numbers digit by digit and their size, text written over an output in parts, and what a function that puts text promises.
-- Assumes nothing.
use Rattle.std.specs.Prelude.{ℕ, zero, suc, ◌+◌, ◌*◌, ◌/◌, ◌%◌, ◌^◌, ◌≤◌, ◌<◌, ◌≡◌, refl, true, false, List, [], ◌∷◌, ◌++◌, ltb, length, get_or, take, drop, set}
use Rattle.std.proofs.Common.{sym, ap, ◌∙◌, ⊎_elim, arith, add-one, add-zero, pow-suc, zero-lt-suc, div-lt_iff_lt-mul, length-set, length-append, take-suc, take_all, length-take-le, ltb-true, ltb-false, lt-ltb, le-ltb}
use Rattle.std.proofs.Math.Seq.{set_out}
use Rattle.sets.specs.BoolLaws.{either}
use Rattle.report.specs.Text.{digit, decimal_by, decimal, lines, over}

-- ---- decimal numbers

-- any fuel of at least n will do
enough : (j k n : ℕ) → n ≤ j → n ≤ k → decimal_by j n ≡ decimal_by k n
unfolding decimal_by
enough zero zero n p q = refl
enough zero (suc k) n p q = rw (lt-ltb n 10 (omega arith)) refl
enough (suc j) zero n p q = rw (lt-ltb n 10 (omega arith)) refl
enough (suc j) (suc k) n p q = rw (enough j k (n / 10) (omega arith) (omega arith)) refl

pub decimal_one : (n : ℕ) → n < 10 → decimal n ≡ digit n
unfolding decimal decimal_by
decimal_one zero h = refl
decimal_one (suc n) h = rw (lt-ltb (suc n) 10 h) refl

pub decimal_more : (n : ℕ) → 10 ≤ n → decimal n ≡ decimal (n / 10) ++ digit (n % 10)
unfolding decimal decimal_by
decimal_more zero h = absurd (omega arith)
decimal_more (suc n) h = rw (le-ltb (suc n) 10 h, enough n (suc n / 10) (suc n / 10) (omega arith) (omega arith)) refl

-- a number below 10 ^ k has at most k digits
pub decimal_short : (k n : ℕ) → n < 10 ^ suc k → length (decimal n) ≤ suc k
decimal_short zero n h = rw (decimal_one n h) (omega arith)
decimal_short (suc k) n h =
    ⊎_elim (λ (e : ltb n 10 ≡ true). rw (decimal_one n (ltb-true n 10 e)) (omega arith))
    (λ (e : ltb n 10 ≡ false).
    let rest : n / 10 < 10 ^ suc k = (div-lt_iff_lt-mul (zero-lt-suc 9)).1 (rw (pow-suc 10 (suc k)) at h) in
    rw (decimal_more n (ltb-false n 10 e), length-append) (omega (arith, decimal_short k (n / 10) rest)))
    (either (ltb n 10))

-- ---- lines

pub lines_upto : (i n : ℕ) (f : ℕ → List ℕ) → i ≤ n → length (lines i f) ≤ length (lines n f)
lines_upto i zero f h = let e : i ≡ 0 = omega arith in rw e (omega arith)
lines_upto i (suc n) f h =
    ⊎_elim (λ (e : ltb n i ≡ true). let s : i ≡ suc n = omega (arith, ltb-true n i e) in rw s (omega arith))
    (λ (e : ltb n i ≡ false). omega (arith, lines_upto i n f (ltb-false n i e), length-append (lines n f) (f n)))
    (either (ltb n i))

pub lines_most : (n b : ℕ) (f : ℕ → List ℕ) → ((i : ℕ) → i < n → length (f i) ≤ b) → length (lines n f) ≤ n * b
lines_most zero b f h = omega arith
lines_most (suc n) b f h =
    omega (arith, length-append (lines n f) (f n), lines_most n b f (λ i l. h i (omega arith)), h n (omega arith))

-- ---- text over an output

pub over_length : (out : List ℕ) (at : ℕ) (text : List ℕ) → length (over out at text) ≡ length out
unfolding over
over_length out at [] = refl
over_length out at (x ∷ text) = over_length (set out at x) (suc at) text ∙ length-set out at x

pub over_append : (out : List ℕ) (at : ℕ) (a b : List ℕ) → over (over out at a) (at + length a) b ≡ over out at (a ++ b)
unfolding over
over_append out at [] b = ap (λ (k : ℕ). over out k b) (add-zero at)
over_append out at (x ∷ a) b =
    let e : at + suc (length a) ≡ suc at + length a = omega arith in
    ap (λ (k : ℕ). over (over (set out at x) (suc at) a) k b) e ∙ over_append (set out at x) (suc at) a b

over_cons : (x : ℕ) (out : List ℕ) (at : ℕ) (text : List ℕ) → over (x ∷ out) (suc at) text ≡ x ∷ over out at text
unfolding over
over_cons x out at [] = refl
over_cons x out at (y ∷ text) = over_cons x (set out at y) (suc at) text

over_nothing : (at : ℕ) (text : List ℕ) → over [] at text ≡ []
unfolding over
over_nothing at [] = refl
over_nothing at (x ∷ text) = over_nothing (suc at) text

over_none : (out : List ℕ) → over out 0 [] ≡ out
unfolding over
over_none out = refl

over_next : (y : ℕ) (out : List ℕ) (x : ℕ) (text : List ℕ) → over (y ∷ out) 0 (x ∷ text) ≡ x ∷ over out 0 text
unfolding over
over_next y out x text = over_cons x out 0 text

-- from the start: the text, cut where the output ends, and behind it what was there
pub over_start : (out text : List ℕ) → over out 0 text ≡ take (length out) text ++ drop (length text) out
over_start [] [] = over_nothing 0 []
over_start [] (x ∷ text) = over_nothing 0 (x ∷ text)
over_start (y ∷ out) [] = over_none (y ∷ out)
over_start (y ∷ out) (x ∷ text) = over_next y out x text ∙ ap (λ (o : List ℕ). x ∷ o) (over_start out text)

-- ---- what a function that puts text asks and promises

-- behind the text the position still fits; no listing comes near this
pub record Room (at : ℕ) (text : List ℕ) : Type 0 where
  pub fits : at + length text ≤ 2 ^ 32

-- the text was put from `at` on, and r is where it ends
pub record Puts (out : List ℕ) (at : ℕ) (text after : List ℕ) (r : ℕ) : Type 0 where
  pub end : r ≡ at + length text
  pub bytes : after ≡ over out at text

pub puts_nothing : (out : List ℕ) (at : ℕ) → Puts out at [] out at
unfolding over
puts_nothing out at = record { end = sym (add-zero at); bytes = refl }

-- a byte, before and past the output's end
pub puts_byte : (x : ℕ) (out : List ℕ) (at : ℕ) → Puts out at (x ∷ []) (set out at x) (at + 1)
unfolding over
puts_byte x out at = record { end = refl; bytes = refl }

pub puts_past : (x : ℕ) (out : List ℕ) (at : ℕ) → length out ≤ at → Puts out at (x ∷ []) out (at + 1)
unfolding over
puts_past x out at h = record { end = refl; bytes = sym (set_out out at x h) }

module _ {out : List ℕ} {at : ℕ} {a after : List ℕ} {r : ℕ} (p : Puts out at a after r) where
  pub puts_then : {b last : List ℕ} {s : ℕ} → Puts after r b last s → Puts out at (a ++ b) last s
  puts_then {b} {last} {s} q =
      record {
        end = omega (arith, p.end, q.end, length-append a b);
        bytes = q.bytes ∙ rw (p.bytes, p.end) (over_append out at a b);
      }

  pub puts_length : length after ≡ length out
  puts_length = rw p.bytes (over_length out at a)

  pub room_rest : {b : List ℕ} → Room at (a ++ b) → Room r b
  room_rest {b} h = record { fits = omega (arith, h.fits, p.end, length-append a b) }

pub room_first : {at : ℕ} (a b : List ℕ) → Room at (a ++ b) → Room at a
room_first a b h = record { fits = omega (arith, h.fits, length-append a b) }

-- the next of the lines
module _ {out : List ℕ} {at : ℕ} {after : List ℕ} {r : ℕ} (f : ℕ → List ℕ) (i : ℕ) (p : Puts out at (lines i f) after r) where
  pub room_line : (n : ℕ) → i < n → Room at (lines n f) → Room r (f i)
  room_line n l h = room_rest p (record { fits = omega (arith, h.fits, lines_upto (suc i) n f l) })

  pub puts_line : {last : List ℕ} {s : ℕ} → Puts after r (f i) last s → Puts out at (lines (i + 1) f) last s
  puts_line q = rw add-one (puts_then p q)

-- the next byte of a text
module _ {out : List ℕ} {at : ℕ} {after : List ℕ} {r : ℕ} (text : List ℕ) (i : ℕ) (p : Puts out at (take i text) after r) where
  pub room_next : i < length text → Room at text → Room r (get_or text i 0 ∷ [])
  room_next l h = room_rest p (record { fits = omega (arith, h.fits, length-take-le (suc i) text l, ap length (take-suc text i 0 l)) })

  pub puts_next : i < length text → {last : List ℕ} {s : ℕ} → Puts after r (get_or text i 0 ∷ []) last s → Puts out at (take (i + 1) text) last s
  puts_next l q = rw (add-one, take-suc text i 0 l) (puts_then p q)

  pub puts_whole : length text ≤ i → Puts out at text after r
  puts_whole h = rw (take_all i text h) at p
