-- Laws of work and interference: longer lengths hold no less work, a period more works C more, the difference is never negative and at most C, both interferences stay below the cap, and what fits which width.
-- Assumes nothing.
use Rattle.std.specs.Prelude.{ℕ, ◌+◌, ◌-◌, ◌*◌, ◌/◌, ◌%◌, ◌^◌, ◌≤◌, ◌<◌, min, ◌≡◌, refl}
use Rattle.std.proofs.Common.{⊎_elim, arith, mul-zero, add-mul, mul-le-mul_right, mul-le-mul_left, eq-or-lt_of_le, div-mul-le_self}
use Rattle.std.proofs.Math.Nat.{add-div_right, add-mod_right, mod-eq-sub-div-mul}
use Rattle.rows.specs.declared.table.Row.{Row}
use Rattle.sets.specs.NumberLaws.{div_mono}
use Rattle.rows.specs.Known.{Ranged}
use Rattle.workload.specs.Workload.{work, cap, plain, carry, extra}

pub work_mono : (i : Row) {x y : ℕ} → x ≤ y → work i x ≤ work i y
unfolding work
work_mono i {x} {y} h =
    ⊎_elim (λ (e : x / i.t ≡ y / i.t). rw e (omega arith)) (λ (l : x / i.t < y / i.t). omega (arith, mul-le-mul_right i.c l))
    (eq-or-lt_of_le (div_mono i.t h))

-- a row without C never works, and takes nothing
pub work_none : (i : Row) (x : ℕ) → i.c ≡ 0 → work i x ≡ 0
unfolding work
work_none i x h = rw (h, mul-zero) (omega arith)

pub plain_none : (k i : Row) → i.c ≡ 0 → plain k i ≡ 0
unfolding plain
plain_none k i h = omega (arith, work_none i k.d h)

pub extra_none : (k i : Row) → i.c ≡ 0 → extra k i ≡ 0
unfolding extra carry
extra_none k i h = omega (arith, work_none i (k.d + (i.d - i.c)) h)

-- in less than a period, and where there is none, a row works up to its C
pub work_short : (i : Row) (x : ℕ) → x / i.t ≡ 0 → work i x ≡ min i.c x
unfolding work
work_short i x h = rw h (omega arith)

-- the last part is what a whole number of periods leaves over
pub work_divided : (i : Row) (x : ℕ) → work i x ≡ x / i.t * i.c + min i.c (x % i.t)
unfolding work
work_divided i x = rw (mod-eq-sub-div-mul x i.t) refl

-- a period more works C more
pub work_period : (i : Row) (x : ℕ) → 0 < i.t → work i (x + i.t) ≡ work i x + i.c
work_period i x h =
    rw (work_divided i (x + i.t), work_divided i x, add-div_right x h, add-mod_right x i.t, add-mul) (omega arith)

-- the difference of carry-in and plain interference is never negative
pub plain_carry : (k i : Row) → plain k i ≤ carry k i
unfolding plain carry
plain_carry k i =
    let l : work i k.d ≤ work i (k.d + (i.d - i.c)) = work_mono i (omega arith) in
    omega arith

pub plain_extra : (k i : Row) → plain k i + extra k i ≡ carry k i
unfolding extra
plain_extra k i = omega (arith, plain_carry k i)

pub carry_cap : (k i : Row) → carry k i ≤ cap k
unfolding carry
carry_cap k i = omega arith

pub plain_cap : (k i : Row) → plain k i ≤ cap k
unfolding plain
plain_cap k i = omega arith

pub extra_cap : (k i : Row) → extra k i ≤ cap k
extra_cap k i = omega (arith, plain_extra k i, carry_cap k i)

-- ---- ranges

-- the carry-in length of a row in range is less than a period longer, so the difference is at most C
pub extra_most : (k i : Row) → Ranged i → extra k i ≤ i.c
unfolding extra carry plain
extra_most k i r =
    omega (
      arith,
      work_mono i {x = k.d + (i.d - i.c)} {y = k.d + i.t} (omega (arith, r.some, r.within, r.constrained)),
      work_period i k.d (omega (arith, r.some, r.within, r.constrained)),
    )

-- a row never works more than the length
pub work_length : (i : Row) (x : ℕ) → i.c ≤ i.t → work i x ≤ x
unfolding work
work_length i x h = omega (arith, mul-le-mul_left (x / i.t) h, div-mul-le_self x i.t)

-- of rows in range the work in either length, the cap and both interferences are small
pub work_small : (k i : Row) → Ranged k → Ranged i → work i (k.d + (i.d - i.c)) ≤ 20_000_000
work_small k i rk ri =
    omega (
      arith,
      work_length i (k.d + (i.d - i.c)) (omega (arith, ri.within, ri.constrained)),
      rk.constrained,
      rk.short,
      ri.constrained,
      ri.short,
    )

pub cap_small : (k : Row) → Ranged k → cap k ≤ 10_000_000
unfolding cap
cap_small k r = omega (arith, r.some, r.within, r.constrained, r.short)

-- of any three words the cap fits 33 bits
pub cap_fits : (k : Row) → k.d < 2 ^ 32 → cap k ≤ 2 ^ 32
unfolding cap
cap_fits k h = omega arith

-- of at most 2 ^ 32 periods the work fits 64 bits, with one period more
pub product_fits : {n c : ℕ} → n ≤ 2 ^ 32 → c < 2 ^ 32 → n * c + c < 2 ^ 64
product_fits {n} {c} h l = omega (arith, mul-le-mul_right c h)

-- more whole periods than `most` already work as much
pub work_most : (i : Row) (x most : ℕ) → 0 < i.c → most < x / i.t → most ≡ min (work i x) most
unfolding work
work_most i x most h l = omega (arith, mul-le-mul_left (x / i.t) h)
