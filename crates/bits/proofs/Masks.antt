-- Shifts and masks at 64 bits, over width and shift: a mask of w ones keeps the remainder by 2 ^ w, and a number
-- below 2 ^ k shares no bit with one shifted by k, so that `|` is their sum.
use mathlib.Core.Path.{◌≡◌}
use Prim.Native.Nat.{ℕ, ◌+◌, ◌*◌, ◌-◌, ◌%◌, ◌^◌, ◌<◌}
use native.Mathlib.Nat.{mod-eq_of_lt, one-mul}
use lib.Pow.{pow-lt}
use lib.Bits.{bit_and, bit_or, and_mask, or_shifted}

-- 1 << w
pub one_shifted : (w : ℕ) → w < 64 → 1 * 2 ^ w % 2 ^ 64 ≡ 2 ^ w
one_shifted w h = rw one-mul (mod-eq_of_lt (pow-lt h))

-- n & ((1 << w) - 1)
pub and_ones : (n w : ℕ) → w < 64 → bit_and n (1 * 2 ^ w % 2 ^ 64 - 1) ≡ n % 2 ^ w
and_ones n w h = rw (one_shifted w h) (and_mask n w)

-- (high << k) | low
pub or_shifted_low : (k high low : ℕ) → low < 2 ^ k → high * 2 ^ k < 2 ^ 64
    → bit_or (high * 2 ^ k % 2 ^ 64) low ≡ high * 2 ^ k + low
or_shifted_low k high low l h = rw (mod-eq_of_lt h) (or_shifted high k low l)
